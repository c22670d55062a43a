use Rattle.std.specs.Prelude.{if◌then◌else◌, ◌≡◌, ◌<◌, ◌++◌, List, length, take, get_or, slice_get, Some}
use Rattle.std.specs.Option.{option_to_list}
use Rattle.std.proofs.Common.{sym, ◌∙◌, ap, subst, refl, arith}
use Rattle.hg_base.specs.SteadyLaws.{Steady_same}
use Rattle.hg_model.specs.declared.values.Value.{Value}
use Rattle.hg_table.specs.Calls.{none_mine}
use Rattle.hg_exec.specs.Entering.{Enters, MayJoin}
use Rattle.hg_exec.specs.Joins.{form_of, joined_with}
use Rattle.hg_exec.specs.Standing.{entry, Each, IsOpen}
use Rattle.hg_exec.specs.Turning.{IfGoesOn, looks_from}
use Rattle.hg_exec.specs.declared.plan.OpenLoop.{OpenLoop}
use Rattle.hg_plan.specs.declared.plan.TableLoop.{TableLoop}
use Rattle.hg_base.specs.Causes.{HasCause}
use Rattle.hg_exec.proofs.Faults.{entered-any, entered-none, names-read}
use Rattle.hg_exec.proofs.Lookups.{at-some, at-none, given-some}
use Rattle.hg_exec.proofs.Nearing.{closed-nearer, entered-nearer}
use Rattle.hg_exec.proofs.Opening.{each-inside, item-at, item-is}
use Rattle.hg_exec.proofs.Stepping.{Keeps, on-way, top-open, top-stands, closed-work, closed-steps, entered-work, entered-owes, entered-whole, may-join}
use Rattle.hg_exec.proofs.Taking.{on-then, reads-first}
use Rattle.hg_value.specs.Looks.{chosen}
use Rattle.hg_exec.proofs.loops.Loops.step.Goals as goal

pub bounds-statement-depth : goal.bounds-statement-depth
bounds-statement-depth g c =
    let w0 = c.requires.work in
    let tables = c.args.catalog.now.tables in
    let loops = c.args.statement.now.loops.now in
    let f = form_of c.args.statement.now in
    let x = c.args.self.now in
    let outer = c.pop.new.self.items in
    let o = c.in-Some.innermost in
    let stack = c.pop.ensures.items ∙ ap (λ r. outer ++ option_to_list r) c.in-Some.is in
    let inside : length outer < length loops =
    each-inside (IsOpen tables w0.0 f.nodes w0.1.form.places loops x.joined) 0 loops outer o
    (subst (Each (IsOpen tables w0.0 f.nodes w0.1.form.places loops x.joined) 0 loops) stack w0.1.each_open) in
    let d = c.len-depth.ensures.value in
    omega arith

pub reads_whole-whole-requires : goal.reads_whole-whole-requires
reads_whole-whole-requires g c =
    let w0 = c.requires.work in
    let a = g.S.Pages.state c.args.space.now in
    let marks = c.args.stamps.now in
    let tables = c.args.catalog.now.tables in
    let loops = c.args.statement.now.loops.now in
    let f = form_of c.args.statement.now in
    let x = c.args.self.now in
    let outer = c.pop.new.self.items in
    let o = c.in-Some.innermost in
    let l = get_or loops c.len-depth.result c.index-statement-depth.result in
    let stack = c.pop.ensures.items ∙ ap (λ r. outer ++ option_to_list r) c.in-Some.is in
    let inside : length outer < length loops =
    each-inside (IsOpen tables w0.0 f.nodes w0.1.form.places loops x.joined) 0 loops outer o
    (subst (Each (IsOpen tables w0.0 f.nodes w0.1.form.places loops x.joined) 0 loops) stack w0.1.each_open) in
    let at = item-at loops (length outer) c.len-depth.result c.index-statement-depth.result c.len-depth.ensures.value inside c.index-statement-depth.is ∙ ap (λ (t : TableLoop). Some t) c.index-statement-depth.is in
    let p = (top-stands a a marks tables w0.0 f loops x x (Steady_same none_mine a c.requires.out) (record { snapshot = refl; most = refl }) outer o l stack at w0.1).inside in
    p

pub look-requires-clause-inside : goal.look-requires-clause-inside
look-requires-clause-inside g c =
    let w0 = c.requires.work in
    let a = g.S.Pages.state c.args.space.now in
    let marks = c.args.stamps.now in
    let tables = c.args.catalog.now.tables in
    let loops = c.args.statement.now.loops.now in
    let f = form_of c.args.statement.now in
    let x = c.args.self.now in
    let outer = c.pop.new.self.items in
    let o = c.in-Some.innermost in
    let l = get_or loops c.len-depth.result c.index-statement-depth.result in
    let stack = c.pop.ensures.items ∙ ap (λ r. outer ++ option_to_list r) c.in-Some.is in
    let inside : length outer < length loops =
    each-inside (IsOpen tables w0.0 f.nodes w0.1.form.places loops x.joined) 0 loops outer o
    (subst (Each (IsOpen tables w0.0 f.nodes w0.1.form.places loops x.joined) 0 loops) stack w0.1.each_open) in
    let at = item-at loops (length outer) c.len-depth.result c.index-statement-depth.result c.len-depth.ensures.value inside c.index-statement-depth.is ∙ ap (λ (t : TableLoop). Some t) c.index-statement-depth.is in
    let p = (top-stands a a marks tables w0.0 f loops x x (Steady_same none_mine a c.requires.out) (record { snapshot = refl; most = refl }) outer o l stack at w0.1).inside in
    p

pub look-requires-clause-more : goal.look-requires-clause-more
look-requires-clause-more g c =
    let w0 = c.requires.work in
    let a = g.S.Pages.state c.args.space.now in
    let marks = c.args.stamps.now in
    let tables = c.args.catalog.now.tables in
    let loops = c.args.statement.now.loops.now in
    let f = form_of c.args.statement.now in
    let x = c.args.self.now in
    let outer = c.pop.new.self.items in
    let o = c.in-Some.innermost in
    let l = get_or loops c.len-depth.result c.index-statement-depth.result in
    let stack = c.pop.ensures.items ∙ ap (λ r. outer ++ option_to_list r) c.in-Some.is in
    let inside : length outer < length loops =
    each-inside (IsOpen tables w0.0 f.nodes w0.1.form.places loops x.joined) 0 loops outer o
    (subst (Each (IsOpen tables w0.0 f.nodes w0.1.form.places loops x.joined) 0 loops) stack w0.1.each_open) in
    let at = item-at loops (length outer) c.len-depth.result c.index-statement-depth.result c.len-depth.ensures.value inside c.index-statement-depth.is ∙ ap (λ (t : TableLoop). Some t) c.index-statement-depth.is in
    (top-open a a marks tables w0.0 f loops x x (Steady_same none_mine a c.requires.out) (record { snapshot = refl; most = refl }) outer o l stack at w0.1).0.more

pub look-requires-clause-way : goal.look-requires-clause-way
look-requires-clause-way g c =
    let w0 = c.requires.work in
    let a = g.S.Pages.state c.args.space.now in
    let marks = c.args.stamps.now in
    let tables = c.args.catalog.now.tables in
    let loops = c.args.statement.now.loops.now in
    let f = form_of c.args.statement.now in
    let x = c.args.self.now in
    let outer = c.pop.new.self.items in
    let o = c.in-Some.innermost in
    let l = get_or loops c.len-depth.result c.index-statement-depth.result in
    let stack = c.pop.ensures.items ∙ ap (λ r. outer ++ option_to_list r) c.in-Some.is in
    let inside : length outer < length loops =
    each-inside (IsOpen tables w0.0 f.nodes w0.1.form.places loops x.joined) 0 loops outer o
    (subst (Each (IsOpen tables w0.0 f.nodes w0.1.form.places loops x.joined) 0 loops) stack w0.1.each_open) in
    let at = item-at loops (length outer) c.len-depth.result c.index-statement-depth.result c.len-depth.ensures.value inside c.index-statement-depth.is ∙ ap (λ (t : TableLoop). Some t) c.index-statement-depth.is in
    (w0.0, on-way a a marks tables w0.0 f loops x x (Steady_same none_mine a c.requires.out) (record { snapshot = refl; most = refl }) outer o l stack at w0.1)

pub enter-requires-clause-inside : goal.enter-requires-clause-inside
enter-requires-clause-inside g c =
    let w0 = c.requires.work in
    let tables = c.args.catalog.now.tables in
    let loops = c.args.statement.now.loops.now in
    let f = form_of c.args.statement.now in
    let x = c.args.self.now in
    let outer = c.pop.new.self.items in
    let o = c.in-Some.innermost in
    let stack = c.pop.ensures.items ∙ ap (λ r. outer ++ option_to_list r) c.in-Some.is in
    let inside : length outer < length loops =
    each-inside (IsOpen tables w0.0 f.nodes w0.1.form.places loops x.joined) 0 loops outer o
    (subst (Each (IsOpen tables w0.0 f.nodes w0.1.form.places loops x.joined) 0 loops) stack w0.1.each_open) in
    subst (λ os. length os.items < length loops) (sym c.look.ensures.opened) inside

pub enter-requires-clause-joins : goal.enter-requires-clause-joins
enter-requires-clause-joins g c of here =
    let w0 = c.requires.work in
    let a = g.S.Pages.state c.args.space.now in
    let marks = c.args.stamps.now in
    let tables = c.args.catalog.now.tables in
    let loops = c.args.statement.now.loops.now in
    let f = form_of c.args.statement.now in
    let x = c.args.self.now in
    let outer = c.pop.new.self.items in
    let o = c.in-Some.innermost in
    let l = get_or loops c.len-depth.result c.index-statement-depth.result in
    let stack = c.pop.ensures.items ∙ ap (λ r. outer ++ option_to_list r) c.in-Some.is in
    let inside : length outer < length loops =
    each-inside (IsOpen tables w0.0 f.nodes w0.1.form.places loops x.joined) 0 loops outer o
    (subst (Each (IsOpen tables w0.0 f.nodes w0.1.form.places loops x.joined) 0 loops) stack w0.1.each_open) in
    let at = item-at loops (length outer) c.len-depth.result c.index-statement-depth.result c.len-depth.ensures.value inside c.index-statement-depth.is ∙ ap (λ (t : TableLoop). Some t) c.index-statement-depth.is in
    let next = c.in-Ok-Some.found in
    let row = if c.reads_whole-whole.result then c.look.new.self.joined else c.look.new.self.read in
    let said = c.in-Ok-Some.ensures {u = tt} in
    let more = given-some c.in-Ok-Some.field-0 next _ c.in-Ok-Some.field-0-is said.next in
    let front : take next.start c.look.new.self.joined ≡ take next.start x.joined = subst (λ m. take m c.look.new.self.joined ≡ take m x.joined) (sym more.2) c.look.ensures.joined in
    let fits = given-some c.in-Ok-Some.field-0 next _ c.in-Ok-Some.field-0-is said.fits in
    let there : slice_get loops (length outer) ≡ Some of = ap (λ os. slice_get loops (length os.items)) (sym c.look.ensures.opened) ∙ here in
    let same : l ≡ of = item-is loops (length outer) c.len-depth.result c.index-statement-depth.result of c.len-depth.ensures.value inside c.index-statement-depth.is there in
    subst (λ (t : TableLoop). MayJoin f t (take next.start c.look.new.self.joined) row) same
    (subst (λ vs. MayJoin f l vs row) (sym front)
    (may-join a a marks tables w0.0 f loops x x (Steady_same none_mine a c.requires.out) (record { snapshot = refl; most = refl }) outer o l stack at c.rows_fit.ensures.tables row next more.2 fits w0.1))

pub enter-requires-clause-whole : goal.enter-requires-clause-whole
enter-requires-clause-whole g c =
    let w0 = c.requires.work in
    let a = g.S.Pages.state c.args.space.now in
    let marks = c.args.stamps.now in
    let tables = c.args.catalog.now.tables in
    let loops = c.args.statement.now.loops.now in
    let f = form_of c.args.statement.now in
    let x = c.args.self.now in
    let outer = c.pop.new.self.items in
    let o = c.in-Some.innermost in
    let l = get_or loops c.len-depth.result c.index-statement-depth.result in
    let stack = c.pop.ensures.items ∙ ap (λ r. outer ++ option_to_list r) c.in-Some.is in
    let inside : length outer < length loops =
    each-inside (IsOpen tables w0.0 f.nodes w0.1.form.places loops x.joined) 0 loops outer o
    (subst (Each (IsOpen tables w0.0 f.nodes w0.1.form.places loops x.joined) 0 loops) stack w0.1.each_open) in
    let at = item-at loops (length outer) c.len-depth.result c.index-statement-depth.result c.len-depth.ensures.value inside c.index-statement-depth.is ∙ ap (λ (t : TableLoop). Some t) c.index-statement-depth.is in
    let next = c.in-Ok-Some.found in
    let row = if c.reads_whole-whole.result then c.look.new.self.joined else c.look.new.self.read in
    let said = c.in-Ok-Some.ensures {u = tt} in
    let more = given-some c.in-Ok-Some.field-0 next _ c.in-Ok-Some.field-0-is said.next in
    let front : take next.start c.look.new.self.joined ≡ take next.start x.joined = subst (λ m. take m c.look.new.self.joined ≡ take m x.joined) (sym more.2) c.look.ensures.joined in
    let fits = given-some c.in-Ok-Some.field-0 next _ c.in-Ok-Some.field-0-is said.fits in
    on-then c.reads_whole-whole.result _ _ (λ w. (
      w.0,
      λ of here.
          let there : slice_get loops (length outer) ≡ Some of = ap (λ os. slice_get loops (length os.items)) (sym c.look.ensures.opened) ∙ here in
          let same : l ≡ of = item-is loops (length outer) c.len-depth.result c.index-statement-depth.result of c.len-depth.ensures.value inside c.index-statement-depth.is there in
          subst (λ (t : TableLoop). chosen c.look.new.self.joined t.columns.items ≡ c.look.new.self.joined) same w.1,
    ))
    (reads-first c.reads_whole-whole.result c.look.new.self.joined c.look.new.self.read (entry tables l.table).columns l o.start next.start
    c.reads_whole-whole.ensures.first c.reads_whole-whole.ensures.all fits more.2)

pub returns-in-Ok-Some-clause-work : goal.returns-in-Ok-Some-clause-work
returns-in-Ok-Some-clause-work g c pages w =
    let w0 = c.requires.work in
    let a = g.S.Pages.state c.args.space.now in
    let b = g.S.Pages.state c.look.new.space in
    let marks = c.args.stamps.now in
    let tables = c.args.catalog.now.tables in
    let loops = c.args.statement.now.loops.now in
    let f = form_of c.args.statement.now in
    let x = c.args.self.now in
    let outer = c.pop.new.self.items in
    let o = c.in-Some.innermost in
    let l = get_or loops c.len-depth.result c.index-statement-depth.result in
    let stack = c.pop.ensures.items ∙ ap (λ r. outer ++ option_to_list r) c.in-Some.is in
    let inside : length outer < length loops =
    each-inside (IsOpen tables w0.0 f.nodes w0.1.form.places loops x.joined) 0 loops outer o
    (subst (Each (IsOpen tables w0.0 f.nodes w0.1.form.places loops x.joined) 0 loops) stack w0.1.each_open) in
    let at = item-at loops (length outer) c.len-depth.result c.index-statement-depth.result c.len-depth.ensures.value inside c.index-statement-depth.is ∙ ap (λ (t : TableLoop). Some t) c.index-statement-depth.is in
    let y = c.enter.new.self in
    let steady = c.look.ensures.steady in
    let keeps : Keeps x y = record { snapshot = c.enter.ensures.snapshot ∙ c.look.ensures.snapshot; most = c.enter.ensures.most ∙ c.look.ensures.most } in
    let next = c.in-Ok-Some.found in
    let row = if c.reads_whole-whole.result then c.look.new.self.joined else c.look.new.self.read in
    let said = c.in-Ok-Some.ensures {u = tt} in
    let more = given-some c.in-Ok-Some.field-0 next _ c.in-Ok-Some.field-0-is said.next in
    let front : take next.start c.look.new.self.joined ≡ take next.start x.joined = subst (λ m. take m c.look.new.self.joined ≡ take m x.joined) (sym more.2) c.look.ensures.joined in
    let there : slice_get loops (length c.look.new.self.opened.items) ≡ Some l = ap (λ os. slice_get loops (length os.items)) c.look.ensures.opened ∙ at in
    let same = c.enter.ensures.joined l there ∙ ap (λ vs. joined_with l vs row) front in
    let fits = given-some c.in-Ok-Some.field-0 next _ c.in-Ok-Some.field-0-is said.fits in
    let entered =
    subst (λ (js : List Value). Enters f loops x.most l outer next js y.opened.items c.enter.result) same
    (subst (λ (os : List OpenLoop). Enters f loops x.most l os next y.joined y.opened.items c.enter.result) (ap (λ os. os.items) c.look.ensures.opened)
    (subst (λ m. Enters f loops m l c.look.new.self.opened.items next y.joined y.opened.items c.enter.result) c.look.ensures.most (c.enter.ensures.enters l there))) in
    entered-work a b marks tables pages f loops x y steady keeps outer o l stack at c.rows_fit.ensures.tables row next more.2 more.1
    (given-some c.in-Ok-Some.field-0 next _ c.in-Ok-Some.field-0-is said.on (pages l.table) (top-stands a b marks tables pages f loops x y steady keeps outer o l stack at w).chain) fits
    (λ left h. at-some c.in-Ok-Some.field-0 next _ _ c.in-Ok-Some.field-0-is (said.finds pages left h)) w same c.enter.result entered

pub returns-in-Ok-Some-clause-owed : goal.returns-in-Ok-Some-clause-owed
returns-in-Ok-Some-clause-owed g c pages left w h =
    let w0 = c.requires.work in
    let a = g.S.Pages.state c.args.space.now in
    let b = g.S.Pages.state c.look.new.space in
    let marks = c.args.stamps.now in
    let tables = c.args.catalog.now.tables in
    let loops = c.args.statement.now.loops.now in
    let f = form_of c.args.statement.now in
    let x = c.args.self.now in
    let outer = c.pop.new.self.items in
    let o = c.in-Some.innermost in
    let l = get_or loops c.len-depth.result c.index-statement-depth.result in
    let stack = c.pop.ensures.items ∙ ap (λ r. outer ++ option_to_list r) c.in-Some.is in
    let inside : length outer < length loops =
    each-inside (IsOpen tables w0.0 f.nodes w0.1.form.places loops x.joined) 0 loops outer o
    (subst (Each (IsOpen tables w0.0 f.nodes w0.1.form.places loops x.joined) 0 loops) stack w0.1.each_open) in
    let at = item-at loops (length outer) c.len-depth.result c.index-statement-depth.result c.len-depth.ensures.value inside c.index-statement-depth.is ∙ ap (λ (t : TableLoop). Some t) c.index-statement-depth.is in
    let y = c.enter.new.self in
    let steady = c.look.ensures.steady in
    let keeps : Keeps x y = record { snapshot = c.enter.ensures.snapshot ∙ c.look.ensures.snapshot; most = c.enter.ensures.most ∙ c.look.ensures.most } in
    let next = c.in-Ok-Some.found in
    let row = if c.reads_whole-whole.result then c.look.new.self.joined else c.look.new.self.read in
    let said = c.in-Ok-Some.ensures {u = tt} in
    let more = given-some c.in-Ok-Some.field-0 next _ c.in-Ok-Some.field-0-is said.next in
    let front : take next.start c.look.new.self.joined ≡ take next.start x.joined = subst (λ m. take m c.look.new.self.joined ≡ take m x.joined) (sym more.2) c.look.ensures.joined in
    let there : slice_get loops (length c.look.new.self.opened.items) ≡ Some l = ap (λ os. slice_get loops (length os.items)) c.look.ensures.opened ∙ at in
    let same = c.enter.ensures.joined l there ∙ ap (λ vs. joined_with l vs row) front in
    let fits = given-some c.in-Ok-Some.field-0 next _ c.in-Ok-Some.field-0-is said.fits in
    let entered =
    subst (λ (js : List Value). Enters f loops x.most l outer next js y.opened.items c.enter.result) same
    (subst (λ (os : List OpenLoop). Enters f loops x.most l os next y.joined y.opened.items c.enter.result) (ap (λ os. os.items) c.look.ensures.opened)
    (subst (λ m. Enters f loops m l c.look.new.self.opened.items next y.joined y.opened.items c.enter.result) c.look.ensures.most (c.enter.ensures.enters l there))) in
    entered-owes a b marks tables pages f loops x y steady keeps outer o l stack at c.rows_fit.ensures.tables row next more.2 more.1
    (given-some c.in-Ok-Some.field-0 next _ c.in-Ok-Some.field-0-is said.on (pages l.table) (top-stands a b marks tables pages f loops x y steady keeps outer o l stack at w).chain) fits
    (λ left h. at-some c.in-Ok-Some.field-0 next _ _ c.in-Ok-Some.field-0-is (said.finds pages left h)) w same c.enter.result entered left h

pub returns-in-Ok-Some-clause-whole : goal.returns-in-Ok-Some-clause-whole
returns-in-Ok-Some-clause-whole g c =
    let w0 = c.requires.work in
    let a = g.S.Pages.state c.args.space.now in
    let b = g.S.Pages.state c.look.new.space in
    let marks = c.args.stamps.now in
    let tables = c.args.catalog.now.tables in
    let loops = c.args.statement.now.loops.now in
    let f = form_of c.args.statement.now in
    let x = c.args.self.now in
    let outer = c.pop.new.self.items in
    let o = c.in-Some.innermost in
    let l = get_or loops c.len-depth.result c.index-statement-depth.result in
    let stack = c.pop.ensures.items ∙ ap (λ r. outer ++ option_to_list r) c.in-Some.is in
    let inside : length outer < length loops =
    each-inside (IsOpen tables w0.0 f.nodes w0.1.form.places loops x.joined) 0 loops outer o
    (subst (Each (IsOpen tables w0.0 f.nodes w0.1.form.places loops x.joined) 0 loops) stack w0.1.each_open) in
    let at = item-at loops (length outer) c.len-depth.result c.index-statement-depth.result c.len-depth.ensures.value inside c.index-statement-depth.is ∙ ap (λ (t : TableLoop). Some t) c.index-statement-depth.is in
    let y = c.enter.new.self in
    let steady = c.look.ensures.steady in
    let keeps : Keeps x y = record { snapshot = c.enter.ensures.snapshot ∙ c.look.ensures.snapshot; most = c.enter.ensures.most ∙ c.look.ensures.most } in
    let next = c.in-Ok-Some.found in
    let row = if c.reads_whole-whole.result then c.look.new.self.joined else c.look.new.self.read in
    let said = c.in-Ok-Some.ensures {u = tt} in
    let more = given-some c.in-Ok-Some.field-0 next _ c.in-Ok-Some.field-0-is said.next in
    let front : take next.start c.look.new.self.joined ≡ take next.start x.joined = subst (λ m. take m c.look.new.self.joined ≡ take m x.joined) (sym more.2) c.look.ensures.joined in
    let there : slice_get loops (length c.look.new.self.opened.items) ≡ Some l = ap (λ os. slice_get loops (length os.items)) c.look.ensures.opened ∙ at in
    let same = c.enter.ensures.joined l there ∙ ap (λ vs. joined_with l vs row) front in
    let fits = given-some c.in-Ok-Some.field-0 next _ c.in-Ok-Some.field-0-is said.fits in
    let entered =
    subst (λ (js : List Value). Enters f loops x.most l outer next js y.opened.items c.enter.result) same
    (subst (λ (os : List OpenLoop). Enters f loops x.most l os next y.joined y.opened.items c.enter.result) (ap (λ os. os.items) c.look.ensures.opened)
    (subst (λ m. Enters f loops m l c.look.new.self.opened.items next y.joined y.opened.items c.enter.result) c.look.ensures.most (c.enter.ensures.enters l there))) in
    entered-whole a b marks tables w0.0 f loops x y steady keeps outer o l stack at c.rows_fit.ensures.tables row next more.2 more.1
    (given-some c.in-Ok-Some.field-0 next _ c.in-Ok-Some.field-0-is said.on (w0.0 l.table) (top-stands a b marks tables w0.0 f loops x y steady keeps outer o l stack at w0.1).chain) fits
    (λ left h. at-some c.in-Ok-Some.field-0 next _ _ c.in-Ok-Some.field-0-is (said.finds w0.0 left h)) w0.1 same c.enter.result entered

pub returns-in-Ok-Some-clause-nearer : goal.returns-in-Ok-Some-clause-nearer
returns-in-Ok-Some-clause-nearer g c =
    let w0 = c.requires.work in
    let a = g.S.Pages.state c.args.space.now in
    let b = g.S.Pages.state c.look.new.space in
    let marks = c.args.stamps.now in
    let tables = c.args.catalog.now.tables in
    let loops = c.args.statement.now.loops.now in
    let f = form_of c.args.statement.now in
    let x = c.args.self.now in
    let outer = c.pop.new.self.items in
    let o = c.in-Some.innermost in
    let l = get_or loops c.len-depth.result c.index-statement-depth.result in
    let stack = c.pop.ensures.items ∙ ap (λ r. outer ++ option_to_list r) c.in-Some.is in
    let inside : length outer < length loops =
    each-inside (IsOpen tables w0.0 f.nodes w0.1.form.places loops x.joined) 0 loops outer o
    (subst (Each (IsOpen tables w0.0 f.nodes w0.1.form.places loops x.joined) 0 loops) stack w0.1.each_open) in
    let at = item-at loops (length outer) c.len-depth.result c.index-statement-depth.result c.len-depth.ensures.value inside c.index-statement-depth.is ∙ ap (λ (t : TableLoop). Some t) c.index-statement-depth.is in
    let y = c.enter.new.self in
    let steady = c.look.ensures.steady in
    let keeps : Keeps x y = record { snapshot = c.enter.ensures.snapshot ∙ c.look.ensures.snapshot; most = c.enter.ensures.most ∙ c.look.ensures.most } in
    let next = c.in-Ok-Some.found in
    let row = if c.reads_whole-whole.result then c.look.new.self.joined else c.look.new.self.read in
    let said = c.in-Ok-Some.ensures {u = tt} in
    let more = given-some c.in-Ok-Some.field-0 next _ c.in-Ok-Some.field-0-is said.next in
    let front : take next.start c.look.new.self.joined ≡ take next.start x.joined = subst (λ m. take m c.look.new.self.joined ≡ take m x.joined) (sym more.2) c.look.ensures.joined in
    let there : slice_get loops (length c.look.new.self.opened.items) ≡ Some l = ap (λ os. slice_get loops (length os.items)) c.look.ensures.opened ∙ at in
    let same = c.enter.ensures.joined l there ∙ ap (λ vs. joined_with l vs row) front in
    let fits = given-some c.in-Ok-Some.field-0 next _ c.in-Ok-Some.field-0-is said.fits in
    let entered =
    subst (λ (js : List Value). Enters f loops x.most l outer next js y.opened.items c.enter.result) same
    (subst (λ (os : List OpenLoop). Enters f loops x.most l os next y.joined y.opened.items c.enter.result) (ap (λ os. os.items) c.look.ensures.opened)
    (subst (λ m. Enters f loops m l c.look.new.self.opened.items next y.joined y.opened.items c.enter.result) c.look.ensures.most (c.enter.ensures.enters l there))) in
    subst (λ m. IfGoesOn c.enter.result (looks_from m loops y.opened.items < looks_from x.most loops x.opened.items)) (sym keeps.most)
    (subst (λ os. IfGoesOn c.enter.result (looks_from x.most loops y.opened.items < looks_from x.most loops os)) (sym stack)
    (entered-nearer x.most loops outer o l at next more.0 f _ y.opened.items c.enter.result entered))

pub returns-in-Ok-None-clause-work : goal.returns-in-Ok-None-clause-work
returns-in-Ok-None-clause-work g c pages w =
    let w0 = c.requires.work in
    let a = g.S.Pages.state c.args.space.now in
    let b = g.S.Pages.state c.look.new.space in
    let marks = c.args.stamps.now in
    let tables = c.args.catalog.now.tables in
    let loops = c.args.statement.now.loops.now in
    let f = form_of c.args.statement.now in
    let x = c.args.self.now in
    let outer = c.pop.new.self.items in
    let o = c.in-Some.innermost in
    let l = get_or loops c.len-depth.result c.index-statement-depth.result in
    let stack = c.pop.ensures.items ∙ ap (λ r. outer ++ option_to_list r) c.in-Some.is in
    let inside : length outer < length loops =
    each-inside (IsOpen tables w0.0 f.nodes w0.1.form.places loops x.joined) 0 loops outer o
    (subst (Each (IsOpen tables w0.0 f.nodes w0.1.form.places loops x.joined) 0 loops) stack w0.1.each_open) in
    let at = item-at loops (length outer) c.len-depth.result c.index-statement-depth.result c.len-depth.ensures.value inside c.index-statement-depth.is ∙ ap (λ (t : TableLoop). Some t) c.index-statement-depth.is in
    let y = c.look.new.self in
    let steady = c.look.ensures.steady in
    let keeps : Keeps x y = record { snapshot = c.look.ensures.snapshot; most = c.look.ensures.most } in
    let closed : y.opened.items ≡ outer = ap (λ os. os.items) c.look.ensures.opened in
    let said = c.in-Ok-None.ensures {u = tt} in
    closed-work a b marks tables pages f loops x y steady keeps outer o l stack at closed (said.unseen c.in-Ok-None.field-0-is)
    (λ left h. at-none c.in-Ok-None.field-0 _ _ c.in-Ok-None.field-0-is (said.finds pages left h)) w

pub returns-in-Ok-None-clause-owed : goal.returns-in-Ok-None-clause-owed
returns-in-Ok-None-clause-owed g c pages left w h =
    let w0 = c.requires.work in
    let a = g.S.Pages.state c.args.space.now in
    let b = g.S.Pages.state c.look.new.space in
    let marks = c.args.stamps.now in
    let tables = c.args.catalog.now.tables in
    let loops = c.args.statement.now.loops.now in
    let f = form_of c.args.statement.now in
    let x = c.args.self.now in
    let outer = c.pop.new.self.items in
    let o = c.in-Some.innermost in
    let l = get_or loops c.len-depth.result c.index-statement-depth.result in
    let stack = c.pop.ensures.items ∙ ap (λ r. outer ++ option_to_list r) c.in-Some.is in
    let inside : length outer < length loops =
    each-inside (IsOpen tables w0.0 f.nodes w0.1.form.places loops x.joined) 0 loops outer o
    (subst (Each (IsOpen tables w0.0 f.nodes w0.1.form.places loops x.joined) 0 loops) stack w0.1.each_open) in
    let at = item-at loops (length outer) c.len-depth.result c.index-statement-depth.result c.len-depth.ensures.value inside c.index-statement-depth.is ∙ ap (λ (t : TableLoop). Some t) c.index-statement-depth.is in
    let y = c.look.new.self in
    let steady = c.look.ensures.steady in
    let keeps : Keeps x y = record { snapshot = c.look.ensures.snapshot; most = c.look.ensures.most } in
    let closed : y.opened.items ≡ outer = ap (λ os. os.items) c.look.ensures.opened in
    let said = c.in-Ok-None.ensures {u = tt} in
    closed-steps a b marks tables pages f loops x y steady keeps outer o l stack at closed (said.unseen c.in-Ok-None.field-0-is)
    (λ left h. at-none c.in-Ok-None.field-0 _ _ c.in-Ok-None.field-0-is (said.finds pages left h)) w left h

pub returns-in-Ok-None-clause-nearer : goal.returns-in-Ok-None-clause-nearer
returns-in-Ok-None-clause-nearer g c =
    let w0 = c.requires.work in
    let a = g.S.Pages.state c.args.space.now in
    let b = g.S.Pages.state c.look.new.space in
    let marks = c.args.stamps.now in
    let tables = c.args.catalog.now.tables in
    let loops = c.args.statement.now.loops.now in
    let f = form_of c.args.statement.now in
    let x = c.args.self.now in
    let outer = c.pop.new.self.items in
    let o = c.in-Some.innermost in
    let l = get_or loops c.len-depth.result c.index-statement-depth.result in
    let stack = c.pop.ensures.items ∙ ap (λ r. outer ++ option_to_list r) c.in-Some.is in
    let inside : length outer < length loops =
    each-inside (IsOpen tables w0.0 f.nodes w0.1.form.places loops x.joined) 0 loops outer o
    (subst (Each (IsOpen tables w0.0 f.nodes w0.1.form.places loops x.joined) 0 loops) stack w0.1.each_open) in
    let at = item-at loops (length outer) c.len-depth.result c.index-statement-depth.result c.len-depth.ensures.value inside c.index-statement-depth.is ∙ ap (λ (t : TableLoop). Some t) c.index-statement-depth.is in
    let y = c.look.new.self in
    let steady = c.look.ensures.steady in
    let keeps : Keeps x y = record { snapshot = c.look.ensures.snapshot; most = c.look.ensures.most } in
    let closed : y.opened.items ≡ outer = ap (λ os. os.items) c.look.ensures.opened in
    let said = c.in-Ok-None.ensures {u = tt} in
    subst (λ m. looks_from m loops y.opened.items < looks_from x.most loops x.opened.items) (sym keeps.most)
    (subst (λ os. looks_from x.most loops os < looks_from x.most loops x.opened.items) (sym closed)
    (subst (λ os. looks_from x.most loops outer < looks_from x.most loops os) (sym stack)
    (closed-nearer x.most loops outer o l at (top-open a b marks tables w0.0 f loops x y steady keeps outer o l stack at w0.1).0.more)))

pub returns-in-Ok-Some-clause-cause : goal.returns-in-Ok-Some-clause-cause
returns-in-Ok-Some-clause-cause g c =
    let w0 = c.requires.work in
    let a = g.S.Pages.state c.args.space.now in
    let b = g.S.Pages.state c.look.new.space in
    let marks = c.args.stamps.now in
    let tables = c.args.catalog.now.tables in
    let loops = c.args.statement.now.loops.now in
    let f = form_of c.args.statement.now in
    let x = c.args.self.now in
    let outer = c.pop.new.self.items in
    let o = c.in-Some.innermost in
    let l = get_or loops c.len-depth.result c.index-statement-depth.result in
    let stack = c.pop.ensures.items ∙ ap (λ r. outer ++ option_to_list r) c.in-Some.is in
    let inside : length outer < length loops =
    each-inside (IsOpen tables w0.0 f.nodes w0.1.form.places loops x.joined) 0 loops outer o
    (subst (Each (IsOpen tables w0.0 f.nodes w0.1.form.places loops x.joined) 0 loops) stack w0.1.each_open) in
    let at = item-at loops (length outer) c.len-depth.result c.index-statement-depth.result c.len-depth.ensures.value inside c.index-statement-depth.is ∙ ap (λ (t : TableLoop). Some t) c.index-statement-depth.is in
    let y = c.enter.new.self in
    let steady = c.look.ensures.steady in
    let keeps : Keeps x y = record { snapshot = c.enter.ensures.snapshot ∙ c.look.ensures.snapshot; most = c.enter.ensures.most ∙ c.look.ensures.most } in
    let next = c.in-Ok-Some.found in
    let row = if c.reads_whole-whole.result then c.look.new.self.joined else c.look.new.self.read in
    let said = c.in-Ok-Some.ensures {u = tt} in
    let more = given-some c.in-Ok-Some.field-0 next _ c.in-Ok-Some.field-0-is said.next in
    let front : take next.start c.look.new.self.joined ≡ take next.start x.joined = subst (λ m. take m c.look.new.self.joined ≡ take m x.joined) (sym more.2) c.look.ensures.joined in
    let there : slice_get loops (length c.look.new.self.opened.items) ≡ Some l = ap (λ os. slice_get loops (length os.items)) c.look.ensures.opened ∙ at in
    let same = c.enter.ensures.joined l there ∙ ap (λ vs. joined_with l vs row) front in
    let fits = given-some c.in-Ok-Some.field-0 next _ c.in-Ok-Some.field-0-is said.fits in
    let entered =
    subst (λ (js : List Value). Enters f loops x.most l outer next js y.opened.items c.enter.result) same
    (subst (λ (os : List OpenLoop). Enters f loops x.most l os next y.joined y.opened.items c.enter.result) (ap (λ os. os.items) c.look.ensures.opened)
    (subst (λ m. Enters f loops m l c.look.new.self.opened.items next y.joined y.opened.items c.enter.result) c.look.ensures.most (c.enter.ensures.enters l there))) in
    subst (λ e. HasCause a b e) (sym (entered-none f loops x.most l outer next _ y.opened.items c.enter.result entered)) said.cause

pub returns-in-Ok-Some-clause-check : goal.returns-in-Ok-Some-clause-check
returns-in-Ok-Some-clause-check g c =
    let w0 = c.requires.work in
    let a = g.S.Pages.state c.args.space.now in
    let b = g.S.Pages.state c.look.new.space in
    let marks = c.args.stamps.now in
    let tables = c.args.catalog.now.tables in
    let loops = c.args.statement.now.loops.now in
    let f = form_of c.args.statement.now in
    let x = c.args.self.now in
    let outer = c.pop.new.self.items in
    let o = c.in-Some.innermost in
    let l = get_or loops c.len-depth.result c.index-statement-depth.result in
    let stack = c.pop.ensures.items ∙ ap (λ r. outer ++ option_to_list r) c.in-Some.is in
    let inside : length outer < length loops =
    each-inside (IsOpen tables w0.0 f.nodes w0.1.form.places loops x.joined) 0 loops outer o
    (subst (Each (IsOpen tables w0.0 f.nodes w0.1.form.places loops x.joined) 0 loops) stack w0.1.each_open) in
    let at = item-at loops (length outer) c.len-depth.result c.index-statement-depth.result c.len-depth.ensures.value inside c.index-statement-depth.is ∙ ap (λ (t : TableLoop). Some t) c.index-statement-depth.is in
    let y = c.enter.new.self in
    let steady = c.look.ensures.steady in
    let keeps : Keeps x y = record { snapshot = c.enter.ensures.snapshot ∙ c.look.ensures.snapshot; most = c.enter.ensures.most ∙ c.look.ensures.most } in
    let next = c.in-Ok-Some.found in
    let row = if c.reads_whole-whole.result then c.look.new.self.joined else c.look.new.self.read in
    let said = c.in-Ok-Some.ensures {u = tt} in
    let more = given-some c.in-Ok-Some.field-0 next _ c.in-Ok-Some.field-0-is said.next in
    let front : take next.start c.look.new.self.joined ≡ take next.start x.joined = subst (λ m. take m c.look.new.self.joined ≡ take m x.joined) (sym more.2) c.look.ensures.joined in
    let there : slice_get loops (length c.look.new.self.opened.items) ≡ Some l = ap (λ os. slice_get loops (length os.items)) c.look.ensures.opened ∙ at in
    let same = c.enter.ensures.joined l there ∙ ap (λ vs. joined_with l vs row) front in
    let fits = given-some c.in-Ok-Some.field-0 next _ c.in-Ok-Some.field-0-is said.fits in
    let entered =
    subst (λ (js : List Value). Enters f loops x.most l outer next js y.opened.items c.enter.result) same
    (subst (λ (os : List OpenLoop). Enters f loops x.most l os next y.joined y.opened.items c.enter.result) (ap (λ os. os.items) c.look.ensures.opened)
    (subst (λ m. Enters f loops m l c.look.new.self.opened.items next y.joined y.opened.items c.enter.result) c.look.ensures.most (c.enter.ensures.enters l there))) in
    entered-any _ f loops x.most l outer next _ y.opened.items c.enter.result entered

pub returns-in-Ok-Some-clause-page : goal.returns-in-Ok-Some-clause-page
returns-in-Ok-Some-clause-page g c pages w =
    let w0 = c.requires.work in
    let a = g.S.Pages.state c.args.space.now in
    let b = g.S.Pages.state c.look.new.space in
    let marks = c.args.stamps.now in
    let tables = c.args.catalog.now.tables in
    let loops = c.args.statement.now.loops.now in
    let f = form_of c.args.statement.now in
    let x = c.args.self.now in
    let outer = c.pop.new.self.items in
    let o = c.in-Some.innermost in
    let l = get_or loops c.len-depth.result c.index-statement-depth.result in
    let stack = c.pop.ensures.items ∙ ap (λ r. outer ++ option_to_list r) c.in-Some.is in
    let inside : length outer < length loops =
    each-inside (IsOpen tables w0.0 f.nodes w0.1.form.places loops x.joined) 0 loops outer o
    (subst (Each (IsOpen tables w0.0 f.nodes w0.1.form.places loops x.joined) 0 loops) stack w0.1.each_open) in
    let at = item-at loops (length outer) c.len-depth.result c.index-statement-depth.result c.len-depth.ensures.value inside c.index-statement-depth.is ∙ ap (λ (t : TableLoop). Some t) c.index-statement-depth.is in
    let y = c.enter.new.self in
    let steady = c.look.ensures.steady in
    let keeps : Keeps x y = record { snapshot = c.enter.ensures.snapshot ∙ c.look.ensures.snapshot; most = c.enter.ensures.most ∙ c.look.ensures.most } in
    let next = c.in-Ok-Some.found in
    let row = if c.reads_whole-whole.result then c.look.new.self.joined else c.look.new.self.read in
    let said = c.in-Ok-Some.ensures {u = tt} in
    let more = given-some c.in-Ok-Some.field-0 next _ c.in-Ok-Some.field-0-is said.next in
    let front : take next.start c.look.new.self.joined ≡ take next.start x.joined = subst (λ m. take m c.look.new.self.joined ≡ take m x.joined) (sym more.2) c.look.ensures.joined in
    let there : slice_get loops (length c.look.new.self.opened.items) ≡ Some l = ap (λ os. slice_get loops (length os.items)) c.look.ensures.opened ∙ at in
    let same = c.enter.ensures.joined l there ∙ ap (λ vs. joined_with l vs row) front in
    let fits = given-some c.in-Ok-Some.field-0 next _ c.in-Ok-Some.field-0-is said.fits in
    let entered =
    subst (λ (js : List Value). Enters f loops x.most l outer next js y.opened.items c.enter.result) same
    (subst (λ (os : List OpenLoop). Enters f loops x.most l os next y.joined y.opened.items c.enter.result) (ap (λ os. os.items) c.look.ensures.opened)
    (subst (λ m. Enters f loops m l c.look.new.self.opened.items next y.joined y.opened.items c.enter.result) c.look.ensures.most (c.enter.ensures.enters l there))) in
    entered-any _ f loops x.most l outer next _ y.opened.items c.enter.result entered

pub returns-in-Err-clause-page : goal.returns-in-Err-clause-page
returns-in-Err-clause-page g c pages w =
    let w0 = c.requires.work in
    let a = g.S.Pages.state c.args.space.now in
    let marks = c.args.stamps.now in
    let tables = c.args.catalog.now.tables in
    let loops = c.args.statement.now.loops.now in
    let f = form_of c.args.statement.now in
    let x = c.args.self.now in
    let outer = c.pop.new.self.items in
    let o = c.in-Some.innermost in
    let l = get_or loops c.len-depth.result c.index-statement-depth.result in
    let stack = c.pop.ensures.items ∙ ap (λ r. outer ++ option_to_list r) c.in-Some.is in
    let inside : length outer < length loops =
    each-inside (IsOpen tables w0.0 f.nodes w0.1.form.places loops x.joined) 0 loops outer o
    (subst (Each (IsOpen tables w0.0 f.nodes w0.1.form.places loops x.joined) 0 loops) stack w0.1.each_open) in
    let at = item-at loops (length outer) c.len-depth.result c.index-statement-depth.result c.len-depth.ensures.value inside c.index-statement-depth.is ∙ ap (λ (t : TableLoop). Some t) c.index-statement-depth.is in
    names-read pages loops (length outer) l at c.in-Err.fault ((c.in-Err.ensures {u = tt}).page (pages l.table) (top-stands a a marks tables pages f loops x x (Steady_same none_mine a c.requires.out) (record { snapshot = refl; most = refl }) outer o l stack at w).chain)
