use Rattle.std.proofs.Common.{◌≡◌, [], ◌∷◌, ◌||◌, ◌∙◌, ◌<◌, ◌^◌, ℕ, Option, List, Some, refl, sym, ap, subst, slice_get}
use Rattle.hg_base.specs.SteadyLaws.{Later_same}
use Rattle.hg_base.specs.declared.pages.PageFault.{PageFault}
use Rattle.hg_bind.specs.Bound.{error_of}
use Rattle.hg_catalog.specs.Contents.{Contents, CatalogTable}
use Rattle.hg_dml.specs.Inserting.{PutsAll, PutsPart, IsCause}
use Rattle.hg_dml.specs.Rows.{Tells, rows_cause, rows_of_tuples}
use Rattle.hg_machine.specs.Plain.Refused.{refusal_line}
use Rattle.hg_machine.specs.Plain.Replies.{rows}
use Rattle.hg_model.specs.Refusal.{StampsUsedUp}
use Rattle.hg_model.specs.declared.trees.Column.{Column}
use Rattle.hg_reply.specs.Asked.{insert_at}
use Rattle.hg_reply.specs.Steps.{BeginsSo}
use Rattle.hg_table.specs.Marks.{last, Draws}
use Rattle.hg_engine.specs.Stepping.{StepsTo, CountedIn, line_of}
use Rattle.hg_model.specs.Statements.{InsertRows}
use Rattle.hg_engine.proofs.ChangeLaws.{stands-at, stands-over, at-fault, at-refused}
use Rattle.hg_engine.proofs.InsertLaws.{insert-misfit, insert-late, insert-done, insert-faulted, insert-against, done-same, part-same, part-counted, part-found}
use Rattle.hg_engine.proofs.Lookups.{mapped-some}
use Rattle.hg_engine.proofs.NewTables.{some-mapped}
use Rattle.hg_engine.proofs.StandLaws.{some-one}
use Rattle.hg_engine.proofs.Saying.{tells-one, counted-plain, refusal-quiet, sound-refusal, sound-line, error-of-fault}
use Rattle.hg_engine.proofs.tables.Tables.insert.Goals as goal

pub returns-in-Err-clause-step : goal.returns-in-Err-clause-step
returns-in-Err-clause-step g c =
    let a = g.S.Pages.state c.args.space.now in
    let old = c.args.self.now in
    let i = insert_at c.args.insert.now in
    let r = some-mapped error_of _ _ (c.in-Err.ensures {u = tt}).err in (
      refusal_line r.0 ∷ [],
      tells-one c.args.reply.now c.say_refusal.new.reply (refusal_line r.0) c.requires.empty c.requires.no_error (c.say_refusal.ensures.text r.0 r.2) c.say_refusal.ensures.errors,
      counted-plain a a (refusal_line r.0) (Later_same a.counts) (refusal-quiet r.0),
      insert-misfit a old c.place.new.self i c.args.texts.now c.requires.idle c.place.ensures.open c.place.ensures.max c.place.ensures.mpl c.place.ensures.catalog c.place.ensures.stamps r.0 r.1,
      sound-refusal _ r.0,
    )

pub returns-in_default-clause-step : goal.returns-in_default-clause-step
returns-in_default-clause-step g c =
    let a = g.S.Pages.state c.args.space.now in
    let old = c.args.self.now in
    let i = insert_at c.args.insert.now in
    let drawn = (c.in_default.ensures {u = tt}).drawn in
    let p = c.place.ensures in
    let d = c.draw.ensures in (
      refusal_line StampsUsedUp ∷ [],
      tells-one c.args.reply.now c.say.new.self (refusal_line StampsUsedUp) c.requires.empty c.requires.no_error c.say.ensures.text c.say.ensures.errors,
      counted-plain a a (refusal_line StampsUsedUp) (Later_same a.counts) (refusal-quiet StampsUsedUp),
      insert-late a old c.draw.new.self i c.args.texts.now c.requires.idle (d.open ∙ p.open) (d.max ∙ p.max) (d.mpl ∙ p.mpl) (d.catalog ∙ p.catalog) (drawn.1 ∙ p.stamps)
          (c.in-Ok.ensures {u = tt}).stands (ap last (sym p.stamps) ∙ drawn.0),
      sound-refusal _ StampsUsedUp,
    )

pub insert_rows-requires-clause-stands : goal.insert_rows-requires-clause-stands
insert_rows-requires-clause-stands g c =
    let a = g.S.Pages.state c.args.space.now in
    let old = c.args.self.now in
    stands-over a old.catalog c.draw.new.self.catalog c.in-Ok.table (c.draw.ensures.catalog ∙ c.place.ensures.catalog) (stands-at a old c.in-Ok.table c.requires.stands.0 c.requires.stands.1)

pub returns-in-Ok-insert_rows-clause-step : goal.returns-in-Ok-insert_rows-clause-step
returns-in-Ok-insert_rows-clause-step g c =
    let a = g.S.Pages.state c.args.space.now in
    let b = g.S.Pages.state c.insert_rows.new.space in
    let old = c.args.self.now in
    let now = c.insert_rows.new.catalog in
    let i = insert_at c.args.insert.now in
    let texts = c.args.texts.now in
    let targets = c.as_slice.result.now in
    let k = c.in-Ok.table in
    let s = c.in-Some.stamp.0 in
    let p = c.place.ensures in
    let d = c.draw.ensures in
    let placed = c.in-Ok.ensures {u = tt} in
    let drawn = (c.in-Some.ensures {u = tt}).drawn in
    let done = c.in-Ok-insert_rows.ensures {u = tt} in
    let P : Contents → Type 0 = λ cat. (t : CatalogTable) → slice_get cat.tables k ≡ Some t → PutsAll a b cat now k s texts targets c.args.insert.now.values.now c.args.insert.now.ends.now t in
    let puts = subst P (d.catalog ∙ p.catalog) done.ok in
    let line = rows c.in-Ok-insert_rows.count in
    let step = insert-done a b old (record c.draw.new.self { catalog = now; stamps = c.insert_rows.new.stamps; room = (record c.draw.new.self.room { row = c.insert_rows.new.row }) }) i texts targets k s c.draw.new.self.stamps
    c.requires.idle (d.open ∙ p.open) (d.max ∙ p.max) (d.mpl ∙ p.mpl) placed.number placed.inside placed.stands
    (c.as_slice.ensures.value ∙ ap (λ t. t.items) d.targets ∙ placed.targets)
    (subst (λ m. Draws m c.draw.new.self.stamps s) p.stamps drawn.0) (subst (λ m. last m < 2 ^ 20) p.stamps drawn.1) puts done.committed in (
      line ∷ [],
      tells-one c.args.reply.now c.say-in-Ok-insert_rows.new.self line c.requires.empty c.requires.no_error c.say-in-Ok-insert_rows.ensures.text c.say-in-Ok-insert_rows.ensures.errors,
      counted-plain a b line (done-same a b old now i texts targets k s c.requires.stands.0 c.requires.stands.1 placed.inside puts).later (record { main = refl; temp = refl; main_full = refl; temp_full = refl }),
      subst (λ n. StepsTo a b old (record c.draw.new.self { catalog = now; stamps = c.insert_rows.new.stamps; room = (record c.draw.new.self.room { row = c.insert_rows.new.row }) }) (BeginsSo a.told (InsertRows i) texts) (rows n ∷ [])) (sym done.count) step,
      sound-line _ line refl,
    )

pub returns-in-Ok-insert_rows-clause-same : goal.returns-in-Ok-insert_rows-clause-same
returns-in-Ok-insert_rows-clause-same g c =
    let a = g.S.Pages.state c.args.space.now in
    let b = g.S.Pages.state c.insert_rows.new.space in
    let k = c.in-Ok.table in
    let s = c.in-Some.stamp.0 in
    let P : Contents → Type 0 = λ cat. (t : CatalogTable) → slice_get cat.tables k ≡ Some t → PutsAll a b cat c.insert_rows.new.catalog k s c.args.texts.now c.as_slice.result.now c.args.insert.now.values.now c.args.insert.now.ends.now t in
    done-same a b c.args.self.now c.insert_rows.new.catalog (insert_at c.args.insert.now) c.args.texts.now c.as_slice.result.now k s c.requires.stands.0 c.requires.stands.1
    (c.in-Ok.ensures {u = tt}).inside (subst P (c.draw.ensures.catalog ∙ c.place.ensures.catalog) (c.in-Ok-insert_rows.ensures {u = tt}).ok)

pub returns-in-Err-Fault-clause-step : goal.returns-in-Err-Fault-clause-step
returns-in-Err-Fault-clause-step g c =
    let a = g.S.Pages.state c.args.space.now in
    let b = g.S.Pages.state c.insert_rows.new.space in
    let old = c.args.self.now in
    let now = c.insert_rows.new.catalog in
    let i = insert_at c.args.insert.now in
    let texts = c.args.texts.now in
    let targets = c.as_slice.result.now in
    let k = c.in-Ok.table in
    let s = c.in-Some.stamp.0 in
    let f = c.in-Err-Fault.fault in
    let p = c.place.ensures in
    let d = c.draw.ensures in
    let placed = c.in-Ok.ensures {u = tt} in
    let drawn = (c.in-Some.ensures {u = tt}).drawn in
    let failed = c.in-Err-Fault.ensures {u = tt} in
    let F : PageFault → Type 0 = λ fault. (t : CatalogTable) → slice_get c.draw.new.self.catalog.tables k ≡ Some t
    → PutsPart a b c.draw.new.self.catalog now k s texts targets c.args.insert.now.values.now c.args.insert.now.ends.now fault t in
    let P : Contents → Type 0 = λ cat. (t : CatalogTable) → slice_get cat.tables k ≡ Some t → PutsPart a b cat now k s texts targets c.args.insert.now.values.now c.args.insert.now.ends.now f t in
    let puts = subst P (d.catalog ∙ p.catalog) (at-fault c.in-Err-Fault.field-0 f F c.in-Err-Fault.field-0-is failed.fault) in (
      line_of f ∷ [],
      tells-one c.args.reply.now c.say_fault.new.reply (line_of f) c.requires.empty c.requires.no_error c.say_fault.ensures.text
          (c.say_fault.ensures.errors ∙ ap (λ b. c.args.reply.now.has_error || b) (sym (error-of-fault f))),
      part-counted a b old now i texts targets k s c.requires.stands.0 c.requires.stands.1 placed.inside f puts,
      insert-faulted a b old (record c.draw.new.self { catalog = now; stamps = c.insert_rows.new.stamps; room = (record c.draw.new.self.room { row = c.insert_rows.new.row }) }) i texts targets k s c.draw.new.self.stamps
          c.requires.idle (d.open ∙ p.open) (d.max ∙ p.max) (d.mpl ∙ p.mpl) placed.number placed.inside placed.stands
          (c.as_slice.ensures.value ∙ ap (λ t. t.items) d.targets ∙ placed.targets)
          (subst (λ m. Draws m c.draw.new.self.stamps s) p.stamps drawn.0) (subst (λ m. last m < 2 ^ 20) p.stamps drawn.1) f puts failed.uncommitted,
      part-found a b old now i texts targets k s c.requires.stands.0 c.requires.stands.1 placed.inside f placed.number puts,
    )

pub returns-in-Err-Fault-clause-same : goal.returns-in-Err-Fault-clause-same
returns-in-Err-Fault-clause-same g c =
    let a = g.S.Pages.state c.args.space.now in
    let b = g.S.Pages.state c.insert_rows.new.space in
    let k = c.in-Ok.table in
    let s = c.in-Some.stamp.0 in
    let f = c.in-Err-Fault.fault in
    let F : PageFault → Type 0 = λ fault. (t : CatalogTable) → slice_get c.draw.new.self.catalog.tables k ≡ Some t
    → PutsPart a b c.draw.new.self.catalog c.insert_rows.new.catalog k s c.args.texts.now c.as_slice.result.now c.args.insert.now.values.now c.args.insert.now.ends.now fault t in
    let P : Contents → Type 0 = λ cat. (t : CatalogTable) → slice_get cat.tables k ≡ Some t → PutsPart a b cat c.insert_rows.new.catalog k s c.args.texts.now c.as_slice.result.now c.args.insert.now.values.now c.args.insert.now.ends.now f t in
    part-same a b c.args.self.now c.insert_rows.new.catalog (insert_at c.args.insert.now) c.args.texts.now c.as_slice.result.now k s c.requires.stands.0 c.requires.stands.1
    (c.in-Ok.ensures {u = tt}).inside f (subst P (c.draw.ensures.catalog ∙ c.place.ensures.catalog) (at-fault c.in-Err-Fault.field-0 f F c.in-Err-Fault.field-0-is (c.in-Err-Fault.ensures {u = tt}).fault))

pub say_cause-requires-clause-known : goal.say_cause-requires-clause-known
say_cause-requires-clause-known g c =
    let e = mapped-some (λ (x : CatalogTable). x.columns) _ _ c.columns.ensures.value in
    let failed = c.in-Err-Refused.ensures {u = tt} in
    let U : ℕ → Option ℕ → Type 0 = λ code column. (c.insert_rows.new.space ≡ c.args.space.now) × (c.insert_rows.new.catalog ≡ c.draw.new.self.catalog) in
    let C : ℕ → Option ℕ → Type 0 = λ code column. (t : CatalogTable) → slice_get c.draw.new.self.catalog.tables c.in-Ok.table ≡ Some t
    → IsCause c.args.texts.now c.as_slice.result.now c.args.insert.now.values.now c.args.insert.now.ends.now code column t in
    let untouched = at-refused c.in-Err-Refused.field-0 c.in-Err-Refused.code c.in-Err-Refused.column U c.in-Err-Refused.field-0-is failed.untouched in
    let cause = at-refused c.in-Err-Refused.field-0 c.in-Err-Refused.code c.in-Err-Refused.column C c.in-Err-Refused.field-0-is failed.refused in
    let there = ap (λ (x : Contents). slice_get x.tables c.in-Ok.table) (sym untouched.1) ∙ e.1 in
    let it = cause e.0 there in
    let T : List Column → Type 0 = λ cols. Tells cols c.in-Err-Refused.code c.in-Err-Refused.column it.refusal in
    let told = subst T (e.2 ∙ sym c.as_slice-in-Err-Refused.ensures.value) it.told in
    (it.refusal, told)

pub returns-in-Err-Refused-clause-step : goal.returns-in-Err-Refused-clause-step
returns-in-Err-Refused-clause-step g c =
    let a = g.S.Pages.state c.args.space.now in
    let old = c.args.self.now in
    let i = insert_at c.args.insert.now in
    let k = c.in-Ok.table in
    let s = c.in-Some.stamp.0 in
    let p = c.place.ensures in
    let d = c.draw.ensures in
    let placed = c.in-Ok.ensures {u = tt} in
    let drawn = (c.in-Some.ensures {u = tt}).drawn in
    let new = record c.draw.new.self { catalog = c.insert_rows.new.catalog; stamps = c.insert_rows.new.stamps; room = (record c.draw.new.self.room { row = c.insert_rows.new.row }) } in
    let e = mapped-some (λ (x : CatalogTable). x.columns) _ _ c.columns.ensures.value in
    let failed = c.in-Err-Refused.ensures {u = tt} in
    let U : ℕ → Option ℕ → Type 0 = λ code column. (c.insert_rows.new.space ≡ c.args.space.now) × (c.insert_rows.new.catalog ≡ c.draw.new.self.catalog) in
    let C : ℕ → Option ℕ → Type 0 = λ code column. (t : CatalogTable) → slice_get c.draw.new.self.catalog.tables c.in-Ok.table ≡ Some t
    → IsCause c.args.texts.now c.as_slice.result.now c.args.insert.now.values.now c.args.insert.now.ends.now code column t in
    let untouched = at-refused c.in-Err-Refused.field-0 c.in-Err-Refused.code c.in-Err-Refused.column U c.in-Err-Refused.field-0-is failed.untouched in
    let cause = at-refused c.in-Err-Refused.field-0 c.in-Err-Refused.code c.in-Err-Refused.column C c.in-Err-Refused.field-0-is failed.refused in
    let there = ap (λ (x : Contents). slice_get x.tables c.in-Ok.table) (sym untouched.1) ∙ e.1 in
    let it = cause e.0 there in
    let T : List Column → Type 0 = λ cols. Tells cols c.in-Err-Refused.code c.in-Err-Refused.column it.refusal in
    let told = subst T (e.2 ∙ sym c.as_slice-in-Err-Refused.ensures.value) it.told in
    let r = it.refusal in
    let was = ap (λ (x : Contents). slice_get x.tables k) (sym (d.catalog ∙ p.catalog)) ∙ there in
    let step = insert-against a old new i c.args.texts.now c.as_slice.result.now k s c.requires.idle (d.open ∙ p.open) (d.max ∙ p.max) (d.mpl ∙ p.mpl) (untouched.1 ∙ d.catalog ∙ p.catalog)
    placed.number placed.inside placed.stands (c.as_slice.ensures.value ∙ ap (λ t. t.items) d.targets ∙ placed.targets)
    (subst (λ m. Draws old.stamps m s) (sym failed.uncommitted) (subst (λ m. Draws m c.draw.new.self.stamps s) p.stamps drawn.0)) (subst (λ m. last m < 2 ^ 20) p.stamps drawn.1) r
    (λ t ht. subst (λ (w : CatalogTable). rows_cause w.columns (rows_of_tuples c.args.texts.now w.columns c.as_slice.result.now c.args.insert.now.values.now c.args.insert.now.ends.now) ≡ Some r)
    (some-one e.0 t (sym was ∙ ht)) it.first) in (
      refusal_line r ∷ [],
      tells-one c.args.reply.now c.say_cause.new.reply (refusal_line r) c.requires.empty c.requires.no_error (c.say_cause.ensures.text r told) c.say_cause.ensures.errors,
      subst (λ sp. CountedIn a (g.S.Pages.state sp) (refusal_line r ∷ [])) (sym untouched.0) (counted-plain a a (refusal_line r) (Later_same a.counts) (refusal-quiet r)),
      subst (λ sp. StepsTo a (g.S.Pages.state sp) old new (BeginsSo a.told (InsertRows i) c.args.texts.now) (refusal_line r ∷ [])) (sym untouched.0) step,
      sound-refusal _ r,
    )
