use Rattle.std.specs.Prelude.{◌≡◌, ℕ, ◌+◌, true, Bool, List, Option, Some, None, Ok, IfErr}
use Rattle.std.proofs.Common.{sym, ◌∙◌, ap, subst, refl, arith}
use Rattle.std.proofs.lemmas.Result.{err_from_is_err_and}
use Rattle.hg_base.specs.Space.{Space, key, key_in}
use Rattle.hg_base.specs.Lines.{IsLine}
use Rattle.hg_base.specs.Steadiness.{IsPlain}
use Rattle.hg_base.specs.SteadyLaws.{HasCause_none, HasCause_behind}
use Rattle.hg_base.specs.declared.File.TheVariants.{Main}
use Rattle.hg_table.specs.Calls.{NamesOneOf}
use Rattle.hg_table.specs.Marks.{committed}
use Rattle.hg_table.specs.Steps.{Looks, HoldsRowsOf, IsNextSeen}
use Rattle.hg_table.proofs.Walking.{IsOnWay, IsOnPage, way_starts, way_passed, way_page, looks_same, looks_then}
use Rattle.hg_table.proofs.Searching.{Sought, sought_none, sought_page, sought_holds, sought_found, sought_passed, sought_ended, sought_all, plain_now, names_on}
use Rattle.hg_table.proofs.seeking.seen_along.Goals as goal

pub loop-turn-init : goal.loop-turn-init
loop-turn-init g c =
    let a : Space = g.S.Pages.state c.args.space.now in
    record {
      looks = looks_same a c.requires.out;
      cause = HasCause_none a a refl;
      same = refl;
      way = λ pages line. way_starts a c.args.start pages line;
      sought = λ r. sought_none a c.args.start c.args.columns r (committed c.args.stamps.now) c.args.snapshot.0;
    }

pub returns-in_default-clause-seen : goal.returns-in_default-clause-seen
returns-in_default-clause-seen g c = λ r.
    let a : Space = g.S.Pages.state c.args.space.now in
    let p : ℕ → Bool = committed c.args.stamps.now in
    sought_ended a c.args.start c.args.columns r p c.args.snapshot.0 c.loop-turn._turn c.args.out.now c.loop-turn.out c.loop-turn.invariant.same
    (subst (λ o. Sought a c.args.start c.args.columns r p c.args.snapshot.0 o c.loop-turn._turn) c.in_default.is (c.loop-turn.invariant.sought r))

pub seen_on-requires-clause-plain : goal.seen_on-requires-clause-plain
seen_on-requires-clause-plain g c =
    let a : Space = g.S.Pages.state c.args.space.now in
    let pages : List ℕ = c.requires.line.0 in
    plain_now a (g.S.Pages.state c.loop-turn.space) c.in-Some.no c.loop-turn.invariant.looks
    (way_page a pages c.in-Some.no (subst (IsOnWay a pages) c.in-Some.is (c.loop-turn.invariant.way pages c.requires.line.1))).plain

pub seen_on-requires-clause-sound : goal.seen_on-requires-clause-sound
seen_on-requires-clause-sound g c = λ told.
    let a : Space = g.S.Pages.state c.args.space.now in
    let p : ℕ → Bool = committed c.args.stamps.now in
    let r : HoldsRowsOf a c.args.start c.args.columns = c.requires.rows (sym c.loop-turn.invariant.looks.steady.told ∙ told) in (
      r.held c.in-Some.no,
      sought_holds a (g.S.Pages.state c.loop-turn.space) c.args.start c.args.columns r p c.args.snapshot.0 c.in-Some.no c.loop-turn._turn c.loop-turn.invariant.looks
          (sought_page a c.args.start c.args.columns r p c.args.snapshot.0 c.in-Some.no c.loop-turn._turn
          (subst (λ o. Sought a c.args.start c.args.columns r p c.args.snapshot.0 o c.loop-turn._turn) c.in-Some.is (c.loop-turn.invariant.sought r))),
    )

pub returns-in_err-slot-clause-page : goal.returns-in_err-slot-clause-page
returns-in_err-slot-clause-page g c = λ pages line.
    let a : Space = g.S.Pages.state c.args.space.now in
    let on : IsOnPage a pages c.in-Some.no = way_page a pages c.in-Some.no (subst (IsOnWay a pages) c.in-Some.is (c.loop-turn.invariant.way pages line)) in
    let p = err_from_is_err_and c.from_residual.result c.from_residual.ensures.1 in
    subst (λ r. IfErr r (NamesOneOf pages)) (sym p.1)
    (subst (NamesOneOf pages) (sym p.2) (names_on pages c.in-Some.no _ on.among c.in_err-slot.ensures.page))

pub returns-in-Some-2-clause-seen : goal.returns-in-Some-2-clause-seen
returns-in-Some-2-clause-seen g c = λ r.
    let a : Space = g.S.Pages.state c.args.space.now in
    let p : ℕ → Bool = committed c.args.stamps.now in
    sought_found a (g.S.Pages.state c.loop-turn.space) c.args.start c.args.columns r p c.args.snapshot.0 c.in-Some.no c.in-Some-2.slot c.loop-turn._turn
    c.args.out.now c.loop-turn.out c.seen_on.new.out c.loop-turn.invariant.looks
    (subst (λ o. Sought a c.args.start c.args.columns r p c.args.snapshot.0 o c.loop-turn._turn) c.in-Some.is (c.loop-turn.invariant.sought r))
    (λ held h. subst (λ o. IsNextSeen p c.args.snapshot.0 held 0 o c.loop-turn.out c.seen_on.new.out) c.in-Some-2.is (c.in_ok-slot.ensures.seen held h))

pub returns-in-Some-2-clause-on_line : goal.returns-in-Some-2-clause-on_line
returns-in-Some-2-clause-on_line g c = λ pages line.
    let a : Space = g.S.Pages.state c.args.space.now in
    (way_page a pages c.in-Some.no (subst (IsOnWay a pages) c.in-Some.is (c.loop-turn.invariant.way pages line))).among

pub next-next-requires : goal.next-next-requires
next-next-requires g c =
    let a : Space = g.S.Pages.state c.args.space.now in
    let d : Space = g.S.Pages.state c.seen_on.new.space in
    let pages : List ℕ = c.requires.line.0 in
    ap (λ p. d.taken (key p)) c.main_page.ensures
    ∙ (plain_now a d c.in-Some.no (looks_then a (g.S.Pages.state c.loop-turn.space) d c.loop-turn.invariant.looks c.in_ok-slot.ensures.looks)
    (way_page a pages c.in-Some.no (subst (IsOnWay a pages) c.in-Some.is (c.loop-turn.invariant.way pages c.requires.line.1))).plain).taken

pub loop-turn-preserved : goal.loop-turn-preserved
loop-turn-preserved g c =
    let a : Space = g.S.Pages.state c.args.space.now in
    let b : Space = g.S.Pages.state c.loop-turn.space in
    let d : Space = g.S.Pages.state c.seen_on.new.space in
    let p : ℕ → Bool = committed c.args.stamps.now in
    let x : ℕ = c.in-Some.no in
    let both : Looks a d = looks_then a b d c.loop-turn.invariant.looks c.in_ok-slot.ensures.looks in
    record {
      looks = both;
      cause = HasCause_behind a b d None c.loop-turn.invariant.looks.steady.told c.loop-turn.invariant.cause c.in_ok-slot.ensures.cause;
      same = c.in_ok-slot.ensures.unseen (ap Ok c.in_default-2.is) ∙ c.loop-turn.invariant.same;
      way = λ pages line. subst (IsOnWay a pages) (sym (c.next-next.ensures ∙ ap (λ q. d.next (key q)) c.main_page.ensures))
          (way_passed a d pages x both (subst (IsOnWay a pages) c.in-Some.is (c.loop-turn.invariant.way pages line)));
      sought = λ r. subst (λ o. Sought a c.args.start c.args.columns r p c.args.snapshot.0 o (c.loop-turn._turn + 1)) (sym (c.next-next.ensures ∙ ap (λ q. d.next (key q)) c.main_page.ensures))
          (sought_passed a b d c.args.start c.args.columns r p c.args.snapshot.0 x c.loop-turn._turn c.loop-turn.out c.seen_on.new.out c.loop-turn.invariant.looks c.in_ok-slot.ensures.looks
          (subst (λ o. Sought a c.args.start c.args.columns r p c.args.snapshot.0 o c.loop-turn._turn) c.in-Some.is (c.loop-turn.invariant.sought r))
          (λ held h. subst (λ o. IsNextSeen p c.args.snapshot.0 held 0 o c.loop-turn.out c.seen_on.new.out) c.in_default-2.is (c.in_ok-slot.ensures.seen held h)));
    }

pub returns-clause-seen : goal.returns-clause-seen
returns-clause-seen g c = λ r.
    sought_all (g.S.Pages.state c.args.space.now) c.args.start c.args.columns r (committed c.args.stamps.now) c.args.snapshot.0 c.loop-turn._turn c.loop-turn.next
    c.args.out.now c.loop-turn.out (omega arith) c.loop-turn.invariant.same (c.loop-turn.invariant.sought r)
