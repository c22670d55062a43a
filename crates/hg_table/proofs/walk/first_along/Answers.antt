use Rattle.std.specs.Prelude.{◌≡◌, ℕ, ◌+◌, true, Option, Some, None, IfErr}
use Rattle.std.proofs.lemmas.Result.{err_from_is_err_and}
use Rattle.std.proofs.Common.{sym, ◌∙◌, ap, subst, refl, arith}
use Rattle.hg_base.specs.Space.{Space, key, key_in, taken_in}
use Rattle.hg_base.specs.Causes.{HasCause}
use Rattle.hg_base.specs.declared.File.TheVariants.{Main}
use Rattle.hg_base.specs.SteadyLaws.{HasCause_none, HasCause_behind}
use Rattle.hg_table.specs.Calls.{LookFault, IsPageCheck, IsWalkCheck, WalksOn, reached}
use Rattle.hg_table.specs.Steps.{HoldsLine, IsNextSlot}
use Rattle.hg_table.proofs.Walking.{IsOnWay, way_starts, way_passed, way_page, looks_same, passed_none, Passed, line_ended, line_found, line_passed, line_short, looks_then, next_page, next_sound, not_told, HasTurns, turns_start, turns_passed, turns_over, way_free, reached_more, not_too_long}
use Rattle.hg_table.proofs.walk.first_along.Goals as goal

pub returns-in_default-clause-first : goal.returns-in_default-clause-first
returns-in_default-clause-first g c = λ h.
    line_ended (g.S.Pages.state c.args.space.now) c.args.start h c.loop-turn._turn
    (subst (λ o. Passed (g.S.Pages.state c.args.space.now) c.args.start h o c.loop-turn._turn) c.in_default.is (c.loop-turn.invariant.passed h))

pub returns-in-None-clause-first : goal.returns-in-None-clause-first
returns-in-None-clause-first g c = λ h.
    line_ended (g.S.Pages.state c.args.space.now) c.args.start h c.loop-turn._turn
    (subst (λ o. Passed (g.S.Pages.state c.args.space.now) c.args.start h o c.loop-turn._turn) c.in-None.is (c.loop-turn.invariant.passed h))

pub look-requires-clause-sound : goal.look-requires-clause-sound
look-requires-clause-sound g c = λ told.
    let a : Space = g.S.Pages.state c.args.space.now in
    let h : HoldsLine a c.args.start = c.requires.line (sym c.loop-turn.invariant.looks.steady.told ∙ told) in
    next_sound a (g.S.Pages.state c.loop-turn.space) c.args.start h c.in-Some.no c.loop-turn._turn c.loop-turn.invariant.looks
    (next_page a c.args.start h c.in-Some.no c.loop-turn._turn
    (subst (λ o. Passed a c.args.start h o c.loop-turn._turn) c.in-Some.is (c.loop-turn.invariant.passed h)))

pub returns-in-Some-2-clause-first : goal.returns-in-Some-2-clause-first
returns-in-Some-2-clause-first g c = λ h.
    let a : Space = g.S.Pages.state c.args.space.now in
    line_found a (g.S.Pages.state c.loop-turn.space) c.args.start h c.in-Some.no c.in-Some-2.slot c.loop-turn._turn c.loop-turn.invariant.looks
    (subst (λ o. Passed a c.args.start h o c.loop-turn._turn) c.in-Some.is (c.loop-turn.invariant.passed h))
    (λ page told. subst (IsNextSlot page 0) c.in-Some-2.is (c.in_ok-slot.ensures.next page told))

pub returns-in-Some-2-clause-on_line : goal.returns-in-Some-2-clause-on_line
returns-in-Some-2-clause-on_line g c = λ pages line.
    let a : Space = g.S.Pages.state c.args.space.now in
    (way_page a pages c.in-Some.no (subst (IsOnWay a pages) c.in-Some.is (c.loop-turn.invariant.way pages line))).among

pub loop-turn-init : goal.loop-turn-init
loop-turn-init g c =
    let a : Space = g.S.Pages.state c.args.space.now in
    record {
      looks = looks_same a c.requires.out;
      cause = HasCause_none a a refl;
      links = refl;
      steps = refl;
      passed = λ h. passed_none a c.args.start h;
      way = λ pages line. way_starts a c.args.start pages line;
      turns = λ pages line. turns_start a c.args.start pages line;
    }

pub loop-turn-preserved : goal.loop-turn-preserved
loop-turn-preserved g c =
    let a : Space = g.S.Pages.state c.args.space.now in
    let b : Space = g.S.Pages.state c.loop-turn.space in
    let d : Space = g.S.Pages.state c.look.new.space in
    let x : ℕ = c.in-Some.no in
    record {
      looks = looks_then a b d c.loop-turn.invariant.looks c.in_ok-slot.ensures.looks;
      cause = HasCause_behind a b d None c.loop-turn.invariant.looks.steady.told c.loop-turn.invariant.cause
          c.in_ok-slot.ensures.cause;
      turns = λ pages line. subst (λ o. HasTurns a o (c.loop-turn._turn + 1)) (sym (c.next-next.ensures ∙ ap (λ p. d.next (key p)) c.main_page.ensures))
          (turns_passed a d x c.loop-turn._turn (looks_then a b d c.loop-turn.invariant.looks c.in_ok-slot.ensures.looks)
          (way_page a pages x (subst (IsOnWay a pages) c.in-Some.is (c.loop-turn.invariant.way pages line))).plain
          (subst (λ o. HasTurns a o c.loop-turn._turn) c.in-Some.is (c.loop-turn.invariant.turns pages line)));
      links = c.in_ok-slot.ensures.links ∙ c.loop-turn.invariant.links;
      steps = c.next-next.ensures ∙ ap (λ p. d.next (key p)) c.main_page.ensures
          ∙ ap (λ (f : ℕ → Option ℕ). f (key_in Main x)) (c.in_ok-slot.ensures.links ∙ c.loop-turn.invariant.links)
          ∙ reached_more a.next c.args.start c.loop-turn._turn x (sym c.in-Some.is ∙ c.loop-turn.invariant.steps);
      way = λ pages line. subst (IsOnWay a pages) (sym (c.next-next.ensures ∙ ap (λ p. d.next (key p)) c.main_page.ensures))
          (way_passed a d pages x (looks_then a b d c.loop-turn.invariant.looks c.in_ok-slot.ensures.looks)
          (subst (IsOnWay a pages) c.in-Some.is (c.loop-turn.invariant.way pages line)));
      passed = λ h. subst (λ o. Passed a c.args.start h o (c.loop-turn._turn + 1)) (sym (c.next-next.ensures ∙ ap (λ p. d.next (key p)) c.main_page.ensures))
          (line_passed a b d c.args.start h x c.loop-turn._turn c.loop-turn.invariant.looks c.in_ok-slot.ensures.looks
          (subst (λ o. Passed a c.args.start h o c.loop-turn._turn) c.in-Some.is (c.loop-turn.invariant.passed h))
          (λ page told. subst (IsNextSlot page 0) c.in_default-2.is (c.in_ok-slot.ensures.next page told)));
    }

-- where the space tells, no walk goes so far
never_told : (g : _) (c : goal.After-damaged g) → (g.S.Pages.state c.args.space.now).told ≡ true → ⊥
never_told g c told =
    let a : Space = g.S.Pages.state c.args.space.now in
    let h : HoldsLine a c.args.start = c.requires.line told in
    line_short a c.args.start h c.in-Some-next.no c.loop-turn._turn (omega arith)
    (subst (λ o. Passed a c.args.start h o c.loop-turn._turn) c.in-Some-next.is (c.loop-turn.invariant.passed h))

pub returns-in-Some-next-clause-cause : goal.returns-in-Some-next-clause-cause
returns-in-Some-next-clause-cause g c =
    let a : Space = g.S.Pages.state c.args.space.now in
    let b : Space = g.S.Pages.state c.loop-turn.space in
    subst (λ f. HasCause a b (Some f)) (sym c.damaged.ensures) (record {
      later = c.loop-turn.invariant.looks.steady.counts;
      counts = c.loop-turn.invariant.cause.counts;
      damage = not_told a.told (never_told g c);
    })

pub returns-in-Some-next-clause-fault : goal.returns-in-Some-next-clause-fault
returns-in-Some-next-clause-fault g c =
    subst (LookFault IsWalkCheck) (sym c.damaged.ensures) tt

pub returns-in_err-slot-clause-known : goal.returns-in_err-slot-clause-known
returns-in_err-slot-clause-known g c = λ pages line.
    let a : Space = g.S.Pages.state c.args.space.now in
    let b : Space = g.S.Pages.state c.loop-turn.space in
    let p = err_from_is_err_and c.from_residual.result c.from_residual.ensures.1 in
    subst (λ r. IfErr r (LookFault IsPageCheck)) (sym p.1)
    (subst (LookFault IsPageCheck) (sym p.2)
    (c.in_err-slot.ensures.known (way_free a b c.args.start pages c.in-Some.no c.loop-turn.invariant.looks line
    (subst (IsOnWay a pages) c.in-Some.is (c.loop-turn.invariant.way pages line)))))

pub returns-in-Some-next-clause-known : goal.returns-in-Some-next-clause-known
returns-in-Some-next-clause-known g c = λ pages line.
    let a : Space = g.S.Pages.state c.args.space.now in
    absurd (turns_over a c.in-Some-next.no c.loop-turn._turn (omega arith)
    (subst (λ o. HasTurns a o c.loop-turn._turn) c.in-Some-next.is (c.loop-turn.invariant.turns pages line)))

pub returns-in-Some-next-clause-order : goal.returns-in-Some-next-clause-order
returns-in-Some-next-clause-order g c =
    let a : Space = g.S.Pages.state c.args.space.now in
    let all : taken_in a Main ≡ c.loop-turn._turn = omega arith in
    subst (WalksOn a c.args.start) (sym c.damaged.ensures)
    (ap (reached a.next c.args.start) all ∙ sym c.loop-turn.invariant.steps ∙ c.in-Some-next.is)

pub returns-in_err-slot-clause-order : goal.returns-in_err-slot-clause-order
returns-in_err-slot-clause-order g c =
    let a : Space = g.S.Pages.state c.args.space.now in
    let p = err_from_is_err_and c.from_residual.result c.from_residual.ensures.1 in
    subst (λ r. IfErr r (WalksOn a c.args.start)) (sym p.1)
    (subst (WalksOn a c.args.start) (sym p.2) (not_too_long a c.args.start _ c.in_err-slot.ensures.step))
