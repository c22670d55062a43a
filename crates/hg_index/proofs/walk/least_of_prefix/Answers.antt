use Rattle.std.specs.Prelude.{None, Some}
use Rattle.std.proofs.Common.{sym, ◌∙◌, subst, rules, refl, arith}
use Rattle.std.proofs.lemmas.Bool.{false≢true}
use Rattle.hg_base.specs.Space.{Space}
use Rattle.hg_base.specs.Causes.{HasCause}
use Rattle.hg_base.specs.SteadyLaws.{HasCause_none, HasCause_behind}
use Rattle.hg_index.specs.Walks.{FindsNumber, HasPrefix, IsWalkAt}
use Rattle.hg_index.proofs.Walking.{walk_starts, walk_short, found_cases}
use Rattle.hg_index.proofs.Looking.{damage_cause, looks_then, looks_same, tree_looked, places_looked}
use Rattle.hg_index.proofs.walk.least_of_prefix.Goals as goal

pub loop-turn-init : goal.loop-turn-init
loop-turn-init g c =
    let a : Space = g.S.Pages.state c.args.space.now in
    record {
      looks = looks_same a c.requires.out;
      cause = HasCause_none a a refl;
      walk = λ es pages leaves h places.
          let e = c.begin-walk.ensures in
          subst (λ k. IsWalkAt es c.args.prefix.now c.args.low k c.begin-walk.result.from c.begin-walk.result.least 0) (sym e.key)
          (subst (λ f. IsWalkAt es c.args.prefix.now c.args.low c.args.prefix.now f c.begin-walk.result.least 0) (sym e.from)
          (subst (λ o. IsWalkAt es c.args.prefix.now c.args.low c.args.prefix.now c.args.low o 0) (sym e.none) (walk_starts es c.args.prefix.now c.args.low)));
    }

pub step-requires-clause-there : goal.step-requires-clause-there
step-requires-clause-there g c = λ told.
    let a : Space = g.S.Pages.state c.args.space.now in
    let b : Space = g.S.Pages.state c.loop-turn.space in
    places_looked c.args.tree.file a b c.args.tree.top c.loop-turn.invariant.looks (c.requires.there (sym c.loop-turn.invariant.looks.steady.told ∙ told))

pub returns-in-Ok-clause-found : goal.returns-in-Ok-clause-found
returns-in-Ok-clause-found g c = λ es pages leaves h places.
    let a : Space = g.S.Pages.state c.args.space.now in
    let b : Space = g.S.Pages.state c.loop-turn.space in
    let w = c.loop-turn.invariant.walk es pages leaves h places in
    let f = c.in_ok-step.ensures.goes es pages leaves c.loop-turn._turn (tree_looked c.args.tree.file a b c.args.tree.top es pages leaves c.loop-turn.invariant.looks h) places w in
    let o : FindsNumber (HasPrefix c.args.prefix.now) c.args.low es c.step.new.walk.least = search rules in
    subst (FindsNumber (HasPrefix c.args.prefix.now) c.args.low es) (sym c.in-Ok.ensures.number) o

pub returns-in-Err-clause-cause : goal.returns-in-Err-clause-cause
returns-in-Err-clause-cause g c =
    let a : Space = g.S.Pages.state c.args.space.now in
    let b : Space = g.S.Pages.state c.loop-turn.space in
    let d : Space = g.S.Pages.state c.step.new.space in
    subst (λ f. HasCause a d (Some f)) (sym c.damaged.ensures)
    (damage_cause a d _ _ (HasCause_behind a b d None c.loop-turn.invariant.looks.steady.told c.loop-turn.invariant.cause c.in_ok-step.ensures.cause)
    (λ told.
    let h = c.requires.there told in
    let w = c.loop-turn.invariant.walk h.es h.pages h.leaves h.tree h.places in
    let f = c.in_ok-step.ensures.goes h.es h.pages h.leaves c.loop-turn._turn (tree_looked c.args.tree.file a b c.args.tree.top h.es h.pages h.leaves c.loop-turn.invariant.looks h.tree) h.places w in
    let o : FindsNumber (HasPrefix c.args.prefix.now) c.args.low h.es c.step.new.walk.least = search rules in
    false≢true (found_cases _ (HasPrefix c.args.prefix.now) c.args.low h.es c.step.new.walk.least h.places o c.in-Err.ensures.none c.in-Err.ensures.known)))

pub loop-turn-preserved : goal.loop-turn-preserved
loop-turn-preserved g c =
    let a : Space = g.S.Pages.state c.args.space.now in
    let b : Space = g.S.Pages.state c.loop-turn.space in
    let d : Space = g.S.Pages.state c.step.new.space in
    record {
      looks = looks_then a b d c.loop-turn.invariant.looks c.in_ok-step.ensures.looks;
      cause = HasCause_behind a b d None c.loop-turn.invariant.looks.steady.told c.loop-turn.invariant.cause c.in_ok-step.ensures.cause;
      walk = λ es pages leaves h places.
          let w = c.loop-turn.invariant.walk es pages leaves h places in
          let f = c.in_ok-step.ensures.goes es pages leaves c.loop-turn._turn (tree_looked c.args.tree.file a b c.args.tree.top es pages leaves c.loop-turn.invariant.looks h) places w in
          search rules;
    }

pub returns-clause-cause : goal.returns-clause-cause
returns-clause-cause g c =
    let a : Space = g.S.Pages.state c.args.space.now in
    let b : Space = g.S.Pages.state c.loop-turn.space in
    subst (λ f. HasCause a b (Some f)) (sym c.damaged-2.ensures)
    (damage_cause a b _ _ c.loop-turn.invariant.cause
    (λ told.
    let h = c.requires.there told in
    let n = c.taken.ensures.count in
    walk_short c.args.tree.file a c.args.tree.top h.es h.pages h.leaves c.args.prefix.now c.args.low c.loop-turn.walk.key.items c.loop-turn.walk.from c.loop-turn.walk.least c.loop-turn._turn h.tree
    (c.loop-turn.invariant.walk h.es h.pages h.leaves h.tree h.places) (omega arith)))
