use Rattle.std.proofs.Common.{◌≡◌, length, refl, arith}
use Rattle.std.proofs.lemmas.List.{with_items_is}
use Rattle.hg_clock.proofs.Chains.{looks-end, never-by}
use Rattle.hg_clock.proofs.Victims.{takes_lent, sound-kept}
use Rattle.hg_clock.proofs.Clock.victim.Goals as goal

pub returns-clause-taken : goal.returns-clause-taken
returns-clause-taken c =
    let same_count : length c.pass.new.scores ≡ c.self.inside.scores.len = omega arith in
    rw (← c.self.view_is) (takes_lent _ _ _ _ _ _ _ c.first_frame-first.ensures.first c.deref.ensures.value c.deref-2.ensures.value
    c.in_ok-victim.ensures.found _ _ _ c.deref_mut.ensures.value c.deref-3.ensures.value c.pass.ensures
    (with_items_is c.self.inside.scores c.pass.new.scores same_count) refl refl)

pub returns-clause-looks : goal.returns-clause-looks
returns-clause-looks c = looks-end _ _ _ _ c.requires (returns-clause-taken c)

pub invariant_of-self : goal.invariant_of-self
invariant_of-self c =
    let same_count : length c.pass.new.scores ≡ c.self.inside.scores.len = omega arith in
    sound-kept _ _ _ c.self.inside.hand _ c.self.inside.scores.items _ _ _ _ _ c.deref_mut.ensures.value c.deref-3.ensures.value
    c.pass.ensures (with_items_is c.self.inside.scores c.pass.new.scores same_count) c.self.invariant

pub returns-in_err-victim-clause-looks : goal.returns-in_err-victim-clause-looks
returns-in_err-victim-clause-looks c =
    rw (c.from_residual.ensures, ← c.self.view_is)
    (never-by c.args.current _ _ c.deref-2.ensures.value c.in_err-victim.ensures.none)
