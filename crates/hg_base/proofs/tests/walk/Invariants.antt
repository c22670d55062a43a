use Rattle.std.specs.Prelude.{None}
use Rattle.hg_base.specs.Causes.{HasCause}
use Rattle.hg_base.specs.Steadiness.{Steady, these_pages}
use Rattle.hg_base.proofs.tests.walk.Given as goal

abbrev pub invariant-loop-turn : goal.invariant-loop-turn
invariant-loop-turn g l = record {
  steady : Steady (these_pages (λ _. ⊥)) (g.S.Pages.state l.initial.space) (g.S.Pages.state l.space);
  cause : HasCause (g.S.Pages.state l.initial.space) (g.S.Pages.state l.space) None;
}
