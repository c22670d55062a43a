use Rattle.std.specs.Prelude.{ℕ, List}
use Rattle.hg_run.specs.Runs.{IsChain}
use Rattle.hg_run.specs.Steps.{Releases}
use Rattle.hg_run.proofs.Run.destroy.Given as goal

abbrev pub invariant-loop-turn : goal.invariant-loop-turn
invariant-loop-turn g l = record {
  releases : (pages : List ℕ) → IsChain (g.S.Pages.state l.fn.space) l.fn.self pages
      → Releases (g.S.Pages.state l.fn.space) (g.S.Pages.state l.space) pages l.next l._turn;
}
