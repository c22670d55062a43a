use Rattle.std.specs.Prelude.{ℕ, List}
use Rattle.hg_run.specs.Runs.{IsChain}
use Rattle.hg_dml.proofs.EndingLaws.{EndingSoFar}
use Rattle.hg_dml.proofs.ending.end_run.Given as goal

abbrev pub invariant-loop-turn : goal.invariant-loop-turn
invariant-loop-turn g l = (pages : List ℕ) → IsChain (g.S.Pages.state l.fn.space) l.fn.run pages → EndingSoFar (g.S.Pages.state l.fn.space) (g.S.Pages.state l.space) pages l.next l._turn
