-- The pages of a run, given back one after the other: they stay of no heap.
use Rattle.std.specs.Prelude.{◌≡◌, ℕ, ◌+◌, ◌≤◌, false, List, Option, Some, None}
use Rattle.std.specs.List.{AllByRecursion}
use Rattle.hg_base.specs.Space.{Space, NoPins, key_in, without_page, taken_in}
use Rattle.hg_base.specs.declared.File.TheVariants.{Temp}
use Rattle.hg_run.proofs.Ending.{FirstOf, releases_none, first_of, releases_more, ends_none, ends_few}
use Rattle.hg_run.specs.Runs.{IsChain}
use Rattle.hg_run.specs.Steps.{Releases}
use Rattle.hg_run.specs.declared.Run.{Run}
use Rattle.hg_dml.specs.UpdateSteps.{EndsRun}

pub record EndingSoFar (a b : Space) (pages : List ℕ) (next : Option ℕ) (turns : ℕ) : Type 0 where
  pub releases : Releases a b pages next turns
  pub no_heap : AllByRecursion (λ x. b.of_heap (key_in Temp x) ≡ false) pages

pub ending-none : (a : Space) (run : Run) (pages : List ℕ) → NoPins a → IsChain a run pages → EndingSoFar a a pages run.first 0
ending-none a run pages out chain = record { releases = releases_none a run pages out chain; no_heap = chain.line.no_heap }

pub next-of-run : (a b : Space) (pages : List ℕ) (x turns : ℕ) (h : EndingSoFar a b pages (Some x) turns) → FirstOf b h.releases.rest x
next-of-run a b pages x turns h = first_of b h.releases.rest x h.releases.line

pub ending-more : (a b : Space) (pages : List ℕ) (x turns : ℕ) → EndingSoFar a b pages (Some x) turns → EndingSoFar a (without_page b (key_in Temp x)) pages (b.next (key_in Temp x)) (turns + 1)
ending-more a b pages x turns h = record { releases = releases_more a b pages x turns h.releases; no_heap = h.no_heap }

pub ended-none : (a b : Space) (pages : List ℕ) (turns : ℕ) → EndingSoFar a b pages None turns → EndsRun a b pages
ended-none a b pages turns h = record { ends = ends_none a b pages turns h.releases; no_heap = h.no_heap }

pub ended-few : (a b : Space) (run : Run) (pages : List ℕ) (next : Option ℕ) (turns : ℕ) → IsChain a run pages → taken_in a Temp ≤ turns → EndingSoFar a b pages next turns → EndsRun a b pages
ended-few a b run pages next turns chain few h = record { ends = ends_few a b run pages next turns chain few h.releases; no_heap = h.no_heap }
