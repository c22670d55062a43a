use Rattle.std.specs.Prelude.{◌≡◌, ℕ, List, None}
use Rattle.hg_base.specs.Causes.{HasCause}
use Rattle.hg_base.specs.Lines.{IsLine}
use Rattle.hg_base.specs.declared.File.TheVariants.{Main}
use Rattle.hg_table.specs.Marks.{committed}
use Rattle.hg_table.specs.Steps.{Looks, HoldsRowsOf}
use Rattle.hg_table.proofs.Walking.{IsOnWay}
use Rattle.hg_table.proofs.Searching.{Sought}
use Rattle.hg_table.proofs.seeking.seen_along.Given as goal

abbrev pub invariant-loop-turn : goal.invariant-loop-turn
invariant-loop-turn g l = record {
  looks : Looks (g.S.Pages.state l.initial.space) (g.S.Pages.state l.space);
  cause : HasCause (g.S.Pages.state l.initial.space) (g.S.Pages.state l.space) None;
  same : l.out ≡ l.initial.out;
  way : (pages : List ℕ) → IsLine Main (g.S.Pages.state l.initial.space) l.initial.next pages → IsOnWay (g.S.Pages.state l.initial.space) pages l.next;
  sought : (r : HoldsRowsOf (g.S.Pages.state l.initial.space) l.initial.next l.columns)
      → Sought (g.S.Pages.state l.initial.space) l.initial.next l.columns r (committed l.stamps) l.snapshot.0 l.next l._turn;
}
