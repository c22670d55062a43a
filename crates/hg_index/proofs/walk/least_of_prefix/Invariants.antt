use Rattle.std.specs.Prelude.{ℕ, List, None}
use Rattle.hg_base.specs.Causes.{HasCause}
use Rattle.hg_btree.specs.Entries.{Entry, AllBy}
use Rattle.hg_btree.specs.Steps.{Looks}
use Rattle.hg_btree.specs.Trees.{IsTree}
use Rattle.hg_index.specs.Walks.{HasPlace, IsWalkAt}
use Rattle.hg_index.proofs.walk.least_of_prefix.Given as goal

abbrev pub invariant-loop-turn : goal.invariant-loop-turn
invariant-loop-turn g l = record {
  looks : Looks (g.S.Pages.state l.fn.space) (g.S.Pages.state l.space);
  cause : HasCause (g.S.Pages.state l.fn.space) (g.S.Pages.state l.space) None;
  walk : (es : List Entry) (pages : List ℕ) (leaves : ℕ) → IsTree l.tree.file (g.S.Pages.state l.fn.space) l.tree.top es pages leaves → AllBy HasPlace es
      → IsWalkAt es l.prefix l.low l.walk.key.items l.walk.from l.walk.least l._turn;
}
