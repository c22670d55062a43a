use Rattle.std.specs.Prelude.{ℕ, List, Some, None, length}
use Rattle.hg_base.specs.Causes.{HasCause}
use Rattle.hg_base.specs.Lines.{IsLine}
use Rattle.hg_btree.specs.Entries.{Entry}
use Rattle.hg_btree.specs.Trees.{IsTree}
use Rattle.hg_btree.specs.Growing.{AtStep, LineGrows, most_pages}
use Rattle.hg_btree.proofs.insert.way_down.Given as goal

abbrev pub invariant-loop-step : goal.invariant-loop-step
invariant-loop-step g l = record {
  line : (pages : List ℕ) → IsLine l.tree.file (g.S.Pages.state l.fn.space) (Some l.tree.top) pages
      → LineGrows l.tree.file (g.S.Pages.state l.fn.space) (g.S.Pages.state l.space) l.tree.top pages;
  cause : HasCause (g.S.Pages.state l.fn.space) (g.S.Pages.state l.space) None;
  step : (es : List Entry) (pages : List ℕ) (leaves : ℕ) (h : IsTree l.tree.file (g.S.Pages.state l.fn.space) l.tree.top es pages leaves)
      → AtStep l.tree.file (g.S.Pages.state l.space) l.tree.top (record { key = l.key; place = l.place; child = 0 }) es
      (most_pages l.tree.file (g.S.Pages.state l.fn.space) l.tree.top h.levels (length pages) (record { key = l.key; place = l.place; child = 0 })) leaves
      l.step.found.level l.step.node l.step.found.child;
}

abbrev pub decreases-loop-step : goal.decreases-loop-step
decreases-loop-step g l = l.step.found.level
