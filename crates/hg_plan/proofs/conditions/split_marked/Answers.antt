use Rattle.std.proofs.Common.{◌≡◌, ◌<◌, ◌+◌, ◌-◌, sym, subst, length, arith}
use Rattle.hg_plan.proofs.Parts.{tree_at}
use Rattle.hg_plan.proofs.Splitting.{Splits, splits_all, splits_first, splits_next}
use Rattle.hg_plan.proofs.conditions.split_marked.Goals as goal

pub loop-k-init : goal.loop-k-init
loop-k-init c = record { within = omega arith; splits = splits_first c.args.nodes.now c.args.marks.now }

pub pass_mark-requires-clause-before : goal.pass_mark-requires-clause-before
pass_mark-requires-clause-before c =
    tree_at c.args.nodes.now (c.loop-k.k - 1) c.index-nodes-k.result c.requires.tree (omega (arith, c.loop-k-test.true, c.loop-k.invariant.within)) c.index-nodes-k.is

pub loop-k-preserved : goal.loop-k-preserved
loop-k-preserved c =
    let k = c.loop-k.k - 1 in
    let ns = c.args.nodes.now in
    let n = c.index-nodes-k.result in
    let lt : k < length ns = omega (arith, c.loop-k-test.true, c.loop-k.invariant.within) in
    let step : c.loop-k.k ≡ k + 1 = omega (arith, c.loop-k-test.true) in
    record {
      within = omega (arith, c.loop-k.invariant.within);
      splits = subst (λ m. Splits ns c.args.marks.now m k) (sym c.pass_mark.ensures)
          (splits_next ns c.args.marks.now c.loop-k.marks c.loop-k.k k c.requires.tree step lt c.requires.room c.loop-k.invariant.splits n c.index-nodes-k.is
          (tree_at ns k n c.requires.tree lt c.index-nodes-k.is));
    }

pub returns : goal.returns
returns c =
    let ns = c.args.nodes.now in
    let end : c.loop-k.k ≡ 0 = omega (arith, c.loop-k-test.false) in
    splits_all ns c.args.marks.now c.loop-k.marks (subst (Splits ns c.args.marks.now c.loop-k.marks) end c.loop-k.invariant.splits)
