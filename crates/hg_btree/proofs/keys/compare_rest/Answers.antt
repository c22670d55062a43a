use Rattle.std.proofs.Common.{sym, ◌∙◌, arith}
use Rattle.hg_btree.proofs.Comparing.{small_bytes, alike_first, word_apart, word_alike, all_alike}
use Rattle.hg_btree.proofs.keys.compare_rest.Goals as goal

pub loop-alike-init : goal.loop-alike-init
loop-alike-init c = record {
  from = omega arith;
  same = alike_first c.args.own.now c.args.key.now c.min-both.result (small_bytes _ c.type_inv.own) (small_bytes _ c.type_inv.key) c.min-both.ensures c.requires;
}

pub returns-then-x-y : goal.returns-then-x-y
returns-then-x-y c =
    let i = c.loop-alike.invariant in
    c.cmp.ensures
    ∙ sym (word_apart c.args.own.now c.args.key.now c.min-both.result c.loop-alike.alike c.min-next.result c.word_at-x.result c.word_at-y.result
    (small_bytes _ c.type_inv.own) (small_bytes _ c.type_inv.key) c.min-both.ensures c.loop-alike-test.true c.min-next.ensures i.from i.same
    c.word_at-x.ensures c.word_at-y.ensures c.if-x-y.true)

pub loop-alike-preserved : goal.loop-alike-preserved
loop-alike-preserved c =
    let i = c.loop-alike.invariant in
    record {
      from = let m = c.min-next.ensures in let f = i.from in let t = c.loop-alike-test.true in omega arith;
      same = word_alike c.args.own.now c.args.key.now c.min-both.result c.loop-alike.alike c.min-next.result
          (small_bytes _ c.type_inv.own) (small_bytes _ c.type_inv.key) c.min-both.ensures c.loop-alike-test.true c.min-next.ensures i.from i.same
          (sym c.word_at-x.ensures ∙ c.if-x-y.false ∙ c.word_at-y.ensures);
    }

pub returns : goal.returns
returns c = c.cmp-2.ensures ∙ sym (all_alike c.args.own.now c.args.key.now c.min-both.result c.loop-alike.alike c.min-both.ensures (let t = c.loop-alike-test.false in omega arith) c.loop-alike.invariant.same)
