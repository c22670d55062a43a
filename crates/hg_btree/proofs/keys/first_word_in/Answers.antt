use Rattle.std.specs.Prelude.{ℕ, ◌-◌, ◌*◌, ◌^◌, ◌%◌, drop}
use Rattle.std.proofs.Common.{sym, ◌∙◌, ap, refl, arith}
use Rattle.hg_btree.proofs.Comparing.{word-take, word-none, small_bytes, short_is}
use Rattle.hg_btree.proofs.keys.first_word_in.Goals as goal

pub returns-then-size-ge8 : goal.returns-then-size-ge8
returns-then-size-ge8 c = c.word_at.ensures ∙ sym (word-take (c.args.to - c.args.from) (drop c.args.from c.args.bytes.now) (omega arith))

pub returns-then-size-eq0 : goal.returns-then-size-eq0
returns-then-size-eq0 c = sym (word-none (c.args.to - c.args.from) (drop c.args.from c.args.bytes.now) (omega arith))

pub returns : goal.returns
returns c =
    let n : ℕ = c.args.to - c.args.from in
    let q = c.requires in
    ap (λ w. w * 2 ^ (64 - 8 * n) % 18446744073709551616) c.word_at-2.ensures
    ∙ short_is c.args.bytes.now c.args.from c.args.to n (small_bytes c.args.bytes.now c.type_inv.bytes) refl q.behind q.order q.inside (omega arith) (omega arith)
