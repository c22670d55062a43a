use Rattle.std.specs.Prelude.{ℕ, ◌+◌, ◌-◌, take, drop}
use Rattle.hg_btree.specs.Nodes.{place_at}
use Rattle.hg_btree.proofs.Comparing.{small_bytes, small-part, first_less, first_greater}
use Rattle.hg_btree.proofs.node.compare_at.Goals as goal

pub returns-then-own-first : goal.returns-then-own-first
returns-then-own-first c =
    let from : ℕ = c.args.at + 10 in
    let n : ℕ = c.args.key_end - from in
    first_less (take n (drop from c.args.page.now)) c.args.key.now c.first_word_in-own.result c.args.first (place_at c.args.page.now (c.args.at + 2)) c.args.place
    (small-part n from c.args.page.now (small_bytes _ c.type_inv.page)) (small_bytes _ c.type_inv.key) c.first_word_in-own.ensures c.requires.first c.if-own-first.true

pub returns-then-own-first-2 : goal.returns-then-own-first-2
returns-then-own-first-2 c =
    let from : ℕ = c.args.at + 10 in
    let n : ℕ = c.args.key_end - from in
    first_greater (take n (drop from c.args.page.now)) c.args.key.now c.first_word_in-own.result c.args.first (place_at c.args.page.now (c.args.at + 2)) c.args.place
    (small-part n from c.args.page.now (small_bytes _ c.type_inv.page)) (small_bytes _ c.type_inv.key) c.first_word_in-own.ensures c.requires.first c.if-own-first-2.true
