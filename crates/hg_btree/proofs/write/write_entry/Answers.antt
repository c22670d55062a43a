use Rattle.std.specs.Prelude.{ℕ, ◌+◌, ◌-◌, List, length}
use Rattle.std.specs.Int.{w16, w64, to_le_bytes}
use Rattle.std.proofs.Common.{◌∙◌, ap, arith}
use borrow.Rule.Slice.PartMut.{put_mid}
use Rattle.hg_btree.specs.Nodes.{width, child_bytes}
use Rattle.hg_btree.proofs.Writing.{entry_written}
use Rattle.hg_btree.proofs.write.write_entry.Goals as goal

pub returns : goal.returns
returns c =
    let key : List ℕ = c.args.key.now in
    let w : ℕ = width c.args.inner in
    let n : ℕ = 10 + length key - 10 in
    let ch : List ℕ = child_bytes c.args.inner c.args.child in
    c.write_child.ensures
    ∙ ap (λ b. put_mid (10 + length key) w (put_mid 10 n b c.copy_from_slice.new.self) ch)
    (c.put_u64.ensures ∙ ap (λ b. put_mid 2 8 b (to_le_bytes w64 c.args.place)) c.put_u16.ensures)
    ∙ ap (λ k. put_mid (10 + length key) w (put_mid 10 n (put_mid 2 8 (put_mid 0 2 c.args.bytes.now (to_le_bytes w16 (length key))) (to_le_bytes w64 c.args.place)) k) ch)
    c.copy_from_slice.ensures.after
    ∙ entry_written c.args.bytes.now key c.args.inner c.args.place c.args.child n c.requires.exact (omega arith)
