use Rattle.std.specs.Prelude.{ℕ, ◌≡◌, ◌+◌, ◌-◌, List, length}
use Rattle.std.proofs.Common.{sym, ◌∙◌, ap, arith}
use borrow.Rule.Slice.PartMut.{put_mid}
use Rattle.hg_btree.specs.Entries.{Entry}
use Rattle.hg_btree.proofs.Reading.{length-spelled}
use Rattle.hg_btree.proofs.Writing.{inserted}
use Rattle.hg_btree.proofs.write.insert.Goals as goal

pub returns : goal.returns
returns c = λ level link done todo h a small child.
    let key : List ℕ = c.args.key.now in
    let at : ℕ = c.args.at in
    let x : Entry = record { key = key; place = c.args.place; child = c.args.child } in
    let n : ℕ = 10 + length key + c.tail.result in
    let end : ℕ = c.number_at-end.result in
    let moved : List ℕ = c.copy_within.new.self in
    let k : at + n - at ≡ n = omega arith in
    let t = c.tail.ensures in
    let e = c.number_at-end.ensures.value in
    let room = c.requires.room in
    inserted c.args.inner c.args.page.now moved (put_mid at (at + n - at) moved c.write_entry.new.bytes) c.set_head.new.page level link done todo x at n end c.saturating_add.result
    h a (record { key = c.requires.short; place = small; child = child })
    (ap (λ w. 10 + length key + w) t ∙ sym (length-spelled c.args.inner x))
    e (omega arith)
    c.copy_within.ensures.after
    (ap (λ m. put_mid at m moved c.write_entry.new.bytes) k ∙ ap (put_mid at n moved) c.write_entry.ensures)
    (let s = c.saturating_add.ensures in let v = c.number_at-count.ensures.value in omega arith)
    c.set_head.ensures
