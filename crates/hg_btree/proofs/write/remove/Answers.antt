use Rattle.std.specs.Prelude.{ℕ, ◌-◌, List, replicate, drop}
use Rattle.std.proofs.Common.{◌∙◌, ap, refl, arith, length-take, length-drop}
use borrow.Rule.Slice.PartMut.{put_mid}
use Rattle.hg_btree.proofs.Writing.{removed}
use Rattle.hg_btree.proofs.write.remove.Goals as goal

pub returns : goal.returns
returns c = λ inner level link done x todo h a f.
    let at : ℕ = c.args.at in
    let end : ℕ = c.number_at-end.result in
    let free : ℕ = end - (c.args.after - at) in
    let moved : List ℕ = c.copy_within.new.self in
    let e = c.number_at-end.ensures.value in
    let o = c.requires.order in
    let to = c.requires.to in
    let inside = c.requires.inside in
    let whole = c.requires.whole in
    let lm = c.copy_within.ensures.len in
    removed inner c.args.page.now moved (put_mid free (end - free) moved c.clear.new.bytes) c.set_head.new.page c.clear.new.bytes level link done x todo
    at c.args.after end c.saturating_sub.result free (end - free)
    h a f e c.copy_within.ensures.after refl refl
    (c.clear.ensures ∙ ap (λ n. replicate n 0) (length-take (end - free) (drop free moved) ∙ (let d = length-drop free moved in omega arith)))
    refl
    (let s = c.saturating_sub.ensures in let v = c.number_at-count.ensures.value in omega arith)
    c.set_head.ensures
