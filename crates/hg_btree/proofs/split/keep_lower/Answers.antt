use Rattle.std.specs.Prelude.{ℕ, ◌-◌, List, replicate, drop}
use Rattle.std.proofs.Common.{◌∙◌, ap, refl, arith, length-take, length-drop}
use borrow.Rule.Slice.PartMut.{put_mid}
use Rattle.hg_btree.proofs.Splitting.{lower_kept}
use Rattle.hg_btree.proofs.split.keep_lower.Goals as goal

pub returns : goal.returns
returns c = λ inner level link done todo h a k.
    let end : ℕ = c.number_at-end.result in
    let at : ℕ = c.args.at in
    let p : List ℕ = c.args.page.now in
    let e = c.number_at-end.ensures.value in
    let i = c.requires.inside in
    let w = c.requires.whole in
    let o = c.requires.ends in
    lower_kept inner p (put_mid at (end - at) p c.clear.new.bytes) c.set_head.new.page c.clear.new.bytes level link at end c.args.count (end - at) done todo h a e refl
    (c.clear.ensures ∙ ap (λ n. replicate n 0) (length-take (end - at) (drop at p) ∙ (let d = length-drop at p in omega arith))) refl k c.set_head.ensures
