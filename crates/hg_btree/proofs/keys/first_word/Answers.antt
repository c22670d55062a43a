use Rattle.std.specs.Prelude.{ℕ, List, replicate}
use Rattle.std.proofs.Common.{◌∙◌, ap}
use borrow.Rule.Slice.PartMut.{put_mid}
use Rattle.hg_btree.specs.Keys.{word_of}
use Rattle.hg_btree.proofs.Comparing.{word_is, first_is, eight_long}
use Rattle.hg_btree.proofs.keys.first_word.Goals as goal

pub returns : goal.returns
returns c =
    let m : ℕ = c.min-many.result in
    let key : List ℕ = c.args.key.now in
    c.from_be_bytes.ensures
    ∙ word_is (put_mid 0 m (replicate 8 0) c.copy_from_slice.new.self) 0 (eight_long key m c.copy_from_slice.new.self c.min-many.ensures c.copy_from_slice.ensures.after)
    ∙ ap (λ b. word_of (put_mid 0 m (replicate 8 0) b)) c.copy_from_slice.ensures.after
    ∙ first_is key m c.min-many.ensures
