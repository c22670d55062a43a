use Rattle.std.proofs.Common.{◌≡◌, ℕ, ◌∙◌, ap, sym, length, List, replicate, Some, true}
use Rattle.hg_base.specs.Space.{zero_page, zero_page-is}
use Rattle.hg_base.specs.Lending.{refit}
use Rattle.hg_pool.specs.Loans.{refit-whole}
use Rattle.hg_pool.specs.Seen.{Frame, FramesSeen}
use Rattle.hg_pool.specs.Picture.{frame_at}
use Rattle.hg_pool.specs.Keeping.{set_item, write_item}
use Rattle.hg_pool.proofs.Moves.{renewed, item-here}
use Rattle.hg_pool.proofs.frames.Frames.renew.Goals as goal

pub returns : goal.returns
returns c =
    let v : FramesSeen = c.args.self.now in
    let f = c.args.at in
    let x : Frame = record (frame_at v.items f) { pinned = true } in
    let w : List ℕ = c.fill.new.self in
    let was : c.bytes_mut.result.now ≡ (frame_at v.items f).bytes =
    c.bytes_mut.ensures.value ∙ ap (λ (z : FramesSeen). (frame_at z.items f).bytes) c.hold.ensures ∙ ap (λ (y : Frame). y.bytes) (item-here v f x c.requires.there) in
    let zeros : refit (frame_at v.items f).bytes w ≡ zero_page =
    refit-whole (frame_at v.items f).bytes w (c.fill.ensures.len ∙ ap length was)
    ∙ c.fill.ensures.after (λ y same. same) ∙ ap (λ n. replicate n 0) c.bytes_mut.ensures.whole ∙ sym zero_page-is in
    c.set_page.ensures
    ∙ ap (λ (z : FramesSeen). set_item (write_item z f w) f (record (frame_at (write_item z f w).items f) { page = Some c.args.page })) c.hold.ensures
    ∙ renewed v f c.args.page w c.requires.there c.requires.free zeros
