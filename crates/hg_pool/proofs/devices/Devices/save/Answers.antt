use Rattle.std.proofs.Common.{◌≡◌, ℕ, ◌∙◌, ap, refl, List}
use Rattle.hg_raw.specs.Frames.{ChainSeen, bytes_of}
use Rattle.hg_pool.specs.Seen.{FramesSeen}
use Rattle.hg_pool.specs.Picture.{frame_at}
use Rattle.hg_pool.specs.Keeping.{set_item}
use Rattle.hg_pool.proofs.Moves.{put-back, item-same, one-bytes}
use Rattle.hg_pool.proofs.devices.Devices.save.Goals as goal

pub returns-clause-same : goal.returns-clause-same
returns-clause-same g c =
    let v : FramesSeen = c.args.frames.now in
    let f : ℕ = c.args.at in
    let done = put-back v c.lend-chain.new.self c.put.new.self f _ c.requires.there c.requires.free c.lend-chain.ensures.after c.put.ensures.after in
    let is : bytes_of c.lend-chain.result.frames f ≡ (frame_at v.items f).bytes = ap (λ (s : ChainSeen). bytes_of s.frames f) c.lend-chain.ensures.chain ∙ one-bytes f (frame_at v.items f).bytes in
    done ∙ ap (λ (b : List ℕ). set_item v f (record (frame_at v.items f) { bytes = b })) is ∙ item-same v f (frame_at v.items f) refl
