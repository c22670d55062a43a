use Rattle.std.proofs.Common.{ℕ, ◌∙◌, sym, ap, List}
use Rattle.hg_pool.specs.Seen.{Frame, FramesSeen}
use Rattle.hg_pool.specs.Picture.{frame_at}
use Rattle.hg_pool.specs.Keeping.{set_item}
use Rattle.hg_pool.proofs.Moves.{put-back, item-here}
use Rattle.hg_pool.proofs.devices.Devices.fill.Goals as goal

pub returns-clause-rest : goal.returns-clause-rest
returns-clause-rest g c =
    let v : FramesSeen = c.args.frames.now in
    let f : ℕ = c.args.at in
    let done = put-back v c.lend-chain.new.self c.put.new.self f _ c.requires.there c.requires.free c.lend-chain.ensures.after c.put.ensures.after in
    let is = ap (λ (w : FramesSeen). (frame_at w.items f).bytes) done ∙ ap (λ (y : Frame). y.bytes) (item-here v f _ c.requires.there) in
    done ∙ ap (λ (b : List ℕ). set_item v f (record (frame_at v.items f) { bytes = b })) (sym is)
