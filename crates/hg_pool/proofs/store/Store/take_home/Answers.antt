use Rattle.std.proofs.Common.{◌≡◌, ℕ, Bool, List, false, ◌||◌, ◌∙◌, ap}
use Rattle.hg_raw.specs.Frames.{bytes_of}
use Rattle.hg_pool.specs.Picture.{frame_at}
use Rattle.hg_pool.specs.Keeping.{set_item, put_frame}
use Rattle.hg_pool.specs.Seen.{Frame, FramesSeen}
use Rattle.hg_pool.specs.declared.store.Store.{Store}
use Rattle.hg_pool.proofs.Moves.{item-here, item-twice}
use Rattle.hg_pool.proofs.store.Store.take_home.Goals as goal

pub returns-clause-after : goal.returns-clause-after
returns-clause-after c =
    let s : Store = c.args.self.now in
    let v : FramesSeen = s.frames in
    let i : ℕ = c.args.at in
    let w : List ℕ = bytes_of c.args.chain.frames i in
    let x : Frame = record (frame_at v.items i) { bytes = w; lent = false } in
    let k : Bool = c.args.dirty || c.mark-was.result.dirty in
    let frames : c.set_dirty.new.self ≡ set_item v i (put_frame (frame_at v.items i) w c.args.dirty) =
    c.set_dirty.ensures
    ∙ ap (λ (u : FramesSeen). set_item u i (record (frame_at u.items i) { dirty = k })) c.put.ensures.after
    ∙ ap (λ (z : Frame). set_item (set_item v i x) i (record z { dirty = k })) (item-here v i x c.requires.there)
    ∙ item-twice v i x (record x { dirty = k })
    ∙ ap (λ (t : Bool). set_item v i (record x { dirty = c.args.dirty || t })) c.mark-was.ensures.dirty in
    λ j. record s { frames = frames j; lent = c.saturating_sub-self.ensures j; clock = c.set_out.ensures.changed j }
