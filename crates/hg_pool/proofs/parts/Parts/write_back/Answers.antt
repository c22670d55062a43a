use Rattle.std.proofs.Common.{◌≡◌, ℕ, ◌∙◌, ap, sym, subst, refl, Ok, Err, false}
use Rattle.hg_pool.specs.Disks.{Disks, disks_in}
use Rattle.hg_pool.specs.Picture.{frame_at}
use Rattle.hg_pool.specs.Clocking.{is_busy}
use Rattle.hg_pool.specs.Keeping.{with_frame, counted}
use Rattle.hg_pool.specs.Passing.{Passes}
use Rattle.hg_pool.specs.Seen.{Frame, FramesSeen}
use Rattle.hg_pool.specs.declared.store.Answers.{Answers}
use Rattle.hg_pool.specs.declared.store.Store.{Store}
use Rattle.hg_pool.proofs.Ranges.{held-on-device}
use Rattle.hg_pool.proofs.Passing.{wrote, wrote-not, recounted, counted-later, frame-set}
use Rattle.hg_pool.specs.declared.parts.Parts.{Parts}
use Rattle.hg_pool.specs.FrameLaws.{frame-kept}
use Rattle.hg_pool.specs.Loans.{frames-set}
use Rattle.hg_pool.specs.Keys.{at-other}
use Rattle.hg_pool.proofs.Staying.{frames-stay}
use Rattle.hg_pool.specs.Work.{owed_of}
use Rattle.hg_pool.proofs.parts.Parts.write_back.Goals as goal

pub save-requires-clause-in_range : goal.save-requires-clause-in_range
save-requires-clause-in_range g c = held-on-device _ c.args.self.now.store c.args.at c.args.page c.requires.whole c.requires.page

-- the store behind the write: frames are as they were
moved-in : (s w : Store) (fr : FramesSeen) → w ≡ record s { counts = w.counts } → fr ≡ w.frames → record w { frames = fr } ≡ record s { counts = w.counts }
moved-in s w fr e f = ap (λ (k : FramesSeen). record w { frames = k }) f ∙ e

-- and with the frame's page on its device
after-in : (s w z : Store) (fr : FramesSeen) (i : ℕ) → w ≡ record s { counts = w.counts } → fr ≡ w.frames
    → z ≡ with_frame (record w { frames = fr }) i (record (frame_at fr.items i) { dirty = false })
    → z ≡ record (with_frame s i (record (frame_at s.frames.items i) { dirty = false })) { counts = w.counts }
after-in s w z fr i e f a = a ∙ ap (λ (y : Store). with_frame y i (record (frame_at y.frames.items i) { dirty = false })) (moved-in s w fr e f)

pub returns-in-Err-clause-passes : goal.returns-in-Err-clause-passes
returns-in-Err-clause-passes g c =
    let s : Store = c.args.self.now.store in
    let d : Disks = disks_in g.M.PageDevice g.T.PageDevice c.args.self.now.devices in
    let e : Disks = disks_in g.M.PageDevice g.T.PageDevice c.save.new.self in
    let w : Store = c.count_write.new.self in
    let a : Answers = c.count.new.self in
    let moved = moved-in s w c.save.new.frames (recounted w s _ c.count_write.ensures) c.save.ensures.same in
    let P : Store → Type 0 = λ z. Passes {X = Unit {0}} d s e (record z { answers = a }) (Err c.in-Err.failed) in
    let same : w.answers ≡ s.answers = ap (λ (z : Store). z.answers) c.count_write.ensures in
    subst P (sym moved) (wrote-not {X = Unit {0}} d e s w.counts a c.args.at c.args.page c.in-Err.failed c.requires.whole c.requires.page c.requires.dirty
    c.save.ensures.keeps c.in-Err.ensures.cause (counted-later w.answers s.answers a same c.count.ensures.later)
    (c.count.ensures.counted ∙ ap (λ b. counted b c.in-Err.failed) same))

pub returns-in-Ok-clause-passes : goal.returns-in-Ok-clause-passes
returns-in-Ok-clause-passes g c =
    let s : Store = c.args.self.now.store in
    let d : Disks = disks_in g.M.PageDevice g.T.PageDevice c.args.self.now.devices in
    let e : Disks = disks_in g.M.PageDevice g.T.PageDevice c.save.new.self in
    let w : Store = c.count_write.new.self in
    let i : ℕ = c.args.at in
    let P : Store → Type 0 = λ z. Passes {X = Unit {0}} d s e z (Ok tt) in
    let after = after-in s w c.set_clean.new.self c.save.new.frames i (recounted w s _ c.count_write.ensures) c.save.ensures.same c.set_clean.ensures in
    let bytes : (frame_at w.frames.items i).bytes ≡ (frame_at s.frames.items i).bytes = ap (λ (z : Store). (frame_at z.frames.items i).bytes) c.count_write.ensures in
    subst P (sym after) (wrote d e s w.counts i c.args.page tt c.requires.whole c.requires.there c.requires.page c.save.ensures.keeps c.in-Ok.ensures.cause
    (λ t. c.in-Ok.ensures.puts t ∙ bytes))

pub returns-in-Err-clause-busy : goal.returns-in-Err-clause-busy
returns-in-Err-clause-busy g c =
    let i : ℕ = c.args.at in
    ap (λ (z : FramesSeen). is_busy (frame_at z.items i)) c.save.ensures.same ∙ ap (λ (z : Store). is_busy (frame_at z.frames.items i)) c.count_write.ensures

pub returns-in-Ok-clause-busy : goal.returns-in-Ok-clause-busy
returns-in-Ok-clause-busy g c =
    let s : Store = c.args.self.now.store in
    let w : Store = c.count_write.new.self in
    let i : ℕ = c.args.at in
    let after = after-in s w c.set_clean.new.self c.save.new.frames i (recounted w s _ c.count_write.ensures) c.save.ensures.same c.set_clean.ensures in
    ap (λ (z : Store). is_busy (frame_at z.frames.items i)) after ∙ ap is_busy (frame-set s i (record (frame_at s.frames.items i) { dirty = false }) c.requires.there)

pub returns-in-Ok-clause-clean : goal.returns-in-Ok-clause-clean
returns-in-Ok-clause-clean g c =
    let s : Store = c.args.self.now.store in
    let w : Store = c.count_write.new.self in
    let i : ℕ = c.args.at in
    let after = after-in s w c.set_clean.new.self c.save.new.frames i (recounted w s _ c.count_write.ensures) c.save.ensures.same c.set_clean.ensures in
    ap (λ (z : Store). (frame_at z.frames.items i).dirty) after ∙ ap (λ (x : Frame). x.dirty) (frame-set s i (record (frame_at s.frames.items i) { dirty = false }) c.requires.there)

pub returns-in-Err-clause-frames : goal.returns-in-Err-clause-frames
returns-in-Err-clause-frames g c =
    let a : Parts g.row.M.Denot g.row.T.Denot = c.args.self.now in
    let b : Parts g.row.M.Denot g.row.T.Denot = record { devices = c.save.new.self; store = record c.count_write.new.self { frames = c.save.new.frames; answers = c.count.new.self } } in
    frames-stay a b (ap (λ (z : FramesSeen). z.items) c.save.ensures.same ∙ ap (λ (z : Store). z.frames.items) c.count_write.ensures) (ap (λ (z : Store). z.places) c.count_write.ensures)

pub returns-in-Ok-clause-frames : goal.returns-in-Ok-clause-frames
returns-in-Ok-clause-frames g c =
    let a : Parts g.row.M.Denot g.row.T.Denot = c.args.self.now in
    let b : Parts g.row.M.Denot g.row.T.Denot = record { devices = c.save.new.self; store = c.set_clean.new.self } in
    let s : Store = a.store in
    let w : Store = c.count_write.new.self in
    let i : ℕ = c.args.at in
    let x : Frame = record (frame_at s.frames.items i) { dirty = false } in
    let after = after-in s w c.set_clean.new.self c.save.new.frames i (recounted w s _ c.count_write.ensures) c.save.ensures.same c.set_clean.ensures in
    frame-kept a b i x c.requires.there refl (ap (λ (z : Store). z.frames.items) after) (ap (λ (z : Store). z.places) after)

pub returns-in-Err-clause-others : goal.returns-in-Err-clause-others
returns-in-Err-clause-others g c =
    λ k n. ap (λ (z : FramesSeen). frame_at z.items k) c.save.ensures.same ∙ ap (λ (z : Store). frame_at z.frames.items k) c.count_write.ensures

pub returns-in-Err-clause-failed : goal.returns-in-Err-clause-failed
returns-in-Err-clause-failed g c =
    let i : ℕ = c.args.at in
    ap (λ (z : FramesSeen). frame_at z.items i) c.save.ensures.same ∙ ap (λ (z : Store). frame_at z.frames.items i) c.count_write.ensures

pub returns-in-Err-clause-err_owing : goal.returns-in-Err-clause-err_owing
returns-in-Err-clause-err_owing g c =
    λ k. ap (λ (z : FramesSeen). owed_of (frame_at z.items k)) c.save.ensures.same ∙ ap (λ (z : Store). owed_of (frame_at z.frames.items k)) c.count_write.ensures

pub returns-in-Ok-clause-others : goal.returns-in-Ok-clause-others
returns-in-Ok-clause-others g c =
    let s : Store = c.args.self.now.store in
    let w : Store = c.count_write.new.self in
    let i : ℕ = c.args.at in
    let x : Frame = record (frame_at s.frames.items i) { dirty = false } in
    let after = after-in s w c.set_clean.new.self c.save.new.frames i (recounted w s _ c.count_write.ensures) c.save.ensures.same c.set_clean.ensures in
    λ k n. ap (λ (z : Store). frame_at z.frames.items k) after ∙ ap (λ f. f k) (frames-set s.frames.items i x c.requires.there) ∙ at-other (frame_at s.frames.items) i x k n
