use Rattle.std.proofs.Common.{◌≡◌, ℕ, ◌<◌, ◌∙◌, ap, sym, subst, refl, length, length-set, arith, List, Ok, Err, Some, false, ◌||◌}
use Rattle.hg_base.specs.Space.{key}
use Rattle.hg_base.specs.declared.PageId.{PageId}
use Rattle.hg_pool.specs.Disks.{Disks, disks_in}
use Rattle.hg_pool.specs.Clocking.{is_busy}
use Rattle.hg_pool.specs.Picture.{frame_at, place_at}
use Rattle.hg_pool.specs.Keeping.{set_item, with_frame, with_place, counted}
use Rattle.hg_pool.specs.Passing.{Passes}
use Rattle.hg_pool.specs.Seen.{Frame, FramesSeen}
use Rattle.hg_pool.specs.declared.places.Places.{Places}
use Rattle.hg_pool.specs.declared.store.Answers.{Answers}
use Rattle.hg_pool.specs.declared.store.Store.{Store}
use Rattle.hg_pool.proofs.Moves.{item-here, item-twice}
use Rattle.hg_pool.proofs.Passing.{read-not, read-in, recounted, counted-later, frame-set, place-set}
use Rattle.hg_pool.proofs.Ranges.{has-place}
use Rattle.hg_pool.proofs.Hands.{noted-place}
use Rattle.hg_pool.specs.declared.parts.Parts.{Parts}
use Rattle.hg_pool.specs.FrameLaws.{frame-kept}
use Rattle.hg_pool.proofs.Staying.{frame-filled, owing-kept}
use Rattle.hg_pool.specs.Work.{owed_of}
use Rattle.hg_pool.proofs.parts.Parts.load.Goals as goal

pub fill-requires-clause-there : goal.fill-requires-clause-there
fill-requires-clause-there g c =
    let P : Store → Type 0 = λ z. c.args.at < length z.frames.items in subst P (sym c.count_read.ensures) c.requires.room.there

pub fill-requires-clause-free : goal.fill-requires-clause-free
fill-requires-clause-free g c =
    ap (λ (z : Store). is_busy (frame_at z.frames.items c.args.at)) c.count_read.ensures ∙ (λ i. c.requires.room.free i || c.requires.room.home i)

-- other bytes stand in the frame
read-frames : (s w : Store) (fr : FramesSeen) (i : ℕ) (b : List ℕ) → w ≡ record s { counts = w.counts } → fr ≡ set_item w.frames i (record (frame_at w.frames.items i) { bytes = b })
    → fr ≡ set_item s.frames i (record (frame_at s.frames.items i) { bytes = b })
read-frames s w fr i b e f = f ∙ ap (λ (y : Store). set_item y.frames i (record (frame_at y.frames.items i) { bytes = b })) e

read-store : (s w : Store) (fr : FramesSeen) (i : ℕ) (b : List ℕ) → w ≡ record s { counts = w.counts } → fr ≡ set_item w.frames i (record (frame_at w.frames.items i) { bytes = b })
    → record w { frames = fr } ≡ record (with_frame s i (record (frame_at s.frames.items i) { bytes = b })) { counts = w.counts }
read-store s w fr i b e f = λ j. record (e j) { frames = read-frames s w fr i b e f j }

-- and the page is noted there
filled-frames : (v fr one two : FramesSeen) (i : ℕ) (b : List ℕ) (p : PageId) → i < length v.items → fr ≡ set_item v i (record (frame_at v.items i) { bytes = b })
    → one ≡ set_item fr i (record (frame_at fr.items i) { page = Some p }) → two ≡ set_item one i (record (frame_at one.items i) { dirty = false })
    → two ≡ set_item v i (record (frame_at v.items i) { bytes = b; page = Some p; dirty = false })
filled-frames v fr one two i b p l ef eo et =
    let x : Frame = record (frame_at v.items i) { bytes = b } in
    let y : Frame = record x { page = Some p } in
    let is_one : one ≡ set_item v i y =
    eo ∙ ap (λ (w : FramesSeen). set_item w i (record (frame_at w.items i) { page = Some p })) ef
    ∙ ap (λ (z : Frame). set_item (set_item v i x) i (record z { page = Some p })) (item-here v i x l) ∙ item-twice v i x y in
    et ∙ ap (λ (w : FramesSeen). set_item w i (record (frame_at w.items i) { dirty = false })) is_one
    ∙ ap (λ (z : Frame). set_item (set_item v i y) i (record z { dirty = false })) (item-here v i y l) ∙ item-twice v i y (record y { dirty = false })

filled-store : (s w : Store) (two : FramesSeen) (ps : Places) (i : ℕ) (y : Frame) (p : PageId) → w ≡ record s { counts = w.counts } → two ≡ set_item s.frames i y → ps ≡ with_place w.places p i
    → record w { frames = two; places = ps } ≡ record (with_frame s i y) { places = with_place s.places p i; counts = w.counts }
filled-store s w two ps i y p e f q = λ j. record (e j) { frames = f j; places = (q ∙ ap (λ (z : Store). with_place z.places p i) e) j }

pub returns-in-Err-clause-passes : goal.returns-in-Err-clause-passes
returns-in-Err-clause-passes g c =
    let s : Store = c.args.self.now.store in
    let d : Disks = disks_in g.M.PageDevice g.T.PageDevice c.args.self.now.devices in
    let e : Disks = disks_in g.M.PageDevice g.T.PageDevice c.fill.new.self in
    let i : ℕ = c.args.at in
    let w : Store = c.count_read.new.self in
    let a : Answers = c.count.new.self in
    let b : List ℕ = (frame_at c.fill.new.frames.items i).bytes in
    let P : Store → Type 0 = λ z. Passes {X = Unit {0}} d s e (record z { answers = a }) (Err c.in-Err.fault) in
    let same : w.answers ≡ s.answers = ap (λ (z : Store). z.answers) c.count_read.ensures in
    subst P (sym (read-store s w c.fill.new.frames i b (recounted w s _ c.count_read.ensures) c.fill.ensures.rest))
    (read-not {X = Unit {0}} d e s w.counts a i b c.in-Err.fault c.requires.whole c.requires.room.there c.requires.room.none c.requires.room.home
    c.fill.ensures.keeps c.in-Err.ensures.cause (counted-later w.answers s.answers a same c.count.ensures.later)
    (c.count.ensures.counted ∙ ap (λ b. counted b c.in-Err.fault) same))

pub returns-in-Err-clause-page : goal.returns-in-Err-clause-page
returns-in-Err-clause-page g c =
    let s : Store = c.args.self.now.store in
    let i : ℕ = c.args.at in
    let w : Store = c.count_read.new.self in
    let b : List ℕ = (frame_at c.fill.new.frames.items i).bytes in
    ap (λ (z : Store). (frame_at z.frames.items i).page) (read-store s w c.fill.new.frames i b (recounted w s _ c.count_read.ensures) c.fill.ensures.rest)
    ∙ ap (λ (x : Frame). x.page) (frame-set s i (record (frame_at s.frames.items i) { bytes = b }) c.requires.room.there) ∙ c.requires.room.none

pub returns-in-Err-clause-err_frames : goal.returns-in-Err-clause-err_frames
returns-in-Err-clause-err_frames g c =
    let a : Parts g.row.M.Denot g.row.T.Denot = c.args.self.now in
    let s : Store = a.store in
    let i : ℕ = c.args.at in
    let w : Store = c.count_read.new.self in
    let b : List ℕ = (frame_at c.fill.new.frames.items i).bytes in
    let z : Parts g.row.M.Denot g.row.T.Denot = record { devices = c.fill.new.self; store = record w { frames = c.fill.new.frames; answers = c.count.new.self } } in
    frame-kept a z i (record (frame_at s.frames.items i) { bytes = b }) c.requires.room.there refl
    (ap (λ (fr : FramesSeen). fr.items) (read-frames s w c.fill.new.frames i b (recounted w s _ c.count_read.ensures) c.fill.ensures.rest)) (ap (λ (y : Store). y.places) c.count_read.ensures)

pub returns-in-Err-clause-err_owing : goal.returns-in-Err-clause-err_owing
returns-in-Err-clause-err_owing g c =
    let a : Parts g.row.M.Denot g.row.T.Denot = c.args.self.now in
    let s : Store = a.store in
    let i : ℕ = c.args.at in
    let w : Store = c.count_read.new.self in
    let b : List ℕ = (frame_at c.fill.new.frames.items i).bytes in
    let z : Parts g.row.M.Denot g.row.T.Denot = record { devices = c.fill.new.self; store = record w { frames = c.fill.new.frames; answers = c.count.new.self } } in
    owing-kept a z i (record (frame_at s.frames.items i) { bytes = b }) c.requires.room.there refl
    (ap (λ (fr : FramesSeen). fr.items) (read-frames s w c.fill.new.frames i b (recounted w s _ c.count_read.ensures) c.fill.ensures.rest))

-- the page that came in owes nothing
pub returns-in-Ok-clause-clean : goal.returns-in-Ok-clause-clean
returns-in-Ok-clause-clean g c =
    let s : Store = c.args.self.now.store in
    let i : ℕ = c.args.at in
    let p : PageId = c.args.page in
    let w : Store = c.count_read.new.self in
    let b : List ℕ = (frame_at c.fill.new.frames.items i).bytes in
    let y : Frame = record (frame_at s.frames.items i) { bytes = b; page = Some p; dirty = false } in
    let moved = recounted w s _ c.count_read.ensures in
    let two = filled-frames s.frames c.fill.new.frames c.set_page.new.self c.set_dirty.new.self i b p c.requires.room.there (read-frames s w c.fill.new.frames i b moved c.fill.ensures.rest) c.set_page.ensures c.set_dirty.ensures in
    ap (λ (fr : FramesSeen). owed_of (frame_at fr.items i)) two ∙ ap owed_of (item-here s.frames i y c.requires.room.there)

pub returns-in-Ok-clause-passes : goal.returns-in-Ok-clause-passes
returns-in-Ok-clause-passes g c =
    let s : Store = c.args.self.now.store in
    let d : Disks = disks_in g.M.PageDevice g.T.PageDevice c.args.self.now.devices in
    let e : Disks = disks_in g.M.PageDevice g.T.PageDevice c.fill.new.self in
    let i : ℕ = c.args.at in
    let p : PageId = c.args.page in
    let w : Store = c.count_read.new.self in
    let b : List ℕ = (frame_at c.fill.new.frames.items i).bytes in
    let y : Frame = record (frame_at s.frames.items i) { bytes = b; page = Some p; dirty = false } in
    let moved = recounted w s _ c.count_read.ensures in
    let two = filled-frames s.frames c.fill.new.frames c.set_page.new.self c.set_dirty.new.self i b p c.requires.room.there (read-frames s w c.fill.new.frames i b moved c.fill.ensures.rest) c.set_page.ensures c.set_dirty.ensures in
    let P : Store → Type 0 = λ z. Passes {X = Unit {0}} d s e z (Ok tt) in
    subst P (sym (filled-store s w c.set_dirty.new.self c.set.new.self i y p moved two c.set.ensures))
    (read-in d e s w.counts i b p tt c.requires.whole c.requires.room
    c.fill.ensures.keeps c.in-Ok.ensures.cause c.fill.ensures.whole c.in-Ok.ensures.gives c.requires.taken c.requires.out (has-place s p c.requires.whole.shape c.requires.taken))

pub returns-in-Ok-clause-found : goal.returns-in-Ok-clause-found
returns-in-Ok-clause-found g c =
    let s : Store = c.args.self.now.store in
    let i : ℕ = c.args.at in
    let p : PageId = c.args.page in
    let w : Store = c.count_read.new.self in
    let b : List ℕ = (frame_at c.fill.new.frames.items i).bytes in
    let y : Frame = record (frame_at s.frames.items i) { bytes = b; page = Some p; dirty = false } in
    let moved = recounted w s _ c.count_read.ensures in
    let two = filled-frames s.frames c.fill.new.frames c.set_page.new.self c.set_dirty.new.self i b p c.requires.room.there (read-frames s w c.fill.new.frames i b moved c.fill.ensures.rest) c.set_page.ensures c.set_dirty.ensures in
    let places : c.set.new.self ≡ with_place s.places p i = c.set.ensures ∙ ap (λ (z : Store). with_place z.places p i) moved in record {
      place = sym (ap (λ (k : Places). place_at k (key p)) places ∙ noted-place s.places p i (has-place s p c.requires.whole.shape c.requires.taken));
      there = (let n = ap (λ (fr : FramesSeen). length fr.items) two ∙ length-set s.frames.items i y in let l = c.requires.room.there in omega (arith, n, l));
      holds = ap (λ (fr : FramesSeen). (frame_at fr.items i).page) two ∙ ap (λ (x : Frame). x.page) (item-here s.frames i y c.requires.room.there);
    }

pub returns-in-Ok-clause-fills : goal.returns-in-Ok-clause-fills
returns-in-Ok-clause-fills g c =
    let a : Parts g.row.M.Denot g.row.T.Denot = c.args.self.now in
    let s : Store = a.store in
    let i : ℕ = c.args.at in
    let p : PageId = c.args.page in
    let w : Store = c.count_read.new.self in
    let b : List ℕ = (frame_at c.fill.new.frames.items i).bytes in
    let y : Frame = record (frame_at s.frames.items i) { bytes = b; page = Some p; dirty = false } in
    let moved = recounted w s _ c.count_read.ensures in
    let two = filled-frames s.frames c.fill.new.frames c.set_page.new.self c.set_dirty.new.self i b p c.requires.room.there (read-frames s w c.fill.new.frames i b moved c.fill.ensures.rest) c.set_page.ensures c.set_dirty.ensures in
    let z : Parts g.row.M.Denot g.row.T.Denot = record { devices = c.fill.new.self; store = record w { frames = c.set_dirty.new.self; places = c.set.new.self } } in
    frame-filled a z p i y c.requires.room.there c.requires.room.none refl (ap (λ (fr : FramesSeen). fr.items) two)
    (ap place_at c.set.ensures ∙ ap (λ (k : Store). place_at (with_place k.places p i)) moved ∙ place-set s.places p i (has-place s p c.requires.whole.shape c.requires.taken))
