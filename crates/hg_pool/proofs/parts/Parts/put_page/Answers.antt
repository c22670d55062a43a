use Rattle.std.proofs.Common.{◌≡◌, ℕ, ◌-◌, ◌<◌, ◌||◌, Bool, false, List, None, ◌∙◌, ap, sym, subst, refl, length}
use Rattle.hg_base.specs.Space.{key}
use Rattle.hg_raw.specs.Frames.{bytes_of}
use Rattle.hg_pool.specs.Clocking.{back}
use Rattle.hg_pool.specs.Disks.{Disks, disks_in}
use Rattle.hg_pool.specs.FrameLaws.{frame-kept}
use Rattle.hg_pool.specs.Keeping.{with_frame, put_frame, is_inside, IsFoundAt}
use Rattle.hg_pool.specs.Loans.{and-left}
use Rattle.hg_pool.specs.Picture.{shown, picture_of, frame_at, place_at}
use Rattle.hg_pool.specs.Seen.{Frame}
use Rattle.hg_pool.specs.Sound.{IsSound}
use Rattle.hg_pool.specs.Work.{owed_by, owed_of}
use Rattle.hg_pool.specs.declared.parts.Parts.{Parts}
use Rattle.hg_pool.specs.declared.store.Store.{Store}
use Rattle.hg_pool.proofs.Asking.{owed-some, owed-none}
use Rattle.hg_pool.proofs.Staying.{owing-but}
use Rattle.hg_pool.proofs.Calling.{found-of}
use Rattle.hg_pool.proofs.HandedOut.{puts-back, lent-at-place}
use Rattle.hg_pool.proofs.InFrames.{not-or}
use Rattle.hg_pool.proofs.Passing.{ticks, frame-set}
use Rattle.hg_pool.proofs.parts.Parts.put_page.Goals as goal

-- the store behind it, with the frame by its place
put-after : (s z : Store) (i f : ℕ) (frames : List (ℕ × List ℕ)) (dirty : Bool) → i ≡ f
    → z ≡ record (with_frame s i (put_frame (frame_at s.frames.items i) (bytes_of frames i) dirty)) { lent = s.lent - 1; clock = back s.clock i }
    → z ≡ record (with_frame s f (put_frame (frame_at s.frames.items f) (bytes_of frames f) dirty)) { lent = s.lent - 1; clock = back s.clock f }
put-after s z i f frames dirty e h = h ∙ ap (λ (k : ℕ). record (with_frame s k (put_frame (frame_at s.frames.items k) (bytes_of frames k) dirty)) { lent = s.lent - 1; clock = back s.clock k }) e

-- it is not dirty, and so neither said to be nor was
clean-of : (x : Frame) (dirty : Bool) (P : Type 0) → (dirty ≡ false → owed_of x ≡ None → P) → (dirty || x.dirty) ≡ false → P
clean-of x dirty P h e = let both = not-or dirty x.dirty e in h both.0 (owed-none x (λ _ _. both.1))

pub returns-clause-whole : goal.returns-clause-whole
returns-clause-whole g c =
    let s : Store = c.args.self.now.store in
    let d : Disks = disks_in g.M.PageDevice g.T.PageDevice c.args.self.now.devices in
    let f : ℕ = place_at s.places (key c.args.page) in
    let after = put-after s c.take_home.new.self c.at-at.result f c.args.chain.frames c.args.dirty c.at-at.ensures c.take_home.ensures.after in
    let len : length (bytes_of c.args.chain.frames f) ≡ 4096 = ap (λ (k : ℕ). length (bytes_of c.args.chain.frames k)) (sym c.at-at.ensures) ∙ c.take_home.ensures.whole in
    let P : Store → Type 0 = λ z. IsSound d z in
    subst P (sym after) (puts-back d s c.args.page (bytes_of c.args.chain.frames f) c.args.dirty c.requires.whole c.requires.out len
    (clean-of (frame_at s.frames.items f) c.args.dirty _ c.requires.unchanged)).whole

pub returns-clause-after : goal.returns-clause-after
returns-clause-after g c =
    let s : Store = c.args.self.now.store in
    let d : Disks = disks_in g.M.PageDevice g.T.PageDevice c.args.self.now.devices in
    let f : ℕ = place_at s.places (key c.args.page) in
    let after = put-after s c.take_home.new.self c.at-at.result f c.args.chain.frames c.args.dirty c.at-at.ensures c.take_home.ensures.after in
    let len : length (bytes_of c.args.chain.frames f) ≡ 4096 = ap (λ (k : ℕ). length (bytes_of c.args.chain.frames k)) (sym c.at-at.ensures) ∙ c.take_home.ensures.whole in
    ap (λ (z : Store). shown (picture_of d z)) after
    ∙ (puts-back d s c.args.page (bytes_of c.args.chain.frames f) c.args.dirty c.requires.whole c.requires.out len
    (clean-of (frame_at s.frames.items f) c.args.dirty _ c.requires.unchanged)).after

pub returns-clause-owing : goal.returns-clause-owing
returns-clause-owing g c =
    let s : Store = c.args.self.now.store in
    let d : Disks = disks_in g.M.PageDevice g.T.PageDevice c.args.self.now.devices in
    let f : ℕ = place_at s.places (key c.args.page) in
    let x : Frame = frame_at s.frames.items f in
    let y : Frame = put_frame x (bytes_of c.args.chain.frames f) c.args.dirty in
    let after = put-after s c.take_home.new.self c.at-at.result f c.args.chain.frames c.args.dirty c.at-at.ensures c.take_home.ensures.after in
    λ e. ap (λ (z : Store). owed_of (frame_at z.frames.items f)) after ∙ ap owed_of (frame-set s f y (lent-at-place d s c.args.page c.requires.whole c.requires.out).0)
    ∙ ap (λ (t : Bool). owed_by (t || x.dirty) x.page) e

pub returns-clause-owing_dirty : goal.returns-clause-owing_dirty
returns-clause-owing_dirty g c =
    let s : Store = c.args.self.now.store in
    let d : Disks = disks_in g.M.PageDevice g.T.PageDevice c.args.self.now.devices in
    let f : ℕ = place_at s.places (key c.args.page) in
    let x : Frame = frame_at s.frames.items f in
    let y : Frame = put_frame x (bytes_of c.args.chain.frames f) c.args.dirty in
    let after = put-after s c.take_home.new.self c.at-at.result f c.args.chain.frames c.args.dirty c.at-at.ensures c.take_home.ensures.after in
    let found : IsFoundAt s c.args.page f = found-of d s c.args.page (and-left (is_inside s (key c.args.page)) x.lent c.requires.out) in
    λ e. ap (λ (z : Store). owed_of (frame_at z.frames.items f)) after ∙ ap owed_of (frame-set s f y found.there)
    ∙ owed-some y c.args.page found.holds (ap (λ (t : Bool). t || x.dirty) e)

pub returns-clause-owing_others : goal.returns-clause-owing_others
returns-clause-owing_others g c =
    let a : Parts g.row.M.Denot g.row.T.Denot = c.args.self.now in
    let s : Store = a.store in
    let d : Disks = disks_in g.M.PageDevice g.T.PageDevice c.args.self.now.devices in
    let f : ℕ = place_at s.places (key c.args.page) in
    let y : Frame = put_frame (frame_at s.frames.items f) (bytes_of c.args.chain.frames f) c.args.dirty in
    let after = put-after s c.take_home.new.self c.at-at.result f c.args.chain.frames c.args.dirty c.at-at.ensures c.take_home.ensures.after in
    owing-but a (record a { store = c.take_home.new.self }) f y (lent-at-place d s c.args.page c.requires.whole c.requires.out).0
    (ap (λ (z : Store). z.frames.items) after)

pub returns-clause-clock : goal.returns-clause-clock
returns-clause-clock g c = ap (λ (z : Store). z.clock) c.take_home.ensures.after ∙ ap (λ (k : ℕ). back c.args.self.now.store.clock k) c.at-at.ensures

pub returns-clause-stock : goal.returns-clause-stock
returns-clause-stock g c = record {
  lent = ap (λ (z : Store). z.lent) c.take_home.ensures.after;
  max = ap (λ (z : Store). z.frames.max) c.take_home.ensures.after;
  region = ap (λ (z : Store). z.frames.region) c.take_home.ensures.after;
}

pub returns-clause-counts : goal.returns-clause-counts
returns-clause-counts g c = ap (λ (z : Store). z.counts) c.take_home.ensures.after

pub returns-clause-frames : goal.returns-clause-frames
returns-clause-frames g c =
    let a : Parts g.row.M.Denot g.row.T.Denot = c.args.self.now in
    let s : Store = a.store in
    let d : Disks = disks_in g.M.PageDevice g.T.PageDevice c.args.self.now.devices in
    let f : ℕ = place_at s.places (key c.args.page) in
    let y : Frame = put_frame (frame_at s.frames.items f) (bytes_of c.args.chain.frames f) c.args.dirty in
    let after = put-after s c.take_home.new.self c.at-at.result f c.args.chain.frames c.args.dirty c.at-at.ensures c.take_home.ensures.after in
    frame-kept a (record a { store = c.take_home.new.self }) f y (lent-at-place d s c.args.page c.requires.whole c.requires.out).0 refl
    (ap (λ (z : Store). z.frames.items) after) (ap (λ (z : Store). z.places) after)

pub take_home-requires-clause-there : goal.take_home-requires-clause-there
take_home-requires-clause-there g c =
    let s : Store = c.args.self.now.store in
    let P : ℕ → Type 0 = λ k. k < length s.frames.items in
    subst P (sym c.at-at.ensures) (lent-at-place (disks_in g.M.PageDevice g.T.PageDevice c.args.self.now.devices) s c.args.page c.requires.whole c.requires.out).0

pub take_home-requires-clause-lent : goal.take_home-requires-clause-lent
take_home-requires-clause-lent g c =
    let s : Store = c.args.self.now.store in
    ap (λ (k : ℕ). (frame_at s.frames.items k).lent) c.at-at.ensures
    ∙ (lent-at-place (disks_in g.M.PageDevice g.T.PageDevice c.args.self.now.devices) s c.args.page c.requires.whole c.requires.out).1

pub take_home-requires-clause-clock : goal.take_home-requires-clause-clock
take_home-requires-clause-clock g c = ticks c.args.self.now.store c.at-at.result c.requires.whole.shape (take_home-requires-clause-there g c)
