-- What a loan of a page's bytes leaves of a pool.
use Rattle.std.specs.Prelude.{◌≡◌, ◌≢◌, ℕ, ◌<◌, ◌&&◌, ◌||◌, not, Bool, true, false, List, length, Option, None, Some, if◌then◌else◌, slice_set}
use Rattle.std.proofs.Common.{sym, ◌∙◌, ap, refl, arith, length-set}
use Rattle.std.proofs.lemmas.Bool.Decides.{nat_tests}
use Rattle.std.proofs.lemmas.Grind.{common_steps}
use Rattle.hg_io.specs.declared.device.PageDevice.{Ghosts}
use Rattle.hg_base.specs.Lending.{refit}
use Rattle.hg_base.specs.Space.{at, with_bytes}
use Rattle.hg_base.specs.Changes.{items-set}
use Rattle.hg_pool.specs.Disks.{Disks}
use Rattle.hg_pool.specs.Picture.{Picture, frame_at, place_at, picture_of, shown, is_in, is_pinned, is_lent, bytes_told, is_key_of, no_frame}
use Rattle.hg_pool.specs.Keeping.{with_frame, written}
use Rattle.hg_pool.specs.Shown.{state_of, disks_of}
use Rattle.hg_pool.specs.Keys.{at-here, is_key_of-true, is_key_of-other}
use Rattle.hg_pool.specs.Views.{SameAt, same-pins, same-lent, pinned_by, out_by, held_by, bytes-at, away}
use Rattle.hg_pool.specs.Seen.{Frame}
use Rattle.hg_pool.specs.declared.store.Store.{Store}
use Rattle.hg_pool.specs.declared.parts.Parts.{Parts}

-- the page with that key has these bytes in its frame
abbrev pub with_written : Store → ℕ → List ℕ → Store
with_written s p w = with_frame s (place_at s.places p) (written (frame_at s.frames.items (place_at s.places p)) w)

-- the frames with one of them changed, as a function of the number
pub frames-set : (frames : List Frame) (f : ℕ) (x : Frame) → f < length frames → frame_at (slice_set frames f x) ≡ at (frame_at frames) f x
frames-set frames f x h = items-set frames f x no_frame h

pub picture-frame : (d : Disks) (s : Store) (f : ℕ) (x : Frame) → f < length s.frames.items
    → picture_of d (with_frame s f x) ≡ record (picture_of d s) { frame = at (frame_at s.frames.items) f x }
picture-frame d s f x h = λ i. record (picture_of d (with_frame s f x)) {
  frame = frames-set s.frames.items f x h i;
  current = length-set s.frames.items f x i;
}

-- a frame of a page is there
pub frame-in : (frames : List Frame) (f q : ℕ) → is_key_of q (frame_at frames f).page ≡ true → f < length frames
frame-in frames f q h = grind (arith, nat_tests, common_steps)

pub refit-whole : (xs ws : List ℕ) → length ws ≡ length xs → refit xs ws ≡ ws
refit-whole xs ws e = grind (arith, common_steps)

pub and-left : (s t : Bool) → (s && t) ≡ true → s ≡ true
and-left true t e = refl
and-left false t e = e

or-true : (t : Bool) → (t || true) ≡ true
or-true true = refl
or-true false = refl

told-some : (t s l : Bool) (x b : List ℕ) → (if t && (s && not l) then Some x else None) ≡ Some b → (t ≡ true) × (l ≡ false) × (x ≡ b)
told-some true true false x b e = (refl, refl, cc)
told-some true true true x b e = let n : ◌≡◌ {A = Option (List ℕ)} None (Some b) = e in absurd (cc)
told-some true false l x b e = let n : ◌≡◌ {A = Option (List ℕ)} None (Some b) = e in absurd (cc)
told-some false s l x b e = let n : ◌≡◌ {A = Option (List ℕ)} None (Some b) = e in absurd (cc)

-- what a frame at the place of a page shows of it
abbrev shown_by : Bool → Bool → ℕ → (ℕ → List ℕ) → Frame → Option (List ℕ)
shown_by told taken q page z = if taken && ((told || pinned_by q z) && not (out_by q z)) then Some (held_by q page z) else None

-- other bytes of a page that a pin holds, as many as before
pub shown-written : (a : Picture) (p : ℕ) (b w : List ℕ) → bytes_told a p ≡ Some b → is_pinned a.frame a.place p ≡ true → length w ≡ length b
    → shown (record a { frame = at a.frame (a.place p) (written (a.frame (a.place p)) w) }) ≡ with_bytes (shown a) p w
shown-written a p b w told out long =
    let y : Frame = a.frame (a.place p) in
    let x : Frame = written y w in
    let c : Picture = record a { frame = at a.frame (a.place p) x } in
    let here : c.frame (c.place p) ≡ x = at-here a.frame (a.place p) x in
    let inside : is_key_of p y.page ≡ true = and-left (is_key_of p y.page) y.pinned out in
    let r = is_key_of-true p y.page inside in
    let all = told-some (a.taken p) (a.told || is_pinned a.frame a.place p) (is_lent a.frame a.place p) (held_by p a.page y) b told in
    let bytes : y.bytes ≡ b = sym (ap (λ k. if k then y.bytes else a.page p) inside) ∙ all.2 in
    let fits : refit y.bytes w ≡ w = refit-whole y.bytes w (long ∙ ap length (sym bytes)) in
    let others : (q : ℕ) → q ≢ p → SameAt a c q = λ q apart.
    let other : is_key_of q y.page ≡ false = ap (is_key_of q) r.1 ∙ is_key_of-other q r.0 (λ e. apart (e ∙ r.2)) in
    away a c (a.place p) x q refl refl (λ t. refl) other other in λ i. record (shown c) {
      bytes = λ q. bytes-at a c p (Some w) refl (λ k _. refl) others
          (ap (shown_by a.told (a.taken p) p a.page) here
          ∙ ap (λ s. if s && ((a.told || pinned_by p x) && not (out_by p x)) then Some (held_by p a.page x) else None) all.0
          ∙ ap (λ s. if (a.told || pinned_by p x) && not s then Some (held_by p a.page x) else None) all.1
          ∙ ap (λ s. if (a.told || s) && true then Some (held_by p a.page x) else None) out
          ∙ ap (λ s. if s && true then Some (held_by p a.page x) else None) (or-true a.told)
          ∙ ap (λ s. Some (if s then refit y.bytes w else a.page p)) inside
          ∙ ap Some fits) q i;
      pinned = λ q. same-pins a c p others (ap (pinned_by p) here) q i;
      of_heap = λ q. same-lent a c p others (ap (out_by p) here) q i;
    }

module _ {M T : Type 0} where
  abbrev pub after_write_of : Parts M T → ℕ → List ℕ → Parts M T
  after_write_of s p w = record s { store = with_written s.store p w }

  pub writes_of : (m : Ghosts M) (t : Ghosts T) (s : Parts M T) (p : ℕ) (b w : List ℕ)
      → (state_of m t s).bytes p ≡ Some b → (state_of m t s).pinned p ≡ true → length w ≡ length b
      → state_of m t (after_write_of s p w) ≡ with_bytes (state_of m t s) p w
  writes_of m t s p b w told out long =
      let a : Picture = picture_of (disks_of m t s) s.store in
      let f : ℕ = place_at s.store.places p in
      let there : f < length s.store.frames.items = frame-in s.store.frames.items f p (and-left (is_in a.frame a.place p) (a.frame f).pinned out) in
      ap shown (picture-frame (disks_of m t s) s.store f (written (frame_at s.store.frames.items f) w) there)
      ∙ shown-written a p b w told out long
