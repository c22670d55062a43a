-- What a change of one frame leaves of the pages that are in frames; and the laws that a write of the bytes of a page
-- leaves all of them, the counts, the clock, and what is reserved and handed out.
use Rattle.std.specs.Prelude.{◌≡◌, ◌≢◌, ℕ, ◌<◌, true, List, length, slice_set}
use Rattle.std.proofs.Common.{sym, ◌∙◌, ap, refl, inl, inr}
use Rattle.std.proofs.lemmas.Bool.Decides.{eqb_tells}
use Rattle.hg_io.specs.declared.device.PageDevice.{Ghosts}
use Rattle.hg_base.specs.Space.{at, key}
use Rattle.hg_base.specs.declared.PageId.{PageId}
use Rattle.hg_pool.specs.Picture.{frame_at, place_at, is_in, is_key_of}
use Rattle.hg_pool.specs.Keys.{at-here, at-other}
use Rattle.hg_pool.specs.Loans.{after_write_of, frames-set, frame-in, and-left}
use Rattle.hg_pool.specs.Keeping.{written}
use Rattle.hg_pool.specs.Shown.{state_of, in_frame, page_in, counts_of_pool, clock_of, SameStockOf, SameFrames}
use Rattle.hg_pool.specs.Seen.{Frame}
use Rattle.hg_pool.specs.declared.places.Places.{Places}
use Rattle.hg_pool.specs.declared.parts.Parts.{Parts}

pub here-at : (frame : ℕ → Frame) (place : ℕ → ℕ) (f : ℕ) (x : Frame) (q : ℕ) → place q ≡ f → is_in (at frame f x) place q ≡ is_key_of q x.page
here-at frame place f x q e = ap (λ (y : Frame). is_key_of q y.page) (ap (at frame f x) e ∙ at-here frame f x)

pub other-at : (frame : ℕ → Frame) (place : ℕ → ℕ) (f : ℕ) (x : Frame) (q : ℕ) → place q ≢ f → is_in (at frame f x) place q ≡ is_in frame place q
other-at frame place f x q n = ap (λ (y : Frame). is_key_of q y.page) (at-other frame f x (place q) n)

pub kept-at : (frame : ℕ → Frame) (place : ℕ → ℕ) (f : ℕ) (x : Frame) (q : ℕ) → x.page ≡ (frame f).page → is_in (at frame f x) place q ≡ is_in frame place q
kept-at frame place f x q e =
    elim (eqb_tells (place q) f) [
      | inl h ↦ here-at frame place f x q h.1 ∙ ap (is_key_of q) e ∙ sym (ap (λ k. is_key_of q (frame k).page) h.1)
      | inr n ↦ other-at frame place f x q n.1
    ]

page-kept : (frame : ℕ → Frame) (f : ℕ) (x : Frame) (g : ℕ) → x.page ≡ (frame f).page → (at frame f x g).page ≡ (frame g).page
page-kept frame f x g e =
    elim (eqb_tells g f) [
      | inl h ↦ ap (λ (y : Frame). y.page) (ap (at frame f x) h.1 ∙ at-here frame f x) ∙ e ∙ sym (ap (λ k. (frame k).page) h.1)
      | inr n ↦ ap (λ (y : Frame). y.page) (at-other frame f x g n.1)
    ]

module _ {M T : Type 0} where
  -- whether a page is in a frame, where one frame changed
  pub inside-of : (a b : Parts M T) (f : ℕ) (x : Frame) (q : PageId) → f < length a.store.frames.items → b.store.frames.items ≡ slice_set a.store.frames.items f x
      → in_frame b q ≡ is_in (at (frame_at a.store.frames.items) f x) (place_at b.store.places) (key q)
  inside-of a b f x q there frames =
      ap (λ (l : List Frame). is_in (frame_at l) (place_at b.store.places) (key q)) frames
      ∙ ap (λ g. is_in g (place_at b.store.places) (key q)) (frames-set a.store.frames.items f x there)

  -- the page of a frame, where one frame changed
  pub page-of : (a b : Parts M T) (f : ℕ) (x : Frame) (g : ℕ) → f < length a.store.frames.items → b.store.frames.items ≡ slice_set a.store.frames.items f x
      → page_in b g ≡ (at (frame_at a.store.frames.items) f x g).page
  page-of a b f x g there frames =
      ap (λ (l : List Frame). (frame_at l g).page) frames ∙ ap (λ (k : ℕ → Frame). (k g).page) (frames-set a.store.frames.items f x there)

  -- a frame that changed, but not to another page
  pub frame-kept : (a b : Parts M T) (f : ℕ) (x : Frame) → f < length a.store.frames.items → x.page ≡ (frame_at a.store.frames.items f).page
      → b.store.frames.items ≡ slice_set a.store.frames.items f x → b.store.places ≡ a.store.places → SameFrames a b
  frame-kept a b f x there page frames places =
      let inside : (q : PageId) → in_frame b q ≡ in_frame a q = λ q.
      inside-of a b f x q there frames
      ∙ ap (λ (p : Places). is_in (at (frame_at a.store.frames.items) f x) (place_at p) (key q)) places
      ∙ kept-at (frame_at a.store.frames.items) (place_at a.store.places) f x (key q) page in record {
        stay = λ q h. (inside q ∙ h, ap (λ (p : Places). place_at p (key q)) places);
        none_came = λ q h. inside q ∙ h;
        frames = λ g. page-of a b f x g there frames ∙ page-kept (frame_at a.store.frames.items) f x g page;
      }

  -- the page with that key is pinned, so that it is in a frame
  pub frames-written : (m : Ghosts M) (t : Ghosts T) (s : Parts M T) (p : ℕ) (w : List ℕ) → (state_of m t s).pinned p ≡ true → SameFrames s (after_write_of s p w)
  frames-written m t s p w out =
      let f : ℕ = place_at s.store.places p in
      let x : Frame = frame_at s.store.frames.items f in
      let there : f < length s.store.frames.items = frame-in s.store.frames.items f p (and-left (is_key_of p x.page) x.pinned out) in
      frame-kept s (after_write_of s p w) f (written x w) there refl refl refl

  pub counts-written : (s : Parts M T) (p : ℕ) (w : List ℕ) → counts_of_pool (after_write_of s p w) ≡ counts_of_pool s
  counts-written s p w = refl

  pub clock-written : (s : Parts M T) (p : ℕ) (w : List ℕ) → clock_of (after_write_of s p w) ≡ clock_of s
  clock-written s p w = refl

  pub stock-written : (s : Parts M T) (p : ℕ) (w : List ℕ) → SameStockOf s (after_write_of s p w)
  stock-written s p w = record { lent = refl; max = refl; region = refl }
