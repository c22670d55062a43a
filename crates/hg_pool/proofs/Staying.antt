-- Which pages stay in frames where one frame changed, and behind several steps.
use Rattle.std.specs.Prelude.{◌≡◌, ◌≢◌, ℕ, ◌<◌, ◌-◌, ◌^◌, false, List, length, None, Some, slice_set}
use Rattle.std.proofs.Common.{sym, ◌∙◌, ap, inl, inr, arith}
use Rattle.std.proofs.lemmas.Bool.{false≢true}
use Rattle.std.proofs.lemmas.Bool.Decides.{eqb_tells}
use Rattle.hg_base.specs.Count.{raised}
use Rattle.hg_base.specs.Space.{at, key}
use Rattle.hg_base.specs.declared.PageId.{PageId}
use Rattle.hg_pool.specs.Picture.{frame_at, place_at, is_in, is_key_of}
use Rattle.hg_pool.specs.Keys.{at-here, at-other, is_key_of-other}
use Rattle.hg_pool.specs.Loans.{frames-set}
use Rattle.hg_pool.specs.FrameLaws.{here-at, other-at, inside-of, page-of}
use Rattle.hg_pool.specs.Shown.{in_frame, frame_of, owed, OwesSame, SameFrames, SameFramesBut, KeepsFramesAll, KeepsFrames}
use Rattle.hg_pool.specs.Work.{owed_of}
use Rattle.hg_pool.specs.Seen.{Frame}
use Rattle.hg_pool.specs.declared.places.Places.{Places}
use Rattle.hg_pool.specs.declared.parts.Parts.{Parts}

-- One frame that changed.

-- a frame of no page
none-at : (frame : ℕ → Frame) (place : ℕ → ℕ) (f : ℕ) (x : Frame) (q : ℕ) → x.page ≡ None → is_in frame place q ≡ false → is_in (at frame f x) place q ≡ false
none-at frame place f x q e out =
    elim (eqb_tells (place q) f) [
      | inl h ↦ here-at frame place f x q h.1 ∙ ap (is_key_of q) e
      | inr n ↦ other-at frame place f x q n.1 ∙ out
    ]

-- another page of a frame that had none
filled-at : (frame : ℕ → Frame) (place : ℕ → ℕ) (f : ℕ) (x : Frame) (q : ℕ) → (frame f).page ≡ None → is_key_of q x.page ≡ false
    → is_in (at frame f x) place q ≡ is_in frame place q
filled-at frame place f x q was now =
    elim (eqb_tells (place q) f) [
      | inl h ↦ here-at frame place f x q h.1 ∙ now ∙ sym (ap (λ k. is_key_of q (frame k).page) h.1 ∙ ap (is_key_of q) was)
      | inr n ↦ other-at frame place f x q n.1
    ]

-- a count that has not reached its end, and was raised, is another one
pub raised-more : (n : ℕ) → n < 2 ^ 64 - 1 → raised n 1 ≡ n → ⊥
raised-more n below same = absurd (omega arith)

module _ {M T : Type 0} where
  -- what the frames owe, where one frame changed: each other one what it owed
  pub owing-but : (a b : Parts M T) (f : ℕ) (x : Frame) → f < length a.store.frames.items → b.store.frames.items ≡ slice_set a.store.frames.items f x
      → (g : ℕ) → g ≢ f → owed b g ≡ owed a g
  owing-but a b f x there frames g n =
      ap (λ (l : List Frame). owed_of (frame_at l g)) frames ∙ ap (λ (k : ℕ → Frame). owed_of (k g)) (frames-set a.store.frames.items f x there)
      ∙ ap owed_of (at-other (frame_at a.store.frames.items) f x g n)

  -- and that one too, where it owes what it owed
  pub owing-kept : (a b : Parts M T) (f : ℕ) (x : Frame) → f < length a.store.frames.items → owed_of x ≡ owed_of (frame_at a.store.frames.items f)
      → b.store.frames.items ≡ slice_set a.store.frames.items f x → OwesSame a b
  owing-kept a b f x there same frames g =
      elim (eqb_tells g f) [
        | inl h ↦ ap (λ (l : List Frame). owed_of (frame_at l g)) frames ∙ ap (λ (k : ℕ → Frame). owed_of (k g)) (frames-set a.store.frames.items f x there)
            ∙ ap owed_of (ap (at (frame_at a.store.frames.items) f x) h.1 ∙ at-here (frame_at a.store.frames.items) f x)
            ∙ same ∙ sym (ap (λ (k : ℕ). owed_of (frame_at a.store.frames.items k)) h.1)
        | inr n ↦ owing-but a b f x there frames g n.1
      ]

  -- frames and places that did not change
  pub frames-stay : (a b : Parts M T) → b.store.frames.items ≡ a.store.frames.items → b.store.places ≡ a.store.places → SameFrames a b
  frames-stay a b frames places =
      let inside : (q : PageId) → in_frame b q ≡ in_frame a q = λ q.
      ap (λ (l : List Frame). is_in (frame_at l) (place_at b.store.places) (key q)) frames
      ∙ ap (λ (p : Places). is_in (frame_at a.store.frames.items) (place_at p) (key q)) places in record {
        stay = λ q h. (inside q ∙ h, ap (λ (p : Places). place_at p (key q)) places);
        none_came = λ q h. inside q ∙ h;
        frames = λ g. ap (λ (l : List Frame). (frame_at l g).page) frames;
      }

  -- a frame that became one of no page
  pub frame-emptied : (a b : Parts M T) (f : ℕ) (x : Frame) → f < length a.store.frames.items → x.page ≡ None
      → b.store.frames.items ≡ slice_set a.store.frames.items f x → b.store.places ≡ a.store.places → KeepsFramesAll a b f
  frame-emptied a b f x there page frames places =
      let frame : ℕ → Frame = frame_at a.store.frames.items in
      let place : ℕ → ℕ = place_at a.store.places in
      let inside : (q : PageId) → in_frame b q ≡ is_in (at frame f x) place (key q) = λ q.
      inside-of a b f x q there frames ∙ ap (λ (p : Places). is_in (at frame f x) (place_at p) (key q)) places in record {
        stay = λ q h n. (inside q ∙ other-at frame place f x (key q) n ∙ h, ap (λ (p : Places). place_at p (key q)) places);
        none_came = λ q h. inside q ∙ none-at frame place f x (key q) page h;
        frames = λ g n. page-of a b f x g there frames ∙ ap (λ (y : Frame). y.page) (at-other frame f x g n);
        owing = owing-but a b f x there frames;
      }

  -- a page that came into a frame of no page
  pub frame-filled : (a b : Parts M T) (page : PageId) (f : ℕ) (x : Frame) → f < length a.store.frames.items → (frame_at a.store.frames.items f).page ≡ None → x.page ≡ Some page
      → b.store.frames.items ≡ slice_set a.store.frames.items f x → place_at b.store.places ≡ at (place_at a.store.places) (key page) f → KeepsFrames a b page f
  frame-filled a b page f x there was now frames places =
      let frame : ℕ → Frame = frame_at a.store.frames.items in
      let place : ℕ → ℕ = place_at a.store.places in
      let stays : (q : PageId) → key q ≢ key page → frame_of b q ≡ frame_of a q = λ q n. ap (λ (g : ℕ → ℕ). g (key q)) places ∙ at-other place (key page) f (key q) n in
      let inside : (q : PageId) → key q ≢ key page → in_frame b q ≡ in_frame a q = λ q n.
      inside-of a b f x q there frames
      ∙ ap (λ (k : ℕ). is_key_of (key q) (at frame f x k).page) (stays q n)
      ∙ filled-at frame place f x (key q) was (ap (is_key_of (key q)) now ∙ is_key_of-other (key q) page n) in record {
        stay = λ q n h _. (inside q n ∙ h, stays q n);
        none_came = λ q n h. inside q n ∙ h;
        frames = λ g n. page-of a b f x g there frames ∙ ap (λ (y : Frame). y.page) (at-other frame f x g n);
        owing = owing-but a b f x there frames;
      }

  -- One step behind another.

  pub same-but : (a b : Parts M T) (page : PageId) → SameFrames a b → OwesSame a b → SameFramesBut a b page
  same-but a b page h o = record { stay = λ q n i. h.stay q i; none_came = λ q n o. h.none_came q o; frames = λ g n. h.frames g; owing = λ g n. o g }

  pub same-then : (a b c : Parts M T) → SameFrames a b → SameFrames b c → SameFrames a c
  same-then a b c h k = record {
    stay = λ q i. let one = h.stay q i in let two = k.stay q one.0 in (two.0, two.1 ∙ one.1);
    none_came = λ q o. k.none_came q (h.none_came q o);
    frames = λ g. k.frames g ∙ h.frames g;
  }

  -- a page that was away from f is so still
  still-away : (a b : Parts M T) (f : ℕ) (q : PageId) → frame_of b q ≡ frame_of a q → frame_of a q ≢ f → frame_of b q ≢ f
  still-away a b f q e n h = n (sym e ∙ h)

  pub same-then-keeps : (a b c : Parts M T) (f : ℕ) → SameFrames a b → ((g : ℕ) → g ≢ f → owed b g ≡ owed a g) → KeepsFramesAll b c f → KeepsFramesAll a c f
  same-then-keeps a b c f h o k = record {
    stay = λ q i n. let one = h.stay q i in let two = k.stay q one.0 (still-away a b f q one.1 n) in (two.0, two.1 ∙ one.1);
    none_came = λ q o. k.none_came q (h.none_came q o);
    frames = λ g n. k.frames g n ∙ h.frames g;
    owing = λ g n. k.owing g n ∙ o g n;
  }

  pub keeps-then-same : (a b c : Parts M T) (f : ℕ) → KeepsFramesAll a b f → SameFrames b c → OwesSame b c → KeepsFramesAll a c f
  keeps-then-same a b c f h k o = record {
    stay = λ q i n. let one = h.stay q i n in let two = k.stay q one.0 in (two.0, two.1 ∙ one.1);
    none_came = λ q o. k.none_came q (h.none_came q o);
    frames = λ g n. k.frames g ∙ h.frames g n;
    owing = λ g n. o g ∙ h.owing g n;
  }

  pub keeps-then-but : (a b c : Parts M T) (page : PageId) (f : ℕ) → KeepsFramesAll a b f → KeepsFrames b c page f → KeepsFrames a c page f
  keeps-then-but a b c page f h k = record {
    stay = λ q n i m. let one = h.stay q i m in let two = k.stay q n one.0 (still-away a b f q one.1 m) in (two.0, two.1 ∙ one.1);
    none_came = λ q n o. k.none_came q n (h.none_came q o);
    frames = λ g n. k.frames g n ∙ h.frames g n;
    owing = λ g n. k.owing g n ∙ h.owing g n;
  }

  pub but-then-same : (a b c : Parts M T) (page : PageId) (f : ℕ) → KeepsFrames a b page f → SameFrames b c → OwesSame b c → KeepsFrames a c page f
  but-then-same a b c page f h k o = record {
    stay = λ q n i m. let one = h.stay q n i m in let two = k.stay q one.0 in (two.0, two.1 ∙ one.1);
    none_came = λ q n o. k.none_came q (h.none_came q n o);
    frames = λ g n. k.frames g ∙ h.frames g n;
    owing = λ g n. o g ∙ h.owing g n;
  }

  -- the frame held that page
  pub keeps-held : (a b : Parts M T) (page : PageId) (f : ℕ) → (frame_at a.store.frames.items f).page ≡ Some page → KeepsFramesAll a b f → SameFramesBut a b page
  keeps-held a b page f holds h = record {
    stay = λ q n i. h.stay q i (λ e. false≢true (sym (ap (λ (k : ℕ). is_key_of (key q) (frame_at a.store.frames.items k).page) e ∙ ap (is_key_of (key q)) holds ∙ is_key_of-other (key q) page n) ∙ i));
    none_came = λ q n o. h.none_came q o;
    frames = λ g n. h.frames g (λ e. n (ap (λ (k : ℕ). (frame_at a.store.frames.items k).page) e ∙ holds));
    owing = λ g n. h.owing g (λ e. n (ap (λ (k : ℕ). (frame_at a.store.frames.items k).page) e ∙ holds));
  }
