-- Pages that are handed out with their frames, and put back.
use Rattle.std.specs.Prelude.{◌≡◌, ◌≢◌, ℕ, ◌+◌, ◌-◌, ◌<◌, ◌&&◌, ◌||◌, not, Bool, true, false, List, [], length, Option, None, Some, if◌then◌else◌}
use Rattle.std.proofs.Common.{sym, ◌∙◌, ap, refl, arith, length-set}
use Rattle.std.proofs.lemmas.Bool.{false≢true}
use Rattle.hg_base.specs.Space.{Space, at, key, with_counts, unpinned_bytes, IsSame}
use Rattle.hg_base.specs.declared.PageId.{PageId}
use Rattle.hg_pool.specs.Clocking.{used, back}
use Rattle.hg_pool.specs.Disks.{Disks, page_on, all_told}
use Rattle.hg_pool.specs.Keeping.{with_frame, is_inside, IsFoundAt, lent_frame, put_frame}
use Rattle.hg_pool.specs.Keys.{at-here}
use Rattle.hg_pool.specs.Lending.{handed_out, put_back, IsHandedOut}
use Rattle.hg_pool.specs.Loans.{frames-set, and-left}
use Rattle.hg_pool.specs.Picture.{Picture, picture_of, counts_of, shown, frame_at, place_at, bytes_told}
use Rattle.hg_pool.specs.Passing.{HasRoom}
use Rattle.hg_pool.specs.Seen.{Frame}
use Rattle.hg_pool.specs.Sound.{IsCoherent, IsSound, IsShaped}
use Rattle.hg_pool.specs.Views.{SameAt, away, coherent-at, fits-kept, bytes-at, same-pins, lent-at}
use Rattle.hg_pool.specs.declared.store.Store.{Store}
use Rattle.hg_pool.proofs.Calling.{Ends, sound-of, running-used, running-back, found-of, lent-of}
use Rattle.hg_pool.proofs.Counting.{pins-same, lent-more, lent-less}
use Rattle.hg_pool.proofs.Passing.{shape-kept}
use Rattle.hg_pool.proofs.Steps.{Becomes, bytes-found, lent-found, pinned-found, told-of, was-of, if-unpinned, and-false, none-apart, key-of-other, bool-not}

-- the page in a frame was handed out
pub record Lends (a b : Picture) (p : PageId) (held : List ℕ) : Type 0 where
  pub coherent : IsCoherent b
  pub was : bytes_told a (key p) ≡ unpinned_bytes a.told (Some held)
  pub after : shown b ≡ handed_out (shown a) (key p)

pub lends : (a : Picture) (f : ℕ) (p : PageId) → IsCoherent a → (a.frame f).page ≡ Some p → (a.frame f).pinned ≡ false → (a.frame f).lent ≡ false
    → Lends a (record a { frame = at a.frame f (record (a.frame f) { bytes = []; lent = true }) }) p (a.frame f).bytes
lends a f p h e out home =
    let x : Frame = record (a.frame f) { bytes = []; lent = true } in
    let b : Picture = record a { frame = at a.frame f x } in
    let here : b.frame f ≡ x = at-here a.frame f x in
    let frames : IsCoherent b = coherent-at a b f x refl
    (λ g apart. fits-kept a b g (a.frame g) (h g) refl (λ r d. refl) (λ r d. refl) (λ r d _ t. refl))
    (record {
      found = (h f).found;
      taken = (h f).taken;
      whole = λ r d l. absurd (false≢true (sym l));
      clean = λ r d _ l t. absurd (false≢true (sym l));
      apart = λ p. absurd (false≢true (sym out ∙ p));
      paged = λ _ n. none-apart (a.frame f).page p ⊥ n e;
    }) in
    let e' : (b.frame f).page ≡ Some p = ap (λ (z : Frame). z.page) here ∙ e in
    let others : (q : ℕ) → q ≢ key p → SameAt a b q = λ q apart. away a b f x q refl refl (λ t. refl) (key-of-other q (a.frame f).page p e apart) (key-of-other q (a.frame f).page p e apart) in record {
      coherent = frames;
      was = bytes-found a f p a.told h e (told-of a.told (a.frame f) out home) ∙ was-of a.told (a.frame f).bytes;
      after = λ i. record (shown b) {
        bytes = λ q. bytes-at a b (key p) None refl (λ r _. refl) others
            (bytes-found b f p false frames e' (ap (λ (z : Frame). (a.told || z.pinned) && not z.lent) here ∙ and-false (a.told || x.pinned))) q i;
        pinned = λ q. same-pins a b (key p) others (pinned-found b f p frames e' ∙ ap (λ (z : Frame). z.pinned) here ∙ sym (pinned-found a f p h e)) q i;
        of_heap = λ q. lent-at a b (key p) true others (lent-found b f p frames e' ∙ ap (λ (z : Frame). z.lent) here) q i;
      };
    }

-- a page was put back with the bytes w, which are those on its device unless it is dirty
pub put-again : (a : Picture) (f : ℕ) (p : PageId) (w : List ℕ) (k : Bool) → IsCoherent a → (a.frame f).page ≡ Some p → (a.frame f).lent ≡ true → length w ≡ 4096
    → (k ≡ false → a.told ≡ true → w ≡ a.page (key p))
    → Becomes (record a { frame = at a.frame f (record (a.frame f) { bytes = w; lent = false; dirty = k }) }) (put_back (shown a) (key p) w)
put-again a f p w k h e lent len clean =
    let x : Frame = record (a.frame f) { bytes = w; lent = false; dirty = k } in
    let b : Picture = record a { frame = at a.frame f x } in
    let here : b.frame f ≡ x = at-here a.frame f x in
    let out : (a.frame f).pinned ≡ false = bool-not (a.frame f).pinned (λ t. false≢true (sym ((h f).apart t) ∙ lent)) in
    let frames : IsCoherent b = coherent-at a b f x refl
    (λ g apart. fits-kept a b g (a.frame g) (h g) refl (λ r d. refl) (λ r d. refl) (λ r d _ t. refl))
    (record {
      found = (h f).found;
      taken = (h f).taken;
      whole = λ r d l. len;
      clean = λ r d c _ t. let one : ◌≡◌ {A = Option PageId} (Some p) (Some r) = sym e ∙ d in
          let same : p ≡ r = cc in clean c t ∙ ap (λ (n : PageId). a.page (key n)) same;
      apart = λ _. refl;
      paged = λ l. absurd (false≢true l);
    }) in
    let e' : (b.frame f).page ≡ Some p = ap (λ (z : Frame). z.page) here ∙ e in
    let others : (q : ℕ) → q ≢ key p → SameAt a b q = λ q apart. away a b f x q refl refl (λ t. refl) (key-of-other q (a.frame f).page p e apart) (key-of-other q (a.frame f).page p e apart) in record {
      coherent = frames;
      after = λ i. record (shown b) {
        bytes = λ q. bytes-at a b (key p) (unpinned_bytes a.told (Some w)) refl (λ r _. refl) others
            (bytes-found b f p a.told frames e' (ap (λ (z : Frame). (a.told || z.pinned) && not z.lent) here ∙ told-of a.told x out refl)
            ∙ ap (λ (z : Frame). if a.told then Some z.bytes else None) here ∙ if-unpinned a.told w) q i;
        pinned = λ q. same-pins a b (key p) others (pinned-found b f p frames e' ∙ ap (λ (z : Frame). z.pinned) here ∙ sym (pinned-found a f p h e)) q i;
        of_heap = λ q. lent-at a b (key p) false others (lent-found b f p frames e' ∙ ap (λ (z : Frame). z.lent) here) q i;
      };
    }

-- the store of it
pub record HandsOut (d : Disks) (s z : Store) (p : PageId) (held : List ℕ) : Type 0 where
  pub whole : IsSound d z
  pub ok : IsHandedOut (shown (picture_of d s)) (shown (picture_of d z)) (key p) held

pub hands-out : (d : Disks) (s : Store) (f : ℕ) (p : PageId) → IsSound d s → IsFoundAt s p f → (frame_at s.frames.items f).pinned ≡ false → (frame_at s.frames.items f).lent ≡ false
    → s.lent + 8 < length s.frames.items
    → HandsOut d s (record (with_frame s f (lent_frame (frame_at s.frames.items f))) { lent = s.lent + 1; clock = used s.clock f }) p (frame_at s.frames.items f).bytes
hands-out d s f p h found free home few =
    let y : Frame = lent_frame (frame_at s.frames.items f) in
    let z : Store = record (with_frame s f y) { lent = s.lent + 1; clock = used s.clock f } in
    let b : Picture = record (picture_of d s) { frame = at (frame_at s.frames.items) f y } in
    let step : Lends (picture_of d s) b p (frame_at s.frames.items f).bytes = lends (picture_of d s) f p h.coherent found.holds free home in
    let same : picture_of d z ≡ b = λ i. record (picture_of d z) { frame = frames-set s.frames.items f y found.there i; current = length-set s.frames.items f y i } in record {
      whole = sound-of d s z b same step.coherent refl h
          (shape-kept s z h.shape (pins-same s.frames.items f y found.there refl ∙ h.shape.counted) h.shape.few
          (lent-more s.frames.items f y found.there home refl ∙ ap (λ n. n + 1) h.shape.lent_counted) (omega (arith, few)) (length-set s.frames.items f y)
          (running-used s f y h.shape found.there (ap (λ t. t || true) free)) (λ m. m) refl h.shape.placed (λ to. refl));
      ok = record {
        size = (h.coherent f).whole p found.holds home;
        was = step.was;
        counts = counts_of d s;
        after = ap shown same ∙ step.after;
      };
    }

pub puts-back : (d : Disks) (s : Store) (p : PageId) (w : List ℕ) (dirty : Bool) → IsSound d s → (shown (picture_of d s)).of_heap (key p) ≡ true → length w ≡ 4096
    → ((dirty || (frame_at s.frames.items (place_at s.places (key p))).dirty) ≡ false → all_told d ≡ true → w ≡ page_on d (key p))
    → Ends d (record (with_frame s (place_at s.places (key p)) (put_frame (frame_at s.frames.items (place_at s.places (key p))) w dirty)) { lent = s.lent - 1; clock = back s.clock (place_at s.places (key p)) })
    (put_back (shown (picture_of d s)) (key p) w)
puts-back d s p w dirty h out len clean =
    let a : Picture = picture_of d s in
    let f : ℕ = place_at s.places (key p) in
    let found : IsFoundAt s p f = found-of d s p (and-left (is_inside s (key p)) (a.frame f).lent out) in
    let lent : (a.frame f).lent ≡ true = lent-of d s f p h found ∙ out in
    let pinned : (a.frame f).pinned ≡ false = bool-not (a.frame f).pinned (λ t. false≢true (sym ((h.coherent f).apart t) ∙ lent)) in
    let y : Frame = put_frame (a.frame f) w dirty in
    let z : Store = record (with_frame s f y) { lent = s.lent - 1; clock = back s.clock f } in
    let b : Picture = record a { frame = at (frame_at s.frames.items) f y } in
    let step : Becomes b (put_back (shown a) (key p) w) = put-again a f p w (dirty || (a.frame f).dirty) h.coherent found.holds lent len clean in
    let same : picture_of d z ≡ b = λ i. record (picture_of d z) { frame = frames-set s.frames.items f y found.there i; current = length-set s.frames.items f y i } in record {
      whole = sound-of d s z b same step.coherent refl h
          (shape-kept s z h.shape (pins-same s.frames.items f y found.there refl ∙ h.shape.counted) h.shape.few
          (lent-less s.frames.items f y found.there lent refl ∙ ap (λ n. n - 1) h.shape.lent_counted) (let l = h.shape.lent_fits in omega (arith, l)) (length-set s.frames.items f y)
          (running-back s f y h.shape found.there (ap (λ t. t || false) pinned)) (λ m. m) refl h.shape.placed (λ to. refl));
      after = ap shown same ∙ step.after;
    }

-- the frame of a page that was handed out
pub lent-at-place : (d : Disks) (s : Store) (p : PageId) → IsSound d s → (shown (picture_of d s)).of_heap (key p) ≡ true
    → (place_at s.places (key p) < length s.frames.items) × ((frame_at s.frames.items (place_at s.places (key p))).lent ≡ true)
lent-at-place d s p h out =
    let f : ℕ = place_at s.places (key p) in
    let found : IsFoundAt s p f = found-of d s p (and-left (is_inside s (key p)) (frame_at s.frames.items f).lent out) in
    (found.there, lent-of d s f p h found ∙ out)

pub handed-behind : (a b c : Space) (p : ℕ) (held : List ℕ) → IsSame a b → IsHandedOut b c p held → IsHandedOut a c p held
handed-behind a b c p held s h = record {
  size = h.size;
  was = sym (ap (λ v. v.bytes p) s.after) ∙ h.was ∙ ap (λ (t : Bool). unpinned_bytes t (Some held)) (ap (λ v. v.told) s.after);
  counts = h.counts;
  after = h.after ∙ ap (λ v. with_counts (handed_out v p) h.counts) s.after;
}

-- with more than eight frames that are not handed out there is one that is not out
pub more-room : (s : Store) → IsShaped s → s.lent + 8 < length s.frames.items → HasRoom s
more-room s h few = let a = h.few in omega (arith, a, few)
