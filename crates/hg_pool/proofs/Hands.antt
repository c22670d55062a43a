-- Frames that the hand of the clock takes, and calls that call no device.
use Rattle.std.specs.Prelude.{◌≡◌, ℕ, zero, suc, ◌<◌, List, [], ◌∷◌, length, slice_index, slice_set, Option, None, Some, Ok, Err}
use Rattle.std.proofs.Common.{sym, ◌∙◌, ap, subst, refl, arith}
use Rattle.std.proofs.lemmas.Bool.{false≢true}
use Rattle.hg_base.specs.Space.{key}
use Rattle.hg_base.specs.declared.PageId.{PageId}
use Rattle.hg_pool.specs.Disks.{Disks}
use Rattle.hg_pool.specs.Picture.{shown, picture_of, frame_at, place_at, places_in}
use Rattle.hg_pool.specs.Sound.{IsSound}
use Rattle.hg_pool.specs.Keeping.{with_place}
use Rattle.hg_pool.specs.Keys.{at-here}
use Rattle.hg_pool.specs.Passing.{AreEmpty}
use Rattle.hg_clock.specs.Clock.{ClockState, Takes, frame_count, score_of}
use Rattle.hg_pool.specs.Clocking.{ComesIn, used}
use Rattle.hg_pool.specs.Work.{IsUnused, CallsNone}
use Rattle.hg_pool.specs.declared.places.Places.{Places}
use Rattle.hg_pool.specs.declared.store.Store.{Store}
use Rattle.hg_pool.proofs.Passing.{place-set}

-- Pages and frames.

no-page : (o : Option PageId) → ((p : PageId) → o ≡ Some p → ⊥) → o ≡ None
no-page None h = refl
no-page (Some p) h = absurd (h p refl)

-- where no page is taken, no frame has a page
pub all-empty : (d : Disks) (s : Store) → IsSound d s → IsUnused (shown (picture_of d s)) → AreEmpty s
all-empty d s h unused f = no-page (frame_at s.frames.items f).page (λ p e. false≢true (sym (unused (key p)) ∙ (h.coherent f).taken p e))

-- Pages that come into frames.

-- the hand took the frame f of a page, which was used and is out
pub comes-in : (n : ℕ) (a b c : ClockState) (f g : ℕ) → Takes n a f b → c ≡ used b f → g ≡ f → ComesIn n a c g
comes-in n a b c f g takes held is =
    let P : ℕ → Type 0 = λ k. ComesIn n a c k in
    subst P (sym is) (record { passed = b; takes = takes; after = held })

-- a frame that was used has the score 7
pub used-seven : (c : ClockState) (f : ℕ) → f < frame_count c → score_of (used c f) f ≡ 7
used-seven c f there = slice_index-here c.scores f there
  where
    slice_index-here : (l : List ℕ) (f : ℕ) → f < length l → slice_index (slice_set l f 7) f ≡ 7
    slice_index-here [] f h = absurd (omega (arith, h))
    slice_index-here (x ∷ xs) zero h = refl
    slice_index-here (x ∷ xs) (suc f) h = slice_index-here xs f (omega (arith, h))

-- the frame that was noted for a page is its place
pub noted-place : (s : Places) (page : PageId) (f : ℕ) → page.no < places_in s page.file → place_at (with_place s page f) (key page) ≡ f
noted-place s page f h = ap (λ g. g (key page)) (place-set s page f h) ∙ at-here (place_at s) (key page) f

-- A call that called no device, along another answer.

pub calls-none-ok : {M T X Y E : Type 0} (m m' : M) (t t' : T) (x : X) (y : Y) (full : E) → CallsNone {E = E} m m' t t' (Ok x) full → CallsNone {E = E} m m' t t' (Ok y) full
calls-none-ok m m' t t' x y full h = record { main_same = h.main_same; temp_same = h.temp_same; only_full = tt }

pub calls-none-err : {M T X Y E : Type 0} (m m' : M) (t t' : T) (f full : E) → CallsNone {X = X} m m' t t' (Err f) full → CallsNone {X = Y} m m' t t' (Err f) full
calls-none-err m m' t t' f full h = record { main_same = h.main_same; temp_same = h.temp_same; only_full = h.only_full }
