-- Pages that are taken have numbers below the limits.
use Rattle.std.specs.Prelude.{◌≡◌, ℕ, zero, suc, ◌<◌, ◌≤◌, Bool, true, false, Some}
use Rattle.std.proofs.Common.{sym, ◌∙◌, ap, inl, inr, arith}
use Rattle.std.proofs.lemmas.Bool.{false≢true}
use Rattle.std.proofs.lemmas.Bool.Decides.{eqb_tells}
use Rattle.hg_base.specs.Space.{at, key, key_in}
use Rattle.hg_base.specs.declared.File.{File}
use Rattle.hg_base.specs.declared.File.TheVariants.{Main, Temp}
use Rattle.hg_base.specs.declared.PageId.{PageId}
use Rattle.hg_space.specs.Shown.{pages_of}
use Rattle.hg_pool.specs.Disks.{Disks, pages_in}
use Rattle.hg_pool.specs.Picture.{frame_at, taken_at, limit_of, places_in, room_in}
use Rattle.hg_pool.specs.Sound.{IsSound, IsShaped, AreSound}
use Rattle.hg_pool.specs.Keeping.{TakesLowest}
use Rattle.hg_pool.specs.Keys.{at-here, at-other, by_key-main, by_key-temp}
use Rattle.hg_pool.specs.declared.maps.Maps.{Maps}
use Rattle.hg_pool.specs.declared.store.Store.{Store}

pub taken-below : (m : Maps) (file : File) (n : ℕ) → AreSound m → taken_at m (key_in file n) ≡ true → n < limit_of m file
taken-below m Main n h e = h.main.within n (sym (by_key-main (pages_of m.main).used (pages_of m.temp).used n) ∙ e)
taken-below m Temp n h e = h.temp.within n (sym (by_key-temp (pages_of m.main).used (pages_of m.temp).used n) ∙ e)

-- a taken page has a place, and a page on its device
pub has-place : (s : Store) (p : PageId) → IsShaped s → taken_at s.maps (key p) ≡ true → p.no < places_in s.places p.file
has-place s p h e = h.placed p.file p.no e

-- the lowest page that is not taken has the next place, or one already, and there is room for it
pub next-place : (s : Store) (m : Maps) (file : File) (n : ℕ) → IsShaped s → TakesLowest file s.maps m n → n ≤ places_in s.places file
next-place s m file zero h takes = omega arith
next-place s m file (suc n) h takes = let l = h.placed file n (takes.lower n (omega arith)) in omega arith

pub next-room : (s : Store) (m : Maps) (file : File) (n : ℕ) → IsShaped s → TakesLowest file s.maps m n → n < room_in s.places file
next-room s m file n h takes = let l = takes.below in let k = h.room file in omega arith

-- what is taken where a page was given back was taken before
pub was-taken : (taken : ℕ → Bool) (p q : ℕ) → at taken p false q ≡ true → taken q ≡ true
was-taken taken p q t = elim (eqb_tells q p) [
  | inl e ↦ absurd (false≢true (sym (ap (at taken p false) e.1 ∙ at-here taken p false) ∙ t))
  | inr n ↦ sym (at-other taken p false q n.1) ∙ t
]

limit-fits : (d : Disks) (s : Store) (file : File) → IsSound d s → limit_of s.maps file ≤ pages_in d file
limit-fits d s Main h = h.main_fits
limit-fits d s Temp h = h.temp_fits

pub on-device : (d : Disks) (s : Store) (p : PageId) → IsSound d s → taken_at s.maps (key p) ≡ true → p.no < pages_in d p.file
on-device d s p h e = let l = taken-below s.maps p.file p.no h.shape.maps e in let k = limit-fits d s p.file h in omega arith

-- a page that is in a frame is on its device
pub held-on-device : (d : Disks) (s : Store) (f : ℕ) (p : PageId) → IsSound d s → (frame_at s.frames.items f).page ≡ Some p → p.no < pages_in d p.file
held-on-device d s f p h e = on-device d s p h ((h.coherent f).taken p e)
