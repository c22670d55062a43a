-- What every call over a space keeps. Our own rule.
use Rattle.std.specs.Prelude.{◌≡◌, ℕ, true, false}
use Rattle.hg_base.specs.Space.{Space, NoPins}
use Rattle.hg_base.specs.Causes.{Later}

-- What an object owned before a call and what it took in it: pages by key, heaps, requests.
pub record Mine : Type 1 where
  pub pages : ℕ → Type 0
  pub heaps : ℕ → Type 0
  pub requests : ℕ → Type 0

-- an object that owns pages of no heap alone
abbrev pub these_pages : (ℕ → Type 0) → Mine
these_pages P = record { pages = P; heaps = λ _. ⊥; requests = λ _. ⊥ }

-- a taken page of no heap
pub record IsPlain (s : Space) (q : ℕ) : Type 0 where
  pub taken : s.taken q ≡ true
  pub no_heap : s.of_heap q ≡ false

-- a page is there as before, with its bytes, as far as they are told, and its successor
pub record IsSamePage (a b : Space) (q : ℕ) : Type 0 where
  pub taken : b.taken q ≡ a.taken q
  pub of_heap : b.of_heap q ≡ a.of_heap q
  pub bytes : b.bytes q ≡ a.bytes q
  pub next : b.next q ≡ a.next q

-- No pin is out before and after. Of what is not mine nothing changed: the same pages are taken and of
-- a heap, also those of heaps of others, the taken ones of no heap have their bytes and successors,
-- and heaps, caps and peaks are as before, and so is how many frames are in use, and how many may be. No count of faults or of full files fell.
pub record Steady (mine : Mine) (a b : Space) : Type 0 where
  pub pins_before : NoPins a
  pub pins_after : NoPins b
  pub told : b.told ≡ a.told
  pub limit : b.limit ≡ a.limit
  pub device_limit : b.device_limit ≡ a.device_limit
  pub taken : (q : ℕ) → (mine.pages q → ⊥) → b.taken q ≡ a.taken q
  pub of_heap : (q : ℕ) → (mine.pages q → ⊥) → b.of_heap q ≡ a.of_heap q
  pub pages : (q : ℕ) → (mine.pages q → ⊥) → IsPlain a q → IsSamePage a b q
  pub heaps : (h : ℕ) → (mine.heaps h → ⊥) → b.heaps.heap h ≡ a.heaps.heap h
  pub current : b.heaps.current ≡ a.heaps.current
  pub most : b.heaps.most ≡ a.heaps.most
  pub caps : (r : ℕ) → b.heaps.cap r ≡ a.heaps.cap r
  pub peaks : (r : ℕ) → (mine.requests r → ⊥) → b.heaps.peak r ≡ a.heaps.peak r
  pub counts : Later a.counts b.counts
