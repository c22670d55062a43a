-- What a space of pages is: a finite map from the pages that are taken to their bytes, the pins
-- that are out, a successor for each page, and counts. Our own rule.
use Rattle.std.specs.Prelude.{◌≡◌, ℕ, ◌+◌, ◌-◌, ◌*◌, ◌<◌, ◌≤◌, ◌==◌, zero, suc, Bool, true, false, List, Option, None, Some, if◌then◌else◌, replicate, length}
use Rattle.std.proofs.Common.{refl, ap, ◌∙◌}
use Rattle.std.proofs.lemmas.List.{length-replicate}
use Rattle.hg_base.specs.Content.{Heaps}
use Rattle.hg_base.specs.declared.File.{File}
use Rattle.hg_base.specs.declared.File.TheVariants.{Main, Temp}
use Rattle.hg_base.specs.declared.PageId.{PageId}

-- A page's key is one number for its file and its number: main pages are even, temporary ones odd.
abbrev pub key_in : File → ℕ → ℕ
key_in Main n = 2 * n
key_in Temp n = 2 * n + 1

abbrev pub key : PageId → ℕ
key page = key_in page.file page.no

-- f with x at the key p
abbrev pub at : {X : Type 0} → (ℕ → X) → ℕ → X → ℕ → X
at f p x q = if q == p then x else f q

-- How often each device failed so far, by its own count; how often a call over this space was answered
-- so, which is what the space itself tells; and how often each file was full. A count stops at
-- 2 ^ 64 - 1.
pub record Counts : Type 0 where
  pub main_device : ℕ
  pub temp_device : ℕ
  pub main : ℕ
  pub temp : ℕ
  pub main_full : ℕ
  pub temp_full : ℕ

-- A space of pages. What it says of a page is a function of the page's key.
pub record Space : Type 0 where
  -- whether the bytes of pages that are not pinned are told; it never changes
  pub told : Bool
  -- the numbers of a file's pages are below this; it never changes
  pub limit : File → ℕ
  -- how many pages each file's device has; it never changes
  pub device_limit : File → ℕ
  pub taken : ℕ → Bool
  -- a page's bytes; None where it is not taken, is of a heap, or its bytes are not told
  pub bytes : ℕ → Option (List ℕ)
  pub pinned : ℕ → Bool
  -- how many pins are out
  pub pins : ℕ
  -- the number of a page's successor, of the same file
  pub next : ℕ → Option ℕ
  pub of_heap : ℕ → Bool
  pub heaps : Heaps
  pub counts : Counts

-- What is told of bytes once no pin holds their page: where the space does not tell, nothing.
abbrev pub unpinned_bytes : Bool → Option (List ℕ) → Option (List ℕ)
unpinned_bytes true b = b
unpinned_bytes false b = None

-- A page of zeros. Its 4,096 bytes are not written out in proofs; the two laws say what it is.
unfoldable pub zero_page : List ℕ
zero_page = replicate 4096 0

pub zero_page-is : zero_page ≡ replicate 4096 0
unfolding zero_page
zero_page-is = refl

pub length-zero_page : length zero_page ≡ 4096
length-zero_page = ap length zero_page-is ∙ length-replicate {A = ℕ} 4096 0

-- The changes of a space, each as the whole space after it.

-- after a pin was made of a page that holds b
abbrev pub with_pin : Space → ℕ → List ℕ → Space
with_pin s p b = record s { bytes = at s.bytes p (Some b); pinned = at s.pinned p true; pins = s.pins + 1 }

abbrev pub without_pin : Space → ℕ → Space
without_pin s p = record s { bytes = at s.bytes p (unpinned_bytes s.told (s.bytes p)); pinned = at s.pinned p false; pins = s.pins - 1 }

-- after a page that was not taken is taken: zeros, pinned, with no successor
abbrev pub with_new : Space → ℕ → Space
with_new s p = record s { taken = at s.taken p true; bytes = at s.bytes p (Some zero_page); pinned = at s.pinned p true; pins = s.pins + 1; next = at s.next p None }

abbrev pub without_page : Space → ℕ → Space
without_page s p = record s { taken = at s.taken p false; bytes = at s.bytes p None; next = at s.next p None }

abbrev pub with_bytes : Space → ℕ → List ℕ → Space
with_bytes s p b = record s { bytes = at s.bytes p (Some b) }

abbrev pub with_next : Space → ℕ → Option ℕ → Space
with_next s p to = record s { next = at s.next p to }

abbrev pub with_counts : Space → Counts → Space
with_counts s n = record s { counts = n }

-- A page that nothing is said of: it may become a new one.
pub record IsUnused (s : Space) (p : ℕ) : Type 0 where
  pub not_taken : s.taken p ≡ false
  pub no_bytes : s.bytes p ≡ None
  pub not_pinned : s.pinned p ≡ false
  pub no_next : s.next p ≡ None
  pub no_heap : s.of_heap p ≡ false

-- A page that may be pinned or released.
pub record IsFree (s : Space) (page : PageId) : Type 0 where
  pub below_limit : page.no < s.limit page.file
  pub taken : s.taken (key page) ≡ true
  pub not_pinned : s.pinned (key page) ≡ false
  pub no_heap : s.of_heap (key page) ≡ false

-- All pages of a file are taken.
abbrev pub IsFull : Space → File → Type 0
IsFull s file = (n : ℕ) → n < s.limit file → s.taken (key_in file n) ≡ true

-- Taken pages have numbers below their file's limit.
abbrev pub IsWithinLimit : Space → File → Type 0
IsWithinLimit s file = (n : ℕ) → s.limit file ≤ n → s.taken (key_in file n) ≡ false

-- how many of a file's pages below a number are taken
abbrev pub taken_below : (ℕ → Bool) → File → ℕ → ℕ
taken_below taken file zero = 0
taken_below taken file (suc n) = (if taken (key_in file n) then 1 else 0) + taken_below taken file n

abbrev pub taken_in : Space → File → ℕ
taken_in s file = taken_below s.taken file (s.limit file)

abbrev pub full_count : Counts → File → ℕ
full_count n Main = n.main_full
full_count n Temp = n.temp_full

-- No pin is out.
pub record NoPins (s : Space) : Type 0 where
  pub none_out : s.pins ≡ 0
  pub not_pinned : (q : ℕ) → s.pinned q ≡ false

-- b is a after a pin was made of p, which holds `held`; where the space tells, p held it before.
pub record IsPinned (a b : Space) (p : ℕ) : Type 0 where
  pub held : List ℕ
  pub size : length held ≡ 4096
  pub was : a.bytes p ≡ unpinned_bytes a.told (Some held)
  pub counts : Counts
  pub after : b ≡ with_counts (with_pin a p held) counts

-- b is a after a page of the file was made and pinned: one that was not taken
pub record IsMade (file : File) (a b : Space) (page : PageId) : Type 0 where
  pub in_file : page.file ≡ file
  pub below_limit : page.no < a.limit file
  pub unused : IsUnused a (key page)
  pub counts : Counts
  pub after : b ≡ with_counts (with_new a (key page)) counts

-- b is a but for the counts
pub record IsSame (a b : Space) : Type 0 where
  pub counts : Counts
  pub after : b ≡ with_counts a counts
