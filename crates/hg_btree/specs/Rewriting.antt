-- What a call does that writes three pages of a tree at once. Our own rule.
use Rattle.std.specs.Prelude.{◌≡◌, ◌≢◌, ℕ, ◌+◌, ◌<◌, Bool, true, false, List, Option, Some, None}
use Rattle.hg_base.specs.Space.{Space, Counts, NoPins, IsUnused, key, key_in, at, with_bytes, without_pin}
use Rattle.hg_base.specs.Causes.{Later}
use Rattle.hg_base.specs.declared.File.{File}
use Rattle.hg_base.specs.declared.PageId.{PageId}

-- after a pinned page was written whole and its pin given back
abbrev pub written : Space → ℕ → List ℕ → Space
written s p w = without_pin (with_bytes s p w) p

-- b is a with pins of three pages, and with these pages taken and these successors
abbrev pub with_three : Space → ℕ → ℕ → ℕ → List ℕ → List ℕ → List ℕ → (ℕ → Bool) → (ℕ → Option ℕ) → Counts → Space
with_three a p c n hp hc hn taken next counts = record a {
  taken = taken;
  bytes = at (at (at a.bytes p (Some hp)) c (Some hc)) n (Some hn);
  pinned = at (at (at a.pinned p true) c true) n true;
  pins = a.pins + 1 + 1 + 1;
  next = next;
  counts = counts;
}

-- Three pages are pinned, and no two are one; what their bytes were is not told where the space does not
-- tell.
pub record HoldsThree (a b : Space) (p c n : ℕ) (taken : ℕ → Bool) (next : ℕ → Option ℕ) : Type 0 where
  pub apart : c ≢ p
  pub new_first : n ≢ p
  pub new_second : n ≢ c
  pub hp : List ℕ
  pub hc : List ℕ
  pub hn : List ℕ
  pub hidden_p : a.told ≡ false → a.bytes p ≡ None
  pub hidden_c : a.told ≡ false → a.bytes c ≡ None
  pub hidden_n : a.told ≡ false → a.bytes n ≡ None
  pub counts : Counts
  pub after : b ≡ with_three a p c n hp hc hn taken next counts

-- A page of the file that nothing is said of.
pub record IsNewPage (file : File) (a : Space) (page : PageId) : Type 0 where
  pub in_file : page.file ≡ file
  pub below_limit : page.no < a.limit file
  pub unused : IsUnused a (key page)

-- A page and its child are pinned, and a new page is.
pub record PinsWithNew (a b : Space) (parent child new : PageId) : Type 0 where
  pub is_new : IsNewPage parent.file a new
  pub holds : HoldsThree a b (key parent) (key child) (key new) (at a.taken (key new) true) (at a.next (key new) None)

-- A page is pinned, and two new pages are.
pub record PinsWithTwo (a b : Space) (page lower upper : PageId) : Type 0 where
  pub low_new : IsNewPage page.file a lower
  pub high_new : IsNewPage page.file a upper
  pub holds : HoldsThree a b (key page) (key lower) (key upper) (at (at a.taken (key lower) true) (key upper) true) (at (at a.next (key lower) None) (key upper) None)

-- Three pages were written, and no pin is out; what else differs are these pages taken and these
-- successors.
pub record Rewrites (a d : Space) (p c n : ℕ) (xp xc xn : List ℕ) (taken : ℕ → Bool) (next : ℕ → Option ℕ) : Type 0 where
  pub out : NoPins d
  pub told : d.told ≡ a.told
  pub limit : d.limit ≡ a.limit
  pub device_limit : d.device_limit ≡ a.device_limit
  pub of_heap : d.of_heap ≡ a.of_heap
  pub heaps : d.heaps ≡ a.heaps
  pub taken_is : d.taken ≡ taken
  pub next_is : d.next ≡ next
  pub counts : Later a.counts d.counts
  pub first : a.told ≡ true → d.bytes p ≡ Some xp
  pub second : a.told ≡ true → d.bytes c ≡ Some xc
  pub third : a.told ≡ true → d.bytes n ≡ Some xn
  pub others : (q : ℕ) → q ≢ p → q ≢ c → q ≢ n → d.bytes q ≡ a.bytes q
  pub hidden : a.told ≡ false → (q : ℕ) → d.bytes q ≡ a.bytes q

-- At most one page of a file is not taken.
abbrev pub IsNearlyFull : Space → File → Type 0
IsNearlyFull s file = (n m : ℕ) → n < s.limit file → m < s.limit file → s.taken (key_in file n) ≡ false → s.taken (key_in file m) ≡ false → n ≡ m

-- the successors once a new page stands behind the first of a line
abbrev pub with_linked : (ℕ → Option ℕ) → ℕ → ℕ → ℕ → ℕ → Option ℕ
with_linked f new top num = at (at f new (f top)) top (Some num)

-- A page, its child and a new page were written, and the new one stands behind the first of the line.
pub record WritesSplit (a d : Space) (top parent child : PageId) (num : ℕ) (xp xc xn : List ℕ) : Type 0 where
  pub is_new : IsNewPage parent.file a (record { file = parent.file; no = num })
  pub rewrites : Rewrites a d (key parent) (key child) (key_in parent.file num) xp xc xn (at a.taken (key_in parent.file num) true)
      (with_linked (at a.next (key_in parent.file num) None) (key_in parent.file num) (key top) num)

-- The first page of a line and two new pages were written, and these stand behind it.
pub record WritesTop (a d : Space) (top : PageId) (low high : ℕ) (xp xc xn : List ℕ) : Type 0 where
  pub low_new : IsNewPage top.file a (record { file = top.file; no = low })
  pub high_new : IsNewPage top.file a (record { file = top.file; no = high })
  pub apart : low ≢ high
  pub rewrites : Rewrites a d (key top) (key_in top.file low) (key_in top.file high) xp xc xn (at (at a.taken (key_in top.file low) true) (key_in top.file high) true)
      (with_linked (with_linked (at (at a.next (key_in top.file low) None) (key_in top.file high) None) (key_in top.file high) (key top) high) (key_in top.file low) (key top) low)
