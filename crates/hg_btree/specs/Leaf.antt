-- What a change of a leaf does to it, and to a space. Our own rule.
use Rattle.std.specs.Prelude.{◌≡◌, ℕ, Bool, true, false, List, ◌∷◌, ◌++◌, Some}
use Rattle.hg_base.specs.Space.{Space, key}
use Rattle.hg_base.specs.Steadiness.{Steady}
use Rattle.hg_base.specs.declared.PageId.{PageId}
use Rattle.hg_btree.specs.Entries.{Entry, AllBy, Before, IsSame}
use Rattle.hg_btree.specs.Nodes.{IsNode, IsBehind}
use Rattle.hg_btree.specs.Steps.{Looks, none_mine, page_mine}

-- An entry was taken out.
pub record Removes (new : List ℕ) (link : ℕ) (es : List Entry) (t : Entry) : Type 0 where
  pub done : List Entry
  pub x : Entry
  pub todo : List Entry
  pub all : es ≡ done ++ x ∷ todo
  pub same : IsSame x t
  pub node : IsNode false new 0 link (done ++ todo)

-- An entry is not there: these are before it, and the first of those is behind it.
pub record Misses (es : List Entry) (t : Entry) : Type 0 where
  pub done : List Entry
  pub todo : List Entry
  pub all : es ≡ done ++ todo
  pub below : AllBy (λ e. Before e t) done
  pub behind : IsBehind todo t

-- the page holds bytes that are so
pub record Holds (b : Space) (page : PageId) (P : List ℕ → Type 0) : Type 0 where
  pub bytes : List ℕ
  pub told : b.bytes (key page) ≡ Some bytes
  pub are : P bytes

-- A page was changed so, and all else is as it was.
pub record ChangesPage (a b : Space) (page : PageId) (P : List ℕ → List ℕ → Type 0) : Type 0 where
  pub steady : Steady (page_mine page) a b
  pub taken : b.taken ≡ a.taken
  pub of_heap : b.of_heap ≡ a.of_heap
  pub links : b.next ≡ a.next
  pub hidden : a.told ≡ false → Steady none_mine a b
  pub others : (q : ℕ) → (q ≡ key page → ⊥) → b.bytes q ≡ a.bytes q
  pub bytes : (old : List ℕ) → a.bytes (key page) ≡ Some old → Holds b page (P old)

-- The page was looked at, and is so.
pub record LooksAt (a b : Space) (page : PageId) (P : List ℕ → Type 0) : Type 0 where
  pub looks : Looks a b
  pub is : (bytes : List ℕ) → a.bytes (key page) ≡ Some bytes → P bytes

abbrev pub TakesFrom : Space → Space → PageId → Entry → Bool → Type 0
TakesFrom a b page t true = ChangesPage a b page (λ old new. (link : ℕ) (es : List Entry) → IsNode false old 0 link es → Removes new link es t)
TakesFrom a b page t false = LooksAt a b page (λ bytes. (link : ℕ) (es : List Entry) → IsNode false bytes 0 link es → Misses es t)
