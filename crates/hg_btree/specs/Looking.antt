-- What is found on single pages of a tree. Our own rule.
use Rattle.std.specs.Prelude.{◌≡◌, ℕ, ◌<◌, Bool, true, false, List, Some, None}
use Rattle.hg_btree.specs.Entries.{Entry}
use Rattle.hg_btree.specs.Nodes.{IsNode, IsWay, IsFirst}
use Rattle.hg_btree.specs.declared.look.OnLeaf.{OnLeaf}
use Rattle.hg_btree.specs.declared.look.OnLeaf.TheVariants.{Entry as At, Next, End}

-- a leaf, or an inner page, whatever its entries
pub record IsTreePage (page : List ℕ) : Type 0 where
  pub inner : Bool
  pub level : ℕ
  pub link : ℕ
  pub es : List Entry
  pub node : IsNode inner page level link es
  pub leaf : inner ≡ false → level ≡ 0
  pub above : inner ≡ true → 0 < level

-- Where the way to t leads from a page: of a leaf only the level is known.
pub record LeadsFrom (page : List ℕ) (t : Entry) (level child : ℕ) : Type 0 where
  pub leaf : (link : ℕ) (es : List Entry) → IsNode false page 0 link es → level ≡ 0
  pub inner : (l link : ℕ) (es : List Entry) → IsNode true page l link es → 0 < l → (level ≡ l) × ((at : ℕ) × IsWay link es t at child)

-- What a leaf tells of the first entry that is not before t: where it is on the leaf, its place, its key
-- being this; else the next leaf, or that there is none.
abbrev pub SeeksOn : List Entry → ℕ → Entry → List ℕ → OnLeaf → Type 0
SeeksOn es link t key (At place) = IsFirst es t (Some place) key
SeeksOn es link t key (Next next) = IsFirst es t None key × (next ≡ link) × (link ≡ 4294967295 → ⊥)
SeeksOn es link t key End = IsFirst es t None key × (link ≡ 4294967295)
