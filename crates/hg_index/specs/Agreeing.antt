-- How a table and its indexes agree. Our own rule.
--
--   versions of the table    a     b     c     d        d died, and is born of a change that was refused
--   entries of an index      a     b     c              it has no entry: nobody asks for it
--   entries of another one   a     b     c     d
--
-- Each entry of an index is that of a version of the table, seen or not, and no version has two. A version
-- that is asked for has its entry in each index. Which versions are asked for, the layers above say: those
-- that a snapshot may see, or all.
use Rattle.std.specs.Prelude.{◌≡◌, ℕ, ◌≤◌, Bool, true, List, [], ◌∷◌, ◌++◌, map, flat_map, Some, ⊤}
use Rattle.std.specs.List.{AllByRecursion}
use Rattle.std.specs.List.Sorted.{IsPermutation}
use Rattle.hg_base.specs.Lines.{IsLine, has_page}
use Rattle.hg_base.specs.Space.{Space}
use Rattle.hg_base.specs.declared.File.TheVariants.{Main}
use Rattle.hg_base.specs.declared.Index.{Index}
use Rattle.hg_base.specs.declared.Table.{Table}
use Rattle.hg_btree.specs.Entries.{Entry}
use Rattle.hg_btree.specs.Trees.{IsTree}
use Rattle.hg_model.specs.Visible.{is_visible}
use Rattle.hg_model.specs.declared.trees.Column.{Column}
use Rattle.hg_table.specs.Agreement.{IsTableOver}
use Rattle.hg_table.specs.Chains.{IsChain}
use Rattle.hg_table.specs.Versions.{Placed}
use Rattle.hg_index.specs.Entering.{entry_of, IsEnterable}

-- an index has just the entries of these versions
pub record IsIndexOf (s : Space) (i : Index) (pages : List ℕ) (leaves : ℕ) (versions : List Placed) : Type 0 where
  pub entries : List Entry
  pub tree : IsTree i.tree.file s i.tree.top entries pages leaves
  pub are : IsPermutation entries (map (entry_of i.columns.items) versions)
  pub may : AllByRecursion (IsEnterable i.columns.items) versions

-- An index of a table's versions has entries of all of them but some that are not asked for.
pub record IsIndexOver (s : Space) (asked : Placed → Type 0) (i : Index) (pages : List ℕ) (versions : List Placed) : Type 0 where
  pub leaves : ℕ
  pub entered : List Placed
  pub left : List Placed
  pub index : IsIndexOf s i pages leaves entered
  pub all : IsPermutation versions (entered ++ left)
  pub not_asked : AllByRecursion (λ v. asked v → ⊥) left

-- all versions are asked for: each has its entry
abbrev pub all_asked : Placed → Type 0
all_asked v = ⊤

-- those are asked for that some snapshot from the oldest one on may see
abbrev pub may_be_seen : (ℕ → Bool) → ℕ → Placed → Type 0
may_be_seen committed oldest v = (snapshot : ℕ) × (oldest ≤ snapshot) × (is_visible committed snapshot v.version ≡ true)

-- an index, and its pages
pub record IndexOn : Type 0 where
  pub index : Index
  pub pages : List ℕ

abbrev pub index_pages : IndexOn → List ℕ
index_pages x = x.pages

-- its pages are a line of the main file
pub record HasLine (s : Space) (x : IndexOn) : Type 0 where
  pub in_main : x.index.tree.file ≡ Main
  pub line : IsLine Main s (Some x.index.tree.top) x.pages

abbrev pub StandsOver : Space → (Placed → Type 0) → List Placed → IndexOn → Type 0
StandsOver s asked versions x = IsIndexOver s asked x.index x.pages versions

-- no page is of both, and of two of several
abbrev pub AreDisjoint : List ℕ → List ℕ → Type 0
AreDisjoint p q = (x : ℕ) → has_page p x ≡ true → has_page q x ≡ true → ⊥

abbrev pub AreAllDisjoint : List (List ℕ) → Type 0
AreAllDisjoint [] = ⊤
AreAllDisjoint (p ∷ ps) = AllByRecursion (AreDisjoint p) ps × AreAllDisjoint ps

-- all pages of a table and its indexes
abbrev pub owned : List ℕ → List IndexOn → List ℕ
owned pages indexes = pages ++ flat_map index_pages indexes

-- The pages of a table and of its indexes, over every space; no page is of two of them.
pub record HavePages (s : Space) (t : Table) (pages : List ℕ) (indexes : List IndexOn) : Type 0 where
  pub chain : IsChain s t pages
  pub lines : AllByRecursion (HasLine s) indexes
  pub disjoint : AreAllDisjoint (pages ∷ map index_pages indexes)

-- Where the space tells: the table stands, and each of its indexes is one of its versions.
pub record Agrees (s : Space) (asked : Placed → Type 0) (t : Table) (columns : List Column) (pages : List ℕ) (indexes : List IndexOn) (versions : List Placed) : Type 0 where
  pub own : HavePages s t pages indexes
  pub table : IsTableOver s t columns pages versions
  pub over : AllByRecursion (StandsOver s asked versions) indexes

-- A version was put into the table, which has the versions `now`: the first indexes have its entry too, and
-- the others are still those of the versions that were there before.
pub record AgreesUpTo (s : Space) (asked : Placed → Type 0) (t : Table) (columns : List Column) (pages : List ℕ) (done rest : List IndexOn) (was now : List Placed) : Type 0 where
  pub own : HavePages s t pages (done ++ rest)
  pub table : IsTableOver s t columns pages now
  pub over_now : AllByRecursion (StandsOver s asked now) done
  pub over_was : AllByRecursion (StandsOver s asked was) rest

-- An index is being made beside the others: it has entries of these versions.
pub record AgreesBeside (s : Space) (asked : Placed → Type 0) (t : Table) (columns : List Column) (pages : List ℕ) (indexes : List IndexOn) (x : IndexOn) (entered versions : List Placed) : Type 0 where
  pub agrees : Agrees s asked t columns pages indexes versions
  pub own : HavePages s t pages (indexes ++ x ∷ [])
  pub leaves : ℕ
  pub beside : IsIndexOf s x.index x.pages leaves entered
