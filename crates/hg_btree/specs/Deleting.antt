-- What a deletion does to a tree. Our own rule.
use Rattle.std.specs.Prelude.{◌≡◌, ℕ, Bool, true, false, List, ◌∷◌, ◌++◌}
use Rattle.hg_base.specs.Space.{Space, key_in}
use Rattle.hg_base.specs.Steadiness.{Mine, these_pages}
use Rattle.hg_base.specs.Lines.{has_page}
use Rattle.hg_base.specs.declared.File.{File}
use Rattle.hg_btree.specs.Entries.{Entry, AllBy, IsSame}
use Rattle.hg_btree.specs.Trees.{IsTree}

-- the entry with this key and place was among the others, and is not now
pub record TakenOut (old new : List Entry) (t : Entry) : Type 0 where
  pub before : List Entry
  pub x : Entry
  pub after : List Entry
  pub was : old ≡ before ++ x ∷ after
  pub now : new ≡ before ++ after
  pub same : IsSame x t

-- no entry has this key and place
abbrev pub Lacks : List Entry → Entry → Type 0
Lacks es t = AllBy (λ e. IsSame e t → ⊥) es

-- It is a tree with one entry less, on the same pages.
pub record IsTreeWithout (file : File) (b : Space) (top : ℕ) (es : List Entry) (pages : List ℕ) (leaves : ℕ) (t : Entry) : Type 0 where
  pub now : List Entry
  pub out : TakenOut es now t
  pub tree : IsTree file b top now pages leaves

abbrev pub Deletes : File → Space → ℕ → List Entry → List ℕ → ℕ → Entry → Bool → Type 0
Deletes file b top es pages leaves t true = IsTreeWithout file b top es pages leaves t
Deletes file b top es pages leaves t false = Lacks es t × IsTree file b top es pages leaves

-- a call that owns these pages of a file
abbrev pub pages_mine : File → List ℕ → Mine
pages_mine file pages = these_pages (λ q. (n : ℕ) × (q ≡ key_in file n) × (has_page pages n ≡ true))
