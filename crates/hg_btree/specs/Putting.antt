-- What putting an entry into a leaf does to it, to a space, and to a tree. Our own rule.
use Rattle.std.specs.Prelude.{◌≡◌, ℕ, ◌+◌, ◌<◌, false, List, ◌∷◌, ◌++◌, length}
use Rattle.hg_base.specs.Space.{Space}
use Rattle.hg_base.specs.declared.File.{File}
use Rattle.hg_base.specs.declared.PageId.{PageId}
use Rattle.hg_btree.specs.Entries.{Entry, AllBy, Before, IsSame}
use Rattle.hg_btree.specs.Nodes.{number, IsNode, IsBehind}
use Rattle.hg_btree.specs.Trees.{IsTree}
use Rattle.hg_btree.specs.Leaf.{ChangesPage, LooksAt}
use Rattle.hg_btree.specs.declared.change.Put.{Put}
use Rattle.hg_btree.specs.declared.change.Put.TheVariants.{New, Old, NoRoom}

-- An entry was put in, behind those before it and before those behind it.
pub record Adds (new : List ℕ) (link : ℕ) (es : List Entry) (t : Entry) : Type 0 where
  pub done : List Entry
  pub todo : List Entry
  pub all : es ≡ done ++ todo
  pub below : AllBy (λ e. Before e t) done
  pub behind : IsBehind todo t
  pub node : IsNode false new 0 link (done ++ t ∷ todo)

-- An entry has this key and place.
pub record Has (es : List Entry) (t : Entry) : Type 0 where
  pub before : List Entry
  pub x : Entry
  pub after : List Entry
  pub all : es ≡ before ++ x ∷ after
  pub same : IsSame x t

-- the bytes of the entry do not fit the leaf
abbrev pub IsFullFor : List ℕ → Entry → Type 0
IsFullFor page t = 4096 < number page 4 + 10 + length t.key

abbrev pub PutsInto : Space → Space → PageId → Entry → Put → Type 0
PutsInto a b page t New = ChangesPage a b page (λ old new. (link : ℕ) (es : List Entry) → IsNode false old 0 link es → Adds new link es t)
PutsInto a b page t Old = LooksAt a b page (λ bytes. (link : ℕ) (es : List Entry) → IsNode false bytes 0 link es → Has es t)
PutsInto a b page t NoRoom = LooksAt a b page (λ bytes. IsFullFor bytes t)

-- the entry was not among the others, and is now
pub record PutIn (old new : List Entry) (t : Entry) : Type 0 where
  pub before : List Entry
  pub after : List Entry
  pub was : old ≡ before ++ after
  pub now : new ≡ before ++ t ∷ after
  pub below : AllBy (λ e. Before e t) before
  pub behind : AllBy (λ e. Before t e) after

-- It is a tree with one entry more, on the same pages.
pub record IsTreeWith (file : File) (b : Space) (top : ℕ) (es : List Entry) (pages : List ℕ) (leaves : ℕ) (t : Entry) : Type 0 where
  pub now : List Entry
  pub put : PutIn es now t
  pub tree : IsTree file b top now pages leaves

abbrev pub Puts : File → Space → ℕ → List Entry → List ℕ → ℕ → Entry → Put → Type 0
Puts file b top es pages leaves t New = IsTreeWith file b top es pages leaves t
Puts file b top es pages leaves t Old = Has es t × IsTree file b top es pages leaves
Puts file b top es pages leaves t NoRoom = IsTree file b top es pages leaves
