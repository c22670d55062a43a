-- How a page of a tree is cut in two. Our own rule.
use Rattle.std.specs.Prelude.{◌≡◌, ℕ, ◌+◌, Bool, List, ◌∷◌, ◌++◌, length}
use Rattle.hg_btree.specs.Entries.{Entry}
use Rattle.hg_btree.specs.Nodes.{spelled, spelling}

-- A page is cut at an entry: so many stand before it, and others behind it.
pub record IsCut (inner : Bool) (es : List Entry) (at after count : ℕ) : Type 0 where
  pub lower : List Entry
  pub middle : Entry
  pub upper : List Entry
  pub all : es ≡ lower ++ middle ∷ upper
  pub at_is : at ≡ 16 + length (spelling inner lower)
  pub after_is : after ≡ at + length (spelled inner middle)
  pub count_is : count ≡ length lower

-- So many entries stand before this place.
pub record Counted (inner : Bool) (es : List Entry) (at count : ℕ) : Type 0 where
  pub done : List Entry
  pub todo : List Entry
  pub all : es ≡ done ++ todo
  pub place : at ≡ 16 + length (spelling inner done)
  pub count_is : count ≡ length done
