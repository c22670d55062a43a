-- Pages whose objects lead to one another, and their addresses: what moving the addresses does to the
-- pages of a heap. Our own rule.
use Rattle.std.specs.Prelude.{◌≡◌, ℕ, ◌+◌, ◌<◌, ◌≤◌, ◌^◌, List, [], ◌∷◌, length, Option, None, Some, Result, IsOk, ◌⊎◌, ⊤}
use Rattle.std.specs.List.{AllByRecursion}
use Rattle.hg_base.specs.Content.{Object, row_object, directory, object_size, offsets_from}
use Rattle.hg_base.specs.HeapPage.{IsHeapPage}
use Rattle.hg_reloc.specs.Moves.{Moves, moved_word}
use Rattle.hg_reloc.specs.Checks.{Fits}
use Rattle.hg_base.specs.declared.Check.{Check}

-- The object that a link leads to had one address and has another: the moved one.
abbrev pub MovesLink : Moves → (ℕ → ℕ) → (ℕ → ℕ) → Option ℕ → Type 0
MovesLink m before after None = ⊤
MovesLink m before after (Some n) = (before n < 2 ^ 64) × (moved_word m (before n) ≡ after n)

-- and so had and has each object that an object leads to; a row's payload has 1 to 3,920 bytes
abbrev pub MovesLinks : Moves → (ℕ → ℕ) → (ℕ → ℕ) → Object → Type 0
MovesLinks m before after (row_object payload link) = (0 < length payload) × (length payload ≤ 3920) × MovesLink m before after link
MovesLinks m before after (directory links) = AllByRecursion (MovesLink m before after) links

-- A page of a heap whose objects have other addresses now.
pub record MovesPage (m : Moves) (before after : ℕ → ℕ) (roots : List (Option ℕ)) (objects : List Object) (frame : ℕ) (page : List ℕ) : Type 0 where
  pub is : IsHeapPage before roots objects frame page
  pub four : (length roots ≡ 4) ⊎ (roots ≡ [])
  pub roots_move : AllByRecursion (MovesLink m before after) roots
  pub objects_move : AllByRecursion (MovesLinks m before after) objects

-- What the rewriting of a page does to a page of a heap: whatever the objects, they have the other
-- addresses. The frame that the page names is as before.
abbrev pub MovesPages : Moves → List ℕ → List ℕ → Type 0
MovesPages m old new =
    (before after : ℕ → ℕ) (roots : List (Option ℕ)) (objects : List Object) (frame : ℕ)
    → MovesPage m before after roots objects frame old → IsHeapPage after roots objects frame new

-- An address that fits on a page that stands in the frame `own` and whose objects begin at `places`.
abbrev pub LinkFits : ℕ → ℕ → List ℕ → ℕ → (ℕ → ℕ) → Option ℕ → Type 0
LinkFits own max places limit a None = ⊤
LinkFits own max places limit a (Some n) = (a n < 2 ^ 64) × Fits own max places limit (a n)

abbrev pub LinksFit : ℕ → ℕ → List ℕ → ℕ → (ℕ → ℕ) → Object → Type 0
LinksFit own max places at a (row_object payload link) = (0 < length payload) × (length payload ≤ 3920) × LinkFits own max places at a link
LinksFit own max places at a (directory links) = AllByRecursion (LinkFits own max places 4096 a) links

abbrev pub AllLinksFit : ℕ → ℕ → List ℕ → (ℕ → ℕ) → ℕ → List Object → Type 0
AllLinksFit own max places a at [] = ⊤
AllLinksFit own max places a at (o ∷ os) = LinksFit own max places at a o × AllLinksFit own max places a (at + object_size o) os

-- A page of a heap all of whose links fit.
pub record FitsPage (max : ℕ) (a : ℕ → ℕ) (roots : List (Option ℕ)) (objects : List Object) (frame : ℕ) (page : List ℕ) : Type 0 where
  pub is : IsHeapPage a roots objects frame page
  pub small : frame < 65536
  pub below : frame < max
  pub four : (length roots ≡ 4) ⊎ (roots ≡ [])
  pub roots_fit : AllByRecursion (LinkFits frame max (offsets_from 64 objects) 4096 a) roots
  pub objects_fit : AllLinksFit frame max (offsets_from 64 objects) a 64 objects

-- such a page is taken, whatever its objects are
abbrev pub TakesPages : ℕ → List ℕ → Result (Unit {0}) Check → Type 0
TakesPages max page result = (a : ℕ → ℕ) (roots : List (Option ℕ)) (objects : List Object) (frame : ℕ) → FitsPage max a roots objects frame page → IsOk result
