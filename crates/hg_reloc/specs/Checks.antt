-- Which bytes are a heap's page, as far as the page itself tells it, and what is wrong with the others.
--
-- A page says where its own objects are. Of a link to another page it says a frame and an offset: that the
-- frame is one of the pool, and that an object can begin at the offset, is checked here; that the frame is
-- one of the heap's, and that an object does begin there, only a reader of all its pages can tell.
use Rattle.std.specs.Prelude.{◌≡◌, ◌≢◌, ℕ, ◌+◌, ◌*◌, ◌/◌, ◌%◌, ◌<◌, ◌≤◌, ◌⊎◌, Bool, true, false, List, [], ◌∷◌, ◌++◌, length, drop, slice_index, slice_index_or, IsTrue, ◌↔◌, Result, Ok, Err, ⊤}
use Rattle.std.specs.List.{AllByRecursion, concat}
use Rattle.hg_base.specs.Lines.{has_page}
use Rattle.hg_base.specs.declared.Check.{Check}
use Rattle.hg_base.specs.declared.Check.TheVariants.{Kind, Size, Frame, Link, Level, Order, RowBytes}
use Rattle.hg_reloc.specs.Blocks.{number, word, words, kind, size_for, end, frame, IsKind, HasLength, IsBlock, HasObjects, IsMade}

-- Marks of the grid of a page, one for each 16 bytes: just these places are marked.
pub record Marks (marks : List Bool) (places : List ℕ) : Type 0 where
  pub long : length marks ≡ 256
  pub is : (k : ℕ) → k < 256 → slice_index_or marks k false ≡ has_page places (16 * k)

-- where objects begin that stand one behind the other from `at` on
abbrev pub starts : ℕ → List (List ℕ) → List ℕ
starts at [] = []
starts at (b ∷ bs) = at ∷ starts (at + length b) bs

-- An address that fits, in a page that last stood in the frame `own` and whose objects begin at `places`:
-- its frame is one of the pool, an object can begin at its offset, and where it is of this very page, one
-- does, before `limit`.
pub record Fits (own max : ℕ) (places : List ℕ) (limit w : ℕ) : Type 0 where
  pub below : w / 4096 < max
  pub behind : 64 ≤ w % 4096
  pub grid : w % 4096 % 16 ≡ 0
  pub here : w / 4096 ≡ own → (has_page places (w % 4096) ≡ true) × (w % 4096 < limit)

abbrev pub MayLead : ℕ → ℕ → List ℕ → ℕ → ℕ → Type 0
MayLead own max places limit w = (w ≡ 0) ⊎ Fits own max places limit w

-- A row leads to an earlier object or to nothing. The link of a directory is nil, and its words lead to
-- any objects or to nothing.
pub record IsLinked (own max : ℕ) (places : List ℕ) (at : ℕ) (b : List ℕ) : Type 0 where
  pub row : kind b ≡ 1 → MayLead own max places at (word (drop 8 b))
  pub no_link : kind b ≡ 2 → word (drop 8 b) ≡ 0
  pub directory : kind b ≡ 2 → AllByRecursion (MayLead own max places 4096) (words (number b / 8) (drop 16 b))

abbrev pub AreLinkedFrom : ℕ → ℕ → List ℕ → ℕ → List (List ℕ) → Type 0
AreLinkedFrom own max places at [] = ⊤
AreLinkedFrom own max places at (b ∷ bs) = IsLinked own max places at b × AreLinkedFrom own max places (at + length b) bs

-- each address of the page leads to an object or to nothing, the four roots too
pub record AreLinked (page : List ℕ) (max : ℕ) (blocks : List (List ℕ)) : Type 0 where
  pub roots : AllByRecursion (MayLead (frame page) max (starts 64 blocks) 4096) (words 4 (drop 16 page))
  pub objects : AreLinkedFrom (frame page) max (starts 64 blocks) 64 blocks

-- Bytes that are right.
pub record IsRight (page : List ℕ) (max : ℕ) : Type 0 where
  pub blocks : List (List ℕ)
  pub has : HasObjects page blocks
  pub below : frame page < max
  pub linked : AreLinked page max blocks

-- The page is whole, and its end is in range and on the grid.
pub record HasHead (page : List ℕ) : Type 0 where
  pub whole : length page ≡ 4096
  pub low : 64 ≤ end page
  pub high : end page ≤ 4096
  pub grid : end page % 16 ≡ 0

-- Some objects stand one behind the other from 64 on, up to `at`.
pub record LieTo (page : List ℕ) (blocks : List (List ℕ)) (at : ℕ) : Type 0 where
  pub each : AllByRecursion IsBlock blocks
  pub reach : at ≡ 64 + length (concat blocks)
  pub objects : drop 64 page ≡ concat blocks ++ drop at page

-- the length that is said at a place is one of its kind, and ends before the free bytes
pub record HasRoom (page : List ℕ) (at : ℕ) : Type 0 where
  pub right : HasLength (kind (drop at page)) (number (drop at page))
  pub before : at + size_for (number (drop at page)) ≤ end page

-- Behind some objects comes one of another kind, or one whose length is out of range.
pub record HasOddKind (page : List ℕ) : Type 0 where
  pub head : HasHead page
  pub blocks : List (List ℕ)
  pub at : ℕ
  pub lie : LieTo page blocks at
  pub before : at < end page
  pub odd : ¬ (IsKind (kind (drop at page)))

pub record HasOddSize (page : List ℕ) : Type 0 where
  pub head : HasHead page
  pub blocks : List (List ℕ)
  pub at : ℕ
  pub lie : LieTo page blocks at
  pub before : at < end page
  pub known : IsKind (kind (drop at page))
  pub odd : ¬ (HasRoom page at)

pub record HasOddFrame (page : List ℕ) (max : ℕ) : Type 0 where
  pub blocks : List (List ℕ)
  pub has : HasObjects page blocks
  pub above : max ≤ frame page

pub record HasOddLink (page : List ℕ) (max : ℕ) : Type 0 where
  pub blocks : List (List ℕ)
  pub has : HasObjects page blocks
  pub below : frame page < max
  pub odd : ¬ (AreLinked page max blocks)

-- What is wrong with bytes. Kind: byte 0 is another one, or an object's kind is. Size: there are not 4,096
-- bytes, the end is out of range, or an object's length is. These two are said of the first place where one
-- of them is so; then comes the frame, and then the addresses.
abbrev pub IsWrong : List ℕ → ℕ → Check → Type 0
IsWrong page max Kind = (slice_index page 0 ≢ 72) ⊎ ((slice_index page 0 ≡ 72) × HasOddKind page)
IsWrong page max Size = (slice_index page 0 ≡ 72) × (¬ (HasHead page) ⊎ HasOddSize page)
IsWrong page max Frame = HasOddFrame page max
IsWrong page max Link = HasOddLink page max
IsWrong page max Level = ⊥
IsWrong page max Order = ⊥
IsWrong page max RowBytes = ⊥

-- addresses may be moved on a page that is right
pub right_made : (page : List ℕ) (max : ℕ) → IsRight page max → IsMade page
right_made page max r = record { blocks = r.blocks; has = r.has }

-- what `verify` answers
abbrev pub Verified : List ℕ → ℕ → Result (Unit {0}) Check → Type 0
Verified page max (Ok u) = IsRight page max
Verified page max (Err check) = IsWrong page max check

-- each check is answered just where it is what is wrong
abbrev pub TellsWrong : List ℕ → ℕ → Result (Unit {0}) Check → Type 0
TellsWrong page max result = (check : Check) → (result ≡ Err check) ↔ IsWrong page max check

-- What a walk over the objects of a page finds: where each begins, or the first that is none.
pub record AreMarked (page : List ℕ) (marks : List Bool) : Type 0 where
  pub blocks : List (List ℕ)
  pub has : HasObjects page blocks
  pub marked : Marks marks (starts 64 blocks)

abbrev pub HasOdd : List ℕ → Check → Type 0
HasOdd page Kind = HasOddKind page
HasOdd page Size = HasOddSize page
HasOdd page Frame = ⊥
HasOdd page Link = ⊥
HasOdd page Level = ⊥
HasOdd page Order = ⊥
HasOdd page RowBytes = ⊥

abbrev pub Walked : List ℕ → List Bool → Result (Unit {0}) Check → Type 0
Walked page marks (Ok u) = AreMarked page marks
Walked page marks (Err check) = HasOdd page check

-- what is found at a place where an object should begin
abbrev pub IsOddAt : List ℕ → ℕ → Check → Type 0
IsOddAt page at Kind = ¬ (IsKind (kind (drop at page)))
IsOddAt page at Size = IsKind (kind (drop at page)) × ¬ (HasRoom page at)
IsOddAt page at Frame = ⊥
IsOddAt page at Link = ⊥
IsOddAt page at Level = ⊥
IsOddAt page at Order = ⊥
IsOddAt page at RowBytes = ⊥

abbrev pub LookedAt : List ℕ → ℕ → Result ℕ Check → Type 0
LookedAt page at (Ok behind) = HasRoom page at × (behind ≡ at + size_for (number (drop at page)))
LookedAt page at (Err check) = IsOddAt page at check

-- The addresses of the object that begins at this place.
pub record LinksChecked (page : List ℕ) (at own max : ℕ) (marks : List Bool) (result : Bool) : Type 0 where
  pub each : (places b rest : List ℕ) → Marks marks places → IsBlock b → drop at page ≡ b ++ rest → IsTrue result ↔ IsLinked own max places at b

abbrev pub LinkedOrOdd : List ℕ → ℕ → Bool → Type 0
LinkedOrOdd page max true = IsRight page max
LinkedOrOdd page max false = HasOddLink page max
