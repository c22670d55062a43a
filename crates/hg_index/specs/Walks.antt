-- How entries of a tree are sought by their keys. Our own rule.
--
--   prefix 5          entries   5 1 at 3    5 1 at 7    5 2 at 4    5 2 at 9    6 0 at 1
--   places from 5 on            passed over  met         passed over met         the end
use Rattle.std.specs.Prelude.{◌≡◌, ℕ, ◌^◌, ◌<◌, ◌≤◌, List, ◌∷◌, ◌++◌, length, Option, None, Some, option_map, ⊤, ◌⊎◌}
use Rattle.hg_base.specs.Space.{Space}
use Rattle.hg_base.specs.declared.File.{File}
use Rattle.hg_base.specs.declared.Place.{Place}
use Rattle.hg_btree.specs.Entries.{Entry, AllBy, Before}
use Rattle.hg_btree.specs.Trees.{IsTree}
use Rattle.hg_index.specs.Entering.{place_number}

-- a key begins so
abbrev pub HasPrefix : List ℕ → List ℕ → Type 0
HasPrefix prefix key = (rest : List ℕ) × (key ≡ prefix ++ rest)

-- an entry of this key and place
abbrev pub entry_at : List ℕ → ℕ → Entry
entry_at key place = record { key = key; place = place; child = 0 }

-- a place of an entry is the place of a version
abbrev pub HasPlace : Entry → Type 0
HasPlace e = e.place < 2 ^ 48

-- Of the entries whose keys are so, this is the least place from `low` on.
pub record IsLeastNumber (P : List ℕ → Type 0) (low : ℕ) (es : List Entry) (n : ℕ) : Type 0 where
  pub before : List Entry
  pub x : Entry
  pub after : List Entry
  pub all : es ≡ before ++ x ∷ after
  pub key : P x.key
  pub place_is : x.place ≡ n
  pub from : low ≤ n
  pub least : AllBy (λ e. P e.key → low ≤ e.place → n ≤ e.place) es

abbrev pub FindsNumber : (List ℕ → Type 0) → ℕ → List Entry → Option ℕ → Type 0
FindsNumber P low es None = AllBy (λ e. P e.key → low ≤ e.place → ⊥) es
FindsNumber P low es (Some n) = IsLeastNumber P low es n

abbrev pub FindsPlace : (List ℕ → Type 0) → ℕ → List Entry → Option Place → Type 0
FindsPlace P low es place = FindsNumber P low es (option_map place_number place)

-- What is asked where the space tells: this is a tree, whose places are places of versions.
pub record HasPlaces (file : File) (s : Space) (top : ℕ) : Type 0 where
  pub es : List Entry
  pub pages : List ℕ
  pub leaves : ℕ
  pub tree : IsTree file s top es pages leaves
  pub places : AllBy HasPlace es

-- no place that was met is greater
abbrev pub IsNotBelow : Option ℕ → ℕ → Type 0
IsNotBelow None n = ⊥
IsNotBelow (Some least) n = least ≤ n

-- the least place that was met, if one was, is that of an entry that is sought
pub record IsMet (prefix : List ℕ) (low : ℕ) (es : List Entry) (n : ℕ) : Type 0 where
  pub before : List Entry
  pub x : Entry
  pub after : List Entry
  pub all : es ≡ before ++ x ∷ after
  pub key : HasPrefix prefix x.key
  pub place_is : x.place ≡ n
  pub from : low ≤ n

abbrev pub MetOne : List ℕ → ℕ → List Entry → Option ℕ → Type 0
MetOne prefix low es None = ⊤
MetOne prefix low es (Some n) = IsMet prefix low es n

-- Where a walk is after so many turns: it goes on at the first entry that is not before this key and place.
pub record IsWalkAt (es : List Entry) (prefix : List ℕ) (low : ℕ) (key : List ℕ) (from : ℕ) (least : Option ℕ) (turns : ℕ) : Type 0 where
  pub begins : HasPrefix prefix key
  pub met : MetOne prefix low es least
  pub covered : AllBy (λ e. Before e (entry_at key from) → HasPrefix prefix e.key → low ≤ e.place → IsNotBelow least e.place) es
  pub passed : List Entry
  pub rest : List Entry
  pub all : es ≡ passed ++ rest
  pub below : AllBy (λ e. Before e (entry_at key from)) passed
  pub turns_are : turns ≤ length passed

-- the lesser of a number and one that there may be
abbrev pub IsLesser : Option ℕ → ℕ → ℕ → Type 0
IsLesser None n least = least ≡ n
IsLesser (Some other) n least = (least ≤ other) × (least ≤ n) × ((least ≡ other) ⊎ (least ≡ n))
