-- What is found in an index: the least of the places that are sought. Our own rule.
use Rattle.std.specs.Prelude.{◌≡◌, ℕ, ◌+◌, ◌<◌, ◌≤◌, List, [], ◌∷◌, ◌++◌, Option, None, Some, ⊤}
use Rattle.std.specs.List.{AllByRecursion}
use Rattle.hg_base.specs.declared.Place.{Place}
use Rattle.hg_model.specs.Evaluation.{value_at}
use Rattle.hg_model.specs.declared.values.Value.{Value}
use Rattle.hg_table.specs.Versions.{Placed}
use Rattle.hg_value.specs.Comparing.{AreOfOneType, AreOfOneShape}
use Rattle.hg_value.specs.Looks.{chosen}
use Rattle.hg_index.specs.Entering.{place_number}

-- a place comes behind the one that is named; where none is named, each does
abbrev pub IsBehind : Option Place → Place → Type 0
IsBehind None p = ⊤
IsBehind (Some a) p = place_number a < place_number p

-- a version has this value in the first of these columns
abbrev pub HasFirst : List ℕ → Value → Placed → Type 0
HasFirst [] first v = ⊥
HasFirst (k ∷ columns) first v = value_at v.version.row k ≡ first

-- it has the values of this row in each of them
abbrev pub HasKeyOf : List ℕ → List Value → Placed → Type 0
HasKeyOf columns row v = chosen v.version.row columns ≡ chosen row columns

-- the value, and the row's values, are of the types that a version has there
abbrev pub FirstCompares : List ℕ → Value → Placed → Type 0
FirstCompares [] first v = ⊤
FirstCompares (k ∷ columns) first v = AreOfOneType first (value_at v.version.row k)

abbrev pub KeyCompares : List ℕ → List Value → Placed → Type 0
KeyCompares columns row v = AreOfOneShape (chosen row columns) (chosen v.version.row columns)

-- This is the least of the places behind the one that is named of the versions that are sought.
pub record IsLeastPlace (Sought : Placed → Type 0) (after : Option Place) (versions : List Placed) (place : Place) : Type 0 where
  pub front : List Placed
  pub v : Placed
  pub back : List Placed
  pub among : versions ≡ front ++ v ∷ back
  pub sought : Sought v
  pub place_is : v.place ≡ place
  pub behind : IsBehind after place
  pub least : AllByRecursion (λ w. Sought w → IsBehind after w.place → place_number place ≤ place_number w.place) versions

-- none exactly where no version that is sought has such a place
abbrev pub FindsLeast : (Placed → Type 0) → Option Place → List Placed → Option Place → Type 0
FindsLeast Sought after versions None = AllByRecursion (λ w. Sought w → IsBehind after w.place → ⊥) versions
FindsLeast Sought after versions (Some place) = IsLeastPlace Sought after versions place

-- the number of the first place behind the one that is named
abbrev pub number_behind : Option Place → ℕ
number_behind None = 0
number_behind (Some a) = place_number a + 1

-- The same of the versions of a table, of which an index need not know all: a place that is given is one of a
-- version that is sought, and no version that is asked for is passed over.
pub record IsLeastAsked (Sought asked : Placed → Type 0) (after : Option Place) (versions : List Placed) (place : Place) : Type 0 where
  pub front : List Placed
  pub v : Placed
  pub back : List Placed
  pub among : versions ≡ front ++ v ∷ back
  pub sought : Sought v
  pub place_is : v.place ≡ place
  pub behind : IsBehind after place
  pub least : AllByRecursion (λ w. asked w → Sought w → IsBehind after w.place → place_number place ≤ place_number w.place) versions

abbrev pub FindsAsked : (Placed → Type 0) → (Placed → Type 0) → Option Place → List Placed → Option Place → Type 0
FindsAsked Sought asked after versions None = AllByRecursion (λ w. asked w → Sought w → IsBehind after w.place → ⊥) versions
FindsAsked Sought asked after versions (Some place) = IsLeastAsked Sought asked after versions place
