-- What a table is: its pages are slotted pages, each record of which is a version of a row: four
-- bytes for the stamp it was born under, four for the stamp it died under, 0 for none, and then the
-- bytes of the row. Numbers have the least byte first. Our own rule.
use Rattle.std.specs.Prelude.{◌≡◌, ℕ, ◌^◌, ◌<◌, zero, suc, true, List, [], ◌∷◌, ◌++◌, take, drop, Option, Some, None, ⊤}
use Rattle.std.specs.Int.{w32, to_le_bytes}
use Rattle.std.specs.List.{AllByRecursion}
use Rattle.hg_base.specs.Space.{Space, key_in}
use Rattle.hg_base.specs.declared.File.TheVariants.{Main}
use Rattle.hg_base.specs.declared.Place.{Place}
use Rattle.hg_base.specs.declared.Table.{Table}
use Rattle.hg_model.specs.Visible.{Version}
use Rattle.hg_model.specs.declared.values.Value.{Value}
use Rattle.hg_slot.specs.Slotted.{IsSlotted, IsClean, record_at}
use Rattle.hg_value.specs.Coding.{IsRowOf}
use Rattle.hg_table.specs.Chains.{IsChain}

abbrev pub RowVersion : Type 0
RowVersion = Version (List Value)

-- A version, and where it stands.
pub record Placed : Type 0 where
  pub place : Place
  pub version : RowVersion

-- the stamp of a death as it is stored
abbrev pub death : Option ℕ → ℕ
death None = 0
death (Some d) = d

abbrev pub IsDeath : Option ℕ → Type 0
IsDeath None = ⊤
IsDeath (Some d) = (0 < d) × (d < 2 ^ 32)

-- The bytes of a record stand for a version, whose row has so many values.
pub record IsStored (columns : ℕ) (r : List ℕ) (v : RowVersion) : Type 0 where
  pub stamp : v.born < 2 ^ 32
  pub end : IsDeath v.died
  pub born : take 4 r ≡ to_le_bytes w32 v.born
  pub died : take 4 (drop 4 r) ≡ to_le_bytes w32 (death v.died)
  pub row : IsRowOf v.row columns (drop 8 r)

-- a slot shows a version, or it is empty and shows none
abbrev pub Shows : ℕ → Option (List ℕ) → Option RowVersion → Type 0
Shows columns None None = ⊤
Shows columns None (Some v) = ⊥
Shows columns (Some r) None = ⊥
Shows columns (Some r) (Some v) = IsStored columns r v

-- The main page x holds these versions, by slot; all of its bytes that have no meaning are zero.
pub record HoldsVersions (s : Space) (columns x : ℕ) (held : ℕ → Option RowVersion) : Type 0 where
  pub page : List ℕ
  pub told : s.bytes (key_in Main x) ≡ Some page
  pub slotted : IsSlotted page
  pub clean : IsClean page
  pub each : (k : ℕ) → Shows columns (record_at page k) (held k)

abbrev pub in_slot : ℕ → ℕ → Option RowVersion → List Placed
in_slot x k None = []
in_slot x k (Some v) = record { place = record { page = x; slot = k }; version = v } ∷ []

-- the versions of n slots of the page x, from the slot k on
abbrev pub in_slots : ℕ → (ℕ → Option RowVersion) → ℕ → ℕ → List Placed
in_slots x held k zero = []
in_slots x held k (suc n) = in_slot x k (held k) ++ in_slots x held (suc k) n

-- no page has more slots
unfoldable pub most_slots : ℕ
most_slots = 128

-- the versions of pages in order, each page's in order of its slots
abbrev pub in_pages : (ℕ → ℕ → Option RowVersion) → List ℕ → List Placed
in_pages held [] = []
in_pages held (x ∷ xs) = in_slots x (held x) 0 most_slots ++ in_pages held xs

-- What a table is where the space tells: its pages, and its versions in order of pages and slots.
pub record IsTable (s : Space) (t : Table) (columns : ℕ) (pages : List ℕ) (versions : List Placed) : Type 0 where
  pub told : s.told ≡ true
  pub chain : IsChain s t pages
  pub held : ℕ → ℕ → Option RowVersion
  pub holds : AllByRecursion (λ x. HoldsVersions s columns x (held x)) pages
  pub listed : versions ≡ in_pages held pages
