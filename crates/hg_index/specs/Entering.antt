-- Which entry of a tree stands for a version of a row. Our own rule: the key is the coded values of the index's
-- columns, one after the other, whose bytes compare as the values do; the place is that of the version.
use Rattle.std.specs.Prelude.{ℕ, ◌+◌, ◌*◌, ◌^◌, ◌≤◌, ◌<◌, List, length}
use Rattle.std.specs.List.{AllByRecursion}
use Rattle.hg_base.specs.declared.Place.{Place}
use Rattle.hg_btree.specs.Entries.{Entry}
use Rattle.hg_model.specs.declared.values.Value.{Value}
use Rattle.hg_table.specs.Versions.{Placed}
use Rattle.hg_value.specs.Keys.{index_key, key_of_columns}
use Rattle.hg_value.specs.Laws.{IsIndexed}
use Rattle.hg_value.specs.Looks.{chosen}

-- a place as one number: those of a table's versions ascend by page and slot
abbrev pub place_number : Place → ℕ
place_number p = p.page * 65536 + p.slot

-- the key of a row in an index over these columns
abbrev pub row_key : List ℕ → List Value → List ℕ
row_key columns row = key_of_columns index_key (chosen row columns)

abbrev pub entry_for : List ℕ → List Value → Place → Entry
entry_for columns row at = record { key = row_key columns row; place = place_number at; child = 0 }

abbrev pub entry_of : List ℕ → Placed → Entry
entry_of columns v = entry_for columns v.version.row v.place

-- a row that may be entered: it has the columns, their numbers fit an index key, and the key is not too long
pub record MayBeEntered (columns : List ℕ) (row : List Value) : Type 0 where
  pub there : AllByRecursion (λ k. k < length row) columns
  pub indexed : AllByRecursion IsIndexed (chosen row columns)
  pub short : length (row_key columns row) ≤ 512

-- a place of 32 and 16 bits
pub record IsPlace (p : Place) : Type 0 where
  pub page : p.page < 2 ^ 32
  pub slot : p.slot < 2 ^ 16

-- a version that an index may have an entry of
pub record IsEnterable (columns : List ℕ) (v : Placed) : Type 0 where
  pub row : MayBeEntered columns v.version.row
  pub place : IsPlace v.place
