-- What an INSERT, an UPDATE or a DELETE that was bound does: it makes what the definition makes of its table as
-- the last stamp before it sees it, or it is refused for the definition's first cause. Our own rule.
use Rattle.std.specs.Prelude.{◌≡◌, ℕ, ◌-◌, ◌≤◌, Bool, true, List, [], Option}
use Rattle.std.specs.List.{AllByRecursion}
use Rattle.std.specs.List.Sorted.{IsPermutation}
use Rattle.hg_base.specs.Space.{Space}
use Rattle.hg_base.specs.declared.Table.{Table as Ends}
use Rattle.hg_bind.specs.Bound.{numbers_of}
use Rattle.hg_bind.specs.declared.delete.BoundDelete.{BoundDelete}
use Rattle.hg_bind.specs.declared.insert.BoundInsert.{BoundInsert}
use Rattle.hg_bind.specs.declared.update.BoundUpdate.{BoundUpdate}
use Rattle.hg_catalog.specs.Contents.{Contents, CatalogTable}
use Rattle.hg_model.specs.Changes.{Change, Made, Refused, insert_change, update_change, delete_change}
use Rattle.hg_model.specs.Refusal.{Refusal}
use Rattle.hg_model.specs.Statements.{insert_tree, update_tree, delete_tree}
use Rattle.hg_model.specs.Tables.{Table}
use Rattle.hg_model.specs.declared.values.Value.{Value}
use Rattle.hg_table.specs.Agreement.{IsTableOver}
use Rattle.hg_table.specs.Seen.{seen_rows, IsPast, Misses}
use Rattle.hg_table.specs.Versions.{Placed}
use Rattle.hg_dml.specs.Deleting.{AgreeUpTo, IsHidden, WritesWithin}
use Rattle.hg_dml.specs.Inserting.{MovesEnds}
use Rattle.hg_dml.specs.Putting.{Grows}
use Rattle.hg_dml.specs.Rows.{Tells}
use Rattle.hg_dml.specs.Steps.{FitRows}

-- ---- what the definitions say

-- a table of a catalog with these rows, and as a snapshot sees it
abbrev pub with_these : CatalogTable → List (List Value) → Table
with_these t rows = record { name = t.name; columns = t.columns; rows = rows }

abbrev pub as_seen : CatalogTable → (ℕ → Bool) → ℕ → List Placed → Table
as_seen t committed snapshot versions = with_these t (seen_rows committed snapshot versions)

-- what the definition makes of a table, which has no index
abbrev pub insert_of : List ℕ → BoundInsert → Table → Change
insert_of texts b t = insert_change texts t [] b.targets.items (insert_tree b.insert)

abbrev pub update_of : List ℕ → BoundUpdate → Table → Change
update_of texts b t = update_change texts t [] (numbers_of b.places.items) b.targets.items (update_tree b.update)

abbrev pub delete_of : List ℕ → BoundDelete → Table → Change
delete_of texts b t = delete_change texts t (numbers_of b.places.items) (delete_tree b.delete)

-- ---- what snapshots see

-- A change was made under a stamp. Who sees the stamp sees the rows that the definition makes of those that the
-- last stamp before it saw, in any order; who misses it sees what it saw.
pub record IsMade (change : Table → Change) (t : CatalogTable) (committed : ℕ → Bool) (stamp : ℕ) (old new : List Placed) (n : ℕ) : Type 0 where
  pub rows : List (List Value)
  pub is : change (as_seen t committed (stamp - 1) old) ≡ Made rows n
  pub seen : (marks : ℕ → Bool) (later : ℕ) → AgreeUpTo (stamp - 1) marks committed → marks stamp ≡ true → stamp ≤ later
      → AllByRecursion (IsPast (stamp - 1)) old → IsPermutation (seen_rows marks later new) rows
  pub unseen : (marks : ℕ → Bool) (other : ℕ) → AgreeUpTo (stamp - 1) marks committed → Misses marks other stamp
      → AllByRecursion (IsPast (stamp - 1)) old → seen_rows marks other new ≡ seen_rows marks other old
  pub past : (last : ℕ) → stamp ≤ last → AllByRecursion (IsPast last) old → AllByRecursion (IsPast last) new

-- It was made of a table on these pages, which is then on those, by n rows. Also where the space does not tell
-- there are rows that fit the table, of which the definition makes a change by n rows.
pub record MakesRows (a b : Space) (change : Table → Change) (t : CatalogTable) (committed : ℕ → Bool) (stamp : ℕ) (pages : List ℕ) (after : Ends) (now : List ℕ) (n : ℕ) : Type 0 where
  pub read : List (List Value)
  pub fit : FitRows t.columns read
  pub made : List (List Value)
  pub is : change (with_these t read) ≡ Made made n
  pub shows : (versions : List Placed) → IsTableOver a t.pages t.columns pages versions
      → (more : List Placed) × IsTableOver b after t.columns now more × IsMade change t committed stamp versions more n

-- ---- the answers

-- An INSERT or an UPDATE was made. The table took n pages more at most, and no fault was counted.
pub record Changes (a b : Space) (old new : Contents) (table : ℕ) (change : Table → Change) (t : CatalogTable) (committed : ℕ → Bool) (stamp : ℕ) (pages : List ℕ) (n : ℕ) : Type 0 where
  pub after : Ends
  pub moves : MovesEnds old new table after
  pub now : List ℕ
  pub grows : Grows a b after pages now n
  pub counts : b.counts ≡ a.counts
  pub rows : MakesRows a b change t committed stamp pages after now n

-- A DELETE was made. Pages of the table were written and nothing else, and no fault was counted.
pub record Removes (a b : Space) (change : Table → Change) (t : CatalogTable) (committed : ℕ → Bool) (stamp : ℕ) (pages : List ℕ) (n : ℕ) : Type 0 where
  pub within : WritesWithin a b t.pages pages
  pub counts : b.counts ≡ a.counts
  pub rows : MakesRows a b change t committed stamp pages t.pages pages n

-- The definition refuses it, whatever rows the table has, and the cause is told.
pub record IsAgainst (change : Table → Change) (t : CatalogTable) (code : ℕ) (column : Option ℕ) : Type 0 where
  pub refusal : Refusal
  pub told : Tells t.columns code column refusal
  pub any : (rows : List (List Value)) → change (with_these t rows) ≡ Refused refusal

-- The definition refuses it for the rows that the last stamp before it sees, and the cause is told. Also where the
-- space does not tell there are rows that fit the table, for which it is refused so. Nobody sees a change.
pub record IsRefused (a b : Space) (change : Table → Change) (t : CatalogTable) (committed : ℕ → Bool) (stamp : ℕ) (pages : List ℕ) (code : ℕ) (column : Option ℕ) : Type 0 where
  pub refusal : Refusal
  pub told : Tells t.columns code column refusal
  pub read : List (List Value)
  pub fit : FitRows t.columns read
  pub is : change (with_these t read) ≡ Refused refusal
  pub grows : Grows a b t.pages pages pages 0
  pub counts : b.counts ≡ a.counts
  pub first : (versions : List Placed) → IsTableOver a t.pages t.columns pages versions → change (as_seen t committed (stamp - 1) versions) ≡ Refused refusal
  pub hidden : (versions : List Placed) → IsTableOver a t.pages t.columns pages versions
      → (now : List Placed) × IsTableOver b t.pages t.columns pages now × IsHidden committed (stamp - 1) stamp versions now
