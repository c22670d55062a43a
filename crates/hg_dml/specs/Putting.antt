-- What it does to a table and its space that rows are put into it under one stamp, which is not
-- committed yet. Our own rule.
use Rattle.std.specs.Prelude.{◌≡◌, ℕ, ◌+◌, ◌<◌, ◌≤◌, ◌⊎◌, Bool, true, false, List, ◌++◌, length, Option, ⊤}
use Rattle.std.specs.List.{AllByRecursion}
use Rattle.std.specs.List.Sorted.{IsPermutation}
use Rattle.hg_base.specs.Space.{Space, key_in, taken_in}
use Rattle.hg_base.specs.Lines.{has_page}
use Rattle.hg_base.specs.Count.{Rose}
use Rattle.hg_base.specs.Causes.{MainFailed, TempFailed}
use Rattle.hg_base.specs.Steadiness.{Mine, Steady, these_pages}
use Rattle.hg_base.specs.declared.File.TheVariants.{Main, Temp}
use Rattle.hg_base.specs.declared.Table.{Table}
use Rattle.hg_base.specs.declared.pages.PageFault.{PageFault}
use Rattle.hg_base.specs.declared.pages.PageFault.TheVariants as fault
use Rattle.hg_model.specs.declared.trees.Column.{Column}
use Rattle.hg_model.specs.declared.values.Value.{Value}
use Rattle.hg_table.specs.Agreement.{IsTableOver}
use Rattle.hg_table.specs.Calls.{NamesGiven, IsPageCheck}
use Rattle.hg_table.specs.Chains.{IsChain}
use Rattle.hg_table.specs.Versions.{Placed}
use Rattle.hg_dml.specs.Lent.{NoneLent}
use Rattle.hg_table.specs.Seen.{seen_rows, IsPast, Misses}

-- Rows joined the versions of a table, born under one stamp: who sees the stamp sees them too, and who
-- misses it sees no change.
pub record Joined (stamp : ℕ) (old new : List Placed) (rows : List (List Value)) : Type 0 where
  pub unseen : (committed : ℕ → Bool) (snapshot : ℕ) → Misses committed snapshot stamp
      → seen_rows committed snapshot new ≡ seen_rows committed snapshot old
  pub seen : (committed : ℕ → Bool) (snapshot : ℕ) → committed stamp ≡ true → stamp ≤ snapshot
      → IsPermutation (seen_rows committed snapshot new) (seen_rows committed snapshot old ++ rows)
  pub past : (last : ℕ) → stamp ≤ last → AllByRecursion (IsPast last) old → AllByRecursion (IsPast last) new
  pub count : length new ≡ length old + length rows

-- a page of the main file with one of these numbers
pub record IsOneOf (pages : List ℕ) (q : ℕ) : Type 0 where
  pub no : ℕ
  pub among : has_page pages no ≡ true
  pub same : q ≡ key_in Main no

-- the pages of a table, and every page that was not taken
abbrev pub table_mine : Space → List ℕ → Mine
table_mine a pages = these_pages (λ q. IsOneOf pages q ⊎ (a.taken q ≡ false))

-- a table with other pages, of which the new ones were not taken before; n pages of the main file more
-- at most, each of them one of the table's; no page was lent
pub record Grows (a b : Space) (new : Table) (pages now : List ℕ) (n : ℕ) : Type 0 where
  pub chain : IsChain b new now
  pub from : (x : ℕ) → has_page now x ≡ true → (has_page pages x ≡ true) ⊎ (a.taken (key_in Main x) ≡ false)
  pub steady : Steady (table_mine a pages) a b
  pub stays : (q : ℕ) → a.taken q ≡ true → b.taken q ≡ true
  pub none_lent : NoneLent a → NoneLent b
  pub more : taken_in a Main ≤ taken_in b Main
  pub few : taken_in b Main ≤ taken_in a Main + n
  pub owned : (x : ℕ) → b.taken (key_in Main x) ≡ true → (a.taken (key_in Main x) ≡ true) ⊎ (has_page now x ≡ true)
  pub temp : taken_in b Temp ≡ taken_in a Temp

-- these rows were put into the table
pub record Puts (a b : Space) (old new : Table) (pages : List ℕ) (stamp : ℕ) (columns : List Column) (rows : List (List Value)) : Type 0 where
  pub now : List ℕ
  pub grows : Grows a b new pages now (length rows)
  pub joined : (versions : List Placed) → IsTableOver a old columns pages versions
      → (more : List Placed) × IsTableOver b new columns now more × Joined stamp versions more rows

-- Why n rows could not all be put into a table: a device failed; or all pages of the main file are
-- taken, and n more than were taken before would be too many; or a page is damaged, where the space
-- does not tell.
abbrev pub PutFault : Space → Space → ℕ → PageFault → Type 0
PutFault a b n fault.MainFault = MainFailed a.counts b.counts
PutFault a b n fault.TempFault = TempFailed a.counts b.counts
PutFault a b n fault.MainFull = (a.limit Main < taken_in a Main + n) × Rose a.counts.main_full b.counts.main_full
PutFault a b n fault.TempFull = ⊥
PutFault a b n (fault.Damaged page check) = a.told ≡ false

-- Of damage only that the page of this number is no slotted page is found, and none where there is none.
abbrev pub FindsLast : Option ℕ → PageFault → Type 0
FindsLast last fault.MainFault = ⊤
FindsLast last fault.TempFault = ⊤
FindsLast last fault.MainFull = ⊤
FindsLast last fault.TempFull = ⊤
FindsLast last (fault.Damaged page check) = NamesGiven last (fault.Damaged page check) × IsPageCheck check

-- some of the rows were put into the table before it failed
pub record PutsSome (a b : Space) (old new : Table) (pages : List ℕ) (stamp : ℕ) (columns : List Column) (rows : List (List Value)) (f : PageFault) : Type 0 where
  pub done : List (List Value)
  pub puts : Puts a b old new pages stamp columns done
  pub few : length done ≤ length rows
  pub cause : PutFault a b (length rows) f
  pub found : FindsLast new.last f
