-- What the calls on an index ask, what they do, and why they fail. Our own rule.
use Rattle.std.specs.Prelude.{◌≡◌, ℕ, ◌+◌, ◌*◌, ◌≤◌, true, false, List, length, Some, ⊤}
use Rattle.std.specs.List.{AllByRecursion}
use Rattle.hg_base.specs.Space.{Space, NoPins}
use Rattle.hg_base.specs.Lines.{IsLine}
use Rattle.hg_base.specs.declared.Check.{Check}
use Rattle.hg_base.specs.declared.Check.TheVariants.{Kind, Size, Frame, Link, Level, Order, RowBytes}
use Rattle.hg_base.specs.declared.File.{File}
use Rattle.hg_base.specs.declared.Index.{Index}
use Rattle.hg_base.specs.declared.Place.{Place}
use Rattle.hg_base.specs.declared.pages.PageFault.{PageFault}
use Rattle.hg_base.specs.declared.pages.PageFault.TheVariants as fault
use Rattle.hg_btree.specs.Growing.{most_pages}
use Rattle.hg_model.specs.declared.values.Value.{Value}
use Rattle.hg_table.specs.Places.{is_at}
use Rattle.hg_table.specs.Versions.{Placed}
use Rattle.hg_index.specs.Agreeing.{IsIndexOf}
use Rattle.hg_index.specs.Entering.{entry_for}

-- What a call asks where the space tells: this is an index of some versions.
pub record HasIndex (s : Space) (i : Index) : Type 0 where
  pub pages : List ℕ
  pub leaves : ℕ
  pub versions : List Placed
  pub index : IsIndexOf s i pages leaves versions

-- No pin is out, and these pages are the index's; where the space tells, it is an index of some versions.
pub record IsReady (s : Space) (i : Index) : Type 0 where
  pub no_pins : NoPins s
  pub pages : List ℕ
  pub line : IsLine i.tree.file s (Some i.tree.top) pages
  pub there : s.told ≡ true → HasIndex s i

-- no version stands at this place
abbrev pub HasNoneAt : Place → List Placed → Type 0
HasNoneAt at versions = AllByRecursion (λ v. is_at at v ≡ false) versions

-- How many pages an index may have behind the entry of this row and place: one more for each page on the
-- way to it that has no room for the longest entry, and one more where the top is one of them.
abbrev pub most_with : (s : Space) (i : Index) (pages : List ℕ) (leaves : ℕ) (versions : List Placed) → IsIndexOf s i pages leaves versions → List Value → Place → ℕ
most_with s i pages leaves versions h row at = most_pages i.tree.file s i.tree.top h.tree.levels (length pages) (entry_for i.columns.items row at)

-- It is an index of these versions, of at most so many pages, and with at most one leaf more.
pub record IsIndexNow (s : Space) (i : Index) (most leaves : ℕ) (versions : List Placed) : Type 0 where
  pub pages : List ℕ
  pub leaves_now : ℕ
  pub index : IsIndexOf s i pages leaves_now versions
  pub few : length pages ≤ most
  pub two_a_leaf : length pages + 1 ≤ 2 * leaves_now
  pub no_less : leaves ≤ leaves_now
  pub one_more : leaves_now ≤ leaves + 1

-- what may be wrong with a page of an index, with its pages together, or with an entry
abbrev pub IsIndexCheck : Check → Type 0
IsIndexCheck Kind = ⊤
IsIndexCheck Size = ⊤
IsIndexCheck Frame = ⊥
IsIndexCheck Link = ⊥
IsIndexCheck Level = ⊤
IsIndexCheck Order = ⊤
IsIndexCheck RowBytes = ⊤

-- Why a search fails: a device failed, or, where the space does not tell, one of these checks did, on a
-- page of the index's file.
abbrev pub FindFault : File → PageFault → Type 0
FindFault f fault.MainFault = ⊤
FindFault f fault.TempFault = ⊤
FindFault f fault.MainFull = ⊥
FindFault f fault.TempFull = ⊥
FindFault f (fault.Damaged page check) = IsIndexCheck check × (page.file ≡ f)
