-- What the small calls do that the calls on a tree are made of. Our own rule.
use Rattle.std.specs.Prelude.{◌≡◌, ⊤}
use Rattle.hg_base.specs.Space.{Space, key}
use Rattle.hg_base.specs.Steadiness.{Mine, Steady, these_pages}
use Rattle.hg_base.specs.declared.File.{File}
use Rattle.hg_base.specs.declared.File.TheVariants as file
use Rattle.hg_btree.specs.Rewriting.{IsNearlyFull}
use Rattle.hg_base.specs.declared.PageId.{PageId}
use Rattle.hg_base.specs.declared.Check.{Check}
use Rattle.hg_base.specs.declared.Check.TheVariants.{Kind, Size, Frame, Link, Level, Order, RowBytes}
use Rattle.hg_base.specs.declared.pages.PageFault.{PageFault}
use Rattle.hg_base.specs.declared.pages.PageFault.TheVariants as fault

-- a call that owns no page
abbrev pub none_mine : Mine
none_mine = these_pages (λ _. ⊥)

-- a call that owns this page
abbrev pub page_mine : PageId → Mine
page_mine page = these_pages (λ q. q ≡ key page)

-- pages were looked at: nothing changed but counts
pub record Looks (a b : Space) : Type 0 where
  pub steady : Steady none_mine a b
  pub taken : b.taken ≡ a.taken

-- what may be wrong with a page of a tree, or with its pages together
abbrev pub IsTreeCheck : Check → Type 0
IsTreeCheck Kind = ⊤
IsTreeCheck Size = ⊤
IsTreeCheck Frame = ⊥
IsTreeCheck Link = ⊥
IsTreeCheck Level = ⊤
IsTreeCheck Order = ⊤
IsTreeCheck RowBytes = ⊥

-- Why a call fails that takes no page: a device failed, or, where the space does not tell, one of
-- these checks did, on a page of the tree's file.
abbrev pub LookFault : File → PageFault → Type 0
LookFault f fault.MainFault = ⊤
LookFault f fault.TempFault = ⊤
LookFault f fault.MainFull = ⊥
LookFault f fault.TempFull = ⊥
LookFault f (fault.Damaged page check) = IsTreeCheck check × (page.file ≡ f)

-- Why a call fails that takes pages: as one that takes none, or at most one page of its own file was not
-- taken when it failed.
abbrev pub GrowFault : File → Space → PageFault → Type 0
GrowFault f b fault.MainFault = ⊤
GrowFault f b fault.TempFault = ⊤
GrowFault f b fault.MainFull = (f ≡ file.Main) × IsNearlyFull b f
GrowFault f b fault.TempFull = (f ≡ file.Temp) × IsNearlyFull b f
GrowFault f b (fault.Damaged page check) = IsTreeCheck check × (page.file ≡ f)
