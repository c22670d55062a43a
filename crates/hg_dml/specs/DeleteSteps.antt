-- What the steps of a DELETE ask and do. Our own rule.
use Rattle.std.specs.Prelude.{◌≡◌, ℕ, Bool, List, if◌then◌else◌}
use Rattle.hg_base.specs.Space.{Space}
use Rattle.hg_base.specs.Steadiness.{Steady}
use Rattle.hg_base.specs.declared.Place.{Place}
use Rattle.hg_base.specs.declared.Table.{Table}
use Rattle.hg_table.specs.Calls.{page_mine}
use Rattle.hg_table.specs.Chains.{IsChain}
use Rattle.hg_table.specs.Places.{killed}
use Rattle.hg_table.specs.Versions.{Placed, IsTable}

-- The version at a place died under the stamp, where its row goes; else nothing was done.
pub record Removes (a b : Space) (t : Table) (place : Place) (stamp : ℕ) (gone : Bool) : Type 0 where
  pub table : (columns : ℕ) (pages : List ℕ) (versions : List Placed) → IsTable a t columns pages versions
      → IsTable b t columns pages (if gone then killed place stamp versions else versions)
  pub chain : (pages : List ℕ) → IsChain a t pages → IsChain b t pages
  pub steady : Steady (page_mine place.page) a b
  pub of_heap : (q : ℕ) → b.of_heap q ≡ a.of_heap q
