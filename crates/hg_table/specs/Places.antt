-- Versions found by place. Our own rule.
use Rattle.std.specs.Prelude.{◌≡◌, ℕ, ◌==◌, ◌&&◌, nat_lt, map, Bool, false, List, [], ◌∷◌, Option, Some, None, if◌then◌else◌}
use Rattle.std.specs.List.{filter}
use Rattle.hg_base.specs.declared.Place.{Place}
use Rattle.hg_base.specs.Lines.{has_page, pages_behind}
use Rattle.hg_model.specs.Visible.{is_visible}
use Rattle.hg_model.specs.declared.values.Value.{Value}
use Rattle.hg_table.specs.Versions.{Placed, RowVersion}

-- a version stands at this place
abbrev pub is_at : Place → Placed → Bool
is_at p v = v.place.page == p.page && v.place.slot == p.slot

-- the version at a place
abbrev pub version_at : List Placed → Place → Option RowVersion
version_at [] p = None
version_at (v ∷ vs) p = if is_at p v then Some v.version else version_at vs p

-- a version stands behind a place: in a later slot of its page, or on a page behind it
abbrev pub comes_behind : List ℕ → Place → Placed → Bool
comes_behind later p v =
    if v.place.page == p.page then nat_lt p.slot v.place.slot else has_page later v.place.page

-- the versions behind a place of a table with these pages; all where no place is named
abbrev pub behind : List ℕ → Option Place → List Placed → List Placed
behind pages None versions = versions
behind pages (Some p) versions = filter (comes_behind (pages_behind pages p.page) p) versions

abbrev pub first_place : List Placed → Option Place
first_place [] = None
first_place (v ∷ vs) = Some v.place

-- a version is there and a snapshot sees it
abbrev pub sees : (ℕ → Bool) → ℕ → Option RowVersion → Bool
sees committed snapshot None = false
sees committed snapshot (Some v) = is_visible committed snapshot v

-- the versions, where the one at a place died under a stamp
abbrev pub killed_at : Place → ℕ → Placed → Placed
killed_at p d v = if is_at p v then record v { version = record v.version { died = Some d } } else v

abbrev pub killed : Place → ℕ → List Placed → List Placed
killed p d versions = map (killed_at p d) versions

-- the first of some versions that a snapshot sees
abbrev pub first_seen : (ℕ → Bool) → ℕ → List Placed → Option Placed
first_seen committed snapshot [] = None
first_seen committed snapshot (v ∷ vs) = if is_visible committed snapshot v.version then Some v else first_seen committed snapshot vs

-- A search answered with a version: its place, and its row in place of what was there; or with none, and
-- the row is as it was.
abbrev pub Finds : Option Placed → Option Place → List Value → List Value → Type 0
Finds None found old new = (found ≡ None) × (new ≡ old)
Finds (Some v) found old new = (found ≡ Some v.place) × (new ≡ v.version.row)
