-- What a table shows of its versions: the rows of those that a snapshot sees. Our own rule.
use Rattle.std.specs.Prelude.{◌≡◌, ℕ, ◌<◌, ◌≤◌, ◌⊎◌, Bool, false, List, map, MatchOption, ⊤}
use Rattle.std.specs.List.{filter}
use Rattle.hg_model.specs.Visible.{is_visible}
use Rattle.hg_model.specs.declared.values.Value.{Value}
use Rattle.hg_table.specs.Versions.{Placed}

abbrev pub is_seen : (ℕ → Bool) → ℕ → Placed → Bool
is_seen committed snapshot v = is_visible committed snapshot v.version

abbrev pub row_of : Placed → List Value
row_of v = v.version.row

-- the rows that a snapshot sees, in the order of the versions
abbrev pub seen_rows : (ℕ → Bool) → ℕ → List Placed → List (List Value)
seen_rows committed snapshot versions = map row_of (filter (is_seen committed snapshot) versions)

-- no stamp of the version is behind this one
pub record IsPast (last : ℕ) (v : Placed) : Type 0 where
  pub born : v.version.born ≤ last
  pub died : MatchOption v.version.died ⊤ (λ d. d ≤ last)

-- a snapshot that does not see a stamp: it is not committed, or later
abbrev pub Misses : (ℕ → Bool) → ℕ → ℕ → Type 0
Misses marks snapshot stamp = (marks stamp ≡ false) ⊎ (snapshot < stamp)
