-- Whether the columns that are chosen of a row may be put into another one.
use Rattle.std.specs.Prelude.{ℕ, List, ◌+◌, ◌≤◌, length}
use Rattle.hg_model.specs.declared.values.Value.{Value}
use Rattle.hg_value.specs.Coding.{coded, IsRowOf, IsNoRow}
use Rattle.hg_value.specs.Looks.{chosen}
use Rattle.hg_value.specs.declared.columns.Unread.{Unread}
use Rattle.hg_value.specs.declared.columns.Unread.TheVariants.{NoRow, NoRoom}

-- a row has room for these values
pub record HasRoomFor (vs ws : List Value) : Type 0 where
  pub places : length vs + length ws ≤ 64
  pub bytes : length (coded vs) + length (coded ws) ≤ 3900

-- Why the columns of a row of n values are not put behind those of another: there is no such row, or no
-- room for them.
abbrev pub CannotPush : List Value → List ℕ → ℕ → List ℕ → Unread → Type 0
CannotPush row bytes n columns NoRow = IsNoRow n bytes
CannotPush row bytes n columns NoRoom = (vs : List Value) → IsRowOf vs n bytes → HasRoomFor row (chosen vs columns) → ⊥
