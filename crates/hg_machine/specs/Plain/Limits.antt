-- The limits on working pages, of a state. The formulas stand in hg_model.
use Rattle.std.specs.Prelude.{ℕ, length}
use Rattle.hg_machine.specs.Plain.State.{State, CursorState}
use Rattle.hg_model.specs.Limits.{hard_limit, soft_limit, ceiling_of, cap_of}

abbrev pub active : State → ℕ
active s = length s.round

abbrev pub hard : State → ℕ
hard s = hard_limit s.max (active s)

abbrev pub soft : State → ℕ
soft s = soft_limit s.current s.mpl

abbrev pub ceiling : State → ℕ
ceiling s = ceiling_of s.max (active s) s.current

-- the most that a turn may bring a cursor to hold
abbrev pub cap : State → CursorState → ℕ
cap s c = cap_of (ceiling s) (soft s) c.floor
