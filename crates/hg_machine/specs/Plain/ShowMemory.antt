-- SHOW MEMORY, which changes nothing. Our own rule.
use Rattle.std.specs.Prelude.{◌≡◌, ℕ, List, [], ◌∷◌, map, length}
use Rattle.hg_machine.specs.Plain.Limits.{active, hard, soft}
use Rattle.hg_machine.specs.Plain.Replies.{ReplyLine, Figures, memory, held}
use Rattle.hg_machine.specs.Plain.State.{State, CursorState}

abbrev pub figures : State → Figures
figures s = record {
  pool = s.current;
  max = s.max;
  mpl = s.mpl;
  active = active s;
  waiting = length s.waiting;
  hard = hard s;
  soft = soft s;
}

-- one line for each open cursor, in order of opening
abbrev pub held_line : CursorState → ReplyLine
held_line c = held c.name c.held

abbrev pub memory_lines : State → List ReplyLine
memory_lines s = memory (figures s) ∷ map held_line s.cursors

pub record ShowsMemory (old : State) (lines : List ReplyLine) (new : State) : Type 0 where
  pub said : lines ≡ memory_lines old
  pub after : new ≡ old
