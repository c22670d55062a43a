-- What a line of a script is read as. Our own rule: a line that is too long is refused by its length,
-- whatever stands in it; of any other line its text is read.
use Rattle.std.specs.Prelude.{ℕ}
use Rattle.hg_model.specs.Reading.{Reading, Reads}
use Rattle.hg_model.specs.Script.{Line, text_of_line, IsTooLong, IsNotTooLong}

pub data LineReading : Type 0 where
  TooLong : LineReading
  ReadAs : Reading → LineReading

-- `max` is the most frames that the pool may have
pub data ReadsLine (max : ℕ) (line : Line) : LineReading → Type 0 where
  too_long : IsTooLong line → ReadsLine max line TooLong
  read : (r : Reading) → IsNotTooLong line → Reads max (text_of_line line) r → ReadsLine max line (ReadAs r)
