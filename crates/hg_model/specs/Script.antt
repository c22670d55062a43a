-- A script as lines. Our own rule: a line is the bytes up to a line feed; a last line without a line feed
-- is a line where it has a byte; one carriage return directly before the line feed is not of its text; a
-- line has at most 4,096 bytes before its line feed, counted before that carriage return is dropped.
use Rattle.std.specs.Prelude.{ℕ, ◌<◌, ◌≤◌, Bool, true, false, List, [], ◌∷◌, ◌++◌, length, ◌==◌, if◌then◌else◌}

pub record Line : Type 0 where
  pub bytes : List ℕ
  -- whether a line feed stands behind it
  pub ended : Bool

-- the lines that a line feed ends, where `part` stands in front of the bytes
unfoldable pub ended_lines : List ℕ → List ℕ → List Line
ended_lines part [] = []
ended_lines part (b ∷ bs) =
    if b == 10 then (record { bytes = part; ended = true }) ∷ ended_lines [] bs else ended_lines (part ++ b ∷ []) bs

-- what stands behind the last line feed, where `part` stands in front of the bytes
unfoldable pub last_part : List ℕ → List ℕ → List ℕ
last_part part [] = part
last_part part (b ∷ bs) = if b == 10 then last_part [] bs else last_part (part ++ b ∷ []) bs

-- a last line without a line feed, where it has a byte
abbrev pub unended : List ℕ → List Line
unended [] = []
unended (b ∷ bs) = (record { bytes = b ∷ bs; ended = false }) ∷ []

-- the lines of a script that a line feed ends
unfoldable pub whole_lines : List ℕ → List Line
whole_lines script = ended_lines [] script

-- all lines of a script
unfoldable pub lines_of : List ℕ → List Line
lines_of script = whole_lines script ++ unended (last_part [] script)

-- without a carriage return at the end
abbrev pub without_return : List ℕ → List ℕ
without_return [] = []
without_return (b ∷ []) = if b == 13 then [] else b ∷ []
without_return (b ∷ c ∷ bs) = b ∷ without_return (c ∷ bs)

-- the text of a line: no carriage return is dropped where no line feed follows
abbrev pub text_of_line : Line → List ℕ
text_of_line line = if line.ended then without_return line.bytes else line.bytes

-- the length of a line, with the carriage return that its text has not
abbrev pub line_length : Line → ℕ
line_length line = length line.bytes

abbrev pub IsTooLong : Line → Type 0
IsTooLong line = 4096 < line_length line

abbrev pub IsNotTooLong : Line → Type 0
IsNotTooLong line = line_length line ≤ 4096

-- the bytes that lines stand for, each with its line feed where it has one
abbrev pub bytes_of_line : Line → List ℕ
bytes_of_line line = if line.ended then line.bytes ++ 10 ∷ [] else line.bytes
