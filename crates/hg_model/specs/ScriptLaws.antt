-- Laws of scripts and lines.
use Rattle.std.specs.Prelude.{◌≡◌, ℕ, List, ◌≢◌, All}
use Rattle.std.specs.List.{flat_map}
use Rattle.hg_model.specs.LineReading.{LineReading, ReadsLine}
use Rattle.hg_model.specs.Reading.{HasOneReading}
use Rattle.hg_model.specs.Script.{Line, lines_of, bytes_of_line}

-- the lines, each with its line feed where it has one, are the script
abbrev pub LinesMakeScript : Type 0
LinesMakeScript = (script : List ℕ) → flat_map bytes_of_line (lines_of script) ≡ script

-- no line has a line feed in it
abbrev pub HasNoFeed : Line → Type 0
HasNoFeed line = All (λ b. b ≢ 10) line.bytes

abbrev pub LinesHaveNoFeed : Type 0
LinesHaveNoFeed = (script : List ℕ) → All HasNoFeed (lines_of script)

-- a line of a script is read in one way, where its text is
abbrev pub LinesAreReadOnce : Type 0
LinesAreReadOnce = HasOneReading → (max : ℕ) (line : Line) (a b : LineReading) → ReadsLine max line a → ReadsLine max line b → a ≡ b
