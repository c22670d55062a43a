-- Worked scripts, each with its lines by hand.
use Rattle.std.specs.Prelude.{◌≡◌, ℕ, true, false, [], ◌∷◌, ◌++◌, codes, replicate}
use Rattle.hg_model.specs.LineReading.{ReadsLine, TooLong, ReadAs}
use Rattle.hg_model.specs.Reading.{Blank, BadNumber}
use Rattle.hg_model.specs.Script.{Line, lines_of, whole_lines, text_of_line}

-- two hyphens and so many letters, with a line feed
abbrev pub comment_line : ℕ → Line
comment_line letters = record { bytes = 45 ∷ 45 ∷ replicate letters 97; ended = true }

pub record ScriptsHold : Type 0 where
  -- the empty script
  pub no_script : lines_of [] ≡ []
  -- a script of one line feed is one empty line
  pub one_feed : lines_of (10 ∷ []) ≡ record { bytes = []; ended = true } ∷ []
  -- MPL 2, a carriage return and a line feed, -- x and a line feed, MP
  pub three_lines : lines_of (codes "MPL 2" ++ 13 ∷ 10 ∷ codes "-- x" ++ 10 ∷ codes "MP") ≡ record { bytes = codes "MPL 2" ++ 13 ∷ []; ended = true } ∷ record { bytes = codes "-- x"; ended = true } ∷ record { bytes = codes "MP"; ended = false } ∷ []
  -- of these the last has no line feed
  pub two_whole_lines : whole_lines (codes "MPL 2" ++ 13 ∷ 10 ∷ codes "-- x" ++ 10 ∷ codes "MP") ≡ record { bytes = codes "MPL 2" ++ 13 ∷ []; ended = true } ∷ record { bytes = codes "-- x"; ended = true } ∷ []
  -- a carriage return before the line feed is not of the text
  pub return_dropped : text_of_line (record { bytes = codes "MPL 2" ++ 13 ∷ []; ended = true }) ≡ codes "MPL 2"
  -- only one is
  pub one_return_dropped : text_of_line (record { bytes = codes "MPL 2" ++ 13 ∷ 13 ∷ []; ended = true }) ≡ codes "MPL 2" ++ 13 ∷ []
  -- none is where no line feed follows
  pub return_at_the_end : text_of_line (record { bytes = codes "MP" ++ 13 ∷ []; ended = false }) ≡ codes "MP" ++ 13 ∷ []
  -- nor one within the line
  pub return_within : text_of_line (record { bytes = 77 ∷ 13 ∷ 80 ∷ []; ended = true }) ≡ 77 ∷ 13 ∷ 80 ∷ []

-- whatever the most frames of the pool may be
pub record LineReadingsHold (max : ℕ) : Type 0 where
  -- two hyphens and 4,094 letters
  pub comment_of_4096_bytes : ReadsLine max (comment_line 4094) (ReadAs Blank)
  -- two hyphens and 4,095 letters
  pub comment_of_4097_bytes : ReadsLine max (comment_line 4095) TooLong
  -- 4,096 letters and a carriage return
  pub return_counts : ReadsLine max (record { bytes = replicate 4096 97 ++ 13 ∷ []; ended = true }) TooLong
  -- 4,097 letters without a line feed
  pub last_line_counts : ReadsLine max (record { bytes = replicate 4097 97; ended = false }) TooLong
  -- WORK 0 and a carriage return
  pub no_turns : ReadsLine max (record { bytes = codes "WORK 0" ++ 13 ∷ []; ended = true }) (ReadAs BadNumber)
