-- By computation, and by the length of a line.
use Rattle.std.proofs.Common.{ℕ, refl, arith, List, [], ◌∷◌, length-append, replicate}
use Rattle.std.proofs.lemmas.List.{length-replicate}
use Rattle.hg_model.specs.LineReading as heard
use Rattle.hg_model.specs.LineReading.{ReadsLine}
use Rattle.hg_model.specs.Reading as reading
use Rattle.hg_model.specs.Reading.{Blank, BadNumber}
use Rattle.hg_model.specs.Script.{lines_of, whole_lines, ended_lines, last_part, without_return}
use Rattle.hg_model.specs.Tokens as tokens
use Rattle.hg_model.specs.Tokens.{Spells}
use Rattle.hg_worked.proofs.LinesByHand.{no_turns}
use Rattle.hg_worked.specs.Scripts.{ScriptsHold, LineReadingsHold}

pub scripts_hold : ScriptsHold
unfolding lines_of whole_lines ended_lines last_part
scripts_hold = record { no_script = refl; one_feed = refl; three_lines = refl; two_whole_lines = refl; return_dropped = refl; one_return_dropped = refl; return_at_the_end = refl; return_within = refl }

comment_spelled : (xs : List ℕ) → Spells [] (without_return (45 ∷ 45 ∷ xs))
comment_spelled [] = tokens.Spells.comment []
comment_spelled (x ∷ xs) = tokens.Spells.comment (without_return (x ∷ xs))

pub line_readings_hold : (max : ℕ) → LineReadingsHold max
line_readings_hold max = record {
  comment_of_4096_bytes = heard.ReadsLine.read Blank (omega (arith, length-replicate {A = ℕ} 4094 97)) (reading.Reads.blank (comment_spelled (replicate 4094 97)));
  comment_of_4097_bytes = heard.ReadsLine.too_long (omega (arith, length-replicate {A = ℕ} 4095 97));
  return_counts = heard.ReadsLine.too_long (omega (arith, length-replicate {A = ℕ} 4096 97, length-append {A = ℕ} (replicate 4096 97) (13 ∷ [])));
  last_line_counts = heard.ReadsLine.too_long (omega (arith, length-replicate {A = ℕ} 4097 97));
  no_turns = heard.ReadsLine.read BadNumber (omega arith) (no_turns max);
}
