-- The reading of a line as a function of its tokens.
use Rattle.std.specs.Prelude.{ℕ, List, [], ◌∷◌, Option, Some, None, if◌then◌else◌}
use Rattle.hg_model.specs.Reading.{Reading, Blank, Syntax, BadNumber, TooMany, Statement, has_bad_number, too_many_of}
use Rattle.hg_model.specs.Tokens.{Token}
use Rattle.hg_model.specs.declared.trees.Count.{Count}
use Rattle.hg_parse.specs.Rules.{Line, line_of}
use Rattle.hg_scan.specs.Cutting.{tokens_of}

abbrev pub counted : Line → Option Count → Reading
counted l None = Statement l.command l.texts
counted l (Some k) = TooMany k

-- a line that has a tree
abbrev pub judged : ℕ → List Token → Line → Reading
judged max ts l = if has_bad_number max l.command then BadNumber else counted l (too_many_of ts l.command)

abbrev pub by_line : ℕ → List Token → Option Line → Reading
by_line max ts None = Syntax
by_line max ts (Some l) = judged max ts l

abbrev pub by_tokens : ℕ → Option (List Token) → Reading
by_tokens max None = Syntax
by_tokens max (Some []) = Blank
by_tokens max (Some (t ∷ ts)) = by_line max (t ∷ ts) (line_of (t ∷ ts))

-- what a line is read as
abbrev pub reading_of : ℕ → List ℕ → Reading
reading_of max line = by_tokens max (tokens_of line)
