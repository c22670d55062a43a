-- Worked lines, each with what it is read as by hand.
use Rattle.std.specs.Prelude.{ℕ, [], ◌∷◌, codes}
use Rattle.hg_model.specs.Reading.{Reads, Syntax, BadNumber, Blank, Statement}
use Rattle.hg_model.specs.Statements.{InsertRows, Start}
use Rattle.hg_model.specs.declared.trees.Literal.TheVariants as literal

-- whatever the most frames of the pool may be
pub record LinesHold (max : ℕ) : Type 0 where
  -- no statement begins so
  pub no_command : Reads max (codes "SELEC") Syntax
  -- 0 turns are out of range
  pub no_turns : Reads max (codes "WORK 0") BadNumber
  -- that no cursor has the name is for the machine to say
  pub start : Reads max (codes "START z 1") (Statement (Start (codes "z") 1) [])
  -- a quote is doubled, words are read without regard to case, and a line may end with `;`
  pub doubled_quote : Reads max (codes "insert INTO N values ('it''s');") (Statement (InsertRows (record { table = codes "n"; columns = []; values = (literal.Text (record { at = 0; len = 4 }) ∷ []); ends = (1 ∷ []) })) (codes "it's"))
  -- only a comment
  pub comment : Reads max (codes " -- it's") Blank
