-- The laws of reading a line. Each stands on the contract of a small function of this crate.
use Rattle.std.specs.Prelude.{◌≡◌, ◌↔◌, ℕ, List, Some}
use Rattle.std.specs.List.{list_any}
use Rattle.hg_model.specs.Grammar.{IsLine}
use Rattle.hg_model.specs.Reading.{Reading, Reads, has_bad_number, too_many_of, is_long_name, is_long_text}
use Rattle.hg_model.specs.Statements.{CommandTree}
use Rattle.hg_model.specs.Tokens.{Token}
use Rattle.hg_parse.specs.Readings.{reading_of}
use Rattle.hg_parse.specs.Building.{Draft, empty_draft, plain}
use Rattle.hg_parse.specs.Judging.{bad_kept, too_many_kept}
use Rattle.hg_parse.specs.Keeping.{keeping, kept_of, image, cap_form}
use Rattle.hg_parse.specs.Rules.{Form, command, line_of, tree_of}

-- the tokens of a line are a command with its texts exactly where the descent finds these
abbrev pub OneTree : Type 0
OneTree = (ts : List Token) (c : CommandTree) (x : List ℕ) → IsLine ts c x ↔ (line_of ts ≡ Some (record { command = c; texts = x }))

-- what a line is read as is a function of its bytes
abbrev pub ReadsByDescent : Type 0
ReadsByDescent = (max : ℕ) (line : List ℕ) (a : Reading) → Reads max line a ↔ (reading_of max line ≡ a)

-- what a descent keeps that has limited room is what is kept of all that is read: a front of each list, and its
-- count. It refuses the same tokens, and leaves the same behind a command.
abbrev pub KeepsFronts : Type 0
KeepsFronts = (ts : List Token) → command keeping (kept_of empty_draft) ts ≡ image cap_form (command plain empty_draft ts)

-- and it says of a tree whether a number is out of range, and of what there are too many
abbrev pub JudgesAlike : Type 0
JudgesAlike = (max : ℕ) (ts : List Token) (f : Form) (g : Draft) → (bad_kept max f (kept_of g) ≡ has_bad_number max (tree_of f g))
    × (too_many_kept (list_any is_long_name ts) (list_any is_long_text ts) f (kept_of g) ≡ too_many_of ts (tree_of f g))
