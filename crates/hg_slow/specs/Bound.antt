-- What reading and binding a SELECT give its evaluation. Our own rule.
use Rattle.std.specs.Prelude.{◌≡◌, ℕ, List, None, false, IsTrue}
use Rattle.std.specs.List.{list_all}
use Rattle.hg_model.specs.Binding.{select_refusal}
use Rattle.hg_model.specs.Query.{Query}
use Rattle.hg_model.specs.Reading.{Reads, Statement}
use Rattle.hg_model.specs.SelectMeaning.{too_many}
use Rattle.hg_model.specs.Statements.{SelectRows, OpenCursor}
use Rattle.hg_model.specs.Tables.{Table, table_fits}
use Rattle.hg_model.specs.Types.{all_narrow}
use Rattle.hg_model.specs.Width.{is_tree, text_fits}
use Rattle.hg_slow.specs.Answerable.{IsAnswerable}

-- What a tree that was read is: children stand before their parents, and each text literal names a part
-- of the texts that is a text. Binding looks at names, types and lengths, and takes this for granted.
pub record IsWellFormed (q : Query) (texts : List ℕ) : Type 0 where
  pub tree : IsTrue (is_tree q.nodes)
  pub texts_fit : IsTrue (list_all (text_fits texts) q.nodes)

-- the SELECT that a line is read as, alone or of OPEN, is well formed
abbrev pub ReadIsWellFormed : Type 0
ReadIsWellFormed = (max : ℕ) (line : List ℕ) (q : Query) (texts : List ℕ) → Reads max line (Statement (SelectRows q) texts) → IsWellFormed q texts

abbrev pub OpenedIsWellFormed : Type 0
OpenedIsWellFormed = (max : ℕ) (line cursor : List ℕ) (q : Query) (texts : List ℕ) → Reads max line (Statement (OpenCursor cursor q) texts) → IsWellFormed q texts

-- no node of a bound SELECT passes 126 bits
abbrev pub BoundIsNarrow : Type 0
BoundIsNarrow = (tables : List Table) (q : Query) → select_refusal tables q ≡ None → IsTrue (all_narrow q.nodes)

-- a well formed SELECT that is bound over tables whose rows fit may be evaluated, unless it groups too many
-- rows, for which its meaning has an answer of its own
abbrev pub BoundIsAnswerable : Type 0
BoundIsAnswerable = (tables : List Table) (q : Query) (texts : List ℕ) → IsWellFormed q texts → select_refusal tables q ≡ None
    → IsTrue (list_all table_fits tables) → too_many q texts tables ≡ false → IsAnswerable q texts tables
