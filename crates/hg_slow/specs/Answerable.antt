-- What the slow evaluator asks of a SELECT and its tables. Our own rule.
use Rattle.std.specs.Prelude.{◌≡◌, ℕ, Bool, List, false, IsTrue, ◌&&◌, ◌^◌, nat_le, length}
use Rattle.std.specs.List.{list_all}
use Rattle.hg_model.specs.Query.{Query}
use Rattle.hg_model.specs.SelectMeaning.{from_rows, too_many}
use Rattle.hg_model.specs.Tables.{Table, table_fits}
use Rattle.hg_model.specs.Types.{all_narrow}
use Rattle.hg_model.specs.Width.{is_tree, text_fits}

-- Children stand before their parents, the text literals are parts of the texts, no node passes 126
-- bits, the rows fit their tables, and no more than 2^30 rows are to be grouped.
pub record IsAnswerable (q : Query) (texts : List ℕ) (tables : List Table) : Type 0 where
  pub tree : IsTrue (is_tree q.nodes)
  pub texts_fit : IsTrue (list_all (text_fits texts) q.nodes)
  pub narrow : IsTrue (all_narrow q.nodes)
  pub rows : IsTrue (list_all table_fits tables)
  pub few : too_many q texts tables ≡ false

-- The test of it: for the rows that are grouped it takes those of the whole cross product.
abbrev pub is_answerable : Query → List ℕ → List Table → Bool
is_answerable q texts tables =
    is_tree q.nodes
    && (list_all (text_fits texts) q.nodes
    && (all_narrow q.nodes && (list_all table_fits tables && nat_le (length (from_rows q tables)) (2 ^ 30))))
