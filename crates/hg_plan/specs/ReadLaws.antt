-- What holds of every SELECT, of every DELETE and of every UPDATE that was read. Our own rule.
use Rattle.std.specs.Prelude.{ℕ, ◌≤◌, List, length, IsTrue}
use Rattle.std.specs.List.{list_all}
use Rattle.hg_model.specs.Query.{Query}
use Rattle.hg_model.specs.Reading.{Reads, Statement}
use Rattle.hg_model.specs.Statements.{DeleteTree, DeleteRows, SelectRows, UpdateTree, UpdateRows}
use Rattle.hg_model.specs.Width.{is_tree, text_fits}

-- A SELECT with its texts, as it was read: each node stands behind those below it, each text literal names a part
-- of the texts, and there are not too many of anything.
pub record IsReadSelect (q : Query) (texts : List ℕ) : Type 0 where
  pub tree : IsTrue (is_tree q.nodes)
  pub texts_fit : IsTrue (list_all (text_fits texts) q.nodes)
  pub some_tables : 1 ≤ length q.tables
  pub few_tables : length q.tables ≤ 4
  pub few_outputs : length q.outputs ≤ 16
  pub few_groups : length q.group ≤ 16
  pub few_keys : length q.order ≤ 8
  pub few_nodes : length q.nodes ≤ 96

abbrev pub ReadSelectsFit : Type 0
ReadSelectsFit = (max : ℕ) (line : List ℕ) (q : Query) (texts : List ℕ) → Reads max line (Statement (SelectRows q) texts) → IsReadSelect q texts

-- a DELETE with its texts, as it was read
pub record IsReadDelete (d : DeleteTree) (texts : List ℕ) : Type 0 where
  pub tree : IsTrue (is_tree d.nodes)
  pub texts_fit : IsTrue (list_all (text_fits texts) d.nodes)
  pub few_nodes : length d.nodes ≤ 96

abbrev pub ReadDeletesFit : Type 0
ReadDeletesFit = (max : ℕ) (line : List ℕ) (d : DeleteTree) (texts : List ℕ) → Reads max line (Statement (DeleteRows d) texts) → IsReadDelete d texts

-- an UPDATE with its texts, as it was read
pub record IsReadUpdate (u : UpdateTree) (texts : List ℕ) : Type 0 where
  pub tree : IsTrue (is_tree u.nodes)
  pub texts_fit : IsTrue (list_all (text_fits texts) u.nodes)
  pub few_nodes : length u.nodes ≤ 96
  pub few_sets : length u.sets ≤ 16

abbrev pub ReadUpdatesFit : Type 0
ReadUpdatesFit = (max : ℕ) (line : List ℕ) (u : UpdateTree) (texts : List ℕ) → Reads max line (Statement (UpdateRows u) texts) → IsReadUpdate u texts
