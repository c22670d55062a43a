-- Worked lines that have too many of something, one for each kind; each by hand.
use Rattle.std.specs.Prelude.{ℕ, zero, suc, List, [], ◌++◌, codes}
use Rattle.hg_model.specs.Reading.{Reads, TooMany, Statement}
use Rattle.hg_model.specs.Statements.{CommandTree}
use Rattle.hg_model.specs.declared.trees.Count.TheVariants as count

-- some bytes so many times
abbrev pub times : ℕ → List ℕ → List ℕ
times zero bs = []
times (suc n) bs = bs ++ times n bs

-- whatever the most frames of the pool may be
pub record LineCountsHold (max : ℕ) : Type 0 where
  -- a name of 31 letters
  pub name_letters : Reads max (codes "VACUUM " ++ times 31 (codes "a")) (TooMany count.NameLetters)
  -- a text of 256 letters
  pub text_letters : Reads max (codes "INSERT INTO t VALUES ('" ++ (times 256 (codes "a") ++ codes "')")) (TooMany count.TextLetters)
  -- 17 columns
  pub columns : Reads max (codes "INSERT INTO t (a" ++ (times 16 (codes ",a") ++ codes ") VALUES (1)")) (TooMany count.Columns)
  -- 65 rows
  pub rows : Reads max (codes "INSERT INTO t VALUES (1)" ++ times 64 (codes ",(1)")) (TooMany count.Rows)
  -- 1,025 values
  pub values : Reads max (codes "INSERT INTO t VALUES (1" ++ (times 1024 (codes ",1") ++ codes ")")) (TooMany count.Values)
  -- five tables
  pub tables_in_from : Reads max (codes "SELECT * FROM a" ++ times 4 (codes ",a")) (TooMany count.TablesInFrom)
  -- 17 outputs
  pub outputs : Reads max (codes "SELECT 1" ++ (times 16 (codes ",1") ++ codes " FROM t")) (TooMany count.Outputs)
  -- 17 columns in GROUP BY
  pub group_columns : Reads max (codes "SELECT * FROM t GROUP BY a" ++ times 16 (codes ",a")) (TooMany count.GroupColumns)
  -- nine keys in ORDER BY
  pub order_keys : Reads max (codes "SELECT * FROM t ORDER BY 1" ++ times 8 (codes ",1")) (TooMany count.OrderKeys)
  -- 49 numbers and 48 signs between them
  pub nodes : Reads max (codes "DELETE FROM t WHERE 1" ++ times 48 (codes "+1")) (TooMany count.Nodes)

-- a line that is read as a statement
abbrev pub IsStatement : ℕ → List ℕ → Type 0
IsStatement max line = (c : CommandTree) × (x : List ℕ) × Reads max line (Statement c x)

-- one less of each is not too many
pub record LineCountsFit (max : ℕ) : Type 0 where
  pub name_letters : IsStatement max (codes "VACUUM " ++ times 30 (codes "a"))
  pub text_letters : IsStatement max (codes "INSERT INTO t VALUES ('" ++ (times 255 (codes "a") ++ codes "')"))
  pub columns : IsStatement max (codes "INSERT INTO t (a" ++ (times 15 (codes ",a") ++ codes ") VALUES (1)"))
  pub rows : IsStatement max (codes "INSERT INTO t VALUES (1)" ++ times 63 (codes ",(1)"))
  pub values : IsStatement max (codes "INSERT INTO t VALUES (1" ++ (times 1023 (codes ",1") ++ codes ")"))
  pub tables_in_from : IsStatement max (codes "SELECT * FROM a" ++ times 3 (codes ",a"))
  pub outputs : IsStatement max (codes "SELECT 1" ++ (times 15 (codes ",1") ++ codes " FROM t"))
  pub group_columns : IsStatement max (codes "SELECT * FROM t GROUP BY a" ++ times 15 (codes ",a"))
  pub order_keys : IsStatement max (codes "SELECT * FROM t ORDER BY 1" ++ times 7 (codes ",1"))
  pub nodes : IsStatement max (codes "DELETE FROM t WHERE 1" ++ times 47 (codes "+1"))
