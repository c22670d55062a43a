-- Worked statements, each with its answer by hand.
use Rattle.std.specs.Prelude.{◌≡◌, true, false, [], ◌∷◌, Some, None, pos, codes}
use Rattle.hg_model.specs.Binding.{select_refusal}
use Rattle.hg_model.specs.Refusal.{UnknownColumn, AmbiguousColumn, BadNumber}
use Rattle.hg_model.specs.declared.trees.OrderBy.TheVariants.{Position, Column as ByColumn}
use Rattle.hg_model.specs.declared.trees.Node.TheVariants as node
use Rattle.hg_model.specs.declared.values.Value.TheVariants.{Null, Int, Text}
use Rattle.hg_worked.specs.Answers.{ordered}
use Rattle.hg_worked.specs.Samples.{tables_15, tables_16, tables_17, tables_5}

pub record OrderingHold : Type 0 where
  -- SELECT k FROM o ORDER BY 1
  pub position : ordered (record { distinct = false; star = false; outputs = (record { node = 0; name = None } ∷ []); tables = (record { table = codes "o"; alias = codes "o"; on = None } ∷ []); filter = None; group = []; having = None; order = (record { by = Position 1; descending = false } ∷ []); nodes = ((node.Col (record { table = None; name = codes "k" })) ∷ []) }) [] tables_15 ≡ ((Null ∷ []) ∷ ((Int (pos 1)) ∷ []) ∷ ((Int (pos 2)) ∷ []) ∷ [])
  -- SELECT k AS z FROM o ORDER BY z DESC
  pub alias_descending : ordered (record { distinct = false; star = false; outputs = (record { node = 0; name = (Some (codes "z")) } ∷ []); tables = (record { table = codes "o"; alias = codes "o"; on = None } ∷ []); filter = None; group = []; having = None; order = (record { by = ByColumn 1; descending = true } ∷ []); nodes = ((node.Col (record { table = None; name = codes "k" })) ∷ (node.Col (record { table = None; name = codes "z" })) ∷ []) }) [] tables_15 ≡ (((Int (pos 2)) ∷ []) ∷ ((Int (pos 1)) ∷ []) ∷ (Null ∷ []) ∷ [])
  -- SELECT v FROM o ORDER BY k
  pub no_output : ordered (record { distinct = false; star = false; outputs = (record { node = 0; name = None } ∷ []); tables = (record { table = codes "o"; alias = codes "o"; on = None } ∷ []); filter = None; group = []; having = None; order = (record { by = ByColumn 1; descending = false } ∷ []); nodes = ((node.Col (record { table = None; name = codes "v" })) ∷ (node.Col (record { table = None; name = codes "k" })) ∷ []) }) [] tables_15 ≡ (((Text (codes "a")) ∷ []) ∷ ((Text (codes "c")) ∷ []) ∷ ((Text (codes "b")) ∷ []) ∷ [])
  -- SELECT v FROM o ORDER BY k DESC
  pub no_output_descending : ordered (record { distinct = false; star = false; outputs = (record { node = 0; name = None } ∷ []); tables = (record { table = codes "o"; alias = codes "o"; on = None } ∷ []); filter = None; group = []; having = None; order = (record { by = ByColumn 1; descending = true } ∷ []); nodes = ((node.Col (record { table = None; name = codes "v" })) ∷ (node.Col (record { table = None; name = codes "k" })) ∷ []) }) [] tables_15 ≡ (((Text (codes "b")) ∷ []) ∷ ((Text (codes "c")) ∷ []) ∷ ((Text (codes "a")) ∷ []) ∷ [])
  -- SELECT * FROM o ORDER BY v
  pub star : ordered (record { distinct = false; star = true; outputs = []; tables = (record { table = codes "o"; alias = codes "o"; on = None } ∷ []); filter = None; group = []; having = None; order = (record { by = ByColumn 0; descending = false } ∷ []); nodes = ((node.Col (record { table = None; name = codes "v" })) ∷ []) }) [] tables_15 ≡ ((Null ∷ (Text (codes "a")) ∷ []) ∷ ((Int (pos 2)) ∷ (Text (codes "b")) ∷ []) ∷ ((Int (pos 1)) ∷ (Text (codes "c")) ∷ []) ∷ [])
  -- SELECT a, b FROM d ORDER BY a, b DESC
  pub two_keys : ordered (record { distinct = false; star = false; outputs = (record { node = 0; name = None } ∷ record { node = 1; name = None } ∷ []); tables = (record { table = codes "d"; alias = codes "d"; on = None } ∷ []); filter = None; group = []; having = None; order = (record { by = ByColumn 2; descending = false } ∷ record { by = ByColumn 3; descending = true } ∷ []); nodes = ((node.Col (record { table = None; name = codes "a" })) ∷ (node.Col (record { table = None; name = codes "b" })) ∷ (node.Col (record { table = None; name = codes "a" })) ∷ (node.Col (record { table = None; name = codes "b" })) ∷ []) }) [] tables_16 ≡ (((Int (pos 0)) ∷ (Int (pos 5)) ∷ []) ∷ ((Int (pos 1)) ∷ (Int (pos 2)) ∷ []) ∷ ((Int (pos 1)) ∷ Null ∷ []) ∷ [])
  -- SELECT v FROM s ORDER BY v
  pub prefix : ordered (record { distinct = false; star = false; outputs = (record { node = 0; name = None } ∷ []); tables = (record { table = codes "s"; alias = codes "s"; on = None } ∷ []); filter = None; group = []; having = None; order = (record { by = ByColumn 1; descending = false } ∷ []); nodes = ((node.Col (record { table = None; name = codes "v" })) ∷ (node.Col (record { table = None; name = codes "v" })) ∷ []) }) [] tables_5 ≡ (((Text (codes "a")) ∷ []) ∷ ((Text (codes "ab")) ∷ []) ∷ ((Text (codes "abc")) ∷ []) ∷ ((Text (codes "b")) ∷ []) ∷ [])
  -- SELECT b FROM t ORDER BY a DESC, 1
  pub descending_then_position : ordered (record { distinct = false; star = false; outputs = (record { node = 0; name = None } ∷ []); tables = (record { table = codes "t"; alias = codes "t"; on = None } ∷ []); filter = None; group = []; having = None; order = (record { by = ByColumn 1; descending = true } ∷ record { by = Position 1; descending = false } ∷ []); nodes = ((node.Col (record { table = None; name = codes "b" })) ∷ (node.Col (record { table = None; name = codes "a" })) ∷ []) }) [] tables_17 ≡ (((Text (codes "a")) ∷ []) ∷ ((Text (codes "x")) ∷ []) ∷ ((Text (codes "y")) ∷ []) ∷ [])
  -- SELECT b FROM t ORDER BY 2
  pub position_outside : select_refusal tables_17 (record { distinct = false; star = false; outputs = (record { node = 0; name = None } ∷ []); tables = (record { table = codes "t"; alias = codes "t"; on = None } ∷ []); filter = None; group = []; having = None; order = (record { by = Position 2; descending = false } ∷ []); nodes = ((node.Col (record { table = None; name = codes "b" })) ∷ []) }) ≡ Some BadNumber
  -- SELECT DISTINCT b FROM t ORDER BY a
  pub distinct_hides : select_refusal tables_17 (record { distinct = true; star = false; outputs = (record { node = 0; name = None } ∷ []); tables = (record { table = codes "t"; alias = codes "t"; on = None } ∷ []); filter = None; group = []; having = None; order = (record { by = ByColumn 1; descending = false } ∷ []); nodes = ((node.Col (record { table = None; name = codes "b" })) ∷ (node.Col (record { table = None; name = codes "a" })) ∷ []) }) ≡ Some (UnknownColumn (record { table = None; name = codes "a" }))
  -- SELECT a AS x, b AS x FROM t ORDER BY x
  pub two_aliases : select_refusal tables_17 (record { distinct = false; star = false; outputs = (record { node = 0; name = (Some (codes "x")) } ∷ record { node = 1; name = (Some (codes "x")) } ∷ []); tables = (record { table = codes "t"; alias = codes "t"; on = None } ∷ []); filter = None; group = []; having = None; order = (record { by = ByColumn 2; descending = false } ∷ []); nodes = ((node.Col (record { table = None; name = codes "a" })) ∷ (node.Col (record { table = None; name = codes "b" })) ∷ (node.Col (record { table = None; name = codes "x" })) ∷ []) }) ≡ Some (AmbiguousColumn (record { table = None; name = codes "x" }))
  -- SELECT a AS x, a AS x FROM t ORDER BY x
  pub one_column_twice : select_refusal tables_17 (record { distinct = false; star = false; outputs = (record { node = 0; name = (Some (codes "x")) } ∷ record { node = 1; name = (Some (codes "x")) } ∷ []); tables = (record { table = codes "t"; alias = codes "t"; on = None } ∷ []); filter = None; group = []; having = None; order = (record { by = ByColumn 2; descending = false } ∷ []); nodes = ((node.Col (record { table = None; name = codes "a" })) ∷ (node.Col (record { table = None; name = codes "a" })) ∷ (node.Col (record { table = None; name = codes "x" })) ∷ []) }) ≡ None
