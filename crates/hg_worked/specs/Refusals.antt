-- Worked statements, each with its answer by hand.
use Rattle.std.specs.Prelude.{◌≡◌, true, false, [], ◌∷◌, Some, None, pos, codes}
use Rattle.hg_model.specs.Binding.{select_refusal}
use Rattle.hg_model.specs.Refusal.{UnknownTable, UnknownColumn, AmbiguousColumn, TypeMismatch, TooWide, NameTaken, NotGrouped, RowTooLong}
use Rattle.hg_model.specs.declared.trees.Literal.TheVariants as literal
use Rattle.hg_model.specs.declared.trees.Cmp.TheVariants as cmp
use Rattle.hg_model.specs.declared.trees.Op.TheVariants as op
use Rattle.hg_model.specs.declared.trees.Fold.TheVariants as of
use Rattle.hg_model.specs.declared.trees.Node.TheVariants as node
use Rattle.hg_worked.specs.Samples.{tables_18, tables_9}

pub record RefusalsHold : Type 0 where
  -- SELECT * FROM u
  pub table : select_refusal tables_9 (record { distinct = false; star = true; outputs = []; tables = (record { table = codes "u"; alias = codes "u"; on = None } ∷ []); filter = None; group = []; having = None; order = []; nodes = [] }) ≡ Some (UnknownTable (codes "u"))
  -- SELECT x FROM t
  pub column : select_refusal tables_9 (record { distinct = false; star = false; outputs = (record { node = 0; name = None } ∷ []); tables = (record { table = codes "t"; alias = codes "t"; on = None } ∷ []); filter = None; group = []; having = None; order = []; nodes = ((node.Col (record { table = None; name = codes "x" })) ∷ []) }) ≡ Some (UnknownColumn (record { table = None; name = codes "x" }))
  -- SELECT a FROM t, t
  pub twice : select_refusal tables_9 (record { distinct = false; star = false; outputs = (record { node = 0; name = None } ∷ []); tables = (record { table = codes "t"; alias = codes "t"; on = None } ∷ record { table = codes "t"; alias = codes "t"; on = None } ∷ []); filter = None; group = []; having = None; order = []; nodes = ((node.Col (record { table = None; name = codes "a" })) ∷ []) }) ≡ Some (NameTaken (codes "t"))
  -- SELECT x.a, a FROM t x, t y
  pub ambiguous : select_refusal tables_9 (record { distinct = false; star = false; outputs = (record { node = 0; name = None } ∷ record { node = 1; name = None } ∷ []); tables = (record { table = codes "t"; alias = codes "x"; on = None } ∷ record { table = codes "t"; alias = codes "y"; on = None } ∷ []); filter = None; group = []; having = None; order = []; nodes = ((node.Col (record { table = (Some (codes "x")); name = codes "a" })) ∷ (node.Col (record { table = None; name = codes "a" })) ∷ []) }) ≡ Some (AmbiguousColumn (record { table = None; name = codes "a" }))
  -- SELECT a FROM t WHERE a = 'x'
  pub mixed : select_refusal tables_9 (record { distinct = false; star = false; outputs = (record { node = 0; name = None } ∷ []); tables = (record { table = codes "t"; alias = codes "t"; on = None } ∷ []); filter = (Some 3); group = []; having = None; order = []; nodes = ((node.Col (record { table = None; name = codes "a" })) ∷ (node.Col (record { table = None; name = codes "a" })) ∷ (node.Lit (literal.Text (record { at = 0; len = 1 }))) ∷ (node.Compare cmp.Eq 1 2) ∷ []) }) ≡ Some TypeMismatch
  -- SELECT a FROM t WHERE NULL
  pub null_is_no_condition : select_refusal tables_9 (record { distinct = false; star = false; outputs = (record { node = 0; name = None } ∷ []); tables = (record { table = codes "t"; alias = codes "t"; on = None } ∷ []); filter = (Some 1); group = []; having = None; order = []; nodes = ((node.Col (record { table = None; name = codes "a" })) ∷ (node.Lit literal.Null) ∷ []) }) ≡ Some TypeMismatch
  -- SELECT a, COUNT(*) FROM t
  pub not_grouped : select_refusal tables_9 (record { distinct = false; star = false; outputs = (record { node = 0; name = None } ∷ record { node = 1; name = None } ∷ []); tables = (record { table = codes "t"; alias = codes "t"; on = None } ∷ []); filter = None; group = []; having = None; order = []; nodes = ((node.Col (record { table = None; name = codes "a" })) ∷ (node.Aggregate of.CountRows None) ∷ []) }) ≡ Some NotGrouped
  -- SELECT COUNT(*) FROM t HAVING a = 1
  pub having_column : select_refusal tables_9 (record { distinct = false; star = false; outputs = (record { node = 0; name = None } ∷ []); tables = (record { table = codes "t"; alias = codes "t"; on = None } ∷ []); filter = None; group = []; having = (Some 3); order = []; nodes = ((node.Aggregate of.CountRows None) ∷ (node.Col (record { table = None; name = codes "a" })) ∷ (node.Lit (literal.Int (pos 1))) ∷ (node.Compare cmp.Eq 1 2) ∷ []) }) ≡ Some NotGrouped
  -- SELECT a FROM t WHERE COUNT(*) = 1
  pub aggregate_in_where : select_refusal tables_9 (record { distinct = false; star = false; outputs = (record { node = 0; name = None } ∷ []); tables = (record { table = codes "t"; alias = codes "t"; on = None } ∷ []); filter = (Some 3); group = []; having = None; order = []; nodes = ((node.Col (record { table = None; name = codes "a" })) ∷ (node.Aggregate of.CountRows None) ∷ (node.Lit (literal.Int (pos 1))) ∷ (node.Compare cmp.Eq 1 2) ∷ []) }) ≡ Some NotGrouped
  -- SELECT SUM(COUNT(a)) FROM t
  pub nested_aggregate : select_refusal tables_9 (record { distinct = false; star = false; outputs = (record { node = 2; name = None } ∷ []); tables = (record { table = codes "t"; alias = codes "t"; on = None } ∷ []); filter = None; group = []; having = None; order = []; nodes = ((node.Col (record { table = None; name = codes "a" })) ∷ (node.Aggregate of.Count (Some 0)) ∷ (node.Aggregate of.Sum (Some 1)) ∷ []) }) ≡ Some NotGrouped
  -- SELECT a * a * a * a FROM t
  pub too_wide : select_refusal tables_9 (record { distinct = false; star = false; outputs = (record { node = 6; name = None } ∷ []); tables = (record { table = codes "t"; alias = codes "t"; on = None } ∷ []); filter = None; group = []; having = None; order = []; nodes = ((node.Col (record { table = None; name = codes "a" })) ∷ (node.Col (record { table = None; name = codes "a" })) ∷ (node.Arith op.Mul 0 1) ∷ (node.Col (record { table = None; name = codes "a" })) ∷ (node.Arith op.Mul 2 3) ∷ (node.Col (record { table = None; name = codes "a" })) ∷ (node.Arith op.Mul 4 5) ∷ []) }) ≡ Some TooWide
  -- SELECT SUM(a * a * a) FROM t
  pub just_narrow : select_refusal tables_9 (record { distinct = false; star = false; outputs = (record { node = 5; name = None } ∷ []); tables = (record { table = codes "t"; alias = codes "t"; on = None } ∷ []); filter = None; group = []; having = None; order = []; nodes = ((node.Col (record { table = None; name = codes "a" })) ∷ (node.Col (record { table = None; name = codes "a" })) ∷ (node.Arith op.Mul 0 1) ∷ (node.Col (record { table = None; name = codes "a" })) ∷ (node.Arith op.Mul 2 3) ∷ (node.Aggregate of.Sum (Some 4)) ∷ []) }) ≡ None
  -- SELECT * FROM w
  pub row_too_long : select_refusal tables_18 (record { distinct = false; star = true; outputs = []; tables = (record { table = codes "w"; alias = codes "w"; on = None } ∷ []); filter = None; group = []; having = None; order = []; nodes = [] }) ≡ Some RowTooLong
