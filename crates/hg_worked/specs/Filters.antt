-- Worked statements, each with its answer by hand.
use Rattle.std.specs.Prelude.{◌≡◌, false, [], ◌∷◌, Some, None, pos, negsuc, codes}
use Rattle.hg_model.specs.declared.trees.Literal.TheVariants as literal
use Rattle.hg_model.specs.declared.trees.Cmp.TheVariants as cmp
use Rattle.hg_model.specs.declared.trees.Op.TheVariants as op
use Rattle.hg_model.specs.declared.trees.Node.TheVariants as node
use Rattle.hg_model.specs.declared.values.Value.TheVariants.{Null, Int, Text}
use Rattle.hg_worked.specs.Answers.{answer}
use Rattle.hg_worked.specs.Samples.{tables_1, tables_2, tables_3, tables_4, tables_5, tables_6}

pub record FiltersHold : Type 0 where
  -- SELECT a FROM t WHERE a <> 1
  pub unequal : answer (record { distinct = false; star = false; outputs = (record { node = 0; name = None } ∷ []); tables = (record { table = codes "t"; alias = codes "t"; on = None } ∷ []); filter = (Some 3); group = []; having = None; order = []; nodes = ((node.Col (record { table = None; name = codes "a" })) ∷ (node.Col (record { table = None; name = codes "a" })) ∷ (node.Lit (literal.Int (pos 1))) ∷ (node.Compare cmp.Ne 1 2) ∷ []) }) [] tables_1 ≡ (((Int (pos 2)) ∷ []) ∷ [])
  -- SELECT a FROM t WHERE NOT (a = 1)
  pub not_equal : answer (record { distinct = false; star = false; outputs = (record { node = 0; name = None } ∷ []); tables = (record { table = codes "t"; alias = codes "t"; on = None } ∷ []); filter = (Some 4); group = []; having = None; order = []; nodes = ((node.Col (record { table = None; name = codes "a" })) ∷ (node.Col (record { table = None; name = codes "a" })) ∷ (node.Lit (literal.Int (pos 1))) ∷ (node.Compare cmp.Eq 1 2) ∷ (node.Not 3) ∷ []) }) [] tables_1 ≡ (((Int (pos 2)) ∷ []) ∷ [])
  -- SELECT a FROM e WHERE a = b
  pub null_eq : answer (record { distinct = false; star = false; outputs = (record { node = 0; name = None } ∷ []); tables = (record { table = codes "e"; alias = codes "e"; on = None } ∷ []); filter = (Some 3); group = []; having = None; order = []; nodes = ((node.Col (record { table = None; name = codes "a" })) ∷ (node.Col (record { table = None; name = codes "a" })) ∷ (node.Col (record { table = None; name = codes "b" })) ∷ (node.Compare cmp.Eq 1 2) ∷ []) }) [] tables_2 ≡ []
  -- SELECT a FROM e WHERE a != b
  pub null_ne : answer (record { distinct = false; star = false; outputs = (record { node = 0; name = None } ∷ []); tables = (record { table = codes "e"; alias = codes "e"; on = None } ∷ []); filter = (Some 3); group = []; having = None; order = []; nodes = ((node.Col (record { table = None; name = codes "a" })) ∷ (node.Col (record { table = None; name = codes "a" })) ∷ (node.Col (record { table = None; name = codes "b" })) ∷ (node.Compare cmp.Ne 1 2) ∷ []) }) [] tables_2 ≡ (((Int (pos 2)) ∷ []) ∷ [])
  -- SELECT a FROM e WHERE a < b
  pub null_lt : answer (record { distinct = false; star = false; outputs = (record { node = 0; name = None } ∷ []); tables = (record { table = codes "e"; alias = codes "e"; on = None } ∷ []); filter = (Some 3); group = []; having = None; order = []; nodes = ((node.Col (record { table = None; name = codes "a" })) ∷ (node.Col (record { table = None; name = codes "a" })) ∷ (node.Col (record { table = None; name = codes "b" })) ∷ (node.Compare cmp.Lt 1 2) ∷ []) }) [] tables_2 ≡ []
  -- SELECT a FROM e WHERE a <= b
  pub null_le : answer (record { distinct = false; star = false; outputs = (record { node = 0; name = None } ∷ []); tables = (record { table = codes "e"; alias = codes "e"; on = None } ∷ []); filter = (Some 3); group = []; having = None; order = []; nodes = ((node.Col (record { table = None; name = codes "a" })) ∷ (node.Col (record { table = None; name = codes "a" })) ∷ (node.Col (record { table = None; name = codes "b" })) ∷ (node.Compare cmp.Le 1 2) ∷ []) }) [] tables_2 ≡ []
  -- SELECT a FROM e WHERE a > b
  pub null_gt : answer (record { distinct = false; star = false; outputs = (record { node = 0; name = None } ∷ []); tables = (record { table = codes "e"; alias = codes "e"; on = None } ∷ []); filter = (Some 3); group = []; having = None; order = []; nodes = ((node.Col (record { table = None; name = codes "a" })) ∷ (node.Col (record { table = None; name = codes "a" })) ∷ (node.Col (record { table = None; name = codes "b" })) ∷ (node.Compare cmp.Gt 1 2) ∷ []) }) [] tables_2 ≡ (((Int (pos 2)) ∷ []) ∷ [])
  -- SELECT a FROM e WHERE a >= b
  pub null_ge : answer (record { distinct = false; star = false; outputs = (record { node = 0; name = None } ∷ []); tables = (record { table = codes "e"; alias = codes "e"; on = None } ∷ []); filter = (Some 3); group = []; having = None; order = []; nodes = ((node.Col (record { table = None; name = codes "a" })) ∷ (node.Col (record { table = None; name = codes "a" })) ∷ (node.Col (record { table = None; name = codes "b" })) ∷ (node.Compare cmp.Ge 1 2) ∷ []) }) [] tables_2 ≡ (((Int (pos 2)) ∷ []) ∷ [])
  -- SELECT a + b, a - b, a * b, -a FROM e
  pub arithmetic : answer (record { distinct = false; star = false; outputs = (record { node = 2; name = None } ∷ record { node = 5; name = None } ∷ record { node = 8; name = None } ∷ record { node = 10; name = None } ∷ []); tables = (record { table = codes "e"; alias = codes "e"; on = None } ∷ []); filter = None; group = []; having = None; order = []; nodes = ((node.Col (record { table = None; name = codes "a" })) ∷ (node.Col (record { table = None; name = codes "b" })) ∷ (node.Arith op.Add 0 1) ∷ (node.Col (record { table = None; name = codes "a" })) ∷ (node.Col (record { table = None; name = codes "b" })) ∷ (node.Arith op.Sub 3 4) ∷ (node.Col (record { table = None; name = codes "a" })) ∷ (node.Col (record { table = None; name = codes "b" })) ∷ (node.Arith op.Mul 6 7) ∷ (node.Col (record { table = None; name = codes "a" })) ∷ (node.Neg 9) ∷ []) }) [] tables_2 ≡ ((Null ∷ Null ∷ Null ∷ Null ∷ []) ∷ (Null ∷ Null ∷ Null ∷ (Int (negsuc 0)) ∷ []) ∷ (Null ∷ Null ∷ Null ∷ Null ∷ []) ∷ ((Int (pos 3)) ∷ (Int (pos 1)) ∷ (Int (pos 2)) ∷ (Int (negsuc 1)) ∷ []) ∷ [])
  -- SELECT a FROM e WHERE a = b AND 1 = 0
  pub unknown_and_false : answer (record { distinct = false; star = false; outputs = (record { node = 0; name = None } ∷ []); tables = (record { table = codes "e"; alias = codes "e"; on = None } ∷ []); filter = (Some 7); group = []; having = None; order = []; nodes = ((node.Col (record { table = None; name = codes "a" })) ∷ (node.Col (record { table = None; name = codes "a" })) ∷ (node.Col (record { table = None; name = codes "b" })) ∷ (node.Compare cmp.Eq 1 2) ∷ (node.Lit (literal.Int (pos 1))) ∷ (node.Lit (literal.Int (pos 0))) ∷ (node.Compare cmp.Eq 4 5) ∷ (node.Both 3 6) ∷ []) }) [] tables_2 ≡ []
  -- SELECT b FROM e WHERE NOT (a = b AND 1 = 0)
  pub not_unknown_and_false : answer (record { distinct = false; star = false; outputs = (record { node = 0; name = None } ∷ []); tables = (record { table = codes "e"; alias = codes "e"; on = None } ∷ []); filter = (Some 8); group = []; having = None; order = []; nodes = ((node.Col (record { table = None; name = codes "b" })) ∷ (node.Col (record { table = None; name = codes "a" })) ∷ (node.Col (record { table = None; name = codes "b" })) ∷ (node.Compare cmp.Eq 1 2) ∷ (node.Lit (literal.Int (pos 1))) ∷ (node.Lit (literal.Int (pos 0))) ∷ (node.Compare cmp.Eq 4 5) ∷ (node.Both 3 6) ∷ (node.Not 7) ∷ []) }) [] tables_2 ≡ (((Int (pos 1)) ∷ []) ∷ (Null ∷ []) ∷ (Null ∷ []) ∷ ((Int (pos 1)) ∷ []) ∷ [])
  -- SELECT b FROM e WHERE a = b OR 1 = 1
  pub unknown_or_true : answer (record { distinct = false; star = false; outputs = (record { node = 0; name = None } ∷ []); tables = (record { table = codes "e"; alias = codes "e"; on = None } ∷ []); filter = (Some 7); group = []; having = None; order = []; nodes = ((node.Col (record { table = None; name = codes "b" })) ∷ (node.Col (record { table = None; name = codes "a" })) ∷ (node.Col (record { table = None; name = codes "b" })) ∷ (node.Compare cmp.Eq 1 2) ∷ (node.Lit (literal.Int (pos 1))) ∷ (node.Lit (literal.Int (pos 1))) ∷ (node.Compare cmp.Eq 4 5) ∷ (node.Either 3 6) ∷ []) }) [] tables_2 ≡ (((Int (pos 1)) ∷ []) ∷ (Null ∷ []) ∷ (Null ∷ []) ∷ ((Int (pos 1)) ∷ []) ∷ [])
  -- SELECT a FROM e WHERE NOT (a = b)
  pub not_unknown : answer (record { distinct = false; star = false; outputs = (record { node = 0; name = None } ∷ []); tables = (record { table = codes "e"; alias = codes "e"; on = None } ∷ []); filter = (Some 4); group = []; having = None; order = []; nodes = ((node.Col (record { table = None; name = codes "a" })) ∷ (node.Col (record { table = None; name = codes "a" })) ∷ (node.Col (record { table = None; name = codes "b" })) ∷ (node.Compare cmp.Eq 1 2) ∷ (node.Not 3) ∷ []) }) [] tables_2 ≡ (((Int (pos 2)) ∷ []) ∷ [])
  -- SELECT b FROM e WHERE a IS NULL
  pub is_null : answer (record { distinct = false; star = false; outputs = (record { node = 0; name = None } ∷ []); tables = (record { table = codes "e"; alias = codes "e"; on = None } ∷ []); filter = (Some 2); group = []; having = None; order = []; nodes = ((node.Col (record { table = None; name = codes "b" })) ∷ (node.Col (record { table = None; name = codes "a" })) ∷ (node.IsNull 1) ∷ []) }) [] tables_2 ≡ (((Int (pos 1)) ∷ []) ∷ (Null ∷ []) ∷ [])
  -- SELECT b FROM e WHERE a IS NOT NULL
  pub is_not_null : answer (record { distinct = false; star = false; outputs = (record { node = 0; name = None } ∷ []); tables = (record { table = codes "e"; alias = codes "e"; on = None } ∷ []); filter = (Some 2); group = []; having = None; order = []; nodes = ((node.Col (record { table = None; name = codes "b" })) ∷ (node.Col (record { table = None; name = codes "a" })) ∷ (node.NotNull 1) ∷ []) }) [] tables_2 ≡ ((Null ∷ []) ∷ ((Int (pos 1)) ∷ []) ∷ [])
  -- SELECT a FROM t WHERE a BETWEEN 2 AND 3
  pub between : answer (record { distinct = false; star = false; outputs = (record { node = 0; name = None } ∷ []); tables = (record { table = codes "t"; alias = codes "t"; on = None } ∷ []); filter = (Some 6); group = []; having = None; order = []; nodes = ((node.Col (record { table = None; name = codes "a" })) ∷ (node.Col (record { table = None; name = codes "a" })) ∷ (node.Lit (literal.Int (pos 2))) ∷ (node.Compare cmp.Ge 1 2) ∷ (node.Lit (literal.Int (pos 3))) ∷ (node.Compare cmp.Le 1 4) ∷ (node.Both 3 5) ∷ []) }) [] tables_3 ≡ (((Int (pos 2)) ∷ []) ∷ ((Int (pos 3)) ∷ []) ∷ [])
  -- SELECT a FROM t WHERE a NOT BETWEEN 2 AND 3
  pub not_between : answer (record { distinct = false; star = false; outputs = (record { node = 0; name = None } ∷ []); tables = (record { table = codes "t"; alias = codes "t"; on = None } ∷ []); filter = (Some 7); group = []; having = None; order = []; nodes = ((node.Col (record { table = None; name = codes "a" })) ∷ (node.Col (record { table = None; name = codes "a" })) ∷ (node.Lit (literal.Int (pos 2))) ∷ (node.Compare cmp.Ge 1 2) ∷ (node.Lit (literal.Int (pos 3))) ∷ (node.Compare cmp.Le 1 4) ∷ (node.Both 3 5) ∷ (node.Not 6) ∷ []) }) [] tables_3 ≡ (((Int (pos 1)) ∷ []) ∷ [])
  -- SELECT a FROM t WHERE a IN (1, 3)
  pub in_list : answer (record { distinct = false; star = false; outputs = (record { node = 0; name = None } ∷ []); tables = (record { table = codes "t"; alias = codes "t"; on = None } ∷ []); filter = (Some 6); group = []; having = None; order = []; nodes = ((node.Col (record { table = None; name = codes "a" })) ∷ (node.Col (record { table = None; name = codes "a" })) ∷ (node.Lit (literal.Int (pos 1))) ∷ (node.Compare cmp.Eq 1 2) ∷ (node.Lit (literal.Int (pos 3))) ∷ (node.Compare cmp.Eq 1 4) ∷ (node.Either 3 5) ∷ []) }) [] tables_3 ≡ (((Int (pos 1)) ∷ []) ∷ ((Int (pos 3)) ∷ []) ∷ [])
  -- SELECT a FROM t WHERE a NOT IN (1, 3)
  pub not_in_list : answer (record { distinct = false; star = false; outputs = (record { node = 0; name = None } ∷ []); tables = (record { table = codes "t"; alias = codes "t"; on = None } ∷ []); filter = (Some 7); group = []; having = None; order = []; nodes = ((node.Col (record { table = None; name = codes "a" })) ∷ (node.Col (record { table = None; name = codes "a" })) ∷ (node.Lit (literal.Int (pos 1))) ∷ (node.Compare cmp.Eq 1 2) ∷ (node.Lit (literal.Int (pos 3))) ∷ (node.Compare cmp.Eq 1 4) ∷ (node.Either 3 5) ∷ (node.Not 6) ∷ []) }) [] tables_3 ≡ (((Int (pos 2)) ∷ []) ∷ [])
  -- SELECT a FROM t WHERE a IN (1, NULL)
  pub in_null : answer (record { distinct = false; star = false; outputs = (record { node = 0; name = None } ∷ []); tables = (record { table = codes "t"; alias = codes "t"; on = None } ∷ []); filter = (Some 6); group = []; having = None; order = []; nodes = ((node.Col (record { table = None; name = codes "a" })) ∷ (node.Col (record { table = None; name = codes "a" })) ∷ (node.Lit (literal.Int (pos 1))) ∷ (node.Compare cmp.Eq 1 2) ∷ (node.Lit literal.Null) ∷ (node.Compare cmp.Eq 1 4) ∷ (node.Either 3 5) ∷ []) }) [] tables_4 ≡ (((Int (pos 1)) ∷ []) ∷ [])
  -- SELECT a FROM t WHERE a NOT IN (1, NULL)
  pub not_in_null : answer (record { distinct = false; star = false; outputs = (record { node = 0; name = None } ∷ []); tables = (record { table = codes "t"; alias = codes "t"; on = None } ∷ []); filter = (Some 7); group = []; having = None; order = []; nodes = ((node.Col (record { table = None; name = codes "a" })) ∷ (node.Col (record { table = None; name = codes "a" })) ∷ (node.Lit (literal.Int (pos 1))) ∷ (node.Compare cmp.Eq 1 2) ∷ (node.Lit literal.Null) ∷ (node.Compare cmp.Eq 1 4) ∷ (node.Either 3 5) ∷ (node.Not 6) ∷ []) }) [] tables_4 ≡ []
  -- SELECT v FROM s WHERE v < 'abc'
  pub prefix_less : answer (record { distinct = false; star = false; outputs = (record { node = 0; name = None } ∷ []); tables = (record { table = codes "s"; alias = codes "s"; on = None } ∷ []); filter = (Some 3); group = []; having = None; order = []; nodes = ((node.Col (record { table = None; name = codes "v" })) ∷ (node.Col (record { table = None; name = codes "v" })) ∷ (node.Lit (literal.Text (record { at = 0; len = 3 }))) ∷ (node.Compare cmp.Lt 1 2) ∷ []) }) (codes "abc") tables_5 ≡ (((Text (codes "ab")) ∷ []) ∷ ((Text (codes "a")) ∷ []) ∷ [])
  -- SELECT v FROM s WHERE v = 'ab'
  pub text_equal : answer (record { distinct = false; star = false; outputs = (record { node = 0; name = None } ∷ []); tables = (record { table = codes "s"; alias = codes "s"; on = None } ∷ []); filter = (Some 3); group = []; having = None; order = []; nodes = ((node.Col (record { table = None; name = codes "v" })) ∷ (node.Col (record { table = None; name = codes "v" })) ∷ (node.Lit (literal.Text (record { at = 0; len = 2 }))) ∷ (node.Compare cmp.Eq 1 2) ∷ []) }) (codes "ab") tables_5 ≡ (((Text (codes "ab")) ∷ []) ∷ [])
  -- SELECT -a FROM t
  pub negated : answer (record { distinct = false; star = false; outputs = (record { node = 1; name = None } ∷ []); tables = (record { table = codes "t"; alias = codes "t"; on = None } ∷ []); filter = None; group = []; having = None; order = []; nodes = ((node.Col (record { table = None; name = codes "a" })) ∷ (node.Neg 0) ∷ []) }) [] tables_6 ≡ (((Int (pos 2147483648)) ∷ []) ∷ ((Int (negsuc 2147483646)) ∷ []) ∷ [])
  -- SELECT a * a * a FROM t
  pub cubes : answer (record { distinct = false; star = false; outputs = (record { node = 4; name = None } ∷ []); tables = (record { table = codes "t"; alias = codes "t"; on = None } ∷ []); filter = None; group = []; having = None; order = []; nodes = ((node.Col (record { table = None; name = codes "a" })) ∷ (node.Col (record { table = None; name = codes "a" })) ∷ (node.Arith op.Mul 0 1) ∷ (node.Col (record { table = None; name = codes "a" })) ∷ (node.Arith op.Mul 2 3) ∷ []) }) [] tables_6 ≡ (((Int (negsuc 9903520314283042199192993791)) ∷ []) ∷ ((Int (pos 9903520300447984150353281023)) ∷ []) ∷ [])
  -- SELECT a * a * a * 1073741823 FROM t WHERE a < 0
  pub near_the_bound : answer (record { distinct = false; star = false; outputs = (record { node = 6; name = None } ∷ []); tables = (record { table = codes "t"; alias = codes "t"; on = None } ∷ []); filter = (Some 9); group = []; having = None; order = []; nodes = ((node.Col (record { table = None; name = codes "a" })) ∷ (node.Col (record { table = None; name = codes "a" })) ∷ (node.Arith op.Mul 0 1) ∷ (node.Col (record { table = None; name = codes "a" })) ∷ (node.Arith op.Mul 2 3) ∷ (node.Lit (literal.Int (pos 1073741823))) ∷ (node.Arith op.Mul 4 5) ∷ (node.Col (record { table = None; name = codes "a" })) ∷ (node.Lit (literal.Int (pos 0))) ∷ (node.Compare cmp.Lt 7 8) ∷ []) }) [] tables_6 ≡ (((Int (negsuc 10633823956375806668947414283049762815)) ∷ []) ∷ [])
