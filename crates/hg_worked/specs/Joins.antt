-- Worked statements, each with its answer by hand.
use Rattle.std.specs.Prelude.{◌≡◌, true, false, [], ◌∷◌, Some, None, pos, codes}
use Rattle.hg_model.specs.Binding.{select_refusal}
use Rattle.hg_model.specs.Refusal.{UnknownColumn}
use Rattle.hg_model.specs.declared.trees.Literal.TheVariants as literal
use Rattle.hg_model.specs.declared.trees.Cmp.TheVariants as cmp
use Rattle.hg_model.specs.declared.trees.Op.TheVariants as op
use Rattle.hg_model.specs.declared.trees.Node.TheVariants as node
use Rattle.hg_model.specs.declared.values.Value.TheVariants.{Int}
use Rattle.hg_worked.specs.Answers.{answer}
use Rattle.hg_worked.specs.Samples.{tables_7, tables_8}

pub record JoinsHold : Type 0 where
  -- SELECT t.a, u.a FROM t JOIN u ON t.a < u.a WHERE u.a - t.a = 1
  pub on_less : answer (record { distinct = false; star = false; outputs = (record { node = 0; name = None } ∷ record { node = 1; name = None } ∷ []); tables = (record { table = codes "t"; alias = codes "t"; on = None } ∷ record { table = codes "u"; alias = codes "u"; on = (Some 4) } ∷ []); filter = (Some 9); group = []; having = None; order = []; nodes = ((node.Col (record { table = (Some (codes "t")); name = codes "a" })) ∷ (node.Col (record { table = (Some (codes "u")); name = codes "a" })) ∷ (node.Col (record { table = (Some (codes "t")); name = codes "a" })) ∷ (node.Col (record { table = (Some (codes "u")); name = codes "a" })) ∷ (node.Compare cmp.Lt 2 3) ∷ (node.Col (record { table = (Some (codes "u")); name = codes "a" })) ∷ (node.Col (record { table = (Some (codes "t")); name = codes "a" })) ∷ (node.Arith op.Sub 5 6) ∷ (node.Lit (literal.Int (pos 1))) ∷ (node.Compare cmp.Eq 7 8) ∷ []) }) [] tables_7 ≡ (((Int (pos 1)) ∷ (Int (pos 2)) ∷ []) ∷ ((Int (pos 2)) ∷ (Int (pos 3)) ∷ []) ∷ [])
  -- SELECT w.x FROM j w JOIN j y ON y.x = w.x INNER JOIN j z ON z.x = w.x AND y.x = z.x CROSS JOIN j v WHERE v.x = 2
  pub four : answer (record { distinct = false; star = false; outputs = (record { node = 0; name = None } ∷ []); tables = (record { table = codes "j"; alias = codes "w"; on = None } ∷ record { table = codes "j"; alias = codes "y"; on = (Some 3) } ∷ record { table = codes "j"; alias = codes "z"; on = (Some 10) } ∷ record { table = codes "j"; alias = codes "v"; on = None } ∷ []); filter = (Some 13); group = []; having = None; order = []; nodes = ((node.Col (record { table = (Some (codes "w")); name = codes "x" })) ∷ (node.Col (record { table = (Some (codes "y")); name = codes "x" })) ∷ (node.Col (record { table = (Some (codes "w")); name = codes "x" })) ∷ (node.Compare cmp.Eq 1 2) ∷ (node.Col (record { table = (Some (codes "z")); name = codes "x" })) ∷ (node.Col (record { table = (Some (codes "w")); name = codes "x" })) ∷ (node.Compare cmp.Eq 4 5) ∷ (node.Col (record { table = (Some (codes "y")); name = codes "x" })) ∷ (node.Col (record { table = (Some (codes "z")); name = codes "x" })) ∷ (node.Compare cmp.Eq 7 8) ∷ (node.Both 6 9) ∷ (node.Col (record { table = (Some (codes "v")); name = codes "x" })) ∷ (node.Lit (literal.Int (pos 2))) ∷ (node.Compare cmp.Eq 11 12) ∷ []) }) [] tables_8 ≡ (((Int (pos 1)) ∷ []) ∷ ((Int (pos 2)) ∷ []) ∷ [])
  -- SELECT * FROM t, u
  pub star : answer (record { distinct = false; star = true; outputs = []; tables = (record { table = codes "t"; alias = codes "t"; on = None } ∷ record { table = codes "u"; alias = codes "u"; on = None } ∷ []); filter = None; group = []; having = None; order = []; nodes = [] }) [] tables_7 ≡ (((Int (pos 1)) ∷ (Int (pos 2)) ∷ []) ∷ ((Int (pos 1)) ∷ (Int (pos 3)) ∷ []) ∷ ((Int (pos 2)) ∷ (Int (pos 2)) ∷ []) ∷ ((Int (pos 2)) ∷ (Int (pos 3)) ∷ []) ∷ [])
  -- SELECT w.x FROM j w JOIN j y ON z.x = 1 JOIN j z ON 1 = 1
  pub on_later : select_refusal tables_8 (record { distinct = false; star = false; outputs = (record { node = 0; name = None } ∷ []); tables = (record { table = codes "j"; alias = codes "w"; on = None } ∷ record { table = codes "j"; alias = codes "y"; on = (Some 3) } ∷ record { table = codes "j"; alias = codes "z"; on = (Some 6) } ∷ []); filter = None; group = []; having = None; order = []; nodes = ((node.Col (record { table = (Some (codes "w")); name = codes "x" })) ∷ (node.Col (record { table = (Some (codes "z")); name = codes "x" })) ∷ (node.Lit (literal.Int (pos 1))) ∷ (node.Compare cmp.Eq 1 2) ∷ (node.Lit (literal.Int (pos 1))) ∷ (node.Lit (literal.Int (pos 1))) ∷ (node.Compare cmp.Eq 4 5) ∷ []) }) ≡ Some (UnknownColumn (record { table = Some (codes "z"); name = codes "x" }))
  -- SELECT w.x FROM j w JOIN j y ON w.x = 1 JOIN j z ON 1 = 1
  pub on_left : select_refusal tables_8 (record { distinct = false; star = false; outputs = (record { node = 0; name = None } ∷ []); tables = (record { table = codes "j"; alias = codes "w"; on = None } ∷ record { table = codes "j"; alias = codes "y"; on = (Some 3) } ∷ record { table = codes "j"; alias = codes "z"; on = (Some 6) } ∷ []); filter = None; group = []; having = None; order = []; nodes = ((node.Col (record { table = (Some (codes "w")); name = codes "x" })) ∷ (node.Col (record { table = (Some (codes "w")); name = codes "x" })) ∷ (node.Lit (literal.Int (pos 1))) ∷ (node.Compare cmp.Eq 1 2) ∷ (node.Lit (literal.Int (pos 1))) ∷ (node.Lit (literal.Int (pos 1))) ∷ (node.Compare cmp.Eq 4 5) ∷ []) }) ≡ None
