-- Worked conditions and plans, each with its answer by hand. A node is named by its place in the statement.
use Rattle.std.specs.Prelude.{◌≡◌, ℕ, true, false, List, [], ◌∷◌, Option, Some, None, map, pos, codes, slice_get}
use Rattle.hg_model.specs.Conditions.{split_conditions, first_table}
use Rattle.hg_model.specs.Plan.{JoinKey, IndexRead, keys_at, tests_at, floor_of, index_of, plan_of}
use Rattle.hg_model.specs.Query.{Query}
use Rattle.hg_model.specs.Scope.{scope_of, positions_of}
use Rattle.hg_model.specs.declared.trees.Cmp.TheVariants as cmp
use Rattle.hg_model.specs.declared.trees.Literal.TheVariants as literal
use Rattle.hg_model.specs.declared.trees.Node.TheVariants as node
use Rattle.hg_model.specs.declared.trees.Op.TheVariants as op
use Rattle.hg_model.specs.declared.trees.OrderBy.TheVariants.{Position}
use Rattle.hg_worked.specs.Samples.{tables_pqr, indexes_pq}

-- over the tables p, q and r of two columns, whatever their rows
abbrev pub tested : Query → List ℕ
tested q = let scope = scope_of (tables_pqr [] [] []) q in map (first_table scope (positions_of scope q) q) (split_conditions q)

abbrev pub keys_of : Query → ℕ → List JoinKey
keys_of q k = let scope = scope_of (tables_pqr [] [] []) q in keys_at scope (positions_of scope q) q k

abbrev pub tests_of : Query → ℕ → List ℕ
tests_of q k = let scope = scope_of (tables_pqr [] [] []) q in tests_at scope (positions_of scope q) q k

abbrev pub index_for : Query → ℕ → Option IndexRead
index_for q k = let scope = scope_of (tables_pqr [] [] []) q in index_of indexes_pq scope (positions_of scope q) q k (slice_get q.tables k)

-- nine conditions p.k = q.k
abbrev pub nine_equalities : Query
nine_equalities = record { distinct = false; star = true; outputs = []; tables = (record { table = codes "p"; alias = codes "p"; on = None } ∷ record { table = codes "q"; alias = codes "q"; on = None } ∷ []); filter = (Some 34); group = []; having = None; order = []; nodes = ((node.Col (record { table = Some (codes "p"); name = codes "k" })) ∷ (node.Col (record { table = Some (codes "q"); name = codes "k" })) ∷ (node.Compare cmp.Eq 0 1) ∷ (node.Col (record { table = Some (codes "p"); name = codes "k" })) ∷ (node.Col (record { table = Some (codes "q"); name = codes "k" })) ∷ (node.Compare cmp.Eq 3 4) ∷ (node.Both 2 5) ∷ (node.Col (record { table = Some (codes "p"); name = codes "k" })) ∷ (node.Col (record { table = Some (codes "q"); name = codes "k" })) ∷ (node.Compare cmp.Eq 7 8) ∷ (node.Both 6 9) ∷ (node.Col (record { table = Some (codes "p"); name = codes "k" })) ∷ (node.Col (record { table = Some (codes "q"); name = codes "k" })) ∷ (node.Compare cmp.Eq 11 12) ∷ (node.Both 10 13) ∷ (node.Col (record { table = Some (codes "p"); name = codes "k" })) ∷ (node.Col (record { table = Some (codes "q"); name = codes "k" })) ∷ (node.Compare cmp.Eq 15 16) ∷ (node.Both 14 17) ∷ (node.Col (record { table = Some (codes "p"); name = codes "k" })) ∷ (node.Col (record { table = Some (codes "q"); name = codes "k" })) ∷ (node.Compare cmp.Eq 19 20) ∷ (node.Both 18 21) ∷ (node.Col (record { table = Some (codes "p"); name = codes "k" })) ∷ (node.Col (record { table = Some (codes "q"); name = codes "k" })) ∷ (node.Compare cmp.Eq 23 24) ∷ (node.Both 22 25) ∷ (node.Col (record { table = Some (codes "p"); name = codes "k" })) ∷ (node.Col (record { table = Some (codes "q"); name = codes "k" })) ∷ (node.Compare cmp.Eq 27 28) ∷ (node.Both 26 29) ∷ (node.Col (record { table = Some (codes "p"); name = codes "k" })) ∷ (node.Col (record { table = Some (codes "q"); name = codes "k" })) ∷ (node.Compare cmp.Eq 31 32) ∷ (node.Both 30 33) ∷ []) }

pub record ConditionsHold : Type 0 where
  -- SELECT * FROM p WHERE k = 1 AND v BETWEEN 2 AND 3
  pub between_is_split : split_conditions (record { distinct = false; star = true; outputs = []; tables = (record { table = codes "p"; alias = codes "p"; on = None } ∷ []); filter = (Some 9); group = []; having = None; order = []; nodes = ((node.Col (record { table = None; name = codes "k" })) ∷ (node.Lit (literal.Int (pos 1))) ∷ (node.Compare cmp.Eq 0 1) ∷ (node.Col (record { table = None; name = codes "v" })) ∷ (node.Lit (literal.Int (pos 2))) ∷ (node.Compare cmp.Ge 3 4) ∷ (node.Lit (literal.Int (pos 3))) ∷ (node.Compare cmp.Le 3 6) ∷ (node.Both 5 7) ∷ (node.Both 2 8) ∷ []) }) ≡ 2 ∷ 5 ∷ 7 ∷ []
  -- SELECT * FROM p JOIN q ON p.k = q.k AND p.v = 1 WHERE p.v = 2 OR q.v = 2
  pub on_comes_first : split_conditions (record { distinct = false; star = true; outputs = []; tables = (record { table = codes "p"; alias = codes "p"; on = None } ∷ record { table = codes "q"; alias = codes "q"; on = (Some 6) } ∷ []); filter = (Some 13); group = []; having = None; order = []; nodes = ((node.Col (record { table = Some (codes "p"); name = codes "k" })) ∷ (node.Col (record { table = Some (codes "q"); name = codes "k" })) ∷ (node.Compare cmp.Eq 0 1) ∷ (node.Col (record { table = Some (codes "p"); name = codes "v" })) ∷ (node.Lit (literal.Int (pos 1))) ∷ (node.Compare cmp.Eq 3 4) ∷ (node.Both 2 5) ∷ (node.Col (record { table = Some (codes "p"); name = codes "v" })) ∷ (node.Lit (literal.Int (pos 2))) ∷ (node.Compare cmp.Eq 7 8) ∷ (node.Col (record { table = Some (codes "q"); name = codes "v" })) ∷ (node.Lit (literal.Int (pos 2))) ∷ (node.Compare cmp.Eq 10 11) ∷ (node.Either 9 12) ∷ []) }) ≡ 2 ∷ 5 ∷ 13 ∷ []
  -- SELECT * FROM p WHERE NOT (k = 1 AND v = 2)
  pub only_and_is_split : split_conditions (record { distinct = false; star = true; outputs = []; tables = (record { table = codes "p"; alias = codes "p"; on = None } ∷ []); filter = (Some 7); group = []; having = None; order = []; nodes = ((node.Col (record { table = None; name = codes "k" })) ∷ (node.Lit (literal.Int (pos 1))) ∷ (node.Compare cmp.Eq 0 1) ∷ (node.Col (record { table = None; name = codes "v" })) ∷ (node.Lit (literal.Int (pos 2))) ∷ (node.Compare cmp.Eq 3 4) ∷ (node.Both 2 5) ∷ (node.Not 6) ∷ []) }) ≡ 7 ∷ []
  -- SELECT * FROM p, q, r WHERE p.v = 1 AND q.v = p.v AND 1 = 1 AND r.k + p.k = q.k
  pub first_tables : tested (record { distinct = false; star = true; outputs = []; tables = (record { table = codes "p"; alias = codes "p"; on = None } ∷ record { table = codes "q"; alias = codes "q"; on = None } ∷ record { table = codes "r"; alias = codes "r"; on = None } ∷ []); filter = (Some 16); group = []; having = None; order = []; nodes = ((node.Col (record { table = Some (codes "p"); name = codes "v" })) ∷ (node.Lit (literal.Int (pos 1))) ∷ (node.Compare cmp.Eq 0 1) ∷ (node.Col (record { table = Some (codes "q"); name = codes "v" })) ∷ (node.Col (record { table = Some (codes "p"); name = codes "v" })) ∷ (node.Compare cmp.Eq 3 4) ∷ (node.Both 2 5) ∷ (node.Lit (literal.Int (pos 1))) ∷ (node.Lit (literal.Int (pos 1))) ∷ (node.Compare cmp.Eq 7 8) ∷ (node.Both 6 9) ∷ (node.Col (record { table = Some (codes "r"); name = codes "k" })) ∷ (node.Col (record { table = Some (codes "p"); name = codes "k" })) ∷ (node.Arith op.Add 11 12) ∷ (node.Col (record { table = Some (codes "q"); name = codes "k" })) ∷ (node.Compare cmp.Eq 13 14) ∷ (node.Both 10 15) ∷ []) }) ≡ 0 ∷ 1 ∷ 0 ∷ 2 ∷ []
  -- SELECT * FROM p, q WHERE p.k = q.k
  pub its_column_second : keys_of (record { distinct = false; star = true; outputs = []; tables = (record { table = codes "p"; alias = codes "p"; on = None } ∷ record { table = codes "q"; alias = codes "q"; on = None } ∷ []); filter = (Some 2); group = []; having = None; order = []; nodes = ((node.Col (record { table = Some (codes "p"); name = codes "k" })) ∷ (node.Col (record { table = Some (codes "q"); name = codes "k" })) ∷ (node.Compare cmp.Eq 0 1) ∷ []) }) 1 ≡ record { condition = 2; own = 1; earlier = 0 } ∷ []
  -- SELECT * FROM p, q WHERE q.k = p.k
  pub its_column_first : keys_of (record { distinct = false; star = true; outputs = []; tables = (record { table = codes "p"; alias = codes "p"; on = None } ∷ record { table = codes "q"; alias = codes "q"; on = None } ∷ []); filter = (Some 2); group = []; having = None; order = []; nodes = ((node.Col (record { table = Some (codes "q"); name = codes "k" })) ∷ (node.Col (record { table = Some (codes "p"); name = codes "k" })) ∷ (node.Compare cmp.Eq 0 1) ∷ []) }) 1 ≡ record { condition = 2; own = 0; earlier = 1 } ∷ []
  -- SELECT * FROM p, q WHERE p.k IN (q.k)
  pub in_with_one_item : keys_of (record { distinct = false; star = true; outputs = []; tables = (record { table = codes "p"; alias = codes "p"; on = None } ∷ record { table = codes "q"; alias = codes "q"; on = None } ∷ []); filter = (Some 2); group = []; having = None; order = []; nodes = ((node.Col (record { table = Some (codes "p"); name = codes "k" })) ∷ (node.Col (record { table = Some (codes "q"); name = codes "k" })) ∷ (node.Compare cmp.Eq 0 1) ∷ []) }) 1 ≡ record { condition = 2; own = 1; earlier = 0 } ∷ []
  -- SELECT * FROM p, q WHERE p.k IN (q.k, q.v)
  pub in_with_two_items : keys_of (record { distinct = false; star = true; outputs = []; tables = (record { table = codes "p"; alias = codes "p"; on = None } ∷ record { table = codes "q"; alias = codes "q"; on = None } ∷ []); filter = (Some 5); group = []; having = None; order = []; nodes = ((node.Col (record { table = Some (codes "p"); name = codes "k" })) ∷ (node.Col (record { table = Some (codes "q"); name = codes "k" })) ∷ (node.Compare cmp.Eq 0 1) ∷ (node.Col (record { table = Some (codes "q"); name = codes "v" })) ∷ (node.Compare cmp.Eq 0 3) ∷ (node.Either 2 4) ∷ []) }) 1 ≡ []
  -- SELECT * FROM p, q WHERE p.k = q.k + 0
  pub no_column_alone : keys_of (record { distinct = false; star = true; outputs = []; tables = (record { table = codes "p"; alias = codes "p"; on = None } ∷ record { table = codes "q"; alias = codes "q"; on = None } ∷ []); filter = (Some 4); group = []; having = None; order = []; nodes = ((node.Col (record { table = Some (codes "p"); name = codes "k" })) ∷ (node.Col (record { table = Some (codes "q"); name = codes "k" })) ∷ (node.Lit (literal.Int (pos 0))) ∷ (node.Arith op.Add 1 2) ∷ (node.Compare cmp.Eq 0 3) ∷ []) }) 1 ≡ []
  -- SELECT * FROM p, q WHERE q.k = q.v
  pub own_columns : keys_of (record { distinct = false; star = true; outputs = []; tables = (record { table = codes "p"; alias = codes "p"; on = None } ∷ record { table = codes "q"; alias = codes "q"; on = None } ∷ []); filter = (Some 2); group = []; having = None; order = []; nodes = ((node.Col (record { table = Some (codes "q"); name = codes "k" })) ∷ (node.Col (record { table = Some (codes "q"); name = codes "v" })) ∷ (node.Compare cmp.Eq 0 1) ∷ []) }) 1 ≡ []
  -- SELECT * FROM p, q WHERE p.k <= q.k
  pub no_equality : keys_of (record { distinct = false; star = true; outputs = []; tables = (record { table = codes "p"; alias = codes "p"; on = None } ∷ record { table = codes "q"; alias = codes "q"; on = None } ∷ []); filter = (Some 2); group = []; having = None; order = []; nodes = ((node.Col (record { table = Some (codes "p"); name = codes "k" })) ∷ (node.Col (record { table = Some (codes "q"); name = codes "k" })) ∷ (node.Compare cmp.Le 0 1) ∷ []) }) 1 ≡ []
  -- SELECT * FROM p, q, r WHERE p.k = q.k AND r.v = p.v AND q.v = r.k
  pub of_any_earlier_table : keys_of (record { distinct = false; star = true; outputs = []; tables = (record { table = codes "p"; alias = codes "p"; on = None } ∷ record { table = codes "q"; alias = codes "q"; on = None } ∷ record { table = codes "r"; alias = codes "r"; on = None } ∷ []); filter = (Some 10); group = []; having = None; order = []; nodes = ((node.Col (record { table = Some (codes "p"); name = codes "k" })) ∷ (node.Col (record { table = Some (codes "q"); name = codes "k" })) ∷ (node.Compare cmp.Eq 0 1) ∷ (node.Col (record { table = Some (codes "r"); name = codes "v" })) ∷ (node.Col (record { table = Some (codes "p"); name = codes "v" })) ∷ (node.Compare cmp.Eq 3 4) ∷ (node.Both 2 5) ∷ (node.Col (record { table = Some (codes "q"); name = codes "v" })) ∷ (node.Col (record { table = Some (codes "r"); name = codes "k" })) ∷ (node.Compare cmp.Eq 7 8) ∷ (node.Both 6 9) ∷ []) }) 2 ≡ record { condition = 5; own = 3; earlier = 4 } ∷ record { condition = 9; own = 8; earlier = 7 } ∷ []
  -- SELECT * FROM p, q WHERE p.k = q.k AND p.k = q.k and so on, nine times
  pub eight_keys : map (λ (key : JoinKey). key.condition) (keys_of nine_equalities 1) ≡ 2 ∷ 5 ∷ 9 ∷ 13 ∷ 17 ∷ 21 ∷ 25 ∷ 29 ∷ []
  -- SELECT * FROM p, q WHERE p.k = q.k AND p.k = q.k and so on, nine times
  pub ninth_is_a_test : tests_of nine_equalities 1 ≡ 33 ∷ []
  -- SELECT * FROM p, q WHERE p.k < q.k
  pub no_join_no_order : floor_of (tables_pqr [] [] []) (record { distinct = false; star = true; outputs = []; tables = (record { table = codes "p"; alias = codes "p"; on = None } ∷ record { table = codes "q"; alias = codes "q"; on = None } ∷ []); filter = (Some 2); group = []; having = None; order = []; nodes = ((node.Col (record { table = Some (codes "p"); name = codes "k" })) ∷ (node.Col (record { table = Some (codes "q"); name = codes "k" })) ∷ (node.Compare cmp.Lt 0 1) ∷ []) }) ≡ 0
  -- SELECT * FROM p, q WHERE p.k < q.k ORDER BY 1
  pub floor_of_order : floor_of (tables_pqr [] [] []) (record { distinct = false; star = true; outputs = []; tables = (record { table = codes "p"; alias = codes "p"; on = None } ∷ record { table = codes "q"; alias = codes "q"; on = None } ∷ []); filter = (Some 2); group = []; having = None; order = (record { by = Position 1; descending = false } ∷ []); nodes = ((node.Col (record { table = Some (codes "p"); name = codes "k" })) ∷ (node.Col (record { table = Some (codes "q"); name = codes "k" })) ∷ (node.Compare cmp.Lt 0 1) ∷ []) }) ≡ 1
  -- SELECT * FROM p, q, r WHERE p.k = q.k AND q.v = r.k ORDER BY 1
  pub floor_of_two_joins : floor_of (tables_pqr [] [] []) (record { distinct = false; star = true; outputs = []; tables = (record { table = codes "p"; alias = codes "p"; on = None } ∷ record { table = codes "q"; alias = codes "q"; on = None } ∷ record { table = codes "r"; alias = codes "r"; on = None } ∷ []); filter = (Some 6); group = []; having = None; order = (record { by = Position 1; descending = false } ∷ []); nodes = ((node.Col (record { table = Some (codes "p"); name = codes "k" })) ∷ (node.Col (record { table = Some (codes "q"); name = codes "k" })) ∷ (node.Compare cmp.Eq 0 1) ∷ (node.Col (record { table = Some (codes "q"); name = codes "v" })) ∷ (node.Col (record { table = Some (codes "r"); name = codes "k" })) ∷ (node.Compare cmp.Eq 3 4) ∷ (node.Both 2 5) ∷ []) }) ≡ 3

pub record IndexesHold : Type 0 where
  -- SELECT * FROM p WHERE k = 5
  pub first_by_creation : index_for (record { distinct = false; star = true; outputs = []; tables = (record { table = codes "p"; alias = codes "p"; on = None } ∷ []); filter = (Some 2); group = []; having = None; order = []; nodes = ((node.Col (record { table = None; name = codes "k" })) ∷ (node.Lit (literal.Int (pos 5))) ∷ (node.Compare cmp.Eq 0 1) ∷ []) }) 0 ≡ Some (record { index = 2; constant = 1 })
  -- SELECT * FROM p WHERE 5 = k
  pub constant_first : index_for (record { distinct = false; star = true; outputs = []; tables = (record { table = codes "p"; alias = codes "p"; on = None } ∷ []); filter = (Some 2); group = []; having = None; order = []; nodes = ((node.Lit (literal.Int (pos 5))) ∷ (node.Col (record { table = None; name = codes "k" })) ∷ (node.Compare cmp.Eq 0 1) ∷ []) }) 0 ≡ Some (record { index = 2; constant = 0 })
  -- SELECT * FROM p WHERE k = -5
  pub minus_a_number : index_for (record { distinct = false; star = true; outputs = []; tables = (record { table = codes "p"; alias = codes "p"; on = None } ∷ []); filter = (Some 3); group = []; having = None; order = []; nodes = ((node.Col (record { table = None; name = codes "k" })) ∷ (node.Lit (literal.Int (pos 5))) ∷ (node.Neg 1) ∷ (node.Compare cmp.Eq 0 2) ∷ []) }) 0 ≡ Some (record { index = 2; constant = 2 })
  -- SELECT * FROM p WHERE k = NULL
  pub null_is_no_constant : index_for (record { distinct = false; star = true; outputs = []; tables = (record { table = codes "p"; alias = codes "p"; on = None } ∷ []); filter = (Some 2); group = []; having = None; order = []; nodes = ((node.Col (record { table = None; name = codes "k" })) ∷ (node.Lit literal.Null) ∷ (node.Compare cmp.Eq 0 1) ∷ []) }) 0 ≡ None
  -- SELECT * FROM p WHERE k = 2 + 3
  pub sum_is_no_constant : index_for (record { distinct = false; star = true; outputs = []; tables = (record { table = codes "p"; alias = codes "p"; on = None } ∷ []); filter = (Some 4); group = []; having = None; order = []; nodes = ((node.Col (record { table = None; name = codes "k" })) ∷ (node.Lit (literal.Int (pos 2))) ∷ (node.Lit (literal.Int (pos 3))) ∷ (node.Arith op.Add 1 2) ∷ (node.Compare cmp.Eq 0 3) ∷ []) }) 0 ≡ None
  -- SELECT * FROM p WHERE k = -(-5)
  pub minus_twice_is_no_constant : index_for (record { distinct = false; star = true; outputs = []; tables = (record { table = codes "p"; alias = codes "p"; on = None } ∷ []); filter = (Some 4); group = []; having = None; order = []; nodes = ((node.Col (record { table = None; name = codes "k" })) ∷ (node.Lit (literal.Int (pos 5))) ∷ (node.Neg 1) ∷ (node.Neg 2) ∷ (node.Compare cmp.Eq 0 3) ∷ []) }) 0 ≡ None
  -- SELECT * FROM p WHERE k = 1 OR v = 2
  pub or_reads_all : index_for (record { distinct = false; star = true; outputs = []; tables = (record { table = codes "p"; alias = codes "p"; on = None } ∷ []); filter = (Some 6); group = []; having = None; order = []; nodes = ((node.Col (record { table = None; name = codes "k" })) ∷ (node.Lit (literal.Int (pos 1))) ∷ (node.Compare cmp.Eq 0 1) ∷ (node.Col (record { table = None; name = codes "v" })) ∷ (node.Lit (literal.Int (pos 2))) ∷ (node.Compare cmp.Eq 3 4) ∷ (node.Either 2 5) ∷ []) }) 0 ≡ None
  -- SELECT * FROM p WHERE k > 5
  pub greater_reads_all : index_for (record { distinct = false; star = true; outputs = []; tables = (record { table = codes "p"; alias = codes "p"; on = None } ∷ []); filter = (Some 2); group = []; having = None; order = []; nodes = ((node.Col (record { table = None; name = codes "k" })) ∷ (node.Lit (literal.Int (pos 5))) ∷ (node.Compare cmp.Gt 0 1) ∷ []) }) 0 ≡ None
  -- SELECT * FROM p WHERE k = 1 AND k = 2
  pub first_condition : index_for (record { distinct = false; star = true; outputs = []; tables = (record { table = codes "p"; alias = codes "p"; on = None } ∷ []); filter = (Some 6); group = []; having = None; order = []; nodes = ((node.Col (record { table = None; name = codes "k" })) ∷ (node.Lit (literal.Int (pos 1))) ∷ (node.Compare cmp.Eq 0 1) ∷ (node.Col (record { table = None; name = codes "k" })) ∷ (node.Lit (literal.Int (pos 2))) ∷ (node.Compare cmp.Eq 3 4) ∷ (node.Both 2 5) ∷ []) }) 0 ≡ Some (record { index = 2; constant = 1 })
  -- SELECT * FROM p WHERE k = 1 AND v = 2
  pub first_index : index_for (record { distinct = false; star = true; outputs = []; tables = (record { table = codes "p"; alias = codes "p"; on = None } ∷ []); filter = (Some 6); group = []; having = None; order = []; nodes = ((node.Col (record { table = None; name = codes "k" })) ∷ (node.Lit (literal.Int (pos 1))) ∷ (node.Compare cmp.Eq 0 1) ∷ (node.Col (record { table = None; name = codes "v" })) ∷ (node.Lit (literal.Int (pos 2))) ∷ (node.Compare cmp.Eq 3 4) ∷ (node.Both 2 5) ∷ []) }) 0 ≡ Some (record { index = 1; constant = 4 })
  -- SELECT * FROM p, q WHERE q.k = 7
  pub later_table : index_for (record { distinct = false; star = true; outputs = []; tables = (record { table = codes "p"; alias = codes "p"; on = None } ∷ record { table = codes "q"; alias = codes "q"; on = None } ∷ []); filter = (Some 2); group = []; having = None; order = []; nodes = ((node.Col (record { table = Some (codes "q"); name = codes "k" })) ∷ (node.Lit (literal.Int (pos 7))) ∷ (node.Compare cmp.Eq 0 1) ∷ []) }) 1 ≡ Some (record { index = 0; constant = 1 })
  -- SELECT * FROM p, q WHERE q.k = 7
  pub other_table_reads_all : index_for (record { distinct = false; star = true; outputs = []; tables = (record { table = codes "p"; alias = codes "p"; on = None } ∷ record { table = codes "q"; alias = codes "q"; on = None } ∷ []); filter = (Some 2); group = []; having = None; order = []; nodes = ((node.Col (record { table = Some (codes "q"); name = codes "k" })) ∷ (node.Lit (literal.Int (pos 7))) ∷ (node.Compare cmp.Eq 0 1) ∷ []) }) 0 ≡ None
  -- SELECT * FROM p, q WHERE q.k = p.k AND p.v = 2 AND q.v > p.v
  pub whole_plan : plan_of (tables_pqr [] [] []) indexes_pq (record { distinct = false; star = true; outputs = []; tables = (record { table = codes "p"; alias = codes "p"; on = None } ∷ record { table = codes "q"; alias = codes "q"; on = None } ∷ []); filter = (Some 10); group = []; having = None; order = []; nodes = ((node.Col (record { table = Some (codes "q"); name = codes "k" })) ∷ (node.Col (record { table = Some (codes "p"); name = codes "k" })) ∷ (node.Compare cmp.Eq 0 1) ∷ (node.Col (record { table = Some (codes "p"); name = codes "v" })) ∷ (node.Lit (literal.Int (pos 2))) ∷ (node.Compare cmp.Eq 3 4) ∷ (node.Both 2 5) ∷ (node.Col (record { table = Some (codes "q"); name = codes "v" })) ∷ (node.Col (record { table = Some (codes "p"); name = codes "v" })) ∷ (node.Compare cmp.Gt 7 8) ∷ (node.Both 6 9) ∷ []) }) ≡ record { index = Some (record { index = 1; constant = 4 }); keys = []; tests = 5 ∷ [] } ∷ record { index = None; keys = record { condition = 2; own = 0; earlier = 1 } ∷ []; tests = 9 ∷ [] } ∷ []
