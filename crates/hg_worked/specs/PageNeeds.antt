-- Worked needs of statements, each by hand.
use Rattle.std.specs.Prelude.{◌≡◌, true, false, List, [], ◌∷◌, Some, None, length, pos, codes}
use Rattle.hg_model.specs.CommandNeeds.{needs, needs_of}
use Rattle.hg_model.specs.Intake.{intake, select_need}
use Rattle.hg_model.specs.Query.{Query}
use Rattle.hg_model.specs.SelectMeaning.{setting_of, kept_rows}
use Rattle.hg_model.specs.Statements.{CreateTable, CreateIndex, InsertRows, UpdateRows, DeleteRows, Vacuum, SelectRows, OpenCursor, Work}
use Rattle.hg_model.specs.Tables.{Table}
use Rattle.hg_model.specs.declared.trees.Cmp.TheVariants as cmp
use Rattle.hg_model.specs.declared.trees.Fold.TheVariants as of
use Rattle.hg_model.specs.declared.trees.Literal.TheVariants as literal
use Rattle.hg_model.specs.declared.trees.Node.TheVariants as node
use Rattle.hg_model.specs.declared.trees.OrderBy.TheVariants.{Position, Column as ByColumn}
use Rattle.hg_model.specs.declared.trees.SqlType.TheVariants.{Integer}
use Rattle.hg_model.specs.declared.values.Value.{Value}
use Rattle.hg_model.specs.declared.values.Value.TheVariants.{Int}
use Rattle.hg_worked.specs.Samples.{tables_pqr, indexes_pq}

-- SELECT p.k, q.v FROM p, q WHERE p.k = q.k
abbrev pub joined : Query
joined = record { distinct = false; star = false; outputs = (record { node = 0; name = None } ∷ record { node = 1; name = None } ∷ []); tables = (record { table = codes "p"; alias = codes "p"; on = None } ∷ record { table = codes "q"; alias = codes "q"; on = None } ∷ []); filter = (Some 4); group = []; having = None; order = []; nodes = ((node.Col (record { table = Some (codes "p"); name = codes "k" })) ∷ (node.Col (record { table = Some (codes "q"); name = codes "v" })) ∷ (node.Col (record { table = Some (codes "p"); name = codes "k" })) ∷ (node.Col (record { table = Some (codes "q"); name = codes "k" })) ∷ (node.Compare cmp.Eq 2 3) ∷ []) }

-- SELECT COUNT(*) FROM p, q WHERE p.k = q.k
abbrev pub counted : Query
counted = record { distinct = false; star = false; outputs = (record { node = 0; name = None } ∷ []); tables = (record { table = codes "p"; alias = codes "p"; on = None } ∷ record { table = codes "q"; alias = codes "q"; on = None } ∷ []); filter = (Some 3); group = []; having = None; order = []; nodes = ((node.Aggregate of.CountRows None) ∷ (node.Col (record { table = Some (codes "p"); name = codes "k" })) ∷ (node.Col (record { table = Some (codes "q"); name = codes "k" })) ∷ (node.Compare cmp.Eq 1 2) ∷ []) }

abbrev pub two_tables : List (List Value) → List (List Value) → List Table
two_tables ps qs = tables_pqr ps qs []

-- over two tables of 2,000 rows, whatever stands in them, joined one to one where these are counted
pub record TwoThousandRows (ps qs : List (List Value)) : Type 0 where
  pub first : length ps ≡ 2000
  pub second : length qs ≡ 2000

abbrev pub JoinNeeds : Type 0
JoinNeeds = (ps qs : List (List Value)) → TwoThousandRows ps qs → select_need joined [] (two_tables ps qs) ≡ 16128

abbrev pub CountedJoinNeeds : Type 0
CountedJoinNeeds = (ps qs : List (List Value)) → TwoThousandRows ps qs → length (kept_rows (setting_of counted [] (two_tables ps qs)) (two_tables ps qs)) ≡ 2000
    → select_need counted [] (two_tables ps qs) ≡ 24128

pub record IntakesHold : Type 0 where
  -- SELECT p.k, q.v FROM p, q WHERE p.k = q.k
  pub join_of_three : intake (record { distinct = false; star = false; outputs = (record { node = 0; name = None } ∷ record { node = 1; name = None } ∷ []); tables = (record { table = codes "p"; alias = codes "p"; on = None } ∷ record { table = codes "q"; alias = codes "q"; on = None } ∷ []); filter = (Some 4); group = []; having = None; order = []; nodes = ((node.Col (record { table = Some (codes "p"); name = codes "k" })) ∷ (node.Col (record { table = Some (codes "q"); name = codes "v" })) ∷ (node.Col (record { table = Some (codes "p"); name = codes "k" })) ∷ (node.Col (record { table = Some (codes "q"); name = codes "k" })) ∷ (node.Compare cmp.Eq 2 3) ∷ []) }) [] (tables_pqr (((Int (pos 1)) ∷ (Int (pos 1)) ∷ []) ∷ ((Int (pos 2)) ∷ (Int (pos 2)) ∷ []) ∷ ((Int (pos 3)) ∷ (Int (pos 3)) ∷ []) ∷ []) (((Int (pos 1)) ∷ (Int (pos 1)) ∷ []) ∷ ((Int (pos 2)) ∷ (Int (pos 2)) ∷ []) ∷ ((Int (pos 3)) ∷ (Int (pos 3)) ∷ []) ∷ []) []) ≡ 6
  -- SELECT p.k, q.v FROM p, q WHERE p.k = q.k
  pub need_of_join : select_need (record { distinct = false; star = false; outputs = (record { node = 0; name = None } ∷ record { node = 1; name = None } ∷ []); tables = (record { table = codes "p"; alias = codes "p"; on = None } ∷ record { table = codes "q"; alias = codes "q"; on = None } ∷ []); filter = (Some 4); group = []; having = None; order = []; nodes = ((node.Col (record { table = Some (codes "p"); name = codes "k" })) ∷ (node.Col (record { table = Some (codes "q"); name = codes "v" })) ∷ (node.Col (record { table = Some (codes "p"); name = codes "k" })) ∷ (node.Col (record { table = Some (codes "q"); name = codes "k" })) ∷ (node.Compare cmp.Eq 2 3) ∷ []) }) [] (tables_pqr (((Int (pos 1)) ∷ (Int (pos 1)) ∷ []) ∷ ((Int (pos 2)) ∷ (Int (pos 2)) ∷ []) ∷ ((Int (pos 3)) ∷ (Int (pos 3)) ∷ []) ∷ []) (((Int (pos 1)) ∷ (Int (pos 1)) ∷ []) ∷ ((Int (pos 2)) ∷ (Int (pos 2)) ∷ []) ∷ ((Int (pos 3)) ∷ (Int (pos 3)) ∷ []) ∷ []) []) ≡ 152
  -- SELECT COUNT(*) FROM p, q WHERE p.k = q.k
  pub counted_join : intake (record { distinct = false; star = false; outputs = (record { node = 0; name = None } ∷ []); tables = (record { table = codes "p"; alias = codes "p"; on = None } ∷ record { table = codes "q"; alias = codes "q"; on = None } ∷ []); filter = (Some 3); group = []; having = None; order = []; nodes = ((node.Aggregate of.CountRows None) ∷ (node.Col (record { table = Some (codes "p"); name = codes "k" })) ∷ (node.Col (record { table = Some (codes "q"); name = codes "k" })) ∷ (node.Compare cmp.Eq 1 2) ∷ []) }) [] (tables_pqr (((Int (pos 1)) ∷ (Int (pos 1)) ∷ []) ∷ ((Int (pos 2)) ∷ (Int (pos 2)) ∷ []) ∷ ((Int (pos 3)) ∷ (Int (pos 3)) ∷ []) ∷ []) (((Int (pos 1)) ∷ (Int (pos 1)) ∷ []) ∷ ((Int (pos 2)) ∷ (Int (pos 2)) ∷ []) ∷ ((Int (pos 3)) ∷ (Int (pos 3)) ∷ []) ∷ []) []) ≡ 9
  -- SELECT COUNT(*) FROM p, q WHERE p.k = q.k
  pub need_of_counted_join : select_need (record { distinct = false; star = false; outputs = (record { node = 0; name = None } ∷ []); tables = (record { table = codes "p"; alias = codes "p"; on = None } ∷ record { table = codes "q"; alias = codes "q"; on = None } ∷ []); filter = (Some 3); group = []; having = None; order = []; nodes = ((node.Aggregate of.CountRows None) ∷ (node.Col (record { table = Some (codes "p"); name = codes "k" })) ∷ (node.Col (record { table = Some (codes "q"); name = codes "k" })) ∷ (node.Compare cmp.Eq 1 2) ∷ []) }) [] (tables_pqr (((Int (pos 1)) ∷ (Int (pos 1)) ∷ []) ∷ ((Int (pos 2)) ∷ (Int (pos 2)) ∷ []) ∷ ((Int (pos 3)) ∷ (Int (pos 3)) ∷ []) ∷ []) (((Int (pos 1)) ∷ (Int (pos 1)) ∷ []) ∷ ((Int (pos 2)) ∷ (Int (pos 2)) ∷ []) ∷ ((Int (pos 3)) ∷ (Int (pos 3)) ∷ []) ∷ []) []) ≡ 164
  -- SELECT p.k, q.v FROM p, q WHERE p.k = q.k AND p.v = 1
  pub condition_before : intake (record { distinct = false; star = false; outputs = (record { node = 0; name = None } ∷ record { node = 1; name = None } ∷ []); tables = (record { table = codes "p"; alias = codes "p"; on = None } ∷ record { table = codes "q"; alias = codes "q"; on = None } ∷ []); filter = (Some 8); group = []; having = None; order = []; nodes = ((node.Col (record { table = Some (codes "p"); name = codes "k" })) ∷ (node.Col (record { table = Some (codes "q"); name = codes "v" })) ∷ (node.Col (record { table = Some (codes "p"); name = codes "k" })) ∷ (node.Col (record { table = Some (codes "q"); name = codes "k" })) ∷ (node.Compare cmp.Eq 2 3) ∷ (node.Col (record { table = Some (codes "p"); name = codes "v" })) ∷ (node.Lit (literal.Int (pos 1))) ∷ (node.Compare cmp.Eq 5 6) ∷ (node.Both 4 7) ∷ []) }) [] (tables_pqr (((Int (pos 1)) ∷ (Int (pos 1)) ∷ []) ∷ ((Int (pos 2)) ∷ (Int (pos 2)) ∷ []) ∷ ((Int (pos 3)) ∷ (Int (pos 3)) ∷ []) ∷ []) (((Int (pos 1)) ∷ (Int (pos 1)) ∷ []) ∷ ((Int (pos 2)) ∷ (Int (pos 2)) ∷ []) ∷ ((Int (pos 3)) ∷ (Int (pos 3)) ∷ []) ∷ []) []) ≡ 4
  -- SELECT p.k, q.v FROM p, q WHERE p.k = q.k AND q.v = 1
  pub condition_behind : intake (record { distinct = false; star = false; outputs = (record { node = 0; name = None } ∷ record { node = 1; name = None } ∷ []); tables = (record { table = codes "p"; alias = codes "p"; on = None } ∷ record { table = codes "q"; alias = codes "q"; on = None } ∷ []); filter = (Some 8); group = []; having = None; order = []; nodes = ((node.Col (record { table = Some (codes "p"); name = codes "k" })) ∷ (node.Col (record { table = Some (codes "q"); name = codes "v" })) ∷ (node.Col (record { table = Some (codes "p"); name = codes "k" })) ∷ (node.Col (record { table = Some (codes "q"); name = codes "k" })) ∷ (node.Compare cmp.Eq 2 3) ∷ (node.Col (record { table = Some (codes "q"); name = codes "v" })) ∷ (node.Lit (literal.Int (pos 1))) ∷ (node.Compare cmp.Eq 5 6) ∷ (node.Both 4 7) ∷ []) }) [] (tables_pqr (((Int (pos 1)) ∷ (Int (pos 1)) ∷ []) ∷ ((Int (pos 2)) ∷ (Int (pos 2)) ∷ []) ∷ ((Int (pos 3)) ∷ (Int (pos 3)) ∷ []) ∷ []) (((Int (pos 1)) ∷ (Int (pos 1)) ∷ []) ∷ ((Int (pos 2)) ∷ (Int (pos 2)) ∷ []) ∷ ((Int (pos 3)) ∷ (Int (pos 3)) ∷ []) ∷ []) []) ≡ 6
  -- SELECT * FROM p, q, r WHERE p.k = q.k AND q.v = r.k AND p.v < 3
  pub second_join : intake (record { distinct = false; star = true; outputs = []; tables = (record { table = codes "p"; alias = codes "p"; on = None } ∷ record { table = codes "q"; alias = codes "q"; on = None } ∷ record { table = codes "r"; alias = codes "r"; on = None } ∷ []); filter = (Some 10); group = []; having = None; order = []; nodes = ((node.Col (record { table = Some (codes "p"); name = codes "k" })) ∷ (node.Col (record { table = Some (codes "q"); name = codes "k" })) ∷ (node.Compare cmp.Eq 0 1) ∷ (node.Col (record { table = Some (codes "q"); name = codes "v" })) ∷ (node.Col (record { table = Some (codes "r"); name = codes "k" })) ∷ (node.Compare cmp.Eq 3 4) ∷ (node.Both 2 5) ∷ (node.Col (record { table = Some (codes "p"); name = codes "v" })) ∷ (node.Lit (literal.Int (pos 3))) ∷ (node.Compare cmp.Lt 7 8) ∷ (node.Both 6 9) ∷ []) }) [] (tables_pqr (((Int (pos 1)) ∷ (Int (pos 1)) ∷ []) ∷ ((Int (pos 2)) ∷ (Int (pos 2)) ∷ []) ∷ ((Int (pos 3)) ∷ (Int (pos 3)) ∷ []) ∷ []) (((Int (pos 1)) ∷ (Int (pos 1)) ∷ []) ∷ ((Int (pos 2)) ∷ (Int (pos 2)) ∷ []) ∷ ((Int (pos 3)) ∷ (Int (pos 3)) ∷ []) ∷ []) (((Int (pos 2)) ∷ (Int (pos 5)) ∷ []) ∷ [])) ≡ 8
  -- SELECT * FROM p, q, r WHERE r.k = p.k
  pub product_before_join : intake (record { distinct = false; star = true; outputs = []; tables = (record { table = codes "p"; alias = codes "p"; on = None } ∷ record { table = codes "q"; alias = codes "q"; on = None } ∷ record { table = codes "r"; alias = codes "r"; on = None } ∷ []); filter = (Some 2); group = []; having = None; order = []; nodes = ((node.Col (record { table = Some (codes "r"); name = codes "k" })) ∷ (node.Col (record { table = Some (codes "p"); name = codes "k" })) ∷ (node.Compare cmp.Eq 0 1) ∷ []) }) [] (tables_pqr (((Int (pos 1)) ∷ (Int (pos 1)) ∷ []) ∷ ((Int (pos 2)) ∷ (Int (pos 2)) ∷ []) ∷ ((Int (pos 3)) ∷ (Int (pos 3)) ∷ []) ∷ []) (((Int (pos 1)) ∷ (Int (pos 1)) ∷ []) ∷ ((Int (pos 2)) ∷ (Int (pos 2)) ∷ []) ∷ ((Int (pos 3)) ∷ (Int (pos 3)) ∷ []) ∷ []) (((Int (pos 2)) ∷ (Int (pos 5)) ∷ []) ∷ [])) ≡ 10
  -- SELECT * FROM p WHERE k = 1
  pub scan_needs_none : select_need (record { distinct = false; star = true; outputs = []; tables = (record { table = codes "p"; alias = codes "p"; on = None } ∷ []); filter = (Some 2); group = []; having = None; order = []; nodes = ((node.Col (record { table = None; name = codes "k" })) ∷ (node.Lit (literal.Int (pos 1))) ∷ (node.Compare cmp.Eq 0 1) ∷ []) }) [] (tables_pqr (((Int (pos 1)) ∷ (Int (pos 1)) ∷ []) ∷ ((Int (pos 2)) ∷ (Int (pos 2)) ∷ []) ∷ ((Int (pos 3)) ∷ (Int (pos 3)) ∷ []) ∷ []) (((Int (pos 1)) ∷ (Int (pos 1)) ∷ []) ∷ ((Int (pos 2)) ∷ (Int (pos 2)) ∷ []) ∷ ((Int (pos 3)) ∷ (Int (pos 3)) ∷ []) ∷ []) []) ≡ 0
  -- SELECT * FROM p, q WHERE p.k < q.k
  pub product_needs_none : select_need (record { distinct = false; star = true; outputs = []; tables = (record { table = codes "p"; alias = codes "p"; on = None } ∷ record { table = codes "q"; alias = codes "q"; on = None } ∷ []); filter = (Some 2); group = []; having = None; order = []; nodes = ((node.Col (record { table = Some (codes "p"); name = codes "k" })) ∷ (node.Col (record { table = Some (codes "q"); name = codes "k" })) ∷ (node.Compare cmp.Lt 0 1) ∷ []) }) [] (tables_pqr (((Int (pos 1)) ∷ (Int (pos 1)) ∷ []) ∷ ((Int (pos 2)) ∷ (Int (pos 2)) ∷ []) ∷ ((Int (pos 3)) ∷ (Int (pos 3)) ∷ []) ∷ []) (((Int (pos 1)) ∷ (Int (pos 1)) ∷ []) ∷ ((Int (pos 2)) ∷ (Int (pos 2)) ∷ []) ∷ ((Int (pos 3)) ∷ (Int (pos 3)) ∷ []) ∷ []) []) ≡ 0
  -- SELECT DISTINCT k FROM p ORDER BY k
  pub distinct_and_order : intake (record { distinct = true; star = false; outputs = (record { node = 0; name = None } ∷ []); tables = (record { table = codes "p"; alias = codes "p"; on = None } ∷ []); filter = None; group = []; having = None; order = (record { by = ByColumn 1; descending = false } ∷ []); nodes = ((node.Col (record { table = None; name = codes "k" })) ∷ (node.Col (record { table = None; name = codes "k" })) ∷ []) }) [] (tables_pqr (((Int (pos 1)) ∷ (Int (pos 1)) ∷ []) ∷ ((Int (pos 1)) ∷ (Int (pos 1)) ∷ []) ∷ ((Int (pos 2)) ∷ (Int (pos 2)) ∷ []) ∷ []) [] []) ≡ 5
  -- SELECT k, COUNT(*) FROM p WHERE v < 9 GROUP BY k ORDER BY 1
  pub groups_and_order : intake (record { distinct = false; star = false; outputs = (record { node = 0; name = None } ∷ record { node = 1; name = None } ∷ []); tables = (record { table = codes "p"; alias = codes "p"; on = None } ∷ []); filter = (Some 4); group = (5 ∷ []); having = None; order = (record { by = Position 1; descending = false } ∷ []); nodes = ((node.Col (record { table = None; name = codes "k" })) ∷ (node.Aggregate of.CountRows None) ∷ (node.Col (record { table = None; name = codes "v" })) ∷ (node.Lit (literal.Int (pos 9))) ∷ (node.Compare cmp.Lt 2 3) ∷ (node.Col (record { table = None; name = codes "k" })) ∷ []) }) [] (tables_pqr (((Int (pos 1)) ∷ (Int (pos 1)) ∷ []) ∷ ((Int (pos 1)) ∷ (Int (pos 1)) ∷ []) ∷ ((Int (pos 2)) ∷ (Int (pos 2)) ∷ []) ∷ []) [] []) ≡ 5
  -- SELECT DISTINCT k FROM p GROUP BY k HAVING COUNT(*) > 1
  pub having_behind_grouping : intake (record { distinct = true; star = false; outputs = (record { node = 0; name = None } ∷ []); tables = (record { table = codes "p"; alias = codes "p"; on = None } ∷ []); filter = None; group = (1 ∷ []); having = (Some 4); order = []; nodes = ((node.Col (record { table = None; name = codes "k" })) ∷ (node.Col (record { table = None; name = codes "k" })) ∷ (node.Aggregate of.CountRows None) ∷ (node.Lit (literal.Int (pos 1))) ∷ (node.Compare cmp.Gt 2 3) ∷ []) }) [] (tables_pqr (((Int (pos 1)) ∷ (Int (pos 1)) ∷ []) ∷ ((Int (pos 1)) ∷ (Int (pos 1)) ∷ []) ∷ ((Int (pos 2)) ∷ (Int (pos 2)) ∷ []) ∷ []) [] []) ≡ 4
  -- SELECT * FROM p ORDER BY 1
  pub order_of_no_rows : select_need (record { distinct = false; star = true; outputs = []; tables = (record { table = codes "p"; alias = codes "p"; on = None } ∷ []); filter = None; group = []; having = None; order = (record { by = Position 1; descending = false } ∷ []); nodes = [] }) [] (tables_pqr [] [] []) ≡ 128

pub record CommandNeedsHold : Type 0 where
  -- CREATE TABLE t (a INTEGER PRIMARY KEY UNIQUE, b INTEGER UNIQUE, c INTEGER)
  pub table : needs_of (λ table. 10) (tables_pqr [] [] []) indexes_pq [] (CreateTable (record { name = codes "t"; columns = record { column = record { name = codes "a"; ty = Integer; not_null = false }; primary = true; unique = true } ∷ record { column = record { name = codes "b"; ty = Integer; not_null = false }; primary = false; unique = true } ∷ record { column = record { name = codes "c"; ty = Integer; not_null = false }; primary = false; unique = false } ∷ [] })) ≡ needs 2 0
  -- CREATE INDEX i ON p (k), over 10 versions and three indexes
  pub index : needs_of (λ table. 10) (tables_pqr [] [] []) indexes_pq [] (CreateIndex (record { name = codes "i"; table = codes "p"; unique = false; columns = codes "k" ∷ [] })) ≡ needs 221 288
  -- INSERT INTO p VALUES (1, 2), (3, NULL), into a table with three indexes
  pub insert : needs_of (λ table. 10) (tables_pqr [] [] []) indexes_pq [] (InsertRows (record { table = codes "p"; columns = []; values = (literal.Int (pos 1) ∷ literal.Int (pos 2) ∷ literal.Int (pos 3) ∷ literal.Null ∷ []); ends = (2 ∷ 4 ∷ []) })) ≡ needs 134 160
  -- INSERT INTO q VALUES (1, 2147483648), which is refused, into a table with one index
  pub refused_insert : needs_of (λ table. 10) (tables_pqr [] [] []) indexes_pq [] (InsertRows (record { table = codes "q"; columns = []; values = (literal.Int (pos 1) ∷ literal.Int (pos 2147483648) ∷ []); ends = (2 ∷ []) })) ≡ needs 23 136
  -- UPDATE p SET v = 2147483648 WHERE k = 1, which is refused
  pub refused_update : needs_of (λ table. 10) (tables_pqr (((Int (pos 1)) ∷ (Int (pos 1)) ∷ []) ∷ ((Int (pos 1)) ∷ (Int (pos 1)) ∷ []) ∷ ((Int (pos 2)) ∷ (Int (pos 2)) ∷ []) ∷ []) [] []) indexes_pq [] (UpdateRows (record { table = codes "p"; sets = ((codes "v", 0) ∷ []); filter = (Some 3); nodes = ((node.Lit (literal.Int (pos 2147483648))) ∷ (node.Col (record { table = None; name = codes "k" })) ∷ (node.Lit (literal.Int (pos 1))) ∷ (node.Compare cmp.Eq 1 2) ∷ []) })) ≡ needs 134 160
  -- DELETE FROM p WHERE k = 1
  pub delete : needs_of (λ table. 10) (tables_pqr (((Int (pos 1)) ∷ (Int (pos 1)) ∷ []) ∷ ((Int (pos 1)) ∷ (Int (pos 1)) ∷ []) ∷ ((Int (pos 2)) ∷ (Int (pos 2)) ∷ []) ∷ []) [] []) indexes_pq [] (DeleteRows (record { table = codes "p"; filter = (Some 2); nodes = ((node.Col (record { table = None; name = codes "k" })) ∷ (node.Lit (literal.Int (pos 1))) ∷ (node.Compare cmp.Eq 0 1) ∷ []) })) ≡ needs 0 160
  -- VACUUM q, with 10 versions
  pub vacuum : needs_of (λ table. 10) (tables_pqr (((Int (pos 1)) ∷ (Int (pos 1)) ∷ []) ∷ ((Int (pos 1)) ∷ (Int (pos 1)) ∷ []) ∷ ((Int (pos 2)) ∷ (Int (pos 2)) ∷ []) ∷ []) [] []) indexes_pq [] (Vacuum (codes "q")) ≡ needs 0 208
  -- SELECT p.k, q.v FROM p, q WHERE p.k = q.k
  pub select : needs_of (λ table. 10) (tables_pqr (((Int (pos 1)) ∷ (Int (pos 1)) ∷ []) ∷ ((Int (pos 2)) ∷ (Int (pos 2)) ∷ []) ∷ ((Int (pos 3)) ∷ (Int (pos 3)) ∷ []) ∷ []) (((Int (pos 1)) ∷ (Int (pos 1)) ∷ []) ∷ ((Int (pos 2)) ∷ (Int (pos 2)) ∷ []) ∷ ((Int (pos 3)) ∷ (Int (pos 3)) ∷ []) ∷ []) []) indexes_pq [] (SelectRows (record { distinct = false; star = false; outputs = (record { node = 0; name = None } ∷ record { node = 1; name = None } ∷ []); tables = (record { table = codes "p"; alias = codes "p"; on = None } ∷ record { table = codes "q"; alias = codes "q"; on = None } ∷ []); filter = (Some 4); group = []; having = None; order = []; nodes = ((node.Col (record { table = Some (codes "p"); name = codes "k" })) ∷ (node.Col (record { table = Some (codes "q"); name = codes "v" })) ∷ (node.Col (record { table = Some (codes "p"); name = codes "k" })) ∷ (node.Col (record { table = Some (codes "q"); name = codes "k" })) ∷ (node.Compare cmp.Eq 2 3) ∷ []) })) ≡ needs 0 152
  -- OPEN c FOR SELECT p.k, q.v FROM p, q WHERE p.k = q.k
  pub open_cursor : needs_of (λ table. 10) (tables_pqr (((Int (pos 1)) ∷ (Int (pos 1)) ∷ []) ∷ ((Int (pos 2)) ∷ (Int (pos 2)) ∷ []) ∷ ((Int (pos 3)) ∷ (Int (pos 3)) ∷ []) ∷ []) (((Int (pos 1)) ∷ (Int (pos 1)) ∷ []) ∷ ((Int (pos 2)) ∷ (Int (pos 2)) ∷ []) ∷ ((Int (pos 3)) ∷ (Int (pos 3)) ∷ []) ∷ []) []) indexes_pq [] (OpenCursor (codes "c") (record { distinct = false; star = false; outputs = (record { node = 0; name = None } ∷ record { node = 1; name = None } ∷ []); tables = (record { table = codes "p"; alias = codes "p"; on = None } ∷ record { table = codes "q"; alias = codes "q"; on = None } ∷ []); filter = (Some 4); group = []; having = None; order = []; nodes = ((node.Col (record { table = Some (codes "p"); name = codes "k" })) ∷ (node.Col (record { table = Some (codes "q"); name = codes "v" })) ∷ (node.Col (record { table = Some (codes "p"); name = codes "k" })) ∷ (node.Col (record { table = Some (codes "q"); name = codes "k" })) ∷ (node.Compare cmp.Eq 2 3) ∷ []) })) ≡ needs 0 152
  -- WORK 5
  pub work : needs_of (λ table. 10) (tables_pqr (((Int (pos 1)) ∷ (Int (pos 1)) ∷ []) ∷ ((Int (pos 2)) ∷ (Int (pos 2)) ∷ []) ∷ ((Int (pos 3)) ∷ (Int (pos 3)) ∷ []) ∷ []) (((Int (pos 1)) ∷ (Int (pos 1)) ∷ []) ∷ ((Int (pos 2)) ∷ (Int (pos 2)) ∷ []) ∷ ((Int (pos 3)) ∷ (Int (pos 3)) ∷ []) ∷ []) []) indexes_pq [] (Work 5) ≡ needs 0 0
