-- The tables of the worked statements.
use Rattle.std.specs.Prelude.{true, false, List, [], ◌∷◌, Some, None, pos, negsuc, codes}
use Rattle.hg_model.specs.Creation.{Index}
use Rattle.hg_model.specs.Query.{Query}
use Rattle.hg_model.specs.Tables.{Table}
use Rattle.hg_model.specs.declared.trees.Cmp.TheVariants as cmp
use Rattle.hg_model.specs.declared.trees.Column.{Column}
use Rattle.hg_model.specs.declared.trees.Literal.TheVariants as literal
use Rattle.hg_model.specs.declared.trees.Node.{Node}
use Rattle.hg_model.specs.declared.trees.Node.TheVariants as node
use Rattle.hg_model.specs.declared.trees.OrderBy.TheVariants.{Column as ByColumn}
use Rattle.hg_model.specs.declared.trees.SqlType.TheVariants.{Integer, Varchar}
use Rattle.hg_model.specs.declared.values.Value.{Value}
use Rattle.hg_model.specs.declared.values.Value.TheVariants.{Null, Int, Text}

abbrev pub tables_1 : List Table
tables_1 = (record { name = codes "t"; columns = (record { name = codes "a"; ty = Integer; not_null = false } ∷ []); rows = ((Null ∷ []) ∷ ((Int (pos 1)) ∷ []) ∷ ((Int (pos 2)) ∷ []) ∷ []) } ∷ [])

abbrev pub tables_2 : List Table
tables_2 = (record { name = codes "e"; columns = (record { name = codes "a"; ty = Integer; not_null = false } ∷ record { name = codes "b"; ty = Integer; not_null = false } ∷ []); rows = ((Null ∷ (Int (pos 1)) ∷ []) ∷ ((Int (pos 1)) ∷ Null ∷ []) ∷ (Null ∷ Null ∷ []) ∷ ((Int (pos 2)) ∷ (Int (pos 1)) ∷ []) ∷ []) } ∷ [])

abbrev pub tables_3 : List Table
tables_3 = (record { name = codes "t"; columns = (record { name = codes "a"; ty = Integer; not_null = false } ∷ []); rows = ((Null ∷ []) ∷ ((Int (pos 1)) ∷ []) ∷ ((Int (pos 2)) ∷ []) ∷ ((Int (pos 3)) ∷ []) ∷ []) } ∷ [])

abbrev pub tables_4 : List Table
tables_4 = (record { name = codes "t"; columns = (record { name = codes "a"; ty = Integer; not_null = false } ∷ []); rows = (((Int (pos 1)) ∷ []) ∷ ((Int (pos 2)) ∷ []) ∷ []) } ∷ [])

abbrev pub tables_5 : List Table
tables_5 = (record { name = codes "s"; columns = (record { name = codes "v"; ty = Varchar 5; not_null = false } ∷ []); rows = (((Text (codes "b")) ∷ []) ∷ ((Text (codes "ab")) ∷ []) ∷ ((Text (codes "abc")) ∷ []) ∷ ((Text (codes "a")) ∷ []) ∷ []) } ∷ [])

abbrev pub tables_6 : List Table
tables_6 = (record { name = codes "t"; columns = (record { name = codes "a"; ty = Integer; not_null = false } ∷ []); rows = (((Int (negsuc 2147483647)) ∷ []) ∷ ((Int (pos 2147483647)) ∷ []) ∷ []) } ∷ [])

abbrev pub tables_7 : List Table
tables_7 = (record { name = codes "t"; columns = (record { name = codes "a"; ty = Integer; not_null = false } ∷ []); rows = (((Int (pos 1)) ∷ []) ∷ ((Int (pos 2)) ∷ []) ∷ []) } ∷ record { name = codes "u"; columns = (record { name = codes "a"; ty = Integer; not_null = false } ∷ []); rows = (((Int (pos 2)) ∷ []) ∷ ((Int (pos 3)) ∷ []) ∷ []) } ∷ [])

abbrev pub tables_8 : List Table
tables_8 = (record { name = codes "j"; columns = (record { name = codes "x"; ty = Integer; not_null = false } ∷ []); rows = (((Int (pos 1)) ∷ []) ∷ ((Int (pos 2)) ∷ []) ∷ []) } ∷ [])

abbrev pub tables_9 : List Table
tables_9 = (record { name = codes "t"; columns = (record { name = codes "a"; ty = Integer; not_null = false } ∷ []); rows = [] } ∷ [])

abbrev pub tables_10 : List Table
tables_10 = (record { name = codes "t"; columns = (record { name = codes "a"; ty = Integer; not_null = false } ∷ []); rows = ((Null ∷ []) ∷ (Null ∷ []) ∷ []) } ∷ [])

abbrev pub tables_11 : List Table
tables_11 = (record { name = codes "t"; columns = (record { name = codes "a"; ty = Integer; not_null = false } ∷ []); rows = (((Int (pos 3)) ∷ []) ∷ ((Int (pos 3)) ∷ []) ∷ (Null ∷ []) ∷ ((Int (pos 5)) ∷ []) ∷ []) } ∷ [])

abbrev pub tables_12 : List Table
tables_12 = (record { name = codes "t"; columns = (record { name = codes "a"; ty = Integer; not_null = false } ∷ []); rows = ((Null ∷ []) ∷ (Null ∷ []) ∷ ((Int (pos 1)) ∷ []) ∷ []) } ∷ [])

abbrev pub tables_13 : List Table
tables_13 = (record { name = codes "t"; columns = (record { name = codes "a"; ty = Integer; not_null = false } ∷ []); rows = (((Int (pos 1)) ∷ []) ∷ ((Int (pos 1)) ∷ []) ∷ (Null ∷ []) ∷ (Null ∷ []) ∷ ((Int (pos 2)) ∷ []) ∷ []) } ∷ [])

abbrev pub tables_14 : List Table
tables_14 = (record { name = codes "customers"; columns = (record { name = codes "id"; ty = Integer; not_null = true } ∷ record { name = codes "name"; ty = Varchar 40; not_null = true } ∷ record { name = codes "city"; ty = Varchar 30; not_null = false } ∷ []); rows = (((Int (pos 1)) ∷ (Text (codes "Ann")) ∷ (Text (codes "Bonn")) ∷ []) ∷ ((Int (pos 2)) ∷ (Text (codes "Bob")) ∷ Null ∷ []) ∷ ((Int (pos 3)) ∷ (Text (codes "Cy")) ∷ (Text (codes "Rome")) ∷ []) ∷ []) } ∷ record { name = codes "orders"; columns = (record { name = codes "id"; ty = Integer; not_null = true } ∷ record { name = codes "customer"; ty = Integer; not_null = true } ∷ record { name = codes "price"; ty = Integer; not_null = false } ∷ record { name = codes "qty"; ty = Integer; not_null = false } ∷ []); rows = (((Int (pos 10)) ∷ (Int (pos 1)) ∷ (Int (pos 5)) ∷ (Int (pos 2)) ∷ []) ∷ ((Int (pos 11)) ∷ (Int (pos 1)) ∷ (Int (pos 7)) ∷ (Int (pos 1)) ∷ []) ∷ ((Int (pos 12)) ∷ (Int (pos 2)) ∷ (Int (pos 9)) ∷ (Int (pos 1)) ∷ []) ∷ ((Int (pos 13)) ∷ (Int (pos 3)) ∷ Null ∷ (Int (pos 4)) ∷ []) ∷ []) } ∷ [])

abbrev pub tables_15 : List Table
tables_15 = (record { name = codes "o"; columns = (record { name = codes "k"; ty = Integer; not_null = false } ∷ record { name = codes "v"; ty = Varchar 5; not_null = false } ∷ []); rows = (((Int (pos 2)) ∷ (Text (codes "b")) ∷ []) ∷ (Null ∷ (Text (codes "a")) ∷ []) ∷ ((Int (pos 1)) ∷ (Text (codes "c")) ∷ []) ∷ []) } ∷ [])

abbrev pub tables_16 : List Table
tables_16 = (record { name = codes "d"; columns = (record { name = codes "a"; ty = Integer; not_null = false } ∷ record { name = codes "b"; ty = Integer; not_null = false } ∷ []); rows = (((Int (pos 1)) ∷ (Int (pos 2)) ∷ []) ∷ ((Int (pos 1)) ∷ Null ∷ []) ∷ ((Int (pos 0)) ∷ (Int (pos 5)) ∷ []) ∷ []) } ∷ [])

abbrev pub tables_17 : List Table
tables_17 = (record { name = codes "t"; columns = (record { name = codes "a"; ty = Integer; not_null = false } ∷ record { name = codes "b"; ty = Varchar 1; not_null = false } ∷ []); rows = (((Int (pos 1)) ∷ (Text (codes "x")) ∷ []) ∷ (Null ∷ (Text (codes "y")) ∷ []) ∷ ((Int (pos 1)) ∷ (Text (codes "a")) ∷ []) ∷ []) } ∷ [])

abbrev pub tables_18 : List Table
tables_18 = (record { name = codes "w"; columns = (record { name = codes "c0"; ty = Varchar 255; not_null = false } ∷ record { name = codes "c1"; ty = Varchar 255; not_null = false } ∷ record { name = codes "c2"; ty = Varchar 255; not_null = false } ∷ record { name = codes "c3"; ty = Varchar 255; not_null = false } ∷ record { name = codes "c4"; ty = Varchar 255; not_null = false } ∷ record { name = codes "c5"; ty = Varchar 255; not_null = false } ∷ record { name = codes "c6"; ty = Varchar 255; not_null = false } ∷ record { name = codes "c7"; ty = Varchar 255; not_null = false } ∷ record { name = codes "c8"; ty = Varchar 255; not_null = false } ∷ record { name = codes "c9"; ty = Varchar 255; not_null = false } ∷ record { name = codes "c10"; ty = Varchar 255; not_null = false } ∷ record { name = codes "c11"; ty = Varchar 255; not_null = false } ∷ record { name = codes "c12"; ty = Varchar 255; not_null = false } ∷ record { name = codes "c13"; ty = Varchar 255; not_null = false } ∷ record { name = codes "c14"; ty = Varchar 255; not_null = false } ∷ record { name = codes "c15"; ty = Varchar 255; not_null = false } ∷ []); rows = [] } ∷ [])

abbrev pub tables_19 : List Table
tables_19 = (record { name = codes "x"; columns = (record { name = codes "p"; ty = Varchar 200; not_null = false } ∷ record { name = codes "q"; ty = Varchar 200; not_null = false } ∷ record { name = codes "r"; ty = Varchar 200; not_null = false } ∷ record { name = codes "s"; ty = Varchar 255; not_null = false } ∷ record { name = codes "n"; ty = Integer; not_null = false } ∷ record { name = codes "m"; ty = Varchar 46; not_null = false } ∷ record { name = codes "o"; ty = Varchar 47; not_null = false } ∷ []); rows = [] } ∷ [])

abbrev pub table_20 : Table
table_20 = record { name = codes "t"; columns = (record { name = codes "a"; ty = Integer; not_null = false } ∷ []); rows = (((Int (pos 2)) ∷ []) ∷ ((Int (pos 1)) ∷ []) ∷ ((Int (pos 3)) ∷ []) ∷ []) }

abbrev pub tables_20 : List Table
tables_20 = table_20 ∷ []

abbrev pub column_a : Node
column_a = node.Col (record { table = None; name = codes "a" })

-- SELECT * FROM t WHERE a > 1 ORDER BY a DESC
abbrev pub above_one : Query
above_one = record { distinct = false; star = true; outputs = []; tables = (record { table = codes "t"; alias = codes "t"; on = None } ∷ []); filter = (Some 2); group = []; having = None; order = (record { by = ByColumn 3; descending = true } ∷ []); nodes = (column_a ∷ (node.Lit (literal.Int (pos 1))) ∷ (node.Compare cmp.Gt 0 1) ∷ column_a ∷ []) }

-- three tables of two columns each, over any rows
abbrev pub columns_kv : List Column
columns_kv = record { name = codes "k"; ty = Integer; not_null = false } ∷ record { name = codes "v"; ty = Integer; not_null = false } ∷ []

abbrev pub tables_pqr : List (List Value) → List (List Value) → List (List Value) → List Table
tables_pqr ps qs rs =
    record { name = codes "p"; columns = columns_kv; rows = ps } ∷ record { name = codes "q"; columns = columns_kv; rows = qs }
    ∷ record { name = codes "r"; columns = columns_kv; rows = rs } ∷ []

-- indexes on q (k), p (v), p (k, v) and p (k), in the order of their creation
abbrev pub indexes_pq : List Index
indexes_pq =
    record { name = None; table = codes "q"; columns = (0 ∷ []); unique = false } ∷ record { name = None; table = codes "p"; columns = (1 ∷ []); unique = false }
    ∷ record { name = None; table = codes "p"; columns = (0 ∷ 1 ∷ []); unique = false } ∷ record { name = None; table = codes "p"; columns = (0 ∷ []); unique = false } ∷ []
