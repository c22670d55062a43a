-- Each by computation.
use Rattle.std.specs.Prelude.{◌≡◌, true, false, [], ◌∷◌, Some, None, pos, negsuc, codes}
use Rattle.hg_model.specs.declared.trees.OrderBy.TheVariants.{Column as ByColumn}
use Rattle.hg_model.specs.declared.trees.Literal.TheVariants as literal
use Rattle.hg_model.specs.declared.trees.Cmp.TheVariants as cmp
use Rattle.hg_model.specs.declared.trees.Op.TheVariants as op
use Rattle.hg_model.specs.declared.trees.Fold.TheVariants as of
use Rattle.hg_model.specs.declared.trees.Node.TheVariants as node
use Rattle.hg_model.specs.declared.values.Value.TheVariants.{Null, Int, Text}
use Rattle.hg_worked.specs.Answers.{answer, ordered}
use Rattle.std.specs.Prelude.{refl}
use Rattle.hg_model.specs.SelectMeaning.{meaning, kept_rows, keeps_row, row_values, group_values, group_key, keeps_group, pair_of, row_pair, group_pair, pairs_of}
use Rattle.hg_worked.specs.Samples.{tables_10, tables_11, tables_12, tables_13, tables_14, tables_5, tables_6, tables_9}
use Rattle.hg_worked.specs.Grouping.{GroupingHold}

sum_of_none : answer (record { distinct = false; star = false; outputs = (record { node = 1; name = None } ∷ record { node = 2; name = None } ∷ []); tables = (record { table = codes "t"; alias = codes "t"; on = None } ∷ []); filter = None; group = []; having = None; order = []; nodes = ((node.Col (record { table = None; name = codes "a" })) ∷ (node.Aggregate of.Sum (Some 0)) ∷ (node.Aggregate of.CountRows None) ∷ []) }) [] tables_9 ≡ ((Null ∷ (Int (pos 0)) ∷ []) ∷ [])
unfolding answer ordered meaning kept_rows keeps_row row_values group_values group_key keeps_group pair_of row_pair group_pair pairs_of
sum_of_none = refl

no_group : answer (record { distinct = false; star = false; outputs = (record { node = 1; name = None } ∷ record { node = 2; name = None } ∷ []); tables = (record { table = codes "t"; alias = codes "t"; on = None } ∷ []); filter = None; group = (3 ∷ []); having = None; order = []; nodes = ((node.Col (record { table = None; name = codes "a" })) ∷ (node.Aggregate of.Sum (Some 0)) ∷ (node.Aggregate of.CountRows None) ∷ (node.Col (record { table = None; name = codes "a" })) ∷ []) }) [] tables_9 ≡ []
unfolding answer ordered meaning kept_rows keeps_row row_values group_values group_key keeps_group pair_of row_pair group_pair pairs_of
no_group = refl

no_rows : answer (record { distinct = false; star = false; outputs = (record { node = 0; name = None } ∷ record { node = 2; name = None } ∷ record { node = 4; name = None } ∷ record { node = 6; name = None } ∷ record { node = 8; name = None } ∷ []); tables = (record { table = codes "t"; alias = codes "t"; on = None } ∷ []); filter = None; group = []; having = None; order = []; nodes = ((node.Aggregate of.CountRows None) ∷ (node.Col (record { table = None; name = codes "a" })) ∷ (node.Aggregate of.Count (Some 1)) ∷ (node.Col (record { table = None; name = codes "a" })) ∷ (node.Aggregate of.Sum (Some 3)) ∷ (node.Col (record { table = None; name = codes "a" })) ∷ (node.Aggregate of.Min (Some 5)) ∷ (node.Col (record { table = None; name = codes "a" })) ∷ (node.Aggregate of.Max (Some 7)) ∷ []) }) [] tables_9 ≡ (((Int (pos 0)) ∷ (Int (pos 0)) ∷ Null ∷ Null ∷ Null ∷ []) ∷ [])
unfolding answer ordered meaning kept_rows keeps_row row_values group_values group_key keeps_group pair_of row_pair group_pair pairs_of
no_rows = refl

nulls_only : answer (record { distinct = false; star = false; outputs = (record { node = 0; name = None } ∷ record { node = 2; name = None } ∷ record { node = 4; name = None } ∷ record { node = 6; name = None } ∷ record { node = 8; name = None } ∷ []); tables = (record { table = codes "t"; alias = codes "t"; on = None } ∷ []); filter = None; group = []; having = None; order = []; nodes = ((node.Aggregate of.CountRows None) ∷ (node.Col (record { table = None; name = codes "a" })) ∷ (node.Aggregate of.Count (Some 1)) ∷ (node.Col (record { table = None; name = codes "a" })) ∷ (node.Aggregate of.Sum (Some 3)) ∷ (node.Col (record { table = None; name = codes "a" })) ∷ (node.Aggregate of.Min (Some 5)) ∷ (node.Col (record { table = None; name = codes "a" })) ∷ (node.Aggregate of.Max (Some 7)) ∷ []) }) [] tables_10 ≡ (((Int (pos 2)) ∷ (Int (pos 0)) ∷ Null ∷ Null ∷ Null ∷ []) ∷ [])
unfolding answer ordered meaning kept_rows keeps_row row_values group_values group_key keeps_group pair_of row_pair group_pair pairs_of
nulls_only = refl

duplicates : answer (record { distinct = false; star = false; outputs = (record { node = 0; name = None } ∷ record { node = 2; name = None } ∷ record { node = 4; name = None } ∷ record { node = 6; name = None } ∷ record { node = 8; name = None } ∷ []); tables = (record { table = codes "t"; alias = codes "t"; on = None } ∷ []); filter = None; group = []; having = None; order = []; nodes = ((node.Aggregate of.CountRows None) ∷ (node.Col (record { table = None; name = codes "a" })) ∷ (node.Aggregate of.Count (Some 1)) ∷ (node.Col (record { table = None; name = codes "a" })) ∷ (node.Aggregate of.Sum (Some 3)) ∷ (node.Col (record { table = None; name = codes "a" })) ∷ (node.Aggregate of.Min (Some 5)) ∷ (node.Col (record { table = None; name = codes "a" })) ∷ (node.Aggregate of.Max (Some 7)) ∷ []) }) [] tables_11 ≡ (((Int (pos 4)) ∷ (Int (pos 3)) ∷ (Int (pos 11)) ∷ (Int (pos 3)) ∷ (Int (pos 5)) ∷ []) ∷ [])
unfolding answer ordered meaning kept_rows keeps_row row_values group_values group_key keeps_group pair_of row_pair group_pair pairs_of
duplicates = refl

texts : answer (record { distinct = false; star = false; outputs = (record { node = 1; name = None } ∷ record { node = 3; name = None } ∷ record { node = 5; name = None } ∷ []); tables = (record { table = codes "s"; alias = codes "s"; on = None } ∷ []); filter = None; group = []; having = None; order = []; nodes = ((node.Col (record { table = None; name = codes "v" })) ∷ (node.Aggregate of.Min (Some 0)) ∷ (node.Col (record { table = None; name = codes "v" })) ∷ (node.Aggregate of.Max (Some 2)) ∷ (node.Col (record { table = None; name = codes "v" })) ∷ (node.Aggregate of.Count (Some 4)) ∷ []) }) [] tables_5 ≡ (((Text (codes "a")) ∷ (Text (codes "b")) ∷ (Int (pos 4)) ∷ []) ∷ [])
unfolding answer ordered meaning kept_rows keeps_row row_values group_values group_key keeps_group pair_of row_pair group_pair pairs_of
texts = refl

nulls_are_one : ordered (record { distinct = false; star = false; outputs = (record { node = 0; name = None } ∷ record { node = 1; name = None } ∷ []); tables = (record { table = codes "t"; alias = codes "t"; on = None } ∷ []); filter = None; group = (2 ∷ []); having = None; order = (record { by = ByColumn 3; descending = false } ∷ []); nodes = ((node.Col (record { table = None; name = codes "a" })) ∷ (node.Aggregate of.CountRows None) ∷ (node.Col (record { table = None; name = codes "a" })) ∷ (node.Col (record { table = None; name = codes "a" })) ∷ []) }) [] tables_12 ≡ ((Null ∷ (Int (pos 2)) ∷ []) ∷ ((Int (pos 1)) ∷ (Int (pos 1)) ∷ []) ∷ [])
unfolding answer ordered meaning kept_rows keeps_row row_values group_values group_key keeps_group pair_of row_pair group_pair pairs_of
nulls_are_one = refl

distinct : answer (record { distinct = true; star = false; outputs = (record { node = 0; name = None } ∷ []); tables = (record { table = codes "t"; alias = codes "t"; on = None } ∷ []); filter = None; group = []; having = None; order = []; nodes = ((node.Col (record { table = None; name = codes "a" })) ∷ []) }) [] tables_13 ≡ (((Int (pos 1)) ∷ []) ∷ (Null ∷ []) ∷ ((Int (pos 2)) ∷ []) ∷ [])
unfolding answer ordered meaning kept_rows keeps_row row_values group_values group_key keeps_group pair_of row_pair group_pair pairs_of
distinct = refl

having : answer (record { distinct = false; star = false; outputs = (record { node = 1; name = None } ∷ record { node = 3; name = None } ∷ record { node = 5; name = None } ∷ record { node = 7; name = None } ∷ []); tables = (record { table = codes "t"; alias = codes "t"; on = None } ∷ []); filter = None; group = []; having = (Some 10); order = []; nodes = ((node.Col (record { table = None; name = codes "a" })) ∷ (node.Aggregate of.Min (Some 0)) ∷ (node.Col (record { table = None; name = codes "a" })) ∷ (node.Aggregate of.Max (Some 2)) ∷ (node.Col (record { table = None; name = codes "a" })) ∷ (node.Aggregate of.Count (Some 4)) ∷ (node.Col (record { table = None; name = codes "a" })) ∷ (node.Aggregate of.Sum (Some 6)) ∷ (node.Aggregate of.CountRows None) ∷ (node.Lit (literal.Int (pos 4))) ∷ (node.Compare cmp.Gt 8 9) ∷ []) }) [] tables_13 ≡ (((Int (pos 1)) ∷ (Int (pos 2)) ∷ (Int (pos 3)) ∷ (Int (pos 4)) ∷ []) ∷ [])
unfolding answer ordered meaning kept_rows keeps_row row_values group_values group_key keeps_group pair_of row_pair group_pair pairs_of
having = refl

having_none : answer (record { distinct = false; star = false; outputs = (record { node = 0; name = None } ∷ []); tables = (record { table = codes "t"; alias = codes "t"; on = None } ∷ []); filter = None; group = []; having = (Some 3); order = []; nodes = ((node.Aggregate of.CountRows None) ∷ (node.Aggregate of.CountRows None) ∷ (node.Lit (literal.Int (pos 5))) ∷ (node.Compare cmp.Gt 1 2) ∷ []) }) [] tables_13 ≡ []
unfolding answer ordered meaning kept_rows keeps_row row_values group_values group_key keeps_group pair_of row_pair group_pair pairs_of
having_none = refl

wide_sum : answer (record { distinct = false; star = false; outputs = (record { node = 5; name = None } ∷ []); tables = (record { table = codes "t"; alias = codes "t"; on = None } ∷ []); filter = None; group = []; having = None; order = []; nodes = ((node.Col (record { table = None; name = codes "a" })) ∷ (node.Col (record { table = None; name = codes "a" })) ∷ (node.Arith op.Mul 0 1) ∷ (node.Col (record { table = None; name = codes "a" })) ∷ (node.Arith op.Mul 2 3) ∷ (node.Aggregate of.Sum (Some 4)) ∷ []) }) [] tables_9 ≡ ((Null ∷ []) ∷ [])
unfolding answer ordered meaning kept_rows keeps_row row_values group_values group_key keeps_group pair_of row_pair group_pair pairs_of
wide_sum = refl

sum_of_cubes : answer (record { distinct = false; star = false; outputs = (record { node = 5; name = None } ∷ []); tables = (record { table = codes "t"; alias = codes "t"; on = None } ∷ []); filter = None; group = []; having = None; order = []; nodes = ((node.Col (record { table = None; name = codes "a" })) ∷ (node.Col (record { table = None; name = codes "a" })) ∷ (node.Arith op.Mul 0 1) ∷ (node.Col (record { table = None; name = codes "a" })) ∷ (node.Arith op.Mul 2 3) ∷ (node.Aggregate of.Sum (Some 4)) ∷ []) }) [] tables_6 ≡ (((Int (negsuc 13835058048839712768)) ∷ []) ∷ [])
unfolding answer ordered meaning kept_rows keeps_row row_values group_values group_key keeps_group pair_of row_pair group_pair pairs_of
sum_of_cubes = refl

totals : ordered (record { distinct = false; star = false; outputs = (record { node = 0; name = None } ∷ record { node = 4; name = (Some (codes "total")) } ∷ []); tables = (record { table = codes "customers"; alias = codes "c"; on = None } ∷ record { table = codes "orders"; alias = codes "o"; on = (Some 7) } ∷ []); filter = None; group = (8 ∷ []); having = (Some 11); order = (record { by = ByColumn 12; descending = true } ∷ []); nodes = ((node.Col (record { table = (Some (codes "c")); name = codes "name" })) ∷ (node.Col (record { table = (Some (codes "o")); name = codes "price" })) ∷ (node.Col (record { table = (Some (codes "o")); name = codes "qty" })) ∷ (node.Arith op.Mul 1 2) ∷ (node.Aggregate of.Sum (Some 3)) ∷ (node.Col (record { table = (Some (codes "o")); name = codes "customer" })) ∷ (node.Col (record { table = (Some (codes "c")); name = codes "id" })) ∷ (node.Compare cmp.Eq 5 6) ∷ (node.Col (record { table = (Some (codes "c")); name = codes "name" })) ∷ (node.Aggregate of.CountRows None) ∷ (node.Lit (literal.Int (pos 1))) ∷ (node.Compare cmp.Ge 9 10) ∷ (node.Col (record { table = None; name = codes "total" })) ∷ []) }) [] tables_14 ≡ (((Text (codes "Ann")) ∷ (Int (pos 17)) ∷ []) ∷ ((Text (codes "Bob")) ∷ (Int (pos 9)) ∷ []) ∷ ((Text (codes "Cy")) ∷ Null ∷ []) ∷ [])
unfolding answer ordered meaning kept_rows keeps_row row_values group_values group_key keeps_group pair_of row_pair group_pair pairs_of
totals = refl

pub grouping_hold : GroupingHold
grouping_hold = record { sum_of_none = sum_of_none; no_group = no_group; no_rows = no_rows; nulls_only = nulls_only; duplicates = duplicates; texts = texts; nulls_are_one = nulls_are_one; distinct = distinct; having = having; having_none = having_none; wide_sum = wide_sum; sum_of_cubes = sum_of_cubes; totals = totals }
