-- Each by computation.
use Rattle.std.specs.Prelude.{◌≡◌, false, [], ◌∷◌, Some, None, pos, negsuc, codes}
use Rattle.hg_model.specs.declared.trees.Literal.TheVariants as literal
use Rattle.hg_model.specs.declared.trees.Cmp.TheVariants as cmp
use Rattle.hg_model.specs.declared.trees.Op.TheVariants as op
use Rattle.hg_model.specs.declared.trees.Node.TheVariants as node
use Rattle.hg_model.specs.declared.values.Value.TheVariants.{Null, Int, Text}
use Rattle.hg_worked.specs.Answers.{answer, ordered}
use Rattle.std.specs.Prelude.{refl}
use Rattle.hg_model.specs.SelectMeaning.{meaning, kept_rows, keeps_row, row_values, group_values, group_key, keeps_group, pair_of, row_pair, group_pair, pairs_of}
use Rattle.hg_worked.specs.Samples.{tables_1, tables_2, tables_3, tables_4, tables_5, tables_6}
use Rattle.hg_worked.specs.Filters.{FiltersHold}

unequal : answer (record { distinct = false; star = false; outputs = (record { node = 0; name = None } ∷ []); tables = (record { table = codes "t"; alias = codes "t"; on = None } ∷ []); filter = (Some 3); group = []; having = None; order = []; nodes = ((node.Col (record { table = None; name = codes "a" })) ∷ (node.Col (record { table = None; name = codes "a" })) ∷ (node.Lit (literal.Int (pos 1))) ∷ (node.Compare cmp.Ne 1 2) ∷ []) }) [] tables_1 ≡ (((Int (pos 2)) ∷ []) ∷ [])
unfolding answer ordered meaning kept_rows keeps_row row_values group_values group_key keeps_group pair_of row_pair group_pair pairs_of
unequal = refl

not_equal : answer (record { distinct = false; star = false; outputs = (record { node = 0; name = None } ∷ []); tables = (record { table = codes "t"; alias = codes "t"; on = None } ∷ []); filter = (Some 4); group = []; having = None; order = []; nodes = ((node.Col (record { table = None; name = codes "a" })) ∷ (node.Col (record { table = None; name = codes "a" })) ∷ (node.Lit (literal.Int (pos 1))) ∷ (node.Compare cmp.Eq 1 2) ∷ (node.Not 3) ∷ []) }) [] tables_1 ≡ (((Int (pos 2)) ∷ []) ∷ [])
unfolding answer ordered meaning kept_rows keeps_row row_values group_values group_key keeps_group pair_of row_pair group_pair pairs_of
not_equal = refl

null_eq : answer (record { distinct = false; star = false; outputs = (record { node = 0; name = None } ∷ []); tables = (record { table = codes "e"; alias = codes "e"; on = None } ∷ []); filter = (Some 3); group = []; having = None; order = []; nodes = ((node.Col (record { table = None; name = codes "a" })) ∷ (node.Col (record { table = None; name = codes "a" })) ∷ (node.Col (record { table = None; name = codes "b" })) ∷ (node.Compare cmp.Eq 1 2) ∷ []) }) [] tables_2 ≡ []
unfolding answer ordered meaning kept_rows keeps_row row_values group_values group_key keeps_group pair_of row_pair group_pair pairs_of
null_eq = refl

null_ne : answer (record { distinct = false; star = false; outputs = (record { node = 0; name = None } ∷ []); tables = (record { table = codes "e"; alias = codes "e"; on = None } ∷ []); filter = (Some 3); group = []; having = None; order = []; nodes = ((node.Col (record { table = None; name = codes "a" })) ∷ (node.Col (record { table = None; name = codes "a" })) ∷ (node.Col (record { table = None; name = codes "b" })) ∷ (node.Compare cmp.Ne 1 2) ∷ []) }) [] tables_2 ≡ (((Int (pos 2)) ∷ []) ∷ [])
unfolding answer ordered meaning kept_rows keeps_row row_values group_values group_key keeps_group pair_of row_pair group_pair pairs_of
null_ne = refl

null_lt : answer (record { distinct = false; star = false; outputs = (record { node = 0; name = None } ∷ []); tables = (record { table = codes "e"; alias = codes "e"; on = None } ∷ []); filter = (Some 3); group = []; having = None; order = []; nodes = ((node.Col (record { table = None; name = codes "a" })) ∷ (node.Col (record { table = None; name = codes "a" })) ∷ (node.Col (record { table = None; name = codes "b" })) ∷ (node.Compare cmp.Lt 1 2) ∷ []) }) [] tables_2 ≡ []
unfolding answer ordered meaning kept_rows keeps_row row_values group_values group_key keeps_group pair_of row_pair group_pair pairs_of
null_lt = refl

null_le : answer (record { distinct = false; star = false; outputs = (record { node = 0; name = None } ∷ []); tables = (record { table = codes "e"; alias = codes "e"; on = None } ∷ []); filter = (Some 3); group = []; having = None; order = []; nodes = ((node.Col (record { table = None; name = codes "a" })) ∷ (node.Col (record { table = None; name = codes "a" })) ∷ (node.Col (record { table = None; name = codes "b" })) ∷ (node.Compare cmp.Le 1 2) ∷ []) }) [] tables_2 ≡ []
unfolding answer ordered meaning kept_rows keeps_row row_values group_values group_key keeps_group pair_of row_pair group_pair pairs_of
null_le = refl

null_gt : answer (record { distinct = false; star = false; outputs = (record { node = 0; name = None } ∷ []); tables = (record { table = codes "e"; alias = codes "e"; on = None } ∷ []); filter = (Some 3); group = []; having = None; order = []; nodes = ((node.Col (record { table = None; name = codes "a" })) ∷ (node.Col (record { table = None; name = codes "a" })) ∷ (node.Col (record { table = None; name = codes "b" })) ∷ (node.Compare cmp.Gt 1 2) ∷ []) }) [] tables_2 ≡ (((Int (pos 2)) ∷ []) ∷ [])
unfolding answer ordered meaning kept_rows keeps_row row_values group_values group_key keeps_group pair_of row_pair group_pair pairs_of
null_gt = refl

null_ge : answer (record { distinct = false; star = false; outputs = (record { node = 0; name = None } ∷ []); tables = (record { table = codes "e"; alias = codes "e"; on = None } ∷ []); filter = (Some 3); group = []; having = None; order = []; nodes = ((node.Col (record { table = None; name = codes "a" })) ∷ (node.Col (record { table = None; name = codes "a" })) ∷ (node.Col (record { table = None; name = codes "b" })) ∷ (node.Compare cmp.Ge 1 2) ∷ []) }) [] tables_2 ≡ (((Int (pos 2)) ∷ []) ∷ [])
unfolding answer ordered meaning kept_rows keeps_row row_values group_values group_key keeps_group pair_of row_pair group_pair pairs_of
null_ge = refl

arithmetic : answer (record { distinct = false; star = false; outputs = (record { node = 2; name = None } ∷ record { node = 5; name = None } ∷ record { node = 8; name = None } ∷ record { node = 10; name = None } ∷ []); tables = (record { table = codes "e"; alias = codes "e"; on = None } ∷ []); filter = None; group = []; having = None; order = []; nodes = ((node.Col (record { table = None; name = codes "a" })) ∷ (node.Col (record { table = None; name = codes "b" })) ∷ (node.Arith op.Add 0 1) ∷ (node.Col (record { table = None; name = codes "a" })) ∷ (node.Col (record { table = None; name = codes "b" })) ∷ (node.Arith op.Sub 3 4) ∷ (node.Col (record { table = None; name = codes "a" })) ∷ (node.Col (record { table = None; name = codes "b" })) ∷ (node.Arith op.Mul 6 7) ∷ (node.Col (record { table = None; name = codes "a" })) ∷ (node.Neg 9) ∷ []) }) [] tables_2 ≡ ((Null ∷ Null ∷ Null ∷ Null ∷ []) ∷ (Null ∷ Null ∷ Null ∷ (Int (negsuc 0)) ∷ []) ∷ (Null ∷ Null ∷ Null ∷ Null ∷ []) ∷ ((Int (pos 3)) ∷ (Int (pos 1)) ∷ (Int (pos 2)) ∷ (Int (negsuc 1)) ∷ []) ∷ [])
unfolding answer ordered meaning kept_rows keeps_row row_values group_values group_key keeps_group pair_of row_pair group_pair pairs_of
arithmetic = refl

unknown_and_false : answer (record { distinct = false; star = false; outputs = (record { node = 0; name = None } ∷ []); tables = (record { table = codes "e"; alias = codes "e"; on = None } ∷ []); filter = (Some 7); group = []; having = None; order = []; nodes = ((node.Col (record { table = None; name = codes "a" })) ∷ (node.Col (record { table = None; name = codes "a" })) ∷ (node.Col (record { table = None; name = codes "b" })) ∷ (node.Compare cmp.Eq 1 2) ∷ (node.Lit (literal.Int (pos 1))) ∷ (node.Lit (literal.Int (pos 0))) ∷ (node.Compare cmp.Eq 4 5) ∷ (node.Both 3 6) ∷ []) }) [] tables_2 ≡ []
unfolding answer ordered meaning kept_rows keeps_row row_values group_values group_key keeps_group pair_of row_pair group_pair pairs_of
unknown_and_false = refl

not_unknown_and_false : answer (record { distinct = false; star = false; outputs = (record { node = 0; name = None } ∷ []); tables = (record { table = codes "e"; alias = codes "e"; on = None } ∷ []); filter = (Some 8); group = []; having = None; order = []; nodes = ((node.Col (record { table = None; name = codes "b" })) ∷ (node.Col (record { table = None; name = codes "a" })) ∷ (node.Col (record { table = None; name = codes "b" })) ∷ (node.Compare cmp.Eq 1 2) ∷ (node.Lit (literal.Int (pos 1))) ∷ (node.Lit (literal.Int (pos 0))) ∷ (node.Compare cmp.Eq 4 5) ∷ (node.Both 3 6) ∷ (node.Not 7) ∷ []) }) [] tables_2 ≡ (((Int (pos 1)) ∷ []) ∷ (Null ∷ []) ∷ (Null ∷ []) ∷ ((Int (pos 1)) ∷ []) ∷ [])
unfolding answer ordered meaning kept_rows keeps_row row_values group_values group_key keeps_group pair_of row_pair group_pair pairs_of
not_unknown_and_false = refl

unknown_or_true : answer (record { distinct = false; star = false; outputs = (record { node = 0; name = None } ∷ []); tables = (record { table = codes "e"; alias = codes "e"; on = None } ∷ []); filter = (Some 7); group = []; having = None; order = []; nodes = ((node.Col (record { table = None; name = codes "b" })) ∷ (node.Col (record { table = None; name = codes "a" })) ∷ (node.Col (record { table = None; name = codes "b" })) ∷ (node.Compare cmp.Eq 1 2) ∷ (node.Lit (literal.Int (pos 1))) ∷ (node.Lit (literal.Int (pos 1))) ∷ (node.Compare cmp.Eq 4 5) ∷ (node.Either 3 6) ∷ []) }) [] tables_2 ≡ (((Int (pos 1)) ∷ []) ∷ (Null ∷ []) ∷ (Null ∷ []) ∷ ((Int (pos 1)) ∷ []) ∷ [])
unfolding answer ordered meaning kept_rows keeps_row row_values group_values group_key keeps_group pair_of row_pair group_pair pairs_of
unknown_or_true = refl

not_unknown : answer (record { distinct = false; star = false; outputs = (record { node = 0; name = None } ∷ []); tables = (record { table = codes "e"; alias = codes "e"; on = None } ∷ []); filter = (Some 4); group = []; having = None; order = []; nodes = ((node.Col (record { table = None; name = codes "a" })) ∷ (node.Col (record { table = None; name = codes "a" })) ∷ (node.Col (record { table = None; name = codes "b" })) ∷ (node.Compare cmp.Eq 1 2) ∷ (node.Not 3) ∷ []) }) [] tables_2 ≡ (((Int (pos 2)) ∷ []) ∷ [])
unfolding answer ordered meaning kept_rows keeps_row row_values group_values group_key keeps_group pair_of row_pair group_pair pairs_of
not_unknown = refl

is_null : answer (record { distinct = false; star = false; outputs = (record { node = 0; name = None } ∷ []); tables = (record { table = codes "e"; alias = codes "e"; on = None } ∷ []); filter = (Some 2); group = []; having = None; order = []; nodes = ((node.Col (record { table = None; name = codes "b" })) ∷ (node.Col (record { table = None; name = codes "a" })) ∷ (node.IsNull 1) ∷ []) }) [] tables_2 ≡ (((Int (pos 1)) ∷ []) ∷ (Null ∷ []) ∷ [])
unfolding answer ordered meaning kept_rows keeps_row row_values group_values group_key keeps_group pair_of row_pair group_pair pairs_of
is_null = refl

is_not_null : answer (record { distinct = false; star = false; outputs = (record { node = 0; name = None } ∷ []); tables = (record { table = codes "e"; alias = codes "e"; on = None } ∷ []); filter = (Some 2); group = []; having = None; order = []; nodes = ((node.Col (record { table = None; name = codes "b" })) ∷ (node.Col (record { table = None; name = codes "a" })) ∷ (node.NotNull 1) ∷ []) }) [] tables_2 ≡ ((Null ∷ []) ∷ ((Int (pos 1)) ∷ []) ∷ [])
unfolding answer ordered meaning kept_rows keeps_row row_values group_values group_key keeps_group pair_of row_pair group_pair pairs_of
is_not_null = refl

between : answer (record { distinct = false; star = false; outputs = (record { node = 0; name = None } ∷ []); tables = (record { table = codes "t"; alias = codes "t"; on = None } ∷ []); filter = (Some 6); group = []; having = None; order = []; nodes = ((node.Col (record { table = None; name = codes "a" })) ∷ (node.Col (record { table = None; name = codes "a" })) ∷ (node.Lit (literal.Int (pos 2))) ∷ (node.Compare cmp.Ge 1 2) ∷ (node.Lit (literal.Int (pos 3))) ∷ (node.Compare cmp.Le 1 4) ∷ (node.Both 3 5) ∷ []) }) [] tables_3 ≡ (((Int (pos 2)) ∷ []) ∷ ((Int (pos 3)) ∷ []) ∷ [])
unfolding answer ordered meaning kept_rows keeps_row row_values group_values group_key keeps_group pair_of row_pair group_pair pairs_of
between = refl

not_between : answer (record { distinct = false; star = false; outputs = (record { node = 0; name = None } ∷ []); tables = (record { table = codes "t"; alias = codes "t"; on = None } ∷ []); filter = (Some 7); group = []; having = None; order = []; nodes = ((node.Col (record { table = None; name = codes "a" })) ∷ (node.Col (record { table = None; name = codes "a" })) ∷ (node.Lit (literal.Int (pos 2))) ∷ (node.Compare cmp.Ge 1 2) ∷ (node.Lit (literal.Int (pos 3))) ∷ (node.Compare cmp.Le 1 4) ∷ (node.Both 3 5) ∷ (node.Not 6) ∷ []) }) [] tables_3 ≡ (((Int (pos 1)) ∷ []) ∷ [])
unfolding answer ordered meaning kept_rows keeps_row row_values group_values group_key keeps_group pair_of row_pair group_pair pairs_of
not_between = refl

in_list : answer (record { distinct = false; star = false; outputs = (record { node = 0; name = None } ∷ []); tables = (record { table = codes "t"; alias = codes "t"; on = None } ∷ []); filter = (Some 6); group = []; having = None; order = []; nodes = ((node.Col (record { table = None; name = codes "a" })) ∷ (node.Col (record { table = None; name = codes "a" })) ∷ (node.Lit (literal.Int (pos 1))) ∷ (node.Compare cmp.Eq 1 2) ∷ (node.Lit (literal.Int (pos 3))) ∷ (node.Compare cmp.Eq 1 4) ∷ (node.Either 3 5) ∷ []) }) [] tables_3 ≡ (((Int (pos 1)) ∷ []) ∷ ((Int (pos 3)) ∷ []) ∷ [])
unfolding answer ordered meaning kept_rows keeps_row row_values group_values group_key keeps_group pair_of row_pair group_pair pairs_of
in_list = refl

not_in_list : answer (record { distinct = false; star = false; outputs = (record { node = 0; name = None } ∷ []); tables = (record { table = codes "t"; alias = codes "t"; on = None } ∷ []); filter = (Some 7); group = []; having = None; order = []; nodes = ((node.Col (record { table = None; name = codes "a" })) ∷ (node.Col (record { table = None; name = codes "a" })) ∷ (node.Lit (literal.Int (pos 1))) ∷ (node.Compare cmp.Eq 1 2) ∷ (node.Lit (literal.Int (pos 3))) ∷ (node.Compare cmp.Eq 1 4) ∷ (node.Either 3 5) ∷ (node.Not 6) ∷ []) }) [] tables_3 ≡ (((Int (pos 2)) ∷ []) ∷ [])
unfolding answer ordered meaning kept_rows keeps_row row_values group_values group_key keeps_group pair_of row_pair group_pair pairs_of
not_in_list = refl

in_null : answer (record { distinct = false; star = false; outputs = (record { node = 0; name = None } ∷ []); tables = (record { table = codes "t"; alias = codes "t"; on = None } ∷ []); filter = (Some 6); group = []; having = None; order = []; nodes = ((node.Col (record { table = None; name = codes "a" })) ∷ (node.Col (record { table = None; name = codes "a" })) ∷ (node.Lit (literal.Int (pos 1))) ∷ (node.Compare cmp.Eq 1 2) ∷ (node.Lit literal.Null) ∷ (node.Compare cmp.Eq 1 4) ∷ (node.Either 3 5) ∷ []) }) [] tables_4 ≡ (((Int (pos 1)) ∷ []) ∷ [])
unfolding answer ordered meaning kept_rows keeps_row row_values group_values group_key keeps_group pair_of row_pair group_pair pairs_of
in_null = refl

not_in_null : answer (record { distinct = false; star = false; outputs = (record { node = 0; name = None } ∷ []); tables = (record { table = codes "t"; alias = codes "t"; on = None } ∷ []); filter = (Some 7); group = []; having = None; order = []; nodes = ((node.Col (record { table = None; name = codes "a" })) ∷ (node.Col (record { table = None; name = codes "a" })) ∷ (node.Lit (literal.Int (pos 1))) ∷ (node.Compare cmp.Eq 1 2) ∷ (node.Lit literal.Null) ∷ (node.Compare cmp.Eq 1 4) ∷ (node.Either 3 5) ∷ (node.Not 6) ∷ []) }) [] tables_4 ≡ []
unfolding answer ordered meaning kept_rows keeps_row row_values group_values group_key keeps_group pair_of row_pair group_pair pairs_of
not_in_null = refl

prefix_less : answer (record { distinct = false; star = false; outputs = (record { node = 0; name = None } ∷ []); tables = (record { table = codes "s"; alias = codes "s"; on = None } ∷ []); filter = (Some 3); group = []; having = None; order = []; nodes = ((node.Col (record { table = None; name = codes "v" })) ∷ (node.Col (record { table = None; name = codes "v" })) ∷ (node.Lit (literal.Text (record { at = 0; len = 3 }))) ∷ (node.Compare cmp.Lt 1 2) ∷ []) }) (codes "abc") tables_5 ≡ (((Text (codes "ab")) ∷ []) ∷ ((Text (codes "a")) ∷ []) ∷ [])
unfolding answer ordered meaning kept_rows keeps_row row_values group_values group_key keeps_group pair_of row_pair group_pair pairs_of
prefix_less = refl

text_equal : answer (record { distinct = false; star = false; outputs = (record { node = 0; name = None } ∷ []); tables = (record { table = codes "s"; alias = codes "s"; on = None } ∷ []); filter = (Some 3); group = []; having = None; order = []; nodes = ((node.Col (record { table = None; name = codes "v" })) ∷ (node.Col (record { table = None; name = codes "v" })) ∷ (node.Lit (literal.Text (record { at = 0; len = 2 }))) ∷ (node.Compare cmp.Eq 1 2) ∷ []) }) (codes "ab") tables_5 ≡ (((Text (codes "ab")) ∷ []) ∷ [])
unfolding answer ordered meaning kept_rows keeps_row row_values group_values group_key keeps_group pair_of row_pair group_pair pairs_of
text_equal = refl

negated : answer (record { distinct = false; star = false; outputs = (record { node = 1; name = None } ∷ []); tables = (record { table = codes "t"; alias = codes "t"; on = None } ∷ []); filter = None; group = []; having = None; order = []; nodes = ((node.Col (record { table = None; name = codes "a" })) ∷ (node.Neg 0) ∷ []) }) [] tables_6 ≡ (((Int (pos 2147483648)) ∷ []) ∷ ((Int (negsuc 2147483646)) ∷ []) ∷ [])
unfolding answer ordered meaning kept_rows keeps_row row_values group_values group_key keeps_group pair_of row_pair group_pair pairs_of
negated = refl

cubes : answer (record { distinct = false; star = false; outputs = (record { node = 4; name = None } ∷ []); tables = (record { table = codes "t"; alias = codes "t"; on = None } ∷ []); filter = None; group = []; having = None; order = []; nodes = ((node.Col (record { table = None; name = codes "a" })) ∷ (node.Col (record { table = None; name = codes "a" })) ∷ (node.Arith op.Mul 0 1) ∷ (node.Col (record { table = None; name = codes "a" })) ∷ (node.Arith op.Mul 2 3) ∷ []) }) [] tables_6 ≡ (((Int (negsuc 9903520314283042199192993791)) ∷ []) ∷ ((Int (pos 9903520300447984150353281023)) ∷ []) ∷ [])
unfolding answer ordered meaning kept_rows keeps_row row_values group_values group_key keeps_group pair_of row_pair group_pair pairs_of
cubes = refl

near_the_bound : answer (record { distinct = false; star = false; outputs = (record { node = 6; name = None } ∷ []); tables = (record { table = codes "t"; alias = codes "t"; on = None } ∷ []); filter = (Some 9); group = []; having = None; order = []; nodes = ((node.Col (record { table = None; name = codes "a" })) ∷ (node.Col (record { table = None; name = codes "a" })) ∷ (node.Arith op.Mul 0 1) ∷ (node.Col (record { table = None; name = codes "a" })) ∷ (node.Arith op.Mul 2 3) ∷ (node.Lit (literal.Int (pos 1073741823))) ∷ (node.Arith op.Mul 4 5) ∷ (node.Col (record { table = None; name = codes "a" })) ∷ (node.Lit (literal.Int (pos 0))) ∷ (node.Compare cmp.Lt 7 8) ∷ []) }) [] tables_6 ≡ (((Int (negsuc 10633823956375806668947414283049762815)) ∷ []) ∷ [])
unfolding answer ordered meaning kept_rows keeps_row row_values group_values group_key keeps_group pair_of row_pair group_pair pairs_of
near_the_bound = refl

pub filters_hold : FiltersHold
filters_hold = record { unequal = unequal; not_equal = not_equal; null_eq = null_eq; null_ne = null_ne; null_lt = null_lt; null_le = null_le; null_gt = null_gt; null_ge = null_ge; arithmetic = arithmetic; unknown_and_false = unknown_and_false; not_unknown_and_false = not_unknown_and_false; unknown_or_true = unknown_or_true; not_unknown = not_unknown; is_null = is_null; is_not_null = is_not_null; between = between; not_between = not_between; in_list = in_list; not_in_list = not_in_list; in_null = in_null; not_in_null = not_in_null; prefix_less = prefix_less; text_equal = text_equal; negated = negated; cubes = cubes; near_the_bound = near_the_bound }
