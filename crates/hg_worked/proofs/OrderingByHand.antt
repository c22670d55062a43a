-- Each by computation.
use Rattle.std.specs.Prelude.{◌≡◌, true, false, [], ◌∷◌, Some, None, pos, codes}
use Rattle.hg_model.specs.Binding.{select_refusal}
use Rattle.hg_model.specs.Refusal.{UnknownColumn, AmbiguousColumn, BadNumber}
use Rattle.hg_model.specs.declared.trees.OrderBy.TheVariants.{Position, Column as ByColumn}
use Rattle.hg_model.specs.declared.trees.Node.TheVariants as node
use Rattle.hg_model.specs.declared.values.Value.TheVariants.{Null, Int, Text}
use Rattle.hg_worked.specs.Answers.{answer, ordered}
use Rattle.std.specs.Prelude.{refl}
use Rattle.hg_model.specs.SelectMeaning.{meaning, kept_rows, keeps_row, row_values, group_values, group_key, keeps_group, pair_of, row_pair, group_pair, pairs_of}
use Rattle.hg_model.specs.Refusal.{first_cause}
use Rattle.hg_model.specs.Types.{binary_digits, digits_within}
use Rattle.hg_worked.specs.Samples.{tables_15, tables_16, tables_17, tables_5}
use Rattle.hg_worked.specs.Ordering.{OrderingHold}

position : ordered (record { distinct = false; star = false; outputs = (record { node = 0; name = None } ∷ []); tables = (record { table = codes "o"; alias = codes "o"; on = None } ∷ []); filter = None; group = []; having = None; order = (record { by = Position 1; descending = false } ∷ []); nodes = ((node.Col (record { table = None; name = codes "k" })) ∷ []) }) [] tables_15 ≡ ((Null ∷ []) ∷ ((Int (pos 1)) ∷ []) ∷ ((Int (pos 2)) ∷ []) ∷ [])
unfolding answer ordered meaning kept_rows keeps_row row_values group_values group_key keeps_group pair_of row_pair group_pair pairs_of
position = refl

alias_descending : ordered (record { distinct = false; star = false; outputs = (record { node = 0; name = (Some (codes "z")) } ∷ []); tables = (record { table = codes "o"; alias = codes "o"; on = None } ∷ []); filter = None; group = []; having = None; order = (record { by = ByColumn 1; descending = true } ∷ []); nodes = ((node.Col (record { table = None; name = codes "k" })) ∷ (node.Col (record { table = None; name = codes "z" })) ∷ []) }) [] tables_15 ≡ (((Int (pos 2)) ∷ []) ∷ ((Int (pos 1)) ∷ []) ∷ (Null ∷ []) ∷ [])
unfolding answer ordered meaning kept_rows keeps_row row_values group_values group_key keeps_group pair_of row_pair group_pair pairs_of
alias_descending = refl

no_output : ordered (record { distinct = false; star = false; outputs = (record { node = 0; name = None } ∷ []); tables = (record { table = codes "o"; alias = codes "o"; on = None } ∷ []); filter = None; group = []; having = None; order = (record { by = ByColumn 1; descending = false } ∷ []); nodes = ((node.Col (record { table = None; name = codes "v" })) ∷ (node.Col (record { table = None; name = codes "k" })) ∷ []) }) [] tables_15 ≡ (((Text (codes "a")) ∷ []) ∷ ((Text (codes "c")) ∷ []) ∷ ((Text (codes "b")) ∷ []) ∷ [])
unfolding answer ordered meaning kept_rows keeps_row row_values group_values group_key keeps_group pair_of row_pair group_pair pairs_of
no_output = refl

no_output_descending : ordered (record { distinct = false; star = false; outputs = (record { node = 0; name = None } ∷ []); tables = (record { table = codes "o"; alias = codes "o"; on = None } ∷ []); filter = None; group = []; having = None; order = (record { by = ByColumn 1; descending = true } ∷ []); nodes = ((node.Col (record { table = None; name = codes "v" })) ∷ (node.Col (record { table = None; name = codes "k" })) ∷ []) }) [] tables_15 ≡ (((Text (codes "b")) ∷ []) ∷ ((Text (codes "c")) ∷ []) ∷ ((Text (codes "a")) ∷ []) ∷ [])
unfolding answer ordered meaning kept_rows keeps_row row_values group_values group_key keeps_group pair_of row_pair group_pair pairs_of
no_output_descending = refl

star : ordered (record { distinct = false; star = true; outputs = []; tables = (record { table = codes "o"; alias = codes "o"; on = None } ∷ []); filter = None; group = []; having = None; order = (record { by = ByColumn 0; descending = false } ∷ []); nodes = ((node.Col (record { table = None; name = codes "v" })) ∷ []) }) [] tables_15 ≡ ((Null ∷ (Text (codes "a")) ∷ []) ∷ ((Int (pos 2)) ∷ (Text (codes "b")) ∷ []) ∷ ((Int (pos 1)) ∷ (Text (codes "c")) ∷ []) ∷ [])
unfolding answer ordered meaning kept_rows keeps_row row_values group_values group_key keeps_group pair_of row_pair group_pair pairs_of
star = refl

two_keys : ordered (record { distinct = false; star = false; outputs = (record { node = 0; name = None } ∷ record { node = 1; name = None } ∷ []); tables = (record { table = codes "d"; alias = codes "d"; on = None } ∷ []); filter = None; group = []; having = None; order = (record { by = ByColumn 2; descending = false } ∷ record { by = ByColumn 3; descending = true } ∷ []); nodes = ((node.Col (record { table = None; name = codes "a" })) ∷ (node.Col (record { table = None; name = codes "b" })) ∷ (node.Col (record { table = None; name = codes "a" })) ∷ (node.Col (record { table = None; name = codes "b" })) ∷ []) }) [] tables_16 ≡ (((Int (pos 0)) ∷ (Int (pos 5)) ∷ []) ∷ ((Int (pos 1)) ∷ (Int (pos 2)) ∷ []) ∷ ((Int (pos 1)) ∷ Null ∷ []) ∷ [])
unfolding answer ordered meaning kept_rows keeps_row row_values group_values group_key keeps_group pair_of row_pair group_pair pairs_of
two_keys = refl

prefix : ordered (record { distinct = false; star = false; outputs = (record { node = 0; name = None } ∷ []); tables = (record { table = codes "s"; alias = codes "s"; on = None } ∷ []); filter = None; group = []; having = None; order = (record { by = ByColumn 1; descending = false } ∷ []); nodes = ((node.Col (record { table = None; name = codes "v" })) ∷ (node.Col (record { table = None; name = codes "v" })) ∷ []) }) [] tables_5 ≡ (((Text (codes "a")) ∷ []) ∷ ((Text (codes "ab")) ∷ []) ∷ ((Text (codes "abc")) ∷ []) ∷ ((Text (codes "b")) ∷ []) ∷ [])
unfolding answer ordered meaning kept_rows keeps_row row_values group_values group_key keeps_group pair_of row_pair group_pair pairs_of
prefix = refl

descending_then_position : ordered (record { distinct = false; star = false; outputs = (record { node = 0; name = None } ∷ []); tables = (record { table = codes "t"; alias = codes "t"; on = None } ∷ []); filter = None; group = []; having = None; order = (record { by = ByColumn 1; descending = true } ∷ record { by = Position 1; descending = false } ∷ []); nodes = ((node.Col (record { table = None; name = codes "b" })) ∷ (node.Col (record { table = None; name = codes "a" })) ∷ []) }) [] tables_17 ≡ (((Text (codes "a")) ∷ []) ∷ ((Text (codes "x")) ∷ []) ∷ ((Text (codes "y")) ∷ []) ∷ [])
unfolding answer ordered meaning kept_rows keeps_row row_values group_values group_key keeps_group pair_of row_pair group_pair pairs_of
descending_then_position = refl

position_outside : select_refusal tables_17 (record { distinct = false; star = false; outputs = (record { node = 0; name = None } ∷ []); tables = (record { table = codes "t"; alias = codes "t"; on = None } ∷ []); filter = None; group = []; having = None; order = (record { by = Position 2; descending = false } ∷ []); nodes = ((node.Col (record { table = None; name = codes "b" })) ∷ []) }) ≡ Some BadNumber
unfolding select_refusal first_cause binary_digits digits_within
position_outside = refl

distinct_hides : select_refusal tables_17 (record { distinct = true; star = false; outputs = (record { node = 0; name = None } ∷ []); tables = (record { table = codes "t"; alias = codes "t"; on = None } ∷ []); filter = None; group = []; having = None; order = (record { by = ByColumn 1; descending = false } ∷ []); nodes = ((node.Col (record { table = None; name = codes "b" })) ∷ (node.Col (record { table = None; name = codes "a" })) ∷ []) }) ≡ Some (UnknownColumn (record { table = None; name = codes "a" }))
unfolding select_refusal first_cause binary_digits digits_within
distinct_hides = refl

two_aliases : select_refusal tables_17 (record { distinct = false; star = false; outputs = (record { node = 0; name = (Some (codes "x")) } ∷ record { node = 1; name = (Some (codes "x")) } ∷ []); tables = (record { table = codes "t"; alias = codes "t"; on = None } ∷ []); filter = None; group = []; having = None; order = (record { by = ByColumn 2; descending = false } ∷ []); nodes = ((node.Col (record { table = None; name = codes "a" })) ∷ (node.Col (record { table = None; name = codes "b" })) ∷ (node.Col (record { table = None; name = codes "x" })) ∷ []) }) ≡ Some (AmbiguousColumn (record { table = None; name = codes "x" }))
unfolding select_refusal first_cause binary_digits digits_within
two_aliases = refl

one_column_twice : select_refusal tables_17 (record { distinct = false; star = false; outputs = (record { node = 0; name = (Some (codes "x")) } ∷ record { node = 1; name = (Some (codes "x")) } ∷ []); tables = (record { table = codes "t"; alias = codes "t"; on = None } ∷ []); filter = None; group = []; having = None; order = (record { by = ByColumn 2; descending = false } ∷ []); nodes = ((node.Col (record { table = None; name = codes "a" })) ∷ (node.Col (record { table = None; name = codes "a" })) ∷ (node.Col (record { table = None; name = codes "x" })) ∷ []) }) ≡ None
unfolding select_refusal first_cause binary_digits digits_within
one_column_twice = refl

pub ordering_hold : OrderingHold
ordering_hold = record { position = position; alias_descending = alias_descending; no_output = no_output; no_output_descending = no_output_descending; star = star; two_keys = two_keys; prefix = prefix; descending_then_position = descending_then_position; position_outside = position_outside; distinct_hides = distinct_hides; two_aliases = two_aliases; one_column_twice = one_column_twice }
