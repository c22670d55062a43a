-- Each by computation.
use Rattle.std.specs.Prelude.{◌≡◌, true, false, [], ◌∷◌, Some, None, pos, codes}
use Rattle.hg_model.specs.Binding.{select_refusal}
use Rattle.hg_model.specs.Refusal.{UnknownColumn}
use Rattle.hg_model.specs.declared.trees.Literal.TheVariants as literal
use Rattle.hg_model.specs.declared.trees.Cmp.TheVariants as cmp
use Rattle.hg_model.specs.declared.trees.Op.TheVariants as op
use Rattle.hg_model.specs.declared.trees.Node.TheVariants as node
use Rattle.hg_model.specs.declared.values.Value.TheVariants.{Int}
use Rattle.hg_worked.specs.Answers.{answer, ordered}
use Rattle.std.specs.Prelude.{refl}
use Rattle.hg_model.specs.SelectMeaning.{meaning, kept_rows, keeps_row, row_values, group_values, group_key, keeps_group, pair_of, row_pair, group_pair, pairs_of}
use Rattle.hg_model.specs.Refusal.{first_cause}
use Rattle.hg_model.specs.Types.{binary_digits, digits_within}
use Rattle.hg_worked.specs.Samples.{tables_7, tables_8}
use Rattle.hg_worked.specs.Joins.{JoinsHold}

on_less : answer (record { distinct = false; star = false; outputs = (record { node = 0; name = None } ∷ record { node = 1; name = None } ∷ []); tables = (record { table = codes "t"; alias = codes "t"; on = None } ∷ record { table = codes "u"; alias = codes "u"; on = (Some 4) } ∷ []); filter = (Some 9); group = []; having = None; order = []; nodes = ((node.Col (record { table = (Some (codes "t")); name = codes "a" })) ∷ (node.Col (record { table = (Some (codes "u")); name = codes "a" })) ∷ (node.Col (record { table = (Some (codes "t")); name = codes "a" })) ∷ (node.Col (record { table = (Some (codes "u")); name = codes "a" })) ∷ (node.Compare cmp.Lt 2 3) ∷ (node.Col (record { table = (Some (codes "u")); name = codes "a" })) ∷ (node.Col (record { table = (Some (codes "t")); name = codes "a" })) ∷ (node.Arith op.Sub 5 6) ∷ (node.Lit (literal.Int (pos 1))) ∷ (node.Compare cmp.Eq 7 8) ∷ []) }) [] tables_7 ≡ (((Int (pos 1)) ∷ (Int (pos 2)) ∷ []) ∷ ((Int (pos 2)) ∷ (Int (pos 3)) ∷ []) ∷ [])
unfolding answer ordered meaning kept_rows keeps_row row_values group_values group_key keeps_group pair_of row_pair group_pair pairs_of
on_less = refl

four : answer (record { distinct = false; star = false; outputs = (record { node = 0; name = None } ∷ []); tables = (record { table = codes "j"; alias = codes "w"; on = None } ∷ record { table = codes "j"; alias = codes "y"; on = (Some 3) } ∷ record { table = codes "j"; alias = codes "z"; on = (Some 10) } ∷ record { table = codes "j"; alias = codes "v"; on = None } ∷ []); filter = (Some 13); group = []; having = None; order = []; nodes = ((node.Col (record { table = (Some (codes "w")); name = codes "x" })) ∷ (node.Col (record { table = (Some (codes "y")); name = codes "x" })) ∷ (node.Col (record { table = (Some (codes "w")); name = codes "x" })) ∷ (node.Compare cmp.Eq 1 2) ∷ (node.Col (record { table = (Some (codes "z")); name = codes "x" })) ∷ (node.Col (record { table = (Some (codes "w")); name = codes "x" })) ∷ (node.Compare cmp.Eq 4 5) ∷ (node.Col (record { table = (Some (codes "y")); name = codes "x" })) ∷ (node.Col (record { table = (Some (codes "z")); name = codes "x" })) ∷ (node.Compare cmp.Eq 7 8) ∷ (node.Both 6 9) ∷ (node.Col (record { table = (Some (codes "v")); name = codes "x" })) ∷ (node.Lit (literal.Int (pos 2))) ∷ (node.Compare cmp.Eq 11 12) ∷ []) }) [] tables_8 ≡ (((Int (pos 1)) ∷ []) ∷ ((Int (pos 2)) ∷ []) ∷ [])
unfolding answer ordered meaning kept_rows keeps_row row_values group_values group_key keeps_group pair_of row_pair group_pair pairs_of
four = refl

star : answer (record { distinct = false; star = true; outputs = []; tables = (record { table = codes "t"; alias = codes "t"; on = None } ∷ record { table = codes "u"; alias = codes "u"; on = None } ∷ []); filter = None; group = []; having = None; order = []; nodes = [] }) [] tables_7 ≡ (((Int (pos 1)) ∷ (Int (pos 2)) ∷ []) ∷ ((Int (pos 1)) ∷ (Int (pos 3)) ∷ []) ∷ ((Int (pos 2)) ∷ (Int (pos 2)) ∷ []) ∷ ((Int (pos 2)) ∷ (Int (pos 3)) ∷ []) ∷ [])
unfolding answer ordered meaning kept_rows keeps_row row_values group_values group_key keeps_group pair_of row_pair group_pair pairs_of
star = refl

on_later : select_refusal tables_8 (record { distinct = false; star = false; outputs = (record { node = 0; name = None } ∷ []); tables = (record { table = codes "j"; alias = codes "w"; on = None } ∷ record { table = codes "j"; alias = codes "y"; on = (Some 3) } ∷ record { table = codes "j"; alias = codes "z"; on = (Some 6) } ∷ []); filter = None; group = []; having = None; order = []; nodes = ((node.Col (record { table = (Some (codes "w")); name = codes "x" })) ∷ (node.Col (record { table = (Some (codes "z")); name = codes "x" })) ∷ (node.Lit (literal.Int (pos 1))) ∷ (node.Compare cmp.Eq 1 2) ∷ (node.Lit (literal.Int (pos 1))) ∷ (node.Lit (literal.Int (pos 1))) ∷ (node.Compare cmp.Eq 4 5) ∷ []) }) ≡ Some (UnknownColumn (record { table = Some (codes "z"); name = codes "x" }))
unfolding select_refusal first_cause binary_digits digits_within
on_later = refl

on_left : select_refusal tables_8 (record { distinct = false; star = false; outputs = (record { node = 0; name = None } ∷ []); tables = (record { table = codes "j"; alias = codes "w"; on = None } ∷ record { table = codes "j"; alias = codes "y"; on = (Some 3) } ∷ record { table = codes "j"; alias = codes "z"; on = (Some 6) } ∷ []); filter = None; group = []; having = None; order = []; nodes = ((node.Col (record { table = (Some (codes "w")); name = codes "x" })) ∷ (node.Col (record { table = (Some (codes "w")); name = codes "x" })) ∷ (node.Lit (literal.Int (pos 1))) ∷ (node.Compare cmp.Eq 1 2) ∷ (node.Lit (literal.Int (pos 1))) ∷ (node.Lit (literal.Int (pos 1))) ∷ (node.Compare cmp.Eq 4 5) ∷ []) }) ≡ None
unfolding select_refusal first_cause binary_digits digits_within
on_left = refl

pub joins_hold : JoinsHold
joins_hold = record { on_less = on_less; four = four; star = star; on_later = on_later; on_left = on_left }
