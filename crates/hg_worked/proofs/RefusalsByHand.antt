-- Each by computation.
use Rattle.std.specs.Prelude.{◌≡◌, true, false, [], ◌∷◌, Some, None, pos, codes}
use Rattle.hg_model.specs.Binding.{select_refusal}
use Rattle.hg_model.specs.Refusal.{UnknownTable, UnknownColumn, AmbiguousColumn, TypeMismatch, TooWide, NameTaken, NotGrouped, RowTooLong}
use Rattle.hg_model.specs.declared.trees.Literal.TheVariants as literal
use Rattle.hg_model.specs.declared.trees.Cmp.TheVariants as cmp
use Rattle.hg_model.specs.declared.trees.Op.TheVariants as op
use Rattle.hg_model.specs.declared.trees.Fold.TheVariants as of
use Rattle.hg_model.specs.declared.trees.Node.TheVariants as node
use Rattle.std.specs.Prelude.{refl}
use Rattle.hg_model.specs.Refusal.{first_cause}
use Rattle.hg_model.specs.Types.{binary_digits, digits_within}
use Rattle.hg_worked.specs.Samples.{tables_18, tables_9}
use Rattle.hg_worked.specs.Refusals.{RefusalsHold}

table : select_refusal tables_9 (record { distinct = false; star = true; outputs = []; tables = (record { table = codes "u"; alias = codes "u"; on = None } ∷ []); filter = None; group = []; having = None; order = []; nodes = [] }) ≡ Some (UnknownTable (codes "u"))
unfolding select_refusal first_cause binary_digits digits_within
table = refl

column : select_refusal tables_9 (record { distinct = false; star = false; outputs = (record { node = 0; name = None } ∷ []); tables = (record { table = codes "t"; alias = codes "t"; on = None } ∷ []); filter = None; group = []; having = None; order = []; nodes = ((node.Col (record { table = None; name = codes "x" })) ∷ []) }) ≡ Some (UnknownColumn (record { table = None; name = codes "x" }))
unfolding select_refusal first_cause binary_digits digits_within
column = refl

twice : select_refusal tables_9 (record { distinct = false; star = false; outputs = (record { node = 0; name = None } ∷ []); tables = (record { table = codes "t"; alias = codes "t"; on = None } ∷ record { table = codes "t"; alias = codes "t"; on = None } ∷ []); filter = None; group = []; having = None; order = []; nodes = ((node.Col (record { table = None; name = codes "a" })) ∷ []) }) ≡ Some (NameTaken (codes "t"))
unfolding select_refusal first_cause binary_digits digits_within
twice = refl

ambiguous : select_refusal tables_9 (record { distinct = false; star = false; outputs = (record { node = 0; name = None } ∷ record { node = 1; name = None } ∷ []); tables = (record { table = codes "t"; alias = codes "x"; on = None } ∷ record { table = codes "t"; alias = codes "y"; on = None } ∷ []); filter = None; group = []; having = None; order = []; nodes = ((node.Col (record { table = (Some (codes "x")); name = codes "a" })) ∷ (node.Col (record { table = None; name = codes "a" })) ∷ []) }) ≡ Some (AmbiguousColumn (record { table = None; name = codes "a" }))
unfolding select_refusal first_cause binary_digits digits_within
ambiguous = refl

mixed : select_refusal tables_9 (record { distinct = false; star = false; outputs = (record { node = 0; name = None } ∷ []); tables = (record { table = codes "t"; alias = codes "t"; on = None } ∷ []); filter = (Some 3); group = []; having = None; order = []; nodes = ((node.Col (record { table = None; name = codes "a" })) ∷ (node.Col (record { table = None; name = codes "a" })) ∷ (node.Lit (literal.Text (record { at = 0; len = 1 }))) ∷ (node.Compare cmp.Eq 1 2) ∷ []) }) ≡ Some TypeMismatch
unfolding select_refusal first_cause binary_digits digits_within
mixed = refl

null_is_no_condition : select_refusal tables_9 (record { distinct = false; star = false; outputs = (record { node = 0; name = None } ∷ []); tables = (record { table = codes "t"; alias = codes "t"; on = None } ∷ []); filter = (Some 1); group = []; having = None; order = []; nodes = ((node.Col (record { table = None; name = codes "a" })) ∷ (node.Lit literal.Null) ∷ []) }) ≡ Some TypeMismatch
unfolding select_refusal first_cause binary_digits digits_within
null_is_no_condition = refl

not_grouped : select_refusal tables_9 (record { distinct = false; star = false; outputs = (record { node = 0; name = None } ∷ record { node = 1; name = None } ∷ []); tables = (record { table = codes "t"; alias = codes "t"; on = None } ∷ []); filter = None; group = []; having = None; order = []; nodes = ((node.Col (record { table = None; name = codes "a" })) ∷ (node.Aggregate of.CountRows None) ∷ []) }) ≡ Some NotGrouped
unfolding select_refusal first_cause binary_digits digits_within
not_grouped = refl

having_column : select_refusal tables_9 (record { distinct = false; star = false; outputs = (record { node = 0; name = None } ∷ []); tables = (record { table = codes "t"; alias = codes "t"; on = None } ∷ []); filter = None; group = []; having = (Some 3); order = []; nodes = ((node.Aggregate of.CountRows None) ∷ (node.Col (record { table = None; name = codes "a" })) ∷ (node.Lit (literal.Int (pos 1))) ∷ (node.Compare cmp.Eq 1 2) ∷ []) }) ≡ Some NotGrouped
unfolding select_refusal first_cause binary_digits digits_within
having_column = refl

aggregate_in_where : select_refusal tables_9 (record { distinct = false; star = false; outputs = (record { node = 0; name = None } ∷ []); tables = (record { table = codes "t"; alias = codes "t"; on = None } ∷ []); filter = (Some 3); group = []; having = None; order = []; nodes = ((node.Col (record { table = None; name = codes "a" })) ∷ (node.Aggregate of.CountRows None) ∷ (node.Lit (literal.Int (pos 1))) ∷ (node.Compare cmp.Eq 1 2) ∷ []) }) ≡ Some NotGrouped
unfolding select_refusal first_cause binary_digits digits_within
aggregate_in_where = refl

nested_aggregate : select_refusal tables_9 (record { distinct = false; star = false; outputs = (record { node = 2; name = None } ∷ []); tables = (record { table = codes "t"; alias = codes "t"; on = None } ∷ []); filter = None; group = []; having = None; order = []; nodes = ((node.Col (record { table = None; name = codes "a" })) ∷ (node.Aggregate of.Count (Some 0)) ∷ (node.Aggregate of.Sum (Some 1)) ∷ []) }) ≡ Some NotGrouped
unfolding select_refusal first_cause binary_digits digits_within
nested_aggregate = refl

too_wide : select_refusal tables_9 (record { distinct = false; star = false; outputs = (record { node = 6; name = None } ∷ []); tables = (record { table = codes "t"; alias = codes "t"; on = None } ∷ []); filter = None; group = []; having = None; order = []; nodes = ((node.Col (record { table = None; name = codes "a" })) ∷ (node.Col (record { table = None; name = codes "a" })) ∷ (node.Arith op.Mul 0 1) ∷ (node.Col (record { table = None; name = codes "a" })) ∷ (node.Arith op.Mul 2 3) ∷ (node.Col (record { table = None; name = codes "a" })) ∷ (node.Arith op.Mul 4 5) ∷ []) }) ≡ Some TooWide
unfolding select_refusal first_cause binary_digits digits_within
too_wide = refl

just_narrow : select_refusal tables_9 (record { distinct = false; star = false; outputs = (record { node = 5; name = None } ∷ []); tables = (record { table = codes "t"; alias = codes "t"; on = None } ∷ []); filter = None; group = []; having = None; order = []; nodes = ((node.Col (record { table = None; name = codes "a" })) ∷ (node.Col (record { table = None; name = codes "a" })) ∷ (node.Arith op.Mul 0 1) ∷ (node.Col (record { table = None; name = codes "a" })) ∷ (node.Arith op.Mul 2 3) ∷ (node.Aggregate of.Sum (Some 4)) ∷ []) }) ≡ None
unfolding select_refusal first_cause binary_digits digits_within
just_narrow = refl

row_too_long : select_refusal tables_18 (record { distinct = false; star = true; outputs = []; tables = (record { table = codes "w"; alias = codes "w"; on = None } ∷ []); filter = None; group = []; having = None; order = []; nodes = [] }) ≡ Some RowTooLong
unfolding select_refusal first_cause binary_digits digits_within
row_too_long = refl

pub refusals_hold : RefusalsHold
refusals_hold = record { table = table; column = column; twice = twice; ambiguous = ambiguous; mixed = mixed; null_is_no_condition = null_is_no_condition; not_grouped = not_grouped; having_column = having_column; aggregate_in_where = aggregate_in_where; nested_aggregate = nested_aggregate; too_wide = too_wide; just_narrow = just_narrow; row_too_long = row_too_long }
