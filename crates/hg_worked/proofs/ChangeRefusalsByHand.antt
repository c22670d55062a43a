-- Each by computation.
use Rattle.std.specs.Prelude.{refl}
use Rattle.hg_model.specs.ChangeBinding.{insert_refusal, update_refusal, delete_refusal}
use Rattle.hg_model.specs.ChangeMeaning.{insert_meaning, update_meaning, delete_meaning, vacuum_meaning}
use Rattle.hg_model.specs.Changes.{insert_change, update_change, delete_change}
use Rattle.hg_model.specs.Refusal.{first_cause}
use Rattle.hg_model.specs.Types.{binary_digits, digits_within}
use Rattle.hg_worked.specs.ChangeRefusals.{InsertRefusalsHold, UpdateRefusalsHold, DeleteRefusalsHold, VacuumsHold, CodesHold}

pub insert_refusals_hold : InsertRefusalsHold
unfolding insert_meaning insert_refusal insert_change update_meaning update_refusal update_change delete_meaning delete_refusal delete_change vacuum_meaning first_cause binary_digits digits_within
insert_refusals_hold = record { table_then_column = refl; taken_then_unknown = refl; unknown_then_taken = refl; column_then_type = refl; taken_then_type = refl; number_of_values_is_a_type = refl; type_then_stamp = refl; stamp_then_null = refl; last_stamp = refl; null_then_fit = refl; fit_then_length = refl; length_then_double = refl; double_key = refl; made_by_the_last_stamp = refl }

pub update_refusals_hold : UpdateRefusalsHold
unfolding insert_meaning insert_refusal insert_change update_meaning update_refusal update_change delete_meaning delete_refusal delete_change vacuum_meaning first_cause binary_digits digits_within
update_refusals_hold = record { table_then_column = refl; taken_then_unknown = refl; unknown_then_taken = refl; taken_then_name = refl; target_then_name = refl; names_in_order = refl; name_then_type = refl; type_then_aggregate = refl; aggregate_then_width = refl; width_then_stamp = refl; stamp_then_null = refl; null_then_fit = refl; fit_then_length = refl; length_then_double = refl; double_key = refl }

pub delete_refusals_hold : DeleteRefusalsHold
unfolding insert_meaning insert_refusal insert_change update_meaning update_refusal update_change delete_meaning delete_refusal delete_change vacuum_meaning first_cause binary_digits digits_within
delete_refusals_hold = record { table_then_name = refl; names_in_order = refl; name_then_type = refl; type_then_aggregate = refl; aggregate_then_width = refl; width_then_stamp = refl; stamps_used_up = refl; made_by_the_last_stamp = refl }

pub vacuums_hold : VacuumsHold
unfolding insert_meaning insert_refusal insert_change update_meaning update_refusal update_change delete_meaning delete_refusal delete_change vacuum_meaning first_cause binary_digits digits_within
vacuums_hold = record { unknown_table = refl; same_rows = refl; after_a_change = refl; after_a_refusal = refl }

pub codes_hold : CodesHold
unfolding insert_meaning insert_refusal insert_change update_meaning update_refusal update_change delete_meaning delete_refusal delete_change vacuum_meaning first_cause binary_digits digits_within
codes_hold = record { unknown_table = refl; unknown_column = refl; ambiguous_column = refl; type_mismatch = refl; too_wide = refl; name_taken = refl; too_many = refl; not_grouped = refl; does_not_fit = refl; null_not_allowed = refl; duplicate_key = refl; bad_number = refl; row_too_long = refl; stamps_used_up = refl; key_too_long = refl }
