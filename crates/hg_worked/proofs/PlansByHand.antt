-- Each by computation.
use Rattle.std.specs.Prelude.{refl}
use Rattle.hg_model.specs.Plan.{floor_of, plan_of}
use Rattle.hg_worked.specs.Plans.{ConditionsHold, IndexesHold}

pub conditions_hold : ConditionsHold
unfolding floor_of plan_of
conditions_hold = record { between_is_split = refl; on_comes_first = refl; only_and_is_split = refl; first_tables = refl; its_column_second = refl; its_column_first = refl; in_with_one_item = refl; in_with_two_items = refl; no_column_alone = refl; own_columns = refl; no_equality = refl; of_any_earlier_table = refl; eight_keys = refl; ninth_is_a_test = refl; no_join_no_order = refl; floor_of_order = refl; floor_of_two_joins = refl }

pub indexes_hold : IndexesHold
unfolding floor_of plan_of
indexes_hold = record { first_by_creation = refl; constant_first = refl; minus_a_number = refl; null_is_no_constant = refl; sum_is_no_constant = refl; minus_twice_is_no_constant = refl; or_reads_all = refl; greater_reads_all = refl; first_condition = refl; first_index = refl; later_table = refl; other_table_reads_all = refl; whole_plan = refl }
