-- By computation, and over 2,000 rows by their number.
use Rattle.std.proofs.Common.{◌≡◌, refl, ap, arith, true, List, [], ◌∷◌, length, suc}
use Rattle.std.specs.List.{filter}
use Rattle.hg_model.specs.CommandNeeds.{needs_of}
use Rattle.hg_model.specs.Intake.{intake, select_need, rows_before}
use Rattle.hg_model.specs.SelectMeaning.{meaning, kept_rows, keeps_row, row_values, group_values, group_key, keeps_group, pair_of, row_pair, group_pair, pairs_of}
use Rattle.hg_model.specs.Tables.{cross}
use Rattle.hg_model.specs.declared.values.Value.{Value}
use Rattle.hg_worked.specs.PageNeeds.{IntakesHold, CommandNeedsHold, JoinNeeds, CountedJoinNeeds}

pub intakes_hold : IntakesHold
unfolding intake select_need rows_before meaning kept_rows keeps_row row_values group_values group_key keeps_group pair_of row_pair group_pair pairs_of needs_of
intakes_hold = record { join_of_three = refl; need_of_join = refl; counted_join = refl; need_of_counted_join = refl; condition_before = refl; condition_behind = refl; second_join = refl; product_before_join = refl; scan_needs_none = refl; product_needs_none = refl; distinct_and_order = refl; groups_and_order = refl; having_behind_grouping = refl; order_of_no_rows = refl }

pub command_needs_hold : CommandNeedsHold
unfolding intake select_need rows_before meaning kept_rows keeps_row row_values group_values group_key keeps_group pair_of row_pair group_pair pairs_of needs_of
command_needs_hold = record { table = refl; index = refl; insert = refl; refused_insert = refl; refused_update = refl; delete = refl; vacuum = refl; select = refl; open_cursor = refl; work = refl }

all_kept : (rows : List (List Value)) → length (filter (λ row. true) (cross (rows ∷ []))) ≡ length rows
all_kept [] = refl
all_kept (row ∷ rows) = ap suc (all_kept rows)

pub join_needs : JoinNeeds
unfolding intake select_need rows_before
join_needs ps qs many = omega (arith, many.first, many.second, all_kept ps)

pub counted_join_needs : CountedJoinNeeds
unfolding intake select_need rows_before
counted_join_needs ps qs many grouped = omega (arith, many.first, many.second, grouped, all_kept ps)
