use Rattle.std.proofs.Common.{sym, ◌∙◌}
use Rattle.hg_bind.proofs.Naming.{other_table, same_place, same_count, one_counted, none_counted}
use Rattle.hg_bind.proofs.nodes.place_of_column.Goals as goal

pub returns-then-not-is_of_table-clause-none : goal.returns-then-not-is_of_table-clause-none
returns-then-not-is_of_table-clause-none c =
    other_table c.args.column.now 0 c.args.table.now (sym c.is_of_table.ensures ∙ c.if-not-is_of_table.true) 0 c.args.columns.now

pub returns-in-Some-clause-place : goal.returns-in-Some-clause-place
returns-in-Some-clause-place c =
    c.in-Some.ensures.number
    ∙ sym (same_place c.args.column.now 0 c.args.table.now (sym c.is_of_table.ensures ∙ c.if-not-is_of_table.false) 0 c.args.columns.now)

pub returns-in-Some-clause-one : goal.returns-in-Some-clause-one
returns-in-Some-clause-one c =
    same_count c.args.column.now 0 c.args.table.now (sym c.is_of_table.ensures ∙ c.if-not-is_of_table.false) 0 c.args.columns.now
    ∙ one_counted c.args.column.now.name c.args.columns.now c.requires.different c.in-Some.ensures.there

pub returns-in-None-clause-none : goal.returns-in-None-clause-none
returns-in-None-clause-none c =
    same_count c.args.column.now 0 c.args.table.now (sym c.is_of_table.ensures ∙ c.if-not-is_of_table.false) 0 c.args.columns.now
    ∙ none_counted c.args.column.now.name c.args.columns.now c.in-None.ensures.none
