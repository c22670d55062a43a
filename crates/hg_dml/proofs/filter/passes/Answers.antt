use Rattle.std.proofs.Common.{sym, ◌∙◌, ap, Some, length}
use Rattle.hg_model.specs.Changes as changes
use Rattle.hg_model.specs.SelectMeaning.{node_values}
use Rattle.hg_dml.proofs.FilterLaws.{same-values}
use Rattle.hg_dml.proofs.filter.passes.Goals as goal

pub keeps-requires-clause-fits : goal.keeps-requires-clause-fits
keeps-requires-clause-fits c =
    c.rows_fit.ensures.small c.args.filter.now.nodes.now c.args.filter.now.columns.now c.args.row.now c.requires.filter.each c.requires.small
    ((c.rows_fit.ensures.none c.args.filter.now.nodes.now c.requires.filter.no_aggregate).0 (length c.args.row.now) c.args.filter.now.columns.now)

pub returns-in-Some : goal.returns-in-Some
returns-in-Some c =
    c.keeps.ensures
    ∙ ap (changes.passes (Some c.in-Some.condition))
    (same-values c.args.filter.now.texts.now c.args.filter.now.columns.now c.args.filter.now.nodes.now c.args.row.now c.requires.filter.no_aggregate)
    ∙ ap (λ o. changes.passes o (node_values c.args.filter.now.texts.now c.args.filter.now.columns.now c.args.filter.now.nodes.now c.args.row.now)) (sym c.in-Some.is)
