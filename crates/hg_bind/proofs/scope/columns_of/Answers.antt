use Rattle.std.proofs.Common.{sym, ◌∙◌, ap, Some}
use Rattle.hg_model.specs.Scope.{columns_of}
use Rattle.hg_bind.proofs.NamedTables.{unnamed, columns_are}
use Rattle.hg_bind.proofs.scope.columns_of.Goals as goal

pub returns-in-Some-clause-columns : goal.returns-in-Some-clause-columns
returns-in-Some-clause-columns c =
    sym (columns_are c.args.from.now.table c.args.catalog.now c.in-Some.number c.as_slice.result.now (sym c.table.ensures.value ∙ c.in-Some.is)
    (c.columns.ensures.value ∙ ap Some (sym c.as_slice.ensures.value)))

pub returns-in-None-clause-columns : goal.returns-in-None-clause-columns
returns-in-None-clause-columns c =
    sym (ap columns_of (unnamed c.args.from.now.table c.args.catalog.now (sym c.table.ensures.value ∙ c.in-None.is)))
