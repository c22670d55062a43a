use Rattle.std.proofs.Common.{sym, ◌∙◌, ap}
use Rattle.std.specs.Prelude.{is_some}
use Rattle.hg_bind.proofs.NamedTables.{unnamed, is_there}
use Rattle.hg_bind.proofs.create.is_table.Goals as goal

pub returns-in-Some : goal.returns-in-Some
returns-in-Some c = sym (is_there c.args.name.now c.args.catalog.now c.in-Some._number (sym c.table.ensures.value ∙ c.in-Some.is))

pub returns-in-None : goal.returns-in-None
returns-in-None c = sym (ap is_some (unnamed c.args.name.now c.args.catalog.now (sym c.table.ensures.value ∙ c.in-None.is)))
