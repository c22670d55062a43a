use Rattle.std.proofs.Common.{sym, ◌∙◌}
use Rattle.hg_bind.proofs.Lookups.{kind_there, kind_outside}
use Rattle.hg_bind.proofs.kinds.kind_of_column.Goals as goal

pub returns-in-Some : goal.returns-in-Some
returns-in-Some c =
    c.kind_of_type.ensures
    ∙ sym (kind_there c.args.columns.now c.args.k c.in-Some.column.now c.in-Some.ensures.lookup.3.0 c.in-Some.ensures.lookup.1)

pub returns-in-None : goal.returns-in-None
returns-in-None c = sym (kind_outside c.args.columns.now c.args.k c.in-None.ensures.lookup.3)
