use Rattle.std.proofs.Common.{sym, ◌∙◌}
use Rattle.hg_bind.proofs.Lookups.{length_there, length_outside}
use Rattle.hg_bind.proofs.create_index.column_length.Goals as goal

pub returns-in-Some-clause-value : goal.returns-in-Some-clause-value
returns-in-Some-clause-value c =
    c.type_length.ensures.value
    ∙ sym (length_there c.args.columns.now c.args.number c.in-Some.column.now c.in-Some.ensures.lookup.3.0 c.in-Some.ensures.lookup.1)

pub returns-in-None-clause-value : goal.returns-in-None-clause-value
returns-in-None-clause-value c = sym (length_outside c.args.columns.now c.args.number c.in-None.ensures.lookup.3)
