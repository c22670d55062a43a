use Rattle.std.proofs.Common.{refl}
use Rattle.hg_model.specs.declared.values.Value.TheVariants.{Null}
use Rattle.hg_value.proofs.row.Row.push_null.Goals as goal

pub append-requires-clause-spells : goal.append-requires-clause-spells
append-requires-clause-spells c = record { value = Null; held = tt; is = refl }

pub returns-clause-ok : goal.returns-clause-ok
returns-clause-ok c = c.append.ensures.ok Null tt refl

pub returns-clause-room : goal.returns-clause-room
returns-clause-room c = c.append.ensures.room Null tt refl
