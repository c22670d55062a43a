use Rattle.std.proofs.Common.{refl}
use Rattle.hg_model.specs.declared.values.Value.TheVariants.{Text}
use Rattle.hg_value.proofs.row.Row.push_text.Goals as goal

pub append-requires-clause-spells : goal.append-requires-clause-spells
append-requires-clause-spells c = record { value = Text c.args.text.now; held = c.requires; is = refl }

pub returns-clause-room : goal.returns-clause-room
returns-clause-room c = c.append.ensures.room (Text c.args.text.now) c.requires refl
