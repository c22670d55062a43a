use Rattle.std.proofs.lemmas.Slice.Eq.{starts_is}
use Rattle.std.proofs.lemmas.Bool.Decides.{Decides-eqb}
use Rattle.hg_index.proofs.Walking.{begins_yes, begins_no}
use Rattle.hg_index.proofs.walk.begins_so.Goals as goal

pub returns-clause-yes : goal.returns-clause-yes
returns-clause-yes c =
    begins_yes c.args.prefix.now c.args.key.now c.starts_with.result (starts_is Decides-eqb c.args.key.now c.args.prefix.now c.starts_with.result c.starts_with.ensures.value)

pub returns-clause-other : goal.returns-clause-other
returns-clause-other c =
    begins_no c.args.prefix.now c.args.key.now c.starts_with.result (starts_is Decides-eqb c.args.key.now c.args.prefix.now c.starts_with.result c.starts_with.ensures.value)
