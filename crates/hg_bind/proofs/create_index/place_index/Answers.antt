use Rattle.std.proofs.Common.{subst}
use Rattle.hg_bind.specs.Bound.{tables_of, indexes_of, IsPlacedIndex}
use Rattle.hg_bind.proofs.create_index.place_index.Goals as goal

pub returns-in-Ok-clause-ok : goal.returns-in-Ok-clause-ok
returns-in-Ok-clause-ok c =
    subst (λ names. IsPlacedIndex (tables_of c.args.catalog.now) (indexes_of c.args.catalog.now)
    (record { name = c.args.index.now.name; table = c.args.index.now.table; unique = c.args.index.now.unique; columns = names }) c.in-Ok.table c.place_key.new.numbers.items)
    c.as_slice.ensures.value (c.in-Ok.ensures.ok c.args.index.now.unique)
