use Rattle.std.proofs.Common.{◌+◌, ◌||◌, sym, ◌∙◌, ap, drop}
use Rattle.std.specs.List.{list_any}
use Rattle.std.specs.Option.{option_copied}
use Rattle.hg_bind.specs.Bound.{indexes_of}
use Rattle.hg_bind.proofs.Indexing.{index_step, has}
use Rattle.hg_bind.proofs.create_index.is_index.Goals as goal

pub returns-then-is_same : goal.returns-then-is_same
returns-then-is_same c =
    sym (sym c.loop-number.invariant
    ∙ index_step c.args.name.now c.args.catalog.now.tables c.args.catalog.now.indexes c.loop-number.number (option_copied c.index_name.result) c.index_name.ensures
    ∙ ap (λ b. b || list_any (has c.args.name.now) (drop (c.loop-number.number + 1) (indexes_of c.args.catalog.now))) (sym c.is_same.ensures ∙ c.if-is_same.true))

pub loop-number-preserved : goal.loop-number-preserved
loop-number-preserved c =
    sym (index_step c.args.name.now c.args.catalog.now.tables c.args.catalog.now.indexes c.loop-number.number (option_copied c.index_name.result) c.index_name.ensures
    ∙ ap (λ b. b || list_any (has c.args.name.now) (drop (c.loop-number.number + 1) (indexes_of c.args.catalog.now))) (sym c.is_same.ensures ∙ c.if-is_same.false))
    ∙ c.loop-number.invariant
