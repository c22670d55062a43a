use Rattle.std.proofs.Common.{◌∙◌, ap, sym}
use Rattle.hg_parse.proofs.Chains.{chain_go, chain_stop, chain_fail}
use Rattle.hg_parse.proofs.Turns.{far}
use Rattle.hg_parse.specs.AtHand.{tokens}
use Rattle.hg_parse.specs.Kept.{kept, keeper}
use Rattle.hg_parse.specs.Rules.{tables_turn}
use Rattle.hg_parse.specs.Steps.{got}
use Rattle.hg_parse.proofs.select.tables.Goals as goal

pub each-preserved : goal.each-preserved
each-preserved c =
    let e = rw c.in-Ok-true.field-0-test at c.in-Ok-true.ensures in
    record {
      reads = c.each.invariant.reads ∙ chain_go (tables_turn keeper) _ _ _ _ _ _ e.reads e.went;
      moves = far _ _ _ _ _ _ c.each.invariant.moves e.moves;
    }

pub returns-in-Ok-false-clause-reads : goal.returns-in-Ok-false-clause-reads
returns-in-Ok-false-clause-reads c =
    let e = rw c.in-Ok-false.field-0-test at c.in-Ok-false.ensures in
    c.each.invariant.reads ∙ (chain_stop (tables_turn keeper) _ _ _ e.reads ∙ (ap (got (kept c.each.room) tt) (sym e.went.0) ∙ ap (λ k. got k tt (tokens c.more_tables.new.input)) (sym e.went.1)))

pub returns-in-Err-clause-reads : goal.returns-in-Err-clause-reads
returns-in-Err-clause-reads c = c.each.invariant.reads ∙ chain_fail (tables_turn keeper) _ _ _ c.in-Err.ensures.reads
