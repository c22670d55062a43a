use Rattle.std.proofs.Common.{◌∙◌, ap, sym}
use Rattle.hg_parse.proofs.Chains.{chain_go, chain_stop, chain_fail}
use Rattle.hg_parse.proofs.Moving.{goes_far}
use Rattle.hg_parse.specs.Kept.{flags_at}
use Rattle.hg_parse.specs.Rules.{constraints_turn}
use Rattle.hg_parse.specs.Steps.{got}
use Rattle.hg_parse.proofs.create.constraints.Goals as goal

pub each-preserved : goal.each-preserved
each-preserved c =
    let e = rw c.in-Ok-Some.field-0-is at c.in-Ok-Some.ensures in
    record {
      reads = λ k. c.each.invariant.reads k ∙ chain_go constraints_turn k _ _ k _ _ (e.reads k) e.went;
      goes_on = goes_far _ _ _ c.each.invariant.goes_on e.goes_on;
    }

pub returns-in-Ok-None-clause-reads : goal.returns-in-Ok-None-clause-reads
returns-in-Ok-None-clause-reads c =
    let e = rw c.in-Ok-None.field-0-is at c.in-Ok-None.ensures in
    λ k. c.each.invariant.reads k ∙ (chain_stop constraints_turn k _ _ (e.reads k) ∙ ap (got k (flags_at c.each.flags)) (sym e.went))

pub returns-in-Err-clause-reads : goal.returns-in-Err-clause-reads
returns-in-Err-clause-reads c = λ k. c.each.invariant.reads k ∙ chain_fail constraints_turn k _ _ (c.in-Err.ensures.reads k)
