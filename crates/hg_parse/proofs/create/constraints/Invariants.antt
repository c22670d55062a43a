use Rattle.std.proofs.Common.{◌≡◌, length}
use Rattle.hg_parse.specs.AtHand.{tokens, GoesOn}
use Rattle.hg_parse.specs.Keeping.{Kept}
use Rattle.hg_parse.specs.Kept.{flags_at}
use Rattle.hg_parse.specs.Rules.{constraints, constraints_turn}
use Rattle.hg_parse.specs.Steps.{chain}
use Rattle.hg_parse.proofs.create.constraints.Given as goal

abbrev pub invariant-each : goal.invariant-each
invariant-each l = record {
  reads : (k : Kept) → constraints k (tokens l.fn.input) ≡ chain constraints_turn k (flags_at l.flags) (tokens l.input);
  goes_on : GoesOn l.fn.input l.input;
}

abbrev pub decreases-each : goal.decreases-each
decreases-each l = length (tokens l.input)
