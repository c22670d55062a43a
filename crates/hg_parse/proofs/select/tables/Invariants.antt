use Rattle.std.proofs.Common.{◌≡◌, length}
use Rattle.hg_parse.specs.AtHand.{tokens}
use Rattle.hg_parse.specs.Kept.{kept, keeper, Moves}
use Rattle.hg_parse.specs.Rules.{tables, tables_turn}
use Rattle.hg_parse.specs.Steps.{chain}
use Rattle.hg_parse.proofs.select.tables.Given as goal

abbrev pub invariant-each : goal.invariant-each
invariant-each l = record {
  reads : tables keeper (kept l.fn.room) (tokens l.fn.input) ≡ chain (tables_turn keeper) (kept l.room) tt (tokens l.input);
  moves : Moves l.fn.input l.fn.room l.input l.room;
}

abbrev pub decreases-each : goal.decreases-each
decreases-each l = length (tokens l.input)
