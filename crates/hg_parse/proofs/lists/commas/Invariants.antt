use Rattle.std.proofs.Common.{◌≡◌, length}
use Rattle.hg_parse.specs.AtHand.{tokens}
use Rattle.hg_parse.specs.Kept.{kept, Moves}
use Rattle.hg_parse.specs.Steps.{commas, chain, comma_turn}
use Rattle.hg_parse.proofs.lists.commas.Given as goal

abbrev pub invariant-items : goal.invariant-items
invariant-items g l = record {
  reads : commas g.I.Item.rule (kept l.fn.room) (tokens l.fn.input) ≡ chain (comma_turn g.I.Item.rule) (kept l.room) tt (tokens l.input);
  moves : Moves l.fn.input l.fn.room l.input l.room;
}

abbrev pub decreases-items : goal.decreases-items
decreases-items g l = length (tokens l.input)
