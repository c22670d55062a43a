use Rattle.std.specs.Prelude.{◌≡◌, ◌≤◌}
use Rattle.hg_gov.specs.Rounds.{held_by}
use Rattle.hg_gov.proofs.tests.grow.Given as goal

abbrev pub invariant-loop-turn : goal.invariant-loop-turn
invariant-loop-turn l = record {
  same : l.all.request ≡ l.holder.request;
  few : l.all.pages ≤ l._turn;
  held : l.all.pages ≤ held_by l.gov l.holder.request;
}
