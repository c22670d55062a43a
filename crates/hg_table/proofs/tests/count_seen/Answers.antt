use Rattle.std.specs.Prelude.{Some}
use Rattle.std.proofs.Common.{subst}
use Rattle.hg_table.specs.Calls.{StandsOn}
use Rattle.hg_table.specs.Kept.{ready_next, ready_way, ready_first}
use Rattle.hg_table.proofs.tests.count_seen.Goals as goal

pub next_visible-requires-clause-way : goal.next_visible-requires-clause-way
next_visible-requires-clause-way g c = ready_way (g.S.Pages.state c.loop-turn.space) c.args.table.now 4 c.loop-turn.at c.loop-turn.invariant

pub loop-turn-preserved : goal.loop-turn-preserved
loop-turn-preserved g c =
    ready_next (g.S.Pages.state c.loop-turn.space) (g.S.Pages.state c.next_visible.new.space) c.args.table.now 4 c.loop-turn.at c.in-Some.place
    c.in_ok-place.ensures.steady c.loop-turn.invariant (λ pages chain on. subst (StandsOn pages) c.in-Some.is (c.in_ok-place.ensures.on_pages pages chain))
