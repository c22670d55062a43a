use Rattle.std.specs.Prelude.{Some}
use Rattle.std.proofs.Common.{subst}
use Rattle.hg_table.specs.Calls.{StandsOn}
use Rattle.hg_table.specs.Kept.{ready_next, ready_again, ready_page}
use Rattle.hg_table.proofs.tests.step.Goals as goal

pub read-requires-clause-page : goal.read-requires-clause-page
read-requires-clause-page g c =
    ready_page (g.S.Pages.state c.after.new.space) c.args.table.now 4 c.in-Some.place
    (ready_next (g.S.Pages.state c.args.space.now) (g.S.Pages.state c.after.new.space) c.args.table.now 4 c.args.at c.in-Some.place
    c.in_ok-place.ensures.steady c.requires (λ pages chain on. subst (StandsOn pages) c.in-Some.is (c.in_ok-place.ensures.on_pages pages chain on)))

pub returns-then-seen : goal.returns-then-seen
returns-then-seen g c =
    ready_again (g.S.Pages.state c.after.new.space) (g.S.Pages.state c.read.new.space) c.args.table.now 4 (Some c.in-Some.place) c.in_ok-seen.ensures.steady
    (ready_next (g.S.Pages.state c.args.space.now) (g.S.Pages.state c.after.new.space) c.args.table.now 4 c.args.at c.in-Some.place
    c.in_ok-place.ensures.steady c.requires (λ pages chain on. subst (StandsOn pages) c.in-Some.is (c.in_ok-place.ensures.on_pages pages chain on)))

pub returns-else-seen : goal.returns-else-seen
returns-else-seen g c =
    ready_again (g.S.Pages.state c.after.new.space) (g.S.Pages.state c.read.new.space) c.args.table.now 4 (Some c.in-Some.place) c.in_ok-seen.ensures.steady
    (ready_next (g.S.Pages.state c.args.space.now) (g.S.Pages.state c.after.new.space) c.args.table.now 4 c.args.at c.in-Some.place
    c.in_ok-place.ensures.steady c.requires (λ pages chain on. subst (StandsOn pages) c.in-Some.is (c.in_ok-place.ensures.on_pages pages chain on)))
