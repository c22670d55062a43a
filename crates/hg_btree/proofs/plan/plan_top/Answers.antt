use Rattle.std.proofs.Common.{arith}
use Rattle.hg_base.specs.Space.{Space}
use Rattle.hg_btree.proofs.Seeking.{free_stays, damage_cause}
use Rattle.hg_btree.proofs.Planning.{top_page, told_now}
use Rattle.hg_btree.proofs.Heights.{height_few}
use Rattle.hg_btree.proofs.plan.plan_top.Goals as goal

pub halve_page-requires-clause-free : goal.halve_page-requires-clause-free
halve_page-requires-clause-free g c = λ told.
    let w = c.requires.there told in
    (top_page c.args.top.file (g.S.Pages.state c.args.space.now) c.args.top.no w.0 w.1 w.2 (record { key = c.args.key.now; place = c.args.place; child = 0 }) c.requires.no_pins w.3).at.free

pub halve_page-requires-clause-sound : goal.halve_page-requires-clause-sound
halve_page-requires-clause-sound g c = λ told.
    let w = c.requires.there told in
    let p = top_page c.args.top.file (g.S.Pages.state c.args.space.now) c.args.top.no w.0 w.1 w.2 (record { key = c.args.key.now; place = c.args.place; child = 0 }) c.requires.no_pins w.3 in
    (p.at.page, p.at.told, p.at.is, p.full)

pub returns-then-halved-clause-cause : goal.returns-then-halved-clause-cause
returns-then-halved-clause-cause g c =
    damage_cause (g.S.Pages.state c.args.space.now) (g.S.Pages.state c.halve_page.new.space) _ _ c.in_ok-halved.ensures.cause (λ told.
    let w = c.requires.there told in
    let p = top_page c.args.top.file (g.S.Pages.state c.args.space.now) c.args.top.no w.0 w.1 w.2 (record { key = c.args.key.now; place = c.args.place; child = 0 }) c.requires.no_pins w.3 in
    let l = p.at.level_is c.in_ok-halved.halved.level (c.in_ok-halved.ensures.level p.at.page p.at.told) in
    let f = height_few c.args.top.file (g.S.Pages.state c.args.space.now) c.args.top.no w.0 w.1 w.2 w.3.tree in
    let q = c.if-halved.true in
    absurd (omega arith))

pub returns-clause-planned : goal.returns-clause-planned
returns-clause-planned g c = λ es pages leaves w.
    let a : Space = g.S.Pages.state c.args.space.now in
    let d : Space = g.S.Pages.state c.halve_page.new.space in
    let p = top_page c.args.top.file a c.args.top.no es pages leaves (record { key = c.args.key.now; place = c.args.place; child = 0 }) c.requires.no_pins w in
    record {
      free = free_stays a d c.args.top c.in_ok-halved.ensures.looks p.at.free;
      old = p.at.page;
      told = told_now a d c.args.top p.at.page c.in_ok-halved.ensures.looks p.at.free p.at.told;
      level_is = p.at.level_is c.in_ok-halved.halved.level (c.in_ok-halved.ensures.level p.at.page p.at.told);
      is_level = c.in_ok-halved.ensures.level p.at.page p.at.told;
      halves = c.in_ok-halved.ensures.halves p.at.page p.at.told;
    }
