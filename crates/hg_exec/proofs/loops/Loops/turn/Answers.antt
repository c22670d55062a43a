use Rattle.std.specs.Prelude.{◌∷◌}
use Rattle.std.proofs.Common.{sym, ◌∙◌, ap}
use Rattle.hg_exec.specs.Joins.{form_of}
use Rattle.hg_exec.proofs.Going.{going-on}
use Rattle.hg_exec.proofs.loops.Loops.turn.Goals as goal

pub step-requires-clause-work : goal.step-requires-clause-work
step-requires-clause-work g c = (c.requires.work.0, c.loop-self.invariant.work c.requires.work.0 c.requires.work.1)

pub loop-self-preserved : goal.loop-self-preserved
loop-self-preserved g c =
    let e = c.in-Again.ensures {u = tt} in
    going-on (g.S.Pages.state c.args.space.now) (g.S.Pages.state c.loop-self.space) (g.S.Pages.state c.step.new.space) c.args.stamps.now c.args.catalog.now.tables
    (form_of c.args.statement.now) c.args.statement.now.loops.now c.args.self.now c.loop-self.self c.step.new.self c.loop-self.invariant
    c.step.ensures.steady c.step.ensures.takes_none.taken e.cause (λ pages w. e.work pages w) (λ pages left w h. e.owed pages left w h) e.nearer

pub returns-in-Row-clause-owed : goal.returns-in-Row-clause-owed
returns-in-Row-clause-owed g c pages left w h =
    let e = c.in-Row.ensures {u = tt} in
    let s = e.owed pages left (c.loop-self.invariant.work pages w) (c.loop-self.invariant.owes pages left w h) in
    (s.0, s.1 ∙ ap (λ v. v ∷ s.0) (sym c.put_outputs.ensures), s.2)

pub returns-in-Row-clause-work : goal.returns-in-Row-clause-work
returns-in-Row-clause-work g c pages w =
    let e = c.in-Row.ensures {u = tt} in
    e.work pages (c.loop-self.invariant.work pages w)

pub returns-in-End-clause-owed : goal.returns-in-End-clause-owed
returns-in-End-clause-owed g c pages left w h =
    let e = c.in-End.ensures {u = tt} in
    e.owed pages left (c.loop-self.invariant.work pages w) (c.loop-self.invariant.owes pages left w h)
