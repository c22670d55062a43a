use Rattle.hg_exec.specs.Joins.{form_of}
use Rattle.hg_exec.specs.Turning.{looks_left}
use Rattle.hg_exec.proofs.Going.{Going}
use Rattle.hg_exec.proofs.loops.Loops.turn.Given as goal

abbrev pub invariant-loop-self : goal.invariant-loop-self
invariant-loop-self g l =
    Going (g.S.Pages.state l.initial.space) (g.S.Pages.state l.space) l.stamps l.catalog.tables (form_of l.statement) l.statement.loops.now l.initial.self l.self

abbrev pub decreases-loop-self : goal.decreases-loop-self
decreases-loop-self g l = looks_left l.statement.loops.now l.self
