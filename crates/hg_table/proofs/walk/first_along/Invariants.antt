use Rattle.hg_table.specs.Steps.{Looks, HoldsLine}
use Rattle.std.specs.Prelude.{◌≡◌, ℕ, List, None}
use Rattle.hg_table.specs.Calls.{reached}
use Rattle.hg_base.specs.Causes.{HasCause}
use Rattle.hg_base.specs.Lines.{IsLine}
use Rattle.hg_base.specs.declared.File.TheVariants.{Main}
use Rattle.hg_table.proofs.Walking.{Passed, IsOnWay, HasTurns}
use Rattle.hg_table.proofs.walk.first_along.Given as goal

abbrev pub invariant-loop-turn : goal.invariant-loop-turn
invariant-loop-turn g l = record {
  looks : Looks (g.S.Pages.state l.initial.space) (g.S.Pages.state l.space);
  passed : (h : HoldsLine (g.S.Pages.state l.initial.space) l.initial.next) → Passed (g.S.Pages.state l.initial.space) l.initial.next h l.next l._turn;
  cause : HasCause (g.S.Pages.state l.initial.space) (g.S.Pages.state l.space) None;
  way : (pages : List ℕ) → IsLine Main (g.S.Pages.state l.initial.space) l.initial.next pages → IsOnWay (g.S.Pages.state l.initial.space) pages l.next;
  links : (g.S.Pages.state l.space).next ≡ (g.S.Pages.state l.initial.space).next;
  steps : l.next ≡ reached (g.S.Pages.state l.initial.space).next l.initial.next l._turn;
  turns : (pages : List ℕ) → IsLine Main (g.S.Pages.state l.initial.space) l.initial.next pages → HasTurns (g.S.Pages.state l.initial.space) l.next l._turn;
}
