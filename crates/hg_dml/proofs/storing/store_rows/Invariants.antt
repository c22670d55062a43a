use Rattle.std.proofs.Common.{List, ℕ}
use Rattle.hg_model.specs.declared.values.Value.{Value}
use Rattle.hg_dml.specs.UpdateSteps.{HoldsAside, AreStorable}
use Rattle.hg_dml.proofs.StoreLaws.{StoredSoFar}
use Rattle.hg_dml.proofs.storing.store_rows.Given as goal

abbrev pub invariant-loop-turn : goal.invariant-loop-turn
invariant-loop-turn g l = (temp : List ℕ) (rows : List (List Value)) → HoldsAside (g.S.Pages.state l.initial.space) l.run temp rows → AreStorable l.columns rows
    → StoredSoFar (g.S.Pages.state l.initial.space) (g.S.Pages.state l.space) l.columns l.initial.data l.data l.stamp.0 l.run l.at l._turn temp rows
