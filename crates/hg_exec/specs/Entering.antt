-- How a row joins those before it. Our own rule.
use Rattle.std.specs.Prelude.{◌≡◌, ℕ, suc, ◌<◌, Bool, true, false, List, [], ◌∷◌, ◌++◌, length, Option, None, ◌⊎◌}
use Rattle.std.specs.List.{AllByRecursion}
use Rattle.hg_base.specs.Space.{Space}
use Rattle.hg_catalog.specs.Contents.{CatalogTable}
use Rattle.hg_expr.specs.Over.{RowFits}
use Rattle.hg_model.specs.Width.{IsSound}
use Rattle.hg_model.specs.declared.values.Value.{Value}
use Rattle.hg_table.specs.Calls.{StandsOn}
use Rattle.hg_table.specs.Chains.{IsChain}
use Rattle.hg_value.specs.Choosing.{HasRoomFor}
use Rattle.hg_value.specs.Looks.{chosen}
use Rattle.hg_exec.specs.Joins.{Form, joined_with, output_of, passes}
use Rattle.hg_exec.specs.Standing.{entry, HasRoom, LoopHasLeft}
use Rattle.hg_exec.specs.declared.loops.Step.{Step}
use Rattle.hg_exec.specs.declared.loops.Step.TheVariants as step
use Rattle.hg_exec.specs.declared.plan.OpenLoop.{OpenLoop}
use Rattle.hg_plan.specs.declared.plan.TableLoop.{TableLoop}

-- a look at a loop may begin: its place is on a page of its table, and where the space tells, some rows are left
pub record IsOnWay (s : Space) (committed : ℕ → Bool) (snapshot : ℕ) (tables : List CatalogTable) (pages : ℕ → List ℕ) (t : ℕ) (o : OpenLoop) : Type 0 where
  pub chain : IsChain s (entry tables t).pages (pages t)
  pub on : StandsOn (pages t) o.at
  pub left : s.told ≡ true → (left : List (List Value)) × LoopHasLeft s committed snapshot tables pages t o.at o.budget left

-- the named columns of a row have room behind these values, and the conditions may be evaluated over them
pub record MayJoin (f : Form) (l : TableLoop) (vs row : List Value) : Type 0 where
  pub sound : IsSound f.texts f.nodes
  pub columns : AllByRecursion (λ k. k < length row) l.columns.items
  pub room : HasRoomFor vs (chosen row l.columns.items)
  pub fits : RowFits f.nodes f.slots (joined_with l vs row)

-- the outputs may be evaluated over a whole row, and have room
pub record IsWhole (f : Form) (vs : List Value) : Type 0 where
  pub sound : IsSound f.texts f.nodes
  pub fits : RowFits f.nodes f.slots vs
  pub room : HasRoom (output_of f vs)

-- the loop inside, which begins behind the values joined so far
abbrev pub begun : ℕ → ℕ → OpenLoop
begun most start = record { at = None; budget = most; start = start }

-- What becomes of a row that has joined, where `outer` are the loops around the one that gave it: it is let go;
-- or the loop inside is opened; or inside the last loop it is given.
abbrev pub Enters : Form → List TableLoop → ℕ → TableLoop → List OpenLoop → OpenLoop → List Value → List OpenLoop → Step → Type 0
Enters f loops most l outer o joined os step.Again =
    ((passes f l.tests.items joined ≡ false) × (os ≡ outer ++ o ∷ []))
    ⊎ ((passes f l.tests.items joined ≡ true) × (suc (length outer) < length loops) × (os ≡ (outer ++ o ∷ []) ++ begun most (length joined) ∷ []))
Enters f loops most l outer o joined os step.Row =
    (passes f l.tests.items joined ≡ true) × (suc (length outer) ≡ length loops) × (os ≡ outer ++ o ∷ [])
Enters f loops most l outer o joined os step.End = ⊥
Enters f loops most l outer o joined os (step.Fault e) = ⊥
