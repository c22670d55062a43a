-- Looks that open and close loops, one after the other.
use Rattle.std.specs.Prelude.{◌≡◌, ℕ, ◌<◌, ◌≤◌, Bool, List, Option, None}
use Rattle.std.proofs.Common.{sym, ◌∙◌, ap, refl, arith}
use Rattle.hg_base.specs.Causes.{HasCause}
use Rattle.hg_base.specs.Space.{Space, NoPins}
use Rattle.hg_base.specs.Steadiness.{Steady}
use Rattle.hg_base.specs.SteadyLaws.{HasCause_behind, HasCause_none, Steady_same, Steady_then}
use Rattle.hg_catalog.specs.Contents.{CatalogTable}
use Rattle.hg_model.specs.declared.values.Value.{Value}
use Rattle.hg_table.specs.Calls.{none_mine}
use Rattle.hg_exec.specs.Joins.{Form}
use Rattle.hg_exec.specs.Standing.{IsAtWork, Owes}
use Rattle.hg_exec.specs.Turning.{looks_left}
use Rattle.hg_exec.specs.declared.loops.Loops.{Loops}
use Rattle.hg_plan.specs.declared.plan.TableLoop.{TableLoop}

pub record Going (a b : Space) (marks : List Bool) (tables : List CatalogTable) (f : Form) (loops : List TableLoop) (x y : Loops) : Type 0 where
  pub steady : Steady none_mine a b
  pub taken : b.taken ≡ a.taken
  pub cause : HasCause a b None
  pub work : (pages : ℕ → List ℕ) → IsAtWork a marks tables pages f loops x → IsAtWork b marks tables pages f loops y
  pub owes : (pages : ℕ → List ℕ) (left : List (List Value)) → IsAtWork a marks tables pages f loops x → Owes a marks tables pages f loops x left → Owes b marks tables pages f loops y left
  pub nearer : looks_left loops y ≤ looks_left loops x

pub going-same : (a : Space) (marks : List Bool) (tables : List CatalogTable) (f : Form) (loops : List TableLoop) (x : Loops) → NoPins a → Going a a marks tables f loops x x
going-same a marks tables f loops x out = record {
  steady = Steady_same none_mine a out;
  taken = refl;
  cause = HasCause_none a a refl;
  work = λ pages w. w;
  owes = λ pages left w h. h;
  nearer = omega arith;
}

pub going-on : (a b c : Space) (marks : List Bool) (tables : List CatalogTable) (f : Form) (loops : List TableLoop) (x y z : Loops) → Going a b marks tables f loops x y
    → Steady none_mine b c → c.taken ≡ b.taken → HasCause b c None
    → ((pages : ℕ → List ℕ) → IsAtWork b marks tables pages f loops y → IsAtWork c marks tables pages f loops z)
    → ((pages : ℕ → List ℕ) (left : List (List Value)) → IsAtWork b marks tables pages f loops y → Owes b marks tables pages f loops y left → Owes c marks tables pages f loops z left)
    → looks_left loops z < looks_left loops y → Going a c marks tables f loops x z
going-on a b c marks tables f loops x y z g steady taken cause work owes nearer = record {
  steady = Steady_then none_mine a b c g.steady steady;
  taken = taken ∙ g.taken;
  cause = HasCause_behind a b c None g.steady.told g.cause cause;
  work = λ pages w. work pages (g.work pages w);
  owes = λ pages left w h. owes pages left (g.work pages w) (g.owes pages left w h);
  nearer = let n = g.nearer in omega arith;
}
