-- A look that found a row has no fault, and a fault names a page that was read.
use Rattle.std.specs.Prelude.{◌≡◌, ℕ, zero, suc, Bool, true, false, ◌||◌, List, [], ◌∷◌, Option, Some, None, IsTrue, slice_get}
use Rattle.std.specs.List.{list_any}
use Rattle.std.proofs.Common.{sym, ◌∙◌, ap, subst, refl}
use Rattle.hg_base.specs.Lines.{has_page}
use Rattle.hg_base.specs.declared.pages.PageFault.{PageFault}
use Rattle.hg_base.specs.declared.pages.PageFault.TheVariants as fault
use Rattle.hg_model.specs.declared.values.Value.{Value}
use Rattle.hg_table.specs.Calls.{NamesOneOf}
use Rattle.hg_exec.specs.Entering.{Enters}
use Rattle.hg_exec.specs.Joins.{Form}
use Rattle.hg_exec.specs.Turning.{IfStepFault, NamesRead, fault_of_step}
use Rattle.hg_exec.specs.declared.loops.Step.{Step}
use Rattle.hg_exec.specs.declared.loops.Step.TheVariants as step
use Rattle.hg_exec.specs.declared.plan.OpenLoop.{OpenLoop}
use Rattle.hg_plan.specs.declared.plan.TableLoop.{TableLoop}
use Rattle.hg_exec.proofs.Opening.{same-one, no-loop}

pub entered-none : (f : Form) (loops : List TableLoop) (most : ℕ) (l : TableLoop) (outer : List OpenLoop) (o : OpenLoop) (joined : List Value) (os : List OpenLoop) (s : Step)
    → Enters f loops most l outer o joined os s → fault_of_step s ≡ None
entered-none f loops most l outer o joined os step.Again h = refl
entered-none f loops most l outer o joined os step.Row h = refl
entered-none f loops most l outer o joined os step.End h = absurd h
entered-none f loops most l outer o joined os (step.Fault e) h = absurd h

pub entered-any : (P : PageFault → Type 0) (f : Form) (loops : List TableLoop) (most : ℕ) (l : TableLoop) (outer : List OpenLoop) (o : OpenLoop) (joined : List Value) (os : List OpenLoop) (s : Step)
    → Enters f loops most l outer o joined os s → IfStepFault s P
entered-any P f loops most l outer o joined os step.Again h = tt
entered-any P f loops most l outer o joined os step.Row h = tt
entered-any P f loops most l outer o joined os step.End h = absurd h
entered-any P f loops most l outer o joined os (step.Fault e) h = absurd h

or-right : (a b : Bool) → b ≡ true → (a || b) ≡ true
or-right true b h = refl
or-right false b h = h

any-at : (p : TableLoop → Bool) (loops : List TableLoop) (n : ℕ) (l : TableLoop) → slice_get loops n ≡ Some l → p l ≡ true → list_any p loops ≡ true
any-at p [] n l e h = absurd (no-loop n l e)
any-at p (m ∷ loops) zero l e h = ap (λ b. b || list_any p loops) (ap p (same-one m l e) ∙ h)
any-at p (m ∷ loops) (suc n) l e h = or-right (p m) (list_any p loops) (any-at p loops n l e h)

pub names-read : (pages : ℕ → List ℕ) (loops : List TableLoop) (n : ℕ) (l : TableLoop) → slice_get loops n ≡ Some l → (e : PageFault) → NamesOneOf (pages l.table) e → NamesRead pages loops e
names-read pages loops n l at fault.MainFault h = tt
names-read pages loops n l at fault.TempFault h = tt
names-read pages loops n l at fault.MainFull h = tt
names-read pages loops n l at fault.TempFull h = tt
names-read pages loops n l at (fault.Damaged page check) h = (h.0, any-at (λ (t : TableLoop). has_page (pages t.table) page.no) loops n l at h.1)
