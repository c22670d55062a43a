-- Laws of the two manners in which an engine takes a step.
use Rattle.std.specs.Prelude.{◌≡◌, Bool, true, false, List, ◌∷◌}
use Rattle.std.proofs.Common.{sym, subst, refl}
use Rattle.std.proofs.lemmas.Bool.{false≢true}
use Rattle.hg_base.specs.declared.Check.{Check}
use Rattle.hg_base.specs.declared.File.{File}
use Rattle.hg_base.specs.declared.PageId.{PageId}
use Rattle.hg_machine.specs.Plain.Loose.{with_any_rows, finds_damage}
use Rattle.hg_machine.specs.Plain.Refused.{damaged}
use Rattle.hg_machine.specs.Plain.Replies.{ReplyLine, device_fault}
use Rattle.hg_machine.specs.Plain.State.{State}
use Rattle.hg_engine.specs.Steps.{StepSo, MaySee}

-- whoever sees the state itself takes the step of the machine
pub step-seen : (told : Bool) (looks : State → Type 0) (step : State → List ReplyLine → State → Type 0) (old seen new : State) (lines : List ReplyLine)
    → MaySee told old seen → step seen lines new → StepSo told looks step old lines new
step-seen true looks step old seen new lines see took = subst (λ s. step s lines new) (see.itself refl) took
step-seen false looks step old seen new lines see took = with_any_rows seen see.alike took

pub see-same : (told : Bool) (old : State) → MaySee told old old
see-same told old = record { itself = λ t. refl; alike = refl }

pub step-same : (told : Bool) (looks : State → Type 0) (step : State → List ReplyLine → State → Type 0) (old new : State) (lines : List ReplyLine)
    → step old lines new → StepSo told looks step old lines new
step-same told looks step old new lines took = step-seen told looks step old old new lines (see-same told old) took

-- damage is found where a device might have failed
pub step-damaged : (told : Bool) (looks : State → Type 0) (step : State → List ReplyLine → State → Type 0) (old new : State) (file : File) (page : PageId) (check : Check) (more : List ReplyLine)
    → told ≡ false → looks old → step old (device_fault file ∷ more) new → StepSo told looks step old (damaged page check ∷ more) new
step-damaged true looks step old new file page check more untold look took = absurd (false≢true (sym untold))
step-damaged false looks step old new file page check more untold look took = finds_damage old file page check more look refl took refl
