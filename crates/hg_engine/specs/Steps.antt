-- A step of the plain machine as an engine takes it: just so where its devices tell what stands on their
-- pages, and loosely where they do not. Our own rule.
use Rattle.std.specs.Prelude.{◌≡◌, Bool, true, false, List}
use Rattle.hg_machine.specs.Plain.Loose.{Alike, Loosely}
use Rattle.hg_machine.specs.Plain.Replies.{ReplyLine}
use Rattle.hg_machine.specs.Plain.State.{State}

abbrev pub StepSo : (told : Bool) → (looks : State → Type 0) → (step : State → List ReplyLine → State → Type 0) → State → List ReplyLine → State → Type 0
StepSo true looks step = step
StepSo false looks step = Loosely looks step

-- the state that the machine sees in the place of another one: that one itself where the devices tell
pub record MaySee (told : Bool) (old seen : State) : Type 0 where
  pub itself : told ≡ true → seen ≡ old
  pub alike : Alike old seen
