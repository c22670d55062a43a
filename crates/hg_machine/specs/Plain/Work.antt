-- WORK. Our own rule: it gives so many turns, or fewer where no cursor is active any more. It cannot be
-- refused.
use Rattle.std.specs.Prelude.{◌≡◌, ℕ, List, [], Option, Some}
use Rattle.hg_machine.specs.Plain.Replies.{ReplyLine}
use Rattle.hg_machine.specs.Plain.State.{State, Works}

pub record BeginsWork (old : State) (n : ℕ) (lines : List ReplyLine) (new : State) : Type 0 where
  pub said : lines ≡ []
  pub after : new ≡ record old { task = Some (Works n 0) }
