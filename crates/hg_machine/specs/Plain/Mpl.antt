-- MPL, which says how many cursors may be active. Our own rule: where more may be, the first waiting ones
-- join the round; lowering it removes nobody.
use Rattle.std.specs.Prelude.{◌≡◌, ℕ, List, [], ◌∷◌}
use Rattle.hg_machine.specs.Plain.Replies.{ReplyLine, mpl_set}
use Rattle.hg_machine.specs.Plain.Rounds.{joined}
use Rattle.hg_machine.specs.Plain.State.{State}

pub record SetsMpl (old : State) (n : ℕ) (lines : List ReplyLine) (new : State) : Type 0 where
  pub said : lines ≡ mpl_set n ∷ []
  pub after : new ≡ joined (record old { mpl = n })
