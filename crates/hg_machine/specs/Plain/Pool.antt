-- POOL, which says how many frames are in use. Our own rule. It may call both devices, and needs no page.
use Rattle.std.specs.Prelude.{◌≡◌, ℕ, List, [], ◌∷◌}
use Rattle.hg_machine.specs.Plain.Licences.{Licensed, no_file}
use Rattle.hg_machine.specs.Plain.Replies.{ReplyLine, pool_set}
use Rattle.hg_machine.specs.Plain.State.{State}
use Rattle.hg_model.specs.CommandNeeds.{needs}

pub data SetsPool (old : State) (n : ℕ) (lines : List ReplyLine) (new : State) : Type 0 where
  made : lines ≡ pool_set n ∷ [] → new ≡ record old { current = n } → SetsPool old n lines new
  failed : (line : ReplyLine) → Licensed old no_file (needs 0 0) line → lines ≡ line ∷ [] → new ≡ old → SetsPool old n lines new
