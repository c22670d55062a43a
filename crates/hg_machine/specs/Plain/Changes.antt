-- What INSERT, UPDATE and DELETE have in common. Our own rule, for the order of the causes: those of the
-- statement and the stamps first; then a device or a full file may forestall those of its rows. A stamp is
-- used by each that comes so far, whatever its reply.
use Rattle.std.specs.Prelude.{◌≡◌, ℕ, false, List, [], ◌∷◌, Option, None, Some}
use Rattle.hg_machine.specs.Plain.Licences.{Asks, Licensed, Allowance, Spends}
use Rattle.hg_machine.specs.Plain.Refused.{refusal_line}
use Rattle.hg_machine.specs.Plain.Replies.{ReplyLine, rows}
use Rattle.hg_machine.specs.Plain.State.{State, with_rows}
use Rattle.hg_model.specs.Changes.{Change, Made, Refused}
use Rattle.hg_model.specs.CommandNeeds.{PageNeed}
use Rattle.hg_model.specs.Refusal.{Refusal}
use Rattle.hg_model.specs.declared.values.Value.{Value}

-- one change of a table: the first cause against it before its stamp, what it makes of the table's rows, of
-- which files it may ask for pages and how many at most, and the versions that it may add
pub record OneChange : Type 0 where
  pub table : List ℕ
  pub cause : Option Refusal
  pub change : Change
  pub asks : Asks
  pub need : PageNeed
  pub versions : ℕ

-- a change that was made or refused leaves no temporary page behind; one that a device or a full file ended
-- may leave those that it needed
abbrev pub done_allowance : OneChange → Allowance
done_allowance c = record { main = c.need.main; temp = 0; versions = c.versions; stamps = 1; lowers = false }

abbrev pub ended_allowance : OneChange → Allowance
ended_allowance c = record { main = c.need.main; temp = c.need.temp; versions = c.versions; stamps = 1; lowers = false }

pub data ChangesRows (old : State) (c : OneChange) (lines : List ReplyLine) (new : State) : Type 0 where
  refused_before : (r : Refusal) → c.cause ≡ Some r → lines ≡ refusal_line r ∷ [] → new ≡ old → ChangesRows old c lines new
  made : (all : List (List Value)) (count : ℕ) → c.cause ≡ None → c.change ≡ Made all count → lines ≡ rows count ∷ []
      → Spends (done_allowance c) c.table (with_rows old c.table all) new → ChangesRows old c lines new
  refused : (r : Refusal) → c.cause ≡ None → c.change ≡ Refused r → lines ≡ refusal_line r ∷ []
      → Spends (done_allowance c) c.table old new → ChangesRows old c lines new
  failed : (line : ReplyLine) → c.cause ≡ None → Licensed old c.asks c.need line → lines ≡ line ∷ []
      → Spends (ended_allowance c) c.table old new → ChangesRows old c lines new
