-- SELECT. SQL-92, section 13.1; our own rule: it is a FETCH of all rows of a cursor without a name, which
-- is opened first.
use Rattle.std.specs.Prelude.{◌≡◌, ℕ, List, [], ◌∷◌, Option, None, Some, length, ◌<◌, ◌≤◌}
use Rattle.hg_machine.specs.Plain.Open.{cursor_of, with_opened}
use Rattle.hg_machine.specs.Plain.Refused.{refusal_line, too_many_line}
use Rattle.hg_machine.specs.Plain.Replies.{ReplyLine}
use Rattle.hg_machine.specs.Plain.Rounds.{starts}
use Rattle.hg_machine.specs.Plain.State.{State, Fetches, tables_of}
use Rattle.hg_model.specs.Binding.{select_refusal}
use Rattle.hg_model.specs.Query.{Query}
use Rattle.hg_model.specs.Refusal.{Refusal}
use Rattle.hg_model.specs.declared.trees.Count.TheVariants as count

-- the state behind its beginning: the cursor without a name was opened and started for all rows
abbrev pub with_select : State → Query → List ℕ → State
with_select s q texts = record (starts (with_opened s None q texts) None (cursor_of s None q texts) None) { task = Some (Fetches None) }

pub data Selects (old : State) (q : Query) (texts : List ℕ) (lines : List ReplyLine) (new : State) : Type 0 where
  no_more : 16 ≤ length old.cursors → lines ≡ too_many_line count.Cursors ∷ [] → new ≡ old → Selects old q texts lines new
  refused : (r : Refusal) → length old.cursors < 16 → select_refusal (tables_of old) q ≡ Some r → lines ≡ refusal_line r ∷ [] → new ≡ old
      → Selects old q texts lines new
  begun : length old.cursors < 16 → select_refusal (tables_of old) q ≡ None → lines ≡ [] → new ≡ with_select old q texts
      → Selects old q texts lines new
