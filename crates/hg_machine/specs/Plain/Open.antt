-- OPEN. SQL-92, section 13.2; our own rule: a cursor shows its tables as they stood when it was opened. It
-- is idle at first, and its opening touches no page.
use Rattle.std.specs.Prelude.{◌≡◌, ℕ, true, false, List, [], ◌∷◌, ◌++◌, Option, None, Some, length, ◌<◌, ◌≤◌}
use Rattle.hg_machine.specs.Plain.Refused.{refusal_line, too_many_line}
use Rattle.hg_machine.specs.Plain.Replies.{ReplyLine, CursorName, opened}
use Rattle.hg_machine.specs.Plain.State.{State, CursorState, tables_of, is_open}
use Rattle.hg_model.specs.Binding.{select_refusal}
use Rattle.hg_model.specs.Intake.{select_need}
use Rattle.hg_model.specs.Plan.{floor_of}
use Rattle.hg_model.specs.Query.{Query}
use Rattle.hg_model.specs.Refusal.{Refusal, NameTaken}
use Rattle.hg_model.specs.SelectMeaning.{meaning, too_many}
use Rattle.hg_model.specs.declared.trees.Count.TheVariants as count

-- the cursor of a SELECT over the tables as they stand
abbrev pub cursor_of : State → CursorName → Query → List ℕ → CursorState
cursor_of s name q texts = record {
  name = name;
  left = meaning q texts (tables_of s);
  is_too_many = too_many q texts (tables_of s);
  wanted = Some 0;
  held = 0;
  floor = floor_of (tables_of s) q;
  need = select_need q texts (tables_of s);
}

abbrev pub with_opened : State → CursorName → Query → List ℕ → State
with_opened s name q texts = record s { cursors = s.cursors ++ cursor_of s name q texts ∷ [] }

pub data Opens (old : State) (name : List ℕ) (q : Query) (texts : List ℕ) (lines : List ReplyLine) (new : State) : Type 0 where
  taken : is_open old (Some name) ≡ true → lines ≡ refusal_line (NameTaken name) ∷ [] → new ≡ old → Opens old name q texts lines new
  no_more : is_open old (Some name) ≡ false → 16 ≤ length old.cursors → lines ≡ too_many_line count.Cursors ∷ [] → new ≡ old
      → Opens old name q texts lines new
  refused : (r : Refusal) → is_open old (Some name) ≡ false → length old.cursors < 16 → select_refusal (tables_of old) q ≡ Some r
      → lines ≡ refusal_line r ∷ [] → new ≡ old → Opens old name q texts lines new
  made : is_open old (Some name) ≡ false → length old.cursors < 16 → select_refusal (tables_of old) q ≡ None → lines ≡ opened name ∷ []
      → new ≡ with_opened old (Some name) q texts → Opens old name q texts lines new
