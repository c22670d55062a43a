-- How a line begins: the lines that it says before its first turn. Our own rule.
use Rattle.std.specs.Prelude.{◌≡◌, ℕ, Bool, true, false, List, [], ◌∷◌}
use Rattle.hg_machine.specs.Plain.Close.{ClosesCursor}
use Rattle.hg_machine.specs.Plain.CreateIndex.{CreatesIndex}
use Rattle.hg_machine.specs.Plain.CreateTable.{CreatesTable}
use Rattle.hg_machine.specs.Plain.Delete.{Deletes}
use Rattle.hg_machine.specs.Plain.Fetch.{BeginsFetch}
use Rattle.hg_machine.specs.Plain.Insert.{Inserts}
use Rattle.hg_machine.specs.Plain.Mpl.{SetsMpl}
use Rattle.hg_machine.specs.Plain.Open.{Opens}
use Rattle.hg_machine.specs.Plain.Pool.{SetsPool}
use Rattle.hg_machine.specs.Plain.Refused.{syntax_error, line_too_long, bad_number, too_many_line}
use Rattle.hg_machine.specs.Plain.Replies.{ReplyLine}
use Rattle.hg_machine.specs.Plain.Select.{Selects}
use Rattle.hg_machine.specs.Plain.ShowMemory.{ShowsMemory}
use Rattle.hg_machine.specs.Plain.Start.{Starts}
use Rattle.hg_machine.specs.Plain.State.{State}
use Rattle.hg_machine.specs.Plain.Update.{Updates}
use Rattle.hg_machine.specs.Plain.Vacuum.{Vacuums}
use Rattle.hg_machine.specs.Plain.Work.{BeginsWork}
use Rattle.hg_model.specs.LineReading.{ReadsLine, TooLong, ReadAs}
use Rattle.hg_model.specs.Reading.{Blank, Syntax, BadNumber, TooMany, Statement}
use Rattle.hg_model.specs.Script.{Line}
use Rattle.hg_model.specs.Statements.{CommandTree, CreateTable, CreateIndex, InsertRows, UpdateRows, DeleteRows, Vacuum, SelectRows, OpenCursor, Start, Work, Fetch, Close, Pool, Mpl, ShowMemory}
use Rattle.hg_model.specs.declared.trees.Count.{Count}

-- a command, with the texts of its line one behind the other
abbrev pub BeginsCommand : State → CommandTree → List ℕ → List ReplyLine → State → Type 0
BeginsCommand old (CreateTable t) texts lines new = CreatesTable old t lines new
BeginsCommand old (CreateIndex i) texts lines new = CreatesIndex old i lines new
BeginsCommand old (InsertRows i) texts lines new = Inserts old texts i lines new
BeginsCommand old (UpdateRows u) texts lines new = Updates old texts u lines new
BeginsCommand old (DeleteRows d) texts lines new = Deletes old texts d lines new
BeginsCommand old (Vacuum t) texts lines new = Vacuums old t lines new
BeginsCommand old (SelectRows q) texts lines new = Selects old q texts lines new
BeginsCommand old (OpenCursor c q) texts lines new = Opens old c q texts lines new
BeginsCommand old (Start c n) texts lines new = Starts old c n lines new
BeginsCommand old (Work n) texts lines new = BeginsWork old n lines new
BeginsCommand old (Fetch c n) texts lines new = BeginsFetch old c n lines new
BeginsCommand old (Close c) texts lines new = ClosesCursor old c lines new
BeginsCommand old (Pool n) texts lines new = SetsPool old n lines new
BeginsCommand old (Mpl n) texts lines new = SetsMpl old n lines new
BeginsCommand old ShowMemory texts lines new = ShowsMemory old lines new

-- A line of a script. `built` says which commands there are: any other is a syntax error.
pub data BeginsLine (built : CommandTree → Bool) (old : State) (line : Line) (lines : List ReplyLine) (new : State) : Type 0 where
  is_blank : ReadsLine old.max line (ReadAs Blank) → lines ≡ [] → new ≡ old → BeginsLine built old line lines new
  is_too_long : ReadsLine old.max line TooLong → lines ≡ line_too_long ∷ [] → new ≡ old → BeginsLine built old line lines new
  is_no_command : ReadsLine old.max line (ReadAs Syntax) → lines ≡ syntax_error ∷ [] → new ≡ old → BeginsLine built old line lines new
  has_bad_number : ReadsLine old.max line (ReadAs BadNumber) → lines ≡ bad_number ∷ [] → new ≡ old → BeginsLine built old line lines new
  has_too_many : (kind : Count) → ReadsLine old.max line (ReadAs (TooMany kind)) → lines ≡ too_many_line kind ∷ [] → new ≡ old
      → BeginsLine built old line lines new
  is_not_built : (c : CommandTree) (texts : List ℕ) → ReadsLine old.max line (ReadAs (Statement c texts)) → built c ≡ false
      → lines ≡ syntax_error ∷ [] → new ≡ old → BeginsLine built old line lines new
  asks : (c : CommandTree) (texts : List ℕ) → ReadsLine old.max line (ReadAs (Statement c texts)) → built c ≡ true
      → BeginsCommand old c texts lines new → BeginsLine built old line lines new

-- all commands are there
abbrev pub all_built : CommandTree → Bool
all_built c = true
