-- What one small step of an engine promises, in the words of the plain machine. Our own rule.
use Rattle.std.specs.Prelude.{◌≡◌, ℕ, ◌≤◌, Bool, true, false, List, [], ◌∷◌}
use Rattle.std.specs.List.{AllByRecursion}
use Rattle.hg_base.specs.declared.Check.{Check}
use Rattle.hg_base.specs.declared.File.TheVariants.{Main, Temp}
use Rattle.hg_base.specs.declared.PageId.{PageId}
use Rattle.hg_base.specs.Count.{raised}
use Rattle.hg_machine.specs.Plain.Begin.{BeginsCommand}
use Rattle.hg_machine.specs.Plain.Loose.{Loosely, loosely, looks_at_pages}
use Rattle.hg_machine.specs.Plain.Refused.{damaged, syntax_error}
use Rattle.hg_machine.specs.Plain.Replies.{ReplyLine, text_of, has_error, fault_lines, full_lines, is_code}
use Rattle.hg_machine.specs.Plain.Run.{Manner, Continues, exactly, dropped}
use Rattle.hg_machine.specs.Plain.State.{State}
use Rattle.hg_model.specs.Statements.{CommandTree}
use Rattle.hg_reply.specs.Built.{is_built}
use Rattle.hg_reply.specs.declared.reply.Reply.{Reply}

-- what a run says of the two devices: how often each failed, by its own count, and how many pages it has
pub record DeviceFacts : Type 0 where
  pub main : ℕ
  pub temp : ℕ
  pub main_pages : ℕ
  pub temp_pages : ℕ

-- no count fell, and each device has as many pages as before
pub record NoneFell (before after : DeviceFacts) : Type 0 where
  pub main : before.main ≤ after.main
  pub temp : before.temp ≤ after.temp
  pub main_pages : after.main_pages ≡ before.main_pages
  pub temp_pages : after.temp_pages ≡ before.temp_pages

-- how often a page of each file was asked for while all of its pages were taken
pub record FullCounts : Type 0 where
  pub main : ℕ
  pub temp : ℕ

-- neither count fell
pub record FullsLater (before after : FullCounts) : Type 0 where
  pub main : before.main ≤ after.main
  pub temp : before.temp ≤ after.temp

-- these are the lines of a reply
pub record HasLines (reply : Reply) (lines : List ReplyLine) : Type 0 where
  pub text : reply.text.items ≡ text_of lines
  pub errors : reply.has_error ≡ has_error lines

-- no more of these lines say that a device failed than that device's count rose
pub record Counted (before after : DeviceFacts) (lines : List ReplyLine) : Type 0 where
  pub main : raised before.main (fault_lines Main lines) ≤ after.main
  pub temp : raised before.temp (fault_lines Temp lines) ≤ after.temp

-- these reply lines are what a step said, with the faults that they speak of
pub record Says (reply : Reply) (before after : DeviceFacts) (lines : List ReplyLine) : Type 0 where
  pub said : HasLines reply lines
  pub counted : Counted before after lines

-- no more of these lines say that a file is full than the count of such answers rose
pub record FullOnlyWhereFull (before after : FullCounts) (lines : List ReplyLine) : Type 0 where
  pub main : raised before.main (full_lines Main lines) ≤ after.main
  pub temp : raised before.temp (full_lines Temp lines) ≤ after.temp

-- which damage may be found: a page, and the check that it failed
abbrev pub Findings : Type 1
Findings = PageId → Check → Type 0

-- where a line says that a page is damaged, it says it of one that may be found so
abbrev pub TellsFound : Findings → ReplyLine → Type 0
TellsFound found line = is_code 21 line ≡ true → (page : PageId) × (check : Check) × (line ≡ damaged page check) × found page check

-- these lines tell of no damage but such as may be found
abbrev pub TellOnlyFound : Findings → List ReplyLine → Type 0
TellOnlyFound found lines = AllByRecursion (TellsFound found) lines

-- ---- steps of the machine, of which those commands are built that there are by now; its own steps over
-- devices that tell what stands on their pages, loose ones over others

abbrev pub manner : Bool → Manner
manner true = exactly is_built
manner false = loosely (exactly is_built)

-- how a command begins
abbrev pub BeginsSo : Bool → CommandTree → List ℕ → State → List ReplyLine → State → Type 0
BeginsSo true c texts old lines new = BeginsCommand old c texts lines new
BeginsSo false c texts old lines new = Loosely (λ s. looks_at_pages c ≡ true) (λ s. BeginsCommand s c texts) old lines new

-- A command that a line is read as: it begins, where it is one that there is by now; any other is a syntax
-- error, and the state stays.
pub data BeginsRead (tells : Bool) (c : CommandTree) (texts : List ℕ) (old : State) (lines : List ReplyLine) (new : State) : Type 0 where
  is_there : is_built c ≡ true → BeginsSo tells c texts old lines new → BeginsRead tells c texts old lines new
  is_not_there : is_built c ≡ false → lines ≡ syntax_error ∷ [] → new ≡ old → BeginsRead tells c texts old lines new

-- a turn of the command at work, with its end behind it where that says nothing; or the line at its end
abbrev pub ContinuesSo : Bool → State → List ReplyLine → State → Type 0
ContinuesSo tells old lines new = Continues (manner tells) old lines new

-- The step is one of the machine: whatever state the engine stood for, it stands for a state that the
-- machine reaches with these lines.
pub record Moves {E : Type 0} (Stands : E → State → Type 0) (old new : E) (Step : State → List ReplyLine → State → Type 0) (lines : List ReplyLine) : Type 0 where
  pub to : (before : State) → Stands old before → (after : State) × Stands new after × Step before lines after

-- the command at work, if there is one, is at work no longer: a cursor without a name is closed, and others
-- are as between two turns
pub record DropsCommand {E : Type 0} (Stands : E → State → Type 0) (old new : E) : Type 0 where
  pub to : (before : State) → Stands old before → Stands new (dropped before)
