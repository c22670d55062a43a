-- Which lines a device or a full file may bring, and what a command may take of the plain counts. Our own
-- rule: the fault of a device may come at any moment of a command that may call one; a file is full only
-- where the pages taken, with those that are needed at most, pass its limit.
use Rattle.std.specs.Prelude.{◌≡◌, ℕ, ◌+◌, ◌≤◌, ◌<◌, Bool, true, false, List, []}
use Rattle.hg_base.specs.declared.File.{File}
use Rattle.hg_base.specs.declared.File.TheVariants as file
use Rattle.hg_machine.specs.Plain.Replies.{ReplyLine, device_fault, file_full}
use Rattle.hg_machine.specs.Plain.State.{State, versions_of, versions_set, open_needs}
use Rattle.hg_model.specs.CommandNeeds.{PageNeed}

-- of which files a command may ask for pages
pub record Asks : Type 0 where
  pub main : Bool
  pub temp : Bool

abbrev pub both_files : Asks
both_files = record { main = true; temp = true }

abbrev pub main_alone : Asks
main_alone = record { main = true; temp = false }

abbrev pub temp_alone : Asks
temp_alone = record { main = false; temp = true }

abbrev pub no_file : Asks
no_file = record { main = false; temp = false }

-- the temporary pages that may be taken beside those of a command
abbrev pub temp_taken : State → ℕ
temp_taken s = s.over + open_needs s

pub data Licensed (s : State) (asks : Asks) (need : PageNeed) (line : ReplyLine) : Type 0 where
  device_failed : (f : File) → line ≡ device_fault f → Licensed s asks need line
  main_is_full : asks.main ≡ true → s.main_limit < s.used + need.main → line ≡ file_full file.Main → Licensed s asks need line
  temp_is_full : asks.temp ≡ true → s.temp_limit < temp_taken s + need.temp → line ≡ file_full file.Temp → Licensed s asks need line

-- what a command may take at most: pages of the main file, temporary pages that it leaves behind, versions
-- of its table, and the stamps that it uses; VACUUM may lower all three counts besides
pub record Allowance : Type 0 where
  pub main : ℕ
  pub temp : ℕ
  pub versions : ℕ
  pub stamps : ℕ
  pub lowers : Bool

-- a count after a command: at most so much more, and no less but where it may be lowered
pub record Within (lowers : Bool) (before now more : ℕ) : Type 0 where
  pub not_less : lowers ≡ false → before ≤ now
  pub few : now ≤ before + more

-- a count of pages stays within the limit of its file, where it was so before
abbrev pub StaysWithin : (before now limit : ℕ) → Type 0
StaysWithin before now limit = before ≤ limit → now ≤ limit

-- The state is as before but for these counts: the main pages taken, the temporary pages left behind, the
-- versions of the command's table, the stamps.
pub record Spends (allowed : Allowance) (table : List ℕ) (old new : State) : Type 0 where
  pub used : ℕ
  pub over : ℕ
  pub versions : ℕ
  pub main : Within allowed.lowers old.used used allowed.main
  pub temp : Within allowed.lowers old.over over allowed.temp
  pub rows : Within allowed.lowers (versions_of old table) versions allowed.versions
  pub main_fits : StaysWithin old.used used old.main_limit
  pub temp_fits : StaysWithin old.over over old.temp_limit
  pub after : new ≡ record old { tables = versions_set old.tables table versions; used = used; over = over; stamps = old.stamps + allowed.stamps }

-- the name of no table
abbrev pub no_table : List ℕ
no_table = []
