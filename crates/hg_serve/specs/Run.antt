-- What counts as a run, and as one that stopped: for an engine that stands for some state, and for two
-- devices.
use Rattle.std.specs.Prelude.{◌&&◌, min, Bool, List}
use Rattle.hg_io.specs.declared.device.PageDevice.{Ghosts}
use Rattle.hg_machine.specs.Plain.Outcome.{Meaning}
use Rattle.hg_machine.specs.Plain.Replies.{ReplyLine}
use Rattle.hg_machine.specs.Plain.Run.{IsRun, RunsLines, StopsIn}
use Rattle.hg_machine.specs.Plain.State.{State, Sizes, first_state}
use Rattle.hg_model.specs.Script.{Line}
use Rattle.hg_reply.specs.Steps.{DeviceFacts, manner}

-- the machine answers these lines so, from this state to one that the engine stands for now
pub record Reaches {E : Type 0} (Stands : E → State → Type 0) (tells : Bool) (now : E) (first : State) (script : List Line) (lines : List ReplyLine) : Type 0 where
  pub last : State
  pub stands : Stands now last
  pub runs : RunsLines (manner tells) first script lines last

-- it stops in these lines, with a state that the engine stands for now
pub record StopsAt {E : Type 0} (Stands : E → State → Type 0) (tells : Bool) (now : E) (first : State) (script : List Line) (lines : List ReplyLine) : Type 0 where
  pub last : State
  pub stands : Stands now last
  pub runs : StopsIn (manner tells) first script lines last

-- a run from no table and no cursor that stops in these lines
pub record IsStopped (tells : Bool) (sizes : Sizes) (script : List Line) (lines : List ReplyLine) : Type 0 where
  pub last : State
  pub runs : StopsIn (manner tells) (first_state sizes) script lines last

module _ {M T : Type 0} where
  -- whether both devices tell what stands on their pages
  abbrev pub tell_over : Ghosts M → Ghosts T → M → T → Bool
  tell_over m t main temp = m.told main && t.told temp

  -- the sizes with which a run begins
  abbrev pub sizes_over : Ghosts M → Ghosts T → M → T → Sizes
  sizes_over m t main temp = record {
    max = 256;
    pool = 128;
    mpl = 4;
    main_pages = min (m.pages main) 65536;
    temp_pages = min (t.pages temp) 1048576;
  }

  -- a run from no table over two devices, and one that stopped
  abbrev pub RunOver : Ghosts M → Ghosts T → M → T → Meaning
  RunOver m t main temp = IsRun (manner (tell_over m t main temp)) (sizes_over m t main temp)

  abbrev pub StoppedOver : Ghosts M → Ghosts T → M → T → Meaning
  StoppedOver m t main temp = IsStopped (tell_over m t main temp) (sizes_over m t main temp)

  -- the devices' own counts of faults
  abbrev pub faults_over : Ghosts M → Ghosts T → M → T → DeviceFacts
  faults_over m t main temp = record { main = m.faults main; temp = t.faults temp; main_pages = m.pages main; temp_pages = t.pages temp }
