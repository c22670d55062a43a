-- What contracts see of an engine, which is what it keeps: the space of its pages, and which state of
-- the plain machine it stands for.
use Rattle.std.specs.Prelude.{◌≡◌, ℕ, Bool, List}
use Rattle.hg_base.specs.Space.{Space}
use Rattle.hg_io.specs.declared.device.PageDevice.{Ghosts}
use Rattle.hg_machine.specs.Plain.Replies.{ReplyLine}
use Rattle.hg_machine.specs.Plain.State.{State}
use Rattle.hg_plan.specs.declared.plan.Plan.{Plan}
use Rattle.hg_pool.specs.Shown.{state_of, main_device, temp_device}
use Rattle.hg_reply.specs.Steps.{DeviceFacts, FullCounts, FullsLater, NoneFell, Says, FullOnlyWhereFull, Findings, TellOnlyFound, Moves}
use Rattle.hg_reply.specs.declared.reply.Reply.{Reply}
use Rattle.hg_engine.specs.Stepping.{TablesAre, faults_in, fulls_in, turns_in}
use Rattle.hg_engine.specs.declared.kept.Kept.{Kept}
use Rattle.hg_engine.specs.declared.tables.Tables.{Tables}

module _ {M T : Type 0} where
  -- the pages of an engine
  abbrev pub space_of : Ghosts M → Ghosts T → Kept M T → Space
  space_of m t e = state_of m t e.pool

  -- its devices
  abbrev pub main_of : Kept M T → M
  main_of e = main_device e.pool

  abbrev pub temp_of : Kept M T → T
  temp_of e = temp_device e.pool

  -- the engine stands for this state
  abbrev pub IsEngineOf : Ghosts M → Ghosts T → Kept M T → State → Type 0
  IsEngineOf m t e state = TablesAre (space_of m t e) e.tables state

  -- its devices tell what stands on their pages
  abbrev pub tells_of : Ghosts M → Ghosts T → Kept M T → Bool
  tells_of m t e = (space_of m t e).told

  abbrev pub faults_of : Ghosts M → Ghosts T → Kept M T → DeviceFacts
  faults_of m t e = faults_in (space_of m t e)

  -- how often all pages of a file were taken when one more was asked for
  abbrev pub fulls_of : Ghosts M → Ghosts T → Kept M T → FullCounts
  fulls_of m t e = fulls_in (space_of m t e)

  -- how many bytes its replies had
  abbrev pub said_by_engine : Kept M T → ℕ
  said_by_engine e = e.said

  -- no device was called, and no page was touched
  pub record IsStill (m : Ghosts M) (t : Ghosts T) (old new : Kept M T) : Type 0 where
    pub space : space_of m t new ≡ space_of m t old
    pub main : main_of new ≡ main_of old
    pub temp : temp_of new ≡ temp_of old

  -- the plan of the SELECT at work
  abbrev pub plan_of : Kept M T → Plan
  plan_of e = e.tables.open.plan

  -- a SELECT is at work
  abbrev pub is_pending : Kept M T → Bool
  is_pending e = e.tables.is_open

  abbrev pub turns_left : Kept M T → ℕ
  turns_left e = turns_in e.tables.is_open e.tables.open

  -- the most frames that its pool may have
  abbrev pub frames_of : Kept M T → ℕ
  frames_of e = e.tables.max

  -- some state stands for what an engine keeps
  abbrev pub IsSomeEngine : Ghosts M → Ghosts T → Kept M T → Type 0
  IsSomeEngine m t e = (state : State) × IsEngineOf m t e state

  -- one step of an engine: the lines that it says, the step of the machine that they are, and which
  -- damage they may tell of
  pub record EngineSteps (m : Ghosts M) (t : Ghosts T) (old new : Kept M T) (reply : Reply) (Step : State → List ReplyLine → State → Type 0) (found : Tables → Findings) : Type 0 where
    pub lines : List ReplyLine
    pub says : Says reply (faults_of m t old) (faults_of m t new) lines
    pub full : FullOnlyWhereFull (fulls_of m t old) (fulls_of m t new) lines
    pub moves : Moves (IsEngineOf m t) old new Step lines
    pub damage : TellOnlyFound (found new.tables) lines

-- no count falls, the devices have as many pages as before, and tell as before
pub record IsLater (a b : Space) : Type 0 where
  pub told : b.told ≡ a.told
  pub devices : NoneFell (faults_in a) (faults_in b)
  pub full : FullsLater (fulls_in a) (fulls_in b)
