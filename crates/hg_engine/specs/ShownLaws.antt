-- A SELECT is at work in an engine exactly where a command is at work in the state that it stands for; and
-- it may have as many frames.
use Rattle.std.specs.Prelude.{◌≡◌, Bool, true, false, is_some}
use Rattle.std.proofs.Common.{sym, ◌∙◌, ap, refl}
use Rattle.hg_io.specs.declared.device.PageDevice.{Ghosts}
use Rattle.hg_machine.specs.Plain.Run.{is_pending as is_working}
use Rattle.hg_machine.specs.Plain.State.{State}
use Rattle.hg_engine.specs.Standing.{task_at}
use Rattle.hg_engine.specs.Shown.{IsEngineOf, is_pending, frames_of}
use Rattle.hg_engine.specs.declared.kept.Kept.{Kept}
use Rattle.hg_engine.specs.Stepping.{work_in}
use Rattle.hg_engine.specs.declared.open.OpenSelect.{OpenSelect}

pends-work : (b : Bool) (w : OpenSelect) → b ≡ is_some (task_at (work_in b w))
pends-work true w = refl
pends-work false w = refl

pub pends_of : {M T : Type 0} (m : Ghosts M) (t : Ghosts T) (e : Kept M T) (s : State) → IsEngineOf m t e s → is_pending e ≡ is_working s
pends_of m t e s st = pends-work e.tables.is_open e.tables.open ∙ sym (ap is_working st.is)

pub framed_of : {M T : Type 0} (m : Ghosts M) (t : Ghosts T) (e : Kept M T) (s : State) → IsEngineOf m t e s → s.max ≡ frames_of e
framed_of m t e s st = ap (λ (x : State). x.max) st.is
