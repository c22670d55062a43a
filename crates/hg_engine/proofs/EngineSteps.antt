-- Steps of what an engine keeps.
use Rattle.std.specs.Prelude.{◌≡◌, List}
use Rattle.std.proofs.Common.{ap, sym, subst}
use Rattle.hg_base.specs.declared.File.TheVariants.{Main, Temp}
use Rattle.hg_base.specs.Space.{Space}
use Rattle.hg_machine.specs.Plain.Replies.{ReplyLine}
use Rattle.hg_machine.specs.Plain.State.{State}
use Rattle.hg_model.specs.Statements.{CommandTree, CreateTable, CreateIndex, InsertRows, UpdateRows, DeleteRows, Vacuum, SelectRows, OpenCursor, Start, Work, Fetch, Close, Pool, Mpl, ShowMemory}
use Rattle.hg_pool.specs.Shown.{state_of, main_device, temp_device}
use Rattle.hg_reply.specs.Steps.{Findings}
use Rattle.hg_reply.specs.declared.reply.Reply.{Reply}
use Rattle.hg_io.specs.declared.device.PageDevice.{Ghosts}
use Rattle.hg_engine.specs.declared.kept.Kept.{Kept}
use Rattle.hg_engine.specs.declared.tables.Tables.{Tables}
use Rattle.hg_engine.specs.Shown.{IsLater, IsStill, EngineSteps}
use Rattle.hg_engine.specs.Stepping.{IsSameSpace, StillWhere}

pub is-later : (a b : Space) → IsSameSpace a b → IsLater a b
is-later a b same = record {
  told = same.told;
  devices = record {
    main = same.later.main_device;
    temp = same.later.temp_device;
    main_pages = ap (λ l. l Main) same.device_limit;
    temp_pages = ap (λ l. l Temp) same.device_limit;
  };
  full = record { main = same.later.main_full; temp = same.later.temp_full };
}

-- that bytes were counted makes no difference
pub counted-steps : {M T : Type 0} (m : Ghosts M) (t : Ghosts T) (old mid new : Kept M T) (reply : Reply) (Step : State → List ReplyLine → State → Type 0) (found : Tables → Findings)
    → EngineSteps m t old mid reply Step found → new.tables ≡ mid.tables → new.pool ≡ mid.pool → EngineSteps m t old new reply Step found
counted-steps {M = M} {T = T} m t old mid new reply Step found steps tables pool =
    let counted : Kept M T = record { tables = mid.tables; pool = mid.pool; said = new.said } in
    let same : counted ≡ new = λ i. record { tables = sym tables i; pool = sym pool i; said = new.said } in
    subst (λ e. EngineSteps m t old e reply Step found) same (record {
      lines = steps.lines;
      says = steps.says;
      full = steps.full;
      moves = record { to = λ before st. let there = steps.moves.to before st in (there.0, there.1, there.2) };
      damage = steps.damage;
    })

-- the same pool is the same space over the same devices
pub is-still : {M T : Type 0} (m : Ghosts M) (t : Ghosts T) (old new : Kept M T) → new.pool ≡ old.pool → IsStill m t old new
is-still m t old new same = record { space = ap (state_of m t) same; main = ap (λ p. main_device p) same; temp = ap (λ p. temp_device p) same }

pub still-where : (c : CommandTree) (P Q : Type 0) → (P → Q) → StillWhere c P → StillWhere c Q
still-where (CreateTable t) P Q f h = f h
still-where (CreateIndex i) P Q f h = tt
still-where (InsertRows i) P Q f h = tt
still-where (UpdateRows u) P Q f h = tt
still-where (DeleteRows d) P Q f h = tt
still-where (Vacuum t) P Q f h = tt
still-where (SelectRows q) P Q f h = f h
still-where (OpenCursor n q) P Q f h = tt
still-where (Start n k) P Q f h = tt
still-where (Work k) P Q f h = tt
still-where (Fetch n k) P Q f h = tt
still-where (Close n) P Q f h = tt
still-where (Pool k) P Q f h = tt
still-where (Mpl k) P Q f h = tt
still-where ShowMemory P Q f h = tt
