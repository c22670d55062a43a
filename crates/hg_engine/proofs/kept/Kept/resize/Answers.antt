use Rattle.std.proofs.Common.{[], ◌∷◌, ◌∙◌, ◌||◌, ap, sym, refl}
use Rattle.hg_machine.specs.Plain.Replies.{pool_set}
use Rattle.hg_pool.specs.Shown.{state_of}
use Rattle.hg_table.specs.Calls.{none_mine}
use Rattle.hg_engine.specs.Shown.{space_of}
use Rattle.hg_engine.specs.Stepping.{line_of}
use Rattle.hg_engine.proofs.EngineSteps.{is-later}
use Rattle.hg_engine.proofs.PoolLaws.{pool-made, pool-failed, pool-cause, still, reserved, resized-same}
use Rattle.hg_engine.proofs.Saying.{tells-one, counted-plain, look-counted, error-of-fault, sound-line, pin-sound, same-space}
use Rattle.hg_engine.proofs.kept.Kept.resize.Goals as goal

pub resize-requires-clause-none_out : goal.resize-requires-clause-none_out
resize-requires-clause-none_out g c = let st = c.requires.stands.1 in record { no_pins = st.pins; none_lent = st.none_lent }

pub resize-requires-clause-reserved : goal.resize-requires-clause-reserved
resize-requires-clause-reserved g c =
    reserved (space_of g.M.PageDevice g.T.PageDevice c.args.self.now) c.args.self.now.tables c.args.frames c.requires.stands.0 c.requires.stands.1 c.requires.at_most

pub returns-in-Ok-clause-step : goal.returns-in-Ok-clause-step
returns-in-Ok-clause-step g c texts =
    let a = space_of g.M.PageDevice g.T.PageDevice c.args.self.now in
    let b = state_of g.M.PageDevice g.T.PageDevice c.resize.new.self in
    let line = pool_set c.args.frames in
    let idle = c.requires.idle in
    let counts = counted-plain a b line c.resize.ensures.cause.later (record { main = refl; temp = refl; main_full = refl; temp_full = refl }) in
    record {
      lines = line ∷ [];
      says = record { said = tells-one c.clear.new.self c.say.new.self line c.clear.ensures.text c.clear.ensures.errors c.say.ensures.text c.say.ensures.errors; counted = counts.devices };
      full = counts.full;
      moves = record { to = (pool-made a c.args.self.now.tables c.args.frames texts idle b (c.in-Ok.ensures {u = tt}).ok).to };
      damage = sound-line _ line refl;
    }

pub returns-in-Ok-clause-later : goal.returns-in-Ok-clause-later
returns-in-Ok-clause-later g c =
    let a = space_of g.M.PageDevice g.T.PageDevice c.args.self.now in
    let b = state_of g.M.PageDevice g.T.PageDevice c.resize.new.self in
    is-later a b (resized-same a b c.args.frames (c.in-Ok.ensures {u = tt}).ok c.requires.stands.1.pins c.resize.ensures.cause.later)

pub returns-in-Err-clause-step : goal.returns-in-Err-clause-step
returns-in-Err-clause-step g c texts =
    let a = space_of g.M.PageDevice g.T.PageDevice c.args.self.now in
    let b = state_of g.M.PageDevice g.T.PageDevice c.resize.new.self in
    let f = c.in-Err.fault in
    let failed = c.in-Err.ensures {u = tt} in
    let idle = c.requires.idle in
    let same = still a b c.requires.stands.1.pins failed.err c.resize.ensures.cause.later in
    let counts = look-counted a b f c.resize.ensures.cause.later (pool-cause a b f failed.fault failed.cause) in
    record {
      lines = line_of f ∷ [];
      says = record {
        said = tells-one c.clear.new.self c.say_fault.new.reply (line_of f) c.clear.ensures.text c.clear.ensures.errors c.say_fault.ensures.text
            (c.say_fault.ensures.errors ∙ ap (λ b. c.clear.new.self.has_error || b) (sym (error-of-fault f)));
        counted = counts.devices;
      };
      full = counts.full;
      moves = record { to = (pool-failed a c.args.self.now.tables c.args.frames texts idle b f same.0 same.1 failed.fault).to };
      damage = pin-sound _ f failed.fault;
    }

pub returns-in-Err-clause-later : goal.returns-in-Err-clause-later
returns-in-Err-clause-later g c =
    let a = space_of g.M.PageDevice g.T.PageDevice c.args.self.now in
    let b = state_of g.M.PageDevice g.T.PageDevice c.resize.new.self in
    let same = still a b c.requires.stands.1.pins (c.in-Err.ensures {u = tt}).err c.resize.ensures.cause.later in
    is-later a b (same-space none_mine a b same.0)
