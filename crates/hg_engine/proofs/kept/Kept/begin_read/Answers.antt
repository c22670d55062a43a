use Rattle.std.proofs.Common.{[], ◌∷◌, refl, sym}
use Rattle.hg_base.specs.SteadyLaws.{Later_same}
use Rattle.hg_machine.specs.Plain.Refused.{syntax_error}
use Rattle.hg_reply.specs.Steps.{is_there, is_not_there}
use Rattle.hg_engine.specs.Shown.{space_of}
use Rattle.hg_engine.proofs.Saying.{IsQuiet, tells-one, counted-plain, sound-line}
use Rattle.hg_engine.proofs.kept.Kept.begin_read.Goals as goal

pub returns-then-not-built-clause-step : goal.returns-then-not-built-clause-step
returns-then-not-built-clause-step g c =
    let a = space_of g.M.PageDevice g.T.PageDevice c.args.self.now in
    let quiet : IsQuiet syntax_error = record { main = refl; temp = refl; main_full = refl; temp_full = refl } in
    let counted = counted-plain a a syntax_error (Later_same a.counts) quiet in
    record {
      lines = syntax_error ∷ [];
      says = record {
        said = tells-one c.clear.new.self c.say.new.self syntax_error c.clear.ensures.text c.clear.ensures.errors c.say.ensures.text c.say.ensures.errors;
        counted = counted.devices;
      };
      full = counted.full;
      moves = record { to = λ before st. (before, st, is_not_there (sym (c.if-not-built.ensures {u = tt})) refl refl) };
      damage = sound-line _ syntax_error refl;
    }

pub returns-clause-step : goal.returns-clause-step
returns-clause-step g c =
    let step = c.begin.ensures.step in record {
      lines = step.lines;
      says = step.says;
      full = step.full;
      moves = record { to = λ before st. let there = step.moves.to before st in (there.0, there.1, is_there (sym (c.if-not-built.ensures {u = tt})) there.2) };
      damage = step.damage;
    }
