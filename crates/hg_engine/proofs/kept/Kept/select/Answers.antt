use Rattle.hg_engine.proofs.kept.Kept.select.Goals as goal

pub returns-clause-step : goal.returns-clause-step
returns-clause-step g c =
    let step = c.select.ensures.step in
    record {
      lines = step.0;
      says = record { said = step.1; counted = step.2.devices };
      full = step.2.full;
      moves = record { to = (step.3).to };
      damage = step.4;
    }
