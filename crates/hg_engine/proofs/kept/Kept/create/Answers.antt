use Rattle.hg_engine.specs.Shown.{space_of}
use Rattle.hg_engine.proofs.ReadLaws.{columns-some}
use Rattle.hg_engine.proofs.kept.Kept.create.Goals as goal

pub create_table-requires-clause-some_columns : goal.create_table-requires-clause-some_columns
create_table-requires-clause-some_columns g c = columns-some _ _ c.requires.read.0 c.requires.read.1

pub returns-clause-step : goal.returns-clause-step
returns-clause-step g c texts =
    let a = space_of g.M.PageDevice g.T.PageDevice c.args.self.now in
    let step = c.create_table.ensures.step in
    record {
      lines = step.0;
      says = record { said = step.1; counted = (step.2 a).devices };
      full = (step.2 a).full;
      moves = record { to = (step.3 a texts).to };
      damage = step.4;
    }
