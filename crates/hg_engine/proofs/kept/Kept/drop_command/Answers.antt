use Rattle.std.proofs.Common.{refl, false}
use Rattle.hg_engine.specs.Shown.{space_of}
use Rattle.hg_engine.proofs.PoolLaws.{drops}
use Rattle.hg_engine.proofs.kept.Kept.drop_command.Goals as goal

pub returns-clause-drops : goal.returns-clause-drops
returns-clause-drops g c = record {
  to = λ before st. drops (space_of g.M.PageDevice g.T.PageDevice c.args.self.now) c.args.self.now.tables (record c.args.self.now.tables { is_open = false }) refl refl refl refl refl before st;
}
