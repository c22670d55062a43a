use Rattle.std.proofs.Common.{subst, sym, IsTrue}
use Rattle.std.specs.List.{list_all}
use Rattle.hg_model.specs.Statements.{InsertRows}
use Rattle.hg_model.specs.Value.{is_printable}
use Rattle.hg_reply.specs.Asked.{insert_at}
use Rattle.hg_reply.specs.Steps.{BeginsSo}
use Rattle.hg_engine.specs.Shown.{tells_of}
use Rattle.hg_pool.specs.Shown.{state_of}
use Rattle.hg_engine.proofs.EngineSteps.{is-later}
use Rattle.hg_engine.proofs.ReadLaws.{texts-shown}
use Rattle.hg_engine.proofs.kept.Kept.insert.Goals as goal

pub returns-clause-later : goal.returns-clause-later
returns-clause-later g c =
    is-later (state_of g.M.PageDevice g.T.PageDevice c.args.self.now.pool) (state_of g.M.PageDevice g.T.PageDevice c.insert.new.space) c.insert.ensures.same

pub insert-requires-clause-printable : goal.insert-requires-clause-printable
insert-requires-clause-printable g c =
    subst (λ t. IsTrue (list_all is_printable t)) (sym c.as_bytes.ensures.value) (texts-shown _ _ c.args.texts.now c.requires.read)

pub returns-clause-step : goal.returns-clause-step
returns-clause-step g c =
    let s = c.insert.ensures.step in
    record {
      lines = s.0;
      says = record { said = s.1; counted = s.2.devices };
      full = s.2.full;
      moves = record {
        to = λ before st.
            let there = s.3.to before st in (
              there.0,
              there.1,
              subst (λ t. BeginsSo (tells_of g.M.PageDevice g.T.PageDevice c.args.self.now) (InsertRows (insert_at c.args.insert.now)) t before s.0 there.0) c.as_bytes.ensures.value there.2,
            );
      };
      damage = s.4;
    }
