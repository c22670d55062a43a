use Rattle.std.proofs.Common.{sym, ◌∙◌, ap, subst, inr, Ok}
use Rattle.hg_dml.specs.UpdateSteps.{Moves, FailsMove}
use Rattle.hg_dml.proofs.MakingLaws.{none-stands, made-some}
use Rattle.hg_dml.proofs.changing.change_one.Goals as goal

pub set_aside-requires-clause-some : goal.set_aside-requires-clause-some
set_aside-requires-clause-some g c =
    made-some c.args.change.now c.args.room.now.row c.look.new.room.made c.requires.change c.requires.some c.in-Ok-true.ensures.fits
    (c.in-Ok-true.ensures.made (ap Ok c.in-Ok-true.field-0-test) (none-stands c.look.new.causes (sym c.stand.ensures ∙ c.if-stand.false)).2)

pub returns-in-Ok-clause-ok : goal.returns-in-Ok-clause-ok
returns-in-Ok-clause-ok g c =
    let none = sym c.stand.ensures ∙ c.if-stand.false in
    let is = c.in-Ok-true.ensures.made (ap Ok c.in-Ok-true.field-0-test) (none-stands c.look.new.causes none).2 in
    record {
      goes = sym c.in-Ok-true.ensures.goes ∙ c.in-Ok-true.field-0-test;
      notes = c.in-Ok-true.ensures.notes (ap Ok c.in-Ok-true.field-0-test);
      done = inr (none, subst (Moves (g.S.Pages.state c.args.space.now) (g.S.Pages.state c.set_aside.new.space) c.args.table c.args.place c.args.stamp.0 c.args.run.now c.set_aside.new.run) is (c.in-Ok.ensures {u = tt}).ok);
    }

pub returns-in-Err-set_aside-clause-err : goal.returns-in-Err-set_aside-clause-err
returns-in-Err-set_aside-clause-err g c =
    let is = c.in-Ok-true.ensures.made (ap Ok c.in-Ok-true.field-0-test) (none-stands c.look.new.causes (sym c.stand.ensures ∙ c.if-stand.false)).2 in
    inr (record {
      concerned = record { fits = c.in-Ok-true.ensures.fits; passes = sym c.in-Ok-true.ensures.goes ∙ c.in-Ok-true.field-0-test };
      fails = subst (λ m. FailsMove (g.S.Pages.state c.args.space.now) (g.S.Pages.state c.set_aside.new.space) c.args.place c.args.run.now c.set_aside.new.run m c.in-Err-set_aside.fault) is
          (c.in-Err-set_aside.ensures {u = tt}).err;
    })
