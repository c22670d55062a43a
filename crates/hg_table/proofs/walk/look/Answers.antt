use Rattle.std.specs.Prelude.{IfErr}
use Rattle.std.proofs.Common.{sym, subst}
use Rattle.std.proofs.lemmas.Result.{err_from_is_err_and}
use Rattle.hg_base.specs.Space.{Space}
use Rattle.hg_table.specs.Calls.{LookFault, IsPageCheck}
use Rattle.hg_table.proofs.Walking.{known_open, page_check}
use Rattle.hg_table.proofs.walk.look.Goals as goal

pub returns-in_err-pin-clause-known : goal.returns-in_err-pin-clause-known
returns-in_err-pin-clause-known g c = λ free.
    let p = err_from_is_err_and c.from_residual.result c.from_residual.ensures.1 in
    subst (λ r. IfErr r (LookFault IsPageCheck)) (sym p.1)
    (subst (LookFault IsPageCheck) (sym p.2)
    (known_open (g.S.Pages.state c.args.space.now) c.args.no _ _ c.in_err-pin.ensures.fault c.in_err-pin.ensures.page c.in_err-pin.ensures.barred free))

pub returns-in-Err-clause-known : goal.returns-in-Err-clause-known
returns-in-Err-clause-known g c = λ free.
    subst (LookFault IsPageCheck) (sym c.damaged.ensures) (page_check c.bytes.result.now c.in-Err.check c.in-Err.ensures.wrong)
