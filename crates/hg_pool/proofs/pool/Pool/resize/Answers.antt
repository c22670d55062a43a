use Rattle.std.proofs.Common.{◌≡◌, subst, OnOk, OnErr}
use Rattle.hg_base.specs.Space.{IsSame}
use Rattle.hg_pool.specs.Resizing.{with_current}
use Rattle.hg_pool.specs.Shown.{state_of}
use Rattle.hg_pool.specs.declared.parts.Parts.{Parts}
use Rattle.hg_pool.proofs.pool.Pool.resize.Goals as goal

pub returns-clause-ok : goal.returns-clause-ok
returns-clause-ok g c =
    let P : Parts g.row.M.Denot g.row.T.Denot → Type 0 = λ s. OnOk c.resize.result (state_of g.M.PageDevice g.T.PageDevice c.resize.new.self ≡ with_current (state_of g.M.PageDevice g.T.PageDevice s) c.args.n) in
    subst P c.self.view_is c.resize.ensures.ok

pub returns-clause-err : goal.returns-clause-err
returns-clause-err g c =
    let P : Parts g.row.M.Denot g.row.T.Denot → Type 0 = λ s. OnErr c.resize.result (IsSame (state_of g.M.PageDevice g.T.PageDevice s) (state_of g.M.PageDevice g.T.PageDevice c.resize.new.self)) in
    subst P c.self.view_is c.resize.ensures.err
