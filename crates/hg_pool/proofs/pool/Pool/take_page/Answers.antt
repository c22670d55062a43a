use Rattle.std.proofs.Common.{subst, IfOk, OnErr}
use Rattle.hg_base.specs.Space.{IsSame, key}
use Rattle.hg_pool.specs.Lending.{IsHandedOut, KeepsOut, bytes_in}
use Rattle.hg_pool.specs.Shown.{state_of}
use Rattle.hg_pool.specs.declared.parts.Parts.{Parts}
use Rattle.hg_pool.proofs.pool.Pool.take_page.Goals as goal

pub returns-clause-ok : goal.returns-clause-ok
returns-clause-ok g c =
    let P : Parts g.row.M.Denot g.row.T.Denot → Type 0 = λ s. IfOk c.take_page.result (λ chain. IsHandedOut (state_of g.M.PageDevice g.T.PageDevice s) (state_of g.M.PageDevice g.T.PageDevice c.take_page.new.self) (key c.args.page) (bytes_in c.take_page.new.self c.args.page chain)) in
    subst P c.self.view_is c.take_page.ensures.ok

pub returns-clause-err : goal.returns-clause-err
returns-clause-err g c =
    let P : Parts g.row.M.Denot g.row.T.Denot → Type 0 = λ s. OnErr c.take_page.result (IsSame (state_of g.M.PageDevice g.T.PageDevice s) (state_of g.M.PageDevice g.T.PageDevice c.take_page.new.self)) in
    subst P c.self.view_is c.take_page.ensures.err

pub returns-clause-keeps_out : goal.returns-clause-keeps_out
returns-clause-keeps_out g c =
    let P : Parts g.row.M.Denot g.row.T.Denot → Type 0 = λ s. KeepsOut g.M.PageDevice g.T.PageDevice s c.take_page.new.self in
    subst P c.self.view_is c.take_page.ensures.keeps_out
