use Rattle.std.proofs.Common.{◌≡◌, subst}
use Rattle.hg_base.specs.Space.{key}
use Rattle.hg_pool.specs.Lending.{put_back, bytes_in}
use Rattle.hg_pool.specs.Shown.{state_of}
use Rattle.hg_pool.specs.declared.parts.Parts.{Parts}
use Rattle.hg_pool.proofs.pool.Pool.put_page.Goals as goal

pub returns-clause-after : goal.returns-clause-after
returns-clause-after g c =
    let P : Parts g.row.M.Denot g.row.T.Denot → Type 0 = λ s. state_of g.M.PageDevice g.T.PageDevice c.put_page.new.self ≡ put_back (state_of g.M.PageDevice g.T.PageDevice s) (key c.args.page) (bytes_in s c.args.page c.args.chain) in
    subst P c.self.view_is c.put_page.ensures.after
