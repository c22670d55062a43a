use Rattle.std.proofs.Common.{sym, subst}
use Rattle.hg_pool.specs.Disks.{disks_in}
use Rattle.hg_pool.specs.Resizing.{NoneOut}
use Rattle.hg_pool.specs.Shown.{state_of}
use Rattle.hg_pool.specs.declared.parts.Parts.{Parts}
use Rattle.hg_pool.proofs.Resized.{none-out}
use Rattle.hg_pool.proofs.pool.Pool.close.Goals as goal

pub close-requires : goal.close-requires
close-requires g c =
    let v : Parts g.row.M.Denot g.row.T.Denot = c.self.inside.parts in
    let P : Parts g.row.M.Denot g.row.T.Denot → Type 0 = λ s. NoneOut (state_of g.M.PageDevice g.T.PageDevice s) in
    none-out (disks_in g.M.PageDevice g.T.PageDevice v.devices) v.store c.self.invariant (subst P (sym c.self.view_is) c.requires)
