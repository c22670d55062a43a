use Rattle.std.proofs.Common.{◌∙◌, ap}
use Rattle.hg_base.specs.Space.{key, with_next}
use Rattle.hg_pool.specs.Shown.{state_of}
use Rattle.std.proofs.Common.{subst}
use Rattle.hg_pool.specs.Shown.{clock_of, SameStockOf}
use Rattle.hg_pool.specs.declared.parts.Parts.{Parts}
use Rattle.hg_pool.specs.Shown.{SameFrames, OwesSame, counts_of_pool}
use Rattle.hg_pool.proofs.pool.Pool.link_out.Goals as goal

pub returns-clause-after : goal.returns-clause-after
returns-clause-after g c = c.set_next.ensures.after ∙ ap (λ s. with_next (state_of g.M.PageDevice g.T.PageDevice s) (key c.args.page) c.args.next) c.self.view_is

pub returns-clause-frames : goal.returns-clause-frames
returns-clause-frames g c =
    let P : Parts g.row.M.Denot g.row.T.Denot → Type 0 = λ s. SameFrames s c.set_next.new.self in
    subst P c.self.view_is c.set_next.ensures.frames

pub returns-clause-owing : goal.returns-clause-owing
returns-clause-owing g c =
    let P : Parts g.row.M.Denot g.row.T.Denot → Type 0 = λ s. OwesSame s c.set_next.new.self in
    subst P c.self.view_is c.set_next.ensures.owing

pub returns-clause-counts : goal.returns-clause-counts
returns-clause-counts g c = c.set_next.ensures.counts ∙ ap (λ s. counts_of_pool s) c.self.view_is

pub returns-clause-stock : goal.returns-clause-stock
returns-clause-stock g c =
    let P : Parts g.row.M.Denot g.row.T.Denot → Type 0 = λ s. SameStockOf s c.set_next.new.self in subst P c.self.view_is c.set_next.ensures.stock

pub returns-clause-clock : goal.returns-clause-clock
returns-clause-clock g c = c.set_next.ensures.clock ∙ ap (λ s. clock_of s) c.self.view_is
