use Rattle.std.proofs.Common.{◌∙◌, ap}
use Rattle.hg_base.specs.Space.{key, without_pin}
use Rattle.hg_pool.specs.Clocking.{back}
use Rattle.hg_pool.specs.Shown.{state_of, clock_of, frame_of, SameStockOf}
use Rattle.std.proofs.Common.{subst}
use Rattle.hg_pool.specs.declared.parts.Parts.{Parts}
use Rattle.hg_pool.specs.Shown.{SameFrames, OwesSame, counts_of_pool}
use Rattle.hg_pool.proofs.pages.PoolPages.unpin.Goals as goal

pub returns-clause-after : goal.returns-clause-after
returns-clause-after g c = c.unpin.ensures.after ∙ ap (λ s. without_pin (state_of g.M.PageDevice g.T.PageDevice s) (key c.args.pin.page)) c.self.view_is

pub returns-clause-frames : goal.returns-clause-frames
returns-clause-frames g c =
    let P : Parts g.row.M.Denot g.row.T.Denot → Type 0 = λ s. SameFrames s c.unpin.new.self in
    subst P c.self.view_is c.unpin.ensures.frames

pub returns-clause-owing : goal.returns-clause-owing
returns-clause-owing g c =
    let P : Parts g.row.M.Denot g.row.T.Denot → Type 0 = λ s. OwesSame s c.unpin.new.self in
    subst P c.self.view_is c.unpin.ensures.owing

pub returns-clause-counts : goal.returns-clause-counts
returns-clause-counts g c = c.unpin.ensures.counts ∙ ap (λ s. counts_of_pool s) c.self.view_is

pub returns-clause-clock : goal.returns-clause-clock
returns-clause-clock g c = c.unpin.ensures.clock ∙ ap (λ s. back (clock_of s) (frame_of s c.args.pin.page)) c.self.view_is

pub returns-clause-stock : goal.returns-clause-stock
returns-clause-stock g c =
    let P : Parts g.row.M.Denot g.row.T.Denot → Type 0 = λ s. SameStockOf s c.unpin.new.self in subst P c.self.view_is c.unpin.ensures.stock
