use Rattle.std.proofs.Common.{◌∙◌, ap}
use Rattle.hg_base.specs.Space.{key, without_page}
use Rattle.hg_pool.specs.Shown.{state_of}
use Rattle.std.proofs.Common.{◌≡◌, true, false, subst}
use Rattle.hg_pool.specs.Clocking.{forgotten}
use Rattle.hg_pool.specs.Shown.{in_frame, frame_of, clock_of, SameStockOf}
use Rattle.hg_pool.specs.declared.parts.Parts.{Parts}
use Rattle.hg_pool.specs.Shown.{SameFramesBut, counts_of_pool}
use Rattle.hg_pool.proofs.pages.PoolPages.release.Goals as goal

pub returns-clause-after : goal.returns-clause-after
returns-clause-after g c = c.release.ensures.after ∙ ap (λ s. without_page (state_of g.M.PageDevice g.T.PageDevice s) (key c.args.page)) c.self.view_is

pub returns-clause-frames : goal.returns-clause-frames
returns-clause-frames g c =
    let P : Parts g.row.M.Denot g.row.T.Denot → Type 0 = λ s. SameFramesBut s c.release.new.self c.args.page in
    subst P c.self.view_is c.release.ensures.frames

pub returns-clause-counts : goal.returns-clause-counts
returns-clause-counts g c = c.release.ensures.counts ∙ ap (λ s. counts_of_pool s) c.self.view_is

pub returns-clause-forgets : goal.returns-clause-forgets
returns-clause-forgets g c =
    let P : Parts g.row.M.Denot g.row.T.Denot → Type 0 = λ s. in_frame s c.args.page ≡ true → clock_of c.release.new.self ≡ forgotten (clock_of s) (frame_of s c.args.page) in
    subst P c.self.view_is c.release.ensures.forgets

pub returns-clause-keeps_clock : goal.returns-clause-keeps_clock
returns-clause-keeps_clock g c =
    let P : Parts g.row.M.Denot g.row.T.Denot → Type 0 = λ s. in_frame s c.args.page ≡ false → clock_of c.release.new.self ≡ clock_of s in
    subst P c.self.view_is c.release.ensures.keeps_clock

pub returns-clause-stock : goal.returns-clause-stock
returns-clause-stock g c =
    let P : Parts g.row.M.Denot g.row.T.Denot → Type 0 = λ s. SameStockOf s c.release.new.self in subst P c.self.view_is c.release.ensures.stock
