use Rattle.std.proofs.Common.{◌≡◌, sym, subst, true, false, OnErr, Result}
use Rattle.std.proofs.lemmas.Result.{err_from_is_err_and}
use Rattle.hg_base.specs.Space.{key, IsSame, IsPinned}
use Rattle.hg_base.specs.declared.pages.PageFault.{PageFault}
use Rattle.hg_pool.specs.Clocking.{ComesIn, used}
use Rattle.hg_pool.specs.Shown.{state_of, in_frame, frame_of, clock_of, current_of, SameStockOf}
use Rattle.hg_pool.specs.declared.parts.Parts.{Parts}
use Rattle.hg_pool.specs.declared.pages.PoolPin.{PoolPin}
use Rattle.std.proofs.Common.{◌<◌, ◌-◌, ◌^◌, ap}
use Rattle.hg_pool.specs.Shown.{page_in, counts_of_pool, SameFrames, KeepsFrames, owed, OwesSame}
use Rattle.std.proofs.Common.{None}
use Rattle.hg_pool.specs.Work.{evicted}
use Rattle.hg_pool.specs.Lending.{KeepsOut}
use Rattle.hg_pool.proofs.pages.PoolPages.pin.Goals as goal

pub returns-in_err-pin-clause-err : goal.returns-in_err-pin-clause-err
returns-in_err-pin-clause-err g c =
    let p = err_from_is_err_and c.from_residual.result c.from_residual.ensures.1 in
    let P : Parts g.row.M.Denot g.row.T.Denot → Type 0 = λ s. IsSame (state_of g.M.PageDevice g.T.PageDevice s) (state_of g.M.PageDevice g.T.PageDevice c.pin.new.self) in
    let Q : Result PoolPin PageFault → Type 0 = λ r. OnErr r (P c.args.self.now) in
    subst Q (sym p.1) (subst P c.self.view_is c.in_err-pin.ensures.err)

pub returns-clause-ok : goal.returns-clause-ok
returns-clause-ok g c =
    let P : Parts g.row.M.Denot g.row.T.Denot → Type 0 = λ s. IsPinned (state_of g.M.PageDevice g.T.PageDevice s) (state_of g.M.PageDevice g.T.PageDevice c.pin.new.self) (key c.args.page) in
    subst P c.self.view_is c.in_ok-pin.ensures.ok

pub returns-clause-keeps_frames : goal.returns-clause-keeps_frames
returns-clause-keeps_frames g c =
    let P : Parts g.row.M.Denot g.row.T.Denot → Type 0 = λ s. KeepsFrames s c.pin.new.self c.args.page (frame_of c.pin.new.self c.args.page) in
    subst P c.self.view_is c.in_ok-pin.ensures.keeps_frames

pub returns-clause-same_frames : goal.returns-clause-same_frames
returns-clause-same_frames g c =
    let P : Parts g.row.M.Denot g.row.T.Denot → Type 0 = λ s. in_frame s c.args.page ≡ true → SameFrames s c.pin.new.self in
    subst P c.self.view_is c.in_ok-pin.ensures.same_frames

pub returns-in_err-pin-clause-same_frames : goal.returns-in_err-pin-clause-same_frames
returns-in_err-pin-clause-same_frames g c =
    let P : Parts g.row.M.Denot g.row.T.Denot → Type 0 = λ s. in_frame s c.args.page ≡ true → SameFrames s c.pin.new.self in
    subst P c.self.view_is c.in_err-pin.ensures.same_frames

pub returns-clause-owing : goal.returns-clause-owing
returns-clause-owing g c =
    let P : Parts g.row.M.Denot g.row.T.Denot → Type 0 = λ s. in_frame s c.args.page ≡ true → OwesSame s c.pin.new.self in
    subst P c.self.view_is c.in_ok-pin.ensures.owing

pub returns-in_err-pin-clause-owing : goal.returns-in_err-pin-clause-owing
returns-in_err-pin-clause-owing g c =
    let P : Parts g.row.M.Denot g.row.T.Denot → Type 0 = λ s. in_frame s c.args.page ≡ true → OwesSame s c.pin.new.self in
    subst P c.self.view_is c.in_err-pin.ensures.owing

pub returns-clause-clean : goal.returns-clause-clean
returns-clause-clean g c =
    let P : Parts g.row.M.Denot g.row.T.Denot → Type 0 = λ s. in_frame s c.args.page ≡ false → owed c.pin.new.self (frame_of c.pin.new.self c.args.page) ≡ None in
    subst P c.self.view_is c.in_ok-pin.ensures.clean

pub returns-clause-keeps_counts : goal.returns-clause-keeps_counts
returns-clause-keeps_counts g c =
    let P : Parts g.row.M.Denot g.row.T.Denot → Type 0 = λ s. in_frame s c.args.page ≡ true → counts_of_pool c.pin.new.self ≡ counts_of_pool s in
    subst P c.self.view_is c.in_ok-pin.ensures.keeps_counts

pub returns-in_err-pin-clause-keeps_counts : goal.returns-in_err-pin-clause-keeps_counts
returns-in_err-pin-clause-keeps_counts g c =
    let P : Parts g.row.M.Denot g.row.T.Denot → Type 0 = λ s. in_frame s c.args.page ≡ true → counts_of_pool c.pin.new.self ≡ counts_of_pool s in
    subst P c.self.view_is c.in_err-pin.ensures.keeps_counts

pub returns-clause-evicts : goal.returns-clause-evicts
returns-clause-evicts g c =
    let P : Parts g.row.M.Denot g.row.T.Denot → Type 0 = λ s. in_frame s c.args.page ≡ false → (counts_of_pool c.pin.new.self).evictions ≡ evicted (page_in s (frame_of c.pin.new.self c.args.page)) (counts_of_pool s).evictions in
    subst P c.self.view_is c.in_ok-pin.ensures.evicts

pub returns-clause-uncounted : goal.returns-clause-uncounted
returns-clause-uncounted g c =
    let new : Parts g.row.M.Denot g.row.T.Denot = c.pin.new.self in
    let P : Parts g.row.M.Denot g.row.T.Denot → Type 0 = λ s. counts_of_pool new ≡ counts_of_pool s → (counts_of_pool s).reads < 2 ^ 64 - 1
    → (counts_of_pool s).writes < 2 ^ 64 - 1 → new.devices ≡ s.devices in
    λ same reads writes. let devices = subst P c.self.view_is c.in_ok-pin.ensures.uncounted same reads writes in record {
      main = ap (λ d. d.main) devices;
      temp = ap (λ d. d.temp) devices;
    }

pub returns-in_err-pin-clause-uncounted : goal.returns-in_err-pin-clause-uncounted
returns-in_err-pin-clause-uncounted g c =
    let new : Parts g.row.M.Denot g.row.T.Denot = c.pin.new.self in
    let P : Parts g.row.M.Denot g.row.T.Denot → Type 0 = λ s. counts_of_pool new ≡ counts_of_pool s → (counts_of_pool s).reads < 2 ^ 64 - 1
    → (counts_of_pool s).writes < 2 ^ 64 - 1 → new.devices ≡ s.devices in
    λ same reads writes. let devices = subst P c.self.view_is c.in_err-pin.ensures.uncounted same reads writes in record {
      main = ap (λ d. d.main) devices;
      temp = ap (λ d. d.temp) devices;
    }

pub returns-clause-used : goal.returns-clause-used
returns-clause-used g c =
    let page = c.args.page in
    let P : Parts g.row.M.Denot g.row.T.Denot → Type 0 = λ s. in_frame s page ≡ true → clock_of c.pin.new.self ≡ used (clock_of s) (frame_of s page) in
    subst P c.self.view_is c.in_ok-pin.ensures.used

pub returns-clause-comes : goal.returns-clause-comes
returns-clause-comes g c =
    let page = c.args.page in
    let P : Parts g.row.M.Denot g.row.T.Denot → Type 0 = λ s. in_frame s page ≡ false → ComesIn (current_of s) (clock_of s) (clock_of c.pin.new.self) (frame_of c.pin.new.self page) in
    subst P c.self.view_is c.in_ok-pin.ensures.comes

pub returns-clause-stock : goal.returns-clause-stock
returns-clause-stock g c =
    let P : Parts g.row.M.Denot g.row.T.Denot → Type 0 = λ s. SameStockOf s c.pin.new.self in subst P c.self.view_is c.in_ok-pin.ensures.stock

pub returns-in_err-pin-clause-stock : goal.returns-in_err-pin-clause-stock
returns-in_err-pin-clause-stock g c =
    let P : Parts g.row.M.Denot g.row.T.Denot → Type 0 = λ s. SameStockOf s c.pin.new.self in subst P c.self.view_is c.in_err-pin.ensures.stock

pub returns-clause-keeps_out : goal.returns-clause-keeps_out
returns-clause-keeps_out g c =
    let P : Parts g.row.M.Denot g.row.T.Denot → Type 0 = λ s. KeepsOut g.M.PageDevice g.T.PageDevice s c.pin.new.self in
    subst P c.self.view_is c.in_ok-pin.ensures.keeps_out

pub returns-in_err-pin-clause-keeps_out : goal.returns-in_err-pin-clause-keeps_out
returns-in_err-pin-clause-keeps_out g c =
    let P : Parts g.row.M.Denot g.row.T.Denot → Type 0 = λ s. KeepsOut g.M.PageDevice g.T.PageDevice s c.pin.new.self in
    subst P c.self.view_is c.in_err-pin.ensures.keeps_out
