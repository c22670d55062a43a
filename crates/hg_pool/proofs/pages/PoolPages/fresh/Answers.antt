use Rattle.std.proofs.Common.{◌≡◌, ◌∙◌, ap, sym, subst, IfErr, OnErr, Result, Ok, Err}
use Rattle.std.proofs.lemmas.Result.{err_from_is_err_and}
use Rattle.hg_base.specs.Space.{IsSame, IsMade, IsFull}
use Rattle.hg_base.specs.Causes.{FreshFault, full_fault}
use Rattle.hg_base.specs.declared.PageId.{PageId}
use Rattle.hg_base.specs.declared.pages.PageFault.{PageFault}
use Rattle.hg_pool.specs.Clocking.{ComesIn}
use Rattle.hg_pool.specs.Shown.{state_of, frame_of, counts_of_pool, clock_of, current_of, SameStockOf, main_device, temp_device}
use Rattle.hg_pool.specs.Work.{IsUnused, CallsNone}
use Rattle.hg_pool.specs.declared.parts.Parts.{Parts}
use Rattle.hg_pool.specs.declared.pages.PoolPin.{PoolPin}
use Rattle.hg_pool.proofs.Hands.{calls-none-ok, calls-none-err}
use Rattle.std.proofs.Common.{◌<◌, ◌-◌, ◌^◌}
use Rattle.hg_pool.specs.Shown.{page_in, SameFrames, KeepsFrames, StaysIn, OwesSame}
use Rattle.hg_pool.specs.Work.{evicted}
use Rattle.hg_pool.specs.Lending.{KeepsOut}
use Rattle.hg_pool.proofs.pages.PoolPages.fresh.Goals as goal

pub returns-in_err-page-clause-err : goal.returns-in_err-page-clause-err
returns-in_err-page-clause-err g c =
    let p = err_from_is_err_and c.from_residual.result c.from_residual.ensures.1 in
    let P : Parts g.row.M.Denot g.row.T.Denot → Type 0 = λ s. IsSame (state_of g.M.PageDevice g.T.PageDevice s) (state_of g.M.PageDevice g.T.PageDevice c.fresh.new.self) in
    let Q : Result PoolPin PageFault → Type 0 = λ r. OnErr r (P c.args.self.now) in
    subst Q (sym p.1) (subst P c.self.view_is c.in_err-page.ensures.err)

pub returns-clause-ok : goal.returns-clause-ok
returns-clause-ok g c =
    let P : Parts g.row.M.Denot g.row.T.Denot → Type 0 = λ s. IsMade c.args.file (state_of g.M.PageDevice g.T.PageDevice s) (state_of g.M.PageDevice g.T.PageDevice c.fresh.new.self) c.in_ok-page.page in
    subst P c.self.view_is c.in_ok-page.ensures.ok

pub returns-in_err-page-clause-fault : goal.returns-in_err-page-clause-fault
returns-in_err-page-clause-fault g c =
    let new : Parts g.row.M.Denot g.row.T.Denot = c.fresh.new.self in
    let p = err_from_is_err_and c.from_residual.result c.from_residual.ensures.1 in
    let f : PageFault = c.in_err-page.field-0.0 in
    let is : c.from_residual.result ≡ Err f = p.1 ∙ ap Err p.2 in
    let P : Parts g.row.M.Denot g.row.T.Denot → Type 0 = λ s. FreshFault c.args.file (state_of g.M.PageDevice g.T.PageDevice s) f in
    let Q : Result PoolPin PageFault → Type 0 = λ r. IfErr r (FreshFault c.args.file (state_of g.M.PageDevice g.T.PageDevice c.args.self.now)) in
    subst Q (sym is) (subst P c.self.view_is c.in_err-page.ensures.fault)

pub returns-in_err-page-clause-full_work : goal.returns-in_err-page-clause-full_work
returns-in_err-page-clause-full_work g c =
    let P : Parts g.row.M.Denot g.row.T.Denot → Type 0 = λ s. IsFull (state_of g.M.PageDevice g.T.PageDevice s) c.args.file → counts_of_pool c.fresh.new.self ≡ counts_of_pool s in
    subst P c.self.view_is c.in_err-page.ensures.full_work

pub returns-in_err-page-clause-unused : goal.returns-in_err-page-clause-unused
returns-in_err-page-clause-unused g c =
    let new : Parts g.row.M.Denot g.row.T.Denot = c.fresh.new.self in
    let p = err_from_is_err_and c.from_residual.result c.from_residual.ensures.1 in
    let f : PageFault = c.in_err-page.field-0.0 in
    let is : c.from_residual.result ≡ Err f = p.1 ∙ ap Err p.2 in
    let P : Parts g.row.M.Denot g.row.T.Denot → Type 0 = λ s. IsUnused (state_of g.M.PageDevice g.T.PageDevice s)
    → CallsNone {X = PageId} (main_device s) (main_device new) (temp_device s) (temp_device new) (Err f) (full_fault c.args.file) in
    let Q : Result PoolPin PageFault → Type 0 = λ r. CallsNone (main_device c.args.self.now) (main_device new) (temp_device c.args.self.now) (temp_device new) r (full_fault c.args.file) in
    λ unused. subst Q (sym is) (calls-none-err (main_device c.args.self.now) (main_device new) (temp_device c.args.self.now) (temp_device new) f (full_fault c.args.file)
    (subst P c.self.view_is c.in_err-page.ensures.unused unused))

pub returns-clause-unused : goal.returns-clause-unused
returns-clause-unused g c =
    let new : Parts g.row.M.Denot g.row.T.Denot = c.fresh.new.self in
    let page : PageId = c.in_ok-page.page in
    let pin : PoolPin = record { page = page } in
    let P : Parts g.row.M.Denot g.row.T.Denot → Type 0 = λ s. IsUnused (state_of g.M.PageDevice g.T.PageDevice s)
    → CallsNone (main_device s) (main_device new) (temp_device s) (temp_device new) (Ok page) (full_fault c.args.file) in
    λ unused. calls-none-ok (main_device c.args.self.now) (main_device new) (temp_device c.args.self.now) (temp_device new) page pin (full_fault c.args.file)
    (subst P c.self.view_is c.in_ok-page.ensures.unused unused)

pub returns-clause-keeps_frames : goal.returns-clause-keeps_frames
returns-clause-keeps_frames g c =
    let P : Parts g.row.M.Denot g.row.T.Denot → Type 0 = λ s. KeepsFrames s c.fresh.new.self c.in_ok-page.page (frame_of c.fresh.new.self c.in_ok-page.page) in
    subst P c.self.view_is c.in_ok-page.ensures.keeps_frames

pub returns-in_err-page-clause-err_frames : goal.returns-in_err-page-clause-err_frames
returns-in_err-page-clause-err_frames g c =
    let p = err_from_is_err_and c.from_residual.result c.from_residual.ensures.1 in
    let P : Parts g.row.M.Denot g.row.T.Denot → Type 0 = λ s. SameFrames s c.fresh.new.self in
    let Q : Result PoolPin PageFault → Type 0 = λ r. OnErr r (P c.args.self.now) in
    subst Q (sym p.1) (subst P c.self.view_is c.in_err-page.ensures.err_frames)

pub returns-in_err-page-clause-err_owing : goal.returns-in_err-page-clause-err_owing
returns-in_err-page-clause-err_owing g c =
    let p = err_from_is_err_and c.from_residual.result c.from_residual.ensures.1 in
    let P : Parts g.row.M.Denot g.row.T.Denot → Type 0 = λ s. OwesSame s c.fresh.new.self in
    let Q : Result PoolPin PageFault → Type 0 = λ r. OnErr r (P c.args.self.now) in
    subst Q (sym p.1) (subst P c.self.view_is c.in_err-page.ensures.err_owing)

pub returns-clause-evicts : goal.returns-clause-evicts
returns-clause-evicts g c =
    let P : Parts g.row.M.Denot g.row.T.Denot → Type 0 = λ s. (counts_of_pool c.fresh.new.self).evictions ≡ evicted (page_in s (frame_of c.fresh.new.self c.in_ok-page.page)) (counts_of_pool s).evictions in
    subst P c.self.view_is c.in_ok-page.ensures.evicts

pub returns-in_err-page-clause-none_evicted : goal.returns-in_err-page-clause-none_evicted
returns-in_err-page-clause-none_evicted g c =
    let p = err_from_is_err_and c.from_residual.result c.from_residual.ensures.1 in
    let P : Parts g.row.M.Denot g.row.T.Denot → Type 0 = λ s. (counts_of_pool c.fresh.new.self).evictions ≡ (counts_of_pool s).evictions in
    let Q : Result PoolPin PageFault → Type 0 = λ r. OnErr r (P c.args.self.now) in
    subst Q (sym p.1) (subst P c.self.view_is c.in_err-page.ensures.none_evicted)

pub returns-clause-uncounted : goal.returns-clause-uncounted
returns-clause-uncounted g c =
    let new : Parts g.row.M.Denot g.row.T.Denot = c.fresh.new.self in
    let P : Parts g.row.M.Denot g.row.T.Denot → Type 0 = λ s. counts_of_pool new ≡ counts_of_pool s → (counts_of_pool s).reads < 2 ^ 64 - 1
    → (counts_of_pool s).writes < 2 ^ 64 - 1 → new.devices ≡ s.devices in
    λ same reads writes. let devices = subst P c.self.view_is c.in_ok-page.ensures.uncounted same reads writes in record {
      main = ap (λ d. d.main) devices;
      temp = ap (λ d. d.temp) devices;
    }

pub returns-in_err-page-clause-uncounted : goal.returns-in_err-page-clause-uncounted
returns-in_err-page-clause-uncounted g c =
    let new : Parts g.row.M.Denot g.row.T.Denot = c.fresh.new.self in
    let P : Parts g.row.M.Denot g.row.T.Denot → Type 0 = λ s. counts_of_pool new ≡ counts_of_pool s → (counts_of_pool s).reads < 2 ^ 64 - 1
    → (counts_of_pool s).writes < 2 ^ 64 - 1 → new.devices ≡ s.devices in
    λ same reads writes. let devices = subst P c.self.view_is c.in_err-page.ensures.uncounted same reads writes in record {
      main = ap (λ d. d.main) devices;
      temp = ap (λ d. d.temp) devices;
    }

pub returns-clause-full_calls_none : goal.returns-clause-full_calls_none
returns-clause-full_calls_none g c =
    let new : Parts g.row.M.Denot g.row.T.Denot = c.fresh.new.self in
    let P : Parts g.row.M.Denot g.row.T.Denot → Type 0 = λ s. IsFull (state_of g.M.PageDevice g.T.PageDevice s) c.args.file → new.devices ≡ s.devices in
    λ full. let devices = subst P c.self.view_is c.in_ok-page.ensures.full_calls_none full in record {
      main = ap (λ d. d.main) devices;
      temp = ap (λ d. d.temp) devices;
    }

pub returns-in_err-page-clause-full_calls_none : goal.returns-in_err-page-clause-full_calls_none
returns-in_err-page-clause-full_calls_none g c =
    let new : Parts g.row.M.Denot g.row.T.Denot = c.fresh.new.self in
    let P : Parts g.row.M.Denot g.row.T.Denot → Type 0 = λ s. IsFull (state_of g.M.PageDevice g.T.PageDevice s) c.args.file → new.devices ≡ s.devices in
    λ full. let devices = subst P c.self.view_is c.in_err-page.ensures.full_calls_none full in record {
      main = ap (λ d. d.main) devices;
      temp = ap (λ d. d.temp) devices;
    }

pub returns-in_err-page-clause-refused : goal.returns-in_err-page-clause-refused
returns-in_err-page-clause-refused g c =
    let new : Parts g.row.M.Denot g.row.T.Denot = c.fresh.new.self in
    let p = err_from_is_err_and c.from_residual.result c.from_residual.ensures.1 in
    let f : PageFault = c.in_err-page.field-0.0 in
    let is : c.from_residual.result ≡ Err f = p.1 ∙ ap Err p.2 in
    let P : Parts g.row.M.Denot g.row.T.Denot → Type 0 = λ s. (IsFull (state_of g.M.PageDevice g.T.PageDevice s) c.args.file → ⊥) → StaysIn g.M.PageDevice g.T.PageDevice s new f in
    let Q : Result PoolPin PageFault → Type 0 = λ r. IfErr r (λ fault. (IsFull (state_of g.M.PageDevice g.T.PageDevice c.args.self.now) c.args.file → ⊥)
    → StaysIn g.M.PageDevice g.T.PageDevice c.args.self.now new fault) in
    subst Q (sym is) (subst P c.self.view_is c.in_err-page.ensures.refused)

pub returns-in_err-page-clause-full_clock : goal.returns-in_err-page-clause-full_clock
returns-in_err-page-clause-full_clock g c =
    let P : Parts g.row.M.Denot g.row.T.Denot → Type 0 = λ s. IsFull (state_of g.M.PageDevice g.T.PageDevice s) c.args.file → clock_of c.fresh.new.self ≡ clock_of s in
    subst P c.self.view_is c.in_err-page.ensures.full_clock

pub returns-clause-comes : goal.returns-clause-comes
returns-clause-comes g c =
    let P : Parts g.row.M.Denot g.row.T.Denot → Type 0 = λ s. ComesIn (current_of s) (clock_of s) (clock_of c.fresh.new.self) (frame_of c.fresh.new.self c.in_ok-page.page) in
    subst P c.self.view_is c.in_ok-page.ensures.comes

pub returns-clause-stock : goal.returns-clause-stock
returns-clause-stock g c =
    let P : Parts g.row.M.Denot g.row.T.Denot → Type 0 = λ s. SameStockOf s c.fresh.new.self in subst P c.self.view_is c.in_ok-page.ensures.stock

pub returns-in_err-page-clause-stock : goal.returns-in_err-page-clause-stock
returns-in_err-page-clause-stock g c =
    let P : Parts g.row.M.Denot g.row.T.Denot → Type 0 = λ s. SameStockOf s c.fresh.new.self in subst P c.self.view_is c.in_err-page.ensures.stock

pub returns-clause-keeps_out : goal.returns-clause-keeps_out
returns-clause-keeps_out g c =
    let P : Parts g.row.M.Denot g.row.T.Denot → Type 0 = λ s. KeepsOut g.M.PageDevice g.T.PageDevice s c.fresh.new.self in
    subst P c.self.view_is c.in_ok-page.ensures.keeps_out

pub returns-in_err-page-clause-keeps_out : goal.returns-in_err-page-clause-keeps_out
returns-in_err-page-clause-keeps_out g c =
    let P : Parts g.row.M.Denot g.row.T.Denot → Type 0 = λ s. KeepsOut g.M.PageDevice g.T.PageDevice s c.fresh.new.self in
    subst P c.self.view_is c.in_err-page.ensures.keeps_out
