use Rattle.std.proofs.Common.{◌≡◌, ℕ, ◌∙◌, ap, sym, subst, inr, Ok, Err, Some, IfErr, Result}
use Rattle.hg_base.specs.declared.PageId.{PageId}
use Rattle.hg_base.specs.declared.pages.PageFault.{PageFault}
use Rattle.hg_pool.specs.Disks.{Disks, disks_in}
use Rattle.hg_pool.specs.Passing.{Passes}
use Rattle.hg_pool.specs.declared.store.Store.{Store}
use Rattle.std.proofs.lemmas.Result.{err_from_is_err_and}
use Rattle.hg_pool.proofs.Passing.{passes-then, passes-err, passes-ok}
use Rattle.hg_pool.specs.declared.parts.Parts.{Parts}
use Rattle.hg_pool.proofs.Staying.{keeps-then-same}
use Rattle.hg_pool.proofs.Asking.{asks-then}
use Rattle.hg_pool.specs.Shown.{owed, Leaves, IsRefused}
use Rattle.std.proofs.Common.{length}
use Rattle.hg_clock.specs.Clock.{ClockState, Takes}
use Rattle.hg_pool.proofs.parts.Parts.bring.Goals as goal

pub returns-in_err-load-clause-passes : goal.returns-in_err-load-clause-passes
returns-in_err-load-clause-passes g c =
    let s : Store = c.args.self.now.store in
    let d : Disks = disks_in g.M.PageDevice g.T.PageDevice c.args.self.now.devices in
    let e : Disks = disks_in g.M.PageDevice g.T.PageDevice c.room.new.self.devices in
    let k : Disks = disks_in g.M.PageDevice g.T.PageDevice c.load.new.self.devices in
    let p = err_from_is_err_and c.from_residual-in_err-load.result c.from_residual-in_err-load.ensures.1 in
    let f : PageFault = c.in_err-load.field-0.0 in
    let is : c.from_residual-in_err-load.result ≡ Err f = p.1 ∙ ap Err p.2 in
    let P : Result ℕ PageFault → Type 0 = λ r. Passes d s k c.load.new.self.store r in
    subst P (sym is) (passes-then d e k s c.room.new.self.store c.load.new.self.store c.in_ok-at.at (Err f) c.in_ok-at.ensures.passes
    (passes-err e k c.room.new.self.store c.load.new.self.store f c.in_err-load.ensures.passes))

pub returns-clause-passes : goal.returns-clause-passes
returns-clause-passes g c =
    let s : Store = c.args.self.now.store in
    let d : Disks = disks_in g.M.PageDevice g.T.PageDevice c.args.self.now.devices in
    let e : Disks = disks_in g.M.PageDevice g.T.PageDevice c.room.new.self.devices in
    let k : Disks = disks_in g.M.PageDevice g.T.PageDevice c.load.new.self.devices in
    let u : Unit {0} = tt in
    passes-then d e k s c.room.new.self.store c.load.new.self.store c.in_ok-at.at (Ok c.in_ok-at.at) c.in_ok-at.ensures.passes
    (passes-ok e k c.room.new.self.store c.load.new.self.store u c.in_ok-at.at c.in_ok-load.ensures.passes)

-- the page of the next frame left it, and the read into that frame failed
pub returns-in_err-load-clause-refused : goal.returns-in_err-load-clause-refused
returns-in_err-load-clause-refused g c =
    let a : Parts g.row.M.Denot g.row.T.Denot = c.args.self.now in
    let m : Parts g.row.M.Denot g.row.T.Denot = c.room.new.self in
    let b : Parts g.row.M.Denot g.row.T.Denot = c.load.new.self in
    let d : Disks = disks_in g.M.PageDevice g.T.PageDevice a.devices in
    let e : Disks = disks_in g.M.PageDevice g.T.PageDevice m.devices in
    let k : Disks = disks_in g.M.PageDevice g.T.PageDevice b.devices in
    let page : PageId = c.args.page in
    let f : ℕ = c.in_ok-at.at in
    let p = err_from_is_err_and c.from_residual-in_err-load.result c.from_residual-in_err-load.ensures.1 in
    let fault : PageFault = c.in_err-load.field-0.0 in
    let is : c.from_residual-in_err-load.result ≡ Err fault = p.1 ∙ ap Err p.2 in
    let left : Leaves g.M.PageDevice g.T.PageDevice a b page fault = record {
      frame = f;
      takes = subst (λ (k : ClockState). Takes (length a.store.frames.items) a.store.clock f k) (sym c.load.ensures.clock) c.in_ok-at.ensures.takes;
      fails = c.in_err-load.ensures.fails;
      asked = asks-then d e k a.store.counts m.store.counts b.store.counts (owed a f) (Some page.file) c.in_ok-at.ensures.asked c.in_err-load.ensures.asked;
      empty = c.in_err-load.ensures.page;
      frames = keeps-then-same a m b f c.in_ok-at.ensures.keeps c.in_err-load.ensures.err_frames c.in_err-load.ensures.err_owing;
      evictions = c.in_err-load.ensures.evictions ∙ c.in_ok-at.ensures.evicts;
    } in
    let P : Result ℕ PageFault → Type 0 = λ r. IfErr r (IsRefused g.M.PageDevice g.T.PageDevice a b page) in
    subst P (sym is) (inr left)

pub returns-clause-takes : goal.returns-clause-takes
returns-clause-takes g c =
    let a : Parts g.row.M.Denot g.row.T.Denot = c.args.self.now in
    λ _. subst (λ (k : ClockState). Takes (length a.store.frames.items) a.store.clock c.in_ok-at.at k) (sym c.load.ensures.clock) c.in_ok-at.ensures.takes
