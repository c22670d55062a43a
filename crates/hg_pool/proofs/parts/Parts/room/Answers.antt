use Rattle.std.proofs.Common.{◌≡◌, ℕ, ◌∙◌, ap, sym, subst, None, Ok, Err, OnErr, Result}
use Rattle.hg_base.specs.declared.pages.PageFault.{PageFault}
use Rattle.hg_pool.specs.Disks.{Disks, disks_in}
use Rattle.hg_pool.specs.Passing.{Passes, AreEmpty}
use Rattle.hg_pool.specs.declared.store.Store.{Store}
use Rattle.std.proofs.lemmas.Result.{err_from_is_err_and}
use Rattle.hg_pool.proofs.Passing.{moved-on, passes-then, passes-err, passes-ok}
use Rattle.hg_pool.specs.Picture.{frame_at}
use Rattle.hg_clock.specs.Clock.{ClockState, Takes}
use Rattle.hg_pool.specs.Clocking.{is_busy}
use Rattle.std.proofs.Common.{length}
use Rattle.std.specs.Prelude.{◌<◌, ◌-◌, ◌^◌}
use Rattle.hg_pool.specs.Shown.{page_in, SameFrames}
use Rattle.hg_pool.specs.Work.{evicted, owed_of}
use Rattle.hg_pool.specs.declared.parts.Parts.{Parts}
use Rattle.hg_pool.proofs.Staying.{frames-stay, same-then, same-then-keeps}
use Rattle.hg_pool.proofs.parts.Parts.room.Goals as goal

pub returns-in_err-clean-clause-passes : goal.returns-in_err-clean-clause-passes
returns-in_err-clean-clause-passes g c =
    let u : Unit {0} = tt in
    let s : Store = c.args.self.now.store in
    let d : Disks = disks_in g.M.PageDevice g.T.PageDevice c.args.self.now.devices in
    let e : Disks = disks_in g.M.PageDevice g.T.PageDevice c.clean.new.self.devices in
    let p = err_from_is_err_and c.from_residual.result c.from_residual.ensures.1 in
    let f : PageFault = c.in_err-clean.field-0.0 in
    let is : c.from_residual.result ≡ Err f = p.1 ∙ ap Err p.2 in
    let P : Result (ℕ) PageFault → Type 0 = λ r. Passes {X = ℕ} d s e c.clean.new.self.store r in
    subst P (sym is) (passes-then d d e s c.victim-at.new.self c.clean.new.self.store u (Err f)
    (moved-on d s c.victim-at.new.self (length s.frames.items) c.victim-at.result u c.requires.whole c.victim-at.ensures.sound c.victim-at.ensures.takes c.victim-at.ensures.rest)
    (passes-err d e c.victim-at.new.self c.clean.new.self.store f c.in_err-clean.ensures.passes))

pub returns-clause-passes : goal.returns-clause-passes
returns-clause-passes g c =
    let u : Unit {0} = tt in
    let s : Store = c.args.self.now.store in
    let d : Disks = disks_in g.M.PageDevice g.T.PageDevice c.args.self.now.devices in
    let e : Disks = disks_in g.M.PageDevice g.T.PageDevice c.clean.new.self.devices in
    let k : Disks = disks_in g.M.PageDevice g.T.PageDevice c.empty.new.self.devices in
    let first = moved-on d s c.victim-at.new.self (length s.frames.items) c.victim-at.result u c.requires.whole c.victim-at.ensures.sound c.victim-at.ensures.takes c.victim-at.ensures.rest in
    let second = passes-then d d e s c.victim-at.new.self c.clean.new.self.store u (Ok u) first c.in_ok-clean.ensures.passes in
    passes-ok d k s c.empty.new.self.store u c.victim-at.result
    (passes-then d e k s c.clean.new.self.store c.empty.new.self.store u (Ok u) second c.empty.ensures.passes)

-- where no frame has a page, the victim has none
victim-empty : (s z : Store) (f : ℕ) → z ≡ record s { clock = z.clock } → AreEmpty s → (frame_at z.frames.items f).page ≡ None
victim-empty s z f e h = ap (λ (y : Store). (frame_at y.frames.items f).page) e ∙ h f

pub returns-in_err-clean-clause-no_call : goal.returns-in_err-clean-clause-no_call
returns-in_err-clean-clause-no_call g c =
    λ h. c.in_err-clean.ensures.no_call (victim-empty c.args.self.now.store c.victim-at.new.self c.victim-at.result c.victim-at.ensures.rest h)

pub returns-in_err-clean-clause-no_fault : goal.returns-in_err-clean-clause-no_fault
returns-in_err-clean-clause-no_fault g c =
    let s : Store = c.args.self.now.store in
    let p = err_from_is_err_and c.from_residual.result c.from_residual.ensures.1 in
    let P : Result ℕ PageFault → Type 0 = λ r. OnErr r (AreEmpty s → ⊥) in
    subst P (sym p.1) (λ h. c.in_err-clean.ensures.no_fault (victim-empty s c.victim-at.new.self c.victim-at.result c.victim-at.ensures.rest h))

pub returns-clause-takes : goal.returns-clause-takes
returns-clause-takes g c =
    let s : Store = c.args.self.now.store in
    let P : ClockState → Type 0 = λ k. Takes (length s.frames.items) s.clock c.victim-at.result k in
    subst P (sym (c.empty.ensures.clock ∙ c.in_ok-clean.ensures.clock)) c.victim-at.ensures.takes

pub returns-clause-no_call : goal.returns-clause-no_call
returns-clause-no_call g c =
    λ h. c.empty.ensures.no_call
    ∙ c.in_ok-clean.ensures.no_call (victim-empty c.args.self.now.store c.victim-at.new.self c.victim-at.result c.victim-at.ensures.rest h)

-- the clock alone moved on
hand-stays : {M T : Type 0} (a : Parts M T) (z : Store) → z ≡ record a.store { clock = z.clock } → SameFrames a (record a { store = z })
hand-stays a z e = frames-stay a (record a { store = z }) (ap (λ (y : Store). y.frames.items) e) (ap (λ (y : Store). y.places) e)

pub returns-clause-keeps : goal.returns-clause-keeps
returns-clause-keeps g c =
    let a : Parts g.row.M.Denot g.row.T.Denot = c.args.self.now in
    let m : Parts g.row.M.Denot g.row.T.Denot = record a { store = c.victim-at.new.self } in
    let k : Parts g.row.M.Denot g.row.T.Denot = c.clean.new.self in
    let b : Parts g.row.M.Denot g.row.T.Denot = c.empty.new.self in
    same-then-keeps a k b c.victim-at.result
    (same-then a m k (hand-stays a c.victim-at.new.self c.victim-at.ensures.rest) c.in_ok-clean.ensures.frames)
    (λ n apart. ap owed_of (c.in_ok-clean.ensures.others n apart) ∙ ap (λ (z : Store). owed_of (frame_at z.frames.items n)) c.victim-at.ensures.rest)
    c.empty.ensures.keeps

pub returns-clause-evicts : goal.returns-clause-evicts
returns-clause-evicts g c =
    let a : Parts g.row.M.Denot g.row.T.Denot = c.args.self.now in
    let k : Parts g.row.M.Denot g.row.T.Denot = c.clean.new.self in
    let f : ℕ = c.victim-at.result in
    c.empty.ensures.evicts
    ∙ ap (λ o. evicted o k.store.counts.evictions) (c.in_ok-clean.ensures.page ∙ ap (λ (z : Store). (frame_at z.frames.items f).page) c.victim-at.ensures.rest)
    ∙ ap (evicted (page_in a f)) (c.in_ok-clean.ensures.evictions ∙ ap (λ (z : Store). z.counts.evictions) c.victim-at.ensures.rest)

pub returns-in_err-clean-clause-uncounted : goal.returns-in_err-clean-clause-uncounted
returns-in_err-clean-clause-uncounted g c =
    let b : Parts g.row.M.Denot g.row.T.Denot = c.clean.new.self in
    let P : Store → Type 0 = λ y. b.store.counts.writes ≡ y.counts.writes → y.counts.writes < 2 ^ 64 - 1 → b.devices ≡ c.args.self.now.devices in
    subst P c.victim-at.ensures.rest c.in_err-clean.ensures.uncounted

pub returns-clause-uncounted : goal.returns-clause-uncounted
returns-clause-uncounted g c =
    let b : Parts g.row.M.Denot g.row.T.Denot = c.clean.new.self in
    let P : Store → Type 0 = λ y. b.store.counts.writes ≡ y.counts.writes → y.counts.writes < 2 ^ 64 - 1 → b.devices ≡ c.args.self.now.devices in
    λ same below. c.empty.ensures.no_call ∙ subst P c.victim-at.ensures.rest c.in_ok-clean.ensures.uncounted (sym c.empty.ensures.asked.writes ∙ same) below

-- the victim is not out
pub clean-requires-clause-free : goal.clean-requires-clause-free
clean-requires-clause-free g c =
    let s : Store = c.args.self.now.store in
    ap (λ (z : Store). is_busy (frame_at z.frames.items c.victim-at.result)) c.victim-at.ensures.rest
    ∙ sym (c.requires.whole.shape.clock.out c.victim-at.result) ∙ c.victim-at.ensures.takes.victim.eligible.not_out
