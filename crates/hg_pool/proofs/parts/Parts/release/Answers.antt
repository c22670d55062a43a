use Rattle.std.proofs.Common.{◌≡◌, ◌∙◌, ap, sym, subst, refl, None, false}
use Rattle.hg_base.specs.Space.{key, at}
use Rattle.hg_pool.specs.Disks.{Disks, disks_in}
use Rattle.hg_pool.specs.Picture.{shown, picture_of, frame_at, taken_at, next_at}
use Rattle.hg_pool.specs.Sound.{IsSound}
use Rattle.hg_pool.specs.Keeping.{with_frame, MapsAfter}
use Rattle.hg_pool.specs.declared.maps.Maps.{Maps}
use Rattle.hg_pool.specs.declared.store.Store.{Store}
use Rattle.std.proofs.Common.{ℕ}
use Rattle.std.proofs.lemmas.Bool.{false≢true}
use Rattle.hg_pool.proofs.Calling.{gives-back, gives-back-out, found-inside}
use Rattle.hg_pool.proofs.Passing.{ticks}
use Rattle.hg_pool.specs.Clocking.{forgotten}
use Rattle.hg_pool.specs.declared.parts.Parts.{Parts}
use Rattle.hg_pool.proofs.Staying.{frames-stay, frame-emptied, keeps-held, same-but}
use Rattle.hg_pool.proofs.parts.Parts.release.Goals as goal

pub returns-in-Some-clause-whole : goal.returns-in-Some-clause-whole
returns-in-Some-clause-whole g c =
    let s : Store = c.args.self.now.store in
    let d : Disks = disks_in g.M.PageDevice g.T.PageDevice c.args.self.now.devices in
    let m : Maps = c.release.new.self in
    let after : c.forget.new.self ≡ record (with_frame s c.in-Some.at (record (frame_at s.frames.items c.in-Some.at) { page = None })) { clock = forgotten s.clock c.in-Some.at } = c.forget.ensures in
    let kept = λ (z : Store). record z { maps = m } in
    let ends = gives-back d s m c.in-Some.at c.args.page c.requires.whole c.in-Some.ensures.found c.requires.not_pinned c.requires.no_heap
    (let P : Maps → Type 0 = λ n. MapsAfter n m (at (taken_at n) (key c.args.page) false) (at (next_at n) (key c.args.page) None) in
    subst P (ap (λ (z : Store). z.maps) after) c.release.ensures) in
    let P : Store → Type 0 = λ z. IsSound d (kept z) in subst P (sym after) ends.whole

pub returns-in-Some-clause-after : goal.returns-in-Some-clause-after
returns-in-Some-clause-after g c =
    let s : Store = c.args.self.now.store in
    let d : Disks = disks_in g.M.PageDevice g.T.PageDevice c.args.self.now.devices in
    let m : Maps = c.release.new.self in
    let after : c.forget.new.self ≡ record (with_frame s c.in-Some.at (record (frame_at s.frames.items c.in-Some.at) { page = None })) { clock = forgotten s.clock c.in-Some.at } = c.forget.ensures in
    let kept = λ (z : Store). record z { maps = m } in
    let ends = gives-back d s m c.in-Some.at c.args.page c.requires.whole c.in-Some.ensures.found c.requires.not_pinned c.requires.no_heap
    (let P : Maps → Type 0 = λ n. MapsAfter n m (at (taken_at n) (key c.args.page) false) (at (next_at n) (key c.args.page) None) in
    subst P (ap (λ (z : Store). z.maps) after) c.release.ensures) in
    ap (λ (z : Store). shown (picture_of d (kept z))) after ∙ ends.after

pub returns-in-None-clause-whole : goal.returns-in-None-clause-whole
returns-in-None-clause-whole g c =
    let s : Store = c.args.self.now.store in
    let d : Disks = disks_in g.M.PageDevice g.T.PageDevice c.args.self.now.devices in
    let ends = gives-back-out d s c.release-in-None.new.self c.args.page c.requires.whole c.in-None.ensures.none c.release-in-None.ensures in
    ends.whole

pub returns-in-None-clause-after : goal.returns-in-None-clause-after
returns-in-None-clause-after g c =
    let s : Store = c.args.self.now.store in
    let d : Disks = disks_in g.M.PageDevice g.T.PageDevice c.args.self.now.devices in
    let ends = gives-back-out d s c.release-in-None.new.self c.args.page c.requires.whole c.in-None.ensures.none c.release-in-None.ensures in
    ends.after

pub forget-requires-clause-clock : goal.forget-requires-clause-clock
forget-requires-clause-clock g c = ticks c.args.self.now.store c.in-Some.at c.requires.whole.shape c.in-Some.ensures.found.there

pub returns-in-Some-clause-forgets : goal.returns-in-Some-clause-forgets
returns-in-Some-clause-forgets g c =
    λ _. ap (λ (z : Store). z.clock) c.forget.ensures ∙ ap (λ (k : ℕ). forgotten c.args.self.now.store.clock k) c.in-Some.ensures.found.place

pub returns-in-Some-clause-keeps_clock : goal.returns-in-Some-clause-keeps_clock
returns-in-Some-clause-keeps_clock g c =
    let d : Disks = disks_in g.M.PageDevice g.T.PageDevice c.args.self.now.devices in
    λ out. absurd (false≢true (sym out ∙ found-inside c.args.self.now.store c.in-Some.at c.args.page c.in-Some.ensures.found))

pub returns-in-Some-clause-stock : goal.returns-in-Some-clause-stock
returns-in-Some-clause-stock g c = record {
  lent = ap (λ (z : Store). z.lent) c.forget.ensures;
  max = ap (λ (z : Store). z.frames.max) c.forget.ensures;
  region = ap (λ (z : Store). z.frames.region) c.forget.ensures;
}

pub returns-in-Some-clause-frames : goal.returns-in-Some-clause-frames
returns-in-Some-clause-frames g c =
    let a : Parts g.row.M.Denot g.row.T.Denot = c.args.self.now in
    let b : Parts g.row.M.Denot g.row.T.Denot = record a { store = record c.forget.new.self { maps = c.release.new.self } } in
    let i = c.in-Some.at in
    let found = c.in-Some.ensures.found in
    keeps-held a b c.args.page i found.holds
    (frame-emptied a b i (record (frame_at a.store.frames.items i) { page = None }) found.there refl
    (ap (λ (z : Store). z.frames.items) c.forget.ensures) (ap (λ (z : Store). z.places) c.forget.ensures))

pub returns-in-None-clause-frames : goal.returns-in-None-clause-frames
returns-in-None-clause-frames g c =
    let a : Parts g.row.M.Denot g.row.T.Denot = c.args.self.now in
    let b : Parts g.row.M.Denot g.row.T.Denot = record a { store = record a.store { maps = c.release-in-None.new.self } } in
    same-but a b c.args.page (frames-stay a b refl refl) (λ k. refl)

pub returns-in-Some-clause-counts : goal.returns-in-Some-clause-counts
returns-in-Some-clause-counts g c = ap (λ (z : Store). z.counts) c.forget.ensures
