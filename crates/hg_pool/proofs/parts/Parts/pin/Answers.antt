use Rattle.std.proofs.Common.{◌≡◌, ℕ, ◌+◌, ◌<◌, ◌∙◌, ap, sym, subst, refl, Ok, true, false, length, arith}
use Rattle.hg_base.specs.Space.{key, IsPinned}
use Rattle.hg_pool.specs.Disks.{Disks, disks_in}
use Rattle.hg_pool.specs.Picture.{shown, picture_of, frame_at, place_at}
use Rattle.hg_pool.specs.Sound.{IsSound}
use Rattle.hg_pool.specs.Keeping.{with_frame}
use Rattle.hg_pool.specs.declared.store.Store.{Store}
use Rattle.hg_pool.specs.Keeping.{is_inside}
use Rattle.hg_pool.proofs.Calling.{holds-pin, still-free, still-home, few-room, pinned-behind}
use Rattle.std.proofs.Common.{◌||◌}
use Rattle.hg_clock.specs.Clock.{ClockState, score_of}
use Rattle.hg_pool.specs.Clocking.{used}
use Rattle.hg_pool.proofs.Hands.{comes-in, used-seven}
use Rattle.hg_pool.proofs.Passing.{ticks}
use Rattle.hg_pool.specs.Shown.{frame_of, page_in, SameFrames, KeepsFrames}
use Rattle.hg_pool.specs.Work.{evicted}
use Rattle.hg_pool.specs.declared.parts.Parts.{Parts}
use Rattle.hg_pool.specs.FrameLaws.{frame-kept}
use Rattle.hg_pool.proofs.Staying.{same-then, but-then-same, owing-kept}
use Rattle.hg_pool.specs.Shown.{owed, OwesSame}
use Rattle.hg_pool.proofs.Handing.{taken-keeps, refused-keeps}
use Rattle.hg_pool.proofs.parts.Parts.pin.Goals as goal

pub returns-clause-whole : goal.returns-clause-whole
returns-clause-whole g c =
    let s : Store = c.args.self.now.store in
    let d : Disks = disks_in g.M.PageDevice g.T.PageDevice c.args.self.now.devices in
    let e : Disks = disks_in g.M.PageDevice g.T.PageDevice c.bring.new.self.devices in
    let z : Store = c.bring.new.self.store in
    let i : ℕ = c.in_ok-at.at in
    let free : (frame_at z.frames.items i).pinned ≡ false = still-free d e s z (Ok i) i c.args.page c.in_ok-at.ensures.passes c.in_ok-at.ensures.found c.requires.not_pinned in
    let home : (frame_at z.frames.items i).lent ≡ false = still-home d e s z (Ok i) i c.args.page c.in_ok-at.ensures.passes c.in_ok-at.ensures.found c.requires.no_heap in
    let few : z.pins < 8 = (let l = c.in_ok-at.ensures.pins in let k = c.requires.few in omega arith) in
    let holds = holds-pin e z i c.args.page c.in_ok-at.ensures.passes.whole c.in_ok-at.ensures.found free home few in
    let after : c.hold.new.self ≡ record (with_frame z i (record (frame_at z.frames.items i) { pinned = true })) { pins = z.pins + 1; clock = used z.clock i } = c.hold.ensures in
    let P : Store → Type 0 = λ y. IsSound e y in subst P (sym after) holds.whole

pub returns-clause-ok : goal.returns-clause-ok
returns-clause-ok g c =
    let s : Store = c.args.self.now.store in
    let d : Disks = disks_in g.M.PageDevice g.T.PageDevice c.args.self.now.devices in
    let e : Disks = disks_in g.M.PageDevice g.T.PageDevice c.bring.new.self.devices in
    let z : Store = c.bring.new.self.store in
    let i : ℕ = c.in_ok-at.at in
    let free : (frame_at z.frames.items i).pinned ≡ false = still-free d e s z (Ok i) i c.args.page c.in_ok-at.ensures.passes c.in_ok-at.ensures.found c.requires.not_pinned in
    let home : (frame_at z.frames.items i).lent ≡ false = still-home d e s z (Ok i) i c.args.page c.in_ok-at.ensures.passes c.in_ok-at.ensures.found c.requires.no_heap in
    let few : z.pins < 8 = (let l = c.in_ok-at.ensures.pins in let k = c.requires.few in omega arith) in
    let holds = holds-pin e z i c.args.page c.in_ok-at.ensures.passes.whole c.in_ok-at.ensures.found free home few in
    let after : c.hold.new.self ≡ record (with_frame z i (record (frame_at z.frames.items i) { pinned = true })) { pins = z.pins + 1; clock = used z.clock i } = c.hold.ensures in
    let P : Store → Type 0 = λ y. IsPinned (shown (picture_of d s)) (shown (picture_of e y)) (key c.args.page) in
    subst P (sym after) (pinned-behind (shown (picture_of d s)) (shown (picture_of e z)) _ (key c.args.page) c.in_ok-at.ensures.passes.same holds.ok)

pub returns-clause-in_frame : goal.returns-clause-in_frame
returns-clause-in_frame g c =
    let s : Store = c.args.self.now.store in
    let d : Disks = disks_in g.M.PageDevice g.T.PageDevice c.args.self.now.devices in
    let e : Disks = disks_in g.M.PageDevice g.T.PageDevice c.bring.new.self.devices in
    let z : Store = c.bring.new.self.store in
    let i : ℕ = c.in_ok-at.at in
    let free : (frame_at z.frames.items i).pinned ≡ false = still-free d e s z (Ok i) i c.args.page c.in_ok-at.ensures.passes c.in_ok-at.ensures.found c.requires.not_pinned in
    let home : (frame_at z.frames.items i).lent ≡ false = still-home d e s z (Ok i) i c.args.page c.in_ok-at.ensures.passes c.in_ok-at.ensures.found c.requires.no_heap in
    let few : z.pins < 8 = (let l = c.in_ok-at.ensures.pins in let k = c.requires.few in omega arith) in
    let holds = holds-pin e z i c.args.page c.in_ok-at.ensures.passes.whole c.in_ok-at.ensures.found free home few in
    let after : c.hold.new.self ≡ record (with_frame z i (record (frame_at z.frames.items i) { pinned = true })) { pins = z.pins + 1; clock = used z.clock i } = c.hold.ensures in
    ap (λ (y : Store). is_inside y (key c.args.page)) after ∙ holds.inside

pub bring-requires-clause-room : goal.bring-requires-clause-room
bring-requires-clause-room g c = few-room c.args.self.now.store c.requires.whole.shape c.requires.few

pub hold-requires-clause-free : goal.hold-requires-clause-free
hold-requires-clause-free g c =
    let s : Store = c.args.self.now.store in
    let d : Disks = disks_in g.M.PageDevice g.T.PageDevice c.args.self.now.devices in
    let e : Disks = disks_in g.M.PageDevice g.T.PageDevice c.bring.new.self.devices in
    let z : Store = c.bring.new.self.store in
    let i : ℕ = c.in_ok-at.at in
    let free : (frame_at z.frames.items i).pinned ≡ false = still-free d e s z (Ok i) i c.args.page c.in_ok-at.ensures.passes c.in_ok-at.ensures.found c.requires.not_pinned in
    let home : (frame_at z.frames.items i).lent ≡ false = still-home d e s z (Ok i) i c.args.page c.in_ok-at.ensures.passes c.in_ok-at.ensures.found c.requires.no_heap in
    λ j. free j || home j

pub hold-requires-clause-clock : goal.hold-requires-clause-clock
hold-requires-clause-clock g c = ticks c.bring.new.self.store c.in_ok-at.at c.in_ok-at.ensures.passes.whole.shape c.in_ok-at.ensures.found.there

pub returns-clause-used : goal.returns-clause-used
returns-clause-used g c =
    let s : Store = c.args.self.now.store in
    let i : ℕ = c.in_ok-at.at in
    λ inside. ap (λ (y : Store). y.clock) c.hold.ensures ∙ ap (λ (k : ClockState). used k i) (c.in_ok-at.ensures.keeps_clock inside) ∙ ap (λ (f : ℕ). used s.clock f) (c.in_ok-at.ensures.stays inside)

pub returns-clause-comes : goal.returns-clause-comes
returns-clause-comes g c =
    let s : Store = c.args.self.now.store in
    let z : Store = c.bring.new.self.store in
    let i : ℕ = c.in_ok-at.at in
    let place : place_at c.hold.new.self.places (key c.args.page) ≡ i = ap (λ (y : Store). place_at y.places (key c.args.page)) c.hold.ensures ∙ sym c.in_ok-at.ensures.found.place in
    λ outside. comes-in (length s.frames.items) s.clock z.clock c.hold.new.self.clock i _ (c.in_ok-at.ensures.takes outside) (ap (λ (y : Store). y.clock) c.hold.ensures) place

pub returns-clause-score : goal.returns-clause-score
returns-clause-score g c =
    let z : Store = c.bring.new.self.store in
    let i : ℕ = c.in_ok-at.at in
    ap (λ (y : Store). score_of y.clock (place_at y.places (key c.args.page))) c.hold.ensures
    ∙ ap (λ (f : ℕ). score_of (used z.clock i) f) (sym c.in_ok-at.ensures.found.place)
    ∙ used-seven z.clock i (ticks z i c.in_ok-at.ensures.passes.whole.shape c.in_ok-at.ensures.found.there)

pub returns-clause-stock : goal.returns-clause-stock
returns-clause-stock g c =
    let k = c.in_ok-at.ensures.passes.stock in record {
      lent = ap (λ (z : Store). z.lent) c.hold.ensures ∙ k.lent;
      max = ap (λ (z : Store). z.frames.max) c.hold.ensures ∙ k.max;
      region = ap (λ (z : Store). z.frames.region) c.hold.ensures ∙ k.region;
    }

-- a pin of a frame leaves the pages in theirs
held-stays : {M T : Type 0} (a : Parts M T) (z : Store) (i : ℕ) → i < length a.store.frames.items
    → z ≡ record (with_frame a.store i (record (frame_at a.store.frames.items i) { pinned = true })) { pins = a.store.pins + 1; clock = used a.store.clock i } → SameFrames a (record a { store = z })
held-stays a z i there e = frame-kept a (record a { store = z }) i (record (frame_at a.store.frames.items i) { pinned = true }) there refl
    (ap (λ (y : Store). y.frames.items) e) (ap (λ (y : Store). y.places) e)

-- and each frame owes what it owed
hold-owes : {M T : Type 0} (a : Parts M T) (z : Store) (i : ℕ) → i < length a.store.frames.items
    → z ≡ record (with_frame a.store i (record (frame_at a.store.frames.items i) { pinned = true })) { pins = a.store.pins + 1; clock = used a.store.clock i } → OwesSame a (record a { store = z })
hold-owes a z i there e = owing-kept a (record a { store = z }) i (record (frame_at a.store.frames.items i) { pinned = true }) there refl (ap (λ (y : Store). y.frames.items) e)

pub returns-clause-owing : goal.returns-clause-owing
returns-clause-owing g c =
    let m : Parts g.row.M.Denot g.row.T.Denot = c.bring.new.self in
    λ inside k. hold-owes m c.hold.new.self c.in_ok-at.at c.in_ok-at.ensures.found.there c.hold.ensures k ∙ c.in_ok-at.ensures.owing inside k

pub returns-clause-clean : goal.returns-clause-clean
returns-clause-clean g c =
    let m : Parts g.row.M.Denot g.row.T.Denot = c.bring.new.self in
    let b : Parts g.row.M.Denot g.row.T.Denot = record m { store = c.hold.new.self } in
    let i : ℕ = c.in_ok-at.at in
    let place : place_at c.hold.new.self.places (key c.args.page) ≡ i = ap (λ (y : Store). place_at y.places (key c.args.page)) c.hold.ensures ∙ sym c.in_ok-at.ensures.found.place in
    λ outside. ap (owed b) place ∙ hold-owes m c.hold.new.self i c.in_ok-at.ensures.found.there c.hold.ensures i ∙ c.in_ok-at.ensures.clean outside

pub returns-clause-keeps_frames : goal.returns-clause-keeps_frames
returns-clause-keeps_frames g c =
    let a : Parts g.row.M.Denot g.row.T.Denot = c.args.self.now in
    let m : Parts g.row.M.Denot g.row.T.Denot = c.bring.new.self in
    let b : Parts g.row.M.Denot g.row.T.Denot = record m { store = c.hold.new.self } in
    let i : ℕ = c.in_ok-at.at in
    let page = c.args.page in
    let place : frame_of b page ≡ i = ap (λ (y : Store). place_at y.places (key page)) c.hold.ensures ∙ sym c.in_ok-at.ensures.found.place in
    let P : ℕ → Type 0 = λ k. KeepsFrames a b page k in
    subst P (sym place) (but-then-same a m b page i c.in_ok-at.ensures.keeps_frames (held-stays m c.hold.new.self i c.in_ok-at.ensures.found.there c.hold.ensures)
    (hold-owes m c.hold.new.self i c.in_ok-at.ensures.found.there c.hold.ensures))

pub returns-clause-same_frames : goal.returns-clause-same_frames
returns-clause-same_frames g c =
    let a : Parts g.row.M.Denot g.row.T.Denot = c.args.self.now in
    let m : Parts g.row.M.Denot g.row.T.Denot = c.bring.new.self in
    let b : Parts g.row.M.Denot g.row.T.Denot = record m { store = c.hold.new.self } in
    let i : ℕ = c.in_ok-at.at in
    λ inside. same-then a m b (c.in_ok-at.ensures.same_frames inside) (held-stays m c.hold.new.self i c.in_ok-at.ensures.found.there c.hold.ensures)

pub returns-clause-keeps_counts : goal.returns-clause-keeps_counts
returns-clause-keeps_counts g c = λ inside. ap (λ (z : Store). z.counts) c.hold.ensures ∙ c.in_ok-at.ensures.keeps_counts inside

pub returns-clause-evicts : goal.returns-clause-evicts
returns-clause-evicts g c =
    let a : Parts g.row.M.Denot g.row.T.Denot = c.args.self.now in
    let page = c.args.page in
    let i : ℕ = c.in_ok-at.at in
    let place : place_at c.hold.new.self.places (key page) ≡ i = ap (λ (y : Store). place_at y.places (key page)) c.hold.ensures ∙ sym c.in_ok-at.ensures.found.place in
    λ outside. ap (λ (z : Store). z.counts.evictions) c.hold.ensures ∙ c.in_ok-at.ensures.evicts outside
    ∙ ap (λ (k : ℕ). evicted (page_in a k) a.store.counts.evictions) (sym place)

pub returns-clause-uncounted : goal.returns-clause-uncounted
returns-clause-uncounted g c = λ same reads writes. c.in_ok-at.ensures.uncounted (sym (ap (λ (z : Store). z.counts) c.hold.ensures) ∙ same) reads writes

pub returns-clause-keeps_out : goal.returns-clause-keeps_out
returns-clause-keeps_out g c =
    let m : Parts g.row.M.Denot g.row.T.Denot = c.bring.new.self in
    taken-keeps g.M.PageDevice g.T.PageDevice c.args.self.now (record m { store = c.hold.new.self }) c.args.page c.requires.whole c.requires.no_heap
    (returns-clause-same_frames g c) (returns-clause-comes g c) (returns-clause-keeps_frames g c)

pub returns-in_err-at-clause-keeps_out : goal.returns-in_err-at-clause-keeps_out
returns-in_err-at-clause-keeps_out g c =
    refused-keeps g.M.PageDevice g.T.PageDevice c.args.self.now c.bring.new.self c.args.page _ c.requires.whole c.in_err-at.ensures.refused
