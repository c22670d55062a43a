use Rattle.std.proofs.Common.{None}
use Rattle.hg_pool.specs.Shown.{owed}
use Rattle.hg_pool.specs.Work.{Asks}
use Rattle.hg_pool.specs.declared.PoolCounts.{PoolCounts}
use Rattle.std.proofs.Common.{◌≡◌, ℕ, ◌+◌, ◌<◌, ◌∙◌, ap, sym, subst, refl, arith}
use Rattle.hg_base.specs.Space.{at, key, IsMade}
use Rattle.hg_base.specs.declared.PageId.{PageId}
use Rattle.hg_pool.specs.Disks.{Disks, disks_in}
use Rattle.hg_pool.specs.Picture.{shown, picture_of, place_at, places_in}
use Rattle.hg_pool.specs.Sound.{IsSound}
use Rattle.hg_pool.specs.Keeping.{with_frame, with_place, new_frame, IsFullIn, is_inside}
use Rattle.hg_pool.specs.declared.maps.Maps.{Maps}
use Rattle.hg_pool.specs.declared.store.Store.{Store}
use Rattle.std.proofs.lemmas.Bool.{false≢true}
use Rattle.hg_pool.proofs.Calling.{makes-page, made-behind}
use Rattle.std.proofs.Common.{◌||◌, length}
use Rattle.hg_clock.specs.Clock.{score_of}
use Rattle.hg_pool.specs.Clocking.{used}
use Rattle.hg_pool.proofs.Passing.{ticks}
use Rattle.hg_pool.proofs.Calling.{few-room}
use Rattle.hg_pool.proofs.Ranges.{next-place, next-room}
use Rattle.hg_pool.specs.declared.places.Places.{Places}
use Rattle.hg_pool.proofs.Hands.{comes-in, used-seven, noted-place, all-empty}
use Rattle.hg_pool.specs.Shown.{frame_of, page_in, KeepsFrames}
use Rattle.hg_pool.specs.Work.{evicted}
use Rattle.hg_pool.specs.declared.parts.Parts.{Parts}
use Rattle.hg_pool.proofs.Passing.{place-set}
use Rattle.hg_pool.proofs.Staying.{frame-filled, keeps-then-but}
use Rattle.hg_pool.proofs.Handing.{made-keeps, same-keeps}
use Rattle.hg_pool.proofs.parts.Parts.fresh.Goals as goal

pub unreachable-requires : goal.unreachable-requires
unreachable-requires g c =
    let s : Store = c.args.self.now.store in
    let d : Disks = disks_in g.M.PageDevice g.T.PageDevice c.args.self.now.devices in
    let full : IsFullIn s.maps c.args.file = (let P : Maps → Type 0 = λ m. IsFullIn m c.args.file in subst P c.in_ok-at.ensures.clears.maps (c.in-None.ensures.none refl)) in
    false≢true (sym c.if-is_full.false ∙ c.is_full.ensures.1 full)

pub returns-clause-whole : goal.returns-clause-whole
returns-clause-whole g c =
    let s : Store = c.args.self.now.store in
    let d : Disks = disks_in g.M.PageDevice g.T.PageDevice c.args.self.now.devices in
    let e : Disks = disks_in g.M.PageDevice g.T.PageDevice c.room.new.self.devices in
    let z : Store = c.room.new.self.store in
    let few : z.pins < 8 = (let l = c.in_ok-at.ensures.clears.pins in let k = c.requires.few in omega arith) in
    let page : PageId = record { file = c.args.file; no = c.in-Some.no } in
    let makes = makes-page c.args.file e z c.take.new.self c.reach.new.self c.in_ok-at.at c.in-Some.no c.in_ok-at.ensures.passes.whole c.in_ok-at.ensures.room c.in-Some.ensures.some c.reach.ensures few in
    let made : Store = record (with_frame z c.in_ok-at.at (new_frame page)) { places = with_place c.reach.new.self page c.in_ok-at.at; pins = z.pins + 1; clock = used z.clock c.in_ok-at.at; maps = c.take.new.self } in
    let after : c.set_new.new.self ≡ made = c.set_new.ensures in
    let P : Store → Type 0 = λ y. IsSound e y in subst P (sym after) makes.whole

pub returns-clause-ok : goal.returns-clause-ok
returns-clause-ok g c =
    let s : Store = c.args.self.now.store in
    let d : Disks = disks_in g.M.PageDevice g.T.PageDevice c.args.self.now.devices in
    let e : Disks = disks_in g.M.PageDevice g.T.PageDevice c.room.new.self.devices in
    let z : Store = c.room.new.self.store in
    let few : z.pins < 8 = (let l = c.in_ok-at.ensures.clears.pins in let k = c.requires.few in omega arith) in
    let page : PageId = record { file = c.args.file; no = c.in-Some.no } in
    let makes = makes-page c.args.file e z c.take.new.self c.reach.new.self c.in_ok-at.at c.in-Some.no c.in_ok-at.ensures.passes.whole c.in_ok-at.ensures.room c.in-Some.ensures.some c.reach.ensures few in
    let made : Store = record (with_frame z c.in_ok-at.at (new_frame page)) { places = with_place c.reach.new.self page c.in_ok-at.at; pins = z.pins + 1; clock = used z.clock c.in_ok-at.at; maps = c.take.new.self } in
    let after : c.set_new.new.self ≡ made = c.set_new.ensures in
    let P : Store → Type 0 = λ y. IsMade c.args.file (shown (picture_of d s)) (shown (picture_of e y)) page in
    subst P (sym after) (made-behind c.args.file (shown (picture_of d s)) (shown (picture_of e z)) _ page c.in_ok-at.ensures.passes.same makes.ok)

pub returns-clause-in_frame : goal.returns-clause-in_frame
returns-clause-in_frame g c =
    let s : Store = c.args.self.now.store in
    let d : Disks = disks_in g.M.PageDevice g.T.PageDevice c.args.self.now.devices in
    let e : Disks = disks_in g.M.PageDevice g.T.PageDevice c.room.new.self.devices in
    let z : Store = c.room.new.self.store in
    let few : z.pins < 8 = (let l = c.in_ok-at.ensures.clears.pins in let k = c.requires.few in omega arith) in
    let page : PageId = record { file = c.args.file; no = c.in-Some.no } in
    let makes = makes-page c.args.file e z c.take.new.self c.reach.new.self c.in_ok-at.at c.in-Some.no c.in_ok-at.ensures.passes.whole c.in_ok-at.ensures.room c.in-Some.ensures.some c.reach.ensures few in
    let made : Store = record (with_frame z c.in_ok-at.at (new_frame page)) { places = with_place c.reach.new.self page c.in_ok-at.at; pins = z.pins + 1; clock = used z.clock c.in_ok-at.at; maps = c.take.new.self } in
    let after : c.set_new.new.self ≡ made = c.set_new.ensures in
    ap (λ (y : Store). is_inside y (key page)) after ∙ makes.inside

pub room-requires-clause-room : goal.room-requires-clause-room
room-requires-clause-room g c = few-room c.args.self.now.store c.requires.whole.shape c.requires.few

pub set_new-requires-clause-free : goal.set_new-requires-clause-free
set_new-requires-clause-free g c = λ i. c.in_ok-at.ensures.room.free i || c.in_ok-at.ensures.room.home i

pub set_new-requires-clause-clock : goal.set_new-requires-clause-clock
set_new-requires-clause-clock g c = ticks c.room.new.self.store c.in_ok-at.at c.in_ok-at.ensures.passes.whole.shape c.in_ok-at.ensures.room.there

pub returns-clause-comes : goal.returns-clause-comes
returns-clause-comes g c =
    let s : Store = c.args.self.now.store in
    let z : Store = c.room.new.self.store in
    let i : ℕ = c.in_ok-at.at in
    let page : PageId = record { file = c.args.file; no = c.in-Some.no } in
    let w : Places = c.reach.new.self in
    let in_range : c.in-Some.no < places_in w c.args.file = c.reach.ensures.there in
    let place : place_at c.set_new.new.self.places (key page) ≡ i = ap (λ (y : Store). place_at y.places (key page)) c.set_new.ensures ∙ noted-place w page i in_range in
    comes-in (length s.frames.items) s.clock z.clock c.set_new.new.self.clock i _ c.in_ok-at.ensures.takes (ap (λ (y : Store). y.clock) c.set_new.ensures) place

pub returns-clause-score : goal.returns-clause-score
returns-clause-score g c =
    let z : Store = c.room.new.self.store in
    let i : ℕ = c.in_ok-at.at in
    let page : PageId = record { file = c.args.file; no = c.in-Some.no } in
    let w : Places = c.reach.new.self in
    let in_range : c.in-Some.no < places_in w c.args.file = c.reach.ensures.there in
    ap (λ (y : Store). score_of y.clock (place_at y.places (key page))) c.set_new.ensures
    ∙ ap (λ (f : ℕ). score_of (used z.clock i) f) (noted-place w page i in_range)
    ∙ used-seven z.clock i (ticks z i c.in_ok-at.ensures.passes.whole.shape c.in_ok-at.ensures.room.there)

pub returns-clause-stock : goal.returns-clause-stock
returns-clause-stock g c =
    let k = c.in_ok-at.ensures.passes.stock in record {
      lent = ap (λ (z : Store). z.lent) c.set_new.ensures ∙ k.lent;
      max = ap (λ (z : Store). z.frames.max) c.set_new.ensures ∙ k.max;
      region = ap (λ (z : Store). z.frames.region) c.set_new.ensures ∙ k.region;
    }

pub returns-clause-unused : goal.returns-clause-unused
returns-clause-unused g c =
    let s : Store = c.args.self.now.store in
    let d : Disks = disks_in g.M.PageDevice g.T.PageDevice c.args.self.now.devices in
    λ unused. let same = c.in_ok-at.ensures.no_call (all-empty d s c.requires.whole unused) in record {
      main_same = ap (λ e. e.main) same;
      temp_same = ap (λ e. e.temp) same;
      only_full = tt;
    }

pub returns-in_err-at-clause-unused : goal.returns-in_err-at-clause-unused
returns-in_err-at-clause-unused g c =
    let s : Store = c.args.self.now.store in
    let d : Disks = disks_in g.M.PageDevice g.T.PageDevice c.args.self.now.devices in
    λ unused. absurd (c.in_err-at.ensures.no_fault (all-empty d s c.requires.whole unused))

pub returns-clause-keeps_frames : goal.returns-clause-keeps_frames
returns-clause-keeps_frames g c =
    let a : Parts g.row.M.Denot g.row.T.Denot = c.args.self.now in
    let m : Parts g.row.M.Denot g.row.T.Denot = c.room.new.self in
    let b : Parts g.row.M.Denot g.row.T.Denot = record m { store = c.set_new.new.self } in
    let z : Store = m.store in
    let i : ℕ = c.in_ok-at.at in
    let room = c.in_ok-at.ensures.room in
    let page : PageId = record { file = c.args.file; no = c.in-Some.no } in
    let w : Places = c.reach.new.self in
    let in_range : c.in-Some.no < places_in w c.args.file = c.reach.ensures.there in
    let place : frame_of b page ≡ i = ap (λ (y : Store). place_at y.places (key page)) c.set_new.ensures ∙ noted-place w page i in_range in
    let fills : KeepsFrames m b page i = frame-filled m b page i (new_frame page) room.there room.none refl
    (ap (λ (y : Store). y.frames.items) c.set_new.ensures) (ap (λ (y : Store). place_at y.places) c.set_new.ensures ∙ place-set w page i in_range ∙ ap (λ g. at g (key page) i) c.reach.ensures.same) in
    let P : ℕ → Type 0 = λ k. KeepsFrames a b page k in
    subst P (sym place) (keeps-then-but a m b page i c.in_ok-at.ensures.keeps fills)

pub returns-clause-evicts : goal.returns-clause-evicts
returns-clause-evicts g c =
    let a : Parts g.row.M.Denot g.row.T.Denot = c.args.self.now in
    let z : Store = c.room.new.self.store in
    let i : ℕ = c.in_ok-at.at in
    let page : PageId = record { file = c.args.file; no = c.in-Some.no } in
    let w : Places = c.reach.new.self in
    let in_range : c.in-Some.no < places_in w c.args.file = c.reach.ensures.there in
    let place : place_at c.set_new.new.self.places (key page) ≡ i = ap (λ (y : Store). place_at y.places (key page)) c.set_new.ensures ∙ noted-place w page i in_range in
    ap (λ (y : Store). y.counts.evictions) c.set_new.ensures ∙ c.in_ok-at.ensures.evicts
    ∙ ap (λ (k : ℕ). evicted (page_in a k) a.store.counts.evictions) (sym place)

pub returns-clause-uncounted : goal.returns-clause-uncounted
returns-clause-uncounted g c =
    λ same reads writes. c.in_ok-at.ensures.uncounted (sym (ap (λ (y : Store). y.counts.writes) c.set_new.ensures) ∙ ap (λ n. n.writes) same) writes

pub returns-in_err-at-clause-uncounted : goal.returns-in_err-at-clause-uncounted
returns-in_err-at-clause-uncounted g c = λ same reads writes. c.in_err-at.ensures.uncounted (ap (λ n. n.writes) same) writes

pub reach-requires-clause-near : goal.reach-requires-clause-near
reach-requires-clause-near g c =
    next-place c.room.new.self.store c.take.new.self c.args.file c.in-Some.no c.in_ok-at.ensures.passes.whole.shape c.in-Some.ensures.some

pub reach-requires-clause-room : goal.reach-requires-clause-room
reach-requires-clause-room g c =
    next-room c.room.new.self.store c.take.new.self c.args.file c.in-Some.no c.in_ok-at.ensures.passes.whole.shape c.in-Some.ensures.some

pub returns-clause-asked : goal.returns-clause-asked
returns-clause-asked g c =
    let a : Parts g.row.M.Denot g.row.T.Denot = c.args.self.now in
    let m : Parts g.row.M.Denot g.row.T.Denot = c.room.new.self in
    let d : Disks = disks_in g.M.PageDevice g.T.PageDevice a.devices in
    let e : Disks = disks_in g.M.PageDevice g.T.PageDevice m.devices in
    let i : ℕ = c.in_ok-at.at in
    let page : PageId = record { file = c.args.file; no = c.in-Some.no } in
    let w : Places = c.reach.new.self in
    let place : place_at c.set_new.new.self.places (key page) ≡ i = ap (λ (y : Store). place_at y.places (key page)) c.set_new.ensures ∙ noted-place w page i c.reach.ensures.there in
    let P : PoolCounts → Type 0 = λ n. Asks d a.store.counts e n (owed a i) None in
    let Q : ℕ → Type 0 = λ k. Asks d a.store.counts e c.set_new.new.self.counts (owed a k) None in
    subst Q (sym place) (subst P (sym (ap (λ (y : Store). y.counts) c.set_new.ensures)) c.in_ok-at.ensures.asked)

pub returns-clause-keeps_out : goal.returns-clause-keeps_out
returns-clause-keeps_out g c =
    let m : Parts g.row.M.Denot g.row.T.Denot = c.room.new.self in
    let page : PageId = record { file = c.args.file; no = c.in-Some.no } in
    made-keeps g.M.PageDevice g.T.PageDevice c.args.self.now (record m { store = c.set_new.new.self }) page c.requires.whole (returns-clause-ok g c).unused.no_heap
    (returns-clause-comes g c) (returns-clause-keeps_frames g c)

pub returns-in_err-at-clause-keeps_out : goal.returns-in_err-at-clause-keeps_out
returns-in_err-at-clause-keeps_out g c =
    same-keeps g.M.PageDevice g.T.PageDevice c.args.self.now c.room.new.self c.in_err-at.ensures.refused.frames
