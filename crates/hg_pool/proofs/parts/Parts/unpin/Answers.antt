use Rattle.std.proofs.Common.{◌≡◌, ℕ, ◌-◌, ◌<◌, ◌∙◌, ap, sym, subst, refl, length, false}
use Rattle.hg_base.specs.Space.{key}
use Rattle.hg_pool.specs.Disks.{Disks, disks_in}
use Rattle.hg_pool.specs.Picture.{shown, picture_of, frame_at, place_at}
use Rattle.hg_pool.specs.Sound.{IsSound}
use Rattle.hg_pool.specs.Keeping.{with_frame, is_inside}
use Rattle.hg_pool.specs.Loans.{frame-in, and-left}
use Rattle.hg_pool.specs.Seen.{Frame}
use Rattle.hg_pool.specs.declared.store.Store.{Store}
use Rattle.hg_pool.proofs.Calling.{lets-go, pinned-frame}
use Rattle.hg_pool.proofs.Passing.{ticks}
use Rattle.hg_pool.specs.Clocking.{back}
use Rattle.hg_pool.specs.declared.parts.Parts.{Parts}
use Rattle.hg_pool.specs.FrameLaws.{frame-kept}
use Rattle.hg_pool.proofs.Staying.{owing-kept}
use Rattle.hg_pool.proofs.parts.Parts.unpin.Goals as goal

pub returns-clause-whole : goal.returns-clause-whole
returns-clause-whole g c =
    let s : Store = c.args.self.now.store in
    let d : Disks = disks_in g.M.PageDevice g.T.PageDevice c.args.self.now.devices in
    let at_is : c.at-at.result ≡ place_at s.places (key c.args.page) = c.at-at.ensures in
    let after : c.let_go.new.self ≡ record (with_frame s (place_at s.places (key c.args.page)) (record (frame_at s.frames.items (place_at s.places (key c.args.page))) { pinned = false })) { pins = s.pins - 1; clock = back s.clock (place_at s.places (key c.args.page)) } =
    c.let_go.ensures ∙ ap (λ (i : ℕ). record (with_frame s i (record (frame_at s.frames.items i) { pinned = false })) { pins = s.pins - 1; clock = back s.clock i }) at_is in
    let P : Store → Type 0 = λ z. IsSound d z in
    subst P (sym after) (lets-go d s c.args.page c.requires.whole c.requires.pinned).whole

pub returns-clause-after : goal.returns-clause-after
returns-clause-after g c =
    let s : Store = c.args.self.now.store in
    let d : Disks = disks_in g.M.PageDevice g.T.PageDevice c.args.self.now.devices in
    let at_is : c.at-at.result ≡ place_at s.places (key c.args.page) = c.at-at.ensures in
    let after : c.let_go.new.self ≡ record (with_frame s (place_at s.places (key c.args.page)) (record (frame_at s.frames.items (place_at s.places (key c.args.page))) { pinned = false })) { pins = s.pins - 1; clock = back s.clock (place_at s.places (key c.args.page)) } =
    c.let_go.ensures ∙ ap (λ (i : ℕ). record (with_frame s i (record (frame_at s.frames.items i) { pinned = false })) { pins = s.pins - 1; clock = back s.clock i }) at_is in
    ap (λ (z : Store). shown (picture_of d z)) after ∙ (lets-go d s c.args.page c.requires.whole c.requires.pinned).after

pub returns-clause-clock : goal.returns-clause-clock
returns-clause-clock g c = ap (λ (z : Store). z.clock) c.let_go.ensures ∙ ap (λ (k : ℕ). back c.args.self.now.store.clock k) c.at-at.ensures

pub returns-clause-stock : goal.returns-clause-stock
returns-clause-stock g c = record {
  lent = ap (λ (z : Store). z.lent) c.let_go.ensures;
  max = ap (λ (z : Store). z.frames.max) c.let_go.ensures;
  region = ap (λ (z : Store). z.frames.region) c.let_go.ensures;
}

pub let_go-requires-clause-there : goal.let_go-requires-clause-there
let_go-requires-clause-there g c =
    let s : Store = c.args.self.now.store in
    let P : ℕ → Type 0 = λ k. k < length s.frames.items in
    subst P (sym c.at-at.ensures) (pinned-frame (disks_in g.M.PageDevice g.T.PageDevice c.args.self.now.devices) s c.args.page c.requires.whole c.requires.pinned).0

pub let_go-requires-clause-pinned : goal.let_go-requires-clause-pinned
let_go-requires-clause-pinned g c =
    let s : Store = c.args.self.now.store in
    ap (λ (k : ℕ). (frame_at s.frames.items k).pinned) c.at-at.ensures
    ∙ (pinned-frame (disks_in g.M.PageDevice g.T.PageDevice c.args.self.now.devices) s c.args.page c.requires.whole c.requires.pinned).1

pub let_go-requires-clause-clock : goal.let_go-requires-clause-clock
let_go-requires-clause-clock g c = ticks c.args.self.now.store c.at-at.result c.requires.whole.shape (let_go-requires-clause-there g c)

pub returns-clause-frames : goal.returns-clause-frames
returns-clause-frames g c =
    let a : Parts g.row.M.Denot g.row.T.Denot = c.args.self.now in
    let s : Store = a.store in
    let i : ℕ = place_at s.places (key c.args.page) in
    let x : Frame = record (frame_at s.frames.items i) { pinned = false } in
    let there : i < length s.frames.items = frame-in s.frames.items i (key c.args.page) (and-left (is_inside s (key c.args.page)) (frame_at s.frames.items i).pinned c.requires.pinned) in
    let after : c.let_go.new.self ≡ record (with_frame s i x) { pins = s.pins - 1; clock = back s.clock i } =
    c.let_go.ensures ∙ ap (λ (k : ℕ). record (with_frame s k (record (frame_at s.frames.items k) { pinned = false })) { pins = s.pins - 1; clock = back s.clock k }) c.at-at.ensures in
    frame-kept a (record a { store = c.let_go.new.self }) i x there refl (ap (λ (z : Store). z.frames.items) after) (ap (λ (z : Store). z.places) after)

pub returns-clause-owing : goal.returns-clause-owing
returns-clause-owing g c =
    let a : Parts g.row.M.Denot g.row.T.Denot = c.args.self.now in
    let s : Store = a.store in
    let i : ℕ = place_at s.places (key c.args.page) in
    let x : Frame = record (frame_at s.frames.items i) { pinned = false } in
    let there : i < length s.frames.items = frame-in s.frames.items i (key c.args.page) (and-left (is_inside s (key c.args.page)) (frame_at s.frames.items i).pinned c.requires.pinned) in
    let after : c.let_go.new.self ≡ record (with_frame s i x) { pins = s.pins - 1; clock = back s.clock i } =
    c.let_go.ensures ∙ ap (λ (k : ℕ). record (with_frame s k (record (frame_at s.frames.items k) { pinned = false })) { pins = s.pins - 1; clock = back s.clock k }) c.at-at.ensures in
    owing-kept a (record a { store = c.let_go.new.self }) i x there refl (ap (λ (z : Store). z.frames.items) after)

pub returns-clause-counts : goal.returns-clause-counts
returns-clause-counts g c = ap (λ (z : Store). z.counts) c.let_go.ensures
