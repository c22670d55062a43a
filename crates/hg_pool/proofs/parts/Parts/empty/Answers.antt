use Rattle.std.proofs.Common.{◌≡◌, ℕ, ◌∙◌, ap, sym, subst, refl, Ok, None}
use Rattle.hg_pool.specs.Disks.{Disks, disks_in}
use Rattle.hg_pool.specs.Picture.{frame_at}
use Rattle.hg_pool.specs.Keeping.{with_frame}
use Rattle.hg_pool.specs.Passing.{Passes}
use Rattle.hg_pool.specs.declared.store.Store.{Store}
use Rattle.hg_pool.proofs.Passing.{cleared, recounted}
use Rattle.hg_pool.proofs.InFrames.{not-or}
use Rattle.hg_pool.specs.declared.parts.Parts.{Parts}
use Rattle.hg_pool.specs.Seen.{Frame}
use Rattle.hg_pool.proofs.Staying.{frame-emptied}
use Rattle.hg_pool.proofs.parts.Parts.empty.Goals as goal

pub returns-clause-passes : goal.returns-clause-passes
returns-clause-passes g c =
    let s : Store = c.args.self.now.store in
    let d : Disks = disks_in g.M.PageDevice g.T.PageDevice c.args.self.now.devices in
    let i : ℕ = c.args.at in
    let z : Store = c.count_eviction.new.self in
    let after : z ≡ record (with_frame s i (record (frame_at s.frames.items i) { page = None })) { counts = z.counts } =
    recounted z c.set_empty.new.self _ c.count_eviction.ensures ∙ ap (λ (y : Store). record y { counts = z.counts }) c.set_empty.ensures in
    let P : Store → Type 0 = λ y. Passes {X = Unit {0}} d s d y (Ok tt) in
    subst P (sym after) (let both = not-or (frame_at s.frames.items i).pinned (frame_at s.frames.items i).lent c.requires.free in cleared d s z.counts i tt c.requires.whole c.requires.there c.requires.clean both.0 both.1)

pub returns-clause-keeps : goal.returns-clause-keeps
returns-clause-keeps g c =
    let a : Parts g.row.M.Denot g.row.T.Denot = c.args.self.now in
    let b : Parts g.row.M.Denot g.row.T.Denot = record a { store = c.count_eviction.new.self } in
    let s : Store = a.store in
    let i : ℕ = c.args.at in
    let x : Frame = record (frame_at s.frames.items i) { page = None } in
    let after : c.count_eviction.new.self ≡ record (with_frame s i x) { counts = c.count_eviction.new.self.counts } =
    recounted c.count_eviction.new.self c.set_empty.new.self _ c.count_eviction.ensures ∙ ap (λ (y : Store). record y { counts = c.count_eviction.new.self.counts }) c.set_empty.ensures in
    frame-emptied a b i x c.requires.there refl (ap (λ (z : Store). z.frames.items) after) (ap (λ (z : Store). z.places) after)
