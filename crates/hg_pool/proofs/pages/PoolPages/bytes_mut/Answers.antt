use Rattle.std.proofs.Common.{◌≡◌, ℕ, ◌<◌, ◌∙◌, ap, sym, subst, refl, Some, true, length}
use Rattle.hg_base.specs.Space.{key}
use Rattle.hg_pool.specs.Disks.{Disks, disks_in}
use Rattle.hg_pool.specs.Picture.{shown, picture_of, frame_at, place_at}
use Rattle.hg_pool.specs.Sound.{IsSound}
use Rattle.hg_pool.specs.Keeping.{write_item}
use Rattle.hg_pool.specs.Shown.{state_of}
use Rattle.hg_pool.specs.Loans.{after_write_of, with_written}
use Rattle.hg_pool.specs.declared.store.Store.{Store}
use Rattle.hg_pool.specs.declared.parts.Parts.{Parts}
use Rattle.hg_pool.proofs.Calling.{loan-sound, pinned-bytes, pinned-frame}
use Rattle.hg_pool.proofs.pages.PoolPages.bytes_mut.Goals as goal

pub bytes_mut-requires-clause-there : goal.bytes_mut-requires-clause-there
bytes_mut-requires-clause-there g c =
    let v : Parts g.row.M.Denot g.row.T.Denot = c.self.inside.parts in
    let d : Disks = disks_in g.M.PageDevice g.T.PageDevice v.devices in
    let p : ℕ = key c.args.pin.now.page in
    let out : (shown (picture_of d v.store)).pinned p ≡ true = ap (λ z. (state_of g.M.PageDevice g.T.PageDevice z).pinned p) c.self.view_is ∙ c.requires in
    let P : ℕ → Type 0 = λ k. k < length v.store.frames.items in
    subst P (sym c.at-at.ensures) (pinned-frame d v.store c.args.pin.now.page c.self.invariant out).0

pub bytes_mut-requires-clause-pinned : goal.bytes_mut-requires-clause-pinned
bytes_mut-requires-clause-pinned g c =
    let v : Parts g.row.M.Denot g.row.T.Denot = c.self.inside.parts in
    let d : Disks = disks_in g.M.PageDevice g.T.PageDevice v.devices in
    let p : ℕ = key c.args.pin.now.page in
    let out : (shown (picture_of d v.store)).pinned p ≡ true = ap (λ z. (state_of g.M.PageDevice g.T.PageDevice z).pinned p) c.self.view_is ∙ c.requires in
    ap (λ (k : ℕ). (frame_at v.store.frames.items k).pinned) c.at-at.ensures ∙ (pinned-frame d v.store c.args.pin.now.page c.self.invariant out).1

pub invariant_of-self-lent : goal.invariant_of-self-lent
invariant_of-self-lent g c w =
    let v : Parts g.row.M.Denot g.row.T.Denot = c.self.inside.parts in
    let s : Store = v.store in
    let d : Disks = disks_in g.M.PageDevice g.T.PageDevice v.devices in
    let p : ℕ = key c.args.pin.now.page in
    let out : (shown (picture_of d s)).pinned p ≡ true = ap (λ z. (state_of g.M.PageDevice g.T.PageDevice z).pinned p) c.self.view_is ∙ c.requires in
    let after : record s { frames = write_item s.frames c.at-at.result w } ≡ with_written s p w = ap (λ (k : ℕ). record s { frames = write_item s.frames k w }) c.at-at.ensures in
    let Q : Store → Type 0 = λ z. IsSound d z in
    subst Q (sym after) (loan-sound d s c.args.pin.now.page w c.self.invariant out)

pub returns : goal.returns
returns g c =
    let v : Parts g.row.M.Denot g.row.T.Denot = c.self.inside.parts in
    let s : Store = v.store in
    let d : Disks = disks_in g.M.PageDevice g.T.PageDevice v.devices in
    let p : ℕ = key c.args.pin.now.page in
    let out : (shown (picture_of d s)).pinned p ≡ true = ap (λ z. (state_of g.M.PageDevice g.T.PageDevice z).pinned p) c.self.view_is ∙ c.requires in
    let bytes : c.bytes_mut.result.now ≡ (frame_at s.frames.items (place_at s.places p)).bytes =
    c.bytes_mut.ensures.value ∙ ap (λ (k : ℕ). (frame_at s.frames.items k).bytes) c.at-at.ensures in (
      (
        refl,
        λ w.
            ap (λ (k : ℕ). record v { store = record s { frames = write_item s.frames k w } }) c.at-at.ensures
            ∙ ap (λ z. after_write_of z p w) c.self.view_is,
      ),
      record {
        lends = tt;
        value =
            sym (ap (λ z. (state_of g.M.PageDevice g.T.PageDevice z).bytes p) c.self.view_is)
            ∙ pinned-bytes d s c.args.pin.now.page c.self.invariant out ∙ ap Some (sym bytes);
        len = c.bytes_mut.ensures.whole;
      },
    )
