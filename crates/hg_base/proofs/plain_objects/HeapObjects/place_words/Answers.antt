use Rattle.std.proofs.Common.{◌≡◌, ◌∙◌, ap, refl, arith, ℕ, List, Some, slice_get, slice_set}
use Rattle.std.proofs.lemmas.Bool.{false≢true}
use Rattle.hg_base.specs.Content.{Object, directory, room_on}
use Rattle.hg_base.specs.HeapContent.{no_links, room_left}
use Rattle.hg_base.specs.PlainPageLaws.{length-no_links}
use Rattle.hg_base.specs.PlainObjectLaws.{there-at, last-free, last-set}
use Rattle.hg_base.proofs.plain_objects.HeapObjects.place_words.Goals as goal

pub returns-then-room-size-clause-room : goal.returns-then-room-size-clause-room
returns-then-room-size-clause-room c =
    let t = c.if-room-size.true in let f = c.in-Some.ensures.free in let k = length-no_links c.args.count in
    (λ e. absurd (false≢true e), λ h. absurd (omega arith))

pub push_directory-requires : goal.push_directory-requires
push_directory-requires c =
    let p : List Object = c.index_mut-page.result.now in
    let at : ℕ = c.in-Some.room.page in
    let l = c.in-Some.ensures.last in
    let there : slice_get c.args.self.now.layout.items at ≡ Some p = there-at c.args.self.now.layout.items at p (omega arith) c.index_mut-page.ensures.value in
    let free : room_left c.args.self.now.layout.items ≡ room_on p = last-free c.args.self.now.layout.items at p l there in
    let t = c.if-room-size.false in let f = c.in-Some.ensures.free in let k = length-no_links c.args.count in
    omega arith

pub returns-clause-room : goal.returns-clause-room
returns-clause-room c =
    let t = c.if-room-size.false in let f = c.in-Some.ensures.free in let k = length-no_links c.args.count in
    (λ e. omega arith, λ h. refl)

pub returns-clause-ok : goal.returns-clause-ok
returns-clause-ok c =
    let p : List Object = c.index_mut-page.result.now in
    let at : ℕ = c.in-Some.room.page in
    let l = c.in-Some.ensures.last in
    let there : slice_get c.args.self.now.layout.items at ≡ Some p = there-at c.args.self.now.layout.items at p (omega arith) c.index_mut-page.ensures.value in
    let free : room_left c.args.self.now.layout.items ≡ room_on p = last-free c.args.self.now.layout.items at p l there in
    ap (λ q. record { layout = slice_set c.args.self.now.layout.items at q; roots = c.args.self.now.roots }) c.push_directory.ensures
    ∙ ap (λ l. record { layout = l; roots = c.args.self.now.roots }) (last-set c.args.self.now.layout.items at p (directory (no_links c.args.count)) c.in-Some.ensures.last there)
