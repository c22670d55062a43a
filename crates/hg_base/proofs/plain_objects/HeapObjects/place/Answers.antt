use Rattle.std.proofs.Common.{◌≡◌, ◌∙◌, ap, arith, ℕ, List, Some, slice_get, slice_set}
use Rattle.hg_base.specs.Content.{Object, row_object, room_on}
use Rattle.hg_base.specs.HeapContent.{room_left, with_last}
use Rattle.hg_base.specs.PlainObjectLaws.{there-at, last-free, last-set}
use Rattle.hg_base.proofs.plain_objects.HeapObjects.place.Goals as goal

pub push_row-requires : goal.push_row-requires
push_row-requires c =
    let p : List Object = c.index_mut-page.result.now in
    let at : ℕ = c.in-Some.room.page in
    let l = c.in-Some.ensures.last in
    let there : slice_get c.args.self.now.layout.items at ≡ Some p = there-at c.args.self.now.layout.items at p (omega arith) c.index_mut-page.ensures.value in
    let free : room_left c.args.self.now.layout.items ≡ room_on p = last-free c.args.self.now.layout.items at p l there in
    let t = c.if-room-size.false in let f = c.in-Some.ensures.free in
    omega arith

pub returns-clause-ok : goal.returns-clause-ok
returns-clause-ok c =
    let p : List Object = c.index_mut-page.result.now in
    let at : ℕ = c.in-Some.room.page in
    let l = c.in-Some.ensures.last in
    let there : slice_get c.args.self.now.layout.items at ≡ Some p = there-at c.args.self.now.layout.items at p (omega arith) c.index_mut-page.ensures.value in
    let free : room_left c.args.self.now.layout.items ≡ room_on p = last-free c.args.self.now.layout.items at p l there in
    ap (λ q. record { layout = slice_set c.args.self.now.layout.items at q; roots = c.args.self.now.roots }) c.push_row.ensures
    ∙ ap (λ l. record { layout = l; roots = c.args.self.now.roots }) (last-set c.args.self.now.layout.items at p (row_object c.args.payload.now c.link_of-link.result) c.in-Some.ensures.last there)
    ∙ ap (λ k. record { layout = with_last c.args.self.now.layout.items (row_object c.args.payload.now k); roots = c.args.self.now.roots }) c.link_of-link.ensures
