use Rattle.std.proofs.Common.{◌≡◌, ap, sym, subst, List, MatchOption, Some, None, option_and_then, slice_get}
use Rattle.hg_base.specs.Content.{Object}
use Rattle.hg_base.specs.HeapContent.{links_of}
use Rattle.hg_base.specs.PlainObjectLaws.{there-at, object-under, place-index}
use Rattle.hg_base.proofs.plain_objects.HeapObjects.links.Goals as goal

pub links-requires : goal.links-requires
links-requires c =
    let p : List Object = c.index.result.now in
    let there : slice_get c.args.self.now.layout.items c.in-Some.found.page ≡ Some p = there-at c.args.self.now.layout.items c.in-Some.found.page p c.in-Some.ensures.stands.page_in c.index.ensures in
    place-index c.args.self.now.layout.items c.in-Some.found.page c.in-Some.found.index c.in-Some.found.number p c.in-Some.ensures.stands.place there

pub returns-in-Some : goal.returns-in-Some
returns-in-Some c =
    let p : List Object = c.index.result.now in
    let there : slice_get c.args.self.now.layout.items c.in-Some.found.page ≡ Some p = there-at c.args.self.now.layout.items c.in-Some.found.page p c.in-Some.ensures.stands.page_in c.index.ensures in
    let e = object-under c.args.self.now c.args.a.word c.in-Some.found.page c.in-Some.found.index c.in-Some.found.number p c.in-Some.ensures.stands there in
    record { links = subst (λ x. MatchOption c.links.result (x ≡ None) (λ b. x ≡ Some b.now)) (sym (ap (option_and_then links_of) e)) c.links.ensures.links; few = c.links.ensures.few }
