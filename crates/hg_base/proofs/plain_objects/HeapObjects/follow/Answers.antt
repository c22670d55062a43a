use Rattle.std.proofs.Common.{◌≡◌, ◌∙◌, ap, sym, subst, ℕ, List, Option, Some, IsSome, option_and_then, option_map, slice_get}
use Rattle.hg_base.specs.Content.{Object}
use Rattle.hg_base.specs.HeapContent.{payload_of, row_link}
use Rattle.hg_base.specs.PlainObjects.{word_of}
use Rattle.hg_base.specs.PlainObjectLaws.{there-at, object-under, place-index}
use Rattle.hg_base.proofs.plain_objects.HeapObjects.follow.Goals as goal

pub link-requires-clause-inside : goal.link-requires-clause-inside
link-requires-clause-inside c =
    let p : List Object = c.index.result.now in
    let there : slice_get c.args.self.now.layout.items c.in-Some.found.page ≡ Some p = there-at c.args.self.now.layout.items c.in-Some.found.page p c.in-Some.ensures.stands.page_in c.index.ensures in
    place-index c.args.self.now.layout.items c.in-Some.found.page c.in-Some.found.index c.in-Some.found.number p c.in-Some.ensures.stands.place there

pub link-requires-clause-row : goal.link-requires-clause-row
link-requires-clause-row c =
    let p : List Object = c.index.result.now in
    let there : slice_get c.args.self.now.layout.items c.in-Some.found.page ≡ Some p = there-at c.args.self.now.layout.items c.in-Some.found.page p c.in-Some.ensures.stands.page_in c.index.ensures in
    let e = object-under c.args.self.now c.args.a.word c.in-Some.found.page c.in-Some.found.index c.in-Some.found.number p c.in-Some.ensures.stands there in
    subst (λ (x : Option (List ℕ)). IsSome x) (ap (option_and_then payload_of) e) c.requires.row

pub returns : goal.returns
returns c =
    let p : List Object = c.index.result.now in
    let there : slice_get c.args.self.now.layout.items c.in-Some.found.page ≡ Some p = there-at c.args.self.now.layout.items c.in-Some.found.page p c.in-Some.ensures.stands.page_in c.index.ensures in
    let e = object-under c.args.self.now c.args.a.word c.in-Some.found.page c.in-Some.found.index c.in-Some.found.number p c.in-Some.ensures.stands there in
    ap (option_map (λ l. word_of c.args.self.now l)) (ap (option_and_then row_link) e ∙ c.link.ensures)
    ∙ ap Some (sym c.word_of.ensures)
