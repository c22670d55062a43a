use Rattle.std.proofs.Common.{◌≡◌, ◌∙◌, ap, subst, refl, ℕ, List, Option, Some, IsSome, option_and_then, slice_get}
use Rattle.hg_base.specs.Content.{Object}
use Rattle.hg_base.specs.HeapContent.{payload_of}
use Rattle.hg_base.specs.PlainObjectLaws.{there-at, object-under, place-index, loan-found}
use Rattle.hg_base.proofs.plain_objects.HeapObjects.payload_mut.Goals as goal

pub payload_mut-requires-clause-inside : goal.payload_mut-requires-clause-inside
payload_mut-requires-clause-inside c =
    let p : List Object = c.index_mut-page.result.now in
    let there : slice_get c.args.self.now.layout.items c.in-Some.found.page ≡ Some p = there-at c.args.self.now.layout.items c.in-Some.found.page p c.in-Some.ensures.stands.page_in c.index_mut-page.ensures.value in
    let e = object-under c.args.self.now c.args.a.word c.in-Some.found.page c.in-Some.found.index c.in-Some.found.number p c.in-Some.ensures.stands there in
    place-index c.args.self.now.layout.items c.in-Some.found.page c.in-Some.found.index c.in-Some.found.number p c.in-Some.ensures.stands.place there

pub payload_mut-requires-clause-row : goal.payload_mut-requires-clause-row
payload_mut-requires-clause-row c =
    let p : List Object = c.index_mut-page.result.now in
    let there : slice_get c.args.self.now.layout.items c.in-Some.found.page ≡ Some p = there-at c.args.self.now.layout.items c.in-Some.found.page p c.in-Some.ensures.stands.page_in c.index_mut-page.ensures.value in
    let e = object-under c.args.self.now c.args.a.word c.in-Some.found.page c.in-Some.found.index c.in-Some.found.number p c.in-Some.ensures.stands there in
    subst (λ (x : Option (List ℕ)). IsSome x) (ap (option_and_then payload_of) e) c.requires.row

pub returns : goal.returns
returns c =
    let p : List Object = c.index_mut-page.result.now in
    let there : slice_get c.args.self.now.layout.items c.in-Some.found.page ≡ Some p = there-at c.args.self.now.layout.items c.in-Some.found.page p c.in-Some.ensures.stands.page_in c.index_mut-page.ensures.value in
    let e = object-under c.args.self.now c.args.a.word c.in-Some.found.page c.in-Some.found.index c.in-Some.found.number p c.in-Some.ensures.stands there in (
      (
        refl,
        λ w. loan-found c.args.self.now c.args.a.word c.in-Some.found.page c.in-Some.found.index c.in-Some.found.number w p c.in-Some.ensures.stands there,
      ),
      record {
        lends = tt;
        value = ap (option_and_then payload_of) e ∙ c.payload_mut.ensures.value;
      },
    )
