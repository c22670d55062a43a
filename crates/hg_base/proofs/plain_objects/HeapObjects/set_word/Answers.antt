use Rattle.std.proofs.Common.{◌≡◌, ◌∙◌, ap, subst, List, Some, option_and_then, option_map, slice_get, map}
use Rattle.hg_base.specs.Content.{Object}
use Rattle.hg_base.specs.HeapContent.{links_of, with_link, changed_at}
use Rattle.hg_base.specs.HeapStates.{HasWord}
use Rattle.hg_base.specs.PlainEntries.{links_at}
use Rattle.hg_base.specs.PlainObjects.{word_of, objects_in, frames_in}
use Rattle.hg_base.specs.PlainObjectLaws.{there-at, object-under, place-index, has-link, change-found}
use Rattle.hg_base.proofs.plain_objects.HeapObjects.set_word.Goals as goal

pub set_link-requires-clause-inside : goal.set_link-requires-clause-inside
set_link-requires-clause-inside c =
    let p : List Object = c.index_mut-page.result.now in
    let there : slice_get c.args.self.now.layout.items c.in-Some.found.page ≡ Some p = there-at c.args.self.now.layout.items c.in-Some.found.page p c.in-Some.ensures.stands.page_in c.index_mut-page.ensures.value in
    let e = object-under c.args.self.now c.args.a.word c.in-Some.found.page c.in-Some.found.index c.in-Some.found.number p c.in-Some.ensures.stands there in
    place-index c.args.self.now.layout.items c.in-Some.found.page c.in-Some.found.index c.in-Some.found.number p c.in-Some.ensures.stands.place there

pub set_link-requires-clause-there : goal.set_link-requires-clause-there
set_link-requires-clause-there c =
    let p : List Object = c.index_mut-page.result.now in
    let there : slice_get c.args.self.now.layout.items c.in-Some.found.page ≡ Some p = there-at c.args.self.now.layout.items c.in-Some.found.page p c.in-Some.ensures.stands.page_in c.index_mut-page.ensures.value in
    let e = object-under c.args.self.now c.args.a.word c.in-Some.found.page c.in-Some.found.index c.in-Some.found.number p c.in-Some.ensures.stands there in
    has-link (word_of c.args.self.now) (links_at p c.in-Some.found.index) c.args.k
    (subst (λ o. HasWord (option_map (λ ls. map (word_of c.args.self.now) ls) o) c.args.k) (ap (option_and_then links_of) e) c.requires.there)

pub returns-clause-objects : goal.returns-clause-objects
returns-clause-objects c =
    let p : List Object = c.index_mut-page.result.now in
    let there : slice_get c.args.self.now.layout.items c.in-Some.found.page ≡ Some p = there-at c.args.self.now.layout.items c.in-Some.found.page p c.in-Some.ensures.stands.page_in c.index_mut-page.ensures.value in
    let e = object-under c.args.self.now c.args.a.word c.in-Some.found.page c.in-Some.found.index c.in-Some.found.number p c.in-Some.ensures.stands there in
    change-found (with_link c.args.k c.link_of-to.result) c.args.self.now c.args.a.word c.in-Some.found.page c.in-Some.found.index c.in-Some.found.number p c.set_link.new.self
    c.in-Some.ensures.stands there c.set_link.ensures
    ∙ ap (λ l. changed_at (with_link c.args.k l) (frames_in c.args.self.now) c.args.a.word (objects_in c.args.self.now)) c.link_of-to.ensures
