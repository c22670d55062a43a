use Rattle.std.proofs.Common.{◌∙◌, ap, map, sym, arith, ◌+◌, length}
use Rattle.hg_base.specs.Content.{offsets_from}
use Rattle.hg_base.specs.HeapContent.{place_in}
use Rattle.hg_base.specs.PlainEntries.{found_from}
use Rattle.hg_base.specs.PlainEntryLaws.{offsets-of}
use Rattle.hg_base.specs.PlainPlaces.{place_in-some}
use Rattle.hg_base.specs.PlainPageLaws.{entries-of, few-of}
use Rattle.hg_base.proofs.plain_page.HeapPage.find.Goals as goal

pub returns-clause-found : goal.returns-clause-found
returns-clause-found c =
    c.find_entry.ensures
    ∙ ap (λ es. found_from c.args.base c.args.a 64 es) c.as_slice.ensures.value
    ∙ ap (λ l. place_in (map (λ at. c.args.base + at) l) c.args.a) (sym (offsets-of 64 c.self.inside.entries.items c.self.inside.bytes.items c.self.inside.links.items c.self.invariant.fits))
    ∙ ap (λ v. place_in (map (λ at. c.args.base + at) (offsets_from 64 v)) c.args.a) c.self.view_is

pub returns-clause-inside : goal.returns-clause-inside
returns-clause-inside c = place_in-some c.args.base c.args.a 64 c.args.self.now c.find_entry.result (length c.args.self.now) (returns-clause-found c) (omega arith)

pub returns-clause-few : goal.returns-clause-few
returns-clause-few c =
    let n = entries-of c.self.inside c.args.self.now c.self.view_is in let o = c.self.inside.entries.ok.0 in
    let few = few-of c.self.inside c.self.invariant in let b = c.self.invariant.below in
    place_in-some c.args.base c.args.a 64 c.args.self.now c.find_entry.result 252 (returns-clause-found c) (omega arith)
