use Rattle.std.proofs.Common.{◌≡◌, ◌∙◌, ap, map, sym, arith, ◌+◌, ◌*◌, length, subst, refl, drop, option_map, Some, List, slice_get}
use Rattle.std.proofs.lemmas.Option.{slice_get_read}
use Rattle.hg_base.specs.Content.{Object, offsets_from}
use Rattle.hg_base.specs.HeapContent.{place_in}
use Rattle.hg_base.specs.PlainObjects.{IsPlace, found_in}
use Rattle.hg_base.specs.PlainObjectLaws.{find-step, find-end, place-is, sum-step}
use Rattle.hg_base.proofs.plain_objects.HeapObjects.find.Goals as goal

pub returns-in-Some-clause-number : goal.returns-in-Some-clause-number
returns-in-Some-clause-number c =
    let p : List Object = c.index-objects.result.now in
    let o = c.args.self.now.layout.ok.0 in let t = c.loop-page-test.true in
    let there : slice_get c.args.self.now.layout.items c.loop-page.page ≡ Some p =
    slice_get_read c.args.self.now.layout.items (length c.args.self.now.layout.items) c.loop-page.page p refl (omega arith) c.index-objects.ensures in
    find-end c.args.self.now.first c.args.a.word c.loop-page.before c.loop-page.page c.in-Some.index c.args.self.now.layout.items p there c.loop-page.invariant.found
    (c.in-Some.ensures.found ∙ ap (λ f. place_in (map (λ at. f * 4096 + at) (offsets_from 64 p)) c.args.a.word) c.frame.ensures.frame)

pub returns-in-Some-clause-stands : goal.returns-in-Some-clause-stands
returns-in-Some-clause-stands c =
    let p : List Object = c.index-objects.result.now in
    let o = c.args.self.now.layout.ok.0 in let t = c.loop-page-test.true in
    let there : slice_get c.args.self.now.layout.items c.loop-page.page ≡ Some p =
    slice_get_read c.args.self.now.layout.items (length c.args.self.now.layout.items) c.loop-page.page p refl (omega arith) c.index-objects.ensures in
    record {
      named = sym (returns-in-Some-clause-number c);
      place = subst (λ n. IsPlace c.args.self.now.layout.items c.loop-page.page c.in-Some.index (n + c.in-Some.index)) (sym c.loop-page.invariant.before)
          (place-is c.args.self.now.layout.items c.loop-page.page c.in-Some.index p there c.in-Some.ensures.inside);
      page_in = omega arith;
    }

pub loop-page-preserved : goal.loop-page-preserved
loop-page-preserved c =
    let p : List Object = c.index-objects.result.now in
    let o = c.args.self.now.layout.ok.0 in let t = c.loop-page-test.true in
    let there : slice_get c.args.self.now.layout.items c.loop-page.page ≡ Some p =
    slice_get_read c.args.self.now.layout.items (length c.args.self.now.layout.items) c.loop-page.page p refl (omega arith) c.index-objects.ensures in
    record {
      before =
          ap (λ n. c.loop-page.before + n) c.len-before.ensures.count ∙ ap (λ n. n + length p) c.loop-page.invariant.before
          ∙ sum-step c.args.self.now.layout.items c.loop-page.page p there;
      few = let f = c.len-before.ensures.few in let i = c.loop-page.invariant.few in omega arith;
      found =
          find-step c.args.self.now.first c.args.a.word c.loop-page.before c.loop-page.page c.args.self.now.layout.items p there c.loop-page.invariant.found
          (c.in_default.ensures.found ∙ ap (λ f. place_in (map (λ at. f * 4096 + at) (offsets_from 64 p)) c.args.a.word) c.frame.ensures.frame)
          ∙ ap (λ n. option_map (λ k. (c.loop-page.before + n) + k) (found_in (c.args.self.now.first + (c.loop-page.page + 1)) c.args.a.word (drop (c.loop-page.page + 1) c.args.self.now.layout.items))) (sym c.len-before.ensures.count);
    }
