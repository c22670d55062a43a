use Rattle.std.proofs.Common.{◌≡◌, ◌∙◌, ap, sym, subst, refl, arith, ℕ, ◌+◌, ◌-◌, ◌++◌, List, Option, take, drop, sum_by, Some, IsSome, option_and_then}
use Rattle.hg_base.specs.PlainEntries.{bytes_used, links_used, object_of, objects_of, spill_at}
use Rattle.hg_base.specs.Lending.{refit}
use Rattle.hg_base.specs.HeapContent.{payload_of}
use Rattle.hg_base.specs.PlainEntryLaws.{loan-is, spill_at-of}
use Rattle.hg_base.specs.PlainPageLaws.{Tells, tells, entries-of, few-of, row-bytes}
use Rattle.hg_base.proofs.plain_page.HeapPage.payload_mut.Goals as goal

pub starts_of-start-requires-clause-inside : goal.starts_of-start-requires-clause-inside
starts_of-start-requires-clause-inside c =
    let n = entries-of c.self.inside c.args.self.now c.self.view_is in let i = c.requires.inside in let l = c.as_slice.ensures.len in omega arith

pub index-requires : goal.index-requires
index-requires c = let n = entries-of c.self.inside c.args.self.now c.self.view_is in let i = c.requires.inside in omega arith

pub overflow_add-end : goal.overflow_add-end
overflow_add-end c =
    let t : Tells c.self.inside c.args.self.now c.args.index c.index.result.now =
    tells c.self.inside c.args.self.now c.args.index c.index.result.now c.self.invariant c.self.view_is c.requires.inside c.index.ensures in
    let b : List ℕ = drop (sum_by bytes_used (take c.args.index c.self.inside.entries.items)) c.self.inside.bytes.items in
    let l : List (Option ℕ) = drop (sum_by links_used (take c.args.index c.self.inside.entries.items)) c.self.inside.links.items in
    let few = few-of c.self.inside c.self.invariant in let e = c.self.invariant.below in let w = c.bytes.ensures in
    let s = c.starts_of-start.ensures.bytes ∙ ap (λ es. sum_by bytes_used (take c.args.index es)) c.as_slice.ensures.value in
    let m = t.bytes in omega arith

pub slice_mut-requires-clause-in_bounds : goal.slice_mut-requires-clause-in_bounds
slice_mut-requires-clause-in_bounds c =
    let t : Tells c.self.inside c.args.self.now c.args.index c.index.result.now =
    tells c.self.inside c.args.self.now c.args.index c.index.result.now c.self.invariant c.self.view_is c.requires.inside c.index.ensures in
    let b : List ℕ = drop (sum_by bytes_used (take c.args.index c.self.inside.entries.items)) c.self.inside.bytes.items in
    let l : List (Option ℕ) = drop (sum_by links_used (take c.args.index c.self.inside.entries.items)) c.self.inside.links.items in
    let w = c.bytes.ensures in let o = c.self.inside.bytes.ok.0 in
    let s = c.starts_of-start.ensures.bytes ∙ ap (λ es. sum_by bytes_used (take c.args.index es)) c.as_slice.ensures.value in
    let m = t.bytes in omega arith

pub returns : goal.returns
returns c =
    let t : Tells c.self.inside c.args.self.now c.args.index c.index.result.now =
    tells c.self.inside c.args.self.now c.args.index c.index.result.now c.self.invariant c.self.view_is c.requires.inside c.index.ensures in
    let b : List ℕ = drop (sum_by bytes_used (take c.args.index c.self.inside.entries.items)) c.self.inside.bytes.items in
    let l : List (Option ℕ) = drop (sum_by links_used (take c.args.index c.self.inside.entries.items)) c.self.inside.links.items in
    let s = c.starts_of-start.ensures.bytes ∙ ap (λ es. sum_by bytes_used (take c.args.index es)) c.as_slice.ensures.value in
    let m = t.bytes in
    let same : c.starts_of-start.result.bytes + c.bytes.result - c.starts_of-start.result.bytes ≡ bytes_used c.index.result.now = let w = c.bytes.ensures in omega arith in
    let row : IsSome (payload_of (object_of c.index.result.now b l)) = subst (λ (o : Option (List ℕ)). IsSome o) (ap (option_and_then payload_of) t.object) c.requires.row in (
      (
        refl,
        λ w.
            ap (λ bs. objects_of c.self.inside.entries.items bs c.self.inside.links.items)
            (loan-is c.self.inside.bytes.items w c.self.inside.bytes.len c.starts_of-start.result.bytes c.self.inside.bytes.ok.0 (omega arith))
            ∙ ap (λ n. objects_of c.self.inside.entries.items (take n c.self.inside.bytes.items ++ refit (drop n c.self.inside.bytes.items) w) c.self.inside.links.items) s
            ∙ spill_at-of c.self.inside.entries.items c.self.inside.bytes.items c.self.inside.links.items c.args.index w c.self.invariant.fits
            ∙ ap (λ v. spill_at w c.args.index v) c.self.view_is,
      ),
      record {
        lends = tt;
        value =
            ap (option_and_then payload_of) t.object
            ∙ row-bytes c.index.result.now b l row
            ∙ ap (λ n. Some (take n b)) (sym same)
            ∙ ap (λ n. Some (take (c.starts_of-start.result.bytes + c.bytes.result - c.starts_of-start.result.bytes) (drop n c.self.inside.bytes.items))) (sym s)
            ∙ ap Some (sym c.slice_mut.ensures.value);
      },
    )
