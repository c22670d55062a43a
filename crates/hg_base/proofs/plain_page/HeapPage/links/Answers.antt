use Rattle.std.proofs.Common.{◌≡◌, ◌∙◌, ap, sym, arith, ℕ, List, Option, length, take, drop, sum_by, Some, option_and_then, length-take}
use Rattle.hg_base.specs.HeapContent.{links_of}
use Rattle.hg_base.specs.PlainEntries.{bytes_used, links_used, object_of, links_at}
use Rattle.hg_base.specs.PlainPageLaws.{Tells, tells, entries-of, few-of}
use Rattle.hg_base.proofs.plain_page.HeapPage.links.Goals as goal

pub index-requires : goal.index-requires
index-requires c = let n = entries-of c.self.inside c.args.self.now c.self.view_is in let i = c.requires in omega arith

pub starts_of-start-requires-clause-inside : goal.starts_of-start-requires-clause-inside
starts_of-start-requires-clause-inside c =
    let n = entries-of c.self.inside c.args.self.now c.self.view_is in let i = c.requires in let l = c.as_slice.ensures.len in omega arith

pub part_of-requires : goal.part_of-requires
part_of-requires c =
    let t : Tells c.self.inside c.args.self.now c.args.index c.index.result.now =
    tells c.self.inside c.args.self.now c.args.index c.index.result.now c.self.invariant c.self.view_is c.requires c.index.ensures in
    let k = ap links_used c.in-Directory.is in
    let s = c.starts_of-start.ensures.links ∙ ap (λ es. sum_by links_used (take c.args.index es)) c.as_slice.ensures.value in
    let l = ap length c.as_slice-in-Directory.ensures.value in
    let b = t.links in omega arith

pub returns-in-Directory : goal.returns-in-Directory
returns-in-Directory c =
    let t : Tells c.self.inside c.args.self.now c.args.index c.index.result.now =
    tells c.self.inside c.args.self.now c.args.index c.index.result.now c.self.invariant c.self.view_is c.requires c.index.ensures in
    let b : List ℕ = drop (sum_by bytes_used (take c.args.index c.self.inside.entries.items)) c.self.inside.bytes.items in
    let l : List (Option ℕ) = drop (sum_by links_used (take c.args.index c.self.inside.entries.items)) c.self.inside.links.items in
    let s = c.starts_of-start.ensures.links ∙ ap (λ es. sum_by links_used (take c.args.index es)) c.as_slice.ensures.value in
    let w : links_at c.args.self.now c.args.index ≡ Some c.part_of.result.now = ap (option_and_then links_of) t.object
    ∙ ap (λ x. links_of (object_of x b l)) c.in-Directory.is
    ∙ ap (λ n. Some (take c.in-Directory.count (drop n c.self.inside.links.items))) (sym s)
    ∙ ap (λ xs. Some (take c.in-Directory.count (drop c.starts_of-start.result.links xs))) (sym c.as_slice-in-Directory.ensures.value)
    ∙ ap Some (sym c.part_of.ensures) in
    let k = ap links_used c.in-Directory.is in let m = t.links in let few = few-of c.self.inside c.self.invariant in let e = c.self.invariant.below in
    let n = ap length c.part_of.ensures in
    record {
      links = w;
      few = omega (arith, length-take c.in-Directory.count (drop c.starts_of-start.result.links c.as_slice-in-Directory.result.now));
    }

pub returns-in-Row : goal.returns-in-Row
returns-in-Row c =
    let t : Tells c.self.inside c.args.self.now c.args.index c.index.result.now =
    tells c.self.inside c.args.self.now c.args.index c.index.result.now c.self.invariant c.self.view_is c.requires c.index.ensures in
    let b : List ℕ = drop (sum_by bytes_used (take c.args.index c.self.inside.entries.items)) c.self.inside.bytes.items in
    let l : List (Option ℕ) = drop (sum_by links_used (take c.args.index c.self.inside.entries.items)) c.self.inside.links.items in
    record { links = ap (option_and_then links_of) t.object ∙ ap (λ x. links_of (object_of x b l)) c.in-Row.is; few = tt }
