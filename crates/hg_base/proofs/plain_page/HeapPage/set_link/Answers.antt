use Rattle.std.proofs.Common.{◌≡◌, ◌∙◌, ap, subst, arith, ℕ, ◌+◌, ◌<◌, List, Option, take, drop, sum_by, slice_get, slice_set, Some, None, IsSome, option_and_then}
use Rattle.std.proofs.lemmas.Bool.{false≢true}
use Rattle.hg_base.specs.HeapContent.{links_of, changed_on, with_link}
use Rattle.hg_base.specs.PlainEntries.{bytes_used, links_used, object_of, objects_of, links_at}
use Rattle.hg_base.specs.PlainEntryLaws.{link-set}
use Rattle.hg_base.specs.PlainPageLaws.{Tells, tells, entries-of, few-of, link-in}
use Rattle.hg_base.proofs.plain_page.HeapPage.set_link.Goals as goal

pub index-requires : goal.index-requires
index-requires c = let n = entries-of c.self.inside c.args.self.now c.self.view_is in let i = c.requires.inside in omega arith

pub unreachable-requires : goal.unreachable-requires
unreachable-requires c =
    let t : Tells c.self.inside c.args.self.now c.args.index c.index.result.now =
    tells c.self.inside c.args.self.now c.args.index c.index.result.now c.self.invariant c.self.view_is c.requires.inside c.index.ensures in
    let b : List ℕ = drop (sum_by bytes_used (take c.args.index c.self.inside.entries.items)) c.self.inside.bytes.items in
    let l : List (Option ℕ) = drop (sum_by links_used (take c.args.index c.self.inside.entries.items)) c.self.inside.links.items in
    let none : links_at c.args.self.now c.args.index ≡ None = ap (option_and_then links_of) t.object ∙ ap (λ x. links_of (object_of x b l)) c.in-Row.is in
    false≢true (subst (λ (o : Option (List (Option ℕ))). IsSome (option_and_then (λ ls. slice_get ls c.args.k) o)) none c.requires.there)

pub starts_of-start-requires-clause-inside : goal.starts_of-start-requires-clause-inside
starts_of-start-requires-clause-inside c =
    let n = entries-of c.self.inside c.args.self.now c.self.view_is in let i = c.requires.inside in let l = c.as_slice.ensures.len in omega arith

pub overflow_add-start : goal.overflow_add-start
overflow_add-start c =
    let t : Tells c.self.inside c.args.self.now c.args.index c.index.result.now =
    tells c.self.inside c.args.self.now c.args.index c.index.result.now c.self.invariant c.self.view_is c.requires.inside c.index.ensures in
    let b : List ℕ = drop (sum_by bytes_used (take c.args.index c.self.inside.entries.items)) c.self.inside.bytes.items in
    let l : List (Option ℕ) = drop (sum_by links_used (take c.args.index c.self.inside.entries.items)) c.self.inside.links.items in
    let has = subst (λ (o : Option (List (Option ℕ))). IsSome (option_and_then (λ ls. slice_get ls c.args.k) o))
    (ap (option_and_then links_of) t.object ∙ ap (λ x. links_of (object_of x b l)) c.in-Directory.is) c.requires.there in
    let inside : c.args.k < c.in-Directory.count = link-in l c.in-Directory.count c.args.k has in
    let s = c.starts_of-start.ensures.links ∙ ap (λ es. sum_by links_used (take c.args.index es)) c.as_slice.ensures.value in
    let u = ap links_used c.in-Directory.is in let m = t.links in let few = few-of c.self.inside c.self.invariant in let e = c.self.invariant.below in let o = c.self.inside.links.ok.0 in
    omega arith

pub index_mut-requires : goal.index_mut-requires
index_mut-requires c =
    let t : Tells c.self.inside c.args.self.now c.args.index c.index.result.now =
    tells c.self.inside c.args.self.now c.args.index c.index.result.now c.self.invariant c.self.view_is c.requires.inside c.index.ensures in
    let b : List ℕ = drop (sum_by bytes_used (take c.args.index c.self.inside.entries.items)) c.self.inside.bytes.items in
    let l : List (Option ℕ) = drop (sum_by links_used (take c.args.index c.self.inside.entries.items)) c.self.inside.links.items in
    let has = subst (λ (o : Option (List (Option ℕ))). IsSome (option_and_then (λ ls. slice_get ls c.args.k) o))
    (ap (option_and_then links_of) t.object ∙ ap (λ x. links_of (object_of x b l)) c.in-Directory.is) c.requires.there in
    let inside : c.args.k < c.in-Directory.count = link-in l c.in-Directory.count c.args.k has in
    let s = c.starts_of-start.ensures.links ∙ ap (λ es. sum_by links_used (take c.args.index es)) c.as_slice.ensures.value in
    let u = ap links_used c.in-Directory.is in let m = t.links in let few = few-of c.self.inside c.self.invariant in let e = c.self.invariant.below in let o = c.self.inside.links.ok.0 in
    omega arith

pub returns : goal.returns
returns c =
    let t : Tells c.self.inside c.args.self.now c.args.index c.index.result.now =
    tells c.self.inside c.args.self.now c.args.index c.index.result.now c.self.invariant c.self.view_is c.requires.inside c.index.ensures in
    let b : List ℕ = drop (sum_by bytes_used (take c.args.index c.self.inside.entries.items)) c.self.inside.bytes.items in
    let l : List (Option ℕ) = drop (sum_by links_used (take c.args.index c.self.inside.entries.items)) c.self.inside.links.items in
    let has = subst (λ (o : Option (List (Option ℕ))). IsSome (option_and_then (λ ls. slice_get ls c.args.k) o))
    (ap (option_and_then links_of) t.object ∙ ap (λ x. links_of (object_of x b l)) c.in-Directory.is) c.requires.there in
    let inside : c.args.k < c.in-Directory.count = link-in l c.in-Directory.count c.args.k has in
    let s = c.starts_of-start.ensures.links ∙ ap (λ es. sum_by links_used (take c.args.index es)) c.as_slice.ensures.value in
    ap (λ n. objects_of c.self.inside.entries.items c.self.inside.bytes.items (slice_set c.self.inside.links.items (n + c.args.k) c.args.to)) s
    ∙ link-set c.self.inside.entries.items c.self.inside.bytes.items c.self.inside.links.items c.args.index c.in-Directory.count c.args.k c.args.to
    (t.entry ∙ ap Some c.in-Directory.is) inside
    ∙ ap (changed_on (with_link c.args.k c.args.to) c.args.index) c.self.view_is
