use Rattle.std.proofs.Common.{◌∙◌, ap, sym, arith, ℕ, List, Option, length, take, drop, sum_by, Some, option_and_then}
use Rattle.hg_base.specs.HeapContent.{payload_of}
use Rattle.hg_base.specs.PlainEntries.{bytes_used, links_used, object_of}
use Rattle.hg_base.specs.PlainPageLaws.{Tells, tells, entries-of}
use Rattle.hg_base.proofs.plain_page.HeapPage.payload.Goals as goal

pub index-requires : goal.index-requires
index-requires c = let n = entries-of c.self.inside c.args.self.now c.self.view_is in let i = c.requires in omega arith

pub starts_of-start-requires-clause-inside : goal.starts_of-start-requires-clause-inside
starts_of-start-requires-clause-inside c =
    let n = entries-of c.self.inside c.args.self.now c.self.view_is in let i = c.requires in let l = c.as_slice.ensures.len in omega arith

pub part_of-requires : goal.part_of-requires
part_of-requires c =
    let t : Tells c.self.inside c.args.self.now c.args.index c.index.result.now =
    tells c.self.inside c.args.self.now c.args.index c.index.result.now c.self.invariant c.self.view_is c.requires c.index.ensures in
    let k = ap bytes_used c.in-Row.is in
    let s = c.starts_of-start.ensures.bytes ∙ ap (λ es. sum_by bytes_used (take c.args.index es)) c.as_slice.ensures.value in
    let l = ap length c.as_slice-in-Row.ensures.value in
    let b = t.bytes in omega arith

pub returns-in-Row : goal.returns-in-Row
returns-in-Row c =
    let t : Tells c.self.inside c.args.self.now c.args.index c.index.result.now =
    tells c.self.inside c.args.self.now c.args.index c.index.result.now c.self.invariant c.self.view_is c.requires c.index.ensures in
    let b : List ℕ = drop (sum_by bytes_used (take c.args.index c.self.inside.entries.items)) c.self.inside.bytes.items in
    let l : List (Option ℕ) = drop (sum_by links_used (take c.args.index c.self.inside.entries.items)) c.self.inside.links.items in
    let s = c.starts_of-start.ensures.bytes ∙ ap (λ es. sum_by bytes_used (take c.args.index es)) c.as_slice.ensures.value in
    ap (option_and_then payload_of) t.object
    ∙ ap (λ x. payload_of (object_of x b l)) c.in-Row.is
    ∙ ap (λ n. Some (take c.in-Row.count (drop n c.self.inside.bytes.items))) (sym s)
    ∙ ap (λ xs. Some (take c.in-Row.count (drop c.starts_of-start.result.bytes xs))) (sym c.as_slice-in-Row.ensures.value)
    ∙ ap Some (sym c.part_of.ensures)

pub returns-in-Directory : goal.returns-in-Directory
returns-in-Directory c =
    let t : Tells c.self.inside c.args.self.now c.args.index c.index.result.now =
    tells c.self.inside c.args.self.now c.args.index c.index.result.now c.self.invariant c.self.view_is c.requires c.index.ensures in
    let b : List ℕ = drop (sum_by bytes_used (take c.args.index c.self.inside.entries.items)) c.self.inside.bytes.items in
    let l : List (Option ℕ) = drop (sum_by links_used (take c.args.index c.self.inside.entries.items)) c.self.inside.links.items in
    ap (option_and_then payload_of) t.object ∙ ap (λ x. payload_of (object_of x b l)) c.in-Directory.is
