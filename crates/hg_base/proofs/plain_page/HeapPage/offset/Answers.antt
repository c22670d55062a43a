use Rattle.std.proofs.Common.{◌∙◌, ap, sym, arith, ◌+◌, take, sum_by, slice_index_or}
use Rattle.hg_base.specs.Content.{offsets_from}
use Rattle.hg_base.specs.PlainEntries.{entry_size}
use Rattle.hg_base.specs.PlainEntryLaws.{offsets-of, offset-at, offset-low}
use Rattle.hg_base.specs.PlainPageLaws.{entries-of}
use Rattle.hg_base.proofs.plain_page.HeapPage.offset.Goals as goal

pub offset_of-requires-clause-inside : goal.offset_of-requires-clause-inside
offset_of-requires-clause-inside c =
    let n = entries-of c.self.inside c.args.self.now c.self.view_is in let i = c.requires in let l = c.as_slice.ensures.len in omega arith

pub returns-clause-begins : goal.returns-clause-begins
returns-clause-begins c =
    let n = entries-of c.self.inside c.args.self.now c.self.view_is in let i = c.requires in let o = c.self.inside.entries.ok.0 in
    c.offset_of.ensures
    ∙ ap (λ es. 64 + sum_by entry_size (take c.args.index es)) c.as_slice.ensures.value
    ∙ sym (offset-at 64 c.self.inside.entries.items c.args.index (omega arith))
    ∙ ap (λ l. slice_index_or l c.args.index 0) (sym (offsets-of 64 c.self.inside.entries.items c.self.inside.bytes.items c.self.inside.links.items c.self.invariant.fits))
    ∙ ap (λ v. slice_index_or (offsets_from 64 v) c.args.index 0) c.self.view_is

pub returns-clause-low : goal.returns-clause-low
returns-clause-low c =
    let n = entries-of c.self.inside c.args.self.now c.self.view_is in let i = c.requires in let o = c.self.inside.entries.ok.0 in
    let r = c.offset_of.ensures ∙ ap (λ es. 64 + sum_by entry_size (take c.args.index es)) c.as_slice.ensures.value in
    let e = c.self.invariant.end in let b = c.self.invariant.below in
    omega (arith, offset-low c.self.inside.entries.items c.args.index (omega arith))
