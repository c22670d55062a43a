use Rattle.std.proofs.Common.{◌∙◌, ap, sym, length, arith}
use Rattle.hg_base.specs.PlainEntryLaws.{count-of, room-of}
use Rattle.hg_base.proofs.plain_page.HeapPage.len.Goals as goal

pub returns-clause-count : goal.returns-clause-count
returns-clause-count c =
    c.len.ensures ∙ c.self.inside.entries.ok.0
    ∙ sym (count-of c.self.inside.entries.items c.self.inside.bytes.items c.self.inside.links.items)
    ∙ ap length c.self.view_is

pub returns-clause-few : goal.returns-clause-few
returns-clause-few c = let l = c.len.ensures in let k = c.self.inside.entries.ok.0 in let e = c.self.invariant.end in let b = c.self.invariant.below in
    omega (arith, room-of c.self.inside.entries.items)
