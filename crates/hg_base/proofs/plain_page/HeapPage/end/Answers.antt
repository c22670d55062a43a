use Rattle.std.proofs.Common.{◌∙◌, ap, ◌+◌, sym}
use Rattle.hg_base.specs.Content.{page_end}
use Rattle.hg_base.specs.PlainEntryLaws.{sizes-of}
use Rattle.hg_base.proofs.plain_page.HeapPage.end.Goals as goal

pub returns-clause-end : goal.returns-clause-end
returns-clause-end c =
    c.self.invariant.end
    ∙ ap (λ n. 64 + n) (sym (sizes-of c.self.inside.entries.items c.self.inside.bytes.items c.self.inside.links.items c.self.invariant.fits))
    ∙ ap page_end c.self.view_is
