use Rattle.std.proofs.Common.{◌<◌, ◌*◌, ◌∙◌, sym, ap, subst}
use Rattle.hg_raw.specs.Frames.{RegionSeen, is_in}
use Rattle.hg_raw.specs.Shells.{ShellSeen}
use denote.RawPtr.{◌+ₚ◌}
use Rattle.hg_raw.specs.PageParts.{PagesSeen}
use Rattle.hg_raw.proofs.Blank.{either}
use Rattle.hg_raw.proofs.Regions.{home-in}
use Rattle.hg_raw.proofs.region.Region.free.Goals as goal

pub close-requires-clause-all_words : goal.close-requires-clause-all_words
close-requires-clause-all_words c = λ n lt.
    ap (is_in n) c.self.invariant.words ∙ (home-in c.self.inside c.args.self c.self.view_is n (c.requires n (subst (λ (v : RegionSeen). n < v.region.frames) c.self.view_is (subst (λ k. n < k) (ap (λ (v : ShellSeen). v.frames) c.self.invariant.shell) lt)))).1

pub close-requires-clause-all_pages : goal.close-requires-clause-all_pages
close-requires-clause-all_pages c = λ n lt.
    either c.pages.inside c.self.inside.pages c.pages.view_is n (home-in c.self.inside c.args.self c.self.view_is n (c.requires n (subst (λ (v : RegionSeen). n < v.region.frames) c.self.view_is (subst (λ k. n < k) (ap (λ (v : ShellSeen). v.frames) c.self.invariant.shell) lt)))).1

pub close-requires-clause-pages_base : goal.close-requires-clause-pages_base
close-requires-clause-pages_base c =
    ap (λ (v : PagesSeen). v.base) c.pages.view_is ∙ c.self.invariant.pages ∙ (λ i. (sym c.self.invariant.shell i).base +ₚ (8 * (sym c.self.invariant.shell i).frames))

pub close-requires-clause-blanks_base : goal.close-requires-clause-blanks_base
close-requires-clause-blanks_base c =
    c.pages.invariant.base ∙ ap (λ (v : PagesSeen). v.base) c.pages.view_is ∙ c.self.invariant.pages ∙ (λ i. (sym c.self.invariant.shell i).base +ₚ (8 * (sym c.self.invariant.shell i).frames))
