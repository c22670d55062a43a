use Rattle.std.proofs.Common.{[], ◌∙◌, sym, ap}
use Rattle.hg_raw.specs.declared.slots.Blanks.{Blanks}
use Rattle.hg_raw.specs.Links.{zeros}
use Rattle.hg_raw.specs.PageParts.{pages_seen}
use Rattle.hg_raw.proofs.Blank.{new-pages-is, new-pages-seen}
use Rattle.hg_raw.proofs.Regions.{new-is, new-home}
use Rattle.hg_raw.proofs.region.Region.new.Goals as goal

pub invariant_of-result : goal.invariant_of-result
invariant_of-result c =
    new-pages-is (record { written = c.open-words.result.1.0; blanks = c.open-words.result.1.1.0; blank = c.in-Ok-from_elem.blank }) c.args.frames
    (c.open-words.ensures.pages ∙ ap (λ (b : Blanks). record { base = b.base; size = 4096; held = [] }) (sym c.open-words.ensures.blanks)) (ap (λ (b : Blanks). b.left) c.open-words.ensures.blanks)
    (c.in-Ok-from_elem.ensures.items_if_clones_equal (λ y h. h))

pub invariant_of-result-2 : goal.invariant_of-result-2
invariant_of-result-2 c =
    let seen = new-pages-seen (record { written = c.open-words.result.1.0; blanks = c.open-words.result.1.1.0; blank = c.in-Ok-from_elem.blank }) c.args.frames
    (c.open-words.ensures.pages ∙ ap (λ (b : Blanks). record { base = b.base; size = 4096; held = [] }) (sym c.open-words.ensures.blanks)) (ap (λ (b : Blanks). b.left) c.open-words.ensures.blanks)
    (c.in-Ok-from_elem.ensures.items_if_clones_equal (λ y h. h)) ∙ ap (λ (b : Blanks). record { base = b.base; frames = c.args.frames; held = zeros 4096 c.args.frames }) c.open-words.ensures.blanks in
    new-is (record { words = c.open-words.result.0; pages = pages_seen (record { written = c.open-words.result.1.0; blanks = c.open-words.result.1.1.0; blank = c.in-Ok-from_elem.blank }); frames = c.args.frames; home = c.in-Ok.home; shell = c.open-words.result.1.1.1 }) c.as_mut_ptr-base.result
    c.open-words.ensures.words seen c.ranges.frames.fits (c.in-Ok.ensures.items_if_clones_equal (λ y h. h)) c.open-words.ensures.shell

pub returns-clause-home : goal.returns-clause-home
returns-clause-home c =
    new-home _ c.open-words.result.1.1.0.base c.args.frames
    (new-pages-seen (record { written = c.open-words.result.1.0; blanks = c.open-words.result.1.1.0; blank = c.in-Ok-from_elem.blank }) c.args.frames
    (c.open-words.ensures.pages ∙ ap (λ (b : Blanks). record { base = b.base; size = 4096; held = [] }) (sym c.open-words.ensures.blanks)) (ap (λ (b : Blanks). b.left) c.open-words.ensures.blanks)
    (c.in-Ok-from_elem.ensures.items_if_clones_equal (λ y h. h)))
