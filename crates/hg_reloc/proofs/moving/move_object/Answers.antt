use Rattle.std.proofs.Common.{◌∙◌, ap, ◌+◌}
use Rattle.std.specs.Prelude.{slice_index}
use Rattle.hg_reloc.proofs.Rewriting.{object_inside, count_for}
use Rattle.hg_reloc.proofs.moving.move_object.Goals as goal

pub move_words-requires-clause-inside : goal.move_words-requires-clause-inside
move_words-requires-clause-inside c =
    object_inside c.args.page.now c.args.at c.word_count-count.result c.requires.begins
    (c.word_count-count.ensures.value ∙ ap (count_for (slice_index c.args.page.now (c.args.at + 2))) c.get_u16-length.ensures.value)
