use Rattle.std.proofs.Common.{append_assoc}
use Rattle.hg_reply.proofs.lines.put_figures.Goals as goal

pub returns-clause-text : goal.returns-clause-text
returns-clause-text c =
    rw (
      c.put_word_number-7.ensures.text,
      c.put_word_number-6.ensures.text,
      c.put_word_number-5.ensures.text,
      c.put_word_number-4.ensures.text,
      c.put_word_number-3.ensures.text,
      c.put_word_number-2.ensures.text,
      c.put_word_number.ensures.text,
    )
    (simp append_assoc)
