use Rattle.std.proofs.Common.{◌∙◌, sym, ap, false, true, arith}
use Rattle.hg_parse.proofs.Answered.{answers, blank_line, syntax_line, bad_line, many_line, statement_line}
use Rattle.hg_parse.proofs.Lines.{ends_there, kept_there, many_there}
use Rattle.hg_model.specs.Reading.{Statement}
use Rattle.hg_parse.specs.Kept.{kept, form_at}
use Rattle.hg_parse.specs.Statements.{tree_in}
use Rattle.hg_parse.proofs.line.parse_into.Goals as goal

pub returns-then-is_at_end : goal.returns-then-is_at_end
returns-then-is_at_end c = record { reads = answers c.args.max c.args.line.now _ (blank_line c.args.max c.args.line.now (ends_there _ _ _ true c.new-input.ensures.tokens c.new-input.ensures.carried c.is_at_end.ensures.found c.if-is_at_end.true)) }

pub returns-in_default : goal.returns-in_default
returns-in_default c = record {
  reads = answers c.args.max c.args.line.now _ (syntax_line c.args.max c.args.line.now
      (ends_there _ _ _ false c.new-input.ensures.tokens c.new-input.ensures.carried c.is_at_end.ensures.found c.if-is_at_end.false)
      (kept_there _ _ _ _ c.new-input.ensures.tokens c.new-input.ensures.carried c.clear.ensures.kept c.in_default.ensures.reads));
}

pub returns-then-has_bad_number : goal.returns-then-has_bad_number
returns-then-has_bad_number c = record {
  reads = answers c.args.max c.args.line.now _ (bad_line c.args.max c.args.line.now (kept c.whole_line.new.room) (form_at c.in-Ok.form)
      (kept_there _ _ _ _ c.new-input.ensures.tokens c.new-input.ensures.carried c.clear.ensures.kept c.in-Ok.ensures.reads)
      (sym c.has_bad_number.ensures ∙ c.if-has_bad_number.true));
}

pub returns-in-Some : goal.returns-in-Some
returns-in-Some c = record {
  reads = answers c.args.max c.args.line.now _ (many_line c.args.max c.args.line.now (kept c.whole_line.new.room) (form_at c.in-Ok.form)
      (kept_there _ _ _ _ c.new-input.ensures.tokens c.new-input.ensures.carried c.clear.ensures.kept c.in-Ok.ensures.reads) _
      (sym c.has_bad_number.ensures ∙ c.if-has_bad_number.false)
      (many_there c.new-input.result c.whole_line.new.input c.args.line.now (form_at c.in-Ok.form) (kept c.whole_line.new.room) _ c.new-input.ensures.carried c.in-Ok.ensures.long_name c.in-Ok.ensures.long_text (sym c.in-Some.is ∙ c.too_many.ensures)));
}

pub returns-in-None : goal.returns-in-None
returns-in-None c = record {
  reads = answers c.args.max c.args.line.now _ (statement_line c.args.max c.args.line.now (kept c.whole_line.new.room) (form_at c.in-Ok.form)
      (kept_there _ _ _ _ c.new-input.ensures.tokens c.new-input.ensures.carried c.clear.ensures.kept c.in-Ok.ensures.reads)
      (omega (arith, c.ranges.max.fits))
      (sym c.has_bad_number.ensures ∙ c.if-has_bad_number.false)
      (many_there c.new-input.result c.whole_line.new.input c.args.line.now (form_at c.in-Ok.form) (kept c.whole_line.new.room) _ c.new-input.ensures.carried c.in-Ok.ensures.long_name c.in-Ok.ensures.long_text (sym c.in-None.is ∙ c.too_many.ensures))
      ∙ ap (λ s. Statement (tree_in s (kept c.whole_line.new.room)) (kept c.whole_line.new.room).texts) (sym c.to_statement.ensures));
}
