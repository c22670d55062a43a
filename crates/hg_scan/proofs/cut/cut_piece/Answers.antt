use Rattle.std.proofs.Common.{sym, ◌∙◌, ap, arith, inl, inr}
use Rattle.hg_model.specs.Name.{begins_word, is_digit}
use Rattle.hg_scan.specs.Pieces.{token_by}
use Rattle.hg_scan.specs.declared.bytes.ByteKind.TheVariants as of
use Rattle.hg_scan.proofs.FrontKinds.{by_kind, by_letter, by_digit, by_end, begins_by, cuts_by}
use Rattle.hg_scan.proofs.cut.cut_piece.Goals as goal

pub loop-rest-preserved : goal.loop-rest-preserved
loop-rest-preserved c = by_kind c.args.line.now c.loop-rest.rest.now of.Blank c.loop-rest.invariant c.in-len1-up.len_at_least (sym c.in-Blank.is ∙ c.byte_kind.ensures.kind)

pub word-requires : goal.word-requires
word-requires c = begins_by begins_word c.loop-rest.rest.now c.in-len1-up.len_at_least (c.byte_kind.ensures.letter c.in-Letter.is)

pub number-requires : goal.number-requires
number-requires c = begins_by is_digit c.loop-rest.rest.now c.in-len1-up.len_at_least (c.byte_kind.ensures.digit c.in-Digit.is)

pub returns-in-Letter : goal.returns-in-Letter
returns-in-Letter c = cuts_by _ _ c.word.result.piece c.args.line.now _
    (by_letter c.args.line.now c.loop-rest.rest.now c.loop-rest.invariant c.in-len1-up.len_at_least (sym c.in-Letter.is ∙ c.byte_kind.ensures.kind)) c.word.ensures

pub returns-in-Digit : goal.returns-in-Digit
returns-in-Digit c = cuts_by _ _ c.number.result.piece c.args.line.now _
    (by_digit c.args.line.now c.loop-rest.rest.now c.loop-rest.invariant c.in-len1-up.len_at_least (sym c.in-Digit.is ∙ c.byte_kind.ensures.kind)) c.number.ensures

pub returns-in-Quote : goal.returns-in-Quote
returns-in-Quote c = cuts_by _ _ c.text.result.piece c.args.line.now _
    (by_kind c.args.line.now c.loop-rest.rest.now of.Quote c.loop-rest.invariant c.in-len1-up.len_at_least (sym c.in-Quote.is ∙ c.byte_kind.ensures.kind)) c.text.ensures

pub returns-in-Minus : goal.returns-in-Minus
returns-in-Minus c = cuts_by _ _ c.minus.result.piece c.args.line.now _
    (by_kind c.args.line.now c.loop-rest.rest.now of.Minus c.loop-rest.invariant c.in-len1-up.len_at_least (sym c.in-Minus.is ∙ c.byte_kind.ensures.kind)) c.minus.ensures

pub returns-in-Less : goal.returns-in-Less
returns-in-Less c = cuts_by _ _ c.less.result.piece c.args.line.now _
    (by_kind c.args.line.now c.loop-rest.rest.now of.Less c.loop-rest.invariant c.in-len1-up.len_at_least (sym c.in-Less.is ∙ c.byte_kind.ensures.kind)) c.less.ensures

pub returns-in-Greater : goal.returns-in-Greater
returns-in-Greater c = cuts_by _ _ c.greater.result.piece c.args.line.now _
    (by_kind c.args.line.now c.loop-rest.rest.now of.Greater c.loop-rest.invariant c.in-len1-up.len_at_least (sym c.in-Greater.is ∙ c.byte_kind.ensures.kind)) c.greater.ensures

pub returns-in-Bang : goal.returns-in-Bang
returns-in-Bang c = cuts_by _ _ c.bang.result.piece c.args.line.now _
    (by_kind c.args.line.now c.loop-rest.rest.now of.Bang c.loop-rest.invariant c.in-len1-up.len_at_least (sym c.in-Bang.is ∙ c.byte_kind.ensures.kind)) c.bang.ensures

pub returns-in-Single : goal.returns-in-Single
returns-in-Single c = cuts_by _ _ c.sign.result.piece c.args.line.now _
    (by_kind c.args.line.now c.loop-rest.rest.now (of.Single c.in-Single.s) c.loop-rest.invariant c.in-len1-up.len_at_least (sym c.in-Single.is ∙ c.byte_kind.ensures.kind))
    (ap (λ k. token_by k c.sign.result.piece.bytes.now) c.sign.ensures.token, c.sign.ensures.rest)

pub returns-in-Printable : goal.returns-in-Printable
returns-in-Printable c = elim c.in-Printable.is [
  | inl e ↦ cuts_by _ _ c.nothing.result.piece c.args.line.now _
      (by_kind c.args.line.now c.loop-rest.rest.now of.Printable c.loop-rest.invariant c.in-len1-up.len_at_least (sym e ∙ c.byte_kind.ensures.kind)) (c.nothing.ensures.kind, c.nothing.ensures.rest)
  | inr e ↦ cuts_by _ _ c.nothing.result.piece c.args.line.now _
      (by_kind c.args.line.now c.loop-rest.rest.now of.Outside c.loop-rest.invariant c.in-len1-up.len_at_least (sym e ∙ c.byte_kind.ensures.kind)) (c.nothing.ensures.kind, c.nothing.ensures.rest)
]

pub returns : goal.returns
returns c = cuts_by _ _ c.nothing-2.result.piece c.args.line.now _ (by_end c.args.line.now c.loop-rest.rest.now c.loop-rest.invariant (omega arith))
    (c.nothing-2.ensures.kind, c.nothing-2.ensures.rest)
