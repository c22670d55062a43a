use Rattle.std.proofs.Common.{sym, ◌∙◌, arith, inl, inr}
use Rattle.hg_scan.specs.declared.bytes.ByteKind.TheVariants.{Letter, Digit}
use Rattle.hg_scan.proofs.FrontKinds.{in_word_by_kind, others}
use Rattle.hg_scan.proofs.bytes.is_in_word.Goals as goal

pub returns-in-Letter : goal.returns-in-Letter
returns-in-Letter c = elim c.in-Letter.is [
  | inl e ↦ sym (in_word_by_kind c.args.b Letter (omega arith) (sym e ∙ c.byte_kind.ensures.kind))
  | inr e ↦ sym (in_word_by_kind c.args.b Digit (omega arith) (sym e ∙ c.byte_kind.ensures.kind))
]

pub returns-in_default : goal.returns-in_default
returns-in_default c = sym (in_word_by_kind c.args.b c.byte_kind.result (omega arith) c.byte_kind.ensures.kind ∙ others c.byte_kind.result c.in_default.not-Letter c.in_default.not-Digit)
