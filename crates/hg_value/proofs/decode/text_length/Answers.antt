use Rattle.std.proofs.Common.{rules, arith, ◌∙◌, sym, refl}
use Rattle.hg_value.proofs.Beginnings.{begins_text}
use Rattle.hg_value.proofs.decode.text_length.Goals as goal

pub returns : goal.returns
returns c =
    begins_text c.args.bytes.now _ (search rules) c.requires (omega arith) refl (omega arith)
    (sym c.all_printable.ensures ∙ c.if-not-all_printable.false)
