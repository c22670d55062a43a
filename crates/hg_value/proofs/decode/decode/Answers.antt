use Rattle.std.proofs.Common.{rules, arith, ap, ◌∙◌, sym, length, drop}
use Rattle.std.specs.Prelude.{FitsSigned}
use Rattle.std.specs.Int.{w128}
use Rattle.hg_model.specs.declared.values.Value.TheVariants.{Int, Text}
use Rattle.hg_value.specs.RowParts.{narrow_number, wide_number}
use Rattle.hg_value.proofs.Codings.{cast_128}
use Rattle.hg_value.proofs.Beginnings.{four_bytes, sixteen_bytes, decoded_narrow, decoded_text, decoded_wide, decoded_other}
use Rattle.hg_value.proofs.decode.decode.Goals as goal

pub narrow_number-requires : goal.narrow_number-requires
narrow_number-requires c = ap length c.split_at.ensures.back ∙ four_bytes c.args.bytes.now c.requires c.in-1.is

pub wide_number-requires : goal.wide_number-requires
wide_number-requires c = ap length c.split_at.ensures.back ∙ sixteen_bytes c.args.bytes.now c.requires c.in-3.is

pub returns-in-1 : goal.returns-in-1
returns-in-1 c =
    let f : FitsSigned w128 c.narrow_number.result = search rules in
    ap Int (cast_128 c.narrow_number.result f ∙ c.narrow_number.ensures ∙ ap narrow_number c.split_at.ensures.back)
    ∙ sym (decoded_narrow c.args.bytes.now c.in-1.is)

pub returns-in-2 : goal.returns-in-2
returns-in-2 c =
    ap Text (c.from_bytes.ensures ∙ c.split_at-in-2.ensures.back ∙ ap (drop 1) c.split_at.ensures.back)
    ∙ sym (decoded_text c.args.bytes.now c.in-2.is)

pub returns-in-3 : goal.returns-in-3
returns-in-3 c =
    let f : FitsSigned w128 c.wide_number.result = search rules in
    ap Int (cast_128 c.wide_number.result f ∙ c.wide_number.ensures ∙ ap wide_number c.split_at.ensures.back)
    ∙ sym (decoded_wide c.args.bytes.now c.in-3.is)

pub returns-in_default : goal.returns-in_default
returns-in_default c = let h = c.in_default in sym (decoded_other c.args.bytes.now (λ e. omega arith) (λ e. omega arith) (λ e. omega arith))
