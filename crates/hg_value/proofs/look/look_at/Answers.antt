use Rattle.std.proofs.Common.{rules, arith, ap, ◌∙◌, sym, length, drop}
use Rattle.std.specs.Prelude.{FitsSigned}
use Rattle.std.specs.Int.{w128}
use Rattle.hg_model.specs.declared.values.Value.TheVariants.{Int, Text}
use Rattle.hg_value.specs.RowParts.{narrow_number, wide_number}
use Rattle.hg_value.proofs.Codings.{cast_128}
use Rattle.hg_value.proofs.Beginnings.{four_bytes, sixteen_bytes, decoded_narrow, decoded_text, decoded_wide, decoded_other}
use Rattle.hg_value.proofs.look.look_at.Goals as goal

pub narrow_number-requires : goal.narrow_number-requires
narrow_number-requires c = ap length c.split_at.ensures.back ∙ four_bytes c.args.bytes.now c.requires c.in-1.is

pub wide_number-requires : goal.wide_number-requires
wide_number-requires c = ap length c.split_at.ensures.back ∙ sixteen_bytes c.args.bytes.now c.requires c.in-3.is

pub returns-in-1-clause-value : goal.returns-in-1-clause-value
returns-in-1-clause-value c =
    let f : FitsSigned w128 c.narrow_number.result = search rules in
    ap Int (cast_128 c.narrow_number.result f ∙ c.narrow_number.ensures ∙ ap narrow_number c.split_at.ensures.back)
    ∙ sym (decoded_narrow c.args.bytes.now c.in-1.is)

pub returns-in-2-clause-value : goal.returns-in-2-clause-value
returns-in-2-clause-value c =
    ap Text (c.split_at-in-2.ensures.back ∙ ap (drop 1) c.split_at.ensures.back)
    ∙ sym (decoded_text c.args.bytes.now c.in-2.is)

pub returns-in-3-clause-value : goal.returns-in-3-clause-value
returns-in-3-clause-value c =
    let f : FitsSigned w128 c.wide_number.result = search rules in
    ap Int (cast_128 c.wide_number.result f ∙ c.wide_number.ensures ∙ ap wide_number c.split_at.ensures.back)
    ∙ sym (decoded_wide c.args.bytes.now c.in-3.is)

pub returns-in_default-clause-value : goal.returns-in_default-clause-value
returns-in_default-clause-value c = let h = c.in_default in sym (decoded_other c.args.bytes.now (λ e. omega arith) (λ e. omega arith) (λ e. omega arith))
