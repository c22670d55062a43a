use Rattle.std.proofs.Common.{rules, arith, ap, ◌∙◌, sym, ◌≡◌, true, false}
use Rattle.hg_model.specs.Tables.{fits_integer}
use Rattle.hg_value.proofs.Beginnings.{begins_wide, none_wide, none_wide_narrow}
use Rattle.hg_value.proofs.Codings.{told}
use Rattle.hg_value.proofs.decode.wide_length.Goals as goal

pub returns-then-bytes-lt17 : goal.returns-then-bytes-lt17
returns-then-bytes-lt17 c = none_wide c.args.bytes.now c.requires (omega arith)

pub returns-then-is_narrow : goal.returns-then-is_narrow
returns-then-is_narrow c =
    let h : fits_integer c.wide_number.result ≡ true =
    told c.wide_number.result c.is_narrow.result true (search rules) c.is_narrow.ensures c.if-is_narrow.true in
    none_wide_narrow c.args.bytes.now c.requires (ap fits_integer (sym c.wide_number.ensures) ∙ h)

pub returns : goal.returns
returns c =
    let h : fits_integer c.wide_number.result ≡ false =
    told c.wide_number.result c.is_narrow.result false (search rules) c.is_narrow.ensures c.if-is_narrow.false in
    begins_wide c.args.bytes.now (search rules) c.requires (omega arith) (ap fits_integer (sym c.wide_number.ensures) ∙ h)
