use Rattle.std.proofs.Common.{◌≡◌, ◌<◌, ◌++◌, length, sym, ap, ◌∙◌, subst}
use Rattle.std.specs.List.{AllByRecursion}
use Rattle.hg_value.specs.Choosing.{HasRoomFor}
use Rattle.hg_value.specs.Looks.{chosen}
use Rattle.hg_value.specs.RowParts.{row_values, AreParts}
use Rattle.hg_value.proofs.Reading.{is_read}
use Rattle.hg_value.proofs.Rows.{length-values}
use Rattle.hg_value.proofs.row.Row.push_columns.Goals as goal

pub append_columns-requires-clause-parts : goal.append_columns-requires-clause-parts
append_columns-requires-clause-parts c =
    subst (λ es. AreParts es c.args.bytes.now) (sym c.as_slice.ensures)
    (is_read c.args.n c.args.bytes.now c.read_ends.new.ends c.if-not-read_ends.ensures.found).parts

pub append_columns-requires-clause-columns : goal.append_columns-requires-clause-columns
append_columns-requires-clause-columns c =
    let count = (is_read c.args.n c.args.bytes.now c.read_ends.new.ends c.if-not-read_ends.ensures.found).row.count in
    let same : c.args.n ≡ length c.as_slice.result.now =
    sym count ∙ length-values 0 c.read_ends.new.ends c.args.bytes.now ∙ ap length (sym c.as_slice.ensures) in
    subst (λ m. AllByRecursion (λ k. k < m) c.args.columns.now) same c.requires.columns

pub returns-in-Ok-clause-ok : goal.returns-in-Ok-clause-ok
returns-in-Ok-clause-ok c vs w =
    let is : row_values c.as_slice.result.now c.args.bytes.now ≡ vs =
    ap (λ es. row_values es c.args.bytes.now) c.as_slice.ensures
    ∙ (is_read c.args.n c.args.bytes.now c.read_ends.new.ends c.if-not-read_ends.ensures.found).only vs w in
    c.in-Ok.ensures.ok ∙ ap (λ r. c.args.self.now ++ chosen r c.args.columns.now) is

pub returns-in-Err-clause-cause : goal.returns-in-Err-clause-cause
returns-in-Err-clause-cause c vs w room =
    let is : row_values c.as_slice.result.now c.args.bytes.now ≡ vs =
    ap (λ es. row_values es c.args.bytes.now) c.as_slice.ensures
    ∙ (is_read c.args.n c.args.bytes.now c.read_ends.new.ends c.if-not-read_ends.ensures.found).only vs w in
    c.in-Err.ensures.room (subst (λ r. HasRoomFor c.args.self.now (chosen r c.args.columns.now)) (sym is) room)
