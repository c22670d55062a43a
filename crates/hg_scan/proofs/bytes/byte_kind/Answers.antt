use Rattle.std.proofs.Common.{refl, arith}
use Rattle.hg_scan.specs.Bytes.{kind_of}
use Rattle.hg_scan.proofs.FrontKinds.{kinds_from, from_table, letter_at, digit_at}
use Rattle.hg_scan.proofs.bytes.byte_kind.Goals as goal

pub returns-clause-kind : goal.returns-clause-kind
unfolding kinds_from kind_of
returns-clause-kind c = from_table _ c.args.b (omega arith) refl

pub returns-clause-letter : goal.returns-clause-letter
unfolding kinds_from kind_of
returns-clause-letter c = letter_at c.args.b _ (omega arith) (from_table _ c.args.b (omega arith) refl)

pub returns-clause-digit : goal.returns-clause-digit
unfolding kinds_from kind_of
returns-clause-digit c = digit_at c.args.b _ (omega arith) (from_table _ c.args.b (omega arith) refl)
