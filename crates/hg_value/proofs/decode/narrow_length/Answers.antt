use Rattle.std.proofs.Common.{rules, arith}
use Rattle.hg_value.proofs.Beginnings.{begins_narrow, none_narrow}
use Rattle.hg_value.proofs.decode.narrow_length.Goals as goal

pub returns-then-bytes-lt5 : goal.returns-then-bytes-lt5
returns-then-bytes-lt5 c = none_narrow c.args.bytes.now c.requires (omega arith)

pub returns : goal.returns
returns c = begins_narrow c.args.bytes.now (search rules) c.requires (omega arith)
