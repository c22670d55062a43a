use Rattle.std.proofs.Common.{arith}
use Rattle.hg_base.specs.Plain.{page_limit}
use Rattle.hg_base.specs.PlainSpaces.{counts_of, state_of}
use Rattle.hg_base.proofs.PlainSteps.{count-rest}
use Rattle.hg_base.specs.TakenLaws.{taken_below-le}
use Rattle.hg_base.proofs.plain_parts.PlainParts.count_taken.Goals as goal

pub returns-then-place_of-len : goal.returns-then-place_of-len
returns-then-place_of-len c =
    count-rest c.args.self.now.slots.items c.args.file c.loop-no.no c.loop-no.count (page_limit c.args.file) c.args.self.now.pins (counts_of c.args.self.now) (state_of c.args.self.now).heaps c.loop-no.invariant (omega arith) (omega arith)

pub overflow_add-count : goal.overflow_add-count
overflow_add-count c = omega (arith, taken_below-le (state_of c.args.self.now).taken c.args.file c.loop-no.no, c.loop-no.invariant)
