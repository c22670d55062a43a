use Rattle.std.proofs.Common.{◌≡◌, ◌+◌, ◌-◌, vec_len}
use Rattle.hg_base.specs.PlainSpaces.{state_of, IsWhole}
use Rattle.hg_base.proofs.plain_parts.PlainParts.grow.Given as goal

abbrev pub invariant-loop-self : goal.invariant-loop-self
invariant-loop-self l = (state_of l.self ≡ state_of l.initial.self) × (IsWhole l.initial.self → IsWhole l.self)

abbrev pub decreases-loop-self : goal.decreases-loop-self
decreases-loop-self l = (l.at + 1) - vec_len l.self.slots
