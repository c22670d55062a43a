use Rattle.hg_slot.specs.Slotted.{IsSlotted}
use Rattle.hg_slot.proofs.tests.a_page_is_filled.Given as goal

abbrev pub invariant-loop-byte : goal.invariant-loop-byte
invariant-loop-byte g l = IsSlotted l.page
