use Rattle.std.proofs.Common.{arith, inl, inr}
use Rattle.std.proofs.lemmas.Bool.{cases_lt}
use Rattle.hg_table.proofs.Seeing.{record-out}
use Rattle.hg_table.proofs.walk.next_slot.Goals as goal

pub returns-clause-next : goal.returns-clause-next
returns-clause-next c = λ k l. elim (cases_lt k c.loop-slot.slot) [
  | inl h ↦ c.loop-slot.invariant k l h
  | inr h ↦ let e = c.in-Ok.ensures.1 in record-out c.args.page.now k (omega arith)
]
