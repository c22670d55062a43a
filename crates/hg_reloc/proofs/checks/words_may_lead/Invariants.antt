use Rattle.std.proofs.Common.{ℕ, List}
use Rattle.hg_reloc.specs.Checks.{Marks}
use Rattle.hg_reloc.proofs.Linking.{Rest}
use Rattle.hg_reloc.proofs.checks.words_may_lead.Given as goal

abbrev pub invariant-loop-k : goal.invariant-loop-k
invariant-loop-k l = (places : List ℕ) → Marks l.begins places → Rest l.own l.max places l.page l.at l.count l.k
