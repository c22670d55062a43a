use Rattle.std.proofs.Common.{subst, sym, IsSome}
use Rattle.hg_base.specs.HeapStates.{payload_in}
use Rattle.hg_base.specs.PlainSpaces.{state_of}
use Rattle.hg_base.specs.PlainLoans.{loan-whole}
use Rattle.hg_base.proofs.plain_heaps.PlainSpaceHeaps.payload_mut.Goals as goal

pub invariant_of-self-lent : goal.invariant_of-self-lent
invariant_of-self-lent c w =
    loan-whole c.self.inside.parts c.args.h.0 c.args.a.word w c.self.invariant
    (subst (λ z. IsSome (payload_in (state_of z) c.args.h.0 c.args.a.word)) (sym c.self.view_is) c.requires)
