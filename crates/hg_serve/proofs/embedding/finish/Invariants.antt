use Rattle.std.proofs.Common.{◌≡◌, ◌↔◌, true}
use Rattle.hg_engine.specs.Shown.{is_pending, turns_left}
use Rattle.hg_reply.specs.declared.machine.Next.TheVariants.{More}
use Rattle.hg_serve.proofs.embedding.finish.Given as goal

abbrev pub invariant-loop-next : goal.invariant-loop-next
invariant-loop-next l = record { more : (l.next ≡ More) ↔ (is_pending l.engine ≡ true) }

abbrev pub decreases-loop-next : goal.decreases-loop-next
decreases-loop-next l = turns_left l.engine
