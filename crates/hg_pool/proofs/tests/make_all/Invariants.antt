use Rattle.std.proofs.Common.{◌≡◌}
use Rattle.hg_io.specs.contracts.device.MemDevicePageDevice.TheImpl as mem
use Rattle.hg_pool.specs.Lending.{lent_of}
use Rattle.hg_pool.specs.Resizing.{NoneOut}
use Rattle.hg_pool.specs.Shown.{state_of, max_of}
use Rattle.hg_pool.proofs.tests.make_all.Given as goal

abbrev pub invariant-loop-turn : goal.invariant-loop-turn
invariant-loop-turn l = record {
  none_out : NoneOut (state_of mem.ghosts mem.ghosts l.space);
  max : max_of l.space ≡ max_of l.initial.space;
  lent : lent_of l.space ≡ lent_of l.initial.space;
}
