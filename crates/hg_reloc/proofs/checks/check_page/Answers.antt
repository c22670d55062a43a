use Rattle.std.proofs.Common.{arith}
use Rattle.hg_reloc.proofs.Linking.{frame_at}
use Rattle.hg_reloc.proofs.checks.check_page.Goals as goal

pub are_linked-requires-clause-own : goal.are_linked-requires-clause-own
are_linked-requires-clause-own c = frame_at c.args.page.now c.get_u32-own.result c.get_u32-own.ensures.value

pub returns-then-own-max : goal.returns-then-own-max
returns-then-own-max c = record {
  blocks = c.in_ok-mark_objects.ensures.blocks;
  has = c.in_ok-mark_objects.ensures.has;
  above = let e = frame_at c.args.page.now c.get_u32-own.result c.get_u32-own.ensures.value in omega (arith, c.if-own-max.true);
}
