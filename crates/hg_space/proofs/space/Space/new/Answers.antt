use Rattle.std.proofs.Common.{arith}
use Rattle.hg_space.specs.ShownLaws.{pages_of_sound}
use Rattle.hg_space.proofs.KeptLemmas.{made-unused, kept-made}
use Rattle.hg_space.proofs.space.Space.new.Goals as goal

pub invariant_of-result : goal.invariant_of-result
invariant_of-result c = (
  kept-made _ _ c.levels_for-levels.ensures.start c.levels_for-levels.ensures.few c.levels_for-levels.ensures.enough
      c.in-Ok.ensures.len c.in-Ok.ensures.none c.in-Ok-no_bits.ensures.len c.in-Ok-with_capacity.ensures.items,
  record {
    for_free = omega (arith, c.in-Ok.ensures.room);
    for_linked = omega (arith, c.in-Ok-no_bits.ensures.room);
    for_links = omega (arith, c.in-Ok-with_capacity.ensures.exact);
  },
)

pub returns-clause-made : goal.returns-clause-made
returns-clause-made c = made-unused _ c.in-Ok-with_capacity.ensures.items

pub returns-clause-sound : goal.returns-clause-sound
returns-clause-sound c = pages_of_sound _ (invariant_of-result c).0.within
