use Rattle.std.specs.Prelude.{◌≤◌, ◌<◌, None, Some}
use Rattle.std.proofs.Common.{subst, rules, arith}
use Rattle.hg_btree.specs.Nodes.{IsFirst}
use Rattle.hg_index.specs.Walks.{entry_at, HasPrefix}
use Rattle.hg_index.proofs.Walking.{walk_ended, walk_over, walk_below, walk_met, first_proper}
use Rattle.hg_index.proofs.walk.step.Goals as goal

pub returns-in_default-clause-goes : goal.returns-in_default-clause-goes
returns-in_default-clause-goes g c = λ es pages leaves turns h places w. (
  tt,
  walk_ended es c.args.prefix.now c.args.low c.args.walk.now.key.items c.args.walk.now.from c.args.walk.now.least turns w
      (subst (λ k. IsFirst es (entry_at k c.args.walk.now.from) (None) c.seek.new.out.items) c.as_slice.ensures.value
      (subst (λ o. IsFirst es (entry_at c.as_slice.result.now c.args.walk.now.from) o c.seek.new.out.items) c.in_default.is (c.in_ok-number.ensures.first es pages leaves h))),
)

pub returns-then-not-begins_so-clause-goes : goal.returns-then-not-begins_so-clause-goes
returns-then-not-begins_so-clause-goes g c = λ es pages leaves turns h places w. (
  tt,
  walk_over es c.args.prefix.now c.args.low c.args.walk.now.key.items c.args.walk.now.from c.args.walk.now.least turns c.in-Some.number c.seek.new.out.items h.ascending w
      (subst (λ k. IsFirst es (entry_at k c.args.walk.now.from) (Some c.in-Some.number) c.seek.new.out.items) c.as_slice.ensures.value
      (subst (λ o. IsFirst es (entry_at c.as_slice.result.now c.args.walk.now.from) o c.seek.new.out.items) c.in-Some.is (c.in_ok-number.ensures.first es pages leaves h)))
      (let d : HasPrefix c.args.prefix.now c.seek.new.out.items → ⊥ = search rules in d),
)

pub returns-then-number-low-clause-goes : goal.returns-then-number-low-clause-goes
returns-then-number-low-clause-goes g c = λ es pages leaves turns h places w. (
  walk_below es c.args.prefix.now c.args.low c.args.walk.now.key.items c.args.walk.now.from c.args.walk.now.least turns c.in-Some.number c.seek.new.out.items h.ascending w
      (subst (λ k. IsFirst es (entry_at k c.args.walk.now.from) (Some c.in-Some.number) c.seek.new.out.items) c.as_slice.ensures.value
      (subst (λ o. IsFirst es (entry_at c.as_slice.result.now c.args.walk.now.from) o c.seek.new.out.items) c.in-Some.is (c.in_ok-number.ensures.first es pages leaves h)))
      (let d : HasPrefix c.args.prefix.now c.seek.new.out.items = search rules in d)
      (let l : c.in-Some.number < c.args.low = search rules in l),
  tt,
)

pub returns-else-number-low-clause-goes : goal.returns-else-number-low-clause-goes
returns-else-number-low-clause-goes g c = λ es pages leaves turns h places w.
    let f = subst (λ k. IsFirst es (entry_at k c.args.walk.now.from) (Some c.in-Some.number) c.seek.new.out.items) c.as_slice.ensures.value
    (subst (λ o. IsFirst es (entry_at c.as_slice.result.now c.args.walk.now.from) o c.seek.new.out.items) c.in-Some.is (c.in_ok-number.ensures.first es pages leaves h)) in
    let small = first_proper es (entry_at c.args.walk.now.key.items c.args.walk.now.from) c.in-Some.number c.seek.new.out.items places f in (
      walk_met es c.args.prefix.now c.args.low c.args.walk.now.key.items c.args.walk.now.from c.args.walk.now.least turns c.in-Some.number 18446744073709551615 c.lesser.result c.seek.new.out.items
          h.ascending w f
          (let d : HasPrefix c.args.prefix.now c.seek.new.out.items = search rules in d)
          (let l : c.args.low ≤ c.in-Some.number = search rules in l)
          (omega arith) c.lesser.ensures,
      tt,
    )
