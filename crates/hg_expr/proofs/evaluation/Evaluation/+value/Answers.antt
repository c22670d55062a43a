use Rattle.std.proofs.Common.{◌≡◌, ◌<◌, ◌≤◌, length, get_or, refl, sym, ap, ◌∙◌, arith}
use Rattle.std.specs.Prelude.{nat_lt}
use Rattle.std.specs.Cmp.{first_so, second_so}
use borrow.Author.Tests.{ltb-true}
use Rattle.hg_model.specs.Evaluation.{negative, arithmetic, as_value, value_at}
use Rattle.hg_model.specs.declared.trees.Node.TheVariants as node
use Rattle.hg_value.specs.Looks.{value_of as seen}
use Rattle.hg_expr.proofs.Bounds.{below_by, small_by}
use Rattle.hg_expr.proofs.Nodes.{value_is, children_are, slot_is, value_behind, no_value}
use Rattle.hg_expr.specs.Over.{leaves_at, values_over}
use Rattle.hg_expr.proofs.evaluation.Evaluation.+value.Goals as goal

pub returns-then-place-self-clause-value : goal.returns-then-place-self-clause-value
returns-then-place-self-clause-value t c =
    sym (ap as_value (value_behind c.args.self.now.texts.now c.args.self.now.slots.now c.args.self.now.nodes.now c.args.self.now.row.now c.args.n (omega (arith, c.if-place-self.true))))

pub value-requires : goal.value-requires
value-requires t c =
    let lt : c.args.n < length c.args.self.now.nodes.now = omega (arith, c.if-place-self.false) in
    let h = children_are c.args.self.now.texts.now c.args.self.now.slots.now c.args.self.now.nodes.now c.args.self.now.row.now c.args.n c.index-self-place.result (node.Neg c.in-Neg.a) c.requires.sound.tree lt c.in-Neg.is in
    (omega (arith, c.decreases, ltb-true c.in-Neg.a c.args.n h), (c.requires.sound, c.requires.fits))

pub value-left-requires : goal.value-left-requires
value-left-requires t c =
    let lt : c.args.n < length c.args.self.now.nodes.now = omega (arith, c.if-place-self.false) in
    let h = children_are c.args.self.now.texts.now c.args.self.now.slots.now c.args.self.now.nodes.now c.args.self.now.row.now c.args.n c.index-self-place.result (node.Arith c.in-Arith.op c.in-Arith.a c.in-Arith.b) c.requires.sound.tree lt c.in-Arith.is in
    (omega (arith, c.decreases, ltb-true c.in-Arith.a c.args.n (first_so (nat_lt c.in-Arith.a c.args.n) (nat_lt c.in-Arith.b c.args.n) h)), (c.requires.sound, c.requires.fits))

pub value-right-requires : goal.value-right-requires
value-right-requires t c =
    let lt : c.args.n < length c.args.self.now.nodes.now = omega (arith, c.if-place-self.false) in
    let h = children_are c.args.self.now.texts.now c.args.self.now.slots.now c.args.self.now.nodes.now c.args.self.now.row.now c.args.n c.index-self-place.result (node.Arith c.in-Arith.op c.in-Arith.a c.in-Arith.b) c.requires.sound.tree lt c.in-Arith.is in
    (omega (arith, c.decreases, ltb-true c.in-Arith.b c.args.n (second_so (nat_lt c.in-Arith.a c.args.n) (nat_lt c.in-Arith.b c.args.n) h)), (c.requires.sound, c.requires.fits))

pub negative-requires : goal.negative-requires
negative-requires t c =
    let lt : c.args.n < length c.args.self.now.nodes.now = omega (arith, c.if-place-self.false) in
    small_by c.args.self.now.texts.now c.args.self.now.slots.now c.args.self.now.nodes.now c.args.self.now.row.now c.requires.sound c.requires.fits c.args.n (negative (seen c.value.result))
    (ap negative c.value.ensures.value ∙ sym (value_is c.args.self.now.texts.now c.args.self.now.slots.now c.args.self.now.nodes.now c.args.self.now.row.now c.args.n c.index-self-place.result (node.Neg c.in-Neg.a) c.requires.sound.tree lt c.in-Neg.is))

pub arithmetic-requires : goal.arithmetic-requires
arithmetic-requires t c =
    let lt : c.args.n < length c.args.self.now.nodes.now = omega (arith, c.if-place-self.false) in
    small_by c.args.self.now.texts.now c.args.self.now.slots.now c.args.self.now.nodes.now c.args.self.now.row.now c.requires.sound c.requires.fits c.args.n (arithmetic c.in-Arith.op (seen c.value-left.result) (seen c.value-right.result))
    ((λ i. arithmetic c.in-Arith.op (c.value-left.ensures.value i) (c.value-right.ensures.value i)) ∙ sym (value_is c.args.self.now.texts.now c.args.self.now.slots.now c.args.self.now.nodes.now c.args.self.now.row.now c.args.n c.index-self-place.result (node.Arith c.in-Arith.op c.in-Arith.a c.in-Arith.b) c.requires.sound.tree lt c.in-Arith.is))

pub returns-in-Lit-clause-value : goal.returns-in-Lit-clause-value
returns-in-Lit-clause-value t c =
    let lt : c.args.n < length c.args.self.now.nodes.now = omega (arith, c.if-place-self.false) in
    c.literal_value.ensures.value ∙ sym (value_is c.args.self.now.texts.now c.args.self.now.slots.now c.args.self.now.nodes.now c.args.self.now.row.now c.args.n c.index-self-place.result (node.Lit c.in-Lit.literal) c.requires.sound.tree lt c.in-Lit.is)

pub returns-in-Lit-clause-below : goal.returns-in-Lit-clause-below
returns-in-Lit-clause-below t c =
    let lt : c.args.n < length c.args.self.now.nodes.now = omega (arith, c.if-place-self.false) in
    below_by c.args.self.now.texts.now c.args.self.now.slots.now c.args.self.now.nodes.now c.args.self.now.row.now c.requires.sound c.requires.fits c.args.n (seen c.literal_value.result)
    (c.literal_value.ensures.value ∙ sym (value_is c.args.self.now.texts.now c.args.self.now.slots.now c.args.self.now.nodes.now c.args.self.now.row.now c.args.n c.index-self-place.result (node.Lit c.in-Lit.literal) c.requires.sound.tree lt c.in-Lit.is))

pub returns-in-Neg-clause-value : goal.returns-in-Neg-clause-value
returns-in-Neg-clause-value t c =
    let lt : c.args.n < length c.args.self.now.nodes.now = omega (arith, c.if-place-self.false) in
    c.negative.ensures ∙ ap negative c.value.ensures.value ∙ sym (value_is c.args.self.now.texts.now c.args.self.now.slots.now c.args.self.now.nodes.now c.args.self.now.row.now c.args.n c.index-self-place.result (node.Neg c.in-Neg.a) c.requires.sound.tree lt c.in-Neg.is)

pub returns-in-Neg-clause-below : goal.returns-in-Neg-clause-below
returns-in-Neg-clause-below t c =
    let lt : c.args.n < length c.args.self.now.nodes.now = omega (arith, c.if-place-self.false) in
    below_by c.args.self.now.texts.now c.args.self.now.slots.now c.args.self.now.nodes.now c.args.self.now.row.now c.requires.sound c.requires.fits c.args.n (seen c.negative.result)
    (c.negative.ensures ∙ ap negative c.value.ensures.value ∙ sym (value_is c.args.self.now.texts.now c.args.self.now.slots.now c.args.self.now.nodes.now c.args.self.now.row.now c.args.n c.index-self-place.result (node.Neg c.in-Neg.a) c.requires.sound.tree lt c.in-Neg.is))

pub returns-in-Arith-clause-value : goal.returns-in-Arith-clause-value
returns-in-Arith-clause-value t c =
    let lt : c.args.n < length c.args.self.now.nodes.now = omega (arith, c.if-place-self.false) in
    c.arithmetic.ensures ∙ (λ i. arithmetic c.in-Arith.op (c.value-left.ensures.value i) (c.value-right.ensures.value i)) ∙ sym (value_is c.args.self.now.texts.now c.args.self.now.slots.now c.args.self.now.nodes.now c.args.self.now.row.now c.args.n c.index-self-place.result (node.Arith c.in-Arith.op c.in-Arith.a c.in-Arith.b) c.requires.sound.tree lt c.in-Arith.is)

pub returns-in-Arith-clause-below : goal.returns-in-Arith-clause-below
returns-in-Arith-clause-below t c =
    let lt : c.args.n < length c.args.self.now.nodes.now = omega (arith, c.if-place-self.false) in
    below_by c.args.self.now.texts.now c.args.self.now.slots.now c.args.self.now.nodes.now c.args.self.now.row.now c.requires.sound c.requires.fits c.args.n (seen c.arithmetic.result)
    (c.arithmetic.ensures ∙ (λ i. arithmetic c.in-Arith.op (c.value-left.ensures.value i) (c.value-right.ensures.value i)) ∙ sym (value_is c.args.self.now.texts.now c.args.self.now.slots.now c.args.self.now.nodes.now c.args.self.now.row.now c.args.n c.index-self-place.result (node.Arith c.in-Arith.op c.in-Arith.a c.in-Arith.b) c.requires.sound.tree lt c.in-Arith.is))

pub returns-in-Col-clause-value : goal.returns-in-Col-clause-value
returns-in-Col-clause-value t c =
    let lt : c.args.n < length c.args.self.now.nodes.now = omega (arith, c.if-place-self.false) in
    let lp : c.args.n < length c.args.self.now.slots.now = omega (arith, lt, c.requires.fits.each) in
    c.slot_value.ensures.value ∙ sym (slot_is c.args.self.now.texts.now c.args.self.now.slots.now c.args.self.now.nodes.now c.args.self.now.row.now c.args.n c.index-self-place.result (node.Col c.in-Col.field-0) c.requires.sound.tree lt c.in-Col.is lp) ∙ sym (value_is c.args.self.now.texts.now c.args.self.now.slots.now c.args.self.now.nodes.now c.args.self.now.row.now c.args.n c.index-self-place.result (node.Col c.in-Col.field-0) c.requires.sound.tree lt c.in-Col.is)

pub returns-in-Col-clause-below : goal.returns-in-Col-clause-below
returns-in-Col-clause-below t c =
    let lt : c.args.n < length c.args.self.now.nodes.now = omega (arith, c.if-place-self.false) in
    let lp : c.args.n < length c.args.self.now.slots.now = omega (arith, lt, c.requires.fits.each) in
    below_by c.args.self.now.texts.now c.args.self.now.slots.now c.args.self.now.nodes.now c.args.self.now.row.now c.requires.sound c.requires.fits c.args.n (seen c.slot_value.result)
    (c.slot_value.ensures.value ∙ sym (slot_is c.args.self.now.texts.now c.args.self.now.slots.now c.args.self.now.nodes.now c.args.self.now.row.now c.args.n c.index-self-place.result (node.Col c.in-Col.field-0) c.requires.sound.tree lt c.in-Col.is lp) ∙ sym (value_is c.args.self.now.texts.now c.args.self.now.slots.now c.args.self.now.nodes.now c.args.self.now.row.now c.args.n c.index-self-place.result (node.Col c.in-Col.field-0) c.requires.sound.tree lt c.in-Col.is))

pub returns-in-Aggregate-clause-value : goal.returns-in-Aggregate-clause-value
returns-in-Aggregate-clause-value t c =
    let lt : c.args.n < length c.args.self.now.nodes.now = omega (arith, c.if-place-self.false) in
    let lp : c.args.n < length c.args.self.now.slots.now = omega (arith, lt, c.requires.fits.each) in
    c.slot_value-in-Aggregate.ensures.value ∙ sym (slot_is c.args.self.now.texts.now c.args.self.now.slots.now c.args.self.now.nodes.now c.args.self.now.row.now c.args.n c.index-self-place.result (node.Aggregate c.in-Aggregate.field-0 c.in-Aggregate.field-1) c.requires.sound.tree lt c.in-Aggregate.is lp) ∙ sym (value_is c.args.self.now.texts.now c.args.self.now.slots.now c.args.self.now.nodes.now c.args.self.now.row.now c.args.n c.index-self-place.result (node.Aggregate c.in-Aggregate.field-0 c.in-Aggregate.field-1) c.requires.sound.tree lt c.in-Aggregate.is)

pub returns-in-Aggregate-clause-below : goal.returns-in-Aggregate-clause-below
returns-in-Aggregate-clause-below t c =
    let lt : c.args.n < length c.args.self.now.nodes.now = omega (arith, c.if-place-self.false) in
    let lp : c.args.n < length c.args.self.now.slots.now = omega (arith, lt, c.requires.fits.each) in
    below_by c.args.self.now.texts.now c.args.self.now.slots.now c.args.self.now.nodes.now c.args.self.now.row.now c.requires.sound c.requires.fits c.args.n (seen c.slot_value-in-Aggregate.result)
    (c.slot_value-in-Aggregate.ensures.value ∙ sym (slot_is c.args.self.now.texts.now c.args.self.now.slots.now c.args.self.now.nodes.now c.args.self.now.row.now c.args.n c.index-self-place.result (node.Aggregate c.in-Aggregate.field-0 c.in-Aggregate.field-1) c.requires.sound.tree lt c.in-Aggregate.is lp) ∙ sym (value_is c.args.self.now.texts.now c.args.self.now.slots.now c.args.self.now.nodes.now c.args.self.now.row.now c.args.n c.index-self-place.result (node.Aggregate c.in-Aggregate.field-0 c.in-Aggregate.field-1) c.requires.sound.tree lt c.in-Aggregate.is))

pub returns-in_default : goal.returns-in_default
returns-in_default t c =
    let lt : c.args.n < length c.args.self.now.nodes.now = omega (arith, c.if-place-self.false) in
    record {
      value =
          sym (value_is c.args.self.now.texts.now c.args.self.now.slots.now c.args.self.now.nodes.now c.args.self.now.row.now c.args.n c.index-self-place.result (get_or c.args.self.now.nodes.now c.args.n c.index-self-place.result) c.requires.sound.tree lt refl
          ∙ no_value (value_at (leaves_at c.args.self.now.row.now c.args.self.now.nodes.now c.args.self.now.slots.now) c.args.n) c.args.self.now.texts.now (values_over c.args.self.now.texts.now c.args.self.now.slots.now c.args.self.now.nodes.now c.args.self.now.row.now) (get_or c.args.self.now.nodes.now c.args.n c.index-self-place.result)
          c.in_default.not-Lit c.in_default.not-Col c.in_default.not-Neg c.in_default.not-Arith c.in_default.not-Aggregate);
      below = tt;
      held = tt;
    }
