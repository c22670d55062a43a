use Rattle.std.proofs.Common.{◌≡◌, ◌<◌, ◌≤◌, length, get_or, refl, sym, ap, ◌∙◌, arith}
use Rattle.std.specs.Prelude.{nat_lt, not}
use Rattle.std.specs.Cmp.{first_so, second_so}
use borrow.Author.Tests.{ltb-true}
use Rattle.hg_model.specs.Evaluation.{as_truth, truth_of, value_at}
use Rattle.hg_model.specs.NullLogic.{both, either, opposite, known, is_null, compare}
use Rattle.hg_model.specs.declared.trees.Node.TheVariants as node
use Rattle.hg_expr.proofs.Nodes.{truth_is, children_are, value_behind, both_false, either_true, no_truth}
use Rattle.hg_expr.specs.Over.{leaves_at, values_over}
use Rattle.hg_expr.proofs.evaluation.Evaluation.+truth.Goals as goal

pub returns-then-place-self : goal.returns-then-place-self
returns-then-place-self t c =
    sym (ap as_truth (value_behind c.args.self.now.texts.now c.args.self.now.slots.now c.args.self.now.nodes.now c.args.self.now.row.now c.args.n (omega (arith, c.if-place-self.true))))

pub truth-requires : goal.truth-requires
truth-requires t c =
    let lt : c.args.n < length c.args.self.now.nodes.now = omega (arith, c.if-place-self.false) in
    let h = children_are c.args.self.now.texts.now c.args.self.now.slots.now c.args.self.now.nodes.now c.args.self.now.row.now c.args.n c.index-self-place.result (node.Both c.in-Both.a c.in-Both.b) c.requires.sound.tree lt c.in-Both.is in
    (omega (arith, c.decreases, ltb-true c.in-Both.a c.args.n (first_so (nat_lt c.in-Both.a c.args.n) (nat_lt c.in-Both.b c.args.n) h)), (c.requires.sound, c.requires.fits))

pub truth-requires-in_default-truth : goal.truth-requires-in_default-truth
truth-requires-in_default-truth t c =
    let lt : c.args.n < length c.args.self.now.nodes.now = omega (arith, c.if-place-self.false) in
    let h = children_are c.args.self.now.texts.now c.args.self.now.slots.now c.args.self.now.nodes.now c.args.self.now.row.now c.args.n c.index-self-place.result (node.Both c.in-Both.a c.in-Both.b) c.requires.sound.tree lt c.in-Both.is in
    (omega (arith, c.decreases, ltb-true c.in-Both.b c.args.n (second_so (nat_lt c.in-Both.a c.args.n) (nat_lt c.in-Both.b c.args.n) h)), (c.requires.sound, c.requires.fits))

pub truth-requires-in-Either : goal.truth-requires-in-Either
truth-requires-in-Either t c =
    let lt : c.args.n < length c.args.self.now.nodes.now = omega (arith, c.if-place-self.false) in
    let h = children_are c.args.self.now.texts.now c.args.self.now.slots.now c.args.self.now.nodes.now c.args.self.now.row.now c.args.n c.index-self-place.result (node.Either c.in-Either.a c.in-Either.b) c.requires.sound.tree lt c.in-Either.is in
    (omega (arith, c.decreases, ltb-true c.in-Either.a c.args.n (first_so (nat_lt c.in-Either.a c.args.n) (nat_lt c.in-Either.b c.args.n) h)), (c.requires.sound, c.requires.fits))

pub truth-requires-in_default-truth-2 : goal.truth-requires-in_default-truth-2
truth-requires-in_default-truth-2 t c =
    let lt : c.args.n < length c.args.self.now.nodes.now = omega (arith, c.if-place-self.false) in
    let h = children_are c.args.self.now.texts.now c.args.self.now.slots.now c.args.self.now.nodes.now c.args.self.now.row.now c.args.n c.index-self-place.result (node.Either c.in-Either.a c.in-Either.b) c.requires.sound.tree lt c.in-Either.is in
    (omega (arith, c.decreases, ltb-true c.in-Either.b c.args.n (second_so (nat_lt c.in-Either.a c.args.n) (nat_lt c.in-Either.b c.args.n) h)), (c.requires.sound, c.requires.fits))

pub truth-requires-in-Not : goal.truth-requires-in-Not
truth-requires-in-Not t c =
    let lt : c.args.n < length c.args.self.now.nodes.now = omega (arith, c.if-place-self.false) in
    let h = children_are c.args.self.now.texts.now c.args.self.now.slots.now c.args.self.now.nodes.now c.args.self.now.row.now c.args.n c.index-self-place.result (node.Not c.in-Not.a) c.requires.sound.tree lt c.in-Not.is in
    (omega (arith, c.decreases, ltb-true c.in-Not.a c.args.n h), (c.requires.sound, c.requires.fits))

pub returns-in-Compare : goal.returns-in-Compare
returns-in-Compare t c =
    let lt : c.args.n < length c.args.self.now.nodes.now = omega (arith, c.if-place-self.false) in
    c.compare.ensures ∙ (λ i. compare c.in-Compare.cmp (c.value-left.ensures.value i) (c.value-right.ensures.value i))
    ∙ sym (truth_is c.args.self.now.texts.now c.args.self.now.slots.now c.args.self.now.nodes.now c.args.self.now.row.now c.args.n c.index-self-place.result (node.Compare c.in-Compare.cmp c.in-Compare.a c.in-Compare.b) c.requires.sound.tree lt c.in-Compare.is)

pub returns-in-False : goal.returns-in-False
returns-in-False t c =
    let lt : c.args.n < length c.args.self.now.nodes.now = omega (arith, c.if-place-self.false) in
    sym (truth_is c.args.self.now.texts.now c.args.self.now.slots.now c.args.self.now.nodes.now c.args.self.now.row.now c.args.n c.index-self-place.result (node.Both c.in-Both.a c.in-Both.b) c.requires.sound.tree lt c.in-Both.is
    ∙ ap (λ t'. both t' (truth_of (values_over c.args.self.now.texts.now c.args.self.now.slots.now c.args.self.now.nodes.now c.args.self.now.row.now) c.in-Both.b)) (sym c.truth.ensures ∙ c.in-False.is)
    ∙ both_false (truth_of (values_over c.args.self.now.texts.now c.args.self.now.slots.now c.args.self.now.nodes.now c.args.self.now.row.now) c.in-Both.b))

pub returns-in_default-truth : goal.returns-in_default-truth
returns-in_default-truth t c =
    let lt : c.args.n < length c.args.self.now.nodes.now = omega (arith, c.if-place-self.false) in
    c.both.ensures ∙ (λ i. both (c.truth.ensures i) (c.truth-in_default-truth.ensures i))
    ∙ sym (truth_is c.args.self.now.texts.now c.args.self.now.slots.now c.args.self.now.nodes.now c.args.self.now.row.now c.args.n c.index-self-place.result (node.Both c.in-Both.a c.in-Both.b) c.requires.sound.tree lt c.in-Both.is)

pub returns-in-True : goal.returns-in-True
returns-in-True t c =
    let lt : c.args.n < length c.args.self.now.nodes.now = omega (arith, c.if-place-self.false) in
    sym (truth_is c.args.self.now.texts.now c.args.self.now.slots.now c.args.self.now.nodes.now c.args.self.now.row.now c.args.n c.index-self-place.result (node.Either c.in-Either.a c.in-Either.b) c.requires.sound.tree lt c.in-Either.is
    ∙ ap (λ t'. either t' (truth_of (values_over c.args.self.now.texts.now c.args.self.now.slots.now c.args.self.now.nodes.now c.args.self.now.row.now) c.in-Either.b)) (sym c.truth-in-Either.ensures ∙ c.in-True.is)
    ∙ either_true (truth_of (values_over c.args.self.now.texts.now c.args.self.now.slots.now c.args.self.now.nodes.now c.args.self.now.row.now) c.in-Either.b))

pub returns-in_default-truth-2 : goal.returns-in_default-truth-2
returns-in_default-truth-2 t c =
    let lt : c.args.n < length c.args.self.now.nodes.now = omega (arith, c.if-place-self.false) in
    c.either.ensures ∙ (λ i. either (c.truth-in-Either.ensures i) (c.truth-in_default-truth-2.ensures i))
    ∙ sym (truth_is c.args.self.now.texts.now c.args.self.now.slots.now c.args.self.now.nodes.now c.args.self.now.row.now c.args.n c.index-self-place.result (node.Either c.in-Either.a c.in-Either.b) c.requires.sound.tree lt c.in-Either.is)

pub returns-in-Not : goal.returns-in-Not
returns-in-Not t c =
    let lt : c.args.n < length c.args.self.now.nodes.now = omega (arith, c.if-place-self.false) in
    c.opposite.ensures ∙ ap opposite c.truth-in-Not.ensures ∙ sym (truth_is c.args.self.now.texts.now c.args.self.now.slots.now c.args.self.now.nodes.now c.args.self.now.row.now c.args.n c.index-self-place.result (node.Not c.in-Not.a) c.requires.sound.tree lt c.in-Not.is)

pub returns-in-IsNull : goal.returns-in-IsNull
returns-in-IsNull t c =
    let lt : c.args.n < length c.args.self.now.nodes.now = omega (arith, c.if-place-self.false) in
    c.known.ensures ∙ ap known (c.is_null.ensures ∙ ap is_null c.value.ensures.value) ∙ sym (truth_is c.args.self.now.texts.now c.args.self.now.slots.now c.args.self.now.nodes.now c.args.self.now.row.now c.args.n c.index-self-place.result (node.IsNull c.in-IsNull.a) c.requires.sound.tree lt c.in-IsNull.is)

pub returns-in-NotNull : goal.returns-in-NotNull
returns-in-NotNull t c =
    let lt : c.args.n < length c.args.self.now.nodes.now = omega (arith, c.if-place-self.false) in
    c.known-in-NotNull.ensures ∙ ap (λ b. known (not b)) (c.is_null-in-NotNull.ensures ∙ ap is_null c.value-in-NotNull.ensures.value)
    ∙ sym (truth_is c.args.self.now.texts.now c.args.self.now.slots.now c.args.self.now.nodes.now c.args.self.now.row.now c.args.n c.index-self-place.result (node.NotNull c.in-NotNull.a) c.requires.sound.tree lt c.in-NotNull.is)

pub returns-in_default : goal.returns-in_default
returns-in_default t c =
    let lt : c.args.n < length c.args.self.now.nodes.now = omega (arith, c.if-place-self.false) in
    sym (truth_is c.args.self.now.texts.now c.args.self.now.slots.now c.args.self.now.nodes.now c.args.self.now.row.now c.args.n c.index-self-place.result (get_or c.args.self.now.nodes.now c.args.n c.index-self-place.result) c.requires.sound.tree lt refl
    ∙ no_truth (value_at (leaves_at c.args.self.now.row.now c.args.self.now.nodes.now c.args.self.now.slots.now) c.args.n) c.args.self.now.texts.now (values_over c.args.self.now.texts.now c.args.self.now.slots.now c.args.self.now.nodes.now c.args.self.now.row.now) (get_or c.args.self.now.nodes.now c.args.n c.index-self-place.result)
    c.in_default.not-Compare c.in_default.not-Both c.in_default.not-Either c.in_default.not-Not c.in_default.not-IsNull c.in_default.not-NotNull)
