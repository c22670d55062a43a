use Rattle.std.proofs.Common.{◌∙◌, arith, refl}
use Rattle.hg_model.specs.declared.trees.Node.TheVariants as node
use Rattle.hg_model.specs.declared.trees.Op.TheVariants.{Mul}
use Rattle.hg_parse.proofs.Expressions.{join_go, join_fail, item_by, item_none, turn_go, turn_fail, turn_stop, sum_go, sum_fail, sum_stop}
use Rattle.hg_parse.proofs.Turns.{far, eaten_far, pushed_far}
use Rattle.hg_parse.specs.Descent.{inside, and_turn, or_turn, term_turn, items_turn, negation, conjunction, sum, factor, joins, item_joined}
use Rattle.hg_parse.specs.Kept.{kept, keeper}
use Rattle.hg_parse.specs.Steps.{and_then}
use Rattle.hg_parse.proofs.expression.+expression.Goals as goal

pub conjunction-chain-preserved : goal.conjunction-chain-preserved
conjunction-chain-preserved t c =
    let short = c.chain-test.ensures.shorter in
    let on = c.in-Ok.ensures.moves in
    let less = on.goes_on.tokens in
    record {
      reads = c.chain.invariant.reads ∙ join_go keeper (and_turn keeper c.args.depth (inside keeper c.args.depth)) (negation keeper c.args.depth (inside keeper c.args.depth)) node.Both _ _ _ _ _ _ _ _ _ _
          refl c.chain-test.ensures.found c.chain-test.ensures.rest c.in-Ok.ensures.reads c.push_both-n.ensures.kept c.push_both-n.ensures.index (omega arith);
      moves = pushed_far _ _ _ _ _ (far _ _ _ _ _ _ (eaten_far _ _ _ _ _ c.chain.invariant.moves c.chain-test.ensures.goes_on) on) c.push_both-n.ensures.texts;
    }

pub conjunction-returns-in_default-clause-reads : goal.conjunction-returns-in_default-clause-reads
conjunction-returns-in_default-clause-reads t c =
    c.chain.invariant.reads ∙ join_fail keeper (and_turn keeper c.args.depth (inside keeper c.args.depth)) (negation keeper c.args.depth (inside keeper c.args.depth)) node.Both _ _ _ _ _
    refl c.chain-test.ensures.found c.chain-test.ensures.rest c.in_default.ensures.reads

pub conjunction-returns-clause-reads : goal.conjunction-returns-clause-reads
conjunction-returns-clause-reads t c =
    c.chain.invariant.reads ∙ turn_stop (and_turn keeper c.args.depth (inside keeper c.args.depth)) (joins keeper (negation keeper c.args.depth (inside keeper c.args.depth)) node.Both (kept c.chain.room) c.chain.n) _ _ _ _ _
    refl c.chain-test.ensures.found c.chain-test.ensures.rest

pub disjunction-chain-preserved : goal.disjunction-chain-preserved
disjunction-chain-preserved t c =
    let short = c.chain-test.ensures.shorter in
    let on = c.in-Ok.ensures.moves in
    let less = on.goes_on.tokens in
    record {
      reads = c.chain.invariant.reads ∙ join_go keeper (or_turn keeper c.args.depth (inside keeper c.args.depth)) (conjunction keeper c.args.depth (inside keeper c.args.depth)) node.Either _ _ _ _ _ _ _ _ _ _
          refl c.chain-test.ensures.found c.chain-test.ensures.rest c.in-Ok.ensures.reads c.push_either-n.ensures.kept c.push_either-n.ensures.index (omega arith);
      moves = pushed_far _ _ _ _ _ (far _ _ _ _ _ _ (eaten_far _ _ _ _ _ c.chain.invariant.moves c.chain-test.ensures.goes_on) on) c.push_either-n.ensures.texts;
    }

pub disjunction-returns-in_default-clause-reads : goal.disjunction-returns-in_default-clause-reads
disjunction-returns-in_default-clause-reads t c =
    c.chain.invariant.reads ∙ join_fail keeper (or_turn keeper c.args.depth (inside keeper c.args.depth)) (conjunction keeper c.args.depth (inside keeper c.args.depth)) node.Either _ _ _ _ _
    refl c.chain-test.ensures.found c.chain-test.ensures.rest c.in_default.ensures.reads

pub disjunction-returns-clause-reads : goal.disjunction-returns-clause-reads
disjunction-returns-clause-reads t c =
    c.chain.invariant.reads ∙ turn_stop (or_turn keeper c.args.depth (inside keeper c.args.depth)) (joins keeper (conjunction keeper c.args.depth (inside keeper c.args.depth)) node.Either (kept c.chain.room) c.chain.n) _ _ _ _ _
    refl c.chain-test.ensures.found c.chain-test.ensures.rest

pub term-chain-preserved : goal.term-chain-preserved
term-chain-preserved t c =
    let short = c.chain-test.ensures.shorter in
    let on = c.in-Ok.ensures.moves in
    let less = on.goes_on.tokens in
    record {
      reads = c.chain.invariant.reads ∙ join_go keeper (term_turn keeper c.args.depth (inside keeper c.args.depth)) (factor keeper c.args.depth (inside keeper c.args.depth)) (node.Arith Mul) _ _ _ _ _ _ _ _ _ _
          refl c.chain-test.ensures.found c.chain-test.ensures.rest c.in-Ok.ensures.reads c.push_arith-n.ensures.kept c.push_arith-n.ensures.index (omega arith);
      moves = pushed_far _ _ _ _ _ (far _ _ _ _ _ _ (eaten_far _ _ _ _ _ c.chain.invariant.moves c.chain-test.ensures.goes_on) on) c.push_arith-n.ensures.texts;
    }

pub term-returns-in_default-clause-reads : goal.term-returns-in_default-clause-reads
term-returns-in_default-clause-reads t c =
    c.chain.invariant.reads ∙ join_fail keeper (term_turn keeper c.args.depth (inside keeper c.args.depth)) (factor keeper c.args.depth (inside keeper c.args.depth)) (node.Arith Mul) _ _ _ _ _
    refl c.chain-test.ensures.found c.chain-test.ensures.rest c.in_default.ensures.reads

pub term-returns-clause-reads : goal.term-returns-clause-reads
term-returns-clause-reads t c =
    c.chain.invariant.reads ∙ turn_stop (term_turn keeper c.args.depth (inside keeper c.args.depth)) (joins keeper (factor keeper c.args.depth (inside keeper c.args.depth)) (node.Arith Mul) (kept c.chain.room) c.chain.n) _ _ _ _ _
    refl c.chain-test.ensures.found c.chain-test.ensures.rest

pub items-chain-preserved : goal.items-chain-preserved
items-chain-preserved t c =
    let short = c.chain-test.ensures.shorter in
    let on = c.in-Ok.ensures.moves in
    let less = on.goes_on.tokens in
    record {
      reads = c.chain.invariant.reads ∙ turn_go (items_turn keeper c.args.depth (inside keeper c.args.depth) c.args.m) (λ ms. and_then (sum keeper c.args.depth (inside keeper c.args.depth) (kept c.chain.room) ms) (item_joined keeper c.args.m c.chain.n)) _ _ _ _ _ _ _ _
          refl c.chain-test.ensures.found c.chain-test.ensures.rest
          (item_by keeper (sum keeper c.args.depth (inside keeper c.args.depth)) _ _ _ _ _ _ _ _ _ _ _ c.in-Ok.ensures.reads c.push_compare-equal.ensures.kept c.push_compare-equal.ensures.index c.push_either-n.ensures.kept c.push_either-n.ensures.index)
          (omega arith);
      moves = pushed_far _ _ _ c.push_compare-equal.new.self _ (pushed_far _ _ _ c.sum-in-chain.new.room c.push_compare-equal.new.self (far _ _ _ _ _ _ (eaten_far _ _ _ _ _ c.chain.invariant.moves c.chain-test.ensures.goes_on) on) c.push_compare-equal.ensures.texts)
          c.push_either-n.ensures.texts;
    }

pub items-returns-in_default-clause-reads : goal.items-returns-in_default-clause-reads
items-returns-in_default-clause-reads t c =
    c.chain.invariant.reads ∙ turn_fail (items_turn keeper c.args.depth (inside keeper c.args.depth) c.args.m) (λ ms. and_then (sum keeper c.args.depth (inside keeper c.args.depth) (kept c.chain.room) ms) (item_joined keeper c.args.m c.chain.n)) _ _ _ _ _
    refl c.chain-test.ensures.found c.chain-test.ensures.rest (item_none keeper (sum keeper c.args.depth (inside keeper c.args.depth)) _ _ _ _ c.in_default.ensures.reads)

pub items-returns-clause-reads : goal.items-returns-clause-reads
items-returns-clause-reads t c =
    c.chain.invariant.reads ∙ turn_stop (items_turn keeper c.args.depth (inside keeper c.args.depth) c.args.m) (λ ms. and_then (sum keeper c.args.depth (inside keeper c.args.depth) (kept c.chain.room) ms) (item_joined keeper c.args.m c.chain.n)) _ _ _ _ _
    refl c.chain-test.ensures.found c.chain-test.ensures.rest

pub sum-chain-preserved : goal.sum-chain-preserved
sum-chain-preserved t c =
    let on = c.in-Ok.ensures.moves in
    record {
      reads = c.chain.invariant.reads ∙ sum_go keeper c.args.depth (inside keeper c.args.depth) _ _ _ _ _ _ _ _ _ _
          c.in-Some.ensures.reads c.in-Some.ensures.rest c.in-Ok.ensures.reads c.push_arith-n.ensures.kept c.push_arith-n.ensures.index on.goes_on.tokens;
      moves = pushed_far _ _ _ _ _ (far _ _ _ _ _ _ (eaten_far _ _ _ _ _ c.chain.invariant.moves c.in-Some.ensures.goes_on) on) c.push_arith-n.ensures.texts;
    }

pub sum-returns-in_default-term-clause-reads : goal.sum-returns-in_default-term-clause-reads
sum-returns-in_default-term-clause-reads t c =
    c.chain.invariant.reads ∙ sum_fail keeper c.args.depth (inside keeper c.args.depth) _ _ _ _ _ c.in-Some.ensures.reads c.in-Some.ensures.rest c.in_default-term.ensures.reads

pub sum-returns-clause-reads : goal.sum-returns-clause-reads
sum-returns-clause-reads t c = c.chain.invariant.reads ∙ sum_stop keeper c.args.depth (inside keeper c.args.depth) _ _ _ _ c.in_default.ensures.reads c.in_default.ensures.rest
