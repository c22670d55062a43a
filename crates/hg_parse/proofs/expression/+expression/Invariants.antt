use Rattle.std.proofs.Common.{◌≡◌, ◌+◌, ◌*◌, length}
use Rattle.hg_parse.specs.AtHand.{tokens}
use Rattle.hg_parse.specs.Descent.{inside, and_turn, or_turn, term_turn, sum_turn, items_turn, conjunction, disjunction, term, sum, items}
use Rattle.hg_parse.specs.Kept.{kept, keeper, Moves}
use Rattle.hg_parse.specs.Steps.{chain}
use Rattle.hg_parse.proofs.expression.+expression.Given as goal

abbrev pub decreases-disjunction : goal.decreases-disjunction
decreases-disjunction l = 16 * l.depth + 15

abbrev pub decreases-conjunction : goal.decreases-conjunction
decreases-conjunction l = 16 * l.depth + 14

abbrev pub decreases-negation : goal.decreases-negation
decreases-negation l = 16 * l.depth + 13

abbrev pub decreases-predicate : goal.decreases-predicate
decreases-predicate l = 16 * l.depth + 12

abbrev pub decreases-tail : goal.decreases-tail
decreases-tail l = 16 * l.depth + 11

abbrev pub decreases-not_tail : goal.decreases-not_tail
decreases-not_tail l = 16 * l.depth + 10

abbrev pub decreases-between : goal.decreases-between
decreases-between l = 16 * l.depth + 9

abbrev pub decreases-in_list : goal.decreases-in_list
decreases-in_list l = 16 * l.depth + 8

abbrev pub decreases-items : goal.decreases-items
decreases-items l = 16 * l.depth + 7

abbrev pub decreases-sum : goal.decreases-sum
decreases-sum l = 16 * l.depth + 6

abbrev pub decreases-term : goal.decreases-term
decreases-term l = 16 * l.depth + 5

abbrev pub decreases-factor : goal.decreases-factor
decreases-factor l = 16 * l.depth + 4

abbrev pub decreases-primary : goal.decreases-primary
decreases-primary l = 16 * l.depth + 3

abbrev pub decreases-nested : goal.decreases-nested
decreases-nested l = 16 * l.depth + 2

abbrev pub decreases-aggregate : goal.decreases-aggregate
decreases-aggregate l = 16 * l.depth + 1

abbrev pub invariant-disjunction-chain : goal.invariant-disjunction-chain
invariant-disjunction-chain l = record {
  reads : disjunction keeper l.depth (inside keeper l.depth) (kept l.fn.room) (tokens l.fn.input)
      ≡ chain (or_turn keeper l.depth (inside keeper l.depth)) (kept l.room) l.n (tokens l.input);
  moves : Moves l.fn.input l.fn.room l.input l.room;
}

abbrev pub decreases-disjunction-chain : goal.decreases-disjunction-chain
decreases-disjunction-chain l = length (tokens l.input)

abbrev pub invariant-conjunction-chain : goal.invariant-conjunction-chain
invariant-conjunction-chain l = record {
  reads : conjunction keeper l.depth (inside keeper l.depth) (kept l.fn.room) (tokens l.fn.input)
      ≡ chain (and_turn keeper l.depth (inside keeper l.depth)) (kept l.room) l.n (tokens l.input);
  moves : Moves l.fn.input l.fn.room l.input l.room;
}

abbrev pub decreases-conjunction-chain : goal.decreases-conjunction-chain
decreases-conjunction-chain l = length (tokens l.input)

abbrev pub invariant-sum-chain : goal.invariant-sum-chain
invariant-sum-chain l = record {
  reads : sum keeper l.depth (inside keeper l.depth) (kept l.fn.room) (tokens l.fn.input)
      ≡ chain (sum_turn keeper l.depth (inside keeper l.depth)) (kept l.room) l.n (tokens l.input);
  moves : Moves l.fn.input l.fn.room l.input l.room;
}

abbrev pub decreases-sum-chain : goal.decreases-sum-chain
decreases-sum-chain l = length (tokens l.input)

abbrev pub invariant-term-chain : goal.invariant-term-chain
invariant-term-chain l = record {
  reads : term keeper l.depth (inside keeper l.depth) (kept l.fn.room) (tokens l.fn.input)
      ≡ chain (term_turn keeper l.depth (inside keeper l.depth)) (kept l.room) l.n (tokens l.input);
  moves : Moves l.fn.input l.fn.room l.input l.room;
}

abbrev pub decreases-term-chain : goal.decreases-term-chain
decreases-term-chain l = length (tokens l.input)

abbrev pub invariant-items-chain : goal.invariant-items-chain
invariant-items-chain l = record {
  reads : items keeper l.depth (inside keeper l.depth) l.m (kept l.fn.room) (tokens l.fn.input)
      ≡ chain (items_turn keeper l.depth (inside keeper l.depth) l.m) (kept l.room) l.n (tokens l.input);
  moves : Moves l.fn.input l.fn.room l.input l.room;
}

abbrev pub decreases-items-chain : goal.decreases-items-chain
decreases-items-chain l = length (tokens l.input)
