-- Reading goes on step by step.
use Rattle.std.proofs.Common.{refl, ◌∙◌, arith}
use Rattle.hg_parse.specs.AtHand.{GoesOn}
use Rattle.hg_parse.specs.declared.input.Input.{Input}

pub stays : (i : Input) → GoesOn i i
stays i = record { carried = refl; tokens = omega arith; left = omega arith }

pub goes_far : (i j k : Input) → GoesOn i j → GoesOn j k → GoesOn i k
goes_far i j k g h = record {
  carried = h.carried ∙ g.carried;
  tokens = (let a = g.tokens in let b = h.tokens in omega arith);
  left = (let a = g.left in let b = h.left in omega arith);
}
