use Rattle.std.proofs.Common.{sym, ◌∙◌, arith, length}
use Rattle.std.proofs.lemmas.List.Sums.{prefix_len_is}
use Rattle.hg_model.specs.Name.{is_digit}
use Rattle.hg_scan.proofs.cut.number_len.Goals as goal

pub returns-then-not-is_digit : goal.returns-then-not-is_digit
returns-then-not-is_digit c = sym (prefix_len_is is_digit c.args.rest.now c.loop-i.i 0 (omega arith) c.loop-i.invariant (λ _. sym c.is_digit.ensures ∙ c.if-not-is_digit.true))

pub returns : goal.returns
returns c = sym (prefix_len_is is_digit c.args.rest.now (length c.args.rest.now) 0 (omega arith) (λ k h. c.loop-i.invariant k (omega arith)) (λ h. absurd (omega arith)))
