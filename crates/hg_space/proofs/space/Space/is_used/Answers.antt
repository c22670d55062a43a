use Rattle.std.proofs.Common.{◌≡◌, arith, ap, ◌∙◌, length, nat_lt}
use Rattle.hg_space.proofs.KeptLemmas.{sound-seen, used-answer, unused-answer}
use Rattle.hg_space.proofs.space.Space.is_used.Goals as goal

pub returns-then-page-len-clause-answer : goal.returns-then-page-len-clause-answer
returns-then-page-len-clause-answer c = used-answer _ _ _ c.args.no _ c.self.view_is c.deref.ensures.value (omega arith) c.is_set.ensures

pub returns-then-page-len-clause-sound : goal.returns-then-page-len-clause-sound
returns-then-page-len-clause-sound c = sound-seen _ _ c.self.view_is c.self.invariant.0.within

pub returns-else-page-len-clause-answer : goal.returns-else-page-len-clause-answer
returns-else-page-len-clause-answer c = (let count : c.len.result ≡ length c.self.inside.links.items = omega arith in
    ap (nat_lt c.args.no) count ∙ unused-answer _ _ c.args.no c.self.view_is (omega arith))

pub returns-else-page-len-clause-sound : goal.returns-else-page-len-clause-sound
returns-else-page-len-clause-sound c = sound-seen _ _ c.self.view_is c.self.invariant.0.within
