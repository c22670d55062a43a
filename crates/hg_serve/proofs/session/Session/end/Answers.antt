use Rattle.std.proofs.Common.{◌≡◌, ◌<◌, [], length, arith}
use Rattle.std.proofs.lemmas.Bool.Decides.{nat_tests}
use Rattle.hg_model.specs.Script.{lines_of, last_part}
use Rattle.hg_serve.proofs.Closing.{nothing-kept, something-kept, answers-serves, answers-last, halts-last, closes-answers}
use Rattle.hg_serve.proofs.session.Session.end.Goals as goal

pub returns-then-is_empty-clause-closes : goal.returns-then-is_empty-clause-closes
returns-then-is_empty-clause-closes g c = λ first w taken serves.
    let none : length c.args.self.now.line.items ≡ 0 = grind (arith, nat_tests, c.if-is_empty.ensures {u = tt}) in
    closes-answers _ _ first _ w _ _ _ _ c.args.self.now.output (lines_of taken) _
    (answers-serves _ _ first _ w _ c.args.self.now taken serves (nothing-kept _ _ serves.part none)) c.finish.ensures.finishes

pub returns-in-Err-clause-closes : goal.returns-in-Err-clause-closes
returns-in-Err-clause-closes g c = λ first w taken serves.
    let some : 0 < length c.args.self.now.line.items = grind (arith, nat_tests, c.if-is_empty.ensures {u = tt}) in
    halts-last _ _ first _ _ w _ _ c.args.self.now taken serves (something-kept _ _ serves.part some)
    ((c.in-Err.ensures {u = tt}).part (last_part [] taken) serves.part)

pub returns-clause-closes : goal.returns-clause-closes
returns-clause-closes g c = λ first w taken serves.
    let some : 0 < length c.args.self.now.line.items = grind (arith, nat_tests, c.if-is_empty.ensures {u = tt}) in
    closes-answers _ _ first _ w _ _ _ _ c.answer_line.new.self.output (lines_of taken) _
    (answers-last _ _ first _ _ w _ _ c.args.self.now taken serves (something-kept _ _ serves.part some) c.answer_line.new.self.output
    ((c.in_default.ensures {u = tt}).ok (last_part [] taken) serves.part)) c.finish-2.ensures.finishes
