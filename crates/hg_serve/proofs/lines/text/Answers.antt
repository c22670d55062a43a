use Rattle.hg_serve.proofs.LineLemmas.{text-cut, text-kept}
use Rattle.hg_serve.proofs.lines.text.Goals as goal

pub returns-then-last-eq13-clause-text : goal.returns-then-last-eq13-clause-text
returns-then-last-eq13-clause-text c =
    text-cut c.args.line.now c.in-Some.front.now c.in-Some.last.now c.args.ended c.if-not-ended.false (c.in-Some.ensures {u = tt}).cases.0
    c.if-last-eq13.true

pub returns-else-last-eq13-clause-text : goal.returns-else-last-eq13-clause-text
returns-else-last-eq13-clause-text c =
    text-kept c.args.line.now c.in-Some.front.now c.in-Some.last.now c.args.ended c.if-not-ended.false (c.in-Some.ensures {u = tt}).cases.0
    c.if-last-eq13.false
