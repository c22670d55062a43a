use Rattle.hg_exec.proofs.Taking.{left-whole}
use Rattle.hg_exec.proofs.loops.Loops.put_read.Goals as goal

pub returns-then-whole-clause-joined : goal.returns-then-whole-clause-joined
returns-then-whole-clause-joined c = left-whole c.args.whole c.args.self.now.joined c.args.self.now.read c.args.of.now c.args.start c.if-whole.true c.requires.whole
