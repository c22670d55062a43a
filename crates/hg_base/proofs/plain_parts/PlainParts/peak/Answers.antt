use Rattle.hg_base.specs.PlainChanges.{heaps-whole}
use Rattle.hg_base.proofs.plain_parts.PlainParts.peak.Goals as goal

pub returns-clause-heaps : goal.returns-clause-heaps
returns-clause-heaps c = heaps-whole c.args.self.now c.requires
