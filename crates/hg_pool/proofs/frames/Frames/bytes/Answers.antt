use Rattle.std.proofs.Common.{◌∙◌, sym}
use Rattle.hg_pool.proofs.InFrames.{below-word, has-is, out-bytes-is}
use Rattle.hg_pool.proofs.frames.Frames.bytes.Goals as goal

pub overflow_cast-at : goal.overflow_cast-at
overflow_cast-at c = record { fits = below-word c.self.inside c.args.self.now c.self.view_is c.self.invariant c.args.at c.requires.there }

pub page-requires : goal.page-requires
page-requires c = has-is c.self.inside c.args.self.now c.self.view_is c.self.invariant c.args.at c.requires.pinned

pub returns-clause-value : goal.returns-clause-value
returns-clause-value c = c.page.ensures.bytes ∙ sym (out-bytes-is c.self.inside c.args.self.now c.self.view_is c.self.invariant c.args.at c.requires.there c.requires.pinned)
