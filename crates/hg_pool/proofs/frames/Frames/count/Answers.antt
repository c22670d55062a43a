use Rattle.std.proofs.Common.{◌∙◌, sym}
use Rattle.hg_pool.proofs.InFrames.{count-is}
use Rattle.hg_pool.proofs.frames.Frames.count.Goals as goal

pub returns : goal.returns
returns c = c.len.ensures ∙ c.self.inside.marks.ok.0 ∙ sym (count-is c.self.inside c.args.self.now c.self.view_is)
