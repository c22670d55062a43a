use Rattle.std.proofs.Common.{◌∙◌}
use Rattle.hg_hash.proofs.Telling.{words_tell}
use Rattle.hg_hash.proofs.bucket_count.Goals as goal

pub returns : goal.returns
returns g c = c.words.ensures ∙ words_tell (g.H.Pages.state c.args.heaps.now) c.args.h.0 c.root-directory.result.word c.learn_heaps.ensures c.requires c.root-directory.ensures.value
