use Rattle.hg_base.specs.Space.{Space}
use Rattle.hg_trials.specs.OneHeap.{keeps-objects}
use Rattle.hg_trials.proofs.heap_trials.set_word.Goals as goal

pub returns-then-is_object : goal.returns-then-is_object
returns-then-is_object g c =
    let s : Space = g.H.Pages.state c.args.heaps.now in
    let t : Space = g.H.Pages.state c.set_word.new.self in
    keeps-objects s t c.args.h.0 _ c.set_word.ensures
