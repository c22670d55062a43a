use Rattle.hg_base.specs.Space.{Space}
use Rattle.hg_trials.specs.OneHeap.{keeps-objects, keeps-both}
use Rattle.hg_trials.proofs.heap_trials.place_directory.Goals as goal

pub returns-then-is_object : goal.returns-then-is_object
returns-then-is_object g c =
    let s : Space = g.H.Pages.state c.args.heaps.now in
    let t : Space = g.H.Pages.state c.place_words.new.self in
    let u : Space = g.H.Pages.state c.set_root.new.self in
    keeps-both s t u c.args.h.0 (keeps-objects s t c.args.h.0 _ c.in_ok-dir.ensures.ok) (keeps-objects t u c.args.h.0 _ c.set_root.ensures)
