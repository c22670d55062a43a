use Rattle.hg_base.specs.Space.{Space}
use Rattle.hg_trials.specs.OneHeap.{keeps-objects, keeps-both}
use Rattle.hg_trials.proofs.heap_trials.place_row.Goals as goal

pub returns : goal.returns
returns g c =
    let s : Space = g.H.Pages.state c.args.heaps.now in
    let t : Space = g.H.Pages.state c.place.new.self in
    let u : Space = g.H.Pages.state c.set_root.new.self in
    keeps-both s t u c.args.h.0 (keeps-objects s t c.args.h.0 _ c.in_ok-row.ensures.ok) (keeps-objects t u c.args.h.0 _ c.set_root.ensures)
