use Rattle.std.proofs.Common.{◌≡◌, sym, subst, arith, ℕ, ◌<◌, length}
use Rattle.hg_base.specs.HeapStates.{CanLock, pages_in}
use Rattle.hg_base.specs.Space.{Space}
use Rattle.hg_trials.specs.OneHeap.{lock-again}
use Rattle.hg_trials.proofs.heap_trials.move_pages.Goals as goal

pub lock-requires : goal.lock-requires
lock-requires g c =
    let s : Space = g.H.Pages.state c.args.heaps.now in
    let few = c.if-pages-ge1000.false in let p = c.pages.ensures in
    subst (λ z. CanLock z c.args.h.0) (sym c.unlock.ensures) (lock-again s c.args.h.0 c.args.ledger.now.held c.requires.one c.requires.locked (omega arith))
