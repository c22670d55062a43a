use Rattle.std.specs.Prelude.{◌==◌}
use Rattle.std.proofs.Common.{ap, sym, arith}
use Rattle.hg_base.specs.Space.{Space}
use Rattle.hg_base.specs.declared.PageId.{PageId}
use Rattle.hg_btree.proofs.Rewriting.{writes_split, same_page}
use Rattle.hg_btree.proofs.store.store_split.Goals as goal

pub returns-clause-writes : goal.returns-clause-writes
returns-clause-writes g c =
    let new : PageId = g.S.Pages.pin_page (c.in_ok-pins.pins.2) in
    let b : Space = g.S.Pages.state c.pin_with_new.new.space in
    let d : Space = g.S.Pages.state c.put_three.new.space in
    let e : Space = g.S.Pages.state c.link_behind.new.space in
    writes_split (g.S.Pages.state c.args.space.now) b d e c.args.top (c.args.pages.0) (c.args.pages.1) (g.S.Pages.pin_page (c.in_ok-pins.pins.0)) (g.S.Pages.pin_page (c.in_ok-pins.pins.1)) new
    c.page_of-new.result.no c.insert.new.page c.link_leaf.new.page c.args.upper.now c.requires.no_pins c.in_ok-pins.ensures.pins (c.in_ok-pins.ensures.names.0) (c.in_ok-pins.ensures.names.1)
    (ap (λ (p : PageId). p.no) (sym c.page_of-new.ensures)) c.put_three.ensures c.in_ok-pins.ensures.cause.later
    (same_page d e c.args.top c.page_of-new.result new c.page_of-new.ensures c.link_behind.ensures)

pub returns-clause-above : goal.returns-clause-above
returns-clause-above g c = λ level link done todo h a.
    c.insert.ensures level link done todo h a (omega arith) (omega arith)

pub returns-clause-leaf : goal.returns-clause-leaf
returns-clause-leaf g c = λ z level old es h. c.link_leaf.ensures.leaf (ap (λ n. n == 0) z) level old es h
