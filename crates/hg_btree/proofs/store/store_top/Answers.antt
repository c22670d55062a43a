use Rattle.std.specs.Prelude.{◌==◌, ◌+◌, length, true, []}
use Rattle.std.proofs.Common.{ap, sym, arith}
use Rattle.hg_base.specs.Space.{Space}
use Rattle.hg_base.specs.declared.PageId.{PageId}
use Rattle.hg_btree.proofs.Reading.{spelling-none}
use Rattle.hg_btree.proofs.Rewriting.{writes_top, same_page}
use Rattle.hg_btree.proofs.store.store_top.Goals as goal

pub insert-requires-clause-to : goal.insert-requires-clause-to
insert-requires-clause-to g c = let h = c.start.ensures in let f = h.free in omega arith

pub insert-requires-clause-room : goal.insert-requires-clause-room
insert-requires-clause-room g c = let h = c.start.ensures in let f = h.free in let z = ap length (spelling-none true) in let s = c.requires.short in omega arith

pub returns-clause-writes : goal.returns-clause-writes
returns-clause-writes g c =
    let low : PageId = g.S.Pages.pin_page (c.in_ok-pins.pins.1) in
    let high : PageId = g.S.Pages.pin_page (c.in_ok-pins.pins.2) in
    let a : Space = g.S.Pages.state c.args.space.now in
    let b : Space = g.S.Pages.state c.pin_with_two.new.space in
    let d : Space = g.S.Pages.state c.put_three.new.space in
    let e : Space = g.S.Pages.state c.link_behind.new.space in
    let f : Space = g.S.Pages.state c.link_behind-2.new.space in
    writes_top a b d e f c.args.top (g.S.Pages.pin_page (c.in_ok-pins.pins.0)) low high c.page_of-low.result.no c.page_of-high.result.no c.insert.new.page c.link_leaf.new.page c.args.upper.now
    c.requires.no_pins c.in_ok-pins.ensures.pins c.in_ok-pins.ensures.name (ap (λ (p : PageId). p.no) (sym c.page_of-low.ensures)) (ap (λ (p : PageId). p.no) (sym c.page_of-high.ensures))
    c.put_three.ensures c.in_ok-pins.ensures.cause.later
    (same_page d e c.args.top c.page_of-high.result high c.page_of-high.ensures c.link_behind.ensures)
    (same_page e f c.args.top c.page_of-low.result low c.page_of-low.ensures c.link_behind-2.ensures)

pub returns-clause-above : goal.returns-clause-above
returns-clause-above g c =
    c.insert.ensures (c.args.bound.level + 1) c.page_of-low.result.no [] [] c.start.ensures (let z = ap length (spelling-none true) in omega arith) (omega arith) (omega arith)

pub returns-clause-leaf : goal.returns-clause-leaf
returns-clause-leaf g c = λ z level old es h. c.link_leaf.ensures.leaf (ap (λ n. n == 0) z) level old es h
