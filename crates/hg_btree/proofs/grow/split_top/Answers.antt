use Rattle.std.specs.Prelude.{◌≡◌, ℕ, List}
use Rattle.std.proofs.Common.{sym, ◌∙◌, ap, subst}
use Rattle.hg_base.specs.Space.{Space, key}
use Rattle.hg_base.specs.declared.PageId.{PageId}
use Rattle.hg_btree.specs.Entries.{Entry, Before, NotBehind}
use Rattle.hg_btree.specs.Growing.{CrowdedTop}
use Rattle.hg_btree.specs.Rewriting.{WritesTop}
use Rattle.hg_btree.proofs.Grown.{first_taken, line_stays_looked, line_then_looked}
use Rattle.hg_btree.proofs.Tops.{top_line, top_split_looked}
use Rattle.hg_btree.proofs.grow.split_top.Goals as goal

pub plan_top-requires-clause-there : goal.plan_top-requires-clause-there
plan_top-requires-clause-there g c = λ told.
    let w = c.requires.there told in
    (w.0, w.1, w.2, subst (λ (p : PageId). CrowdedTop p.file (g.S.Pages.state c.args.space.now) p.no w.0 w.1 w.2) (sym c.page_in-top.ensures) w.3)

pub store_top-requires-clause-free : goal.store_top-requires-clause-free
store_top-requires-clause-free g c = λ told.
    let a : Space = g.S.Pages.state c.args.space.now in
    let m : Space = g.S.Pages.state c.plan_top.new.space in
    let w = c.requires.there (sym c.in_ok-bound.ensures.looks.steady.told ∙ told) in
    (c.in_ok-bound.ensures.planned w.0 w.1 w.2 (subst (λ (p : PageId). CrowdedTop p.file a p.no w.0 w.1 w.2) (sym c.page_in-top.ensures) w.3)).free

pub store_top-requires-clause-taken : goal.store_top-requires-clause-taken
store_top-requires-clause-taken g c =
    let m : Space = g.S.Pages.state c.plan_top.new.space in
    let l = line_stays_looked c.args.tree.file (g.S.Pages.state c.args.space.now) m c.args.tree.top c.requires.line.0 c.in_ok-bound.ensures.looks c.requires.line.1 in
    ap (λ p. m.taken (key p)) c.page_in-top.ensures ∙ (first_taken c.args.tree.file m c.args.tree.top c.requires.line.0 l).0

pub store_top-requires-clause-no_heap : goal.store_top-requires-clause-no_heap
store_top-requires-clause-no_heap g c =
    let m : Space = g.S.Pages.state c.plan_top.new.space in
    let l = line_stays_looked c.args.tree.file (g.S.Pages.state c.args.space.now) m c.args.tree.top c.requires.line.0 c.in_ok-bound.ensures.looks c.requires.line.1 in
    ap (λ p. m.of_heap (key p)) c.page_in-top.ensures ∙ (first_taken c.args.tree.file m c.args.tree.top c.requires.line.0 l).1

pub returns-clause-split : goal.returns-clause-split
returns-clause-split g c = λ es pages leaves most w few.
    let a : Space = g.S.Pages.state c.args.space.now in
    let m : Space = g.S.Pages.state c.plan_top.new.space in
    let d : Space = g.S.Pages.state c.store_top.new.space in
    let t : Entry = record { key = c.args.key.now; place = c.args.place; child = 0 } in
    let sh = c.plan_top.new.sheets in
    let b = c.in_ok-bound.bound in
    let k1 : List ℕ = c.deref.result.now in
    let k2 : List ℕ = c.deref-2.result.now in
    let e1 : k1 ≡ sh.key.items = c.deref.ensures.0 in
    let e2 : k2 ≡ sh.key.items = c.deref-2.ensures.0 in
    let lo : ℕ = c.in_ok-new.new.0 in
    let hi : ℕ = c.in_ok-new.new.1 in
    top_split_looked c.args.tree.file a m d c.args.tree.top t es pages most leaves lo hi c.half_for.result b.level c.store_top.new.above sh.lower c.store_top.new.lower sh.upper k1 sh.key.items b.place
    c.in_ok-bound.ensures.looks e1 w c.page_in-top.result c.page_in-top.ensures (c.in_ok-bound.ensures.planned es pages leaves)
    c.in_ok-new.ensures.writes c.in_ok-new.ensures.above c.in_ok-new.ensures.leaf c.in_ok-new.ensures.inner
    (λ h. c.half_for.ensures.low 0 hi (subst (λ k. Before t (record { key = k; place = b.place; child = hi })) (e1 ∙ sym e2) h))
    (λ h. c.half_for.ensures.high 0 hi (subst (λ k. NotBehind (record { key = k; place = b.place; child = hi }) t) (e1 ∙ sym e2) h))
    few

pub returns-clause-line : goal.returns-clause-line
returns-clause-line g c = λ pages l.
    let a : Space = g.S.Pages.state c.args.space.now in
    let m : Space = g.S.Pages.state c.plan_top.new.space in
    let d : Space = g.S.Pages.state c.store_top.new.space in
    let sh = c.plan_top.new.sheets in
    let looks = c.in_ok-bound.ensures.looks in
    let lo : ℕ = c.in_ok-new.new.0 in
    let hi : ℕ = c.in_ok-new.new.1 in
    let ws = subst (λ z. WritesTop m d z lo hi c.store_top.new.above c.store_top.new.lower sh.upper) c.page_in-top.ensures c.in_ok-new.ensures.writes in
    line_then_looked c.args.tree.file a m d c.args.tree.top pages looks l
    (top_line c.args.tree.file m d c.args.tree.top lo hi pages c.store_top.new.above c.store_top.new.lower sh.upper looks.steady.pins_after ws
    (line_stays_looked c.args.tree.file a m c.args.tree.top pages looks l))
