use Rattle.std.specs.Prelude.{◌≡◌, ℕ, List, Some, true}
use Rattle.std.proofs.Common.{sym, ◌∙◌, ap, subst}
use Rattle.hg_base.specs.Space.{Space, IsFree, key}
use Rattle.hg_base.specs.TakenLaws.{key_in-one}
use Rattle.hg_base.specs.Lines.{has_page}
use Rattle.hg_base.specs.LineLaws.{line_one}
use Rattle.hg_base.specs.declared.PageId.{PageId}
use Rattle.hg_btree.specs.Entries.{Entry, Before, NotBehind}
use Rattle.hg_btree.specs.Planning.{Planned}
use Rattle.hg_btree.specs.Rewriting.{WritesSplit}
use Rattle.hg_btree.proofs.Grown.{first_taken, line_stays_looked, line_then_looked, split_line, above_stays, child_split}
use Rattle.hg_btree.proofs.grow.split_child.Goals as goal

pub store_split-requires-clause-parent_free : goal.store_split-requires-clause-parent_free
store_split-requires-clause-parent_free g c = λ told.
    let w = c.requires.there (sym c.in_ok-plan.ensures.looks.steady.told ∙ told) in
    subst (IsFree (g.S.Pages.state c.plan_split.new.space)) (sym c.page_in.ensures) (c.in_ok-plan.ensures.planned c.args.tree.top w.0 w.1 w.2 w.3 w.4).parent_free

pub store_split-requires-clause-child_free : goal.store_split-requires-clause-child_free
store_split-requires-clause-child_free g c = λ told.
    let w = c.requires.there (sym c.in_ok-plan.ensures.looks.steady.told ∙ told) in
    subst (IsFree (g.S.Pages.state c.plan_split.new.space)) (sym c.page_in-2.ensures) (c.in_ok-plan.ensures.planned c.args.tree.top w.0 w.1 w.2 w.3 w.4).child_free

pub store_split-requires-clause-apart : goal.store_split-requires-clause-apart
store_split-requires-clause-apart g c = λ told e.
    let w = c.requires.there (sym c.in_ok-plan.ensures.looks.steady.told ∙ told) in
    (c.in_ok-plan.ensures.planned c.args.tree.top w.0 w.1 w.2 w.3 w.4).apart
    (key_in-one c.args.tree.file c.in_ok-plan.plan.child c.args.node (sym (ap key c.page_in-2.ensures) ∙ e ∙ ap key c.page_in.ensures))

pub store_split-requires-clause-taken : goal.store_split-requires-clause-taken
store_split-requires-clause-taken g c =
    let m : Space = g.S.Pages.state c.plan_split.new.space in
    let l = line_stays_looked c.args.tree.file (g.S.Pages.state c.args.space.now) m c.args.tree.top c.requires.line.0 c.in_ok-plan.ensures.looks c.requires.line.1 in
    ap (λ p. m.taken (key p)) c.page_in-top.ensures ∙ (first_taken c.args.tree.file m c.args.tree.top c.requires.line.0 l).0

pub store_split-requires-clause-no_heap : goal.store_split-requires-clause-no_heap
store_split-requires-clause-no_heap g c =
    let m : Space = g.S.Pages.state c.plan_split.new.space in
    let l = line_stays_looked c.args.tree.file (g.S.Pages.state c.args.space.now) m c.args.tree.top c.requires.line.0 c.in_ok-plan.ensures.looks c.requires.line.1 in
    ap (λ p. m.of_heap (key p)) c.page_in-top.ensures ∙ (first_taken c.args.tree.file m c.args.tree.top c.requires.line.0 l).1

named : (m d : Space) (top parent child top2 parent2 child2 : PageId) (num : ℕ) (xp xc xn : List ℕ) → top ≡ top2 → parent ≡ parent2 → child ≡ child2 → WritesSplit m d top parent child num xp xc xn
    → WritesSplit m d top2 parent2 child2 num xp xc xn
named m d top parent child top2 parent2 child2 num xp xc xn e f h w =
    subst (λ z. WritesSplit m d top2 parent2 z num xp xc xn) h (subst (λ z. WritesSplit m d top2 z child num xp xc xn) f (subst (λ z. WritesSplit m d z parent child num xp xc xn) e w))

pub returns-clause-split : goal.returns-clause-split
returns-clause-split g c = λ es most leaves n w.
    let a : Space = g.S.Pages.state c.args.space.now in
    let m : Space = g.S.Pages.state c.plan_split.new.space in
    let d : Space = g.S.Pages.state c.store_split.new.space in
    let t : Entry = record { key = c.args.key.now; place = c.args.place; child = 0 } in
    let sh = c.plan_split.new.sheets in
    let b = c.in_ok-plan.plan.bound in
    let v = above_stays c.args.tree.file a m c.args.tree.top t es most leaves n c.args.node c.in_ok-plan.ensures.looks w in
    let p = c.in_ok-plan.ensures.planned c.args.tree.top es most leaves n w in
    let k1 : List ℕ = c.deref.result.now in
    let k2 : List ℕ = c.deref-2.result.now in
    let e1 : k1 ≡ sh.key.items = c.deref.ensures.0 in
    let e2 : k2 ≡ sh.key.items = c.deref-2.ensures.0 in
    let p2 = subst (λ k. Planned c.args.tree.file m t n c.args.node c.in_ok-plan.plan.child b.at b.level sh.above sh.lower sh.upper k b.place v.0.on.pages) (sym e1)
    (subst (λ q. Planned c.args.tree.file m t n c.args.node c.in_ok-plan.plan.child b.at b.level sh.above sh.lower sh.upper sh.key.items b.place q) (sym v.1) p) in
    let ws = named m d c.page_in-top.result c.page_in.result c.page_in-2.result _ _ _ c.in_ok-new.new c.store_split.new.above c.store_split.new.lower sh.upper
    c.page_in-top.ensures c.page_in.ensures c.page_in-2.ensures c.in_ok-new.ensures.writes in
    child_split c.args.tree.file m d c.args.tree.top t es most leaves n c.args.node c.in_ok-plan.plan.child b.at b.level c.in_ok-new.new c.half_for.result
    sh.above c.store_split.new.above sh.lower c.store_split.new.lower sh.upper k1 b.place v.0 p2 ws
    c.in_ok-new.ensures.above c.in_ok-new.ensures.leaf c.in_ok-new.ensures.inner
    (λ h. c.half_for.ensures.low 0 c.in_ok-new.new (subst (λ k. Before t (record { key = k; place = b.place; child = c.in_ok-new.new })) (e1 ∙ sym e2) h))
    (λ h. c.half_for.ensures.high 0 c.in_ok-new.new (subst (λ k. NotBehind (record { key = k; place = b.place; child = c.in_ok-new.new }) t) (e1 ∙ sym e2) h))

pub returns-clause-line : goal.returns-clause-line
returns-clause-line g c = λ pages l.
    let a : Space = g.S.Pages.state c.args.space.now in
    let m : Space = g.S.Pages.state c.plan_split.new.space in
    let d : Space = g.S.Pages.state c.store_split.new.space in
    let sh = c.plan_split.new.sheets in
    let looks = c.in_ok-plan.ensures.looks in
    let ws = named m d c.page_in-top.result c.page_in.result c.page_in-2.result _ _ _ c.in_ok-new.new c.store_split.new.above c.store_split.new.lower sh.upper
    c.page_in-top.ensures c.page_in.ensures c.page_in-2.ensures c.in_ok-new.ensures.writes in
    let lm = line_stays_looked c.args.tree.file a m c.args.tree.top pages looks l in
    line_then_looked c.args.tree.file a m d c.args.tree.top pages looks l
    (split_line c.args.tree.file m d c.args.tree.top c.args.node c.in_ok-plan.plan.child c.in_ok-new.new pages c.store_split.new.above c.store_split.new.lower sh.upper looks.steady.pins_after ws lm
    (λ told.
    let w = c.requires.there (sym looks.steady.told ∙ told) in
    let p = c.in_ok-plan.ensures.planned c.args.tree.top w.0 w.1 w.2 w.3 w.4 in
    let e = line_one c.args.tree.file a (Some c.args.tree.top) w.4.on.pages pages w.4.on.tree.line l in
    (subst (λ q. has_page q c.args.node ≡ true) e p.parent_in, subst (λ q. has_page q c.in_ok-plan.plan.child ≡ true) e p.child_in)))
