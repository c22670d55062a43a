use Rattle.std.specs.Prelude.{length}
use Rattle.std.proofs.Common.{ap, subst}
use Rattle.hg_btree.specs.Growing.{OnWay, HasRoom, leaves_after}
use Rattle.hg_btree.proofs.Descending.{full_above, full_top, if_ok_map}
use Rattle.hg_btree.proofs.insert.split_leaf.Goals as goal

pub split_top-requires-clause-there : goal.split_top-requires-clause-there
split_top-requires-clause-there g c = λ told.
    let w = c.requires.there told in
    let v = full_top c.args.tree.file (g.S.Pages.state c.args.space.now) c.args.tree.top (record { key = c.args.key.now; place = c.args.place; child = 0 }) w.0 w.1 w.2 c.args.step.found.level c.args.step.node c.args.step.found.child w.3 c.if-step-eq0.true in
    (w.0, w.3.at.on.pages, w.2, v.0)

pub split_child-requires-clause-there : goal.split_child-requires-clause-there
split_child-requires-clause-there g c = λ told.
    let w = c.requires.there told in
    (w.0, w.1, w.2, 0, full_above c.args.tree.file (g.S.Pages.state c.args.space.now) c.args.tree.top (record { key = c.args.key.now; place = c.args.place; child = 0 }) w.0 w.1 w.2 c.args.step.found.level c.args.step.node c.args.step.found.child w.3 c.requires.low c.if-step-eq0.false)

pub returns-then-step-eq0-clause-split : goal.returns-then-step-eq0-clause-split
returns-then-step-eq0-clause-split g c = if_ok_map c.split_top.result _ _ (λ half f es most leaves w.
    let v = full_top c.args.tree.file (g.S.Pages.state c.args.space.now) c.args.tree.top (record { key = c.args.key.now; place = c.args.place; child = 0 }) es most leaves c.args.step.found.level c.args.step.node c.args.step.found.child w c.if-step-eq0.true in
    subst (λ k. OnWay c.args.tree.file (g.S.Pages.state c.split_top.new.space) c.args.tree.top (record { key = c.args.key.now; place = c.args.place; child = 0 }) es most (leaves_after k leaves) k half × HasRoom c.args.tree.file (g.S.Pages.state c.split_top.new.space) half) (ap length v.1)
    (f es w.at.on.pages leaves most v.0 v.2)) c.split_top.ensures.split

pub returns-clause-split : goal.returns-clause-split
returns-clause-split g c = if_ok_map c.split_child.result _ _ (λ half f es most leaves w.
    f es most leaves 0 (full_above c.args.tree.file (g.S.Pages.state c.args.space.now) c.args.tree.top (record { key = c.args.key.now; place = c.args.place; child = 0 }) es most leaves c.args.step.found.level c.args.step.node c.args.step.found.child w c.requires.low c.if-step-eq0.false)) c.split_child.ensures.split
