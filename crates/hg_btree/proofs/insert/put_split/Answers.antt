use Rattle.std.specs.Prelude.{◌+◌, None}
use Rattle.std.proofs.Common.{sym, ◌∙◌, subst, arith}
use Rattle.hg_base.specs.SteadyLaws.{HasCause_behind}
use Rattle.hg_btree.specs.Putting.{Puts}
use Rattle.hg_btree.proofs.Seeking.{damage_cause}
use Rattle.hg_btree.proofs.Grown.{line_looked, line_then}
use Rattle.hg_btree.proofs.Descending.{now_at, now_split, still, put_inserts, no_full}
use Rattle.hg_btree.proofs.insert.put_split.Goals as goal

pub returns-in-Err-clause-inserts : goal.returns-in-Err-clause-inserts
returns-in-Err-clause-inserts g c = λ es most leaves w. now_at c.args.tree.file (g.S.Pages.state c.args.space.now) (g.S.Pages.state c.split_leaf.new.space) c.args.tree.top (record { key = c.args.key.now; place = c.args.place; child = 0 }) es most leaves c.args.step.found.level c.args.step.node c.in-Err.ensures.err w.at.on

pub returns-in-Err-clause-line : goal.returns-in-Err-clause-line
returns-in-Err-clause-line g c = λ pages l. line_looked c.args.tree.file (g.S.Pages.state c.args.space.now) (g.S.Pages.state c.split_leaf.new.space) c.args.tree.top pages c.in-Err.ensures.err l

pub put_at-requires-clause-no_pins : goal.put_at-requires-clause-no_pins
put_at-requires-clause-no_pins g c = (c.in-Ok.ensures.line c.requires.line.0 c.requires.line.1).steady.pins_after

pub put_at-requires-clause-there : goal.put_at-requires-clause-there
put_at-requires-clause-there g c = λ told.
    let w = c.requires.there (sym (c.in-Ok.ensures.line c.requires.line.0 c.requires.line.1).steady.told ∙ told) in
    let o = (c.in-Ok.ensures.split w.0 w.1 w.2 w.3).0 in
    (w.0, o.pages, w.2 + 1, o.tree, o.way)

pub returns-in-Ok-New-clause-inserts : goal.returns-in-Ok-New-clause-inserts
returns-in-Ok-New-clause-inserts g c = λ es most leaves w.
    let o = c.in-Ok.ensures.split es most leaves w in
    put_inserts c.args.tree.file (g.S.Pages.state c.put_at.new.space) c.args.tree.top (record { key = c.args.key.now; place = c.args.place; child = 0 }) es o.0.pages most (leaves + 1) leaves (subst (Puts c.args.tree.file (g.S.Pages.state c.put_at.new.space) c.args.tree.top es o.0.pages (leaves + 1) (record { key = c.args.key.now; place = c.args.place; child = 0 })) c.in-Ok-New.field-0-is (c.in-Ok-New.ensures.puts es o.0.pages (leaves + 1) o.0.tree o.0.way)) (let f = o.0.few in omega arith) (omega arith) (omega arith)

pub returns-in-Ok-Old-clause-inserts : goal.returns-in-Ok-Old-clause-inserts
returns-in-Ok-Old-clause-inserts g c = λ es most leaves w.
    let o = c.in-Ok.ensures.split es most leaves w in
    let q = subst (Puts c.args.tree.file (g.S.Pages.state c.put_at.new.space) c.args.tree.top es o.0.pages (leaves + 1) (record { key = c.args.key.now; place = c.args.place; child = 0 })) c.in-Ok-Old.field-0-is (c.in-Ok-Old.ensures.puts es o.0.pages (leaves + 1) o.0.tree o.0.way) in
    (q.0, still c.args.tree.file (g.S.Pages.state c.put_at.new.space) c.args.tree.top es o.0.pages most (leaves + 1) leaves q.1 (let f = o.0.few in omega arith) (omega arith) (omega arith))

pub returns-in-Ok-NoRoom-clause-inserts : goal.returns-in-Ok-NoRoom-clause-inserts
returns-in-Ok-NoRoom-clause-inserts g c = λ es most leaves w.
    let o = c.in-Ok.ensures.split es most leaves w in
    still c.args.tree.file (g.S.Pages.state c.put_at.new.space) c.args.tree.top es o.0.pages most (leaves + 1) leaves (subst (Puts c.args.tree.file (g.S.Pages.state c.put_at.new.space) c.args.tree.top es o.0.pages (leaves + 1) (record { key = c.args.key.now; place = c.args.place; child = 0 })) c.in-Ok-NoRoom.field-0-is (c.in-Ok-NoRoom.ensures.puts es o.0.pages (leaves + 1) o.0.tree o.0.way)) (let f = o.0.few in omega arith) (omega arith) (omega arith)

pub returns-in-Ok-NoRoom-clause-cause : goal.returns-in-Ok-NoRoom-clause-cause
returns-in-Ok-NoRoom-clause-cause g c =
    let l = c.in-Ok.ensures.line c.requires.line.0 c.requires.line.1 in
    damage_cause (g.S.Pages.state c.args.space.now) (g.S.Pages.state c.put_at.new.space) _ _ (HasCause_behind (g.S.Pages.state c.args.space.now) (g.S.Pages.state c.split_leaf.new.space) (g.S.Pages.state c.put_at.new.space) None l.steady.told c.in-Ok.ensures.cause c.in-Ok-NoRoom.ensures.cause) (λ told.
    let w = c.requires.there told in
    let o = c.in-Ok.ensures.split w.0 w.1 w.2 w.3 in
    no_full c.args.tree.file (g.S.Pages.state c.split_leaf.new.space) c.in-Ok.half (record { key = c.args.key.now; place = c.args.place; child = 0 }) c.requires.short o.1 ((c.in-Ok-NoRoom.ensures.full c.in-Ok-NoRoom.field-0-is).1))

pub returns-in-Err-put_at-clause-inserts : goal.returns-in-Err-put_at-clause-inserts
returns-in-Err-put_at-clause-inserts g c = λ es most leaves w.
    now_split c.args.tree.file (g.S.Pages.state c.split_leaf.new.space) (g.S.Pages.state c.put_at.new.space) c.args.tree.top (record { key = c.args.key.now; place = c.args.place; child = 0 }) es most leaves 0 c.in-Ok.half 0 c.in-Err-put_at.ensures.err (c.in-Ok.ensures.split es most leaves w).0

pub returns-in-Err-put_at-clause-line : goal.returns-in-Err-put_at-clause-line
returns-in-Err-put_at-clause-line g c = λ pages l.
    let p = c.in-Ok.ensures.line pages l in
    line_then c.args.tree.file (g.S.Pages.state c.args.space.now) (g.S.Pages.state c.split_leaf.new.space) (g.S.Pages.state c.put_at.new.space) c.args.tree.top pages p (line_looked c.args.tree.file (g.S.Pages.state c.split_leaf.new.space) (g.S.Pages.state c.put_at.new.space) c.args.tree.top p.now c.in-Err-put_at.ensures.err p.line)

pub returns-in-Ok-New-clause-line : goal.returns-in-Ok-New-clause-line
returns-in-Ok-New-clause-line g c = λ pages l.
    let p = c.in-Ok.ensures.line pages l in
    line_then c.args.tree.file (g.S.Pages.state c.args.space.now) (g.S.Pages.state c.split_leaf.new.space) (g.S.Pages.state c.put_at.new.space) c.args.tree.top pages p (c.in-Ok-New.ensures.line p.now p.line)

pub returns-in-Ok-Old-clause-line : goal.returns-in-Ok-Old-clause-line
returns-in-Ok-Old-clause-line g c = λ pages l.
    let p = c.in-Ok.ensures.line pages l in
    line_then c.args.tree.file (g.S.Pages.state c.args.space.now) (g.S.Pages.state c.split_leaf.new.space) (g.S.Pages.state c.put_at.new.space) c.args.tree.top pages p (c.in-Ok-Old.ensures.line p.now p.line)

pub returns-in-Ok-NoRoom-clause-line : goal.returns-in-Ok-NoRoom-clause-line
returns-in-Ok-NoRoom-clause-line g c = λ pages l.
    let p = c.in-Ok.ensures.line pages l in
    line_then c.args.tree.file (g.S.Pages.state c.args.space.now) (g.S.Pages.state c.split_leaf.new.space) (g.S.Pages.state c.put_at.new.space) c.args.tree.top pages p (c.in-Ok-NoRoom.ensures.line p.now p.line)
