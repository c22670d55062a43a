use Rattle.std.specs.Prelude.{None, length}
use Rattle.std.proofs.Common.{sym, ◌∙◌, subst, arith}
use Rattle.hg_base.specs.SteadyLaws.{HasCause_behind}
use Rattle.hg_btree.specs.Putting.{Puts}
use Rattle.hg_btree.specs.Growing.{most_pages}
use Rattle.hg_btree.proofs.Grown.{line_looked, line_then}
use Rattle.hg_btree.proofs.Descending.{now_at, still, put_inserts, full_leaf, at_full}
use Rattle.hg_btree.proofs.insert.insert.Goals as goal

pub returns-in-Err-clause-inserts : goal.returns-in-Err-clause-inserts
returns-in-Err-clause-inserts g c = λ es pages leaves h. c.in-Err.ensures.err es pages leaves h

pub put_at-requires-clause-no_pins : goal.put_at-requires-clause-no_pins
put_at-requires-clause-no_pins g c = (c.in-Ok.ensures.line c.requires.line.0 c.requires.line.1).steady.pins_after

pub put_at-requires-clause-there : goal.put_at-requires-clause-there
put_at-requires-clause-there g c = λ told.
    let t = c.requires.there (sym (c.in-Ok.ensures.line c.requires.line.0 c.requires.line.1).steady.told ∙ told) in
    let es = t.es in
    let pages = t.pages in
    let leaves = t.leaves in
    let h = t.tree in
    let w = c.in-Ok.ensures.step es pages leaves h in
    (es, w.on.pages, leaves, w.on.tree, (full_leaf c.args.tree.file (g.S.Pages.state c.way_down.new.space) (g.S.Pages.state c.way_down.new.space) c.args.tree.top (record { key = c.args.key.now; place = c.args.place; child = 0 }) es (most_pages c.args.tree.file (g.S.Pages.state c.args.space.now) c.args.tree.top h.levels (length pages) (record { key = c.args.key.now; place = c.args.place; child = 0 })) leaves c.in-Ok.step.found.level c.in-Ok.step.node c.in-Ok.step.found.child c.leaf_under-leaf.result c.requires.short w c.in-Ok.ensures.low c.leaf_under-leaf.ensures.top c.leaf_under-leaf.ensures.below))

pub returns-in-Ok-New-clause-inserts : goal.returns-in-Ok-New-clause-inserts
returns-in-Ok-New-clause-inserts g c = λ es pages leaves h.
    let w = c.in-Ok.ensures.step es pages leaves h in
    put_inserts c.args.tree.file (g.S.Pages.state c.put_at.new.space) c.args.tree.top (record { key = c.args.key.now; place = c.args.place; child = 0 }) es w.on.pages (most_pages c.args.tree.file (g.S.Pages.state c.args.space.now) c.args.tree.top h.levels (length pages) (record { key = c.args.key.now; place = c.args.place; child = 0 })) leaves leaves (subst (Puts c.args.tree.file (g.S.Pages.state c.put_at.new.space) c.args.tree.top es w.on.pages leaves (record { key = c.args.key.now; place = c.args.place; child = 0 })) c.in-Ok-New.field-0-is (c.in-Ok-New.ensures.puts es w.on.pages leaves w.on.tree (full_leaf c.args.tree.file (g.S.Pages.state c.way_down.new.space) (g.S.Pages.state c.way_down.new.space) c.args.tree.top (record { key = c.args.key.now; place = c.args.place; child = 0 }) es (most_pages c.args.tree.file (g.S.Pages.state c.args.space.now) c.args.tree.top h.levels (length pages) (record { key = c.args.key.now; place = c.args.place; child = 0 })) leaves c.in-Ok.step.found.level c.in-Ok.step.node c.in-Ok.step.found.child c.leaf_under-leaf.result c.requires.short w c.in-Ok.ensures.low c.leaf_under-leaf.ensures.top c.leaf_under-leaf.ensures.below))) (let f = w.on.few in omega arith) (omega arith) (omega arith)

pub returns-in-Ok-Old-clause-inserts : goal.returns-in-Ok-Old-clause-inserts
returns-in-Ok-Old-clause-inserts g c = λ es pages leaves h.
    let w = c.in-Ok.ensures.step es pages leaves h in
    let q = (subst (Puts c.args.tree.file (g.S.Pages.state c.put_at.new.space) c.args.tree.top es w.on.pages leaves (record { key = c.args.key.now; place = c.args.place; child = 0 })) c.in-Ok-Old.field-0-is (c.in-Ok-Old.ensures.puts es w.on.pages leaves w.on.tree (full_leaf c.args.tree.file (g.S.Pages.state c.way_down.new.space) (g.S.Pages.state c.way_down.new.space) c.args.tree.top (record { key = c.args.key.now; place = c.args.place; child = 0 }) es (most_pages c.args.tree.file (g.S.Pages.state c.args.space.now) c.args.tree.top h.levels (length pages) (record { key = c.args.key.now; place = c.args.place; child = 0 })) leaves c.in-Ok.step.found.level c.in-Ok.step.node c.in-Ok.step.found.child c.leaf_under-leaf.result c.requires.short w c.in-Ok.ensures.low c.leaf_under-leaf.ensures.top c.leaf_under-leaf.ensures.below))) in
    (q.0, still c.args.tree.file (g.S.Pages.state c.put_at.new.space) c.args.tree.top es w.on.pages (most_pages c.args.tree.file (g.S.Pages.state c.args.space.now) c.args.tree.top h.levels (length pages) (record { key = c.args.key.now; place = c.args.place; child = 0 })) leaves leaves q.1 (let f = w.on.few in omega arith) (omega arith) (omega arith))

pub put_split-requires-clause-no_pins : goal.put_split-requires-clause-no_pins
put_split-requires-clause-no_pins g c = (c.in-Ok-NoRoom.ensures.full c.in-Ok-NoRoom.field-0-is).0.steady.pins_after

pub put_split-requires-clause-line : goal.put_split-requires-clause-line
put_split-requires-clause-line g c =
    let l = c.in-Ok.ensures.line c.requires.line.0 c.requires.line.1 in
    let k = c.in-Ok-NoRoom.ensures.line l.now l.line in
    (k.now, k.line)

pub put_split-requires-clause-there : goal.put_split-requires-clause-there
put_split-requires-clause-there g c = λ told.
    let full = c.in-Ok-NoRoom.ensures.full c.in-Ok-NoRoom.field-0-is in
    let t = c.requires.there (sym (full.0.steady.told ∙ (c.in-Ok.ensures.line c.requires.line.0 c.requires.line.1).steady.told) ∙ told) in
    let es = t.es in
    let pages = t.pages in
    let leaves = t.leaves in
    let h = t.tree in
    let w = c.in-Ok.ensures.step es pages leaves h in
    (es, (most_pages c.args.tree.file (g.S.Pages.state c.args.space.now) c.args.tree.top h.levels (length pages) (record { key = c.args.key.now; place = c.args.place; child = 0 })), leaves, at_full c.args.tree.file (g.S.Pages.state c.way_down.new.space) (g.S.Pages.state c.put_at.new.space) c.args.tree.top (record { key = c.args.key.now; place = c.args.place; child = 0 }) es (most_pages c.args.tree.file (g.S.Pages.state c.args.space.now) c.args.tree.top h.levels (length pages) (record { key = c.args.key.now; place = c.args.place; child = 0 })) leaves c.in-Ok.step.found.level c.in-Ok.step.node c.in-Ok.step.found.child c.leaf_under-leaf.result full.0 w (full_leaf c.args.tree.file (g.S.Pages.state c.way_down.new.space) (g.S.Pages.state c.way_down.new.space) c.args.tree.top (record { key = c.args.key.now; place = c.args.place; child = 0 }) es (most_pages c.args.tree.file (g.S.Pages.state c.args.space.now) c.args.tree.top h.levels (length pages) (record { key = c.args.key.now; place = c.args.place; child = 0 })) leaves c.in-Ok.step.found.level c.in-Ok.step.node c.in-Ok.step.found.child c.leaf_under-leaf.result c.requires.short w c.in-Ok.ensures.low c.leaf_under-leaf.ensures.top c.leaf_under-leaf.ensures.below) c.requires.short full.1)

pub returns-in-Ok-NoRoom-clause-inserts : goal.returns-in-Ok-NoRoom-clause-inserts
returns-in-Ok-NoRoom-clause-inserts g c = λ es pages leaves h.
    let full = c.in-Ok-NoRoom.ensures.full c.in-Ok-NoRoom.field-0-is in
    let w = c.in-Ok.ensures.step es pages leaves h in
    c.put_split.ensures.inserts es (most_pages c.args.tree.file (g.S.Pages.state c.args.space.now) c.args.tree.top h.levels (length pages) (record { key = c.args.key.now; place = c.args.place; child = 0 })) leaves (at_full c.args.tree.file (g.S.Pages.state c.way_down.new.space) (g.S.Pages.state c.put_at.new.space) c.args.tree.top (record { key = c.args.key.now; place = c.args.place; child = 0 }) es (most_pages c.args.tree.file (g.S.Pages.state c.args.space.now) c.args.tree.top h.levels (length pages) (record { key = c.args.key.now; place = c.args.place; child = 0 })) leaves c.in-Ok.step.found.level c.in-Ok.step.node c.in-Ok.step.found.child c.leaf_under-leaf.result full.0 w (full_leaf c.args.tree.file (g.S.Pages.state c.way_down.new.space) (g.S.Pages.state c.way_down.new.space) c.args.tree.top (record { key = c.args.key.now; place = c.args.place; child = 0 }) es (most_pages c.args.tree.file (g.S.Pages.state c.args.space.now) c.args.tree.top h.levels (length pages) (record { key = c.args.key.now; place = c.args.place; child = 0 })) leaves c.in-Ok.step.found.level c.in-Ok.step.node c.in-Ok.step.found.child c.leaf_under-leaf.result c.requires.short w c.in-Ok.ensures.low c.leaf_under-leaf.ensures.top c.leaf_under-leaf.ensures.below) c.requires.short full.1)

pub returns-in-Ok-NoRoom-clause-line : goal.returns-in-Ok-NoRoom-clause-line
returns-in-Ok-NoRoom-clause-line g c = λ pages l.
    let p = c.in-Ok.ensures.line pages l in
    let q = line_then c.args.tree.file (g.S.Pages.state c.args.space.now) (g.S.Pages.state c.way_down.new.space) (g.S.Pages.state c.put_at.new.space) c.args.tree.top pages p (c.in-Ok-NoRoom.ensures.line p.now p.line) in
    line_then c.args.tree.file (g.S.Pages.state c.args.space.now) (g.S.Pages.state c.put_at.new.space) (g.S.Pages.state c.put_split.new.space) c.args.tree.top pages q (c.put_split.ensures.line q.now q.line)

pub returns-in-Ok-NoRoom-clause-cause : goal.returns-in-Ok-NoRoom-clause-cause
returns-in-Ok-NoRoom-clause-cause g c =
    let l = c.in-Ok.ensures.line c.requires.line.0 c.requires.line.1 in
    let full = c.in-Ok-NoRoom.ensures.full c.in-Ok-NoRoom.field-0-is in
    HasCause_behind (g.S.Pages.state c.args.space.now) (g.S.Pages.state c.put_at.new.space) (g.S.Pages.state c.put_split.new.space) _ (full.0.steady.told ∙ l.steady.told) (HasCause_behind (g.S.Pages.state c.args.space.now) (g.S.Pages.state c.way_down.new.space) (g.S.Pages.state c.put_at.new.space) None l.steady.told c.in-Ok.ensures.cause c.in-Ok-NoRoom.ensures.cause) c.put_split.ensures.cause

pub returns-in-Ok-New-clause-line : goal.returns-in-Ok-New-clause-line
returns-in-Ok-New-clause-line g c = λ pages l.
    let p = c.in-Ok.ensures.line pages l in
    line_then c.args.tree.file (g.S.Pages.state c.args.space.now) (g.S.Pages.state c.way_down.new.space) (g.S.Pages.state c.put_at.new.space) c.args.tree.top pages p (c.in-Ok-New.ensures.line p.now p.line)

pub returns-in-Ok-Old-clause-line : goal.returns-in-Ok-Old-clause-line
returns-in-Ok-Old-clause-line g c = λ pages l.
    let p = c.in-Ok.ensures.line pages l in
    line_then c.args.tree.file (g.S.Pages.state c.args.space.now) (g.S.Pages.state c.way_down.new.space) (g.S.Pages.state c.put_at.new.space) c.args.tree.top pages p (c.in-Ok-Old.ensures.line p.now p.line)

pub returns-in-Err-put_at-clause-inserts : goal.returns-in-Err-put_at-clause-inserts
returns-in-Err-put_at-clause-inserts g c = λ es pages leaves h.
    let w = c.in-Ok.ensures.step es pages leaves h in
    now_at c.args.tree.file (g.S.Pages.state c.way_down.new.space) (g.S.Pages.state c.put_at.new.space) c.args.tree.top (record { key = c.args.key.now; place = c.args.place; child = 0 }) es (most_pages c.args.tree.file (g.S.Pages.state c.args.space.now) c.args.tree.top h.levels (length pages) (record { key = c.args.key.now; place = c.args.place; child = 0 })) leaves c.in-Ok.step.found.level c.in-Ok.step.node c.in-Err-put_at.ensures.err w.on

pub returns-in-Err-put_at-clause-line : goal.returns-in-Err-put_at-clause-line
returns-in-Err-put_at-clause-line g c = λ pages l.
    let p = c.in-Ok.ensures.line pages l in
    line_then c.args.tree.file (g.S.Pages.state c.args.space.now) (g.S.Pages.state c.way_down.new.space) (g.S.Pages.state c.put_at.new.space) c.args.tree.top pages p (line_looked c.args.tree.file (g.S.Pages.state c.way_down.new.space) (g.S.Pages.state c.put_at.new.space) c.args.tree.top p.now c.in-Err-put_at.ensures.err p.line)
