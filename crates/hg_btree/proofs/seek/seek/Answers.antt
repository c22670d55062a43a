use Rattle.std.proofs.Common.{sym, ◌∙◌}
use Rattle.std.proofs.lemmas.Result.{IfOk-weaker}
use Rattle.hg_base.specs.Space.{Space}
use Rattle.hg_btree.specs.Entries.{Entry}
use Rattle.hg_btree.proofs.Seeking.{along_first, along_found, along_end, asked_leaf, seen_before, looks_then}
use Rattle.hg_btree.proofs.Leaves.{second_leaf}
use Rattle.hg_btree.proofs.seek.seek.Goals as goal

pub look_along-requires-clause-free : goal.look_along-requires-clause-free
look_along-requires-clause-free g c = λ told.
    let a : Space = g.S.Pages.state c.args.space.now in
    let t : Entry = record { key = c.args.key.now; place = c.args.place; child = 0 } in
    let m = c.in_ok-leaf.ensures in
    let h = c.requires.there (sym m.looks.steady.told ∙ told) in
    (asked_leaf c.args.tree.file a (g.S.Pages.state c.leaf_of.new.space) c.args.tree.top c.in_ok-leaf.leaf 0 c.page_in.result t c.requires.no_pins m.looks h
    (along_first c.args.tree.file a c.args.tree.top h.es h.pages h.leaves c.in_ok-leaf.leaf t h.tree (m.leaf h.es h.pages h.leaves h.tree)) c.page_in.ensures).0

pub look_along-requires-clause-sound : goal.look_along-requires-clause-sound
look_along-requires-clause-sound g c = λ told.
    let a : Space = g.S.Pages.state c.args.space.now in
    let t : Entry = record { key = c.args.key.now; place = c.args.place; child = 0 } in
    let m = c.in_ok-leaf.ensures in
    let h = c.requires.there (sym m.looks.steady.told ∙ told) in
    (asked_leaf c.args.tree.file a (g.S.Pages.state c.leaf_of.new.space) c.args.tree.top c.in_ok-leaf.leaf 0 c.page_in.result t c.requires.no_pins m.looks h
    (along_first c.args.tree.file a c.args.tree.top h.es h.pages h.leaves c.in_ok-leaf.leaf t h.tree (m.leaf h.es h.pages h.leaves h.tree)) c.page_in.ensures).1

pub returns-in-Entry-clause-first : goal.returns-in-Entry-clause-first
returns-in-Entry-clause-first g c = λ es pages leaves h.
    let a : Space = g.S.Pages.state c.args.space.now in
    let t : Entry = record { key = c.args.key.now; place = c.args.place; child = 0 } in
    let m = c.in_ok-leaf.ensures in
    let l = along_first c.args.tree.file a c.args.tree.top es pages leaves c.in_ok-leaf.leaf t h (m.leaf es pages leaves h) in
    along_found c.args.tree.file a c.args.tree.top es pages leaves c.in_ok-leaf.leaf 0 c.in-Entry.place t c.look_along.new.out.items c.requires.no_pins h l
    (seen_before c.args.tree.file a (g.S.Pages.state c.leaf_of.new.space) c.args.tree.top c.in_ok-leaf.leaf 0 c.page_in.result t es pages leaves
    c.look_along.new.out.items c.in_ok-on.on _ c.requires.no_pins m.looks h l c.page_in.ensures c.in-Entry.is c.in_ok-on.ensures.seeks)

pub returns-in-End-clause-first : goal.returns-in-End-clause-first
returns-in-End-clause-first g c = λ es pages leaves h.
    let a : Space = g.S.Pages.state c.args.space.now in
    let t : Entry = record { key = c.args.key.now; place = c.args.place; child = 0 } in
    let m = c.in_ok-leaf.ensures in
    let l = along_first c.args.tree.file a c.args.tree.top es pages leaves c.in_ok-leaf.leaf t h (m.leaf es pages leaves h) in
    along_end c.args.tree.file a c.args.tree.top es pages leaves c.in_ok-leaf.leaf 0 t c.look_along.new.out.items c.requires.no_pins h l
    (seen_before c.args.tree.file a (g.S.Pages.state c.leaf_of.new.space) c.args.tree.top c.in_ok-leaf.leaf 0 c.page_in.result t es pages leaves
    c.look_along.new.out.items c.in_ok-on.on _ c.requires.no_pins m.looks h l c.page_in.ensures c.in-End.is c.in_ok-on.ensures.seeks)

pub seek_on-requires-clause-there : goal.seek_on-requires-clause-there
seek_on-requires-clause-there g c = λ told.
    let a : Space = g.S.Pages.state c.args.space.now in
    let b : Space = g.S.Pages.state c.leaf_of.new.space in
    let d : Space = g.S.Pages.state c.look_along.new.space in
    let t : Entry = record { key = c.args.key.now; place = c.args.place; child = 0 } in
    let m = c.in_ok-leaf.ensures in
    let k = looks_then a b d m.looks c.in_ok-on.ensures.looks in
    let h = c.requires.there (sym k.steady.told ∙ told) in
    let s = second_leaf c.args.tree.file a b d c.args.tree.top c.in_ok-leaf.leaf c.in-Next.next c.page_in.result t h.es h.pages h.leaves c.look_along.new.out.items c.in_ok-on.on
    c.requires.no_pins m.looks k h.tree (m.leaf h.es h.pages h.leaves h.tree) c.page_in.ensures c.in-Next.is c.in_ok-on.ensures.seeks in
    (h.es, h.pages, h.leaves, s.0, s.1)

pub returns-in-Next-clause-first : goal.returns-in-Next-clause-first
returns-in-Next-clause-first g c =
    let a : Space = g.S.Pages.state c.args.space.now in
    let b : Space = g.S.Pages.state c.leaf_of.new.space in
    let d : Space = g.S.Pages.state c.look_along.new.space in
    let t : Entry = record { key = c.args.key.now; place = c.args.place; child = 0 } in
    let m = c.in_ok-leaf.ensures in
    IfOk-weaker c.seek_on.result _ _
    (λ found f es pages leaves h.
    let s = second_leaf c.args.tree.file a b d c.args.tree.top c.in_ok-leaf.leaf c.in-Next.next c.page_in.result t es pages leaves c.look_along.new.out.items c.in_ok-on.on
    c.requires.no_pins m.looks (looks_then a b d m.looks c.in_ok-on.ensures.looks) h (m.leaf es pages leaves h) c.page_in.ensures c.in-Next.is c.in_ok-on.ensures.seeks in
    f es pages leaves s.0 s.1)
    c.seek_on.ensures.first
