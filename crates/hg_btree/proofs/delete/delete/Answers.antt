use Rattle.std.proofs.Common.{sym, ◌∙◌}
use Rattle.hg_btree.proofs.Deleting.{asked_here, deleted, taken_steady}
use Rattle.hg_btree.proofs.Grown.{line_stays_looked}
use Rattle.hg_btree.proofs.Keeping.{line_taken}
use Rattle.hg_btree.proofs.delete.delete.Goals as goal

pub take_from-requires-clause-free : goal.take_from-requires-clause-free
take_from-requires-clause-free g c = λ told.
    let h = c.requires.there (sym c.in_ok-leaf.ensures.looks.steady.told ∙ told) in
    (asked_here c.args.tree.file (g.S.Pages.state c.args.space.now) (g.S.Pages.state c.leaf_of.new.space) c.args.tree.top c.in_ok-leaf.leaf c.page_in.result
    (record { key = c.args.key.now; place = c.args.place; child = 0 }) c.requires.no_pins c.in_ok-leaf.ensures.looks h
    (c.in_ok-leaf.ensures.leaf h.es h.pages h.leaves h.tree) c.page_in.ensures).0

pub take_from-requires-clause-sound : goal.take_from-requires-clause-sound
take_from-requires-clause-sound g c = λ told.
    let h = c.requires.there (sym c.in_ok-leaf.ensures.looks.steady.told ∙ told) in
    (asked_here c.args.tree.file (g.S.Pages.state c.args.space.now) (g.S.Pages.state c.leaf_of.new.space) c.args.tree.top c.in_ok-leaf.leaf c.page_in.result
    (record { key = c.args.key.now; place = c.args.place; child = 0 }) c.requires.no_pins c.in_ok-leaf.ensures.looks h
    (c.in_ok-leaf.ensures.leaf h.es h.pages h.leaves h.tree) c.page_in.ensures).1

pub returns-clause-gone : goal.returns-clause-gone
returns-clause-gone g c = λ es pages leaves h.
    deleted c.args.tree.file (g.S.Pages.state c.args.space.now) (g.S.Pages.state c.leaf_of.new.space) (g.S.Pages.state c.take_from.new.space) c.page_in.result c.args.tree.top es pages leaves
    c.in_ok-leaf.leaf (record { key = c.args.key.now; place = c.args.place; child = 0 }) c.in_ok-gone.gone c.in_ok-leaf.ensures.looks h
    (c.in_ok-leaf.ensures.leaf es pages leaves h) c.page_in.ensures c.in_ok-gone.ensures.takes

pub returns-clause-steady : goal.returns-clause-steady
returns-clause-steady g c = λ pages line.
    taken_steady c.args.tree.file (g.S.Pages.state c.args.space.now) (g.S.Pages.state c.leaf_of.new.space) (g.S.Pages.state c.take_from.new.space) c.page_in.result c.args.tree.top pages
    c.in_ok-leaf.leaf (record { key = c.args.key.now; place = c.args.place; child = 0 }) c.in_ok-gone.gone c.in_ok-leaf.ensures.looks c.in_ok-leaf.ensures.leaf c.requires.there
    c.page_in.ensures line c.in_ok-gone.ensures.takes

pub returns-clause-line : goal.returns-clause-line
returns-clause-line g c = λ pages line.
    line_taken c.args.tree.file (g.S.Pages.state c.args.space.now) (g.S.Pages.state c.leaf_of.new.space) (g.S.Pages.state c.take_from.new.space) c.page_in.result c.args.tree.top pages
    (record { key = c.args.key.now; place = c.args.place; child = 0 }) c.in_ok-gone.gone c.in_ok-leaf.ensures.looks c.in_ok-gone.ensures.takes line

pub returns-in_err-leaf-clause-line : goal.returns-in_err-leaf-clause-line
returns-in_err-leaf-clause-line g c = λ pages line.
    line_stays_looked c.args.tree.file (g.S.Pages.state c.args.space.now) (g.S.Pages.state c.leaf_of.new.space) c.args.tree.top pages c.in_err-leaf.ensures.looks line

pub returns-in_err-gone-clause-line : goal.returns-in_err-gone-clause-line
returns-in_err-gone-clause-line g c = λ pages line.
    line_stays_looked c.args.tree.file (g.S.Pages.state c.leaf_of.new.space) (g.S.Pages.state c.take_from.new.space) c.args.tree.top pages c.in_err-gone.ensures.err
    (line_stays_looked c.args.tree.file (g.S.Pages.state c.args.space.now) (g.S.Pages.state c.leaf_of.new.space) c.args.tree.top pages c.in_ok-leaf.ensures.looks line)
