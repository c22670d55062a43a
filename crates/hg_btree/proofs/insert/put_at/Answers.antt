use Rattle.std.proofs.Common.{sym, ap, ◌∙◌, subst}
use Rattle.hg_base.specs.Space.{key, IsFree}
use Rattle.hg_btree.specs.Trees.{first_page, pages_of}
use Rattle.hg_btree.proofs.Walking.{leaf_here}
use Rattle.hg_btree.proofs.Inserting.{puts}
use Rattle.hg_btree.proofs.Seeking.{looks_same}
use Rattle.hg_btree.proofs.Planning.{page_at}
use Rattle.hg_btree.proofs.Descending.{put_line, full_looked, leaf_in}
use Rattle.hg_btree.proofs.insert.put_at.Goals as goal

pub put_into-requires-clause-free : goal.put_into-requires-clause-free
put_into-requires-clause-free g c = λ told.
    let w = c.requires.there told in
    subst (IsFree (g.S.Pages.state c.args.space.now)) (sym c.page_in.ensures) (page_at c.args.tree.file (g.S.Pages.state c.args.space.now) c.args.tree.top w.0 w.1 w.2 0 c.args.leaf (record { key = c.args.key.now; place = c.args.place; child = 0 }) c.requires.no_pins w.3 w.4).free

pub put_into-requires-clause-sound : goal.put_into-requires-clause-sound
put_into-requires-clause-sound g c = λ told.
    let w = c.requires.there told in
    let l = leaf_here (pages_of c.args.tree.file (g.S.Pages.state c.args.space.now)) c.args.tree.top w.3.levels w.0 (record { key = c.args.key.now; place = c.args.place; child = 0 }) c.args.leaf w.3.chained w.3.sorted w.4 in
    (l.at.page, first_page w.4.behind, l.own, ap (λ q. ((g.S.Pages.state c.args.space.now)).bytes (key q)) c.page_in.ensures ∙ ap (pages_of c.args.tree.file (g.S.Pages.state c.args.space.now)) (sym w.4.page_is) ∙ l.at.told, l.at.node)

pub returns-clause-puts : goal.returns-clause-puts
returns-clause-puts g c = λ es pages leaves h r.
    puts c.args.tree.file (g.S.Pages.state c.args.space.now) (g.S.Pages.state c.args.space.now) (g.S.Pages.state c.put_into.new.space) c.page_in.result c.args.tree.top es pages leaves c.args.leaf (record { key = c.args.key.now; place = c.args.place; child = 0 }) c.in_ok-how.how (looks_same (g.S.Pages.state c.args.space.now) c.requires.no_pins) h r c.page_in.ensures c.in_ok-how.ensures.puts

pub returns-clause-full : goal.returns-clause-full
returns-clause-full g c = λ e.
    let o = full_looked (g.S.Pages.state c.args.space.now) (g.S.Pages.state c.put_into.new.space) c.page_in.result (record { key = c.args.key.now; place = c.args.place; child = 0 }) c.in_ok-how.how e c.in_ok-how.ensures.puts in
    (o.0, λ page told. o.1 page (ap (λ q. ((g.S.Pages.state c.args.space.now)).bytes (key q)) c.page_in.ensures ∙ told))

pub returns-clause-line : goal.returns-clause-line
returns-clause-line g c = λ pages l.
    put_line c.args.tree.file (g.S.Pages.state c.args.space.now) (g.S.Pages.state c.put_into.new.space) c.page_in.result c.args.tree.top pages c.args.leaf (record { key = c.args.key.now; place = c.args.place; child = 0 }) c.in_ok-how.how c.page_in.ensures
    (λ told. let w = c.requires.there told in leaf_in c.args.tree.file (g.S.Pages.state c.args.space.now) c.args.tree.top w.0 w.1 pages w.2 c.args.leaf (record { key = c.args.key.now; place = c.args.place; child = 0 }) w.3 w.4 l) l c.in_ok-how.ensures.puts
