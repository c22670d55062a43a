use Rattle.std.proofs.Common.{sym, ap, ◌∙◌, subst}
use Rattle.hg_base.specs.Space.{Space, key, IsFree}
use Rattle.hg_btree.specs.Entries.{Entry}
use Rattle.hg_btree.proofs.Seeking.{led}
use Rattle.hg_btree.proofs.Planning.{page_at}
use Rattle.hg_btree.proofs.insert.look_here.Goals as goal

pub look-requires-clause-free : goal.look-requires-clause-free
look-requires-clause-free g c = λ told.
    let a : Space = g.S.Pages.state c.args.space.now in
    let t : Entry = record { key = c.args.key.now; place = c.args.place; child = 0 } in
    let w = c.requires.there told in
    subst (IsFree a) (sym c.page_in.ensures) (page_at c.args.tree.file a c.args.tree.top w.0 w.1 w.2 w.3 c.args.node t c.requires.no_pins w.4 w.5).free

pub look-requires-clause-sound : goal.look-requires-clause-sound
look-requires-clause-sound g c = λ told.
    let a : Space = g.S.Pages.state c.args.space.now in
    let t : Entry = record { key = c.args.key.now; place = c.args.place; child = 0 } in
    let w = c.requires.there told in
    let p = page_at c.args.tree.file a c.args.tree.top w.0 w.1 w.2 w.3 c.args.node t c.requires.no_pins w.4 w.5 in
    (p.page, ap (λ q. a.bytes (key q)) c.page_in.ensures ∙ p.told, p.is)

pub returns-clause-found : goal.returns-clause-found
returns-clause-found g c = λ es pages leaves level h r.
    let a : Space = g.S.Pages.state c.args.space.now in
    let t : Entry = record { key = c.args.key.now; place = c.args.place; child = 0 } in
    let d = led c.args.tree.file a c.args.tree.top es pages leaves level c.args.node c.in_ok-found.found.level c.in_ok-found.found.child t h r
    (λ page told. c.in_ok-found.ensures.leads page (ap (λ q. a.bytes (key q)) c.page_in.ensures ∙ told)) in
    record { level_is = d.0; next = d.1; crowded_is = λ page told. c.in_ok-found.ensures.crowded page (ap (λ q. a.bytes (key q)) c.page_in.ensures ∙ told) }
