use Rattle.std.specs.Prelude.{◌+◌, None, Some, true}
use Rattle.std.proofs.Common.{sym, ◌∙◌, ap, subst, arith}
use Rattle.std.proofs.lemmas.Bool.{false≢true}
use Rattle.hg_base.specs.Space.{Space, IsFree, key}
use Rattle.hg_base.specs.SteadyLaws.{HasCause_behind}
use Rattle.hg_btree.specs.Entries.{Entry}
use Rattle.hg_btree.specs.Nodes.{IsNode, crowded_page}
use Rattle.hg_btree.proofs.Seeking.{free_stays, damage_cause, looks_then}
use Rattle.hg_btree.proofs.Walking.{times_has}
use Rattle.hg_btree.proofs.Planning.{parent_page, child_of, told_now}
use Rattle.hg_btree.proofs.plan.plan_split.Goals as goal

pub copy_of-requires-clause-free : goal.copy_of-requires-clause-free
copy_of-requires-clause-free g c = λ told.
    let a : Space = g.S.Pages.state c.args.space.now in
    let t : Entry = record { key = c.args.key.now; place = c.args.place; child = 0 } in
    let w = c.requires.there told in
    subst (IsFree a) (sym c.page_in-parent.ensures) (parent_page c.args.file a w.0 t w.1 w.2 w.3 w.4 c.args.node c.requires.no_pins w.5).free

pub returns-in-Err-clause-cause : goal.returns-in-Err-clause-cause
returns-in-Err-clause-cause g c =
    let a : Space = g.S.Pages.state c.args.space.now in
    let b : Space = g.S.Pages.state c.copy_of.new.space in
    let t : Entry = record { key = c.args.key.now; place = c.args.place; child = 0 } in
    damage_cause a b _ _ c.in_ok-copy_of.ensures.cause (λ told.
    let w = c.requires.there told in
    let p = parent_page c.args.file a w.0 t w.1 w.2 w.3 w.4 c.args.node c.requires.no_pins w.5 in
    let e = c.in_ok-copy_of.ensures.bytes p.page (ap (λ q. a.bytes (key q)) c.page_in-parent.ensures ∙ p.told) in
    false≢true (c.in-Err.ensures.sound (w.4 + 1) p.first p.items (subst (λ q. IsNode true q (w.4 + 1) p.first p.items) (sym e) p.is) (omega arith) (ap crowded_page e ∙ p.room)))

pub halve_page-requires-clause-free : goal.halve_page-requires-clause-free
halve_page-requires-clause-free g c = λ told.
    let a : Space = g.S.Pages.state c.args.space.now in
    let b : Space = g.S.Pages.state c.copy_of.new.space in
    let t : Entry = record { key = c.args.key.now; place = c.args.place; child = 0 } in
    let l = c.in_ok-copy_of.ensures.looks in
    let w = c.requires.there (sym l.steady.told ∙ told) in
    let p = parent_page c.args.file a w.0 t w.1 w.2 w.3 w.4 c.args.node c.requires.no_pins w.5 in
    let e = c.in_ok-copy_of.ensures.bytes p.page (ap (λ q. a.bytes (key q)) c.page_in-parent.ensures ∙ p.told) in
    let k = child_of c.args.file a w.0 t w.1 w.2 w.3 w.4 c.args.node c.in-Ok.spot.at c.in-Ok.spot.child c.in-Ok.spot.level p.page c.requires.no_pins w.5 p.told
    (λ level first items h. c.in-Ok.ensures.way level first items (subst (λ q. IsNode true q level first items) (sym e) h)) in
    subst (IsFree b) (sym c.page_in-child.ensures) (free_stays a b (record { file = c.args.file; no = c.in-Ok.spot.child }) l k.at.free)

pub halve_page-requires-clause-sound : goal.halve_page-requires-clause-sound
halve_page-requires-clause-sound g c = λ told.
    let a : Space = g.S.Pages.state c.args.space.now in
    let b : Space = g.S.Pages.state c.copy_of.new.space in
    let t : Entry = record { key = c.args.key.now; place = c.args.place; child = 0 } in
    let l = c.in_ok-copy_of.ensures.looks in
    let w = c.requires.there (sym l.steady.told ∙ told) in
    let p = parent_page c.args.file a w.0 t w.1 w.2 w.3 w.4 c.args.node c.requires.no_pins w.5 in
    let e = c.in_ok-copy_of.ensures.bytes p.page (ap (λ q. a.bytes (key q)) c.page_in-parent.ensures ∙ p.told) in
    let k = child_of c.args.file a w.0 t w.1 w.2 w.3 w.4 c.args.node c.in-Ok.spot.at c.in-Ok.spot.child c.in-Ok.spot.level p.page c.requires.no_pins w.5 p.told
    (λ level first items h. c.in-Ok.ensures.way level first items (subst (λ q. IsNode true q level first items) (sym e) h)) in
    (k.at.page, ap (λ q. b.bytes (key q)) c.page_in-child.ensures ∙ told_now a b (record { file = c.args.file; no = c.in-Ok.spot.child }) k.at.page l k.at.free k.at.told, k.at.is, k.full)

pub returns-then-halved-spot-clause-cause : goal.returns-then-halved-spot-clause-cause
returns-then-halved-spot-clause-cause g c =
    let a : Space = g.S.Pages.state c.args.space.now in
    let b : Space = g.S.Pages.state c.copy_of.new.space in
    let d : Space = g.S.Pages.state c.halve_page.new.space in
    let t : Entry = record { key = c.args.key.now; place = c.args.place; child = 0 } in
    let l = c.in_ok-copy_of.ensures.looks in
    damage_cause a d _ _ (HasCause_behind a b d None l.steady.told c.in_ok-copy_of.ensures.cause c.in_ok-halved.ensures.cause) (λ told.
    let w = c.requires.there told in
    let p = parent_page c.args.file a w.0 t w.1 w.2 w.3 w.4 c.args.node c.requires.no_pins w.5 in
    let e = c.in_ok-copy_of.ensures.bytes p.page (ap (λ q. a.bytes (key q)) c.page_in-parent.ensures ∙ p.told) in
    let k = child_of c.args.file a w.0 t w.1 w.2 w.3 w.4 c.args.node c.in-Ok.spot.at c.in-Ok.spot.child c.in-Ok.spot.level p.page c.requires.no_pins w.5 p.told
    (λ level first items h. c.in-Ok.ensures.way level first items (subst (λ q. IsNode true q level first items) (sym e) h)) in
    let v = k.at.level_is c.in_ok-halved.halved.level (c.in_ok-halved.ensures.level k.at.page
    (ap (λ q. b.bytes (key q)) c.page_in-child.ensures ∙ told_now a b (record { file = c.args.file; no = c.in-Ok.spot.child }) k.at.page l k.at.free k.at.told)) in
    let m = k.above in
    c.if-halved-spot.true (omega arith))

pub returns-clause-planned : goal.returns-clause-planned
returns-clause-planned g c = λ top es most leaves n w.
    let a : Space = g.S.Pages.state c.args.space.now in
    let b : Space = g.S.Pages.state c.copy_of.new.space in
    let d : Space = g.S.Pages.state c.halve_page.new.space in
    let t : Entry = record { key = c.args.key.now; place = c.args.place; child = 0 } in
    let l = c.in_ok-copy_of.ensures.looks in
    let ll = looks_then a b d l c.in_ok-halved.ensures.looks in
    let p = parent_page c.args.file a top t es most leaves n c.args.node c.requires.no_pins w in
    let e = c.in_ok-copy_of.ensures.bytes p.page (ap (λ q. a.bytes (key q)) c.page_in-parent.ensures ∙ p.told) in
    let k = child_of c.args.file a top t es most leaves n c.args.node c.in-Ok.spot.at c.in-Ok.spot.child c.in-Ok.spot.level p.page c.requires.no_pins w p.told
    (λ level first items h. c.in-Ok.ensures.way level first items (subst (λ q. IsNode true q level first items) (sym e) h)) in
    let told_b = ap (λ q. b.bytes (key q)) c.page_in-child.ensures ∙ told_now a b (record { file = c.args.file; no = c.in-Ok.spot.child }) k.at.page l k.at.free k.at.told in
    record {
      parent_in = times_has w.on.pages c.args.node (p.used top t es most leaves w);
      child_in = times_has w.on.pages c.in-Ok.spot.child k.used;
      parent_free = free_stays a d (record { file = c.args.file; no = c.args.node }) ll p.free;
      told_above = told_now a d (record { file = c.args.file; no = c.args.node }) p.page ll p.free p.told ∙ ap Some (sym e ∙ sym c.in_ok-halved.ensures.above);
      way = λ level first items h. (c.in-Ok.ensures.way level first items (subst (λ q. IsNode true q level first items) c.in_ok-halved.ensures.above h)).1;
      child_free = free_stays a d (record { file = c.args.file; no = c.in-Ok.spot.child }) ll k.at.free;
      apart = k.apart;
      old = k.at.page;
      told = told_now a d (record { file = c.args.file; no = c.in-Ok.spot.child }) k.at.page ll k.at.free k.at.told;
      level_is = k.at.level_is c.in_ok-halved.halved.level (c.in_ok-halved.ensures.level k.at.page told_b);
      is_level = c.in_ok-halved.ensures.level k.at.page told_b;
      halves = c.in_ok-halved.ensures.halves k.at.page told_b;
    }
