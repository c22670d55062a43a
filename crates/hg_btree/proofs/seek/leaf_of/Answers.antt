use Rattle.std.specs.Prelude.{◌-◌, None}
use Rattle.std.proofs.Common.{sym, ◌∙◌, ap, arith}
use Rattle.hg_base.specs.Space.{Space, key}
use Rattle.hg_base.specs.SteadyLaws.{HasCause_behind}
use Rattle.hg_btree.specs.Entries.{Entry}
use Rattle.hg_btree.proofs.Seeking.{asked_first, asked_below, told_before, led_first, led_next, looks_then, damage_cause}
use Rattle.hg_btree.proofs.seek.leaf_of.Goals as goal

pub look-requires-clause-free : goal.look-requires-clause-free
look-requires-clause-free g c = λ told.
    (asked_first c.args.tree.file (g.S.Pages.state c.args.space.now) c.args.tree.top c.page_in.result (record { key = c.args.key.now; place = c.args.place; child = 0 })
    c.requires.out (c.requires.there told) c.page_in.ensures).0

pub look-requires-clause-sound : goal.look-requires-clause-sound
look-requires-clause-sound g c = λ told.
    (asked_first c.args.tree.file (g.S.Pages.state c.args.space.now) c.args.tree.top c.page_in.result (record { key = c.args.key.now; place = c.args.place; child = 0 })
    c.requires.out (c.requires.there told) c.page_in.ensures).1

pub returns-then-found-eq0-clause-leaf : goal.returns-then-found-eq0-clause-leaf
returns-then-found-eq0-clause-leaf g c = λ es pages leaves h.
    let a : Space = g.S.Pages.state c.args.space.now in
    let t : Entry = record { key = c.args.key.now; place = c.args.place; child = 0 } in
    (led_first c.args.tree.file a c.args.tree.top es pages leaves c.in_ok-found.found.level c.in_ok-found.found.child t h
    (λ bytes told. c.in_ok-found.ensures.leads bytes (ap (λ p. a.bytes (key p)) c.page_in.ensures ∙ told))).at_leaf c.if-found-eq0.true

pub loop-found-init : goal.loop-found-init
loop-found-init g c =
    let a : Space = g.S.Pages.state c.args.space.now in
    let t : Entry = record { key = c.args.key.now; place = c.args.place; child = 0 } in
    record {
      looks = c.in_ok-found.ensures.looks;
      cause = c.in_ok-found.ensures.cause;
      above = let n = c.if-found-eq0.false in omega arith;
      led = λ es pages leaves h. led_first c.args.tree.file a c.args.tree.top es pages leaves c.in_ok-found.found.level c.in_ok-found.found.child t h
          (λ bytes told. c.in_ok-found.ensures.leads bytes (ap (λ p. a.bytes (key p)) c.page_in.ensures ∙ told));
    }

pub look-requires-in-loop-found-clause-free : goal.look-requires-in-loop-found-clause-free
look-requires-in-loop-found-clause-free g c = λ told.
    let a : Space = g.S.Pages.state c.args.space.now in
    let t : Entry = record { key = c.args.key.now; place = c.args.place; child = 0 } in
    let h = c.requires.there (sym c.loop-found.invariant.looks.steady.told ∙ told) in
    let l = c.loop-found-test.true in
    (asked_below c.args.tree.file a (g.S.Pages.state c.loop-found.space) c.args.tree.top (c.loop-found.found.level - 1) c.loop-found.found.child c.page_in-page.result t
    c.requires.out c.loop-found.invariant.looks h
    ((c.loop-found.invariant.led h.es h.pages h.leaves h.tree).onward (c.loop-found.found.level - 1) (omega arith)) c.page_in-page.ensures).0

pub look-requires-in-loop-found-clause-sound : goal.look-requires-in-loop-found-clause-sound
look-requires-in-loop-found-clause-sound g c = λ told.
    let a : Space = g.S.Pages.state c.args.space.now in
    let t : Entry = record { key = c.args.key.now; place = c.args.place; child = 0 } in
    let h = c.requires.there (sym c.loop-found.invariant.looks.steady.told ∙ told) in
    let l = c.loop-found-test.true in
    (asked_below c.args.tree.file a (g.S.Pages.state c.loop-found.space) c.args.tree.top (c.loop-found.found.level - 1) c.loop-found.found.child c.page_in-page.result t
    c.requires.out c.loop-found.invariant.looks h
    ((c.loop-found.invariant.led h.es h.pages h.leaves h.tree).onward (c.loop-found.found.level - 1) (omega arith)) c.page_in-page.ensures).1

pub returns-then-below-found-clause-cause : goal.returns-then-below-found-clause-cause
returns-then-below-found-clause-cause g c =
    let a : Space = g.S.Pages.state c.args.space.now in
    let b : Space = g.S.Pages.state c.loop-found.space in
    let d : Space = g.S.Pages.state c.look-in-loop-found.new.space in
    let t : Entry = record { key = c.args.key.now; place = c.args.place; child = 0 } in
    damage_cause a d _ _
    (HasCause_behind a b d None c.loop-found.invariant.looks.steady.told c.loop-found.invariant.cause c.in_ok-below.ensures.cause)
    (λ told.
    let h = c.requires.there told in
    let l = c.loop-found-test.true in
    let r = (c.loop-found.invariant.led h.es h.pages h.leaves h.tree).onward (c.loop-found.found.level - 1) (omega arith) in
    c.if-below-found.true
    (led_next c.args.tree.file a c.args.tree.top h.es h.pages h.leaves (c.loop-found.found.level - 1) c.loop-found.found.child c.in_ok-below.below.level c.in_ok-below.below.child t h.tree r (omega arith)
    (told_before c.args.tree.file a b c.args.tree.top (c.loop-found.found.level - 1) c.loop-found.found.child c.page_in-page.result t h.es h.pages h.leaves c.in_ok-below.below.level c.in_ok-below.below.child
    c.requires.out c.loop-found.invariant.looks h.tree r c.page_in-page.ensures c.in_ok-below.ensures.leads)).0)

pub loop-found-preserved : goal.loop-found-preserved
loop-found-preserved g c =
    let a : Space = g.S.Pages.state c.args.space.now in
    let b : Space = g.S.Pages.state c.loop-found.space in
    let d : Space = g.S.Pages.state c.look-in-loop-found.new.space in
    let t : Entry = record { key = c.args.key.now; place = c.args.place; child = 0 } in
    record {
      looks = looks_then a b d c.loop-found.invariant.looks c.in_ok-below.ensures.looks;
      cause = HasCause_behind a b d None c.loop-found.invariant.looks.steady.told c.loop-found.invariant.cause c.in_ok-below.ensures.cause;
      above = let l = c.loop-found-test.true in let e = c.if-below-found.false in omega arith;
      led = λ es pages leaves h.
          let l = c.loop-found-test.true in
          let r = (c.loop-found.invariant.led es pages leaves h).onward (c.loop-found.found.level - 1) (omega arith) in
          (led_next c.args.tree.file a c.args.tree.top es pages leaves (c.loop-found.found.level - 1) c.loop-found.found.child c.in_ok-below.below.level c.in_ok-below.below.child t h r (omega arith)
          (told_before c.args.tree.file a b c.args.tree.top (c.loop-found.found.level - 1) c.loop-found.found.child c.page_in-page.result t es pages leaves c.in_ok-below.below.level c.in_ok-below.below.child
          c.requires.out c.loop-found.invariant.looks h r c.page_in-page.ensures c.in_ok-below.ensures.leads)).1;
    }

pub returns-clause-leaf : goal.returns-clause-leaf
returns-clause-leaf g c = λ es pages leaves h.
    let l = c.loop-found-test.false in
    let p = c.loop-found.invariant.above in
    (c.loop-found.invariant.led es pages leaves h).onward 0 (omega arith)
