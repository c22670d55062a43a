use Rattle.std.specs.Prelude.{None}
use Rattle.std.proofs.Common.{sym, ◌∙◌, arith}
use Rattle.hg_base.specs.Space.{Space}
use Rattle.hg_base.specs.SteadyLaws.{HasCause_behind}
use Rattle.hg_btree.specs.Entries.{Entry}
use Rattle.hg_btree.proofs.Seeking.{along_next, along_found, along_end, along_short, asked_leaf, seen_before, looks_then, damage_cause}
use Rattle.hg_btree.proofs.seek.seek_on.Goals as goal

pub look_along-requires-clause-free : goal.look_along-requires-clause-free
look_along-requires-clause-free g c = λ told.
    let a : Space = g.S.Pages.state c.args.space.now in
    let t : Entry = record { key = c.args.key.now; place = c.args.place; child = 0 } in
    let i = c.loop-turn.invariant in
    let h = c.requires.there (sym i.looks.steady.told ∙ told) in
    (asked_leaf c.args.tree.file a (g.S.Pages.state c.loop-turn.space) c.args.tree.top c.loop-turn.leaf c.loop-turn._turn c.page_in.result t
    c.requires.no_pins i.looks (record { es = h.0; pages = h.1; leaves = h.2; tree = h.3 }) (i.along h.0 h.1 h.2 h.3 h.4) c.page_in.ensures).0

pub look_along-requires-clause-sound : goal.look_along-requires-clause-sound
look_along-requires-clause-sound g c = λ told.
    let a : Space = g.S.Pages.state c.args.space.now in
    let t : Entry = record { key = c.args.key.now; place = c.args.place; child = 0 } in
    let i = c.loop-turn.invariant in
    let h = c.requires.there (sym i.looks.steady.told ∙ told) in
    (asked_leaf c.args.tree.file a (g.S.Pages.state c.loop-turn.space) c.args.tree.top c.loop-turn.leaf c.loop-turn._turn c.page_in.result t
    c.requires.no_pins i.looks (record { es = h.0; pages = h.1; leaves = h.2; tree = h.3 }) (i.along h.0 h.1 h.2 h.3 h.4) c.page_in.ensures).1

pub returns-in-Entry-clause-first : goal.returns-in-Entry-clause-first
returns-in-Entry-clause-first g c = λ es pages leaves h w.
    let a : Space = g.S.Pages.state c.args.space.now in
    let t : Entry = record { key = c.args.key.now; place = c.args.place; child = 0 } in
    let l = c.loop-turn.invariant.along es pages leaves h w in
    along_found c.args.tree.file a c.args.tree.top es pages leaves c.loop-turn.leaf c.loop-turn._turn c.in-Entry.place t c.look_along.new.out.items c.requires.no_pins h l
    (seen_before c.args.tree.file a (g.S.Pages.state c.loop-turn.space) c.args.tree.top c.loop-turn.leaf c.loop-turn._turn c.page_in.result t es pages leaves
    c.look_along.new.out.items c.in_ok-on.on _ c.requires.no_pins c.loop-turn.invariant.looks h l c.page_in.ensures c.in-Entry.is c.in_ok-on.ensures.seeks)

pub returns-in-End-clause-first : goal.returns-in-End-clause-first
returns-in-End-clause-first g c = λ es pages leaves h w.
    let a : Space = g.S.Pages.state c.args.space.now in
    let t : Entry = record { key = c.args.key.now; place = c.args.place; child = 0 } in
    let l = c.loop-turn.invariant.along es pages leaves h w in
    along_end c.args.tree.file a c.args.tree.top es pages leaves c.loop-turn.leaf c.loop-turn._turn t c.look_along.new.out.items c.requires.no_pins h l
    (seen_before c.args.tree.file a (g.S.Pages.state c.loop-turn.space) c.args.tree.top c.loop-turn.leaf c.loop-turn._turn c.page_in.result t es pages leaves
    c.look_along.new.out.items c.in_ok-on.on _ c.requires.no_pins c.loop-turn.invariant.looks h l c.page_in.ensures c.in-End.is c.in_ok-on.ensures.seeks)

pub loop-turn-preserved : goal.loop-turn-preserved
loop-turn-preserved g c =
    let a : Space = g.S.Pages.state c.args.space.now in
    let b : Space = g.S.Pages.state c.loop-turn.space in
    let d : Space = g.S.Pages.state c.look_along.new.space in
    let t : Entry = record { key = c.args.key.now; place = c.args.place; child = 0 } in
    let i = c.loop-turn.invariant in
    record {
      looks = looks_then a b d i.looks c.in_ok-on.ensures.looks;
      cause = HasCause_behind a b d None i.looks.steady.told i.cause c.in_ok-on.ensures.cause;
      along = λ es pages leaves h w.
          let l = i.along es pages leaves h w in
          along_next c.args.tree.file a c.args.tree.top es pages leaves c.loop-turn.leaf c.loop-turn._turn c.in-Next.next t c.look_along.new.out.items c.requires.no_pins h l
          (seen_before c.args.tree.file a b c.args.tree.top c.loop-turn.leaf c.loop-turn._turn c.page_in.result t es pages leaves
          c.look_along.new.out.items c.in_ok-on.on _ c.requires.no_pins i.looks h l c.page_in.ensures c.in-Next.is c.in_ok-on.ensures.seeks);
    }

pub returns-clause-cause : goal.returns-clause-cause
returns-clause-cause g c =
    let a : Space = g.S.Pages.state c.args.space.now in
    let b : Space = g.S.Pages.state c.loop-turn.space in
    let t : Entry = record { key = c.args.key.now; place = c.args.place; child = 0 } in
    damage_cause a b _ _ c.loop-turn.invariant.cause
    (λ told.
    let h = c.requires.there told in
    along_short c.args.tree.file a c.args.tree.top h.0 h.1 h.2 c.loop-turn.leaf c.loop-turn._turn t h.3 (c.loop-turn.invariant.along h.0 h.1 h.2 h.3 h.4)
    (let n = c.taken-turn-end.ensures.count in omega arith))
