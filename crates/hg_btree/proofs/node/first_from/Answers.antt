use Rattle.std.specs.Prelude.{◌+◌, ◌-◌, ◌++◌, take, drop, false}
use Rattle.std.proofs.Common.{◌∙◌, ap, arith}
use Rattle.std.proofs.lemmas.Bool.{false≢true}
use Rattle.hg_btree.specs.Entries.{Entry}
use Rattle.hg_btree.proofs.Finding.{here, spot_first, spot_none}
use Rattle.hg_btree.proofs.node.first_from.Goals as goal

pub returns-then-spot-end-clause-first : goal.returns-then-spot-end-clause-first
returns-then-spot-end-clause-first c = λ level link es h.
    let t : Entry = record { key = c.args.key.now; place = c.args.place; child = 0 } in
    spot_none false c.args.page.now level link es t c.in_ok-spot.spot.at c.in_ok-spot.spot.after c.in_ok-spot.spot.there c.args.out.now.items h
    (c.in_ok-spot.ensures.spot level link es h)
    (let v = c.number_at-end.ensures.value in let l = c.if-spot-end.true in omega arith)

pub returns-in_err-after-clause-sound : goal.returns-in_err-after-clause-sound
returns-in_err-after-clause-sound c = λ level link es h.
    let t : Entry = record { key = c.args.key.now; place = c.args.place; child = 0 } in
    let s = c.in_ok-spot.ensures.spot level link es h in
    let o = here false c.args.page.now level link es _ c.in_ok-spot.spot.at h s.passed
    (let v = c.number_at-end.ensures.value in let l = c.if-spot-end.false in omega arith) in
    absurd (false≢true (c.in_err-after.ensures.sound o.x o.reading (c.number_at-end.ensures.value)))

pub returns-clause-first : goal.returns-clause-first
returns-clause-first c = λ level link es h.
    let t : Entry = record { key = c.args.key.now; place = c.args.place; child = 0 } in
    spot_first false c.args.page.now level link es t c.in_ok-spot.spot.at c.in_ok-spot.spot.after c.in_ok-after.after c.in_ok-spot.spot.there c.try_extend_from_slice.new.self.items c.place_of.result h
    (c.in_ok-spot.ensures.spot level link es h)
    (let v = c.number_at-end.ensures.value in let l = c.if-spot-end.false in omega arith)
    (let a = c.in_ok-after.ensures.after in omega arith)
    (c.in-Ok.ensures.ok ∙ ap (λ l. l ++ take (c.in_ok-after.after - (c.in_ok-spot.spot.at + 10)) (drop (c.in_ok-spot.spot.at + 10) c.args.page.now)) c.clear.ensures)
    c.place_of.ensures
