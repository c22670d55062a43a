use Rattle.std.specs.Prelude.{ℕ, List, false}
use Rattle.std.proofs.Common.{subst, refl, arith}
use Rattle.std.proofs.lemmas.Bool.{false≢true}
use Rattle.hg_btree.specs.Entries.{Entry}
use Rattle.hg_btree.specs.Nodes.{IsNode, IsSpot}
use Rattle.hg_btree.proofs.Leaves.{if_err}
use Rattle.hg_btree.proofs.Inserting.{has_spot, adds_spot}
use Rattle.hg_btree.proofs.change.put_in.Goals as goal

pub returns-then-spot-clause-had : goal.returns-then-spot-clause-had
returns-then-spot-clause-had c = λ _ link es h.
    let t : Entry = record { key = c.args.key.now; place = c.args.place; child = 0 } in
    has_spot es t c.in_ok-spot.spot.at c.in_ok-spot.spot.after
    (subst (IsSpot false es t c.in_ok-spot.spot.at c.in_ok-spot.spot.after) c.if-spot.true (c.in_ok-spot.ensures.spot 0 link es h))

pub returns-clause-new : goal.returns-clause-new
returns-clause-new c = λ _ link es h.
    let t : Entry = record { key = c.args.key.now; place = c.args.place; child = 0 } in
    adds_spot c.args.page.now c.insert.new.page link es t c.in_ok-spot.spot.at c.in_ok-spot.spot.after h
    (subst (IsSpot false es t c.in_ok-spot.spot.at c.in_ok-spot.spot.after) c.if-spot.false (c.in_ok-spot.ensures.spot 0 link es h))
    (λ level l done todo n a. c.insert.ensures level l done todo n a (omega arith) (omega arith))

pub returns-in_err-level-clause-damaged : goal.returns-in_err-level-clause-damaged
returns-in_err-level-clause-damaged c =
    if_err c.from_residual.result ((link : ℕ) (es : List Entry) → IsNode false c.args.page.now 0 link es → ⊥) (λ link es h. false≢true (c.in_err-level.ensures.leaf 0 link es h refl))

pub returns-in_err-spot-clause-damaged : goal.returns-in_err-spot-clause-damaged
returns-in_err-spot-clause-damaged c =
    if_err c.from_residual-in_err-spot.result ((link : ℕ) (es : List Entry) → IsNode false c.args.page.now 0 link es → ⊥) (λ link es h. false≢true (c.in_err-spot.ensures.sound 0 link es h))
