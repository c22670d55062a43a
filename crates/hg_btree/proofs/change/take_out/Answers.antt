use Rattle.std.specs.Prelude.{◌≡◌, ℕ, List, Bool, false, true, not}
use Rattle.std.proofs.Common.{sym, subst, refl}
use Rattle.std.proofs.lemmas.Bool.{false≢true}
use Rattle.hg_btree.specs.Entries.{Entry}
use Rattle.hg_btree.specs.Nodes.{IsNode, IsSpot}
use Rattle.hg_btree.proofs.Leaves.{removes_spot, misses_spot, if_err}
use Rattle.hg_btree.proofs.change.take_out.Goals as goal

not_true : (b : Bool) → not b ≡ true → b ≡ false
not_true true e = absurd (false≢true e)
not_true false e = refl

not_false : (b : Bool) → not b ≡ false → b ≡ true
not_false true e = refl
not_false false e = absurd (false≢true (sym e))

pub returns-then-not-spot-clause-missed : goal.returns-then-not-spot-clause-missed
returns-then-not-spot-clause-missed c = λ _ link es h.
    let t : Entry = record { key = c.args.key.now; place = c.args.place; child = 0 } in
    misses_spot es t c.in_ok-spot.spot.at c.in_ok-spot.spot.after
    (subst (IsSpot false es t c.in_ok-spot.spot.at c.in_ok-spot.spot.after) (not_true c.in_ok-spot.spot.there c.if-not-spot.true) (c.in_ok-spot.ensures.spot 0 link es h))

pub returns-clause-taken : goal.returns-clause-taken
returns-clause-taken c = λ _ link es h.
    let t : Entry = record { key = c.args.key.now; place = c.args.place; child = 0 } in
    removes_spot c.args.page.now c.remove.new.page link es t c.in_ok-spot.spot.at c.in_ok-spot.spot.after h
    (subst (IsSpot false es t c.in_ok-spot.spot.at c.in_ok-spot.spot.after) (not_false c.in_ok-spot.spot.there c.if-not-spot.false) (c.in_ok-spot.ensures.spot 0 link es h))
    c.remove.ensures

pub returns-in_err-level-clause-damaged : goal.returns-in_err-level-clause-damaged
returns-in_err-level-clause-damaged c =
    if_err c.from_residual.result ((link : ℕ) (es : List Entry) → IsNode false c.args.page.now 0 link es → ⊥) (λ link es h. false≢true (c.in_err-level.ensures.leaf 0 link es h refl))

pub returns-in_err-spot-clause-damaged : goal.returns-in_err-spot-clause-damaged
returns-in_err-spot-clause-damaged c =
    if_err c.from_residual-in_err-spot.result ((link : ℕ) (es : List Entry) → IsNode false c.args.page.now 0 link es → ⊥) (λ link es h. false≢true (c.in_err-spot.ensures.sound 0 link es h))
