-- What both halves of a page are.
use Rattle.std.specs.Prelude.{◌≡◌, ℕ, ◌+◌, ◌≤◌, true, false, Bool, List, [], ◌∷◌, ◌++◌, length, ◌⊎◌}
use Rattle.std.proofs.Common.{sym, ◌∙◌, ap, subst, arith, append_assoc, length-append, inl, inr}
use Rattle.hg_btree.specs.declared.split.Halves.{Halves}
use Rattle.hg_btree.specs.Entries.{Entry, Before}
use Rattle.hg_btree.specs.Nodes.{number, spelled, spelling, IsNode}
use Rattle.hg_btree.specs.Halving.{HalvesInner, HalvesLeaf, AreInnerHalves, AreLeafHalves}
use Rattle.hg_btree.proofs.Orders.{not_before_itself, page_second}
use Rattle.hg_btree.proofs.Reading.{spelling-none, spelling-more, spelling-append, end_is}
use Rattle.hg_btree.proofs.Splitting.{crowded_not, crowded_less}

-- the place behind an entry
behind_entry : (inner : Bool) (lower : List Entry) (m : Entry) (at from : ℕ) → at ≡ 16 + length (spelling inner lower) → from ≡ at + length (spelled inner m)
    → from ≡ 16 + length (spelling inner (lower ++ m ∷ []))
behind_entry inner lower m at from a f =
    let c = ap length (spelling-append inner lower (m ∷ [])) ∙ length-append (spelling inner lower) (spelling inner (m ∷ [])) in
    let d = ap length (spelling-more inner m []) ∙ length-append (spelled inner m) (spelling inner []) in
    let z = ap length (spelling-none inner) in
    omega arith

pub inner_halves : (page lower upper : List ℕ) (level first : ℕ) (es : List Entry) (t : Entry) (h : Halves) (key : List ℕ) → IsNode true page level first es
    → HalvesInner es h key → h.at ≤ 2582 → number page 4 ≤ h.from + 2040
    → ((sl sk : ℕ) (done todo : List Entry) → IsNode true page sl sk (done ++ todo) → h.from ≡ 16 + length (spelling true done) → h.more ≡ length todo → IsNode true upper level h.link todo)
    → ((inner : Bool) (level link : ℕ) (done todo : List Entry) → IsNode inner page level link (done ++ todo) → h.at ≡ 16 + length (spelling inner done) → h.count ≡ length done → IsNode inner lower level link done)
    → AreInnerHalves level first es lower upper t key h.place
inner_halves page lower upper level first es t h key n k at4 from4 f g =
    let n2 : IsNode true page level first (k.lower ++ k.middle ∷ k.upper) = subst (IsNode true page level first) k.all n in
    let n3 : IsNode true page level first ((k.lower ++ k.middle ∷ []) ++ k.upper) =
    subst (IsNode true page level first) (sym (append_assoc k.lower (k.middle ∷ []) k.upper)) n2 in
    let fr = behind_entry true k.lower k.middle h.at h.from k.at_is k.from_is in
    let low = g true level first k.lower (k.middle ∷ k.upper) n2 k.at_is k.count_is in
    let high = f level first (k.lower ++ k.middle ∷ []) k.upper n3 fr k.more_is in
    record {
      low = k.lower;
      middle = k.middle;
      high = k.upper;
      all = k.all;
      some_low = k.some_lower;
      some_high = k.some_upper;
      low_is = low;
      high_is = subst (λ c. IsNode true upper level c k.upper) k.link_is high;
      key_is = k.key_is;
      place_is = k.place_is;
      room = record {
        low = λ b. crowded_not lower (let r = low.free in let a = k.at_is in omega arith);
        high = crowded_not upper (let r = high.free in let e = end_is true page level first (k.lower ++ k.middle ∷ []) k.upper h.from n3 fr in omega arith);
      };
    }

pub leaf_halves : (page lower upper : List ℕ) (link : ℕ) (es : List Entry) (t : Entry) (h : Halves) (key : List ℕ) → IsNode false page 0 link es
    → HalvesLeaf link es t h key → ((h.at ≤ 2582) ⊎ ((key ≡ t.key) × (h.place ≡ t.place))) → number page 4 ≤ h.from + 2040
    → ((sl sk : ℕ) (done todo : List Entry) → IsNode false page sl sk (done ++ todo) → h.from ≡ 16 + length (spelling false done) → h.more ≡ length todo → IsNode false upper 0 h.link todo)
    → ((inner : Bool) (level link : ℕ) (done todo : List Entry) → IsNode inner page level link (done ++ todo) → h.at ≡ 16 + length (spelling inner done) → h.count ≡ length done → IsNode inner lower level link done)
    → AreLeafHalves link link es lower upper t key h.place
leaf_halves page lower upper link es t h key n k at4 from4 f g =
    let n2 : IsNode false page 0 link (k.lower ++ k.upper) = subst (IsNode false page 0 link) k.all n in
    let fr = k.from_is ∙ k.at_is in
    let low = g false 0 link k.lower k.upper n2 k.at_is k.count_is in
    let high = f 0 link k.lower k.upper n2 fr k.more_is in
    record {
      low = k.lower;
      high = k.upper;
      all = k.all;
      low_is = low;
      high_is = subst (λ c. IsNode false upper 0 c k.upper) k.link_is high;
      is_bound = k.is_bound;
      room = record {
        low = λ b. crowded_not lower (let r = low.free in let a = k.at_is in elim at4 [
          | inl l ↦ omega arith
          | inr e ↦ absurd (itself t key h.place e.0 e.1 b)
        ]);
        high = crowded_not upper (let r = high.free in let e = end_is false page 0 link k.lower k.upper h.from n2 fr in omega arith);
      };
    }
  where
    itself : (t : Entry) (key : List ℕ) (place : ℕ) → key ≡ t.key → place ≡ t.place → Before t (record { key = key; place = place; child = 0 }) → ⊥
    itself t key place e p b = not_before_itself t (sym (page_second t t 0) ∙ subst (λ q. Before t (record { key = t.key; place = q; child = 0 })) p (subst (λ k. Before t (record { key = k; place = place; child = 0 })) e b))

-- the lower half names the upper one
pub halves_linked : (num link : ℕ) (es : List Entry) (lower linked upper : List ℕ) (t : Entry) (key : List ℕ) (place : ℕ) → AreLeafHalves link link es lower upper t key place
    → ((level old : ℕ) (es : List Entry) → IsNode false lower level old es → IsNode false linked level num es)
    → AreLeafHalves num link es linked upper t key place
halves_linked num link es lower linked upper t key place h f =
    let now = f 0 link h.low h.low_is in
    record {
      low = h.low;
      high = h.high;
      all = h.all;
      low_is = now;
      high_is = h.high_is;
      is_bound = h.is_bound;
      room = record {
        low = λ b. crowded_not linked (let k = crowded_less lower (h.room.low b) in let x = now.free in let y = h.low_is.free in omega arith);
        high = h.room.high;
      };
    }
