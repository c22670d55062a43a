-- A row shows the values whose codings are its bytes.
use Rattle.std.proofs.Common.{◌≡◌, ℕ, zero, suc, ◌+◌, ◌-◌, ◌<◌, ◌≤◌, List, [], ◌∷◌, ◌++◌, length, take, drop, get_or, refl, sym, ap, ◌∙◌, subst, arith, append_assoc, append-nil, length-append, length-take, take-append-drop, Some}
use Rattle.std.specs.Prelude.{slice_get}
use Rattle.std.specs.List.{AllByRecursion}
use Rattle.std.proofs.lemmas.List.{take_at, drop_at}
use Rattle.std.proofs.lemmas.Grind.{flat_map-append}
use Rattle.hg_model.specs.declared.values.Value.{Value}
use Rattle.hg_value.specs.Coding.{coding, coded, IsHeld, IsStorable, HasRoom}
use Rattle.hg_value.specs.RowParts.{decoded, values_from, ends_from, begin_from, row_values, AreParts, IsCoding}
use Rattle.hg_value.proofs.Codings.{decoded-coding}

-- ---- the view

pub shown : (vs : List Value) (before : List ℕ) (at : ℕ) → length before ≡ at → AllByRecursion IsHeld vs
    → values_from at (ends_from at vs) (before ++ coded vs) ≡ vs
shown [] before at l h = refl
shown (v ∷ vs) before at l h =
    let rest : drop at (before ++ (coding v ++ coded vs)) ≡ coding v ++ coded vs = drop_at before (coding v ++ coded vs) at l in
    let part : take (at + length (coding v) - at) (coding v ++ coded vs) ≡ coding v = take_at (coding v) (coded vs) (at + length (coding v) - at) (omega arith) in
    let first : decoded (take (at + length (coding v) - at) (drop at (before ++ (coding v ++ coded vs)))) ≡ v =
    ap (λ bs. decoded (take (at + length (coding v) - at) bs)) rest ∙ ap decoded part ∙ decoded-coding v h.0 in
    let further : values_from (at + length (coding v)) (ends_from (at + length (coding v)) vs) (before ++ (coding v ++ coded vs)) ≡ vs =
    ap (values_from (at + length (coding v)) (ends_from (at + length (coding v)) vs)) (sym (append_assoc before (coding v) (coded vs)))
    ∙ shown vs (before ++ coding v) (at + length (coding v)) (length-append before (coding v) ∙ ap (λ n. n + length (coding v)) l) h.1 in
    λ i. first i ∷ further i

pub row_shown : (vs : List Value) (ends bytes : List ℕ) → AllByRecursion IsHeld vs → bytes ≡ coded vs → ends ≡ ends_from 0 vs → row_values ends bytes ≡ vs
row_shown vs ends bytes h b e = (λ i. values_from 0 (e i) (b i)) ∙ shown vs [] 0 refl h

pub parts_of : (vs : List Value) (ends bytes : List ℕ) → IsStorable vs → bytes ≡ coded vs → ends ≡ ends_from 0 vs → AreParts ends bytes
parts_of vs ends bytes s b e =
    let is : vs ≡ row_values ends bytes = sym (row_shown vs ends bytes s.held b e) in
    record { storable = subst IsStorable is s; spelled = b ∙ ap coded is; placed = e ∙ ap (ends_from 0) is }

pub length-values : (at : ℕ) (ends bytes : List ℕ) → length (values_from at ends bytes) ≡ length ends
length-values at [] bytes = refl
length-values at (e ∷ ends) bytes = ap suc (length-values e ends bytes)

pub length-ends : (at : ℕ) (vs : List Value) → length (ends_from at vs) ≡ length vs
length-ends at [] = refl
length-ends at (v ∷ vs) = ap suc (length-ends (at + length (coding v)) vs)

-- ---- one more value

pub coded-push : (vs : List Value) (v : Value) → coded (vs ++ v ∷ []) ≡ coded vs ++ coding v
coded-push vs v = flat_map-append coding vs (v ∷ []) ∙ ap (λ bs. coded vs ++ bs) (append-nil (coding v))

pub ends_from-push : (at : ℕ) (vs : List Value) (v : Value) → ends_from at (vs ++ v ∷ []) ≡ ends_from at vs ++ (at + length (coded vs) + length (coding v)) ∷ []
ends_from-push at [] v = ap (λ n. n ∷ []) (omega arith)
ends_from-push at (w ∷ vs) v =
    ap (λ es. (at + length (coding w)) ∷ es)
    (ends_from-push (at + length (coding w)) vs v
    ∙ ap (λ n. ends_from (at + length (coding w)) vs ++ n ∷ []) (omega (arith, length-append (coding w) (coded vs))))

pub held-push : (vs : List Value) (v : Value) → AllByRecursion IsHeld vs → IsHeld v → AllByRecursion IsHeld (vs ++ v ∷ [])
held-push [] v h k = (k, tt)
held-push (w ∷ vs) v h k = (h.0, held-push vs v h.1 k)

pub storable-push : (vs : List Value) (v : Value) → IsStorable vs → IsHeld v → HasRoom vs v → IsStorable (vs ++ v ∷ [])
storable-push vs v s h r = record {
  few = omega (arith, length-append vs (v ∷ []), r.place);
  held = held-push vs v s.held h;
  short = omega (arith, ap length (coded-push vs v), length-append (coded vs) (coding v), r.bytes);
}

pub record Pushes (ends bytes new_ends new_bytes : List ℕ) (v : Value) : Type 0 where
  pub parts : AreParts new_ends new_bytes
  pub shown : row_values new_ends new_bytes ≡ row_values ends bytes ++ v ∷ []

pub pushing : (ends bytes new_ends new_bytes : List ℕ) (v : Value) (end : ℕ) → AreParts ends bytes → IsHeld v → HasRoom (row_values ends bytes) v
    → new_bytes ≡ bytes ++ coding v → new_ends ≡ ends ++ end ∷ [] → end ≡ length bytes + length (coding v) → Pushes ends bytes new_ends new_bytes v
pushing ends bytes new_ends new_bytes v end p h r b e at =
    let vs = row_values ends bytes in
    let s : IsStorable (vs ++ v ∷ []) = storable-push vs v p.storable h r in
    let bs : new_bytes ≡ coded (vs ++ v ∷ []) = b ∙ ap (λ c. c ++ coding v) p.spelled ∙ sym (coded-push vs v) in
    let long : end ≡ 0 + length (coded vs) + length (coding v) = omega (arith, ap length p.spelled) in
    let es : new_ends ≡ ends_from 0 (vs ++ v ∷ []) = e ∙ (λ i. p.placed i ++ long i ∷ []) ∙ sym (ends_from-push 0 vs v) in
    record { parts = parts_of (vs ++ v ∷ []) new_ends new_bytes s bs es; shown = row_shown (vs ++ v ∷ []) new_ends new_bytes s.held bs es }

-- ---- one value

pub record PlaceOf (begin end : ℕ) (bytes : List ℕ) : Type 0 where
  pub ordered : begin ≤ end
  pub within : end ≤ length bytes
  pub spells : IsCoding (take (end - begin) (drop begin bytes))

pub place_of : (vs : List Value) (before : List ℕ) (at k : ℕ) → length before ≡ at → AllByRecursion IsHeld vs → k < length vs
    → PlaceOf (begin_from at (ends_from at vs) k) (get_or (ends_from at vs) k 0) (before ++ coded vs)
place_of [] before at k l h lt = absurd (omega arith)
place_of (v ∷ vs) before at zero l h lt =
    let rest : drop at (before ++ (coding v ++ coded vs)) ≡ coding v ++ coded vs = drop_at before (coding v ++ coded vs) at l in
    let part : take (at + length (coding v) - at) (coding v ++ coded vs) ≡ coding v = take_at (coding v) (coded vs) (at + length (coding v) - at) (omega arith) in
    record {
      ordered = omega arith;
      within = omega (arith, length-append before (coding v ++ coded vs), length-append (coding v) (coded vs));
      spells = record { value = v; held = h.0; is = ap (take (at + length (coding v) - at)) rest ∙ part };
    }
place_of (v ∷ vs) before at (suc k) l h lt =
    let whole : (before ++ coding v) ++ coded vs ≡ before ++ (coding v ++ coded vs) = append_assoc before (coding v) (coded vs) in
    let next = at + length (coding v) in
    let r : PlaceOf (begin_from next (ends_from next vs) k) (get_or (ends_from next vs) k 0) (before ++ (coding v ++ coded vs)) =
    subst (PlaceOf (begin_from next (ends_from next vs) k) (get_or (ends_from next vs) k 0)) whole
    (place_of vs (before ++ coding v) next k (length-append before (coding v) ∙ ap (λ n. n + length (coding v)) l) h.1 (omega arith)) in
    subst (λ b. PlaceOf b (get_or (ends_from next vs) k 0) (before ++ (coding v ++ coded vs))) (same_begin next vs k) r
  where
    same_begin : (n : ℕ) (ws : List Value) (j : ℕ) → begin_from n (ends_from n ws) j ≡ begin_from at (n ∷ ends_from n ws) (suc j)
    same_begin n ws zero = refl
    same_begin n ws (suc j) = refl

pub value_is : (ends bytes : List ℕ) (at k : ℕ) → k < length ends
    → slice_get (values_from at ends bytes) k ≡ Some (decoded (take (get_or ends k 0 - begin_from at ends k) (drop (begin_from at ends k) bytes)))
value_is [] bytes at k lt = absurd (omega arith)
value_is (e ∷ ends) bytes at zero lt = refl
value_is (e ∷ ends) bytes at (suc zero) lt = value_is ends bytes e zero (omega arith)
value_is (e ∷ ends) bytes at (suc (suc k)) lt = value_is ends bytes e (suc k) (omega arith)

pub place_in : (ends bytes : List ℕ) (k : ℕ) → AreParts ends bytes → k < length ends → PlaceOf (begin_from 0 ends k) (get_or ends k 0) bytes
place_in ends bytes k p lt =
    let vs = row_values ends bytes in
    let few : k < length vs = omega (arith, length-values 0 ends bytes) in
    let r : PlaceOf (begin_from 0 (ends_from 0 vs) k) (get_or (ends_from 0 vs) k 0) (coded vs) = place_of vs [] 0 k refl p.storable.held few in
    subst (λ es. PlaceOf (begin_from 0 es k) (get_or es k 0) bytes) (sym p.placed)
    (subst (PlaceOf (begin_from 0 (ends_from 0 vs) k) (get_or (ends_from 0 vs) k 0)) (sym p.spelled) r)

-- ---- room

-- a row has room as its parts have
pub room_is : (ends bytes : List ℕ) (vs : List Value) (v : Value) → AreParts ends bytes → row_values ends bytes ≡ vs
    → length ends < 64 → length bytes + length (coding v) ≤ 3900 → HasRoom vs v
room_is ends bytes vs v p is few short =
    let r : HasRoom (row_values ends bytes) v = record {
      place = omega (arith, length-values 0 ends bytes);
      bytes = omega (arith, ap length p.spelled);
    } in
    subst (λ ws. HasRoom ws v) is r

pub room_means : (ends bytes : List ℕ) (vs : List Value) (v : Value) → AreParts ends bytes → row_values ends bytes ≡ vs → HasRoom vs v
    → (length ends < 64) × (length bytes + length (coding v) ≤ 3900)
room_means ends bytes vs v p is r =
    let s : HasRoom (row_values ends bytes) v = subst (λ ws. HasRoom ws v) (sym is) r in
    (omega (arith, length-values 0 ends bytes, s.place), omega (arith, ap length p.spelled, s.bytes))

-- ---- fewer values

begin_of : (vs : List Value) (at k : ℕ) → k < length vs → begin_from at (ends_from at vs) k ≡ at + length (coded (take k vs))
begin_of [] at k lt = absurd (omega arith)
begin_of (v ∷ vs) at zero lt = omega arith
begin_of (v ∷ vs) at (suc zero) lt = omega (arith, length-append (coding v) [])
begin_of (v ∷ vs) at (suc (suc k)) lt =
    begin_of vs (at + length (coding v)) (suc k) (omega arith) ∙ omega (arith, length-append (coding v) (coded (take (suc k) vs)))

ends-take : (vs : List Value) (at k : ℕ) → take k (ends_from at vs) ≡ ends_from at (take k vs)
ends-take vs at zero = refl
ends-take [] at (suc k) = refl
ends-take (v ∷ vs) at (suc k) = ap (λ es. (at + length (coding v)) ∷ es) (ends-take vs (at + length (coding v)) k)

held-take : (vs : List Value) (k : ℕ) → AllByRecursion IsHeld vs → AllByRecursion IsHeld (take k vs)
held-take vs zero h = tt
held-take [] (suc k) h = tt
held-take (v ∷ vs) (suc k) h = (h.0, held-take vs k h.1)

coded-parts : (vs : List Value) (k : ℕ) → coded vs ≡ coded (take k vs) ++ coded (drop k vs)
coded-parts vs k = ap coded (sym (take-append-drop k vs)) ∙ flat_map-append coding (take k vs) (drop k vs)

pub record Cuts (ends bytes new_ends new_bytes : List ℕ) (k : ℕ) : Type 0 where
  pub parts : AreParts new_ends new_bytes
  pub shown : row_values new_ends new_bytes ≡ take k (row_values ends bytes)

pub cutting : (ends bytes new_ends new_bytes : List ℕ) (k : ℕ) → AreParts ends bytes → k < length ends
    → new_ends ≡ take k ends → new_bytes ≡ take (begin_from 0 ends k) bytes → Cuts ends bytes new_ends new_bytes k
cutting ends bytes new_ends new_bytes k p lt e b =
    let vs = row_values ends bytes in
    let few : k < length vs = omega (arith, length-values 0 ends bytes) in
    let begin : begin_from 0 ends k ≡ length (coded (take k vs)) =
    ap (λ es. begin_from 0 es k) p.placed ∙ begin_of vs 0 k few ∙ omega arith in
    let bs : new_bytes ≡ coded (take k vs) =
    b ∙ (λ i. take (begin i) (p.spelled i)) ∙ ap (take (length (coded (take k vs)))) (coded-parts vs k)
    ∙ take_at (coded (take k vs)) (coded (drop k vs)) (length (coded (take k vs))) refl in
    let es : new_ends ≡ ends_from 0 (take k vs) = e ∙ ap (take k) p.placed ∙ ends-take vs 0 k in
    let s : IsStorable (take k vs) = record {
      few = omega (arith, p.storable.few, length-take k vs);
      held = held-take vs k p.storable.held;
      short = omega (arith, p.storable.short, ap length (coded-parts vs k), length-append (coded (take k vs)) (coded (drop k vs)));
    } in
    record { parts = parts_of (take k vs) new_ends new_bytes s bs es; shown = row_shown (take k vs) new_ends new_bytes s.held bs es }
