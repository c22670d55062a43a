-- Reading a row from its bytes, value after value.
use Rattle.std.proofs.Common.{◌≡◌, ℕ, ◌+◌, ◌-◌, ◌<◌, ◌≤◌, List, [], ◌∷◌, ◌++◌, length, drop, refl, sym, ap, ◌∙◌, subst, arith, append_assoc, append-nil, length-append, take-append-drop}
use Rattle.std.specs.Prelude.{Bool, true, false, ◌==◌}
use Rattle.std.specs.Bool.{OnTrue, OnFalse}
use Rattle.std.specs.List.{AllByRecursion}
use Rattle.std.proofs.lemmas.Bool.Decides.{nat_tests}
use Rattle.std.proofs.lemmas.List.{nil_from_length}
use Rattle.hg_model.specs.declared.values.Value.{Value}
use Rattle.hg_value.specs.Coding.{coding, coded, IsHeld, IsRowOf, IsNoRow}
use Rattle.hg_value.specs.RowParts.{row_values, AreParts, BeginsWith, BeginsWithNone, HasRead, AreEnds}
use Rattle.hg_value.proofs.Codings.{going_on, one_row}
use Rattle.hg_value.proofs.Rows.{row_shown, parts_of, length-ends, coded-push, ends_from-push, held-push}

-- nothing is read yet
pub read_none : (bytes ends : List ℕ) → ends ≡ [] → HasRead bytes bytes ends 0
read_none bytes ends e = record { values = []; held = tt; count = refl; spelled = refl; placed = e }

-- one more value is read
pub read_more : (bytes rest ends rest' ends' : List ℕ) (k size : ℕ) → HasRead bytes rest ends k → BeginsWith rest size → rest' ≡ drop size rest
    → ends' ≡ ends ++ (length bytes - length rest') ∷ [] → HasRead bytes rest' ends' (k + 1)
read_more bytes rest ends rest' ends' k size r b d e =
    let v : Value = b.spells.value in
    let whole : coding v ++ rest' ≡ rest = (λ i. sym b.spells.is i ++ d i) ∙ take-append-drop size rest in
    let spelled : coded (r.values ++ v ∷ []) ++ rest' ≡ bytes =
    ap (λ bs. bs ++ rest') (coded-push r.values v) ∙ append_assoc (coded r.values) (coding v) rest'
    ∙ ap (λ bs. coded r.values ++ bs) whole ∙ r.spelled in
    let end : length bytes - length rest' ≡ 0 + length (coded r.values) + length (coding v) =
    omega (arith, ap length r.spelled, ap length whole, length-append (coded r.values) rest, length-append (coding v) rest') in
    record {
      values = r.values ++ v ∷ [];
      held = held-push r.values v r.held b.spells.held;
      count = omega (arith, length-append r.values (v ∷ []), r.count);
      spelled = spelled;
      placed = e ∙ (λ i. r.placed i ++ end i ∷ []) ∙ sym (ends_from-push 0 r.values v);
    }

-- what is left is no longer than the whole
pub read_length : (bytes rest ends : List ℕ) (k : ℕ) → HasRead bytes rest ends k → (length rest ≤ length bytes) × (length ends ≡ k)
read_length bytes rest ends k r =
    (omega (arith, ap length r.spelled, length-append (coded r.values) rest), ap length r.placed ∙ length-ends 0 r.values ∙ r.count)

-- all bytes are read
pub read_whole : (bytes ends : List ℕ) (n : ℕ) → n ≤ 64 → length bytes ≤ 3900 → HasRead bytes [] ends n → AreEnds n bytes ends
read_whole bytes ends n few short r =
    let same : coded r.values ≡ bytes = sym (append-nil (coded r.values)) ∙ r.spelled in
    record {
      values = r.values;
      row = record {
        storable = record { few = omega (arith, r.count); held = r.held; short = omega (arith, ap length same) };
        count = r.count;
        spelled = same;
      };
      placed = r.placed;
    }

-- where no value stands, and where bytes are left over, there is no row
pub none_there : (bytes rest ends : List ℕ) (k n : ℕ) → HasRead bytes rest ends k → k < n → BeginsWithNone rest → IsNoRow n bytes
none_there bytes rest ends k n r lt none ws w =
    let g = going_on r.values ws rest r.held w.storable.held (omega (arith, r.count, w.count)) (r.spelled ∙ sym w.spelled) in
    by g.more g.held g.spelled (omega (arith, ap length g.whole, length-append r.values g.more, r.count, w.count))
  where
    by : (more : List Value) → AllByRecursion IsHeld more → rest ≡ coded more → 0 < length more → ⊥
    by [] h e l = omega arith
    by (v ∷ vs) h e l = none v (coded vs) h.0 (sym e)

pub left_over : (bytes rest ends : List ℕ) (n : ℕ) → HasRead bytes rest ends n → 0 < length rest → IsNoRow n bytes
left_over bytes rest ends n r l ws w =
    let g = going_on r.values ws rest r.held w.storable.held (omega (arith, r.count, w.count)) (r.spelled ∙ sym w.spelled) in
    by g.more g.spelled (omega (arith, ap length g.whole, length-append r.values g.more, r.count, w.count))
  where
    by : (more : List Value) → rest ≡ coded more → length more ≡ 0 → ⊥
    by [] e k = omega (arith, ap length e)
    by (v ∷ vs) e k = omega arith

-- ---- the answer

pub record IsRead (n : ℕ) (bytes ends : List ℕ) : Type 0 where
  pub parts : AreParts ends bytes
  pub row : IsRowOf (row_values ends bytes) n bytes
  pub only : (vs : List Value) → IsRowOf vs n bytes → row_values ends bytes ≡ vs

pub is_read : (n : ℕ) (bytes ends : List ℕ) → AreEnds n bytes ends → IsRead n bytes ends
is_read n bytes ends a =
    let is : row_values ends bytes ≡ a.values = row_shown a.values ends bytes a.row.storable.held (sym a.row.spelled) a.placed in
    record {
      parts = parts_of a.values ends bytes a.row.storable (sym a.row.spelled) a.placed;
      row = subst (λ vs. IsRowOf vs n bytes) (sym is) a.row;
      only = λ vs w. is ∙ (one_row a.values vs [] [] a.row.storable.held w.storable.held (a.row.count ∙ sym w.count)
          (append-nil (coded a.values) ∙ a.row.spelled ∙ sym w.spelled ∙ sym (append-nil (coded vs)))).0;
    }

-- ---- what the end tells: whether nothing is left

pub found_by : (bytes rest ends : List ℕ) (n : ℕ) (t : Bool) → n ≤ 64 → length bytes ≤ 3900 → HasRead bytes rest ends n
    → t ≡ (length rest == 0) → OnTrue t (AreEnds n bytes ends)
found_by bytes rest ends n true few short r e =
    let l : length rest ≡ 0 = grind (arith, nat_tests) in
    read_whole bytes ends n few short (subst (λ bs. HasRead bytes bs ends n) (nil_from_length rest l) r)
found_by bytes rest ends n false few short r e = tt

pub none_by : (bytes rest ends : List ℕ) (n : ℕ) (t : Bool) → HasRead bytes rest ends n → t ≡ (length rest == 0) → OnFalse t (IsNoRow n bytes)
none_by bytes rest ends n true r e = tt
none_by bytes rest ends n false r e =
    let l : 0 < length rest = grind (arith, nat_tests) in
    left_over bytes rest ends n r l
