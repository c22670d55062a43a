-- Whether a row fits its columns, column by column.
use Rattle.std.specs.Prelude.{◌≡◌, ◌≢◌, ℕ, zero, suc, ◌+◌, ◌&&◌, not, Bool, true, false, List, [], ◌∷◌, length, drop, Option, Some, None, slice_get, unwrap_or}
use Rattle.std.proofs.Common.{sym, ◌∙◌, ap, refl, arith, inl, inr}
use Rattle.std.proofs.lemmas.Bool.{cases_Bool}
use Rattle.std.proofs.lemmas.Option.{none-some}
use Rattle.hg_model.specs.Tables.{fits_columns, fits_type, is_allowed}
use Rattle.hg_model.specs.declared.trees.Column.{Column}
use Rattle.hg_model.specs.declared.values.Value.{Value}
use Rattle.hg_exec.proofs.Joining.{fits-length}

-- as many values as columns
pub unlike-lengths : (columns : List Column) (row : List Value) → (length columns ≡ length row → ⊥) → false ≡ fits_columns columns row
unlike-lengths columns row h = elim (cases_Bool (fits_columns columns row)) [
  | inl e ↦ absurd (h (sym (fits-length columns row e)))
  | inr e ↦ sym e
]

one-column : (x y : Column) → ◌≡◌ {A = Option Column} (Some x) (Some y) → x ≡ y
one-column x y e = ap (λ o. unwrap_or o x) e

one-value : (x y : Value) → ◌≡◌ {A = Option Value} (Some x) (Some y) → x ≡ y
one-value x y e = ap (λ o. unwrap_or o x) e

-- the next column with its value
fits-next : (columns : List Column) (row : List Value) (k : ℕ) (c : Column) (v : Value) → slice_get columns k ≡ Some c → slice_get row k ≡ Some v
    → fits_columns (drop k columns) (drop k row) ≡ (fits_type c.ty v && (is_allowed c v && fits_columns (drop (suc k) columns) (drop (suc k) row)))
fits-next [] row k c v e f = absurd (none-some c e)
fits-next (d ∷ columns) [] k c v e f = absurd (none-some v f)
fits-next (d ∷ columns) (w ∷ row) zero c v e f =
    ap (λ (x : Column). fits_type x.ty w && (is_allowed x w && fits_columns columns row)) (one-column d c e)
    ∙ ap (λ u. fits_type c.ty u && (is_allowed c u && fits_columns columns row)) (one-value w v f)
fits-next (d ∷ columns) (w ∷ row) (suc k) c v e f = fits-next columns row k c v e f

pub fits-at : (columns : List Column) (row : List Value) (k : ℕ) (c : Column) (v : Value) → slice_get columns k ≡ Some c → slice_get row k ≡ Some v
    → fits_columns (drop k columns) (drop k row) ≡ (fits_type c.ty v && (is_allowed c v && fits_columns (drop (k + 1) columns) (drop (k + 1) row)))
fits-at columns row k c v e f =
    let next : suc k ≡ k + 1 = omega arith in
    fits-next columns row k c v e f ∙ ap (λ n. fits_type c.ty v && (is_allowed c v && fits_columns (drop n columns) (drop n row))) next

pub misfit-first : (a b : Bool) (rest whole : Bool) → (a && (b && rest)) ≡ whole → a ≡ false → false ≡ whole
misfit-first a b rest whole e h = ap (λ x. x && (b && rest)) (sym h) ∙ e

pub misfit-second : (a b : Bool) (rest whole : Bool) → (a && (b && rest)) ≡ whole → a ≡ true → b ≡ false → false ≡ whole
misfit-second a b rest whole e h k = ap (λ x. x && rest) (sym k) ∙ ap (λ x. x && (b && rest)) (sym h) ∙ e

pub fits-both : (a b : Bool) (rest whole : Bool) → (a && (b && rest)) ≡ whole → a ≡ true → b ≡ true → rest ≡ whole
fits-both a b rest whole e h k = ap (λ x. x && rest) (sym k) ∙ ap (λ x. x && (b && rest)) (sym h) ∙ e
