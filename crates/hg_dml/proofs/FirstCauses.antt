-- The first column against which a cause stands, and the first cause of all.
use Rattle.std.specs.Prelude.{◌≡◌, ℕ, suc, ◌+◌, ◌-◌, ◌<◌, ◌≤◌, ◌||◌, ◌&&◌, not, nat_lt, Bool, true, false, List, [], ◌∷◌, length, map, take, drop, Option, Some, None, slice_index_or, if◌then◌else◌}
use Rattle.std.specs.List.{list_any}
use Rattle.std.proofs.Common.{sym, ◌∙◌, ap, refl, arith}
use Rattle.std.proofs.lemmas.List.{drop_more, drop_all, get_or-map}
use Rattle.std.proofs.lemmas.Option.{slice_get_read, none-some}
use Rattle.std.proofs.lemmas.Bool.Decides.{nat_tests}
use Rattle.hg_model.specs.Changes.{first_column, row_length, tuples_from}
use Rattle.hg_model.specs.Evaluation.{value_at}
use Rattle.hg_model.specs.NullLogic.{is_null}
use Rattle.hg_model.specs.Refusal.{Refusal, first_cause}
use Rattle.hg_model.specs.Tables.{fits_type}
use Rattle.hg_model.specs.declared.trees.Column.{Column}
use Rattle.hg_model.specs.declared.trees.Literal.{Literal}
use Rattle.hg_model.specs.declared.values.Value.{Value}
use Rattle.hg_model.specs.declared.values.Value.TheVariants as val
use Rattle.hg_dml.specs.Steps.{FirstIs}
use Rattle.hg_dml.specs.Tuples.{value_in, row_from}

module _ (test : ℕ → Column → Bool) (cause : List ℕ → Refusal) (columns : List Column) (k : ℕ) (c : Column) (h : k < length columns) (is : c ≡ slice_index_or columns k c) where
  whole : first_column test cause k (drop k columns) ≡ (if test k c then Some (cause c.name) else first_column test cause (suc k) (drop (k + 1) columns))
  whole = ap (first_column test cause k) (drop_more columns k c h ∙ ap (λ x. x ∷ drop (k + 1) columns) (sym is))

  abbrev picked : Bool → Option Refusal
  picked b = if b then Some (cause c.name) else first_column test cause (suc k) (drop (k + 1) columns)

  pub found-here : (first : Option Refusal) → test k c ≡ true → first_column test cause k (drop k columns) ≡ first → FirstIs columns cause first (Some k)
  found-here first met all = (c, slice_get_read columns (length columns) k c refl h is, sym all ∙ whole ∙ ap picked met)

  pub not-here : (first : Option Refusal) → test k c ≡ false → first_column test cause k (drop k columns) ≡ first → first_column test cause (k + 1) (drop (k + 1) columns) ≡ first
  not-here first missed all =
      let next : k + 1 ≡ suc k = omega arith in
      ap (λ j. first_column test cause j (drop (k + 1) columns)) next ∙ sym (ap picked missed) ∙ sym whole ∙ all

pub nowhere : (test : ℕ → Column → Bool) (cause : List ℕ → Refusal) (columns : List Column) (k : ℕ) (first : Option Refusal) → length columns ≤ k
    → first_column test cause k (drop k columns) ≡ first → first ≡ None
nowhere test cause columns k first h all = sym all ∙ ap (first_column test cause k) (drop_all k columns h)

-- a test of the value at a place of each row is the same test of the constant that is taken for it
pub any-at : (q : Value → Bool) (texts : List ℕ) (sources : List (Option ℕ)) (k : ℕ) (d : Option ℕ) → k < length sources → (tuples : List (List Literal))
    → list_any (λ row. q (value_at row k)) (map (row_from texts sources) tuples) ≡ list_any (λ tuple. q (value_in texts tuple (slice_index_or sources k d))) tuples
any-at q texts sources k d h [] = refl
any-at q texts sources k d h (t ∷ ts) =
    let here : value_at (row_from texts sources t) k ≡ value_in texts t (slice_index_or sources k d) = get_or-map (value_in texts t) sources k d val.Null h in
    ap (λ v. q v || list_any (λ row. q (value_at row k)) (map (row_from texts sources) ts)) here
    ∙ ap (λ b. q (value_in texts t (slice_index_or sources k d)) || b) (any-at q texts sources k d h ts)

-- the tests of the definition, over rows
abbrev pub null_test : List (List Value) → ℕ → Column → Bool
null_test rows k c = c.not_null && list_any (λ row. is_null (value_at row k)) rows

abbrev pub misfit_test : List (List Value) → ℕ → Column → Bool
misfit_test rows k c = list_any (λ row. not (fits_type c.ty (value_at row k))) rows

-- the rows from one on: the next of them, and those behind it
pub tuples-step : (from i : ℕ) (ends : List ℕ) (values : List Literal) → i < length ends
    → tuples_from from (drop i ends) values ≡ take (slice_index_or ends i 0 - from) (drop from values) ∷ tuples_from (slice_index_or ends i 0) (drop (i + 1) ends) values
tuples-step from i ends values h = ap (λ es. tuples_from from es values) (drop_more ends i 0 h)

abbrev pub long_row : List Value → Bool
long_row row = nat_lt 1000 (row_length row)

long-test : (n : ℕ) → 1000 < n → nat_lt 1000 n ≡ true
long-test n h = grind (arith, nat_tests)

short-test : (n : ℕ) → n ≤ 1000 → nat_lt 1000 n ≡ false
short-test n h = grind (arith, nat_tests)

module _ (texts : List ℕ) (sources : List (Option ℕ)) (values : List Literal) (ends : List ℕ) (from i : ℕ) (tuple : List Literal) (n : ℕ) (h : i < length ends)
    (is : tuple ≡ take (slice_index_or ends i 0 - from) (drop from values)) (bytes : n ≡ row_length (row_from texts sources tuple)) where
  abbrev after : List (List Value)
  after = map (row_from texts sources) (tuples_from (slice_index_or ends i 0) (drop (i + 1) ends) values)

  step : list_any long_row (map (row_from texts sources) (tuples_from from (drop i ends) values)) ≡ (nat_lt 1000 n || list_any long_row after)
  step = ap (λ ts. list_any long_row (map (row_from texts sources) ts)) (tuples-step from i ends values h)
      ∙ ap (λ t. long_row (row_from texts sources t) || list_any long_row after) (sym is)
      ∙ ap (λ m. nat_lt 1000 m || list_any long_row after) (sym bytes)

  pub long-here : (b : Bool) → 1000 < n → list_any long_row (map (row_from texts sources) (tuples_from from (drop i ends) values)) ≡ b → true ≡ b
  long-here b l all = sym (ap (λ t. t || list_any long_row after) (long-test n l)) ∙ sym step ∙ all

  pub short-here : (b : Bool) → n ≤ 1000 → list_any long_row (map (row_from texts sources) (tuples_from from (drop i ends) values)) ≡ b → list_any long_row after ≡ b
  short-here b l all = sym (ap (λ t. t || list_any long_row after) (short-test n l)) ∙ sym step ∙ all

  -- the rows behind, where these are left
  pub rows-step : (rows : List (List Value)) → map (row_from texts sources) (tuples_from from (drop i ends) values) ≡ drop i rows
      → drop i rows ≡ row_from texts sources tuple ∷ after
  rows-step rows left = sym left ∙ ap (map (row_from texts sources)) (tuples-step from i ends values h) ∙ ap (λ t. row_from texts sources t ∷ after) (sym is)

-- the first cause of four, of which the last is none
pub first-of : (r : Refusal) (a : Option Refusal) (more : List (Option Refusal)) → a ≡ Some r → first_cause (a ∷ more) ≡ Some r
unfolding first_cause
first-of r None more h = absurd (none-some r h)
first-of r (Some s) more h = h

pub first-later : (a : Option Refusal) (more : List (Option Refusal)) → a ≡ None → first_cause (a ∷ more) ≡ first_cause more
unfolding first_cause
first-later None more h = refl
first-later (Some r) more h = absurd (none-some r (sym h))

pub first-none : first_cause (None ∷ []) ≡ None
unfolding first_cause
first-none = refl

pub none-of : (a : Option Refusal) (more : List (Option Refusal)) → first_cause (a ∷ more) ≡ None → (a ≡ None) × (first_cause more ≡ None)
unfolding first_cause
none-of None more h = (refl, h)
none-of (Some r) more h = absurd (none-some r (sym h))
