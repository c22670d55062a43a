-- The joined row has room: the declared lengths of the columns that a SELECT names bound the named values of rows.
use Rattle.std.proofs.Common.{◌≡◌, ◌<◌, ◌≤◌, ℕ, zero, suc, ◌+◌, ◌*◌, Bool, true, false, List, [], ◌∷◌, ◌++◌, Some, refl, sym, ap, subst, ◌∙◌, length, ◌&&◌, ◌||◌, if◌then◌else◌, arith, length-append, append-nil}
use Rattle.std.specs.Prelude.{slice_get, slice_index}
use Rattle.std.specs.Cmp.{first_so, second_so}
use Rattle.std.proofs.lemmas.Bool.Decides.{nat_tests}
use Rattle.std.proofs.lemmas.List.{map-append}
use Rattle.std.proofs.lemmas.List.Sums.{sum_by-append, sum_by-cons}
use Rattle.hg_bind.specs.BoundSelect.{widths_of}
use Rattle.hg_expr.specs.Laws.{held_from}
use Rattle.hg_expr.specs.Slots.{is_named, named_below, named_columns}
use Rattle.hg_model.specs.Binding.{named_length, some_names}
use Rattle.hg_model.specs.Changes.{row_length, value_length}
use Rattle.hg_model.specs.Evaluation.{value_at}
use Rattle.hg_model.specs.Query.{Query}
use Rattle.hg_model.specs.Scope.{columns_from, columns_of, scope_from}
use Rattle.hg_model.specs.Tables.{Table, fits_columns, fits_integer, fits_type, is_allowed, table_named}
use Rattle.hg_model.specs.Types.{type_length}
use Rattle.hg_model.specs.declared.tables.FromColumn.{FromColumn}
use Rattle.hg_model.specs.declared.trees.Column.{Column}
use Rattle.hg_model.specs.declared.trees.FromTable.{FromTable}
use Rattle.hg_model.specs.declared.trees.Node.{Node}
use Rattle.hg_model.specs.declared.trees.SqlType.{SqlType}
use Rattle.hg_model.specs.declared.trees.SqlType.TheVariants.{Integer, Varchar}
use Rattle.hg_model.specs.declared.values.Value.{Value}
use Rattle.hg_model.specs.declared.values.Value.TheVariants.{Null, Int, Text}
use Rattle.hg_value.specs.Looks.{chosen}
use Rattle.hg_exec.proofs.ReadyTables.{FitFroms}

-- ---- a value that fits its column

fitting_number : (b : Bool) → b ≡ true → (if b then 5 else 17) ≤ 5
fitting_number true h = omega arith
fitting_number false h = absurd cc

pub value_fits : (ty : SqlType) (v : Value) → fits_type ty v ≡ true → value_length v ≤ type_length ty
value_fits Integer Null h = omega arith
value_fits (Varchar n) Null h = omega arith
value_fits Integer (Int x) h = fitting_number (fits_integer x) h
value_fits Integer (Text t) h = absurd cc
value_fits (Varchar n) (Int x) h = absurd cc
value_fits (Varchar n) (Text t) h = let few : length t ≤ n = grind (arith, nat_tests) in omega (arith, few)

pub row_fits : (cs : List Column) (row : List Value) → fits_columns cs row ≡ true → (i : ℕ) (c : Column) → slice_get cs i ≡ Some c → value_length (value_at row i) ≤ type_length c.ty
row_fits [] row h i c at = absurd cc
row_fits (x ∷ cs) [] h i c at = absurd cc
row_fits (x ∷ cs) (v ∷ row) h zero c at =
    let same : x ≡ c = cc in
    subst (λ (y : Column). value_length v ≤ type_length y.ty) same (value_fits x.ty v (first_so (fits_type x.ty v) (is_allowed x v && fits_columns cs row) h))
row_fits (x ∷ cs) (v ∷ row) h (suc i) c at =
    row_fits cs row (second_so (is_allowed x v) (fits_columns cs row) (second_so (fits_type x.ty v) (is_allowed x v && fits_columns cs row) h)) i c at

pub row_count : (cs : List Column) (row : List Value) → fits_columns cs row ≡ true → length row ≡ length cs
row_count [] [] h = refl
row_count [] (v ∷ row) h = absurd cc
row_count (c ∷ cs) [] h = absurd cc
row_count (c ∷ cs) (v ∷ row) h = ap suc (row_count cs row (second_so (is_allowed c v) (fits_columns cs row) (second_so (fits_type c.ty v) (is_allowed c v && fits_columns cs row) h)))

-- ---- sums

total : (ℕ → ℕ) → ℕ → ℕ → ℕ
total f j zero = 0
total f j (suc m) = f j + total f (suc j) m

total_push : (f : ℕ → ℕ) (j m : ℕ) → total f j (suc m) ≡ total f j m + f (j + m)
unfolding total
total_push f j zero = let z : j + 0 ≡ j = omega arith in let e = ap f z in omega (arith, e)
total_push f j (suc m) =
    let more = total_push f (suc j) m in
    let s : suc j + m ≡ j + suc m = omega arith in
    let e = ap f s in
    omega (arith, more, e)

module _ (ns : List Node) (ps : List (ℕ × ℕ)) (row : List Value) (t : ℕ) where
  -- the length of the value of a column, where that is named
  term : ℕ → ℕ
  term i = if is_named ns ps (16 * t + i) then value_length (value_at row i) else 0

  more_chosen : (b : Bool) (cs : List ℕ) (n : ℕ) → row_length (chosen row (cs ++ (if b then n ∷ [] else []))) ≡ row_length (chosen row cs) + (if b then value_length (value_at row n) else 0)
  more_chosen true cs n =
      ap row_length (map-append (value_at row) cs (n ∷ [])) ∙ sum_by-append value_length (chosen row cs) (value_at row n ∷ [])
      ∙ ap (λ k. row_length (chosen row cs) + k) (sum_by-cons value_length (value_at row n) [] ∙ omega arith)
  more_chosen false cs n = ap (λ l. row_length (chosen row l)) (append-nil cs) ∙ omega arith

  below_total : (n : ℕ) → row_length (chosen row (named_below ns ps t n)) ≡ total term 0 n
  unfolding total term
  below_total zero = refl
  below_total (suc n) =
      let more = below_total n in
      let push = total_push term 0 n in
      let z : 0 + n ≡ n = omega arith in
      let e = ap term z in
      let last = more_chosen (is_named ns ps (16 * t + n)) (named_below ns ps t n) n in
      last ∙ omega (arith, more, push, e)

  columns_total : row_length (chosen row (named_columns ns ps t)) ≡ total term 0 16
  unfolding named_columns
  columns_total = below_total 16

  few_below : (n : ℕ) → length (chosen row (named_below ns ps t n)) ≤ n
  few_below zero = omega arith
  few_below (suc n) = by (is_named ns ps (16 * t + n)) (few_below n)
    where
      by : (b : Bool) → length (chosen row (named_below ns ps t n)) ≤ n → length (chosen row (named_below ns ps t n ++ (if b then n ∷ [] else []))) ≤ suc n
      by true h =
          let both = ap length (map-append (value_at row) (named_below ns ps t n) (n ∷ [])) ∙ length-append (chosen row (named_below ns ps t n)) (value_at row n ∷ []) in
          omega (arith, both, h)
      by false h = let same = ap (λ l. length (chosen row l)) (append-nil (named_below ns ps t n)) in omega (arith, same, h)

  few_chosen : length (chosen row (named_columns ns ps t)) ≤ 16
  unfolding named_columns
  few_chosen = few_below 16

  total_none : (j m : ℕ) → ((i : ℕ) → j ≤ i → i < j + m → term i ≡ 0) → total term j m ≡ 0
  unfolding total
  total_none j zero h = refl
  total_none j (suc m) h =
      let here = h j (omega arith) (omega arith) in
      let more = total_none (suc j) m (λ i low high. h i (omega (arith, low)) (omega (arith, high))) in
      omega (arith, here, more)

  no_term : (i : ℕ) → (is_named ns ps (16 * t + i) ≡ true → ⊥) → term i ≡ 0
  unfolding term
  no_term i h = by (is_named ns ps (16 * t + i)) h
    where
      by : (b : Bool) → (b ≡ true → ⊥) → (if b then value_length (value_at row i) else 0) ≡ 0
      by true g = absurd (g refl)
      by false g = refl

  column_step : (b m : Bool) (v l : ℕ) → v ≤ l → (b ≡ true → m ≡ true) → (if b then v else 0) ≤ (if m then l else 0)
  column_step true true v l h g = h
  column_step true false v l h g = let e : false ≡ true = g refl in absurd cc
  column_step false m v l h g = omega arith

  -- the columns of one table
  columns_bound : (scope : List FromColumn) (positions : List ℕ) (q : Query) (alias : List ℕ) (j m p : ℕ) (cs : List Column)
      → ((i : ℕ) (c : Column) → slice_get cs i ≡ Some c → value_length (value_at row (j + i)) ≤ type_length c.ty)
      → ((i : ℕ) → i < length cs → is_named ns ps (16 * t + (j + i)) ≡ true → (q.star || some_names scope positions q (p + i) 0 q.nodes) ≡ true)
      → ((i : ℕ) → j + length cs ≤ i → i < j + m → is_named ns ps (16 * t + i) ≡ true → ⊥)
      → total term j m ≤ named_length scope positions q p (columns_from t alias j cs)
  unfolding total term
  columns_bound scope positions q alias j m p [] fits marked none =
      let nothing = total_none j m (λ i low high. no_term i (none i (omega (arith, low)) high)) in omega (arith, nothing)
  columns_bound scope positions q alias j zero p (c ∷ cs) fits marked none = omega arith
  columns_bound scope positions q alias j (suc m) p (c ∷ cs) fits marked none =
      let zj : j + 0 ≡ j = omega arith in
      let zp : p + 0 ≡ p = omega arith in
      let fit : value_length (value_at row j) ≤ type_length c.ty = subst (λ k. value_length (value_at row k) ≤ type_length c.ty) zj (fits 0 c refl) in
      let here =
      column_step (is_named ns ps (16 * t + j)) (q.star || some_names scope positions q p 0 q.nodes) (value_length (value_at row j)) (type_length c.ty) fit
      (λ is. ap (λ k. q.star || some_names scope positions q k 0 q.nodes) (sym zp) ∙ marked 0 (omega arith) (ap (λ k. is_named ns ps (16 * t + k)) zj ∙ is)) in
      let more =
      columns_bound scope positions q alias (suc j) m (suc p) cs
      (λ i x at. let s : j + suc i ≡ suc j + i = omega arith in subst (λ k. value_length (value_at row k) ≤ type_length x.ty) s (fits (suc i) x at))
      (λ i below is. let s : suc j + i ≡ j + suc i = omega arith in let w : p + suc i ≡ suc p + i = omega arith in
      ap (λ k. q.star || some_names scope positions q k 0 q.nodes) (sym w) ∙ marked (suc i) (omega (arith, below)) (ap (λ k. is_named ns ps (16 * t + k)) (sym s) ∙ is))
      (λ i low high is. none i (omega (arith, low)) (omega (arith, high)) is) in
      omega (arith, here, more)

-- ---- several tables

pub front_at : {X : Type 0} (xs ys : List X) (k : ℕ) → k < length xs → slice_get (xs ++ ys) k ≡ slice_get xs k
front_at [] ys k h = absurd (omega arith)
front_at (x ∷ xs) ys zero h = refl
front_at (x ∷ xs) ys (suc k) h = front_at xs ys k (omega arith)

pub behind_at : {X : Type 0} (xs ys : List X) (k : ℕ) → slice_get (xs ++ ys) (length xs + k) ≡ slice_get ys k
behind_at [] ys k = ap (slice_get ys) (omega arith)
behind_at (x ∷ xs) ys k = let e : suc (length xs) + k ≡ suc (length xs + k) = omega arith in ap (slice_get (x ∷ (xs ++ ys))) e ∙ behind_at xs ys k

-- what stands at a place of a table's columns
pub record IsColumnAt (t : ℕ) (alias : List ℕ) (k : ℕ) (cs : List Column) (i : ℕ) : Type 0 where
  pub column : FromColumn
  pub there : slice_get (columns_from t alias k cs) i ≡ Some column
  pub table_is : column.table ≡ t
  pub place_is : column.place ≡ k + i
  pub own : slice_get cs i ≡ Some column.column

pub column_at : (t : ℕ) (alias : List ℕ) (k : ℕ) (cs : List Column) (i : ℕ) → i < length cs → IsColumnAt t alias k cs i
column_at t alias k [] i h = absurd (omega arith)
column_at t alias k (c ∷ cs) zero h = record { column = record { table = t; alias = alias; place = k; column = c }; there = refl; table_is = refl; place_is = omega arith; own = refl }
column_at t alias k (c ∷ cs) (suc i) h =
    let r = column_at t alias (suc k) cs i (omega arith) in
    record { column = r.column; there = r.there; table_is = r.table_is; place_is = let e = r.place_is in omega (arith, e); own = r.own }

pub columns_count : (t : ℕ) (alias : List ℕ) (k : ℕ) (cs : List Column) → length (columns_from t alias k cs) ≡ length cs
columns_count t alias k [] = refl
columns_count t alias k (c ∷ cs) = ap suc (columns_count t alias (suc k) cs)

module _ (scope : List FromColumn) (positions : List ℕ) (q : Query) where
  length_parts : (p : ℕ) (xs ys : List FromColumn) → named_length scope positions q p (xs ++ ys) ≡ named_length scope positions q p xs + named_length scope positions q (p + length xs) ys
  length_parts p [] ys = let z : p ≡ p + 0 = omega arith in ap (λ k. named_length scope positions q k ys) z ∙ omega arith
  length_parts p (x ∷ xs) ys =
      let more = length_parts (suc p) xs ys in
      let s : suc p + length xs ≡ p + suc (length xs) = omega arith in
      let e = ap (λ k. named_length scope positions q k ys) s in
      omega (arith, more, e)

  module _ (tables : List Table) (ns : List Node) (ps : List (ℕ × ℕ))
      (marked : (place : ℕ) (x : FromColumn) → slice_get scope place ≡ Some x → x.place < 16 → is_named ns ps (16 * x.table + x.place) ≡ true
      → (q.star || some_names scope positions q place 0 q.nodes) ≡ true) where
    pub room_from : (t p : ℕ) (froms : List FromTable) (rows : List (List Value)) → FitFroms tables froms rows
        → ((i : ℕ) (x : FromColumn) → slice_get (scope_from tables t froms) i ≡ Some x → slice_get scope (p + i) ≡ Some x)
        → ((j i : ℕ) → i < 16 → is_named ns ps (16 * (t + j) + i) ≡ true → i < slice_index (widths_of tables froms) j)
        → ((j : ℕ) → slice_index (widths_of tables froms) j ≤ 16)
        → row_length (held_from ns ps t rows) ≤ named_length scope positions q p (scope_from tables t froms)
    room_from t p froms [] fit at inside few = omega arith
    room_from t p [] (row ∷ rows) fit at inside few = absurd fit
    room_from t p (f ∷ fs) (row ∷ rows) fit at inside few =
        let cs : List Column = columns_of (table_named tables f.table) in
        let own : List FromColumn = columns_from t f.alias 0 cs in
        let count : length own ≡ length cs = columns_count t f.alias 0 cs in
        let z : t + 0 ≡ t = omega arith in
        let first : row_length (chosen row (named_columns ns ps t)) ≡ total (term ns ps row t) 0 16 = columns_total ns ps row t in
        let here : total (term ns ps row t) 0 16 ≤ named_length scope positions q p own =
        columns_bound ns ps row t scope positions q f.alias 0 16 p cs
        (λ i c is. let y : i ≡ 0 + i = omega arith in subst (λ k. value_length (value_at row k) ≤ type_length c.ty) y (row_fits cs row fit.0 i c is))
        (λ i below is. let r = column_at t f.alias 0 cs i below in
        let w : 16 * r.column.table + r.column.place ≡ 16 * t + (0 + i) = (let a = r.table_is in let b = r.place_is in omega (arith, a, b)) in
        marked (p + i) r.column (at i r.column (front_at own (scope_from tables (suc t) fs) i (omega (arith, count, below)) ∙ r.there))
        (let b = r.place_is in let narrow = few 0 in omega (arith, b, below, narrow)) (ap (is_named ns ps) w ∙ is))
        (λ i low high is. let below = inside 0 i (omega (arith, high)) (ap (λ k. is_named ns ps (16 * k + i)) z ∙ is) in let l = low in absurd (omega (arith, below, l))) in
        let rest : row_length (held_from ns ps (suc t) rows) ≤ named_length scope positions q (p + length own) (scope_from tables (suc t) fs) =
        room_from (suc t) (p + length own) fs rows fit.1
        (λ i x is. let s : p + (length own + i) ≡ p + length own + i = omega arith in
        ap (slice_get scope) (sym s) ∙ at (length own + i) x (behind_at own (scope_from tables (suc t) fs) i ∙ is))
        (λ j i below is. let s : t + suc j ≡ suc t + j = omega arith in inside (suc j) i below (ap (λ k. is_named ns ps (16 * k + i)) s ∙ is))
        (λ j. few (suc j)) in
        let whole = sum_by-append value_length (chosen row (named_columns ns ps t)) (held_from ns ps (suc t) rows) in
        let parts = length_parts p own (scope_from tables (suc t) fs) in
        omega (arith, first, here, rest, whole, parts)

pub held_short : (ns : List Node) (ps : List (ℕ × ℕ)) (t : ℕ) (rows : List (List Value)) → length (held_from ns ps t rows) ≤ 16 * length rows
held_short ns ps t [] = omega arith
held_short ns ps t (row ∷ rows) =
    let whole = length-append (chosen row (named_columns ns ps t)) (held_from ns ps (suc t) rows) in
    let few = few_chosen ns ps row t in
    let more = held_short ns ps (suc t) rows in
    omega (arith, whole, few, more)
