-- Where the value of a column stands in a row of the named columns.
use Rattle.std.proofs.Common.{◌≡◌, ℕ, zero, suc, ◌+◌, ◌-◌, ◌*◌, ◌<◌, ◌≤◌, Bool, true, false, List, [], ◌∷◌, ◌++◌, length, get_or, append-nil, inl, inr, refl, sym, ap, ◌∙◌, subst, arith, length-append}
use Rattle.std.specs.Prelude.{if◌then◌else◌, ◌⊎◌}
use Rattle.std.proofs.lemmas.Bool.{cases_lt}
use Rattle.std.proofs.lemmas.List.{get_or_append_left, get_or-append-add}
use Rattle.hg_model.specs.Evaluation.{value_at}
use Rattle.hg_model.specs.declared.values.Value.{Value}
use Rattle.hg_model.specs.declared.values.Value.TheVariants.{Null}
use Rattle.hg_model.specs.declared.trees.Node.{Node}
use Rattle.hg_value.specs.Looks.{chosen}
use Rattle.hg_expr.specs.Laws.{held_from}
use Rattle.hg_expr.specs.Slots.{is_named, named_below, named_columns, number_of}

module _ (ns : List Node) (ps : List (ℕ × ℕ)) where
  abbrev q : ℕ → Bool
  q = is_named ns ps

  abbrev num : ℕ → ℕ
  num = number_of ns ps

  step_true : (k : ℕ) → q k ≡ true → num (suc k) ≡ num k + 1
  step_true k h = ap (λ b. num k + (if b then 1 else 0)) h

  step_false : (k : ℕ) → q k ≡ false → num (suc k) ≡ num k
  step_false k h = ap (λ b. num k + (if b then 1 else 0)) h ∙ omega arith

  step_up : (k : ℕ) → num k ≤ num (suc k)
  step_up k = by (q k) refl
    where
      by : (b : Bool) → q k ≡ b → num k ≤ num (suc k)
      by true h = omega (arith, step_true k h)
      by false h = omega (arith, step_false k h)

  up : (a i : ℕ) → num a ≤ num (a + i)
  up a zero = let e : a + zero ≡ a = omega arith in omega (arith, ap num e)
  up a (suc i) = let e : a + suc i ≡ suc (a + i) = omega arith in omega (arith, ap num e, up a i, step_up (a + i))

  abbrev cols : ℕ → ℕ → List ℕ
  cols t n = named_below ns ps t n

  -- the n-th column of a table is named, or not
  cols_true : (t n : ℕ) → q (16 * t + n) ≡ true → cols t (suc n) ≡ cols t n ++ n ∷ []
  cols_true t n h = ap (λ b. cols t n ++ (if b then n ∷ [] else [])) h

  cols_false : (t n : ℕ) → q (16 * t + n) ≡ false → cols t (suc n) ≡ cols t n
  cols_false t n h = ap (λ b. cols t n ++ (if b then n ∷ [] else [])) h ∙ append-nil (cols t n)

  -- as many columns are named as their numbers say
  cols_length : (t n : ℕ) → length (cols t n) + num (16 * t) ≡ num (16 * t + n)
  cols_length t zero = let e : 16 * t + zero ≡ 16 * t = omega arith in omega (arith, ap num e)
  cols_length t (suc n) = by (q (16 * t + n)) refl (cols_length t n)
    where
      next : 16 * t + suc n ≡ suc (16 * t + n)
      next = omega arith

      by : (b : Bool) → q (16 * t + n) ≡ b → length (cols t n) + num (16 * t) ≡ num (16 * t + n) → length (cols t (suc n)) + num (16 * t) ≡ num (16 * t + suc n)
      by true h more = omega (arith, ap length (cols_true t n h), length-append (cols t n) (n ∷ []), more, step_true (16 * t + n) h, ap num next)
      by false h more = omega (arith, ap length (cols_false t n h), more, step_false (16 * t + n) h, ap num next)

  few : (t n : ℕ) → length (cols t n) ≤ n
  few t zero = omega arith
  few t (suc n) = by (q (16 * t + n)) refl (few t n)
    where
      by : (b : Bool) → q (16 * t + n) ≡ b → length (cols t n) ≤ n → length (cols t (suc n)) ≤ suc n
      by true h more = omega (arith, ap length (cols_true t n h), length-append (cols t n) (n ∷ []), more)
      by false h more = omega (arith, ap length (cols_false t n h), more)

  length-chosen : (row : List Value) (cs : List ℕ) → length (chosen row cs) ≡ length cs
  length-chosen row [] = refl
  length-chosen row (c ∷ cs) = ap suc (length-chosen row cs)

  chosen-push : (row : List Value) (cs : List ℕ) (c : ℕ) → chosen row (cs ++ c ∷ []) ≡ chosen row cs ++ value_at row c ∷ []
  chosen-push row [] c = refl
  chosen-push row (d ∷ cs) c = ap (λ vs. value_at row d ∷ vs) (chosen-push row cs c)

  at_end : (vs : List Value) (v : Value) → get_or (vs ++ v ∷ []) (length vs) Null ≡ v
  at_end [] v = refl
  at_end (w ∷ vs) v = at_end vs v

  -- a named column has its number
  number_inside : (t i n : ℕ) → i < n → q (16 * t + i) ≡ true → num (16 * t + i) < num (16 * t + n)
  number_inside t i n lt h =
      let e : suc (16 * t + i) + (n - suc i) ≡ 16 * t + n = omega arith in
      omega (arith, step_true (16 * t + i) h, up (suc (16 * t + i)) (n - suc i), ap num e)

  -- the value of a named column stands behind those of the named ones before it
  at_number : (row : List Value) (t n i d : ℕ) → i < n → q (16 * t + i) ≡ true → num (16 * t) + d ≡ num (16 * t + i)
      → get_or (chosen row (cols t n)) d Null ≡ value_at row i
  at_number row t zero i d lt h e = absurd (omega arith)
  at_number row t (suc n) i d lt h e = step (cases_lt i n) (q (16 * t + n)) refl (λ below. at_number row t n i d below h e)
    where
      size : length (chosen row (cols t n)) + num (16 * t) ≡ num (16 * t + n)
      size = omega (arith, length-chosen row (cols t n), cols_length t n)

      step : (i < n) ⊎ (n ≤ i) → (b : Bool) → q (16 * t + n) ≡ b → (i < n → get_or (chosen row (cols t n)) d Null ≡ value_at row i)
          → get_or (chosen row (cols t (suc n))) d Null ≡ value_at row i
      step (inl x) true h' more =
          ap (λ cs. get_or (chosen row cs) d Null) (cols_true t n h')
          ∙ ap (λ vs. get_or vs d Null) (chosen-push row (cols t n) n)
          ∙ get_or_append_left (chosen row (cols t n)) (value_at row n ∷ []) Null d (omega (arith, size, number_inside t i n x h, e)) ∙ more x
      step (inl x) false h' more = ap (λ cs. get_or (chosen row cs) d Null) (cols_false t n h') ∙ more x
      step (inr x) true h' more =
          let same : i ≡ n = omega arith in
          let end : d ≡ length (chosen row (cols t n)) = omega (arith, size, e, ap (λ k. num (16 * t + k)) same) in
          ap (λ cs. get_or (chosen row cs) d Null) (cols_true t n h')
          ∙ ap (λ vs. get_or vs d Null) (chosen-push row (cols t n) n)
          ∙ ap (λ k. get_or (chosen row (cols t n) ++ value_at row n ∷ []) k Null) end
          ∙ at_end (chosen row (cols t n)) (value_at row n) ∙ ap (value_at row) (sym same)
      step (inr x) false h' more =
          let same : i ≡ n = omega arith in
          let w : q (16 * t + n) ≡ true = ap (λ k. q (16 * t + k)) (sym same) ∙ h in
          absurd cc

  mine_length : (row : List Value) (t : ℕ) → length (chosen row (named_columns ns ps t)) + num (16 * t) ≡ num (16 * suc t)
  unfolding named_columns
  mine_length row t =
      let edge : 16 * suc t ≡ 16 * t + 16 = omega arith in
      omega (arith, length-chosen row (cols t 16), cols_length t 16, ap num edge)

  mine_at : (row : List Value) (t c d : ℕ) → c < 16 → q (16 * t + c) ≡ true → num (16 * t) + d ≡ num (16 * t + c)
      → get_or (chosen row (named_columns ns ps t)) d Null ≡ value_at row c
  unfolding named_columns
  mine_at row t c d lt h e = at_number row t 16 c d lt h e

  mine_few : (row : List Value) (t : ℕ) → length (chosen row (named_columns ns ps t)) ≤ 16
  unfolding named_columns
  mine_few row t = omega (arith, length-chosen row (cols t 16), few t 16)

  -- the value of a named column in a row of the named columns of several tables
  pub stands_at : (rows : List (List Value)) (t d c e : ℕ) → d < length rows → c < 16 → q (16 * (t + d) + c) ≡ true
      → num (16 * t) + e ≡ num (16 * (t + d) + c) → get_or (held_from ns ps t rows) e Null ≡ value_at (get_or rows d []) c
  stands_at [] t d c e lt small h is = absurd (omega arith)
  stands_at (row ∷ rows) t zero c e lt small h is =
      let key : 16 * (t + zero) + c ≡ 16 * t + c = omega arith in
      let named : q (16 * t + c) ≡ true = ap q (sym key) ∙ h in
      let own : num (16 * t) + e ≡ num (16 * t + c) = is ∙ ap num key in
      let edge : 16 * suc t ≡ 16 * t + 16 = omega arith in
      let inside : e < length (chosen row (named_columns ns ps t)) =
      omega (arith, mine_length row t, own, number_inside t c 16 small named, ap num edge) in
      get_or_append_left (chosen row (named_columns ns ps t)) (held_from ns ps (suc t) rows) Null e inside
      ∙ mine_at row t c e small named own
  stands_at (row ∷ rows) t (suc d) c e lt small h is =
      let mine : List Value = chosen row (named_columns ns ps t) in
      let key : 16 * (t + suc d) + c ≡ 16 * (suc t + d) + c = omega arith in
      let far : 16 * suc t + (16 * d + c) ≡ 16 * (suc t + d) + c = omega arith in
      let size : length mine + num (16 * t) ≡ num (16 * suc t) = mine_length row t in
      let rest : num (16 * suc t) + (e - length mine) ≡ num (16 * (suc t + d) + c) =
      omega (arith, size, is, ap num key, up (16 * suc t) (16 * d + c), ap num far) in
      let over : e ≡ length mine + (e - length mine) = omega (arith, size, is, ap num key, up (16 * suc t) (16 * d + c), ap num far) in
      ap (λ k. get_or (mine ++ held_from ns ps (suc t) rows) k Null) over
      ∙ get_or-append-add mine (held_from ns ps (suc t) rows) (e - length mine) Null
      ∙ stands_at rows (suc t) d c (e - length mine) (omega arith) small (ap q (sym key) ∙ h) rest

  -- such a row has at most 16 values a table
  pub held_short : (rows : List (List Value)) (t : ℕ) → length (held_from ns ps t rows) ≤ 16 * length rows
  held_short [] t = omega arith
  held_short (row ∷ rows) t =
      omega (arith, length-append (chosen row (named_columns ns ps t)) (held_from ns ps (suc t) rows), mine_few row t, held_short rows (suc t))
