-- Rows of constants by the places of their columns are the rows that the definition lists.
use Rattle.std.specs.Prelude.{◌≡◌, ℕ, ◌+◌, ◌≤◌, ◌==◌, Bool, true, false, List, [], ◌∷◌, ◌++◌, length, map, drop, Some, slice_index_or, if◌then◌else◌}
use Rattle.std.specs.List.{range_with_len, position_from}
use Rattle.std.proofs.Common.{sym, ◌∙◌, ap, refl, arith, inl, inr}
use Rattle.std.proofs.lemmas.Bool.{cases_lt}
use Rattle.std.proofs.lemmas.List.FromFn.{map-range_with_len_more, length-range_with_len}
use Rattle.std.proofs.lemmas.List.{drop_more, drop_all, length-map}
use Rattle.std.proofs.lemmas.Option.{slice_get-get_or, slice_get_past}
use Rattle.hg_model.specs.Changes.{listed, new_row, tuples_from}
use Rattle.hg_model.specs.Evaluation.{literal_value}
use Rattle.hg_model.specs.declared.trees.Column.{Column}
use Rattle.hg_model.specs.declared.trees.Literal.{Literal}
use Rattle.hg_model.specs.declared.trees.Literal.TheVariants as literal
use Rattle.hg_model.specs.declared.values.Value.TheVariants as val
use Rattle.hg_dml.specs.Rows.{rows_of_tuples}
use Rattle.hg_dml.specs.Tuples.{source_of, sources_of, constant_value, value_in, row_from, rows_from}

-- behind its end a row has nothing
none-behind : (texts : List ℕ) (tuple : List Literal) (p : ℕ → Bool) (i : ℕ) (ts : List ℕ) → length tuple ≤ i → value_in texts tuple (position_from p i ts) ≡ val.Null
none-behind texts tuple p i [] h = refl
none-behind texts tuple p i (t ∷ ts) h = elim (p t) as (λ b. value_in texts tuple (if b then Some i else position_from p (i + 1) ts) ≡ val.Null) [
  | true ↦ ap (constant_value texts) (slice_get_past tuple i h)
  | false ↦ none-behind texts tuple p (i + 1) ts (omega arith)
]

listed-none : (ts : List ℕ) (k : ℕ) → listed ts [] k ≡ val.Null
listed-none [] k = refl
listed-none (t ∷ ts) k = refl

listed-from : (texts : List ℕ) (tuple : List Literal) (k i : ℕ) (ts : List ℕ)
    → listed ts (map (literal_value texts) (drop i tuple)) k ≡ value_in texts tuple (position_from (λ t. t == k) i ts)
listed-from texts tuple k i [] = refl
listed-from texts tuple k i (t ∷ ts) = elim (cases_lt i (length tuple)) [
  | inl h ↦
      let l : Literal = slice_index_or tuple i literal.Null in
      ap (λ d. listed (t ∷ ts) (map (literal_value texts) d) k) (drop_more tuple i literal.Null h)
      ∙ elim (t == k) as (λ b. (if b then literal_value texts l else listed ts (map (literal_value texts) (drop (i + 1) tuple)) k)
      ≡ value_in texts tuple (if b then Some i else position_from (λ t. t == k) (i + 1) ts)) [
        | true ↦ ap (constant_value texts) (sym (slice_get-get_or tuple i literal.Null h))
        | false ↦ listed-from texts tuple k (i + 1) ts
      ]
  | inr h ↦
      ap (λ d. listed (t ∷ ts) (map (literal_value texts) d) k) (drop_all i tuple h)
      ∙ sym (none-behind texts tuple (λ t. t == k) i (t ∷ ts) h)
]

map-same : {X Y : Type 0} (f g : X → Y) (xs : List X) → ((x : X) → f x ≡ g x) → map f xs ≡ map g xs
map-same f g [] e = refl
map-same f g (x ∷ xs) e = ap (λ y. y ∷ map f xs) (e x) ∙ ap (λ ys. g x ∷ ys) (map-same f g xs e)

map-then : {X Y Z : Type 0} (g : Y → Z) (f : X → Y) (xs : List X) → map g (map f xs) ≡ map (λ x. g (f x)) xs
map-then g f [] = refl
map-then g f (x ∷ xs) = ap (λ ys. g (f x) ∷ ys) (map-then g f xs)

pub row-is : (texts targets : List ℕ) (width : ℕ) (tuple : List Literal) → row_from texts (sources_of targets width) tuple ≡ new_row texts width targets tuple
row-is texts targets width tuple =
    map-then (value_in texts tuple) (source_of targets) (range_with_len 0 width)
    ∙ map-same (λ k. value_in texts tuple (source_of targets k)) (listed targets (map (literal_value texts) tuple)) (range_with_len 0 width)
    (λ k. sym (listed-from texts tuple k 0 targets))

pub rows-are : (texts : List ℕ) (columns : List Column) (targets : List ℕ) (values : List Literal) (ends : List ℕ)
    → rows_from texts (sources_of targets (length columns)) values ends ≡ rows_of_tuples texts columns targets values ends
rows-are texts columns targets values ends =
    map-same (row_from texts (sources_of targets (length columns))) (new_row texts (length columns) targets) (tuples_from 0 ends values)
    (λ tuple. row-is texts targets (length columns) tuple)

-- the place of one column more
pub sources-more : (targets : List ℕ) (n : ℕ) → sources_of targets (n + 1) ≡ sources_of targets n ++ source_of targets n ∷ []
sources-more targets n = map-range_with_len_more (source_of targets) 0 n n (let e : 0 + n ≡ n = omega arith in e)

pub length-sources : (targets : List ℕ) (n : ℕ) → length (sources_of targets n) ≡ n
length-sources targets n = length-map (range_with_len 0 n) (source_of targets) ∙ length-range_with_len 0 n
