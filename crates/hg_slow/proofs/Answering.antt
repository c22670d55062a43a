-- What the test of `is_answerable` shows.
use Rattle.std.proofs.Common.{inl, inr, min, lit≤, get_or, ◌≡◌, ℕ, zero, suc, ◌+◌, ◌-◌, ◌*◌, ◌^◌, ◌<◌, ◌≤◌, refl, sym, ap, ◌∙◌, arith, Bool, true, false, cond, ◌&&◌, not, List, [], ◌∷◌, ◌++◌, length, map, take, drop, length-append, le_trans}
use Rattle.std.specs.Prelude.{nat_lt, nat_le}
use Rattle.std.specs.List.{list_all, filter, flat_map, position_or_len, range_with_len}
use Rattle.std.proofs.lemmas.List.{take_all}
use Rattle.std.proofs.lemmas.Bool.{cases_lt}
use Rattle.std.proofs.lemmas.Bool.Decides.{nat_tests}
use Rattle.std.proofs.lemmas.List.{at_drop_more}
use Rattle.std.proofs.Math.Nat.{mul-le-mul_right}
use Rattle.std.specs.Cmp.{first_so, second_so}
use borrow.Author.Tests.{le-ltb, leb-true}
use Rattle.hg_model.proofs.Widths.{narrow_next}
use Rattle.hg_model.specs.Types.{all_narrow, bound_of, bounds_from, bounds_of, is_narrow}
use Rattle.hg_model.specs.Width.{is_tree, text_fits}
use Rattle.hg_model.specs.declared.trees.Node.{Node}
use Rattle.hg_slow.specs.Answerable.{IsAnswerable, is_answerable}
use Rattle.hg_model.specs.Query.{Query}
use Rattle.hg_model.specs.SelectMeaning.{too_many, kept_rows, keeps_row, from_rows, setting_of, is_grouped}
use Rattle.hg_model.specs.declared.trees.FromTable.{FromTable}
use Rattle.hg_model.specs.Tables.{Table, table_fits, cross, fits_columns, fits_type, is_allowed}
use Rattle.hg_model.specs.declared.trees.Column.{Column}
use Rattle.hg_model.specs.declared.values.Value.{Value}
use Rattle.hg_slow.proofs.Premises.{filter_shorter}

-- a test that fails at b is passed over
step_over : (p : ℕ → Bool) (b m : ℕ) → p b ≡ false → position_or_len p (range_with_len b (suc m)) ≡ 1 + position_or_len p (range_with_len (b + 1) m)
step_over p b m h = ap (λ t. cond (not t) (1 + position_or_len p (range_with_len (b + 1) m)) 0) h

pub digits_step : (p : ℕ → Bool) (b limit total : ℕ) → b < limit → p b ≡ false → b + position_or_len p (range_with_len b (limit - b)) ≡ total
    → b + 1 + position_or_len p (range_with_len (b + 1) (limit - (b + 1))) ≡ total
digits_step p b limit total below fails done =
    let cut : limit - b ≡ suc (limit - (b + 1)) = omega arith in
    let over = ap (λ m. position_or_len p (range_with_len b m)) cut ∙ step_over p b (limit - (b + 1)) fails in
    omega arith

and_false : (s t : Bool) → t ≡ false → (s && t) ≡ false
and_false true t h = h
and_false false t h = refl

-- a row of another length does not fit
pub unlike_lengths : (cs : List Column) (row : List Value) → (length cs ≡ length row → ⊥) → fits_columns cs row ≡ false
unlike_lengths [] [] h = absurd (h refl)
unlike_lengths [] (v ∷ vs) h = refl
unlike_lengths (c ∷ cs) [] h = refl
unlike_lengths (c ∷ cs) (v ∷ vs) h =
    and_false (fits_type c.ty v) (is_allowed c v && fits_columns cs vs) (and_false (is_allowed c v) (fits_columns cs vs) (unlike_lengths cs vs (λ e. h (ap suc e))))

joined_length : (row : List Value) (more : List (List Value)) → length (map (λ rest. row ++ rest) more) ≡ length more
joined_length row [] = refl
joined_length row (rest ∷ more) = ap suc (joined_length row more)

pub product_length : (rows more : List (List Value)) → length (flat_map (λ row. map (λ rest. row ++ rest) more) rows) ≡ length rows * length more
product_length [] more = omega arith
product_length (row ∷ rows) more =
    omega (arith, length-append (map (λ rest. row ++ rest) more) (flat_map (λ r. map (λ rest. r ++ rest) more) rows), joined_length row more, product_length rows more)

-- where the cross product has few rows, few are grouped
pub few_grouped : (q : Query) (texts : List ℕ) (ts : List Table) → length (from_rows q ts) ≤ 2 ^ 30 → too_many q texts ts ≡ false
unfolding too_many kept_rows
few_grouped q texts ts few =
    and_false (is_grouped q) (nat_lt (2 ^ 30) (length (filter (keeps_row (setting_of q texts ts)) (from_rows q ts))))
    (le-ltb (2 ^ 30) (length (filter (keeps_row (setting_of q texts ts)) (from_rows q ts))) (le_trans (filter_shorter (keeps_row (setting_of q texts ts)) (from_rows q ts)) few))

-- a statement that passes the test is answerable
pub test_shows : (q : Query) (texts : List ℕ) (ts : List Table) → is_answerable q texts ts ≡ true → IsAnswerable q texts ts
test_shows q texts ts h =
    let tree = is_tree q.nodes in
    let fit = list_all (text_fits texts) q.nodes in
    let narrow = all_narrow q.nodes in
    let rows = list_all table_fits ts in
    let small = nat_le (length (from_rows q ts)) (2 ^ 30) in
    let first = second_so tree (fit && (narrow && (rows && small))) h in
    let second = second_so fit (narrow && (rows && small)) first in
    let third = second_so narrow (rows && small) second in
    record {
      tree = first_so tree (fit && (narrow && (rows && small))) h;
      texts_fit = first_so fit (narrow && (rows && small)) first;
      narrow = first_so narrow (rows && small) second;
      rows = first_so rows small third;
      few = few_grouped q texts ts (leb-true (length (from_rows q ts)) (2 ^ 30) (second_so rows small third));
    }

suc-above : (rows : ℕ) → 1 ≤ suc rows
suc-above rows = omega arith

mul_grows : (rows more : ℕ) → more ≤ suc rows * more
mul_grows rows more = omega (arith, mul-le-mul_right more (suc-above rows))

min_again : (n limit top : ℕ) → limit ≤ top → min (min n top) limit ≡ min n limit
min_again n limit top q = omega arith

min_large : (n limit top : ℕ) → limit ≤ n → limit ≤ top → min (min n top) limit ≡ limit
min_large n limit top p q = omega arith

min_cases : (rows more limit top : ℕ) → limit ≤ top → more ≤ suc rows * more → min more limit ≤ suc rows * min more limit
    → min (min (suc rows * min more limit) top) limit ≡ min (suc rows * more) limit
min_cases rows more limit top q low high =
    elim (cases_lt more limit) as (λ _. min (min (suc rows * min more limit) top) limit ≡ min (suc rows * more) limit) [
      | inl small ↦ (let cut : min more limit ≡ more = omega arith in ap (λ m. min (min (suc rows * m) top) limit) cut ∙ min_again (suc rows * more) limit top q)
      | inr large ↦ (let cut : min more limit ≡ limit = omega arith in
          let above : limit ≤ suc rows * min more limit = omega arith in
          let whole : min (suc rows * more) limit ≡ limit = omega arith in
          min_large (suc rows * min more limit) limit top above q ∙ sym whole)
    ]

-- products that are cut off at a limit
min_step : (rows more limit top : ℕ) → 1 ≤ limit → limit ≤ top → min (min (rows * min more limit) top) limit ≡ min (rows * more) limit
min_step zero more limit top p q = grind (arith, nat_tests)
min_step (suc rows) more limit top p q =
    let low : more ≤ suc rows * more = mul_grows rows more in
    let high : min more limit ≤ suc rows * min more limit = mul_grows rows (min more limit) in
    min_cases rows more limit top q low high

module _ (rows_of_table : FromTable → List (List Value)) where
  -- one more table multiplies the rows
  pub count_step : (froms : List FromTable) (first : FromTable) (count rows more : ℕ) → 1 ≤ length froms → first ≡ get_or froms 0 first
      → rows ≡ length (rows_of_table first) → more ≡ min (length (cross (map rows_of_table (take (length froms - 1) (drop 1 froms))))) (2 ^ 30 + 1)
      → count ≡ min (min (rows * more) (2 ^ 64 - 1)) (2 ^ 30 + 1) → count ≡ min (length (cross (map rows_of_table froms))) (2 ^ 30 + 1)
  count_step [] first count rows more some is a b made = absurd (omega arith)
  count_step (f ∷ fs) first count rows more some is a b made =
      let here : rows ≡ length (rows_of_table f) = a ∙ ap (λ g. length (rows_of_table g)) is in
      let whole : take (length (f ∷ fs) - 1) fs ≡ fs = take_all (length (f ∷ fs) - 1) fs (omega arith) in
      let rest : more ≡ min (length (cross (map rows_of_table fs))) (2 ^ 30 + 1) = b ∙ ap (λ l. min (length (cross (map rows_of_table l))) (2 ^ 30 + 1)) whole in
      made ∙ ap (λ n. min (min (n * more) (2 ^ 64 - 1)) (2 ^ 30 + 1)) here
      ∙ ap (λ n. min (min (length (rows_of_table f) * n) (2 ^ 64 - 1)) (2 ^ 30 + 1)) rest
      ∙ min_step (length (rows_of_table f)) (length (cross (map rows_of_table fs))) (2 ^ 30 + 1) (2 ^ 64 - 1) (lit≤ tt) (lit≤ tt)
      ∙ ap (λ n. min n (2 ^ 30 + 1)) (sym (product_length (rows_of_table f) (cross (map rows_of_table fs))))

-- where a node is too wide, not all are narrow
wide_first : (n : Node) (ns : List Node) (bs : List ℕ) (b : Bool) → list_all is_narrow (bounds_from (n ∷ ns) bs) ≡ b → 126 < bound_of n bs → b ≡ false
wide_first n ns bs true h wide = absurd (let narrow : bound_of n bs ≤ 126 = leb-true (bound_of n bs) 126 (narrow_next n ns bs h) in omega arith)
wide_first n ns bs false h wide = refl

pub wide_so : (nodes : List Node) (i : ℕ) (n : Node) (bs : List ℕ) (b : ℕ) → i < length nodes → n ≡ get_or nodes i n → bounds_from (drop i nodes) bs ≡ bounds_of nodes
    → b ≡ bound_of n bs → 126 < b → all_narrow nodes ≡ false
wide_so nodes i n bs b below is rest made wide =
    let same : bounds_from (drop i nodes) bs ≡ bounds_from (n ∷ drop (i + 1) nodes) bs
    = at_drop_more (λ l. bounds_from l bs) nodes i n below ∙ ap (λ m. bounds_from (m ∷ drop (i + 1) nodes) bs) (sym is) in
    wide_first n (drop (i + 1) nodes) bs (all_narrow nodes) (ap (list_all is_narrow) (sym same ∙ rest)) (omega arith)
