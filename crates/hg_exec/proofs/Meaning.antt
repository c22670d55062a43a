-- Loops give what a SELECT means.
use Rattle.std.specs.Prelude.{◌≡◌, ℕ, zero, suc, ◌+◌, ◌-◌, ◌<◌, ◌≤◌, ◌&&◌, nat_eq, Bool, true, false, List, [], ◌∷◌, ◌++◌, length, map, not, take, IsTrue, if◌then◌else◌}
use Rattle.std.specs.List.{AllByRecursion, filter, flat_map, list_all, position_or_len, range_with_len}
use Rattle.std.specs.List.Sorted.{IsPermutation}
use Rattle.std.proofs.Common.{sym, ◌∙◌, ap, subst, refl, append_assoc, append-nil, arith, length-append}
use Rattle.std.proofs.lemmas.Bool.{false≢true}
use Rattle.std.proofs.lemmas.Bool.Decides.{nat_tests}
use Rattle.std.proofs.lemmas.List.{map-append}
use Rattle.std.proofs.lemmas.List.Elements.{filter-append, All-from_recursion, recursion_from_All}
use Rattle.std.proofs.lemmas.List.Folds.{list_all-append}
use Rattle.std.proofs.lemmas.List.Sorted.{All-permutation, IsPermutation-sym}
use Rattle.hg_expr.specs.Laws.{AreOnePlaces, TablesSoFarTell, held}
use Rattle.hg_expr.specs.Over.{values_over}
use Rattle.hg_expr.specs.Slots.{named_columns}
use Rattle.hg_model.specs.Binding.{columns_at, free_from}
use Rattle.hg_model.specs.Conditions.{are_there, first_table, meets, split_conditions, tested_at}
use Rattle.hg_model.specs.Evaluation.{value_of, truth_of}
use Rattle.hg_model.specs.NullLogic.{is_true}
use Rattle.hg_model.specs.PlanLaws.{EachIsTestedOnce, SplittingKeepsRows}
use Rattle.hg_model.specs.SelectMeaning.{Setting, keeps_row, output_row, row_values}
use Rattle.hg_model.specs.Tables.{cross}
use Rattle.hg_model.specs.declared.tables.FromColumn.{FromColumn}
use Rattle.hg_model.specs.declared.trees.Output.{Output}
use Rattle.hg_model.specs.declared.values.Value.{Value}
use Rattle.hg_value.specs.Looks.{chosen}
use Rattle.hg_exec.specs.Joins.{Form, TableRows, joined_with, output_of, passes, rows_from}
use Rattle.hg_exec.specs.Meaning.{LoopsMeanSelect, choices, form_for, rows_in}
use Rattle.hg_plan.specs.Planning.{AreNamed, AreTested}
use Rattle.hg_plan.specs.declared.plan.TableLoop.{TableLoop}
use Rattle.hg_exec.proofs.Joining.{held-more}

-- ---- lists

filter-same : {X : Type 0} (p q : X → Bool) (xs : List X) → AllByRecursion (λ x. p x ≡ q x) xs → filter p xs ≡ filter q xs
filter-same p q [] h = refl
filter-same p q (x ∷ xs) h = rw (h.0, filter-same p q xs h.1) refl

filter-none : {X : Type 0} (p : X → Bool) (xs : List X) → AllByRecursion (λ x. p x ≡ false) xs → filter p xs ≡ []
filter-none p [] h = refl
filter-none p (x ∷ xs) h = rw (h.0, filter-none p xs h.1) refl

filter-map : {X Y : Type 0} (p : Y → Bool) (g : X → Y) (xs : List X) → filter p (map g xs) ≡ map g (filter (λ x. p (g x)) xs)
filter-map p g [] = refl
filter-map p g (x ∷ xs) = by (p (g x)) (filter-map p g xs)
  where
    by : (b : Bool) → filter p (map g xs) ≡ map g (filter (λ x. p (g x)) xs)
        → (if b then g x ∷ filter p (map g xs) else filter p (map g xs)) ≡ map g (if b then x ∷ filter (λ x. p (g x)) xs else filter (λ x. p (g x)) xs)
    by true h = ap (λ r. g x ∷ r) h
    by false h = h

pub map-map : {X Y Z : Type 0} (g : Y → Z) (h : X → Y) (xs : List X) → map g (map h xs) ≡ map (λ x. g (h x)) xs
map-map g h [] = refl
map-map g h (x ∷ xs) = ap (λ r. g (h x) ∷ r) (map-map g h xs)

pub map-same : {X Y : Type 0} (g h : X → Y) (xs : List X) → ((x : X) → g x ≡ h x) → map g xs ≡ map h xs
map-same g h [] e = refl
map-same g h (x ∷ xs) e = rw (e x, map-same g h xs e) refl

all-both : {X : Type 0} (P Q R : X → Type 0) (xs : List X) → ((x : X) → P x → Q x → R x) → AllByRecursion P xs → AllByRecursion Q xs → AllByRecursion R xs
all-both P Q R [] f p q = tt
all-both P Q R (x ∷ xs) f p q = (f x p.0 q.0, all-both P Q R xs f p.1 q.1)

all-left : {X : Type 0} (P : X → Type 0) (xs ys : List X) → AllByRecursion P (xs ++ ys) → AllByRecursion P xs × AllByRecursion P ys
all-left P [] ys h = (tt, h)
all-left P (x ∷ xs) ys h = let r = all-left P xs ys h.1 in ((h.0, r.0), r.1)

all-mapped : {X Y : Type 0} (P : Y → Type 0) (g : X → Y) (xs : List X) → AllByRecursion P (map g xs) → AllByRecursion (λ x. P (g x)) xs
all-mapped P g [] h = tt
all-mapped P g (x ∷ xs) h = (h.0, all-mapped P g xs h.1)

take-all : {X : Type 0} (xs : List X) (n : ℕ) → length xs ≡ n → take n xs ≡ xs
take-all [] zero e = refl
take-all [] (suc n) e = refl
take-all (x ∷ xs) zero e = absurd (omega arith)
take-all (x ∷ xs) (suc n) e = ap (λ r. x ∷ r) (take-all xs n (omega arith))

take-front : {X : Type 0} (xs ys : List X) (n : ℕ) → length xs ≡ n → take n (xs ++ ys) ≡ xs
take-front [] ys zero e = refl
take-front [] ys (suc n) e = absurd (omega arith)
take-front (x ∷ xs) ys zero e = absurd (omega arith)
take-front (x ∷ xs) ys (suc n) e = ap (λ r. x ∷ r) (take-front xs ys n (omega arith))

-- ---- tests in any order

all-true : (p : ℕ → Bool) (ns : List ℕ) → list_all p ns ≡ true → AllByRecursion (λ n. p n ≡ true) ns
all-true p [] h = tt
all-true p (n ∷ ns) h = by (p n) refl h (all-true p ns)
  where
    by : (b : Bool) → p n ≡ b → (b && list_all p ns) ≡ true → (list_all p ns ≡ true → AllByRecursion (λ n. p n ≡ true) ns)
        → (p n ≡ true) × AllByRecursion (λ n. p n ≡ true) ns
    by true e h more = (e, more h)
    by false e h more = absurd (false≢true h)

true-all : (p : ℕ → Bool) (ns : List ℕ) → AllByRecursion (λ n. p n ≡ true) ns → list_all p ns ≡ true
true-all p [] h = refl
true-all p (n ∷ ns) h = rw h.0 (true-all p ns h.1)

same-truth : (a b : Bool) → (a ≡ true → b ≡ true) → (b ≡ true → a ≡ true) → a ≡ b
same-truth true b f g = sym (f refl)
same-truth false true f g = g refl
same-truth false false f g = refl

permuted : (p : ℕ → Bool) (ms ns : List ℕ) → IsPermutation ms ns → list_all p ms ≡ true → list_all p ns ≡ true
permuted p ms ns s h =
    let P : ℕ → Type 0 = λ n. p n ≡ true in
    true-all p ns (recursion_from_All P ns (All-permutation P ms ns s (All-from_recursion P ms (all-true p ms h))))

all-permuted : (p : ℕ → Bool) (ms ns : List ℕ) → IsPermutation ms ns → list_all p ms ≡ list_all p ns
all-permuted p ms ns s = same-truth (list_all p ms) (list_all p ns) (permuted p ms ns s) (permuted p ns ms (IsPermutation-sym ms ns s))

position-test : (p : ℕ → Bool) (a n : ℕ) → position_or_len p (range_with_len a n) < n → p (a + position_or_len p (range_with_len a n)) ≡ true
position-test p a zero lt = absurd (omega arith)
position-test p a (suc n) lt = by (p a) refl lt (position-test p (a + 1) n)
  where
    by : (b : Bool) → p a ≡ b → (if not b then 1 + position_or_len p (range_with_len (a + 1) n) else 0) < suc n
        → (position_or_len p (range_with_len (a + 1) n) < n → p (a + 1 + position_or_len p (range_with_len (a + 1) n)) ≡ true)
        → p (a + (if not b then 1 + position_or_len p (range_with_len (a + 1) n) else 0)) ≡ true
    by true e lt more = ap p (let z : a + 0 ≡ a = omega arith in z) ∙ e
    by false e lt more =
        ap p (let z : a + (1 + position_or_len p (range_with_len (a + 1) n)) ≡ a + 1 + position_or_len p (range_with_len (a + 1) n) = omega arith in z)
        ∙ more (omega arith)

-- ---- the cross product

abbrev whole : List (List Value) → List Value
whole chosen_rows = flat_map (λ row. row) chosen_rows

whole-more : (row : List Value) (xs : List (List (List Value))) → map whole (map (λ rest. row ∷ rest) xs) ≡ map (λ rest. row ++ rest) (map whole xs)
whole-more row [] = refl
whole-more row (x ∷ xs) = ap (λ r. (row ++ whole x) ∷ r) (whole-more row xs)

over-cross : (more : List (List (List Value))) → map whole (choices more) ≡ cross more → (rs : List (List Value))
    → map whole (flat_map (λ row. map (λ rest. row ∷ rest) (choices more)) rs) ≡ flat_map (λ row. map (λ rest. row ++ rest) (cross more)) rs
over-cross more h [] = refl
over-cross more h (r ∷ rs) =
    map-append whole (map (λ rest. r ∷ rest) (choices more)) (flat_map (λ row. map (λ rest. row ∷ rest) (choices more)) rs)
    ∙ ap (λ xs. xs ++ map whole (flat_map (λ row. map (λ rest. row ∷ rest) (choices more)) rs))
    (whole-more r (choices more) ∙ ap (map (λ rest. r ++ rest)) h)
    ∙ ap (λ ys. map (λ rest. r ++ rest) (cross more) ++ ys) (over-cross more h rs)

choices-cross : (tables : List (List (List Value))) → map whole (choices tables) ≡ cross tables
choices-cross [] = refl
choices-cross (rows ∷ more) = over-cross more (choices-cross more) rows

longer : (n : ℕ) (row : List Value) (xs : List (List (List Value))) (ys : List (List (List Value))) → AllByRecursion (λ x. length x ≡ n) xs
    → AllByRecursion (λ x. length x ≡ suc n) ys → AllByRecursion (λ x. length x ≡ suc n) (map (λ rest. row ∷ rest) xs ++ ys)
longer n row [] ys h k = k
longer n row (x ∷ xs) ys h k = (ap suc h.0, longer n row xs ys h.1 k)

over-long : (n : ℕ) (xs : List (List (List Value))) → AllByRecursion (λ x. length x ≡ n) xs → (rs : List (List Value))
    → AllByRecursion (λ x. length x ≡ suc n) (flat_map (λ row. map (λ rest. row ∷ rest) xs) rs)
over-long n xs h [] = tt
over-long n xs h (r ∷ rs) = longer n r xs (flat_map (λ row. map (λ rest. row ∷ rest) xs) rs) h (over-long n xs h rs)

choices-long : (tables : List (List (List Value))) → AllByRecursion (λ x. length x ≡ length tables) (choices tables)
choices-long [] = (refl, tt)
choices-long (rows ∷ more) = over-long (length more) (choices more) (choices-long more) rows

rows_in-length : (rows : TableRows) (ls : List TableLoop) → length (rows_in rows ls) ≡ length ls
rows_in-length rows [] = refl
rows_in-length rows (l ∷ ls) = ap suc (rows_in-length rows ls)

-- ---- loops

module _ (law : TablesSoFarTell) (scope : List FromColumn) (s : Setting) (places : List (ℕ × ℕ)) (rows : TableRows) (tables : ℕ)
    (tables-are : tables ≡ length s.query.tables) where
  abbrev g : Form
  g = form_for s places

  abbrev IsThere : ℕ → ℕ → Type 0
  IsThere k n = IsTrue (are_there scope (columns_at (free_from s.positions s.query.nodes []) n) k)

  abbrev AreOne : List (List Value) → Type 0
  AreOne chosen_rows = AreOnePlaces scope chosen_rows s.query.nodes s.positions places

  abbrev joined-rows : List (List Value) → List Value
  joined-rows chosen_rows = held s.query.nodes places chosen_rows

  -- a node whose columns are there stands for what it stands for over the whole row
  so-far : (xs : List (List Value)) (k n : ℕ) → length xs ≤ 4 → AreOne xs → k < length xs → IsThere k n
      → (value_of (values_over g.texts g.slots g.nodes (joined-rows (take (suc k) xs))) n ≡ value_of (row_values s (whole xs)) n)
      × (truth_of (values_over g.texts g.slots g.nodes (joined-rows (take (suc k) xs))) n ≡ truth_of (row_values s (whole xs)) n)
  unfolding row_values
  so-far xs k n few one lt there = law scope s.texts s.query.nodes s.positions places xs k n few one lt there

  passes-so-far : (xs : List (List Value)) (k : ℕ) (tests : List ℕ) → length xs ≤ 4 → AreOne xs → k < length xs → AllByRecursion (IsThere k) tests
      → passes g tests (joined-rows (take (suc k) xs)) ≡ meets s tests (whole xs)
  passes-so-far xs k [] few one lt there = refl
  passes-so-far xs k (n ∷ ns) few one lt there =
      ap (λ t. is_true t && passes g ns (joined-rows (take (suc k) xs))) (so-far xs k n few one lt there.0).1
      ∙ ap (λ b. is_true (truth_of (row_values s (whole xs)) n) && b) (passes-so-far xs k ns few one lt there.1)

  outputs-so-far : (xs : List (List Value)) (k : ℕ) (os : List Output) → length xs ≤ 4 → AreOne xs → k < length xs → AllByRecursion (λ (o : Output). IsThere k o.node) os
      → map (λ (o : Output). value_of (values_over g.texts g.slots g.nodes (joined-rows (take (suc k) xs))) o.node) os
      ≡ map (λ (o : Output). value_of (row_values s (whole xs)) o.node) os
  outputs-so-far xs k [] few one lt there = refl
  outputs-so-far xs k (o ∷ os) few one lt there =
      ap (λ v. v ∷ map (λ (o : Output). value_of (values_over g.texts g.slots g.nodes (joined-rows (take (suc k) xs))) o.node) os) (so-far xs k o.node few one lt there.0).0
      ∙ ap (λ vs. value_of (row_values s (whole xs)) o.node ∷ vs) (outputs-so-far xs k os few one lt there.1)

  -- the conditions that are tested at a table are there
  abbrev tests-at : ℕ → List ℕ
  tests-at k = tested_at scope s.positions s.query k

  tested-there : (k : ℕ) → k < tables → (ns : List ℕ) → AllByRecursion (IsThere k) (filter (λ n. nat_eq (first_table scope s.positions s.query n) k) ns)
  tested-there k lt [] = tt
  tested-there k lt (n ∷ ns) = by (nat_eq (first_table scope s.positions s.query n) k) refl (tested-there k lt ns)
    where
      by : (b : Bool) → nat_eq (first_table scope s.positions s.query n) k ≡ b
          → AllByRecursion (IsThere k) (filter (λ n. nat_eq (first_table scope s.positions s.query n) k) ns)
          → AllByRecursion (IsThere k) (if b then n ∷ filter (λ n. nat_eq (first_table scope s.positions s.query n) k) ns else filter (λ n. nat_eq (first_table scope s.positions s.query n) k) ns)
      by true e h =
          let is : first_table scope s.positions s.query n ≡ k = grind (arith, nat_tests) in
          let there = position-test (are_there scope (columns_at (free_from s.positions s.query.nodes []) n)) 0 (length s.query.tables)
          (let t = tables-are in let a = lt in omega arith) in
          (subst (λ j. IsThere j n) (let z : 0 + first_table scope s.positions s.query n ≡ k = omega arith in z) there, h)
      by false e h = h

  abbrev pass-all : ℕ → List TableLoop → List Value → Bool
  pass-all k [] w = true
  pass-all k (l ∷ ls) w = meets s (tests-at k) w && pass-all (suc k) ls w

  abbrev output-over : List Value → List Value
  output-over w = map (λ (o : Output). value_of (row_values s w) o.node) s.query.outputs

  abbrev inner : List TableLoop → List (List (List Value))
  inner ls = choices (rows_in rows ls)

  abbrev split : List TableLoop → List (List Value) → List (List (List Value))
  split ls rs = flat_map (λ row. map (λ rest. row ∷ rest) (choices (rows_in rows ls))) rs

  abbrev step-gives : List (List Value) → TableLoop → List TableLoop → List Value → List (List Value)
  step-gives xs l ls row =
      if passes g l.tests.items (joined_with l (joined-rows xs) row) then rows_from g rows ls (joined_with l (joined-rows xs) row) else []

  -- the outputs of those ways to go on that pass
  abbrev outs : List (List Value) → ℕ → List TableLoop → List (List (List Value)) → List (List Value)
  outs xs k ls yss = map (λ ys. output-over (whole (xs ++ ys))) (filter (λ ys. pass-all k ls (whole (xs ++ ys))) yss)

  -- over one row of the table
  module _ (xs : List (List Value)) (k : ℕ) (l : TableLoop) (ls : List TableLoop) (long : length xs ≡ k) (count : k + suc (length ls) ≡ tables) (few : tables ≤ 4)
      (named : l.columns.items ≡ named_columns s.query.nodes places k)
      (tested : (p : ℕ → Bool) → list_all p l.tests.items ≡ list_all p (tests-at k)) where
    joins : (row : List Value) → joined_with l (joined-rows xs) row ≡ joined-rows (xs ++ row ∷ [])
    joins row =
        ap (λ cs. joined-rows xs ++ chosen row cs) (named ∙ ap (named_columns s.query.nodes places) (let z : k ≡ 0 + length xs = omega arith in z))
        ∙ sym (held-more s.query.nodes places 0 xs row)

    split-up : (row : List Value) (ys : List (List Value)) → xs ++ row ∷ ys ≡ (xs ++ row ∷ []) ++ ys
    split-up row ys = sym (append_assoc xs (row ∷ []) ys)

    zs-long : (row : List Value) → length (xs ++ row ∷ []) ≡ suc k
    zs-long row = length-append xs (row ∷ []) ∙ omega arith

    same-test : (row : List Value) (ys : List (List Value)) → AreOne ((xs ++ row ∷ []) ++ ys) → length ys ≡ length (rows_in rows ls)
        → meets s (tests-at k) (whole ((xs ++ row ∷ []) ++ ys)) ≡ passes g l.tests.items (joined_with l (joined-rows xs) row)
    same-test row ys a e =
        let zs : List (List Value) = xs ++ row ∷ [] in
        let size : length (zs ++ ys) ≡ tables = length-append zs ys ∙ (let r = rows_in-length rows ls in let z = zs-long row in omega arith) in
        sym (passes-so-far (zs ++ ys) k (tests-at k) (omega arith) a (omega arith) (tested-there k (omega arith) (split_conditions s.query)))
        ∙ ap (λ us. passes g (tests-at k) (joined-rows us)) (take-front zs ys (suc k) (zs-long row))
        ∙ sym (tested (λ n. is_true (truth_of (values_over g.texts g.slots g.nodes (joined-rows zs)) n)))
        ∙ ap (passes g l.tests.items) (sym (joins row))

    decide : (row : List Value) (yss : List (List (List Value))) (b : Bool) → passes g l.tests.items (joined_with l (joined-rows xs) row) ≡ b
        → AllByRecursion (λ ys. meets s (tests-at k) (whole ((xs ++ row ∷ []) ++ ys)) ≡ b) yss
        → rows_from g rows ls (joined-rows (xs ++ row ∷ [])) ≡ outs (xs ++ row ∷ []) (suc k) ls yss
        → step-gives xs l ls row ≡ outs (xs ++ row ∷ []) k (l ∷ ls) yss
    decide row yss true p tests ih =
        ap (λ t. if t then rows_from g rows ls (joined_with l (joined-rows xs) row) else []) p
        ∙ ap (rows_from g rows ls) (joins row) ∙ ih
        ∙ ap (map (λ ys. output-over (whole ((xs ++ row ∷ []) ++ ys))))
        (filter-same (λ ys. pass-all (suc k) ls (whole ((xs ++ row ∷ []) ++ ys))) (λ ys. pass-all k (l ∷ ls) (whole ((xs ++ row ∷ []) ++ ys))) yss
        (all-both (λ ys. meets s (tests-at k) (whole ((xs ++ row ∷ []) ++ ys)) ≡ true) (λ ys. meets s (tests-at k) (whole ((xs ++ row ∷ []) ++ ys)) ≡ true)
        (λ ys. pass-all (suc k) ls (whole ((xs ++ row ∷ []) ++ ys)) ≡ pass-all k (l ∷ ls) (whole ((xs ++ row ∷ []) ++ ys))) yss
        (λ ys t u. ap (λ v. v && pass-all (suc k) ls (whole ((xs ++ row ∷ []) ++ ys))) (sym t)) tests tests))
    decide row yss false p tests ih =
        ap (λ t. if t then rows_from g rows ls (joined_with l (joined-rows xs) row) else []) p
        ∙ sym (ap (map (λ ys. output-over (whole ((xs ++ row ∷ []) ++ ys))))
        (filter-none (λ ys. pass-all k (l ∷ ls) (whole ((xs ++ row ∷ []) ++ ys))) yss
        (all-both (λ ys. meets s (tests-at k) (whole ((xs ++ row ∷ []) ++ ys)) ≡ false) (λ ys. meets s (tests-at k) (whole ((xs ++ row ∷ []) ++ ys)) ≡ false)
        (λ ys. pass-all k (l ∷ ls) (whole ((xs ++ row ∷ []) ++ ys)) ≡ false) yss
        (λ ys t u. ap (λ v. v && pass-all (suc k) ls (whole ((xs ++ row ∷ []) ++ ys))) t) tests tests)))

    turned : (row : List Value) (yss : List (List (List Value))) → outs xs k (l ∷ ls) (map (λ rest. row ∷ rest) yss) ≡ outs (xs ++ row ∷ []) k (l ∷ ls) yss
    turned row [] = refl
    turned row (ys ∷ yss) = by (pass-all k (l ∷ ls) (whole (xs ++ row ∷ ys))) (ap (λ us. pass-all k (l ∷ ls) (whole us)) (sym (split-up row ys))) (turned row yss)
      where
        by : (b : Bool) → pass-all k (l ∷ ls) (whole ((xs ++ row ∷ []) ++ ys)) ≡ b
            → outs xs k (l ∷ ls) (map (λ rest. row ∷ rest) yss) ≡ outs (xs ++ row ∷ []) k (l ∷ ls) yss
            → map (λ zs. output-over (whole (xs ++ zs))) (if b then (row ∷ ys) ∷ filter (λ zs. pass-all k (l ∷ ls) (whole (xs ++ zs))) (map (λ rest. row ∷ rest) yss) else filter (λ zs. pass-all k (l ∷ ls) (whole (xs ++ zs))) (map (λ rest. row ∷ rest) yss))
            ≡ outs (xs ++ row ∷ []) k (l ∷ ls) (ys ∷ yss)
        by true e h =
            ap (λ us. output-over (whole us) ∷ outs xs k (l ∷ ls) (map (λ rest. row ∷ rest) yss)) (split-up row ys)
            ∙ ap (λ r. output-over (whole ((xs ++ row ∷ []) ++ ys)) ∷ r) h
            ∙ ap (λ t. map (λ zs. output-over (whole ((xs ++ row ∷ []) ++ zs))) (if t then ys ∷ filter (λ zs. pass-all k (l ∷ ls) (whole ((xs ++ row ∷ []) ++ zs))) yss else filter (λ zs. pass-all k (l ∷ ls) (whole ((xs ++ row ∷ []) ++ zs))) yss)) (sym e)
        by false e h =
            h
            ∙ ap (λ t. map (λ zs. output-over (whole ((xs ++ row ∷ []) ++ zs))) (if t then ys ∷ filter (λ zs. pass-all k (l ∷ ls) (whole ((xs ++ row ∷ []) ++ zs))) yss else filter (λ zs. pass-all k (l ∷ ls) (whole ((xs ++ row ∷ []) ++ zs))) yss)) (sym e)

    one-row : (row : List Value) → AllByRecursion (λ ys. AreOne (xs ++ row ∷ ys)) (inner ls)
        → (AllByRecursion (λ ys. AreOne ((xs ++ row ∷ []) ++ ys)) (inner ls) → rows_from g rows ls (joined-rows (xs ++ row ∷ [])) ≡ outs (xs ++ row ∷ []) (suc k) ls (inner ls))
        → step-gives xs l ls row ≡ outs xs k (l ∷ ls) (map (λ rest. row ∷ rest) (inner ls))
    one-row row ones ih =
        let later : AllByRecursion (λ ys. AreOne ((xs ++ row ∷ []) ++ ys)) (inner ls) =
        all-both (λ ys. AreOne (xs ++ row ∷ ys)) (λ ys. length ys ≡ length (rows_in rows ls)) (λ ys. AreOne ((xs ++ row ∷ []) ++ ys)) (inner ls)
        (λ ys a e. subst AreOne (split-up row ys) a) ones (choices-long (rows_in rows ls)) in
        let same-tests =
        all-both (λ ys. AreOne ((xs ++ row ∷ []) ++ ys)) (λ ys. length ys ≡ length (rows_in rows ls))
        (λ ys. meets s (tests-at k) (whole ((xs ++ row ∷ []) ++ ys)) ≡ passes g l.tests.items (joined_with l (joined-rows xs) row)) (inner ls)
        (same-test row) later (choices-long (rows_in rows ls)) in
        decide row (inner ls) (passes g l.tests.items (joined_with l (joined-rows xs) row)) refl same-tests (ih later) ∙ sym (turned row (inner ls))

    over : (rs : List (List Value)) → AllByRecursion (λ ys. AreOne (xs ++ ys)) (split ls rs)
        → ((row : List Value) → AllByRecursion (λ ys. AreOne ((xs ++ row ∷ []) ++ ys)) (inner ls) → rows_from g rows ls (joined-rows (xs ++ row ∷ [])) ≡ outs (xs ++ row ∷ []) (suc k) ls (inner ls))
        → flat_map (step-gives xs l ls) rs ≡ outs xs k (l ∷ ls) (split ls rs)
    over [] ones ih = refl
    over (r ∷ rs) ones ih =
        let both = all-left (λ ys. AreOne (xs ++ ys)) (map (λ rest. r ∷ rest) (inner ls)) (split ls rs) ones in
        let here = one-row r (all-mapped (λ ys. AreOne (xs ++ ys)) (λ rest. r ∷ rest) (inner ls) both.0) (ih r) in
        ap (λ us. us ++ flat_map (step-gives xs l ls) rs) here
        ∙ ap (λ us. outs xs k (l ∷ ls) (map (λ rest. r ∷ rest) (inner ls)) ++ us) (over rs both.1 ih)
        ∙ sym (map-append (λ ys. output-over (whole (xs ++ ys))) (filter (λ ys. pass-all k (l ∷ ls) (whole (xs ++ ys))) (map (λ rest. r ∷ rest) (inner ls)))
        (filter (λ ys. pass-all k (l ∷ ls) (whole (xs ++ ys))) (split ls rs)))
        ∙ ap (map (λ ys. output-over (whole (xs ++ ys)))) (sym (filter-append (λ ys. pass-all k (l ∷ ls) (whole (xs ++ ys))) (map (λ rest. r ∷ rest) (inner ls)) (split ls rs)))

  -- what loops give over rows that have joined
  gives : (xs : List (List Value)) (k : ℕ) (ls : List TableLoop) → length xs ≡ k → k + length ls ≡ tables → tables ≤ 4 → 0 < tables
      → AreNamed s.query.nodes places k ls → AreTested scope s.positions s.query k ls → AllByRecursion (λ (o : Output). IsThere (tables - 1) o.node) s.query.outputs
      → AllByRecursion (λ ys. AreOne (xs ++ ys)) (inner ls)
      → rows_from g rows ls (joined-rows xs) ≡ outs xs k ls (inner ls)
  gives xs zero [] long count few some named tested there one = absurd (omega arith)
  gives xs (suc k) [] long count few some named tested there one =
      let last : tables - 1 ≡ k = omega arith in
      let all : AllByRecursion (λ (o : Output). IsThere k o.node) s.query.outputs = subst (λ j. AllByRecursion (λ (o : Output). IsThere j o.node) s.query.outputs) last there in
      let same : xs ++ [] ≡ xs = append-nil xs in
      let here : AreOne xs = subst AreOne same one.0 in
      ap (λ vs. vs ∷ [])
      (ap (λ ys. output_of g (joined-rows ys)) (sym (take-all xs (suc k) long))
      ∙ outputs-so-far xs k s.query.outputs (omega arith) here (omega arith) all
      ∙ ap (λ ys. output-over (whole ys)) (sym same))
  gives xs k (l ∷ ls) long count few some named tested there one =
      over xs k l ls long count few named.0 tested.0 (rows l.table) one
      (λ row later. gives (xs ++ row ∷ []) (suc k) ls (zs-long xs k l ls long count few named.0 tested.0 row) (omega arith) few some named.1 tested.1 there later)

  -- the conditions of all loops are ON and WHERE
  pass-range : (k : ℕ) (ls : List TableLoop) (w : List Value) → pass-all k ls w ≡ meets s (flat_map tests-at (range_with_len k (length ls))) w
  pass-range k [] w = refl
  pass-range k (l ∷ ls) w =
      let next : suc k ≡ k + 1 = omega arith in
      ap (λ b. meets s (tests-at k) w && b) (pass-range (suc k) ls w ∙ ap (λ j. meets s (flat_map tests-at (range_with_len j (length ls))) w) next)
      ∙ sym (list_all-append (λ n. is_true (truth_of (row_values s w) n)) (tests-at k) (flat_map tests-at (range_with_len (k + 1) (length ls))))

pub loops_mean_select : TablesSoFarTell → SplittingKeepsRows → EachIsTestedOnce → LoopsMeanSelect
loops_mean_select law splitting once scope s places f loops rows p =
    let tables = length loops in
    let given = gives law scope s places rows tables p.count [] 0 loops refl (omega arith) p.few p.some p.named p.tested p.outputs_there p.one in
    let out : List Value → List Value = λ w. map (λ (o : Output). value_of (row_values s w) o.node) s.query.outputs in
    let keep : List Value → Bool = pass-all law scope s places rows tables p.count 0 loops in
    let keeps : (w : List Value) → keep w ≡ keeps_row s w = λ w.
    pass-range law scope s places rows tables p.count 0 loops w
    ∙ ap (λ n. meets s (flat_map (tested_at scope s.positions s.query) (range_with_len 0 n)) w) p.count
    ∙ all-permuted (λ n. is_true (truth_of (row_values s w) n)) _ _ (once scope s.positions s.query p.tested_somewhere)
    ∙ splitting s w p.tree in
    ap (λ h. rows_from h rows loops []) p.form
    ∙ given
    ∙ sym (map-map out whole (filter (λ ys. keep (whole ys)) (choices (rows_in rows loops))))
    ∙ ap (map out) (sym (filter-map keep whole (choices (rows_in rows loops))))
    ∙ ap (λ ws. map out (filter keep ws)) (choices-cross (rows_in rows loops))
    ∙ ap (map out) (filter-like keep (keeps_row s) (cross (rows_in rows loops)) keeps)
    ∙ map-same out (λ row. output_row s (row_values s row) row) (filter (keeps_row s) (cross (rows_in rows loops)))
    (λ w. ap (λ b. if b then w else out w) (sym p.star))
  where
    filter-like : (p q : List Value → Bool) (xs : List (List Value)) → ((x : List Value) → p x ≡ q x) → filter p xs ≡ filter q xs
    filter-like p q [] e = refl
    filter-like p q (x ∷ xs) e = rw (e x, filter-like p q xs e) refl
