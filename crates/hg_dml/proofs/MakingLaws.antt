-- Laws of the row that is made of a row, and of what stands against such rows.
use Rattle.std.specs.Prelude.{◌≡◌, ℕ, zero, suc, ◌+◌, ◌<◌, ◌≤◌, ◌⊎◌, ◌&&◌, ◌||◌, min, nat_le, nat_lt, Bool, true, false, List, [], ◌∷◌, ◌++◌, length, take, drop, Option, Some, None, is_some, slice_get, slice_index_or, slice_set, if◌then◌else◌}
use Rattle.std.specs.List.{list_all, list_any}
use Rattle.std.proofs.Common.{sym, ◌∙◌, ap, subst, refl, arith, inl, inr, length-take}
use Rattle.std.proofs.Math.Seq.{take-suc}
use Rattle.std.proofs.lemmas.Bool.{false≢true, cases_lt}
use Rattle.std.proofs.lemmas.Bool.Decides.{nat_tests}
use Rattle.std.proofs.lemmas.List.{drop_more, drop_all, set_past}
use Rattle.std.proofs.lemmas.List.Folds.{list_any-append}
use Rattle.std.proofs.lemmas.List.Sums.{sum_by_push}
use Rattle.std.proofs.lemmas.Option.{slice_get-get_or}
use Rattle.hg_model.specs.Changes.{first_column, null_cause, fit_cause, long_cause, row_length, value_length, with_sets}
use Rattle.hg_model.specs.Evaluation.{value_at, value_of}
use Rattle.hg_model.specs.NullLogic.{is_null}
use Rattle.hg_model.specs.Refusal.{Refusal, NullNotAllowed, DoesNotFit, RowTooLong}
use Rattle.hg_model.specs.Tables.{fits_columns, fits_integer, fits_type, is_allowed}
use Rattle.hg_model.specs.Value.{is_printable}
use Rattle.hg_model.specs.SelectMeaning.{is_aggregate, node_values}
use Rattle.hg_model.specs.declared.trees.Column.{Column}
use Rattle.hg_model.specs.declared.trees.Node.{Node}
use Rattle.hg_model.specs.declared.values.NodeValue.{NodeValue}
use Rattle.hg_model.specs.declared.values.Value.{Value}
use Rattle.hg_model.specs.declared.values.Value.TheVariants.{Null, Int, Text}
use Rattle.hg_value.specs.Coding.{IsHeld, HasRoom}
use Rattle.hg_value.specs.Laws.{ValuesAreAsLong, RowsAreAsLong}
use Rattle.hg_dml.specs.Making.{set_nodes, no_nodes, picked, row_picked, earlier, noted, breaks_null, breaks_type, noted_row, Notes, place_of, breaks_in, AreCauses, stand, made_by, IsChange}
use Rattle.hg_dml.specs.Rows.{rows_cause}
use Rattle.hg_dml.specs.Steps.{FirstIs}
use Rattle.hg_dml.specs.declared.making.Causes.{Causes}
use Rattle.hg_dml.specs.declared.making.Change.{Change}
use Rattle.hg_expr.specs.Over.{values_over}
use Rattle.hg_dml.proofs.FilterLaws.{same-values}
use Rattle.hg_dml.proofs.FirstCauses.{first-later, first-none}

-- ---- the row

and-right : (a b : Bool) → (a && b) ≡ true → b ≡ true
and-right true b h = h
and-right false b h = absurd (false≢true h)

-- a row that fits has as many values
pub fits-length : (columns : List Column) (row : List Value) → fits_columns columns row ≡ true → length row ≡ length columns
fits-length [] [] h = refl
fits-length [] (v ∷ row) h = absurd (false≢true h)
fits-length (c ∷ cs) [] h = absurd (false≢true h)
fits-length (c ∷ cs) (v ∷ row) h =
    ap suc (fits-length cs row (and-right (is_allowed c v) (fits_columns cs row) (and-right (fits_type c.ty v) (is_allowed c v && fits_columns cs row) h)))

pub length-picked : (values : List NodeValue) (ns : List (Option ℕ)) (row : List Value) → length ns ≡ length row → length (row_picked values ns row) ≡ length row
length-picked values [] row e = refl
length-picked values (n ∷ ns) [] e = refl
length-picked values (n ∷ ns) (v ∷ row) e = ap suc (length-picked values ns row (omega (arith, e)))

pub picked-at : (values : List NodeValue) (ns : List (Option ℕ)) (row : List Value) (k : ℕ) (n : Option ℕ) (v d : Value) → k < length row → length ns ≡ length row
    → n ≡ slice_index_or ns k n → v ≡ slice_index_or row k v → slice_index_or (row_picked values ns row) k d ≡ picked values n v
picked-at values [] row k n v d h e is at = absurd (omega (arith, e, h))
picked-at values (m ∷ ns) [] k n v d h e is at = absurd (omega (arith, h))
picked-at values (m ∷ ns) (x ∷ row) zero n v d h e is at = ap (λ o. picked values o x) (sym is) ∙ ap (picked values n) (sym at)
picked-at values (m ∷ ns) (x ∷ row) (suc k) n v d h e is at = picked-at values ns row k n v d (omega (arith, h)) (omega (arith, e)) is at

-- the value that is made at a place
pub value-here : (texts slots : List ℕ) (nodes : List Node) (ns : List (Option ℕ)) (row : List Value) (k : ℕ) (n : Option ℕ) (d : Value) → list_any is_aggregate nodes ≡ false
    → k < length row → length ns ≡ length row → ((v : Value) → slice_get row k ≡ Some v → d ≡ picked (values_over texts slots nodes row) (slice_index_or ns k n) v)
    → d ≡ slice_index_or (row_picked (node_values texts slots nodes row) ns row) k d
value-here texts slots nodes ns row k n d none h e known =
    let v : Value = slice_index_or row k Null in
    let m : Option ℕ = slice_index_or ns k n in
    known v (slice_get-get_or row k Null h) ∙ ap (λ vs. picked vs m v) (same-values texts slots nodes row none)
    ∙ sym (picked-at (node_values texts slots nodes row) ns row k m v d h e (get_or-same ns k n m (omega (arith, h, e))) (get_or-same row k Null v h))
  where
    get_or-same : {X : Type 0} (xs : List X) (i : ℕ) (a b : X) → i < length xs → slice_index_or xs i a ≡ slice_index_or xs i b
    get_or-same [] i a b h = absurd (omega (arith, h))
    get_or-same (x ∷ xs) zero a b h = refl
    get_or-same (x ∷ xs) (suc i) a b h = get_or-same xs i a b (omega (arith, h))

-- a row without its set columns, and one column more that is set
pub nothing-picked : (values : List NodeValue) (row : List Value) → row_picked values (no_nodes (length row)) row ≡ row
nothing-picked values [] = refl
nothing-picked values (v ∷ row) = ap (λ r. v ∷ r) (nothing-picked values row)

picked-set : (values : List NodeValue) (ns : List (Option ℕ)) (row : List Value) (t n : ℕ) → length ns ≡ length row
    → row_picked values (slice_set ns t (Some n)) row ≡ slice_set (row_picked values ns row) t (value_of values n)
picked-set values [] [] t n e = refl
picked-set values [] (v ∷ row) t n e = absurd (omega (arith, e))
picked-set values (m ∷ ns) [] t n e = absurd (omega (arith, e))
picked-set values (m ∷ ns) (v ∷ row) zero n e = refl
picked-set values (m ∷ ns) (v ∷ row) (suc t) n e = ap (λ r. picked values m v ∷ r) (picked-set values ns row t n (omega (arith, e)))

length-set : (ns : List (Option ℕ)) (t : ℕ) (n : Option ℕ) → length (slice_set ns t n) ≡ length ns
length-set [] t n = refl
length-set (m ∷ ns) zero n = refl
length-set (m ∷ ns) (suc t) n = ap suc (length-set ns t n)

sets-picked : (values : List NodeValue) (ts : List ℕ) (items : List (List ℕ × ℕ)) (ns : List (Option ℕ)) (row : List Value) → length ns ≡ length row
    → row_picked values (set_nodes ts items ns) row ≡ with_sets values ts items (row_picked values ns row)
sets-picked values [] items ns row e = refl
sets-picked values (t ∷ ts) [] ns row e = refl
sets-picked values (t ∷ ts) (x ∷ items) ns row e =
    sets-picked values ts items (slice_set ns t (Some x.1)) row (length-set ns t (Some x.1) ∙ e) ∙ ap (with_sets values ts items) (picked-set values ns row t x.1 e)

pub length-no_nodes : (n : ℕ) → length (no_nodes n) ≡ n
length-no_nodes zero = refl
length-no_nodes (suc n) = ap suc (length-no_nodes n)

pub length-set_nodes : (ts : List ℕ) (items : List (List ℕ × ℕ)) (ns : List (Option ℕ)) → length (set_nodes ts items ns) ≡ length ns
length-set_nodes [] items ns = refl
length-set_nodes (t ∷ ts) [] ns = refl
length-set_nodes (t ∷ ts) (x ∷ items) ns = length-set_nodes ts items (slice_set ns t (Some x.1)) ∙ length-set ns t (Some x.1)

-- the row that is made by the nodes of the columns is the one that SET gives
pub made-so : (values : List NodeValue) (ts : List ℕ) (items : List (List ℕ × ℕ)) (width : ℕ) (row : List Value) → length row ≡ width
    → row_picked values (set_nodes ts items (no_nodes width)) row ≡ with_sets values ts items row
made-so values ts items width row e =
    sets-picked values ts items (no_nodes width) row (length-no_nodes width ∙ sym e)
    ∙ ap (with_sets values ts items) (ap (λ n. row_picked values (no_nodes n) row) (sym e) ∙ nothing-picked values row)

pub no_nodes-more : (n : ℕ) → no_nodes n ++ None ∷ [] ≡ no_nodes (n + 1)
no_nodes-more zero = refl
no_nodes-more (suc n) = ap (λ l. None ∷ l) (no_nodes-more n) ∙ ap no_nodes (let e : suc (n + 1) ≡ suc n + 1 = omega arith in e)

pub set-behind : (ns : List (Option ℕ)) (t : ℕ) (n : Option ℕ) → length ns ≤ t → ns ≡ slice_set ns t n
set-behind ns t n h = sym (set_past ns t n h)

-- one item more
pub sets-step : (ts : List ℕ) (items : List (List ℕ × ℕ)) (k t : ℕ) (x : List ℕ × ℕ) (ns new : List (Option ℕ)) → k < length ts → k < length items
    → new ≡ slice_set ns (slice_index_or ts k t) (Some (slice_index_or items k x).1)
    → set_nodes (drop (k + 1) ts) (drop (k + 1) items) new ≡ set_nodes (drop k ts) (drop k items) ns
sets-step ts items k t x ns new h i is =
    ap (set_nodes (drop (k + 1) ts) (drop (k + 1) items)) is
    ∙ sym (ap (λ l. set_nodes l (drop k items) ns) (drop_more ts k t h)
    ∙ ap (λ l. set_nodes (slice_index_or ts k t ∷ drop (k + 1) ts) l ns) (drop_more items k x i))

pub sets-end : (ts : List ℕ) (items : List (List ℕ × ℕ)) (k : ℕ) (ns : List (Option ℕ)) → (length ts ≤ k) ⊎ (length items ≤ k) → set_nodes (drop k ts) (drop k items) ns ≡ ns
sets-end ts items k ns h = elim h [
  | inl e ↦ ap (λ l. set_nodes l (drop k items) ns) (drop_all k ts e)
  | inr e ↦ ap (λ l. set_nodes (drop k ts) l ns) (drop_all k items e) ∙ none (drop k ts) ns
]
  where
    none : (ts : List ℕ) (ns : List (Option ℕ)) → set_nodes ts [] ns ≡ ns
    none [] ns = refl
    none (t ∷ ts) ns = refl

pub either-done : (a b k n : ℕ) → n ≡ min a b → n ≤ k → (a ≤ k) ⊎ (b ≤ k)
either-done a b k n is h = elim (cases_lt a b) [
  | inl l ↦ inl (omega arith)
  | inr l ↦ inr (omega arith)
]

-- ---- a loop over the columns

pub noted-step : (test : Column → Value → Bool) (first : Option ℕ) (k : ℕ) (cs : List Column) (vs : List Value) (c : Column) (v : Value) → k < length cs → k < length vs
    → v ≡ slice_index_or vs k v
    → noted_row test (noted first k (test (slice_index_or cs k c) v)) (k + 1) (drop (k + 1) cs) (drop (k + 1) vs) ≡ noted_row test first k (drop k cs) (drop k vs)
noted-step test first k cs vs c v h i at =
    let next : k + 1 ≡ suc k = omega arith in
    let d : Column = slice_index_or cs k c in
    ap (λ j. noted_row test (noted first k (test d v)) j (drop (k + 1) cs) (drop (k + 1) vs)) next
    ∙ sym (ap (λ l. noted_row test first k l (drop k vs)) (drop_more cs k c h)
    ∙ ap (λ l. noted_row test first k (d ∷ drop (k + 1) cs) l) (drop_more vs k v i ∙ ap (λ y. y ∷ drop (k + 1) vs) (sym at)))

pub noted-end : (test : Column → Value → Bool) (first : Option ℕ) (k : ℕ) (cs : List Column) (vs : List Value) → length cs ≤ k → noted_row test first k (drop k cs) vs ≡ first
noted-end test first k cs vs h = ap (λ l. noted_row test first k l vs) (drop_all k cs h)

pub take-one : (vs : List Value) (k : ℕ) (v : Value) → k < length vs → v ≡ slice_index_or vs k v → take (k + 1) vs ≡ take k vs ++ v ∷ []
take-one vs k v h at =
    let next : k + 1 ≡ suc k = omega arith in
    ap (λ j. take j vs) next ∙ take-suc vs k v h ∙ ap (λ y. take k vs ++ y ∷ []) (sym at)

pub bytes-one : (vs : List Value) (k : ℕ) (v : Value) → k < length vs → v ≡ slice_index_or vs k v → row_length (take (k + 1) vs) ≡ row_length (take k vs) + value_length v
bytes-one vs k v h at = ap row_length (take-one vs k v h at) ∙ sum_by_push value_length (take k vs) v

text-short : (n : ℕ) → nat_le n 255 ≡ true → 2 + n ≤ 257
text-short n h = grind (arith, nat_tests)

pub held-short : (v : Value) → IsHeld v → value_length v ≤ 257
held-short Null h = omega arith
held-short (Int x) h = elim (fits_integer x) as (λ b. (if b then 5 else 17) ≤ 257) [ true ↦ omega arith | false ↦ omega arith ]
held-short (Text t) h = let short = and-right (list_all is_printable t) (nat_le (length t) 255) h in text-short (length t) short

-- there is room for a value of a row that is not too long
pub room-for : ValuesAreAsLong → RowsAreAsLong → (row : List Value) (v : Value) (bytes : ℕ) → length row < 64 → bytes ≡ row_length row + value_length v → bytes ≤ 1000 → HasRoom row v
room-for one all row v bytes few is h = record { place = few; bytes = omega (arith, one v, all row, is, h) }

pub room-so-far : ValuesAreAsLong → RowsAreAsLong → (made row : List Value) (v : Value) (k bytes n : ℕ) → k < 64 → bytes ≡ row_length (take k made) → n ≡ value_length v
    → (bytes ≤ 1000 → row ≡ take k made) → bytes + n ≤ 1000 → HasRoom row v
room-so-far one all made row v k bytes n few is here so h =
    subst (λ r. HasRoom r v) (sym (so (omega (arith, h))))
    (room-for one all (take k made) v (bytes + n) (omega (arith, length-take k made, few)) (omega (arith, is, here)) h)

pub row-so-far : (made row new : List Value) (v : Value) (k bytes n : ℕ) → k < length made → v ≡ slice_index_or made k v → (bytes ≤ 1000 → row ≡ take k made)
    → (bytes + n ≤ 1000 → new ≡ row ++ v ∷ []) → bytes + n ≤ 1000 → new ≡ take (k + 1) made
row-so-far made row new v k bytes n h at so pushed few = pushed few ∙ ap (λ r. r ++ v ∷ []) (so (omega (arith, few))) ∙ sym (take-one made k v h at)

pub bytes-so-far : (made : List Value) (v : Value) (k bytes n : ℕ) → k < length made → v ≡ slice_index_or made k v → bytes ≡ row_length (take k made) → n ≡ value_length v
    → bytes + n ≡ row_length (take (k + 1) made)
bytes-so-far made v k bytes n h at is here = omega (arith, is, here) ∙ sym (bytes-one made k v h at)

all-taken : (made : List Value) (k : ℕ) → length made ≤ k → take k made ≡ made
all-taken [] zero h = refl
all-taken [] (suc k) h = refl
all-taken (v ∷ made) zero h = absurd (omega (arith, h))
all-taken (v ∷ made) (suc k) h = ap (λ l. v ∷ l) (all-taken made k (omega (arith, h)))

pub bytes-done : (made : List Value) (k bytes : ℕ) → length made ≤ k → bytes ≡ row_length (take k made) → bytes ≡ row_length made
bytes-done made k bytes h is = is ∙ ap row_length (all-taken made k h)

or-none : (a b : Bool) → (a || b) ≡ false → b ≡ false
or-none true b h = absurd (false≢true (sym h))
or-none false b h = h

not-long : (n : ℕ) → nat_lt 1000 n ≡ false → n ≤ 1000
not-long n h = grind (arith, nat_tests)

pub row-done : (made row : List Value) (k bytes : ℕ) (long : Bool) → length made ≤ k → (bytes ≤ 1000 → row ≡ take k made) → (long || nat_lt 1000 bytes) ≡ false → row ≡ made
row-done made row k bytes long h so short = so (not-long bytes (or-none long (nat_lt 1000 bytes) short)) ∙ all-taken made k h

-- ---- the causes

after : (test : ℕ → Column → Bool) (k j : ℕ) (cs : List Column) → place_of test k cs ≡ Some j → k ≤ j
after test k j [] e = absurd (let n : ◌≡◌ {A = Option ℕ} None (Some j) = e in cc)
after test k j (c ∷ cs) e = parts (after test (suc k) j cs) (test k c) e
  where
    parts : (place_of test (suc k) cs ≡ Some j → suc k ≤ j) → (b : Bool) → (if b then Some k else place_of test (suc k) cs) ≡ Some j → k ≤ j
    parts rest true e = let same : k ≡ j = (let s : ◌≡◌ {A = Option ℕ} (Some k) (Some j) = e in cc) in omega (arith, same)
    parts rest false e = let next = rest e in omega arith

abbrev earliest : Option ℕ → Option ℕ → Option ℕ
earliest first None = first
earliest first (Some k) = earlier first k

no-less : (i j : ℕ) → j ≤ i → nat_lt i j ≡ false
no-less i j h = grind (arith, nat_tests)

less : (i j : ℕ) → i < j → nat_lt i j ≡ true
less i j h = grind (arith, nat_tests)

-- a later column changes nothing
earlier-stays : (first : Option ℕ) (k : ℕ) (more : Option ℕ) → ((j : ℕ) → more ≡ Some j → k < j) → earliest (earlier first k) more ≡ earlier first k
earlier-stays first k None h = refl
earlier-stays None k (Some j) h = ap (λ b. if b then Some k else Some j) (less k j (h j refl))
earlier-stays (Some i) k (Some j) h = parts (nat_lt i k) refl
  where
    parts : (b : Bool) → nat_lt i k ≡ b → earlier (if b then Some i else Some k) j ≡ (if b then Some i else Some k)
    parts true e = ap (λ b. if b then Some i else Some j) (less i j (let l = h j refl in grind (arith, nat_tests)))
    parts false e = ap (λ b. if b then Some k else Some j) (less k j (h j refl))

later-stays : (more : Option ℕ) (k : ℕ) → ((j : ℕ) → more ≡ Some j → k < j) → earlier more k ≡ Some k
later-stays None k h = refl
later-stays (Some j) k h = ap (λ b. if b then Some j else Some k) (no-less j k (let l = h j refl in omega arith))

noted-place : (test : Column → Value → Bool) (r : List Value) (first : Option ℕ) (k : ℕ) (cs : List Column) (vs : List Value) → ((i : ℕ) → value_at r (k + i) ≡ value_at vs i) → length vs ≡ length cs
    → noted_row test first k cs vs ≡ earliest first (place_of (λ j c. test c (value_at r j)) k cs)
noted-place test r first k [] vs at long = refl
noted-place test r first k (c ∷ cs) [] at long = absurd (omega (arith, long))
noted-place test r first k (c ∷ cs) (v ∷ vs) at long =
    let here : value_at r k ≡ v = ap (value_at r) (let e : k ≡ k + 0 = omega arith in e) ∙ at 0 in
    noted-place test r (noted first k (test c v)) (suc k) cs vs (λ i. ap (value_at r) (let e : suc k + i ≡ k + suc i = omega arith in e) ∙ at (suc i)) (omega (arith, long))
    ∙ parts (test c v) (sym (ap (test c) here))
  where
    u : ℕ → Column → Bool
    u j c = test c (value_at r j)

    parts : (b : Bool) → b ≡ test c (value_at r k) → earliest (noted first k b) (place_of u (suc k) cs) ≡ earliest first (place_of u k (c ∷ cs))
    parts false e = ap (λ b. earliest first (if b then Some k else place_of u (suc k) cs)) e
    parts true e = earlier-stays first k (place_of u (suc k) cs) (λ j is. let l = after u (suc k) j cs is in omega arith) ∙ ap (λ b. earliest first (if b then Some k else place_of u (suc k) cs)) e

earliest-or : (t u : ℕ → Column → Bool) (k : ℕ) (cs : List Column) → earliest (place_of t k cs) (place_of u k cs) ≡ place_of (λ j c. t j c || u j c) k cs
earliest-or t u k [] = refl
earliest-or t u k (c ∷ cs) = parts (earliest-or t u (suc k) cs) (t k c) (u k c)
  where
    parts : earliest (place_of t (suc k) cs) (place_of u (suc k) cs) ≡ place_of (λ j c. t j c || u j c) (suc k) cs → (a b : Bool) → earliest (if a then Some k else place_of t (suc k) cs) (if b then Some k else place_of u (suc k) cs) ≡ (if (a || b) then Some k else place_of (λ j c. t j c || u j c) (suc k) cs)
    parts rest true true = ap (λ b. if b then Some k else Some k) (no-less k k (omega arith))
    parts rest true false = earlier-stays None k (place_of u (suc k) cs) (λ j is. let l = after u (suc k) j cs is in omega arith)
    parts rest false true = later-stays (place_of t (suc k) cs) k (λ j is. let l = after t (suc k) j cs is in omega arith)
    parts rest false false = rest

place-same : (t u : ℕ → Column → Bool) (k : ℕ) (cs : List Column) → ((j : ℕ) (c : Column) → t j c ≡ u j c) → place_of t k cs ≡ place_of u k cs
place-same t u k [] e = refl
place-same t u k (c ∷ cs) e = ap (λ b. if b then Some k else place_of t (suc k) cs) (e k c) ∙ ap (λ o. if u k c then Some k else o) (place-same t u (suc k) cs e)

or-false : (a : Bool) → (a || false) ≡ a
or-false true = refl
or-false false = refl

any-more : {X : Type 0} (p : X → Bool) (xs : List X) (x : X) → (list_any p xs || p x) ≡ list_any p (xs ++ x ∷ [])
any-more p xs x = ap (λ b. list_any p xs || b) (sym (or-false (p x))) ∙ sym (list_any-append p xs (x ∷ []))

-- a row more
row-more : (test : Column → Value → Bool) (columns : List Column) (rows : List (List Value)) (row : List Value) (old : Option ℕ) → length row ≡ length columns
    → old ≡ place_of (breaks_in test rows) 0 columns → noted_row test old 0 columns row ≡ place_of (breaks_in test (rows ++ row ∷ [])) 0 columns
row-more test columns rows row old long is =
    noted-place test row old 0 columns row (λ i. ap (value_at row) (let e : 0 + i ≡ i = omega arith in e)) long
    ∙ ap (λ o. earliest o (place_of (λ j c. test c (value_at row j)) 0 columns)) is
    ∙ earliest-or (breaks_in test rows) (λ j c. test c (value_at row j)) 0 columns
    ∙ place-same (λ j c. breaks_in test rows j c || test c (value_at row j)) (breaks_in test (rows ++ row ∷ [])) 0 columns (λ j c. any-more (λ r. test c (value_at r j)) rows row)

pub causes-more : (columns : List Column) (rows : List (List Value)) (row : List Value) (old new : Causes) → length row ≡ length columns → AreCauses columns rows old → Notes columns row old new
    → AreCauses columns (rows ++ row ∷ []) new
causes-more columns rows row old new long are notes = record {
  null = notes.null ∙ row-more breaks_null columns rows row old.null long are.null;
  misfit = notes.misfit ∙ row-more breaks_type columns rows row old.misfit long are.misfit;
  long = notes.long ∙ ap (λ b. b || nat_lt 1000 (row_length row)) are.long ∙ any-more (λ r. nat_lt 1000 (row_length r)) rows row;
}

no-place : (columns : List Column) (k : ℕ) → place_of (λ j c. false) k columns ≡ None
no-place [] k = refl
no-place (c ∷ cs) k = no-place cs (suc k)

pub no-causes : (columns : List Column) → AreCauses columns [] (record { null = None; misfit = None; long = false })
no-causes columns = record { null = sym (no-place columns 0); misfit = sym (no-place columns 0); long = refl }

-- ---- the first of them

first-same : (t u : ℕ → Column → Bool) (cause : List ℕ → Refusal) (k : ℕ) (cs : List Column) → ((j : ℕ) (c : Column) → t j c ≡ u j c) → first_column t cause k cs ≡ first_column u cause k cs
first-same t u cause k [] e = refl
first-same t u cause k (c ∷ cs) e =
    ap (λ b. if b then Some (cause c.name) else first_column t cause (suc k) cs) (e k c) ∙ ap (λ o. if u k c then Some (cause c.name) else o) (first-same t u cause (suc k) cs e)

any-and : (a : Bool) (p : List Value → Bool) (rows : List (List Value)) → list_any (λ r. a && p r) rows ≡ (a && list_any p rows)
any-and true p rows = refl
any-and false p [] = refl
any-and false p (r ∷ rows) = any-and false p rows

first-none-at : (test : ℕ → Column → Bool) (cause : List ℕ → Refusal) (k : ℕ) (cs : List Column) → place_of test k cs ≡ None → first_column test cause k cs ≡ None
first-none-at test cause k [] e = refl
first-none-at test cause k (c ∷ cs) e = parts (first-none-at test cause (suc k) cs) (test k c) e
  where
    parts : (place_of test (suc k) cs ≡ None → first_column test cause (suc k) cs ≡ None) → (b : Bool) → (if b then Some k else place_of test (suc k) cs) ≡ None → (if b then Some (cause c.name) else first_column test cause (suc k) cs) ≡ None
    parts rest true e = absurd (let n : ◌≡◌ {A = Option ℕ} (Some k) None = e in cc)
    parts rest false e = rest e

record FoundAt (test : ℕ → Column → Bool) (cause : List ℕ → Refusal) (k j : ℕ) (cs : List Column) : Type 0 where
  i : ℕ
  is : j ≡ k + i
  c : Column
  at : slice_get cs i ≡ Some c
  first : first_column test cause k cs ≡ Some (cause c.name)

first-some-at : (test : ℕ → Column → Bool) (cause : List ℕ → Refusal) (k j : ℕ) (cs : List Column) → place_of test k cs ≡ Some j → FoundAt test cause k j cs
first-some-at test cause k j [] e = absurd (let n : ◌≡◌ {A = Option ℕ} None (Some j) = e in cc)
first-some-at test cause k j (c ∷ cs) e = parts (first-some-at test cause (suc k) j cs) (test k c) refl e
  where
    parts : (place_of test (suc k) cs ≡ Some j → FoundAt test cause (suc k) j cs) → (b : Bool) → test k c ≡ b → (if b then Some k else place_of test (suc k) cs) ≡ Some j → FoundAt test cause k j (c ∷ cs)
    parts rest true t e =
        let same : k ≡ j = (let s : ◌≡◌ {A = Option ℕ} (Some k) (Some j) = e in cc) in
        record { i = 0; is = omega (arith, same); c = c; at = refl; first = ap (λ b. if b then Some (cause c.name) else first_column test cause (suc k) cs) t }
    parts rest false t e =
        let f = rest e in
        let is = f.is in
        record { i = suc f.i; is = omega arith; c = f.c; at = f.at; first = ap (λ b. if b then Some (cause c.name) else first_column test cause (suc k) cs) t ∙ f.first }

module _ (columns : List Column) (rows : List (List Value)) (causes : Causes) (are : AreCauses columns rows causes) where
  null-is : first_column (breaks_in breaks_null rows) NullNotAllowed 0 columns ≡ null_cause columns rows
  null-is = first-same (breaks_in breaks_null rows) (λ k c. c.not_null && list_any (λ row. is_null (value_at row k)) rows) NullNotAllowed 0 columns
      (λ k c. any-and c.not_null (λ row. is_null (value_at row k)) rows)

  pub no-null : causes.null ≡ None → null_cause columns rows ≡ None
  no-null e = sym null-is ∙ first-none-at (breaks_in breaks_null rows) NullNotAllowed 0 columns (sym are.null ∙ e)

  pub no-misfit : causes.misfit ≡ None → fit_cause columns rows ≡ None
  no-misfit e = first-none-at (breaks_in breaks_type rows) DoesNotFit 0 columns (sym are.misfit ∙ e)

  pub no-long : causes.long ≡ false → long_cause rows ≡ None
  no-long e = ap (λ b. if b then Some RowTooLong else None) (sym are.long ∙ e)

  pub null-first : (k : ℕ) → causes.null ≡ Some k → FirstIs columns NullNotAllowed (null_cause columns rows) (Some k)
  null-first k e =
      let f = first-some-at (breaks_in breaks_null rows) NullNotAllowed 0 k columns (sym are.null ∙ e) in
      (f.c, ap (slice_get columns) (let is = f.is in let s : k ≡ f.i = omega arith in s) ∙ f.at, sym null-is ∙ f.first)

  pub misfit-first : (k : ℕ) → causes.misfit ≡ Some k → FirstIs columns DoesNotFit (fit_cause columns rows) (Some k)
  misfit-first k e =
      let f = first-some-at (breaks_in breaks_type rows) DoesNotFit 0 k columns (sym are.misfit ∙ e) in
      (f.c, ap (slice_get columns) (let is = f.is in let s : k ≡ f.i = omega arith in s) ∙ f.at, f.first)

  pub long-first : causes.long ≡ true → long_cause rows ≡ Some RowTooLong
  long-first e = ap (λ b. if b then Some RowTooLong else None) (sym are.long ∙ e)

  pub no-cause : causes.null ≡ None → causes.misfit ≡ None → causes.long ≡ false → rows_cause columns rows ≡ None
  no-cause null misfit long =
      first-later _ _ (no-null null) ∙ first-later _ _ (no-misfit misfit) ∙ first-later _ _ (no-long long) ∙ first-none

-- ---- nothing stands

or-first : (a b : Bool) → (a || b) ≡ false → a ≡ false
or-first true b h = h
or-first false b h = refl

pub none-stands : (causes : Causes) → stand causes ≡ false → (causes.null ≡ None) × (causes.misfit ≡ None) × (causes.long ≡ false)
none-stands causes h =
    let more : (is_some causes.misfit || causes.long) ≡ false = or-none (is_some causes.null) (is_some causes.misfit || causes.long) h in (
      is-none causes.null (or-first (is_some causes.null) (is_some causes.misfit || causes.long) h),
      is-none causes.misfit (or-first (is_some causes.misfit) causes.long more),
      or-none (is_some causes.misfit) causes.long more,
    )
  where
    is-none : (o : Option ℕ) → is_some o ≡ false → o ≡ None
    is-none None h = refl
    is-none (Some k) h = absurd (false≢true (sym h))

-- nor did it before
noted-none : (test : Column → Value → Bool) (first : Option ℕ) (k : ℕ) (cs : List Column) (vs : List Value) → noted_row test first k cs vs ≡ None → first ≡ None
noted-none test first k [] vs h = h
noted-none test first k (c ∷ cs) [] h = h
noted-none test first k (c ∷ cs) (v ∷ vs) h = one first k (test c v) (noted-none test (noted first k (test c v)) (suc k) cs vs h)
  where
    some : (b : Bool) (i j : ℕ) → (if b then Some i else Some j) ≡ None → ⊥
    some true i j h = absurd (let n : ◌≡◌ {A = Option ℕ} (Some i) None = h in cc)
    some false i j h = absurd (let n : ◌≡◌ {A = Option ℕ} (Some j) None = h in cc)

    one : (first : Option ℕ) (k : ℕ) (b : Bool) → noted first k b ≡ None → first ≡ None
    one first k false h = h
    one None k true h = refl
    one (Some j) k true h = absurd (some (nat_lt j k) j k h)

pub none-stood : (columns : List Column) (row : List Value) (old new : Causes) → Notes columns row old new → stand new ≡ false → stand old ≡ false
none-stood columns row old new notes h =
    let none = none-stands new h in
    let null : old.null ≡ None = noted-none breaks_null old.null 0 columns row (sym notes.null ∙ none.0) in
    let misfit : old.misfit ≡ None = noted-none breaks_type old.misfit 0 columns row (sym notes.misfit ∙ none.1) in
    let long : old.long ≡ false = or-first old.long (nat_lt 1000 (row_length row)) (sym notes.long ∙ none.2) in
    ap (λ o. is_some o || (is_some old.misfit || old.long)) null ∙ ap (λ o. is_some o || old.long) misfit ∙ long

-- a row that is made has as many values as the one that it is made of
pub made-length : (change : Change) (row : List Value) → IsChange change → length row ≡ length change.columns.now → length (made_by change row) ≡ length change.columns.now
made-length change row is e =
    length-picked (node_values change.filter.texts.now change.filter.columns.now change.filter.nodes.now row) change.nodes.now row (is.as_long ∙ sym e) ∙ e

pub made-some : (change : Change) (row made : List Value) → IsChange change → 1 ≤ length change.columns.now → fits_columns change.columns.now row ≡ true → made ≡ made_by change row → 1 ≤ length made
made-some change row made is some fits e = omega (arith, ap length e, made-length change row is (fits-length change.columns.now row fits), some)

pub nothing-stands : (causes : Causes) → causes.null ≡ None → causes.misfit ≡ None → causes.long ≡ false → stand causes ≡ false
nothing-stands causes null misfit long =
    ap (λ o. is_some o || (is_some causes.misfit || causes.long)) null ∙ ap (λ o. is_some o || causes.long) misfit ∙ long
