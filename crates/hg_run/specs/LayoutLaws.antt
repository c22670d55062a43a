-- Laws of the layout of a run, for the layers above.
use Rattle.std.specs.Prelude.{◌≡◌, ℕ, ◌+◌, ◌-◌, ◌≤◌, Bool, true, false, nat_le, List, [], ◌∷◌, ◌++◌, length, map, if◌then◌else◌}
use Rattle.std.specs.List.{AllByRecursion}
use Rattle.std.proofs.Common.{sym, ◌∙◌, ap, refl, arith, append_assoc, length-append, inl, inr}
use Rattle.std.proofs.lemmas.Bool.{cases_Bool}
use Rattle.std.proofs.lemmas.Bool.Decides.{nat_tests}
use Rattle.hg_run.specs.Layout.{used, fits, with_record, layout_behind, layout, pages_more, pages_for}
use Rattle.hg_run.specs.Runs.{records_of}

-- a record more
pub layout-one : (rs : List (List ℕ)) (r : List ℕ) → layout (rs ++ r ∷ []) ≡ with_record (layout rs) r
layout-one rs r = behind [] rs
  where
    behind : (held : List (List (List ℕ))) (rs : List (List ℕ)) → layout_behind held (rs ++ r ∷ []) ≡ with_record (layout_behind held rs) r
    behind held [] = refl
    behind held (x ∷ rs) = behind (with_record held x) rs

-- how many bytes are free on the last page
abbrev pub free_on : List (List (List ℕ)) → ℕ
free_on [] = 0
free_on (page ∷ []) = 4080 - used page
free_on (page ∷ next ∷ pages) = free_on (next ∷ pages)

pub used-one : (page : List (List ℕ)) (r : List ℕ) → used (page ++ r ∷ []) ≡ used page + (2 + length r)
used-one [] r = omega arith
used-one (x ∷ page) r = omega (arith, used-one page r)

fits_free : (u n : ℕ) → nat_le (u + (2 + n)) 4080 ≡ nat_le (2 + n) (4080 - u)
fits_free u n = grind (arith, nat_tests)

-- What one record more does to the number of pages and to the free bytes.
pub record Grows (held now : List (List (List ℕ))) (n : ℕ) : Type 0 where
  pub here : nat_le (2 + n) (free_on held) ≡ true → (length now ≡ length held) × (free_on now ≡ free_on held - (2 + n))
  pub behind : nat_le (2 + n) (free_on held) ≡ false → (length now ≡ length held + 1) × (free_on now ≡ 4080 - (2 + n))

le_yes : (m n : ℕ) → nat_le m n ≡ true → m ≤ n
le_yes m n h = grind (arith, nat_tests)

if_yes : {X : Type 0} (b : Bool) (x y : X) → b ≡ true → (if b then x else y) ≡ x
if_yes b x y e = ap (λ t. if t then x else y) e

if_no : {X : Type 0} (b : Bool) (x y : X) → b ≡ false → (if b then x else y) ≡ y
if_no b x y e = ap (λ t. if t then x else y) e

-- a page before the last one counts nothing
free_on-more : (page : List (List ℕ)) (held : List (List (List ℕ))) (r : List ℕ) → free_on (page ∷ with_record held r) ≡ free_on (with_record held r)
free_on-more page [] r = refl
free_on-more page (q ∷ []) r =
    elim (fits q r) as (λ b. free_on (page ∷ (if b then (q ++ r ∷ []) ∷ [] else q ∷ (r ∷ []) ∷ [])) ≡ free_on (if b then (q ++ r ∷ []) ∷ [] else q ∷ (r ∷ []) ∷ [])) [
      | true ↦ refl
      | false ↦ refl
    ]
free_on-more page (q ∷ s ∷ held) r = refl

pub grows : (held : List (List (List ℕ))) (r : List ℕ) → Grows held (with_record held r) (length r)
grows [] r = record {
  here = λ h. absurd (let l = le_yes (2 + length r) 0 h in omega arith);
  behind = λ h. (refl, (omega arith));
}
grows (page ∷ []) r =
    let same : fits page r ≡ nat_le (2 + length r) (4080 - used page) = fits_free (used page) (length r) in
    record {
      here = λ h.
          let e : with_record (page ∷ []) r ≡ (page ++ r ∷ []) ∷ [] = if_yes (fits page r) ((page ++ r ∷ []) ∷ []) (page ∷ (r ∷ []) ∷ []) (same ∙ h) in
          (ap length e, ap free_on e ∙ (let u = used-one page r in omega arith));
      behind = λ h.
          let e : with_record (page ∷ []) r ≡ page ∷ (r ∷ []) ∷ [] = if_no (fits page r) ((page ++ r ∷ []) ∷ []) (page ∷ (r ∷ []) ∷ []) (same ∙ h) in
          (ap length e, ap free_on e ∙ omega arith);
    }
grows (page ∷ next ∷ held) r =
    let g = grows (next ∷ held) r in
    let more = free_on-more page (next ∷ held) r in
    record {
      here = λ h. let k = g.here h in ((let a = k.0 in omega arith), more ∙ k.1);
      behind = λ h. let k = g.behind h in ((let a = k.0 in omega arith), more ∙ k.1);
    }

counts_behind : (held : List (List (List ℕ))) (rs : List (List ℕ)) → length (layout_behind held rs) ≡ length held + pages_more (free_on held) (map length rs)
counts_behind held [] = omega arith
counts_behind held (r ∷ rs) =
    let n : ℕ = length r in
    let g = grows held r in
    let now : List (List (List ℕ)) = with_record held r in
    let rest = counts_behind now rs in
    let a : ℕ = pages_more (free_on held - (2 + n)) (map length rs) in
    let b : ℕ = 1 + pages_more (4080 - (2 + n)) (map length rs) in
    elim (cases_Bool (nat_le (2 + n) (free_on held))) [
      | inl h ↦
          let k = g.here h in
          let l = k.0 in
          let e = if_yes (nat_le (2 + n) (free_on held)) a b h in
          let f = ap (λ m. pages_more m (map length rs)) k.1 in
          omega arith
      | inr h ↦
          let k = g.behind h in
          let l = k.0 in
          let e = if_no (nat_le (2 + n) (free_on held)) a b h in
          let f = ap (λ m. pages_more m (map length rs)) k.1 in
          omega arith
    ]

-- the pages of a layout are as many as the lengths of the records say
pub layout-count : (rs : List (List ℕ)) → length (layout rs) ≡ pages_for (map length rs)
layout-count rs = let c = counts_behind [] rs in omega arith

pub records-one : (held : List (List (List ℕ))) (r : List ℕ) → records_of (with_record held r) ≡ records_of held ++ r ∷ []
records-one [] r = refl
records-one (page ∷ []) r =
    elim (fits page r) as (λ b. records_of (if b then (page ++ r ∷ []) ∷ [] else page ∷ (r ∷ []) ∷ []) ≡ (page ++ []) ++ r ∷ []) [
      | true ↦ none (page ++ r ∷ []) ∙ ap (λ p. p ++ r ∷ []) (sym (none page))
      | false ↦ ap (λ p. p ++ r ∷ []) (sym (none page))
    ]
  where
    none : (x : List (List ℕ)) → x ++ [] ≡ x
    none [] = refl
    none (y ∷ x) = ap (λ l. y ∷ l) (none x)
records-one (page ∷ next ∷ held) r =
    ap (λ l. page ++ l) (records-one (next ∷ held) r) ∙ sym (append_assoc page (records_of (next ∷ held)) (r ∷ []))

records_behind : (held : List (List (List ℕ))) (rs : List (List ℕ)) → records_of (layout_behind held rs) ≡ records_of held ++ rs
records_behind held [] = sym (none (records_of held))
  where
    none : (x : List (List ℕ)) → x ++ [] ≡ x
    none [] = refl
    none (y ∷ x) = ap (λ l. y ∷ l) (none x)
records_behind held (r ∷ rs) =
    records_behind (with_record held r) rs ∙ ap (λ l. l ++ rs) (records-one held r) ∙ append_assoc (records_of held) (r ∷ []) rs

-- the pages of a layout hold the records, in order
pub layout-records : (rs : List (List ℕ)) → records_of (layout rs) ≡ rs
layout-records rs = records_behind [] rs

-- each page of a layout has a record
abbrev pub AllSome : List (List (List ℕ)) → Type 0
AllSome held = AllByRecursion (λ page. 1 ≤ length page) held

with_some : (held : List (List (List ℕ))) (r : List ℕ) → AllSome held → AllSome (with_record held r)
with_some [] r h = (omega arith, tt)
with_some (page ∷ []) r h =
    elim (fits page r) as (λ b. AllSome (if b then (page ++ r ∷ []) ∷ [] else page ∷ (r ∷ []) ∷ [])) [
      | true ↦ (let l = length-append page (r ∷ []) in omega arith, tt)
      | false ↦ (h.0, (omega arith, tt))
    ]
with_some (page ∷ next ∷ held) r h = (h.0, with_some (next ∷ held) r h.1)

some_behind : (held : List (List (List ℕ))) (rs : List (List ℕ)) → AllSome held → AllSome (layout_behind held rs)
some_behind held [] h = h
some_behind held (r ∷ rs) h = some_behind (with_record held r) rs (with_some held r h)

pub layout-some : (rs : List (List ℕ)) → AllSome (layout rs)
layout-some rs = some_behind [] rs tt
