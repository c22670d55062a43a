-- Laws of the versions of slots and pages as lists.
use Rattle.std.specs.Prelude.{◌≡◌, ◌≢◌, ℕ, ◌+◌, ◌<◌, ◌≤◌, ◌==◌, ◌&&◌, ◌||◌, nat_lt, zero, suc, Bool, true, false, List, [], ◌∷◌, ◌++◌, Option, Some, None, if◌then◌else◌}
use Rattle.std.specs.List.{filter, AllByRecursion}
use Rattle.std.proofs.Common.{sym, ◌∙◌, ap, refl, arith, inl, inr}
use Rattle.std.proofs.lemmas.Bool.{cases_eq, eq-eqb, ne_eqb, lt-ltb, le-ltb}
use Rattle.hg_base.specs.declared.Place.{Place}
use Rattle.hg_base.specs.LineLaws.{behind_all, has_cases}
use Rattle.hg_base.specs.Lines.{AreApart, has_page, pages_behind}
use Rattle.hg_table.specs.Versions.{Placed, RowVersion, in_slot, in_slots, in_pages, most_slots}
use Rattle.hg_table.specs.Places.{is_at, version_at, comes_behind, first_place}

-- the first of two answers that there is
abbrev pub or_else : Option RowVersion → Option RowVersion → Option RowVersion
or_else None o = o
or_else (Some v) o = Some v

pub version_at-append : (xs ys : List Placed) (p : Place) → version_at (xs ++ ys) p ≡ or_else (version_at xs p) (version_at ys p)
version_at-append [] ys p = refl
version_at-append (v ∷ xs) ys p =
    elim (is_at p v) as (λ b. (if b then Some v.version else version_at (xs ++ ys) p) ≡ or_else (if b then Some v.version else version_at xs p) (version_at ys p)) [
      | true ↦ refl
      | false ↦ version_at-append xs ys p
    ]

-- a slot shows its own place alone
pub one_slot : (x k : ℕ) (o : Option RowVersion) (p : Place) → version_at (in_slot x k o) p ≡ (if (x == p.page && k == p.slot) then o else None)
one_slot x k None p = elim (x == p.page && k == p.slot) as (λ b. ◌≡◌ {A = Option RowVersion} None (if b then None else None)) [ true ↦ refl | false ↦ refl ]
one_slot x k (Some v) p = refl

slot_step : (x : ℕ) (held : ℕ → Option RowVersion) (k n : ℕ) (p : Place) (b : Bool) → (x == p.page && k == p.slot) ≡ b
    → version_at (in_slots x held k (suc n)) p ≡ or_else (if b then held k else None) (version_at (in_slots x held (suc k) n) p)
slot_step x held k n p b e =
    version_at-append (in_slot x k (held k)) (in_slots x held (suc k) n) p
    ∙ ap (λ o. or_else o (version_at (in_slots x held (suc k) n) p)) (one_slot x k (held k) p ∙ ap (λ t. if t then held k else None) e)

and_no_left : (a b : Bool) → a ≡ false → (a && b) ≡ false
and_no_left a b e = ap (λ t. t && b) e

and_no_right : (a b : Bool) → b ≡ false → (a && b) ≡ false
and_no_right true b e = e
and_no_right false b e = refl

and_yes : (a b : Bool) → a ≡ true → b ≡ true → (a && b) ≡ true
and_yes a b e f = ap (λ t. t && b) e ∙ f

or_else-none : (o : Option RowVersion) → or_else o None ≡ o
or_else-none None = refl
or_else-none (Some v) = refl

-- no version of another page, and none of an earlier slot
pub slots_other : (x : ℕ) (held : ℕ → Option RowVersion) (k n : ℕ) (p : Place) → x ≢ p.page → version_at (in_slots x held k n) p ≡ None
slots_other x held k zero p h = refl
slots_other x held k (suc n) p h =
    slot_step x held k n p false (and_no_left (x == p.page) (k == p.slot) (ne_eqb x p.page h)) ∙ slots_other x held (suc k) n p h

pub slots_above : (x : ℕ) (held : ℕ → Option RowVersion) (k n : ℕ) (p : Place) → p.slot < k → version_at (in_slots x held k n) p ≡ None
slots_above x held k zero p h = refl
slots_above x held k (suc n) p h =
    slot_step x held k n p false (and_no_right (x == p.page) (k == p.slot) (ne_eqb k p.slot (λ e. absurd (omega arith))))
    ∙ slots_above x held (suc k) n p (omega arith)

-- the version of a slot among them
pub slots_here : (x : ℕ) (held : ℕ → Option RowVersion) (k n : ℕ) (p : Place) → x ≡ p.page → k ≤ p.slot → p.slot < k + n
    → version_at (in_slots x held k n) p ≡ held p.slot
slots_here x held k zero p e l h = absurd (omega arith)
slots_here x held k (suc n) p e l h = elim (cases_eq k p.slot) [
  | inl i ↦ slot_step x held k n p true (and_yes (x == p.page) (k == p.slot) (eq-eqb x p.page e) (eq-eqb k p.slot i))
      ∙ ap (or_else (held k)) (slots_above x held (suc k) n p (omega arith)) ∙ or_else-none (held k) ∙ ap held i
  | inr d ↦ slot_step x held k n p false (and_no_right (x == p.page) (k == p.slot) (ne_eqb k p.slot d))
      ∙ slots_here x held (suc k) n p e (omega arith) (omega arith)
]

pub slots_below : (x : ℕ) (held : ℕ → Option RowVersion) (k n : ℕ) (p : Place) → k + n ≤ p.slot → version_at (in_slots x held k n) p ≡ None
slots_below x held k zero p h = refl
slots_below x held k (suc n) p h =
    slot_step x held k n p false (and_no_right (x == p.page) (k == p.slot) (ne_eqb k p.slot (λ e. absurd (omega arith))))
    ∙ slots_below x held (suc k) n p (omega arith)

-- no version of another page
pub pages_other : (held : ℕ → ℕ → Option RowVersion) (xs : List ℕ) (p : Place) → AllByRecursion (λ y. y ≢ p.page) xs → version_at (in_pages held xs) p ≡ None
pages_other held [] p h = refl
pages_other held (x ∷ xs) p h =
    version_at-append (in_slots x (held x) 0 most_slots) (in_pages held xs) p
    ∙ ap (λ o. or_else o (version_at (in_pages held xs) p)) (slots_other x (held x) 0 most_slots p h.0)
    ∙ pages_other held xs p h.1

pub apart_under : (x y : ℕ) (xs : List ℕ) → x ≡ y → AllByRecursion (λ z. z ≢ x) xs → AllByRecursion (λ z. z ≢ y) xs
apart_under x y [] e h = tt
apart_under x y (z ∷ xs) e h = (λ q. h.0 (q ∙ sym e), apart_under x y xs e h.1)

-- the version of a place on one of the pages
pub pages_here : (held : ℕ → ℕ → Option RowVersion) (xs : List ℕ) (p : Place) → AreApart xs → has_page xs p.page ≡ true → p.slot < most_slots
    → version_at (in_pages held xs) p ≡ held p.page p.slot
pages_here held [] p d h l = absurd (let e : ◌≡◌ {A = Bool} false true = h in cc)
pages_here held (x ∷ xs) p d h l =
    version_at-append (in_slots x (held x) 0 most_slots) (in_pages held xs) p
    ∙ has_cases x p.page xs (or_else (version_at (in_slots x (held x) 0 most_slots) p) (version_at (in_pages held xs) p) ≡ held p.page p.slot) h
    (λ e. ap (or_else (version_at (in_slots x (held x) 0 most_slots) p)) (pages_other held xs p (apart_under x p.page xs e d.0))
    ∙ or_else-none (version_at (in_slots x (held x) 0 most_slots) p)
    ∙ slots_here x (held x) 0 most_slots p e (omega arith) (omega arith)
    ∙ ap (λ y. held y p.slot) e)
    (λ n m. ap (λ o. or_else o (version_at (in_pages held xs) p)) (slots_other x (held x) 0 most_slots p n) ∙ pages_here held xs p d.1 m l)

-- One slot shows what the other does: the lists are the same.
pub slots_agree : (x : ℕ) (f g : ℕ → Option RowVersion) (k n : ℕ) → ((i : ℕ) → k ≤ i → i < k + n → f i ≡ g i) → in_slots x f k n ≡ in_slots x g k n
slots_agree x f g k zero h = refl
slots_agree x f g k (suc n) h =
    ap (λ o. in_slot x k o ++ in_slots x f (suc k) n) (h k (omega arith) (omega arith))
    ∙ ap (λ r. in_slot x k (g k) ++ r) (slots_agree x f g (suc k) n (λ i l m. h i (omega arith) (omega arith)))

pub pages_agree : (f g : ℕ → ℕ → Option RowVersion) (xs : List ℕ) → AllByRecursion (λ x. (i : ℕ) → f x i ≡ g x i) xs → in_pages f xs ≡ in_pages g xs
pages_agree f g [] h = refl
pages_agree f g (x ∷ xs) h =
    ap (λ r. r ++ in_pages f xs) (slots_agree x (f x) (g x) 0 most_slots (λ i l m. h.0 i))
    ∙ ap (λ r. in_slots x (g x) 0 most_slots ++ r) (pages_agree f g xs h.1)

-- slots that are all empty
pub slots_none : (x : ℕ) (f : ℕ → Option RowVersion) (k n : ℕ) → ((i : ℕ) → k ≤ i → f i ≡ None) → in_slots x f k n ≡ []
slots_none x f k zero h = refl
slots_none x f k (suc n) h =
    ap (λ o. in_slot x k o ++ in_slots x f (suc k) n) (h k (omega arith)) ∙ slots_none x f (suc k) n (λ i l. h i (omega arith))

-- the version at a slot
abbrev pub put : ℕ → ℕ → RowVersion → Placed
put x k v = record { place = record { page = x; slot = k }; version = v }

-- the first slot that is not empty is the first version
pub first_slot : (x : ℕ) (f : ℕ → Option RowVersion) (k n j : ℕ) (v : RowVersion) (rest : List Placed) → k ≤ j → j < k + n → f j ≡ Some v
    → ((i : ℕ) → k ≤ i → i < j → f i ≡ None) → first_place (in_slots x f k n ++ rest) ≡ Some (record { page = x; slot = j })
first_slot x f k zero j v rest l h e none = absurd (omega arith)
first_slot x f k (suc n) j v rest l h e none = elim (cases_eq k j) [
  | inl i ↦ ap (λ o. first_place ((in_slot x k o ++ in_slots x f (suc k) n) ++ rest)) (ap f i ∙ e) ∙ ap (λ y. Some (record { page = x; slot = y })) i
  | inr d ↦ ap (λ o. first_place ((in_slot x k o ++ in_slots x f (suc k) n) ++ rest)) (none k (omega arith) (omega arith))
      ∙ first_slot x f (suc k) n j v rest (omega arith) (omega arith) e (λ i p q. none i (omega arith) q)
]

-- what a test keeps of two lists, one behind the other
pub filter_both : (t : Placed → Bool) (xs ys : List Placed) → filter t (xs ++ ys) ≡ filter t xs ++ filter t ys
filter_both t [] ys = refl
filter_both t (v ∷ xs) ys =
    elim (t v) as (λ b. (if b then v ∷ filter t (xs ++ ys) else filter t (xs ++ ys)) ≡ (if b then v ∷ filter t xs else filter t xs) ++ filter t ys) [
      | true ↦ ap (λ r. v ∷ r) (filter_both t xs ys)
      | false ↦ filter_both t xs ys
    ]

one_dropped : (t : Placed → Bool) (x k : ℕ) (o : Option RowVersion) → ((v : RowVersion) → t (put x k v) ≡ false) → filter t (in_slot x k o) ≡ []
one_dropped t x k None h = refl
one_dropped t x k (Some v) h = ap (λ b. if b then put x k v ∷ [] else []) (h v)

one_kept : (t : Placed → Bool) (x k : ℕ) (o : Option RowVersion) → ((v : RowVersion) → t (put x k v) ≡ true) → filter t (in_slot x k o) ≡ in_slot x k o
one_kept t x k None h = refl
one_kept t x k (Some v) h = ap (λ b. if b then put x k v ∷ [] else []) (h v)

pub slots_dropped : (t : Placed → Bool) (x : ℕ) (f : ℕ → Option RowVersion) (k n : ℕ) → ((i : ℕ) (v : RowVersion) → i < k + n → t (put x i v) ≡ false)
    → filter t (in_slots x f k n) ≡ []
slots_dropped t x f k zero h = refl
slots_dropped t x f k (suc n) h =
    filter_both t (in_slot x k (f k)) (in_slots x f (suc k) n)
    ∙ ap (λ r. r ++ filter t (in_slots x f (suc k) n)) (one_dropped t x k (f k) (λ v. h k v (omega arith)))
    ∙ slots_dropped t x f (suc k) n (λ i v l. h i v (omega arith))

pub slots_kept : (t : Placed → Bool) (x : ℕ) (f : ℕ → Option RowVersion) (k n : ℕ) → ((i : ℕ) (v : RowVersion) → k ≤ i → t (put x i v) ≡ true)
    → filter t (in_slots x f k n) ≡ in_slots x f k n
slots_kept t x f k zero h = refl
slots_kept t x f k (suc n) h =
    filter_both t (in_slot x k (f k)) (in_slots x f (suc k) n)
    ∙ ap (λ r. r ++ filter t (in_slots x f (suc k) n)) (one_kept t x k (f k) (λ v. h k v (omega arith)))
    ∙ ap (λ r. in_slot x k (f k) ++ r) (slots_kept t x f (suc k) n (λ i v l. h i v (omega arith)))

-- of slots of which the first m are dropped, the others are left
pub slots_from : (t : Placed → Bool) (x : ℕ) (f : ℕ → Option RowVersion) (k m n : ℕ) → ((i : ℕ) (v : RowVersion) → i < k + m → t (put x i v) ≡ false)
    → ((i : ℕ) (v : RowVersion) → k + m ≤ i → t (put x i v) ≡ true) → filter t (in_slots x f k (m + n)) ≡ in_slots x f (k + m) n
slots_from t x f k zero n low high =
    ap (λ j. filter t (in_slots x f k j)) (let e : zero + n ≡ n = omega arith in e)
    ∙ slots_kept t x f k n (λ i v l. high i v (omega arith))
    ∙ ap (λ j. in_slots x f j n) (let e : k ≡ k + zero = omega arith in e)
slots_from t x f k (suc m) n low high =
    ap (λ j. filter t (in_slots x f k j)) (let e : suc m + n ≡ suc (m + n) = omega arith in e)
    ∙ filter_both t (in_slot x k (f k)) (in_slots x f (suc k) (m + n))
    ∙ ap (λ r. r ++ filter t (in_slots x f (suc k) (m + n))) (one_dropped t x k (f k) (λ v. low k v (omega arith)))
    ∙ slots_from t x f (suc k) m n (λ i v l. low i v (omega arith)) (λ i v l. high i v (omega arith))
    ∙ ap (λ j. in_slots x f j n) (let e : suc k + m ≡ k + suc m = omega arith in e)

-- tests of places: of another page, and of the page itself
pub behind_other : (later : List ℕ) (p : Place) (x k : ℕ) (v : RowVersion) → x ≢ p.page → comes_behind later p (put x k v) ≡ has_page later x
behind_other later p x k v h = ap (λ b. if b then nat_lt p.slot k else has_page later x) (ne_eqb x p.page h)

pub behind_same : (later : List ℕ) (p : Place) (x k : ℕ) (v : RowVersion) → x ≡ p.page → comes_behind later p (put x k v) ≡ nat_lt p.slot k
behind_same later p x k v h = ap (λ b. if b then nat_lt p.slot k else has_page later x) (eq-eqb x p.page h)

-- the slots of a page behind a place
unfoldable pub slots_after : (ℕ → ℕ → Option RowVersion) → Place → List Placed
slots_after held p = filter (comes_behind [] p) (in_slots p.page (held p.page) 0 most_slots)

same_test : (t u : Placed → Bool) (x : ℕ) (f : ℕ → Option RowVersion) (k n : ℕ) → ((i : ℕ) (v : RowVersion) → t (put x i v) ≡ u (put x i v))
    → filter t (in_slots x f k n) ≡ filter u (in_slots x f k n)
same_test t u x f k zero h = refl
same_test t u x f k (suc n) h =
    filter_both t (in_slot x k (f k)) (in_slots x f (suc k) n)
    ∙ ap (λ r. r ++ filter t (in_slots x f (suc k) n)) (same_one t u x k (f k) (h k))
    ∙ ap (λ r. filter u (in_slot x k (f k)) ++ r) (same_test t u x f (suc k) n h)
    ∙ sym (filter_both u (in_slot x k (f k)) (in_slots x f (suc k) n))
  where
    same_one : (t u : Placed → Bool) (x k : ℕ) (o : Option RowVersion) → ((v : RowVersion) → t (put x k v) ≡ u (put x k v)) → filter t (in_slot x k o) ≡ filter u (in_slot x k o)
    same_one t u x k None h = refl
    same_one t u x k (Some v) h = ap (λ b. if b then put x k v ∷ [] else []) (h v)

-- pages that are all behind are kept
pub pages_kept : (held : ℕ → ℕ → Option RowVersion) (later : List ℕ) (p : Place) (xs : List ℕ) → AllByRecursion (λ y. y ≢ p.page) xs
    → AllByRecursion (λ y. has_page later y ≡ true) xs → filter (comes_behind later p) (in_pages held xs) ≡ in_pages held xs
pages_kept held later p [] d h = refl
pages_kept held later p (x ∷ xs) d h =
    filter_both (comes_behind later p) (in_slots x (held x) 0 most_slots) (in_pages held xs)
    ∙ ap (λ r. r ++ filter (comes_behind later p) (in_pages held xs)) (slots_kept (comes_behind later p) x (held x) 0 most_slots (λ i v l. behind_other later p x i v d.0 ∙ h.0))
    ∙ ap (λ r. in_slots x (held x) 0 most_slots ++ r) (pages_kept held later p xs d.1 h.1)

-- a list has each of its pages
has_more : (x : ℕ) (ys : List ℕ) (xs : List ℕ) → AllByRecursion (λ y. has_page ys y ≡ true) xs → AllByRecursion (λ y. has_page (x ∷ ys) y ≡ true) xs
has_more x ys [] h = tt
has_more x ys (z ∷ xs) h = (or_yes (x == z) (has_page ys z) h.0, has_more x ys xs h.1)
  where
    or_yes : (a b : Bool) → b ≡ true → (a || b) ≡ true
    or_yes true b e = refl
    or_yes false b e = e

pub has_own : (xs : List ℕ) → AllByRecursion (λ y. has_page xs y ≡ true) xs
has_own [] = tt
has_own (x ∷ xs) = (ap (λ t. t || has_page xs x) (eq-eqb x x refl), has_more x xs xs (has_own xs))

-- a page that is none of these, and none of those behind one of them
pub has_not : (x : ℕ) (xs : List ℕ) → AllByRecursion (λ y. y ≢ x) xs → has_page xs x ≡ false
has_not x [] h = refl
has_not x (y ∷ xs) h = ap (λ t. t || has_page xs x) (ne_eqb y x h.0) ∙ has_not x xs h.1

behind_by : (b : Bool) (P : ℕ → Type 0) (xs ys : List ℕ) → AllByRecursion P xs → AllByRecursion P ys → AllByRecursion P (if b then xs else ys)
behind_by true P xs ys h g = h
behind_by false P xs ys h g = g

-- the versions behind a place of one of the pages
pub pages_after : (held : ℕ → ℕ → Option RowVersion) (xs : List ℕ) (p : Place) → AreApart xs → has_page xs p.page ≡ true
    → filter (comes_behind (pages_behind xs p.page) p) (in_pages held xs) ≡ slots_after held p ++ in_pages held (pages_behind xs p.page)
unfolding slots_after
pages_after held [] p d h = absurd (let e : ◌≡◌ {A = Bool} false true = h in cc)
pages_after held (x ∷ xs) p d h =
    has_cases x p.page xs (filter (comes_behind (pages_behind (x ∷ xs) p.page) p) (in_pages held (x ∷ xs)) ≡ slots_after held p ++ in_pages held (pages_behind (x ∷ xs) p.page)) h
    (λ e.
    let here : pages_behind (x ∷ xs) p.page ≡ xs = ap (λ b. if b then xs else pages_behind xs p.page) (eq-eqb x p.page e) in
    ap (λ later. filter (comes_behind later p) (in_pages held (x ∷ xs))) here
    ∙ filter_both (comes_behind xs p) (in_slots x (held x) 0 most_slots) (in_pages held xs)
    ∙ ap (λ r. r ++ filter (comes_behind xs p) (in_pages held xs))
    (same_test (comes_behind xs p) (comes_behind [] p) x (held x) 0 most_slots (λ i v. behind_same xs p x i v e ∙ sym (behind_same [] p x i v e))
    ∙ ap (λ y. filter (comes_behind [] p) (in_slots y (held y) 0 most_slots)) e)
    ∙ ap (λ r. slots_after held p ++ r) (pages_kept held xs p xs (apart_under x p.page xs e d.0) (has_own xs))
    ∙ ap (λ later. slots_after held p ++ in_pages held later) (sym here))
    (λ n m.
    let there : pages_behind (x ∷ xs) p.page ≡ pages_behind xs p.page = ap (λ b. if b then xs else pages_behind xs p.page) (ne_eqb x p.page n) in
    ap (λ later. filter (comes_behind later p) (in_pages held (x ∷ xs))) there
    ∙ filter_both (comes_behind (pages_behind xs p.page) p) (in_slots x (held x) 0 most_slots) (in_pages held xs)
    ∙ ap (λ r. r ++ filter (comes_behind (pages_behind xs p.page) p) (in_pages held xs))
    (slots_dropped (comes_behind (pages_behind xs p.page) p) x (held x) 0 most_slots
    (λ i v l. behind_other (pages_behind xs p.page) p x i v n ∙ has_not x (pages_behind xs p.page) (behind_all (λ y. y ≢ x) xs p.page d.0)))
    ∙ pages_after held xs p d.1 m
    ∙ ap (λ later. slots_after held p ++ in_pages held later) (sym there))

-- they are those of the slots from the next one on
pub slots_after-is : (held : ℕ → ℕ → Option RowVersion) (p : Place) (n : ℕ) → suc p.slot + n ≡ most_slots → slots_after held p ≡ in_slots p.page (held p.page) (suc p.slot) n
unfolding slots_after
slots_after-is held p n e =
    ap (λ m. filter (comes_behind [] p) (in_slots p.page (held p.page) 0 m)) (sym e)
    ∙ slots_from (comes_behind [] p) p.page (held p.page) 0 (suc p.slot) n
    (λ i v l. behind_same [] p p.page i v refl ∙ le-ltb p.slot i (omega arith))
    (λ i v l. behind_same [] p p.page i v refl ∙ lt-ltb p.slot i (omega arith))
    ∙ ap (λ j. in_slots p.page (held p.page) j n) (let z : 0 + suc p.slot ≡ suc p.slot = omega arith in z)

pub slots_after-none : (held : ℕ → ℕ → Option RowVersion) (p : Place) → most_slots ≤ suc p.slot → slots_after held p ≡ []
unfolding slots_after
slots_after-none held p l =
    slots_dropped (comes_behind [] p) p.page (held p.page) 0 most_slots (λ i v h. behind_same [] p p.page i v refl ∙ le-ltb p.slot i (omega arith))
