-- Laws of lists of versions of which one is put in or changed.
use Rattle.std.specs.Prelude.{◌≡◌, ◌≢◌, ℕ, ◌+◌, ◌<◌, ◌≤◌, ◌==◌, ◌&&◌, zero, suc, map, Bool, true, false, List, [], ◌∷◌, ◌++◌, Option, Some, None, if◌then◌else◌}
use Rattle.std.specs.List.{AllByRecursion}
use Rattle.std.proofs.Common.{sym, ◌∙◌, ap, subst, refl, arith, inl, inr, append_assoc, append-nil}
use Rattle.std.proofs.lemmas.Bool.{cases_eq, eq-eqb, ne_eqb}
use Rattle.hg_base.specs.Space.{at}
use Rattle.hg_base.specs.LineLaws.{has_cases}
use Rattle.hg_base.specs.Lines.{AreApart, has_page}
use Rattle.hg_base.specs.declared.Place.{Place}
use Rattle.hg_table.specs.Versions.{Placed, RowVersion, in_slot, in_slots, in_pages, most_slots}
use Rattle.hg_table.specs.Places.{killed_at, killed}
use Rattle.hg_table.specs.Calls.{PutsIn}
use Rattle.hg_table.specs.Listing.{put, slots_agree, pages_agree, slots_none, apart_under}

-- the versions, where those of one page stand as f says
abbrev pub with_slot : (ℕ → ℕ → Option RowVersion) → ℕ → ℕ → Option RowVersion → ℕ → ℕ → Option RowVersion
with_slot held x j o = at held x (at (held x) j o)

pub at_here : {X : Type 0} (f : ℕ → X) (p q : ℕ) (x : X) → q ≡ p → at f p x q ≡ x
at_here f p q x e = ap (λ b. if b then x else f q) (eq-eqb q p e)

pub at_other : {X : Type 0} (f : ℕ → X) (p q : ℕ) (x : X) → q ≢ p → at f p x q ≡ f q
at_other f p q x d = ap (λ b. if b then x else f q) (ne_eqb q p d)

pub slot_here : (held : ℕ → ℕ → Option RowVersion) (x j : ℕ) (o : Option RowVersion) (y i : ℕ) → y ≡ x → i ≡ j → with_slot held x j o y i ≡ o
slot_here held x j o y i e d = ap (λ (f : ℕ → Option RowVersion). f i) (at_here held x y (at (held x) j o) e) ∙ at_here (held x) j i o d

pub slot_beside : (held : ℕ → ℕ → Option RowVersion) (x j : ℕ) (o : Option RowVersion) (y i : ℕ) → y ≡ x → i ≢ j → with_slot held x j o y i ≡ held x i
slot_beside held x j o y i e d = ap (λ (f : ℕ → Option RowVersion). f i) (at_here held x y (at (held x) j o) e) ∙ at_other (held x) j i o d

pub page_beside : (held : ℕ → ℕ → Option RowVersion) (x j : ℕ) (o : Option RowVersion) (y i : ℕ) → y ≢ x → with_slot held x j o y i ≡ held y i
page_beside held x j o y i d = ap (λ (f : ℕ → Option RowVersion). f i) (at_other held x y (at (held x) j o) d)

-- the same lists before and behind
pub puts_under : (zs xs ys : List Placed) (v : Placed) → PutsIn xs ys v → PutsIn (zs ++ xs) (zs ++ ys) v
puts_under zs xs ys v p = record {
  before = zs ++ p.before;
  after = p.after;
  was = ap (λ r. zs ++ r) p.was ∙ sym (append_assoc zs p.before p.after);
  now = ap (λ r. zs ++ r) p.now ∙ sym (append_assoc zs p.before (v ∷ p.after));
}

pub puts_over : (xs ys : List Placed) (v : Placed) (zs : List Placed) → PutsIn xs ys v → PutsIn (xs ++ zs) (ys ++ zs) v
puts_over xs ys v zs p = record {
  before = p.before;
  after = p.after ++ zs;
  was = ap (λ r. r ++ zs) p.was ∙ append_assoc p.before p.after zs;
  now = ap (λ r. r ++ zs) p.now ∙ append_assoc p.before (v ∷ p.after) zs;
}

pub puts_same : (xs ys us ws : List Placed) (v : Placed) → xs ≡ us → ys ≡ ws → PutsIn us ws v → PutsIn xs ys v
puts_same xs ys us ws v e f p = record { before = p.before; after = p.after; was = e ∙ p.was; now = f ∙ p.now }

-- a version in a slot that was empty
pub slots_put : (x : ℕ) (f g : ℕ → Option RowVersion) (k n j : ℕ) (v : RowVersion) → k ≤ j → j < k + n → f j ≡ None → g j ≡ Some v
    → ((i : ℕ) → i ≢ j → g i ≡ f i) → PutsIn (in_slots x f k n) (in_slots x g k n) (put x j v)
slots_put x f g k zero j v l h was now rest = absurd (omega arith)
slots_put x f g k (suc n) j v l h was now rest = elim (cases_eq k j) [
  | inl e ↦ record {
    before = [];
    after = in_slots x f (suc k) n;
    was = ap (λ o. in_slot x k o ++ in_slots x f (suc k) n) (ap f e ∙ was);
    now = ap (λ o. in_slot x k o ++ in_slots x g (suc k) n) (ap g e ∙ now)
        ∙ ap (λ y. put x y v ∷ in_slots x g (suc k) n) e
        ∙ ap (λ r. put x j v ∷ r) (slots_agree x g f (suc k) n (λ i p q. rest i (λ d. absurd (omega arith))));
  }
  | inr d ↦ puts_same (in_slots x f k (suc n)) (in_slots x g k (suc n)) (in_slot x k (f k) ++ in_slots x f (suc k) n) (in_slot x k (f k) ++ in_slots x g (suc k) n) (put x j v)
      refl (ap (λ o. in_slot x k o ++ in_slots x g (suc k) n) (rest k d))
      (puts_under (in_slot x k (f k)) (in_slots x f (suc k) n) (in_slots x g (suc k) n) (put x j v)
      (slots_put x f g (suc k) n j v (omega arith) (omega arith) was now rest))
]

pub beside_all : (held : ℕ → ℕ → Option RowVersion) (x j : ℕ) (o : Option RowVersion) (xs : List ℕ) → AllByRecursion (λ y. y ≢ x) xs
    → AllByRecursion (λ y. (i : ℕ) → with_slot held x j o y i ≡ held y i) xs
beside_all held x j o [] h = tt
beside_all held x j o (y ∷ xs) h = (λ i. page_beside held x j o y i h.0, beside_all held x j o xs h.1)

pub pages_put : (held : ℕ → ℕ → Option RowVersion) (xs : List ℕ) (x j : ℕ) (v : RowVersion) → AreApart xs → has_page xs x ≡ true → j < most_slots
    → held x j ≡ None → PutsIn (in_pages held xs) (in_pages (with_slot held x j (Some v)) xs) (put x j v)
pages_put held [] x j v d h l none = absurd (let e : ◌≡◌ {A = Bool} false true = h in cc)
pages_put held (y ∷ xs) x j v d h l none =
    has_cases y x xs (PutsIn (in_pages held (y ∷ xs)) (in_pages (with_slot held x j (Some v)) (y ∷ xs)) (put x j v)) h
    (λ e. puts_same (in_pages held (y ∷ xs)) (in_pages (with_slot held x j (Some v)) (y ∷ xs))
    (in_slots y (held y) 0 most_slots ++ in_pages held xs) (in_slots y (with_slot held x j (Some v) y) 0 most_slots ++ in_pages held xs) (put x j v)
    refl
    (ap (λ r. in_slots y (with_slot held x j (Some v) y) 0 most_slots ++ r)
    (pages_agree (with_slot held x j (Some v)) held xs (beside_all held x j (Some v) xs (apart_under y x xs e d.0))))
    (puts_over (in_slots y (held y) 0 most_slots) (in_slots y (with_slot held x j (Some v) y) 0 most_slots) (put x j v) (in_pages held xs)
    (let P : ℕ → Type 0 = λ z. PutsIn (in_slots y (held y) 0 most_slots) (in_slots y (with_slot held x j (Some v) y) 0 most_slots) (put z j v) in
    subst P e (slots_put y (held y) (with_slot held x j (Some v) y) 0 most_slots j v (omega arith) (omega arith)
    (ap (λ z. held z j) e ∙ none) (slot_here held x j (Some v) y j e refl)
    (λ i n. slot_beside held x j (Some v) y i e n ∙ ap (λ z. held z i) (sym e))))))
    (λ n m. puts_same (in_pages held (y ∷ xs)) (in_pages (with_slot held x j (Some v)) (y ∷ xs))
    (in_slots y (held y) 0 most_slots ++ in_pages held xs) (in_slots y (held y) 0 most_slots ++ in_pages (with_slot held x j (Some v)) xs) (put x j v)
    refl
    (ap (λ r. r ++ in_pages (with_slot held x j (Some v)) xs)
    (slots_agree y (with_slot held x j (Some v) y) (held y) 0 most_slots (λ i p q. page_beside held x j (Some v) y i n)))
    (puts_under (in_slots y (held y) 0 most_slots) (in_pages held xs) (in_pages (with_slot held x j (Some v)) xs) (put x j v)
    (pages_put held xs x j v d.1 m l none)))

-- a page with one version behind the others
pub pages-more : (held : ℕ → ℕ → Option RowVersion) (xs : List ℕ) (x : ℕ) → in_pages held (xs ++ x ∷ []) ≡ in_pages held xs ++ in_slots x (held x) 0 most_slots
pages-more held [] x = append-nil (in_slots x (held x) 0 most_slots)
pages-more held (y ∷ xs) x = ap (λ r. in_slots y (held y) 0 most_slots ++ r) (pages-more held xs x)
    ∙ sym (append_assoc (in_slots y (held y) 0 most_slots) (in_pages held xs) (in_slots x (held x) 0 most_slots))

abbrev pub none_held : ℕ → Option RowVersion
none_held k = None

abbrev pub with_new : (ℕ → ℕ → Option RowVersion) → ℕ → ℕ → RowVersion → ℕ → ℕ → Option RowVersion
with_new held x j v = at held x (at none_held j (Some v))

pub pages_new : (held : ℕ → ℕ → Option RowVersion) (xs : List ℕ) (x j : ℕ) (v : RowVersion) → AllByRecursion (λ y. y ≢ x) xs → j < most_slots
    → PutsIn (in_pages held xs) (in_pages (with_new held x j v) (xs ++ x ∷ [])) (put x j v)
pages_new held xs x j v d l =
    puts_same (in_pages held xs) (in_pages (with_new held x j v) (xs ++ x ∷ []))
    (in_pages held xs ++ in_slots x none_held 0 most_slots) (in_pages held xs ++ in_slots x (with_new held x j v x) 0 most_slots) (put x j v)
    (sym (append-nil (in_pages held xs)) ∙ ap (λ r. in_pages held xs ++ r) (sym (slots_none x none_held 0 most_slots (λ i p. refl))))
    (pages-more (with_new held x j v) xs x
    ∙ ap (λ r. r ++ in_slots x (with_new held x j v x) 0 most_slots) (pages_agree (with_new held x j v) held xs (beside_new held x j v xs d)))
    (puts_under (in_pages held xs) (in_slots x none_held 0 most_slots) (in_slots x (with_new held x j v x) 0 most_slots) (put x j v)
    (slots_put x none_held (with_new held x j v x) 0 most_slots j v (omega arith) (omega arith) refl
    (ap (λ (f : ℕ → Option RowVersion). f j) (at_here held x x (at none_held j (Some v)) refl) ∙ at_here none_held j j (Some v) refl)
    (λ i n. ap (λ (f : ℕ → Option RowVersion). f i) (at_here held x x (at none_held j (Some v)) refl) ∙ at_other none_held j i (Some v) n)))
  where
    beside_new : (held : ℕ → ℕ → Option RowVersion) (x j : ℕ) (v : RowVersion) (xs : List ℕ) → AllByRecursion (λ y. y ≢ x) xs
        → AllByRecursion (λ y. (i : ℕ) → with_new held x j v y i ≡ held y i) xs
    beside_new held x j v [] h = tt
    beside_new held x j v (y ∷ xs) h = (λ i. ap (λ (f : ℕ → Option RowVersion). f i) (at_other held x y (at none_held j (Some v)) h.0), beside_new held x j v xs h.1)

-- a death
map_both : (f : Placed → Placed) (xs ys : List Placed) → map f (xs ++ ys) ≡ map f xs ++ map f ys
map_both f [] ys = refl
map_both f (v ∷ xs) ys = ap (λ r. f v ∷ r) (map_both f xs ys)

slots_map : (h : Placed → Placed) (x : ℕ) (f g : ℕ → Option RowVersion) (k n : ℕ) → ((i : ℕ) → map h (in_slot x i (f i)) ≡ in_slot x i (g i))
    → map h (in_slots x f k n) ≡ in_slots x g k n
slots_map h x f g k zero e = refl
slots_map h x f g k (suc n) e =
    map_both h (in_slot x k (f k)) (in_slots x f (suc k) n)
    ∙ ap (λ r. r ++ map h (in_slots x f (suc k) n)) (e k)
    ∙ ap (λ r. in_slot x k (g k) ++ r) (slots_map h x f g (suc k) n e)

pages_map : (h : Placed → Placed) (f g : ℕ → ℕ → Option RowVersion) (xs : List ℕ) → ((x i : ℕ) → map h (in_slot x i (f x i)) ≡ in_slot x i (g x i))
    → map h (in_pages f xs) ≡ in_pages g xs
pages_map h f g [] e = refl
pages_map h f g (x ∷ xs) e =
    map_both h (in_slots x (f x) 0 most_slots) (in_pages f xs)
    ∙ ap (λ r. r ++ map h (in_pages f xs)) (slots_map h x (f x) (g x) 0 most_slots (e x))
    ∙ ap (λ r. in_slots x (g x) 0 most_slots ++ r) (pages_map h f g xs e)

abbrev pub dead : RowVersion → ℕ → RowVersion
dead v d = record v { died = Some d }

one_beside : (p : Place) (d x i : ℕ) (o : Option RowVersion) → (x == p.page && i == p.slot) ≡ false → map (killed_at p d) (in_slot x i o) ≡ in_slot x i o
one_beside p d x i None e = refl
one_beside p d x i (Some v) e = ap (λ b. (if b then put x i (dead v d) else put x i v) ∷ []) e

one_killed : (p : Place) (d x i : ℕ) (v : RowVersion) → (x == p.page && i == p.slot) ≡ true → map (killed_at p d) (in_slot x i (Some v)) ≡ in_slot x i (Some (dead v d))
one_killed p d x i v e = ap (λ b. (if b then put x i (dead v d) else put x i v) ∷ []) e

and_left_no : (a b : Bool) → a ≡ false → (a && b) ≡ false
and_left_no a b e = ap (λ t. t && b) e

and_both : (a b : Bool) → a ≡ true → b ≡ true → (a && b) ≡ true
and_both a b e f = ap (λ t. t && b) e ∙ f

and_right_no : (a b : Bool) → a ≡ true → b ≡ false → (a && b) ≡ false
and_right_no a b e f = ap (λ t. t && b) e ∙ f

pub pages_killed : (held : ℕ → ℕ → Option RowVersion) (xs : List ℕ) (p : Place) (d : ℕ) (v : RowVersion) → held p.page p.slot ≡ Some v
    → killed p d (in_pages held xs) ≡ in_pages (with_slot held p.page p.slot (Some (dead v d))) xs
pages_killed held xs p d v there = pages_map (killed_at p d) held (with_slot held p.page p.slot (Some (dead v d))) xs (λ x i. elim (cases_eq x p.page) [
  | inr n ↦ one_beside p d x i (held x i) (and_left_no (x == p.page) (i == p.slot) (ne_eqb x p.page n))
      ∙ ap (in_slot x i) (sym (page_beside held p.page p.slot (Some (dead v d)) x i n))
  | inl e ↦ elim (cases_eq i p.slot) [
    | inr n ↦ one_beside p d x i (held x i) (and_right_no (x == p.page) (i == p.slot) (eq-eqb x p.page e) (ne_eqb i p.slot n))
        ∙ ap (in_slot x i) (ap (λ y. held y i) e ∙ sym (slot_beside held p.page p.slot (Some (dead v d)) x i e n))
    | inl f ↦ ap (λ o. map (killed_at p d) (in_slot x i o)) (ap (λ y. held y i) e ∙ ap (held p.page) f ∙ there)
        ∙ one_killed p d x i v (and_both (x == p.page) (i == p.slot) (eq-eqb x p.page e) (eq-eqb i p.slot f))
        ∙ ap (in_slot x i) (sym (slot_here held p.page p.slot (Some (dead v d)) x i e f))
  ]
])
