-- The versions of a table stand in the order of its pages, and on a page in the order of its slots.
use Rattle.std.specs.Prelude.{◌≡◌, ◌≢◌, ℕ, zero, suc, ◌<◌, ◌≤◌, ◌==◌, ◌||◌, ◌&&◌, nat_lt, Bool, true, false, List, [], ◌∷◌, ◌++◌, Option, Some, None, ⊤, if◌then◌else◌}
use Rattle.std.specs.List.{AllByRecursion, filter}
use Rattle.std.proofs.Common.{sym, ◌∙◌, ap, subst, refl, arith, inl, inr}
use Rattle.std.proofs.lemmas.Bool.{false≢true, false_from_ne_true}
use Rattle.std.proofs.lemmas.Bool.Decides.{nat_tests, eqb_tells}
use Rattle.hg_base.specs.TakenLaws.{AreDistinctPages}
use Rattle.hg_base.specs.Lines.{has_page, pages_behind}
use Rattle.hg_base.specs.declared.File.TheVariants.{Main}
use Rattle.hg_base.specs.declared.Place.{Place}
use Rattle.hg_table.specs.Places.{is_at, version_at, comes_behind}
use Rattle.hg_table.specs.Versions.{Placed, RowVersion, in_slot, in_slots, in_pages, most_slots}

-- of two versions the one stands before the other
pub record Precedes (pages : List ℕ) (u w : Placed) : Type 0 where
  pub later : comes_behind (pages_behind pages u.place.page) u.place w ≡ true
  pub earlier : comes_behind (pages_behind pages w.place.page) w.place u ≡ false

abbrev pub AreInOrder : List ℕ → List Placed → Type 0
AreInOrder pages [] = ⊤
AreInOrder pages (u ∷ us) = AllByRecursion (Precedes pages u) us × AreInOrder pages us

eq-yes : (a b : ℕ) → a ≡ b → (a == b) ≡ true
eq-yes a b h = grind (arith, nat_tests)

eq-no : (a b : ℕ) → a ≢ b → (a == b) ≡ false
eq-no a b h = grind (arith, nat_tests)

lt-yes : (a b : ℕ) → a < b → nat_lt a b ≡ true
lt-yes a b h = grind (arith, nat_tests)

lt-no : (a b : ℕ) → b ≤ a → nat_lt a b ≡ false
lt-no a b h = grind (arith, nat_tests)

all-append : {X : Type 0} (P : X → Type 0) (xs ys : List X) → AllByRecursion P xs → AllByRecursion P ys → AllByRecursion P (xs ++ ys)
all-append P [] ys p q = q
all-append P (x ∷ xs) ys p q = (p.0, all-append P xs ys p.1 q)

all-weaker : {X : Type 0} (P Q : X → Type 0) (xs : List X) → ((x : X) → P x → Q x) → AllByRecursion P xs → AllByRecursion Q xs
all-weaker P Q [] f p = tt
all-weaker P Q (x ∷ xs) f p = (f x p.0, all-weaker P Q xs f p.1)

all-middle : {X : Type 0} (P : X → Type 0) (xs : List X) (v : X) (ys : List X) → AllByRecursion P (xs ++ v ∷ ys) → P v
all-middle P [] v ys p = p.0
all-middle P (x ∷ xs) v ys p = all-middle P xs v ys p.1

has-first : (x : ℕ) (xs : List ℕ) → has_page (x ∷ xs) x ≡ true
has-first x xs = ap (λ b. b || has_page xs x) (eq-yes x x refl)

has-more : (y x : ℕ) (xs : List ℕ) → has_page xs x ≡ true → has_page (y ∷ xs) x ≡ true
has-more y x xs h = elim (y == x) as (λ b. (b || has_page xs x) ≡ true) [
  | true ↦ refl
  | false ↦ h
]

-- a page that differs from all is not among them
has-not : (x : ℕ) (xs : List ℕ) → AllByRecursion (λ y. y ≢ x) xs → has_page xs x ≡ false
has-not x [] apart = refl
has-not x (y ∷ ys) apart = ap (λ b. b || has_page ys x) (eq-no y x apart.0) ∙ has-not x ys apart.1

-- a version on a later slot of the same page
precedes-on-page : (pages : List ℕ) (u w : Placed) → u.place.page ≡ w.place.page → u.place.slot < w.place.slot → Precedes pages u w
precedes-on-page pages u w same less = record {
  later = ap (λ b. if b then nat_lt u.place.slot w.place.slot else has_page (pages_behind pages u.place.page) w.place.page) (eq-yes w.place.page u.place.page (sym same))
      ∙ lt-yes u.place.slot w.place.slot less;
  earlier = ap (λ b. if b then nat_lt w.place.slot u.place.slot else has_page (pages_behind pages w.place.page) u.place.page) (eq-yes u.place.page w.place.page same)
      ∙ lt-no w.place.slot u.place.slot (omega arith);
}

-- what is told of a slot
pub record IsFrom (x k : ℕ) (v : Placed) : Type 0 where
  pub page : v.place.page ≡ x
  pub slot : k ≤ v.place.slot

slots-from : (x : ℕ) (held : ℕ → Option RowVersion) (k n : ℕ) → AllByRecursion (IsFrom x k) (in_slots x held k n)
slots-from x held k zero = tt
slots-from x held k (suc n) =
    all-append (IsFrom x k) (in_slot x k (held k)) (in_slots x held (suc k) n) (here (held k))
    (all-weaker (IsFrom x (suc k)) (IsFrom x k) (in_slots x held (suc k) n) (λ v p. record { page = p.page; slot = let s = p.slot in omega arith }) (slots-from x held (suc k) n))
  where
    here : (v : Option RowVersion) → AllByRecursion (IsFrom x k) (in_slot x k v)
    here None = tt
    here (Some v) = (record { page = refl; slot = omega arith }, tt)

slots-ordered : (pages : List ℕ) (x : ℕ) (held : ℕ → Option RowVersion) (k n : ℕ) → AreInOrder pages (in_slots x held k n)
slots-ordered pages x held k zero = tt
slots-ordered pages x held k (suc n) = here (held k) (slots-ordered pages x held (suc k) n)
  where
    here : (v : Option RowVersion) → AreInOrder pages (in_slots x held (suc k) n) → AreInOrder pages (in_slot x k v ++ in_slots x held (suc k) n)
    here None rest = rest
    here (Some v) rest = (
      all-weaker (IsFrom x (suc k)) (Precedes pages (record { place = record { page = x; slot = k }; version = v })) (in_slots x held (suc k) n)
          (λ w p. precedes-on-page pages (record { place = record { page = x; slot = k }; version = v }) w (sym p.page) (let s = p.slot in omega arith))
          (slots-from x held (suc k) n),
      rest,
    )

abbrev pub IsOn : List ℕ → Placed → Type 0
IsOn pages v = has_page pages v.place.page ≡ true

-- each version stands on one of the pages
pub in_pages-on : (held : ℕ → ℕ → Option RowVersion) (pages : List ℕ) → AllByRecursion (IsOn pages) (in_pages held pages)
in_pages-on held [] = tt
in_pages-on held (x ∷ xs) =
    all-append (IsOn (x ∷ xs)) (in_slots x (held x) 0 most_slots) (in_pages held xs)
    (all-weaker (IsFrom x 0) (IsOn (x ∷ xs)) (in_slots x (held x) 0 most_slots) (λ v p. subst (λ y. has_page (x ∷ xs) y ≡ true) (sym p.page) (has-first x xs)) (slots-from x (held x) 0 most_slots))
    (all-weaker (IsOn xs) (IsOn (x ∷ xs)) (in_pages held xs) (λ v p. has-more x v.place.page xs p) (in_pages-on held xs))

-- what comes behind a page was there
behind-among : (xs : List ℕ) (y x : ℕ) → has_page xs x ≡ false → has_page (pages_behind xs y) x ≡ false
behind-among [] y x h = refl
behind-among (z ∷ zs) y x h = elim (z == y) as (λ b. has_page (if b then zs else pages_behind zs y) x ≡ false) [
  | true ↦ rest
  | false ↦ behind-among zs y x rest
]
  where
    rest : has_page zs x ≡ false
    rest = false_from_ne_true (has_page zs x) (λ yes. false≢true (sym h ∙ has-more z x zs yes))

-- a page that is among pages none of which is x is another one
other-page : (x y : ℕ) (xs : List ℕ) → has_page xs x ≡ false → has_page xs y ≡ true → y ≢ x
other-page x y xs none among same = false≢true (sym none ∙ subst (λ z. has_page xs z ≡ true) same among)

-- a version on the first page stands before those on the others
precedes-page : (x : ℕ) (xs : List ℕ) (u w : Placed) → has_page xs x ≡ false → u.place.page ≡ x → IsOn xs w → Precedes (x ∷ xs) u w
precedes-page x xs u w none on_x on_xs =
    let apart : w.place.page ≢ x = other-page x w.place.page xs none on_xs in
    let first : (x == u.place.page) ≡ true = eq-yes x u.place.page (sym on_x) in
    let not_w : (w.place.page == u.place.page) ≡ false = eq-no w.place.page u.place.page (λ e. apart (e ∙ on_x)) in
    let not_u : (u.place.page == w.place.page) ≡ false = eq-no u.place.page w.place.page (λ e. apart (sym e ∙ on_x)) in
    let not_first : (x == w.place.page) ≡ false = eq-no x w.place.page (λ e. apart (sym e)) in
    let behind_u : pages_behind (x ∷ xs) u.place.page ≡ xs = ap (λ b. if b then xs else pages_behind xs u.place.page) first in
    let behind_w : pages_behind (x ∷ xs) w.place.page ≡ pages_behind xs w.place.page = ap (λ b. if b then xs else pages_behind xs w.place.page) not_first in
    record {
      later = ap (λ b. if b then nat_lt u.place.slot w.place.slot else has_page (pages_behind (x ∷ xs) u.place.page) w.place.page) not_w
          ∙ ap (λ l. has_page l w.place.page) behind_u ∙ on_xs;
      earlier = ap (λ b. if b then nat_lt w.place.slot u.place.slot else has_page (pages_behind (x ∷ xs) w.place.page) u.place.page) not_u
          ∙ ap (λ l. has_page l u.place.page) behind_w
          ∙ ap (has_page (pages_behind xs w.place.page)) on_x ∙ behind-among xs w.place.page x none;
    }

-- the order on the other pages is that on all
precedes-more : (x : ℕ) (xs : List ℕ) (u w : Placed) → has_page xs x ≡ false → IsOn xs u → IsOn xs w → Precedes xs u w → Precedes (x ∷ xs) u w
precedes-more x xs u w none on_u on_w p =
    let behind_u : pages_behind (x ∷ xs) u.place.page ≡ pages_behind xs u.place.page =
    ap (λ b. if b then xs else pages_behind xs u.place.page) (eq-no x u.place.page (λ e. other-page x u.place.page xs none on_u (sym e))) in
    let behind_w : pages_behind (x ∷ xs) w.place.page ≡ pages_behind xs w.place.page =
    ap (λ b. if b then xs else pages_behind xs w.place.page) (eq-no x w.place.page (λ e. other-page x w.place.page xs none on_w (sym e))) in
    record {
      later = ap (λ l. comes_behind l u.place w) behind_u ∙ p.later;
      earlier = ap (λ l. comes_behind l w.place u) behind_w ∙ p.earlier;
    }

order-more : (x : ℕ) (xs : List ℕ) (vs : List Placed) → has_page xs x ≡ false → AllByRecursion (IsOn xs) vs → AreInOrder xs vs → AreInOrder (x ∷ xs) vs
order-more x xs [] none on order = tt
order-more x xs (u ∷ us) none on order = (each us on.1 order.0, order-more x xs us none on.1 order.1)
  where
    each : (ws : List Placed) → AllByRecursion (IsOn xs) ws → AllByRecursion (Precedes xs u) ws → AllByRecursion (Precedes (x ∷ xs) u) ws
    each [] o p = tt
    each (w ∷ ws) o p = (precedes-more x xs u w none on.0 o.0 p.0, each ws o.1 p.1)

order-append : (pages : List ℕ) (us ws : List Placed) → AreInOrder pages us → AreInOrder pages ws
    → AllByRecursion (λ u. AllByRecursion (Precedes pages u) ws) us → AreInOrder pages (us ++ ws)
order-append pages [] ws p q all = q
order-append pages (u ∷ us) ws p q all = (all-append (Precedes pages u) us ws p.0 all.0, order-append pages us ws p.1 q all.1)

pub in_pages-ordered : (taken : ℕ → Bool) (n : ℕ) (held : ℕ → ℕ → Option RowVersion) (pages : List ℕ) → AreDistinctPages taken Main n pages
    → AreInOrder pages (in_pages held pages)
in_pages-ordered taken n held [] d = tt
in_pages-ordered taken n held (x ∷ xs) d =
    let none : has_page xs x ≡ false = has-not x xs d.2 in
    order-append (x ∷ xs) (in_slots x (held x) 0 most_slots) (in_pages held xs)
    (slots-ordered (x ∷ xs) x (held x) 0 most_slots)
    (order-more x xs (in_pages held xs) none (in_pages-on held xs) (in_pages-ordered taken n held xs d.3))
    (all-weaker (IsFrom x 0) (λ u. AllByRecursion (Precedes (x ∷ xs) u) (in_pages held xs)) (in_slots x (held x) 0 most_slots)
    (λ u p. all-weaker (IsOn xs) (Precedes (x ∷ xs) u) (in_pages held xs) (λ w on. precedes-page x xs u w none p.page on) (in_pages-on held xs))
    (slots-from x (held x) 0 most_slots))

filter-all : {X : Type 0} (p : X → Bool) (xs : List X) → AllByRecursion (λ x. p x ≡ true) xs → filter p xs ≡ xs
filter-all p [] h = refl
filter-all p (x ∷ xs) h = ap (λ b. if b then x ∷ filter p xs else filter p xs) h.0 ∙ ap (λ l. x ∷ l) (filter-all p xs h.1)

-- of versions in order those behind one of them
pub behind-in-order : (pages : List ℕ) (xs : List Placed) (v : Placed) (ys : List Placed) → AreInOrder pages (xs ++ v ∷ ys)
    → filter (comes_behind (pages_behind pages v.place.page) v.place) (xs ++ v ∷ ys) ≡ ys
behind-in-order pages [] v ys order =
    let p : Placed → Bool = comes_behind (pages_behind pages v.place.page) v.place in
    let not_itself : p v ≡ false =
    ap (λ b. if b then nat_lt v.place.slot v.place.slot else has_page (pages_behind pages v.place.page) v.place.page) (eq-yes v.place.page v.place.page refl)
    ∙ lt-no v.place.slot v.place.slot (omega arith) in
    ap (λ b. if b then v ∷ filter p ys else filter p ys) not_itself
    ∙ filter-all p ys (all-weaker (Precedes pages v) (λ w. p w ≡ true) ys (λ w q. q.later) order.0)
behind-in-order pages (x ∷ xs) v ys order =
    let p : Placed → Bool = comes_behind (pages_behind pages v.place.page) v.place in
    ap (λ b. if b then x ∷ filter p (xs ++ v ∷ ys) else filter p (xs ++ v ∷ ys)) ((all-middle (Precedes pages x) xs v ys order.0).earlier)
    ∙ behind-in-order pages xs v ys order.1

-- a version behind a place does not stand there
apart-from : (l : List ℕ) (p : Place) (w : Placed) → comes_behind l p w ≡ true → is_at p w ≡ false
apart-from l p w h = elim (eqb_tells w.place.page p.page) [
  | inl same ↦
      let less : nat_lt p.slot w.place.slot ≡ true = sym (ap (λ b. if b then nat_lt p.slot w.place.slot else has_page l w.place.page) same.0) ∙ h in
      ap (λ b. b && (w.place.slot == p.slot)) same.0 ∙ eq-no w.place.slot p.slot (λ e. absurd (false≢true (sym (lt-no p.slot w.place.slot (omega arith)) ∙ less)))
  | inr apart ↦ ap (λ b. b && (w.place.slot == p.slot)) apart.0
]

-- whether two versions stand at one place
at-either : (u w : Placed) → is_at u.place w ≡ false → is_at w.place u ≡ false
at-either u w h = elim (eqb_tells u.place.page w.place.page) [
  | inl page ↦ elim (eqb_tells u.place.slot w.place.slot) [
    | inl slot ↦ absurd (false≢true (sym h ∙ ap (λ b. b && (w.place.slot == u.place.slot)) (eq-yes w.place.page u.place.page (sym page.1))
        ∙ eq-yes w.place.slot u.place.slot (sym slot.1)))
    | inr apart ↦ ap (λ b. b && (u.place.slot == w.place.slot)) page.0 ∙ apart.0
  ]
  | inr apart ↦ ap (λ b. b && (u.place.slot == w.place.slot)) apart.0
]

-- no other version stands at the place of one
pub differ-in-order : (pages : List ℕ) (xs : List Placed) (v : Placed) (ys : List Placed) → AreInOrder pages (xs ++ v ∷ ys)
    → AllByRecursion (λ w. is_at v.place w ≡ false) (xs ++ ys)
differ-in-order pages [] v ys order =
    all-weaker (Precedes pages v) (λ w. is_at v.place w ≡ false) ys (λ w p. apart-from (pages_behind pages v.place.page) v.place w p.later) order.0
differ-in-order pages (x ∷ xs) v ys order = (
  at-either x v (apart-from (pages_behind pages x.place.page) x.place v (all-middle (Precedes pages x) xs v ys order.0).later),
  differ-in-order pages xs v ys order.1,
)

pub version-in-order : (xs : List Placed) (v : Placed) (ys : List Placed) → AllByRecursion (λ w. is_at v.place w ≡ false) (xs ++ ys)
    → version_at (xs ++ v ∷ ys) v.place ≡ Some v.version
version-in-order [] v ys apart =
    let here : is_at v.place v ≡ true = ap (λ b. b && (v.place.slot == v.place.slot)) (eq-yes v.place.page v.place.page refl) ∙ eq-yes v.place.slot v.place.slot refl in
    ap (λ b. if b then Some v.version else version_at ys v.place) here
version-in-order (x ∷ xs) v ys apart =
    ap (λ b. if b then Some x.version else version_at (xs ++ v ∷ ys) v.place) apart.0 ∙ version-in-order xs v ys apart.1
