-- Lists of frames: what is in them, their links, and one frame taken out.
use Rattle.std.proofs.Common.{◌≡◌, ℕ, ◌<◌, ◌^◌, Bool, true, false, not, ◌&&◌, ◌||◌, ◌==◌, if◌then◌else◌, T, List, [], ◌∷◌, ◌++◌, length, refl, sym, ap, subst, ◌∙◌, arith}
use lib.Dec.{eqb→eq, eqb_refl}
use Rattle.std.proofs.Math.Bool.{and-true}
use Rattle.std.proofs.Common.{append-nil}
use native.Mathlib.Nat.{not-suc-le-zero}
use borrow.Rule.Slice.PartMut.{put_mid}
use Rattle.hg_raw.specs.Frames.{Frame, numbers, is_in, distinct, apart, bytes_of, without, minus, with_bytes}
use Rattle.hg_raw.specs.Links.{first_of, last_of, nil, half, word, linked, relinked, from, behind, before, Sized, Below}

-- ---- tests
pub same : (m : ℕ) → (m == m) ≡ true
same m = elim (m == m) as (λ t. T t → t ≡ true) [ true ↦ λ _. refl | false ↦ λ h. absurd h ] (eqb_refl m)

pub clash : {X : Type 0} → (b : Bool) → b ≡ true → b ≡ false → X
clash true h k = absurd (subst T k tt)
clash false h k = absurd (subst T (sym h) tt)

pub case_eq : (m n : ℕ) (P : Bool → Type 0) → (m ≡ n → P true) → ((m ≡ n → ⊥) → P false) → P (m == n)
case_eq m n P eq ne =
    let go : (t : Bool) → (m == n) ≡ t → P t = λ t. elim t as (λ t. (m == n) ≡ t → P t) [
      | true ↦ λ e. eq (eqb→eq m n (subst T (sym e) tt))
      | false ↦ λ e. ne (λ h. clash (m == n) (subst (λ k. (m == k) ≡ true) h (same m)) e)
    ] in go (m == n) refl

pub differ : (m n : ℕ) → (m ≡ n → ⊥) → (m == n) ≡ false
differ m n ne = case_eq m n (λ t. t ≡ false) (λ h. absurd (ne h)) (λ _. refl)

pub fst_true : (a b : Bool) → (a && b) ≡ true → a ≡ true
fst_true true b h = refl
fst_true false b h = h

pub snd_true : (a b : Bool) → (a && b) ≡ true → b ≡ true
snd_true true b h = h
snd_true false b h = clash false h refl

pub not_true : (a : Bool) → not a ≡ true → a ≡ false
not_true true h = clash false h refl
not_true false h = refl

pub or_false : (a b : Bool) → (a || b) ≡ false → (a ≡ false) × (b ≡ false)
or_false true b h = clash true refl h
or_false false b h = (refl, h)

pub by_bool : {X : Type 0} → (b : Bool) → (b ≡ true → X) → (b ≡ false → X) → X
by_bool true f g = f refl
by_bool false f g = g refl

pub or_right : (a b : Bool) → b ≡ true → (a || b) ≡ true
or_right true b h = refl
or_right false b h = h

pub or_rest : (a b : Bool) → (a || b) ≡ true → a ≡ false → b ≡ true
or_rest true b h k = clash true refl k
or_rest false b h k = h

-- ---- what is in a list
pub below-at : (N : ℕ) (ns : List ℕ) (n : ℕ) → Below N ns → is_in n ns ≡ true → n < N
below-at N [] n b h = clash false h refl
below-at N (m ∷ ms) n b h = case_eq m n (λ t. (t || is_in n ms) ≡ true → n < N) (λ e _. subst (λ k. k < N) e b.0) (λ _ i. below-at N ms n b.1 i) h

pub sized-at : (s : ℕ) (fs : List Frame) (n : ℕ) → Sized s fs → is_in n (numbers fs) ≡ true → length (bytes_of fs n) ≡ s
sized-at s [] n z h = clash false h refl
sized-at s (f ∷ fs) n z h = case_eq f.0 n (λ t. (t || is_in n (numbers fs)) ≡ true → length (if t then f.1 else bytes_of fs n) ≡ s) (λ e _. z.0) (λ _ i. sized-at s fs n z.1 i) h

pub linked-numbers : (p : ℕ) (ns : List ℕ) → numbers (linked p ns) ≡ ns
linked-numbers p [] = refl
linked-numbers p (n ∷ ns) = ap (λ (ms : List ℕ). n ∷ ms) (linked-numbers n ns)

pub linked-sized : (p : ℕ) (ns : List ℕ) → Sized 8 (linked p ns)
linked-sized p [] = tt
linked-sized p (n ∷ ns) = (refl, linked-sized n ns)

pub numbers-append : (xs ys : List Frame) → numbers (xs ++ ys) ≡ numbers xs ++ numbers ys
numbers-append [] ys = refl
numbers-append (x ∷ xs) ys = ap (λ (ms : List ℕ). x.0 ∷ ms) (numbers-append xs ys)

pub sized-append : (s : ℕ) (xs ys : List Frame) → Sized s xs → Sized s ys → Sized s (xs ++ ys)
sized-append s [] ys a b = b
sized-append s (x ∷ xs) ys a b = (a.0, sized-append s xs ys a.1 b)

pub below-append : (N : ℕ) (xs ys : List ℕ) → Below N xs → Below N ys → Below N (xs ++ ys)
below-append N [] ys a b = b
below-append N (x ∷ xs) ys a b = (a.0, below-append N xs ys a.1 b)

pub in-append : (n : ℕ) (xs ys : List ℕ) → is_in n (xs ++ ys) ≡ (is_in n xs || is_in n ys)
in-append n [] ys = refl
in-append n (x ∷ xs) ys = elim (x == n) as (λ t. (t || is_in n (xs ++ ys)) ≡ ((t || is_in n xs) || is_in n ys)) [ true ↦ refl | false ↦ in-append n xs ys ]

pub distinct-append : (xs ys : List ℕ) → distinct xs ≡ true → distinct ys ≡ true → apart xs ys ≡ true → distinct (xs ++ ys) ≡ true
distinct-append [] ys a b c = b
distinct-append (x ∷ xs) ys a b c =
    let out : is_in x (xs ++ ys) ≡ false = in-append x xs ys ∙ ap (λ t. t || is_in x ys) (not_true _ (fst_true _ _ a)) ∙ not_true _ (fst_true _ _ c) in
    ap (λ t. not t && distinct (xs ++ ys)) out ∙ distinct-append xs ys (snd_true _ _ a) b (snd_true _ _ c)

pub no_nil : (N : ℕ) (ns : List ℕ) → N < 2 ^ 32 → Below N ns → is_in nil ns ≡ false
no_nil N [] small b = refl
no_nil N (n ∷ ns) small b = ap (λ t. t || is_in nil ns) (differ n nil (λ e. absurd (subst (λ k. k < N → ⊥) (sym e) (λ h. omega (arith, h, small)) b.0))) ∙ no_nil N ns small b.1

-- ---- links
pub linked-word : (p : ℕ) (ns : List ℕ) (n : ℕ) → is_in n ns ≡ true → bytes_of (linked p ns) n ≡ word (before p ns n) (first_of (behind n ns))
linked-word p [] n h = clash false h refl
linked-word p (m ∷ ms) n h =
    elim (m == n) as (λ t. (t || is_in n ms) ≡ true → (if t then word p (first_of ms) else bytes_of (linked m ms) n) ≡ word (if t then p else before m ms n) (first_of (if t then ms else behind n ms))) [
      | true ↦ λ _. refl
      | false ↦ λ i. linked-word m ms n i
    ] h

pub from-first : (ns : List ℕ) → from (first_of ns) ns ≡ ns
from-first [] = refl
from-first (n ∷ ns) = ap (λ t. if t then n ∷ ns else from n ns) (same n)

pub from-behind : (n : ℕ) (ns : List ℕ) → is_in n ns ≡ true → from n ns ≡ n ∷ behind n ns
from-behind n [] h = clash false h refl
from-behind n (m ∷ ms) h = case_eq m n (λ t. (t || is_in n ms) ≡ true → (if t then m ∷ ms else from n ms) ≡ n ∷ (if t then ms else behind n ms)) (λ e _. ap (λ (k : ℕ). k ∷ ms) e) (λ _ i. from-behind n ms i) h

pub first-other : (k : ℕ) (ns : List ℕ) → is_in k ns ≡ false → (k ≡ nil → ⊥) → (k == first_of ns) ≡ false
first-other k [] out real = differ k nil real
first-other k (m ∷ ms) out real = differ k m (λ e. clash (m == k) (subst (λ j. (m == j) ≡ true) (sym e) (same m)) (or_false _ _ out).0)

-- the first of what is behind n is in the list, or there is none
pub next-other : (k n : ℕ) (ns : List ℕ) → is_in k ns ≡ false → (k ≡ nil → ⊥) → (k == first_of (behind n ns)) ≡ false
next-other k n [] out real = differ k nil real
next-other k n (m ∷ ms) out real =
    elim (m == n) as (λ t. (k == first_of (if t then ms else behind n ms)) ≡ false) [
      | true ↦ first-other k ms (or_false _ _ out).1 real
      | false ↦ next-other k n ms (or_false _ _ out).1 real
    ]

-- the frame behind n is where the rest begins
pub from-next : (N n : ℕ) (ns : List ℕ) → N < 2 ^ 32 → Below N ns → distinct ns ≡ true → is_in n ns ≡ true → from (first_of (behind n ns)) ns ≡ behind n ns
from-next N n [] small b d h = clash false h refl
from-next N n (m ∷ ms) small b d h =
    let real : m ≡ nil → ⊥ = λ e. clash (m == nil) (subst (λ k. (m == k) ≡ true) e (same m)) (or_false _ _ (no_nil N (m ∷ ms) small b)).0 in
    let out : is_in m ms ≡ false = not_true _ (fst_true _ _ d) in
    elim (m == n) as (λ t. (t || is_in n ms) ≡ true → from (first_of (if t then ms else behind n ms)) (m ∷ ms) ≡ (if t then ms else behind n ms)) [
      | true ↦ λ _. ap (λ t. if t then m ∷ ms else from (first_of ms) ms) (first-other m ms out real) ∙ from-first ms
      | false ↦ λ i. ap (λ t. if t then m ∷ ms else from (first_of (behind n ms)) ms) (next-other m n ms out real) ∙ from-next N n ms small b.1 (snd_true _ _ d) i
    ] h

-- ---- a frame taken out
pub numbers-without : (fs : List Frame) (n : ℕ) → numbers (without fs n) ≡ minus (numbers fs) n
numbers-without [] n = refl
numbers-without (f ∷ fs) n = elim (f.0 == n) as (λ t. numbers (if t then fs else f ∷ without fs n) ≡ (if t then numbers fs else f.0 ∷ minus (numbers fs) n)) [ true ↦ refl | false ↦ ap (λ (ms : List ℕ). f.0 ∷ ms) (numbers-without fs n) ]

pub sized-without : (s : ℕ) (fs : List Frame) (n : ℕ) → Sized s fs → Sized s (without fs n)
sized-without s [] n z = tt
sized-without s (f ∷ fs) n z = elim (f.0 == n) as (λ t. Sized s (if t then fs else f ∷ without fs n)) [ true ↦ z.1 | false ↦ (z.0, sized-without s fs n z.1) ]

pub below-minus : (N : ℕ) (ns : List ℕ) (n : ℕ) → Below N ns → Below N (minus ns n)
below-minus N [] n z = tt
below-minus N (m ∷ ms) n z = elim (m == n) as (λ t. Below N (if t then ms else m ∷ minus ms n)) [ true ↦ z.1 | false ↦ (z.0, below-minus N ms n z.1) ]

pub out-minus : (k n : ℕ) (ns : List ℕ) → is_in k ns ≡ false → is_in k (minus ns n) ≡ false
out-minus k n [] h = refl
out-minus k n (m ∷ ms) h = elim (m == n) as (λ t. is_in k (if t then ms else m ∷ minus ms n) ≡ false) [ true ↦ (or_false _ _ h).1 | false ↦ ap (λ t. t || is_in k (minus ms n)) (or_false _ _ h).0 ∙ out-minus k n ms (or_false _ _ h).1 ]

pub distinct-minus : (ns : List ℕ) (n : ℕ) → distinct ns ≡ true → distinct (minus ns n) ≡ true
distinct-minus [] n d = refl
distinct-minus (m ∷ ms) n d = elim (m == n) as (λ t. distinct (if t then ms else m ∷ minus ms n) ≡ true) [
  | true ↦ snd_true _ _ d
  | false ↦ ap (λ t. not t && distinct (minus ms n)) (out-minus m n ms (not_true _ (fst_true _ _ d))) ∙ distinct-minus ms n (snd_true _ _ d)
]

pub in-minus : (k n : ℕ) (ns : List ℕ) → distinct ns ≡ true → is_in k (minus ns n) ≡ (is_in k ns && not (k == n))
in-minus k n [] d = refl
in-minus k n (m ∷ ms) d =
    let out : is_in m ms ≡ false = not_true _ (fst_true _ _ d) in
    case_eq m n (λ t. is_in k (if t then ms else m ∷ minus ms n) ≡ (((m == k) || is_in k ms) && not (k == n)))
    (λ e. case_eq m k (λ t. is_in k ms ≡ ((t || is_in k ms) && not (k == n)))
    (λ j. subst (λ i. is_in i ms ≡ false) j out ∙ sym (ap (λ t. not t) (subst (λ i. (i == n) ≡ true) j (subst (λ i. (m == i) ≡ true) e (same m)))))
    (λ j. sym (ap (λ t. is_in k ms && not t) (differ k n (λ h. j (e ∙ sym h))) ∙ and-true (is_in k ms))))
    (λ e. case_eq m k (λ t. (t || is_in k (minus ms n)) ≡ ((t || is_in k ms) && not (k == n)))
    (λ j. sym (ap (λ t. not t) (differ k n (λ h. e (j ∙ h)))))
    (λ _. in-minus k n ms (snd_true _ _ d)))

pub in-others : (n k : ℕ) (ns : List ℕ) → (n ≡ k → ⊥) → is_in n ns ≡ true → is_in n (minus ns k) ≡ true
in-others n k [] ne h = h
in-others n k (m ∷ ms) ne h =
    case_eq m k (λ t. is_in n (if t then ms else m ∷ minus ms k) ≡ true)
    (λ e. or_rest (m == n) (is_in n ms) h (differ m n (λ j. ne (sym j ∙ e))))
    (λ _. case_eq m n (λ t. (t || is_in n (minus ms k)) ≡ true) (λ _. refl) (λ j. in-others n k ms ne (or_rest (m == n) (is_in n ms) h (differ m n j))))

-- a number in both lists, where they are not apart
pub in-both : (ns ms : List ℕ) → apart ns ms ≡ false → (n : ℕ) × (is_in n ns ≡ true) × (is_in n ms ≡ true)
in-both [] ms e = clash true refl e
in-both (n ∷ ns) ms e =
    by_bool (is_in n ms)
    (λ h. (n, ap (λ t. t || is_in n ns) (same n), h))
    (λ h. let r = in-both ns ms (sym (ap (λ t. not t && apart ns ms) h) ∙ e) in (r.0, or_right (n == r.0) (is_in r.0 ns) r.1, r.2))

pub bytes-without : (fs : List Frame) (k n : ℕ) → (k ≡ n → ⊥) → bytes_of (without fs n) k ≡ bytes_of fs k
bytes-without [] k n ne = refl
bytes-without (f ∷ fs) k n ne =
    case_eq f.0 n (λ t. bytes_of (if t then fs else f ∷ without fs n) k ≡ (if f.0 == k then f.1 else bytes_of fs k))
    (λ e. sym (ap (λ t. if t then f.1 else bytes_of fs k) (differ f.0 k (λ h. ne (sym h ∙ e)))))
    (λ _. ap (λ (b : List ℕ). if f.0 == k then f.1 else b) (bytes-without fs k n ne))

pub first-minus : (ns : List ℕ) (f : ℕ) → is_in f ns ≡ true → first_of (minus ns f) ≡ (if first_of ns == f then first_of (behind f ns) else first_of ns)
first-minus [] f h = clash false h refl
first-minus (m ∷ ms) f h = elim (m == f) as (λ t. first_of (if t then ms else m ∷ minus ms f) ≡ (if t then first_of (if t then ms else behind f ms) else m)) [ true ↦ refl | false ↦ refl ]

-- a list that is not empty ends in one of its own
pub last-in : (n : ℕ) (ns : List ℕ) → is_in (last_of (n ∷ ns)) (n ∷ ns) ≡ true
last-in n [] = ap (λ t. t || false) (same n)
last-in n (m ∷ ms) = elim (n == last_of (m ∷ ms)) as (λ t. (t || is_in (last_of (m ∷ ms)) (m ∷ ms)) ≡ true) [ true ↦ refl | false ↦ last-in m ms ]

before-skips : (p q m : ℕ) (ms : List ℕ) (f : ℕ) → (m == f) ≡ false → before p (m ∷ ms) f ≡ before q (m ∷ ms) f
before-skips p q m ms f e = ap (λ t. if t then p else before m ms f) e ∙ sym (ap (λ t. if t then q else before m ms f) e)

-- the frame before f is in the list, where f is not the first
pub before-in : (p m : ℕ) (ms : List ℕ) (f : ℕ) → (m == f) ≡ false → is_in f ms ≡ true → is_in (before p (m ∷ ms) f) (m ∷ ms) ≡ true
before-in p m [] f e h = clash false h refl
before-in p m (k ∷ ks) f e h =
    ap (λ (n : ℕ). is_in n (m ∷ k ∷ ks)) (ap (λ t. if t then p else before m (k ∷ ks) f) e) ∙
    by_bool (k == f)
    (λ t. ap (λ (n : ℕ). is_in n (m ∷ k ∷ ks)) (ap (λ t. if t then m else before k ks f) t) ∙ ap (λ t. t || is_in m (k ∷ ks)) (same m))
    (λ t. let i : is_in (before m (k ∷ ks) f) (k ∷ ks) ≡ true = before-in m k ks f t (subst (λ (u : Bool). (u || is_in f ks) ≡ true) t h) in
    or_right (m == before m (k ∷ ks) f) (is_in (before m (k ∷ ks) f) (k ∷ ks)) i)

last-second : (m k : ℕ) (ks : List ℕ) (f : ℕ) → (m == f) ≡ false → (k == f) ≡ true → is_in k ks ≡ false → last_of (m ∷ ks) ≡ (if last_of (k ∷ ks) == f then m else last_of (k ∷ ks))
last-second m k [] f t u out = sym (ap (λ v. if v then m else k) u)
last-second m k (j ∷ js) f t u out =
    let e : k ≡ f = eqb→eq k f (subst T (sym u) tt) in
    sym (ap (λ v. if v then m else last_of (j ∷ js)) (differ (last_of (j ∷ js)) f (λ g. clash (is_in k (j ∷ js)) (subst (λ i. is_in i (j ∷ js) ≡ true) (g ∙ sym e) (last-in j js)) out)))

pub last-minus : (ns : List ℕ) (f : ℕ) → is_in nil ns ≡ false → distinct ns ≡ true → is_in f ns ≡ true → last_of (minus ns f) ≡ (if last_of ns == f then before nil ns f else last_of ns)
last-minus [] f no_nil d h = clash false h refl
last-minus (m ∷ []) f no_nil d h = elim (m == f) as (λ t. (t || false) ≡ true → last_of (if t then [] else m ∷ []) ≡ (if t then (if t then nil else nil) else m)) [ true ↦ λ _. refl | false ↦ λ i. clash false i refl ] h
last-minus (m ∷ k ∷ ks) f no_nil d h =
    let out : is_in m (k ∷ ks) ≡ false = not_true _ (fst_true _ _ d) in
    let d' : distinct (k ∷ ks) ≡ true = snd_true _ _ d in
    let out' : is_in k ks ≡ false = not_true _ (fst_true _ _ d') in
    by_bool (m == f)
    (λ t. let e : m ≡ f = eqb→eq m f (subst T (sym t) tt) in
    ap (λ u. last_of (if u then k ∷ ks else m ∷ minus (k ∷ ks) f)) t ∙
    sym (ap (λ u. if u then before nil (m ∷ k ∷ ks) f else last_of (k ∷ ks)) (differ (last_of (k ∷ ks)) f (λ g. clash (is_in m (k ∷ ks)) (subst (λ j. is_in j (k ∷ ks) ≡ true) (g ∙ sym e) (last-in k ks)) out))))
    (λ t. let i : is_in f (k ∷ ks) ≡ true = subst (λ (u : Bool). (u || is_in f (k ∷ ks)) ≡ true) t h in
    ap (λ u. last_of (if u then k ∷ ks else m ∷ minus (k ∷ ks) f)) t ∙
    by_bool (k == f)
    (λ u. ap (λ v. last_of (m ∷ (if v then ks else k ∷ minus ks f))) u ∙ last-second m k ks f t u out' ∙ sym (ap (λ (b : ℕ). if last_of (k ∷ ks) == f then b else last_of (k ∷ ks)) (ap (λ v. if v then nil else before m (k ∷ ks) f) t ∙ ap (λ v. if v then m else before k ks f) u)))
    (λ u. ap (λ v. last_of (m ∷ (if v then ks else k ∷ minus ks f))) u ∙ sym (ap (λ v. last_of (if v then ks else k ∷ minus ks f)) u) ∙ last-minus (k ∷ ks) f (or_false _ _ no_nil).1 d' i ∙
    ap (λ (b : ℕ). if last_of (k ∷ ks) == f then b else last_of (k ∷ ks)) (before-skips nil m k ks f u ∙ sym (ap (λ v. if v then nil else before m (k ∷ ks) f) t))))

-- ---- a frame written
pub with-none : (fs : List Frame) (n : ℕ) (w : List ℕ) → is_in n (numbers fs) ≡ false → with_bytes fs n w ≡ fs
with-none [] n w out = refl
with-none (f ∷ fs) n w out = ap (λ t. if t then (f.0, w) ∷ fs else f ∷ with_bytes fs n w) (or_false _ _ out).0 ∙ ap (λ (gs : List Frame). f ∷ gs) (with-none fs n w (or_false _ _ out).1)

pub numbers-with : (fs : List Frame) (n : ℕ) (w : List ℕ) → numbers (with_bytes fs n w) ≡ numbers fs
numbers-with [] n w = refl
numbers-with (f ∷ fs) n w = elim (f.0 == n) as (λ t. numbers (if t then (f.0, w) ∷ fs else f ∷ with_bytes fs n w) ≡ f.0 ∷ numbers fs) [ true ↦ refl | false ↦ ap (λ (ms : List ℕ). f.0 ∷ ms) (numbers-with fs n w) ]

pub sized-with : (s : ℕ) (fs : List Frame) (n : ℕ) (w : List ℕ) → (is_in n (numbers fs) ≡ true → length w ≡ s) → Sized s fs → Sized s (with_bytes fs n w)
sized-with s [] n w l z = tt
sized-with s (f ∷ fs) n w l z = elim (f.0 == n) as (λ t. ((t || is_in n (numbers fs)) ≡ true → length w ≡ s) → Sized s (if t then (f.0, w) ∷ fs else f ∷ with_bytes fs n w)) [ true ↦ λ l. (l refl, z.1) | false ↦ λ l. (z.0, sized-with s fs n w l z.1) ] l

pub first-append : (ns ms : List ℕ) → is_in nil ns ≡ false → first_of (ns ++ ms) ≡ (if first_of ns == nil then first_of ms else first_of ns)
first-append [] ms h = refl
first-append (n ∷ ns) ms h = sym (ap (λ t. if t then first_of ms else n) (or_false _ _ h).0)

last-not-nil : (n : ℕ) (ns : List ℕ) → is_in nil (n ∷ ns) ≡ false → (last_of (n ∷ ns) == nil) ≡ false
last-not-nil n ns h = differ (last_of (n ∷ ns)) nil (λ e. clash (is_in nil (n ∷ ns)) (subst (λ k. is_in k (n ∷ ns) ≡ true) e (last-in n ns)) h)

last-behind : (ns : List ℕ) (m : ℕ) (ms : List ℕ) → last_of (ns ++ m ∷ ms) ≡ last_of (m ∷ ms)
last-behind [] m ms = refl
last-behind (n ∷ []) m ms = refl
last-behind (n ∷ k ∷ ns) m ms = last-behind (k ∷ ns) m ms

pub last-append : (ns ms : List ℕ) → is_in nil ms ≡ false → last_of (ns ++ ms) ≡ (if last_of ms == nil then last_of ns else last_of ms)
last-append ns [] h = ap last_of (append-nil ns)
last-append ns (m ∷ ms) h = last-behind ns m ms ∙ sym (ap (λ t. if t then last_of ns else last_of (m ∷ ms)) (last-not-nil m ms h))

-- ---- a word written
set-here : (m n at to : ℕ) (w : List ℕ) (fs : List Frame) → (m == n) ≡ true → relinked ((m, w) ∷ fs) n at to ≡ (m, put_mid at 4 w (half to)) ∷ fs
set-here m n at to w fs e = ap (λ t. if t then (m, put_mid at 4 (if t then w else bytes_of fs n) (half to)) ∷ fs else (m, w) ∷ with_bytes fs n (put_mid at 4 (if t then w else bytes_of fs n) (half to))) e

set-past : (m n at to : ℕ) (w : List ℕ) (fs : List Frame) → (m == n) ≡ false → relinked ((m, w) ∷ fs) n at to ≡ (m, w) ∷ relinked fs n at to
set-past m n at to w fs e = ap (λ t. if t then (m, put_mid at 4 (if t then w else bytes_of fs n) (half to)) ∷ fs else (m, w) ∷ with_bytes fs n (put_mid at 4 (if t then w else bytes_of fs n) (half to))) e

set-none : (fs : List Frame) (n at to : ℕ) → is_in n (numbers fs) ≡ false → relinked fs n at to ≡ fs
set-none fs n at to out = with-none fs n (put_mid at 4 (bytes_of fs n) (half to)) out

-- another frame before the first
first-set : (q p : ℕ) (ms : List ℕ) → relinked (linked q ms) (first_of ms) 0 p ≡ linked p ms
first-set q p [] = refl
first-set q p (m ∷ ms) = set-here m m 0 p (word q (first_of ms)) (linked m ms) (same m)

-- others behind the last
last-set : (p n : ℕ) (ns ms : List ℕ) → distinct (n ∷ ns) ≡ true → relinked (linked p (n ∷ ns)) (last_of (n ∷ ns)) 4 (first_of ms) ++ linked (last_of (n ∷ ns)) ms ≡ linked p (n ∷ ns ++ ms)
last-set p n [] ms d = ap (λ (fs : List Frame). fs ++ linked n ms) (set-here n n 4 (first_of ms) (word p nil) [] (same n))
last-set p n (k ∷ ns) ms d =
    let last : ℕ = last_of (k ∷ ns) in
    let ne : (n == last) ≡ false = differ n last (λ e. clash (is_in n (k ∷ ns)) (subst (λ j. is_in j (k ∷ ns) ≡ true) (sym e) (last-in k ns)) (not_true _ (fst_true _ _ d))) in
    ap (λ (fs : List Frame). fs ++ linked last ms) (set-past n last 4 (first_of ms) (word p k) (linked n (k ∷ ns)) ne) ∙
    ap (λ (fs : List Frame). (n, word p k) ∷ fs) (last-set n k ns ms (snd_true _ _ d))

-- the last of the first list and the first of the other one are linked
pub linked-join : (ns ms : List ℕ) → distinct ns ≡ true → relinked (linked nil ns) (last_of ns) 4 (first_of ms) ++ relinked (linked nil ms) (first_of ms) 0 (last_of ns) ≡ linked nil (ns ++ ms)
linked-join [] ms d = first-set nil nil ms
linked-join (n ∷ ns) ms d =
    let last : ℕ = last_of (n ∷ ns) in
    ap (λ (fs : List Frame). relinked (linked nil (n ∷ ns)) last 4 (first_of ms) ++ fs) (first-set nil last ms) ∙ last-set nil n ns ms d

-- the frames before f and behind it are linked, and f is taken out
abbrev taken_out : List ℕ → ℕ → ℕ → ℕ → ℕ → List Frame
taken_out ns p f b x = without (relinked (relinked (linked p ns) b 4 x) x 0 b) f

taken-first : (p m : ℕ) (ms : List ℕ) (f : ℕ) → is_in p (m ∷ ms) ≡ false → is_in m ms ≡ false → (m ≡ nil → ⊥) → (m == f) ≡ true
    → taken_out (m ∷ ms) p f (before p (m ∷ ms) f) (first_of (behind f (m ∷ ms))) ≡ linked p (minus (m ∷ ms) f)
taken-first p m ms f out own real t =
    let x : ℕ = first_of ms in
    let L : List Frame = linked m ms in
    let w : List ℕ = word p x in
    ap (λ u. taken_out (m ∷ ms) p f (if u then p else before m ms f) (first_of (if u then ms else behind f ms))) t
    ∙ ap (λ (fs : List Frame). without (relinked fs x 0 p) f) (set-none (linked p (m ∷ ms)) p 4 x (ap (is_in p) (linked-numbers p (m ∷ ms)) ∙ out))
    ∙ ap (λ (fs : List Frame). without fs f) (set-past m x 0 p w L (first-other m ms own real))
    ∙ ap (λ (fs : List Frame). without ((m, w) ∷ fs) f) (first-set m p ms)
    ∙ ap (λ u. if u then linked p ms else (m, w) ∷ without (linked p ms) f) t
    ∙ sym (ap (λ u. linked p (if u then ms else m ∷ minus ms f)) t)

pub linked-minus : (p : ℕ) (ns : List ℕ) (f : ℕ) → is_in p ns ≡ false → is_in nil ns ≡ false → distinct ns ≡ true → is_in f ns ≡ true → taken_out ns p f (before p ns f) (first_of (behind f ns)) ≡ linked p (minus ns f)
linked-minus p [] f out free d h = clash false h refl
linked-minus p (m ∷ []) f out free d h =
    by_bool (m == f)
    (λ t. taken-first p m [] f out refl (λ e. clash (m == nil) (subst (λ k. (m == k) ≡ true) e (same m)) (or_false _ _ free).0) t)
    (λ t. clash (m == f || false) h (ap (λ u. u || false) t))
linked-minus p (m ∷ k ∷ ks) f out free d h =
    let ms : List ℕ = k ∷ ks in
    let own : is_in m ms ≡ false = not_true _ (fst_true _ _ d) in
    let real : m ≡ nil → ⊥ = λ e. clash (m == nil) (subst (λ k. (m == k) ≡ true) e (same m)) (or_false _ _ free).0 in
    by_bool (m == f)
    (λ t. taken-first p m ms f out own real t)
    (λ t. let i : is_in f ms ≡ true = subst (λ (u : Bool). (u || is_in f ms) ≡ true) t h in
    let b : ℕ = before m ms f in
    let x : ℕ = first_of (behind f ms) in
    let L : List Frame = linked m ms in
    let far : (m == x) ≡ false = next-other m f ms own real in
    let rest : taken_out ms m f b x ≡ linked m (minus ms f) = linked-minus m (k ∷ ks) f own (or_false _ _ free).1 (snd_true _ _ d) i in
    ap (λ u. taken_out (m ∷ ms) p f (if u then p else b) (first_of (if u then ms else behind f ms))) t ∙
    by_bool (k == f)
    (λ u.
    let is_m : b ≡ m = ap (λ v. if v then m else before k ks f) u in
    let w : List ℕ = word p x in
    ap (λ (fs : List Frame). without (relinked fs x 0 b) f) (set-here m b 4 x (word p k) L (ap (λ (c : ℕ). m == c) is_m ∙ same m)) ∙
    ap (λ (fs : List Frame). without fs f) (set-past m x 0 b w L far) ∙
    ap (λ v. if v then relinked L x 0 b else (m, w) ∷ without (relinked L x 0 b) f) t ∙
    ap (λ (fs : List Frame). (m, w) ∷ without (relinked fs x 0 b) f) (sym (set-none L b 4 x (ap (is_in b) (linked-numbers m ms) ∙ ap (λ (c : ℕ). is_in c ms) is_m ∙ own))) ∙
    ap (λ (fs : List Frame). (m, w) ∷ fs) rest ∙
    ap (λ (n : ℕ). (m, word p n) ∷ linked m (minus ms f)) (ap (λ v. first_of (if v then ks else behind f ks)) u ∙ sym (ap (λ v. first_of (if v then ks else k ∷ minus ks f)) u)))
    (λ u.
    let w : List ℕ = word p k in
    let off : (m == b) ≡ false = differ m b (λ e. clash (is_in m ms) (subst (λ j. is_in j ms ≡ true) (sym e) (before-in m k ks f u (subst (λ (v : Bool). (v || is_in f ks) ≡ true) u i))) own) in
    ap (λ (fs : List Frame). without (relinked fs x 0 b) f) (set-past m b 4 x w L off) ∙
    ap (λ (fs : List Frame). without fs f) (set-past m x 0 b w (relinked L b 4 x) far) ∙
    ap (λ v. if v then relinked (relinked L b 4 x) x 0 b else (m, w) ∷ without (relinked (relinked L b 4 x) x 0 b) f) t ∙
    ap (λ (fs : List Frame). (m, w) ∷ fs) rest ∙
    ap (λ (n : ℕ). (m, word p n) ∷ linked m (minus ms f)) (sym (ap (λ v. first_of (if v then ks else k ∷ minus ks f)) u))) ∙
    sym (ap (λ u. linked p (if u then ms else m ∷ minus ms f)) t))

pub held-in : (fs : List Frame) (n s : ℕ) → length (bytes_of fs n) ≡ s → 0 < s → is_in n (numbers fs) ≡ true
held-in [] n s l pos = absurd (not-suc-le-zero (subst (λ k. 0 < k) (sym l) pos))
held-in (f ∷ fs) n s l pos = elim (f.0 == n) as (λ t. length (if t then f.1 else bytes_of fs n) ≡ s → (t || is_in n (numbers fs)) ≡ true) [ true ↦ λ _. refl | false ↦ λ l. held-in fs n s l pos ] l

pub bytes-append : (fs gs : List Frame) (k : ℕ) → bytes_of (fs ++ gs) k ≡ (if is_in k (numbers fs) then bytes_of fs k else bytes_of gs k)
bytes-append [] gs k = refl
bytes-append (f ∷ fs) gs k = elim (f.0 == k) as (λ t. (if t then f.1 else bytes_of (fs ++ gs) k) ≡ (if t || is_in k (numbers fs) then (if t then f.1 else bytes_of fs k) else bytes_of gs k)) [ true ↦ refl | false ↦ bytes-append fs gs k ]
