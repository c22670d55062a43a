-- The frames at home, by number.
use Rattle.std.proofs.Common.{◌≡◌, ℕ, zero, suc, ◌<◌, ◌≤◌, Bool, true, false, not, ◌&&◌, ◌||◌, ◌==◌, if◌then◌else◌, List, [], ◌∷◌, ◌++◌, length, map, replicate, get_or, slice_set, None, Some, refl, sym, ap, subst, ◌∙◌, arith, append_assoc, append-nil}
use Rattle.std.proofs.Math.ListN.{set, length-set, length-replicate}
use Rattle.std.proofs.Math.Bool.{and-true}
use Rattle.std.proofs.lemmas.List.{ext_get_or, get_or-set_same, get_or-set_other, get_or-replicate}
use Rattle.std.proofs.lemmas.List.FromFn.{length-map-range_with_len, get_or-map-range_with_len}
use Rattle.std.specs.List.{range_with_len}
use Rattle.hg_raw.specs.Frames.{Frame, numbers, is_in, distinct, apart, bytes_of, without, minus, put_home, fresh_home}
use Rattle.hg_raw.specs.Links.{Sized, Below, zeros, home_of, at_home, flags, marked}
use Rattle.hg_raw.proofs.Lists.{same, clash, case_eq, differ, fst_true, snd_true, not_true, or_false, in-minus, numbers-without, bytes-without, bytes-append, in-append, numbers-append}

-- a list by number, with one of its values changed
pub changed : {X : Type 0} → (f g : ℕ → X) (N n : ℕ) (v d : X) → n < N → g n ≡ v → ((i : ℕ) → (i ≡ n → ⊥) → g i ≡ f i) → map g (range_with_len 0 N) ≡ slice_set (map f (range_with_len 0 N)) n v
changed f g N n v d small at rest =
    let lf : length (map f (range_with_len 0 N)) ≡ N = length-map-range_with_len f 0 N in
    let lg : length (map g (range_with_len 0 N)) ≡ N = length-map-range_with_len g 0 N in
    let ls : length (set (map f (range_with_len 0 N)) n v) ≡ N = length-set (map f (range_with_len 0 N)) n v ∙ lf in
    ext_get_or d _ _ (lg ∙ sym ls) (λ i below.
    let lt : i < N = subst (λ k. i < k) lg below in
    get_or-map-range_with_len g 0 N i i d lt (omega arith) ∙
    case_eq i n (λ _. g i ≡ get_or (set (map f (range_with_len 0 N)) n v) i d)
    (λ e. ap g e ∙ at ∙ sym (subst (λ k. get_or (set (map f (range_with_len 0 N)) n v) k d ≡ v) (sym e) (get_or-set_same (map f (range_with_len 0 N)) n v d (subst (λ k. n < k) (sym lf) small))))
    (λ ne. rest i ne ∙ sym (get_or-set_other (map f (range_with_len 0 N)) n i v d ne ∙ get_or-map-range_with_len f 0 N i i d lt (omega arith))))

pub home-at : (fs : List Frame) (N n : ℕ) → n < N → get_or (at_home fs N) n None ≡ home_of fs n
home-at fs N n small = get_or-map-range_with_len (home_of fs) 0 N n n None small (omega arith)

pub flag-at : (ns : List ℕ) (N n : ℕ) (d : Bool) → n < N → get_or (flags ns N) n d ≡ is_in n ns
flag-at ns N n d small = get_or-map-range_with_len (λ k. is_in k ns) 0 N n n d small (omega arith)

pub length-marked : (fs : List Bool) (ns : List ℕ) → length (marked fs ns) ≡ length fs
length-marked fs [] = refl
length-marked fs (n ∷ ns) = length-marked (slice_set fs n true) ns ∙ length-set fs n true

pub length-flags : (ns : List ℕ) (N : ℕ) → length (flags ns N) ≡ N
length-flags ns N = length-map-range_with_len (λ k. is_in k ns) 0 N

and-false : (b : Bool) → (b && false) ≡ false
and-false true = refl
and-false false = refl

pub home-taken : (fs : List Frame) (N n : ℕ) → n < N → distinct (numbers fs) ≡ true → at_home (without fs n) N ≡ slice_set (at_home fs N) n None
home-taken fs N n small d =
    let gone : (k : ℕ) → is_in k (numbers (without fs n)) ≡ (is_in k (numbers fs) && not (k == n)) = λ k. ap (is_in k) (numbers-without fs n) ∙ in-minus k n (numbers fs) d in
    changed (home_of fs) (home_of (without fs n)) N n None None small
    (ap (λ t. if t then Some (bytes_of (without fs n) n) else None) (gone n ∙ ap (λ t. is_in n (numbers fs) && not t) (same n) ∙ and-false (is_in n (numbers fs))))
    (λ i ne. ap (λ t. if t then Some (bytes_of (without fs n) i) else None) (gone i ∙ ap (λ t. is_in i (numbers fs) && not t) (differ i n ne) ∙ and-true (is_in i (numbers fs))) ∙
    ap (λ (b : List ℕ). if is_in i (numbers fs) then Some b else None) (bytes-without fs i n ne))

pub flags-minus : (ns : List ℕ) (N n : ℕ) → n < N → distinct ns ≡ true → flags (minus ns n) N ≡ slice_set (flags ns N) n false
flags-minus ns N n small d =
    changed (λ k. is_in k ns) (λ k. is_in k (minus ns n)) N n false false small
    (in-minus n n ns d ∙ ap (λ t. is_in n ns && not t) (same n) ∙ and-false (is_in n ns))
    (λ i ne. in-minus i n ns d ∙ ap (λ t. is_in i ns && not t) (differ i n ne) ∙ and-true (is_in i ns))

or-false : (b : Bool) → (b || false) ≡ b
or-false true = refl
or-false false = refl

or-true : (b : Bool) → (b || true) ≡ true
or-true true = refl
or-true false = refl

home-one : (fs : List Frame) (g : Frame) (N : ℕ) → g.0 < N → is_in g.0 (numbers fs) ≡ false → at_home (fs ++ g ∷ []) N ≡ slice_set (at_home fs N) g.0 (Some g.1)
home-one fs g N small out =
    let is : (k : ℕ) → is_in k (numbers (fs ++ g ∷ [])) ≡ (is_in k (numbers fs) || ((g.0 == k) || false)) = λ k. ap (is_in k) (numbers-append fs (g ∷ [])) ∙ in-append k (numbers fs) (g.0 ∷ []) in
    changed (home_of fs) (home_of (fs ++ g ∷ [])) N g.0 (Some g.1) None small
    (ap (λ t. if t then Some (bytes_of (fs ++ g ∷ []) g.0) else None) (is g.0 ∙ ap (λ t. is_in g.0 (numbers fs) || (t || false)) (same g.0) ∙ or-true (is_in g.0 (numbers fs))) ∙
    ap Some (bytes-append fs (g ∷ []) g.0 ∙ ap (λ t. if t then bytes_of fs g.0 else bytes_of (g ∷ []) g.0) out ∙ ap (λ t. if t then g.1 else []) (same g.0)))
    (λ i ne. let far : (g.0 == i) ≡ false = differ g.0 i (λ e. ne (sym e)) in
    ap (λ t. if t then Some (bytes_of (fs ++ g ∷ []) i) else None) (is i ∙ ap (λ t. is_in i (numbers fs) || (t || false)) far ∙ or-false (is_in i (numbers fs))) ∙
    elim (is_in i (numbers fs)) as (λ t. bytes_of (fs ++ g ∷ []) i ≡ (if t then bytes_of fs i else bytes_of (g ∷ []) i) → (if t then Some (bytes_of (fs ++ g ∷ []) i) else None) ≡ (if t then Some (bytes_of fs i) else None)) [ true ↦ λ e. ap Some e | false ↦ λ _. refl ] (bytes-append fs (g ∷ []) i))

apart-head : (ns : List ℕ) (m : ℕ) (ms : List ℕ) → apart ns (m ∷ ms) ≡ true → is_in m ns ≡ false
apart-head [] m ms a = refl
apart-head (n ∷ ns) m ms a =
    ap (λ t. t || is_in m ns) (differ n m (λ e. clash (m == n) (subst (λ k. (m == k) ≡ true) (sym e) (same m)) (or_false _ _ (not_true _ (fst_true _ _ a))).0)) ∙ apart-head ns m ms (snd_true _ _ a)

apart-tail : (ns : List ℕ) (m : ℕ) (ms : List ℕ) → apart ns (m ∷ ms) ≡ true → apart ns ms ≡ true
apart-tail [] m ms a = refl
apart-tail (n ∷ ns) m ms a = ap (λ t. not t && apart ns ms) (or_false _ _ (not_true _ (fst_true _ _ a))).1 ∙ apart-tail ns m ms (snd_true _ _ a)

apart-more : (ns : List ℕ) (m : ℕ) (ms : List ℕ) → apart ns ms ≡ true → is_in m ms ≡ false → apart (ns ++ m ∷ []) ms ≡ true
apart-more [] m ms a out = ap (λ t. not t && true) out
apart-more (n ∷ ns) m ms a out = ap (λ t. t && apart (ns ++ m ∷ []) ms) (fst_true _ _ a) ∙ apart-more ns m ms (snd_true _ _ a) out

pub home-back : (fs gs : List Frame) (N : ℕ) → Below N (numbers gs) → distinct (numbers gs) ≡ true → apart (numbers fs) (numbers gs) ≡ true → at_home (fs ++ gs) N ≡ put_home (at_home fs N) gs
home-back fs [] N small d a = ap (λ (xs : List Frame). at_home xs N) (append-nil fs)
home-back fs (g ∷ gs) N small d a =
    let out : is_in g.0 (numbers gs) ≡ false = not_true _ (fst_true _ _ d) in
    ap (λ (xs : List Frame). at_home xs N) (sym (append_assoc fs (g ∷ []) gs)) ∙
    home-back (fs ++ g ∷ []) gs N small.1 (snd_true _ _ d) (ap (λ (ns : List ℕ). apart ns (numbers gs)) (numbers-append fs (g ∷ [])) ∙ apart-more (numbers fs) g.0 (numbers gs) (apart-tail (numbers fs) g.0 (numbers gs) a) out) ∙
    ap (λ home. put_home home gs) (home-one fs g N small.0 (apart-head (numbers fs) g.0 (numbers gs) a))

flag-one : (ns : List ℕ) (m N : ℕ) → m < N → flags (ns ++ m ∷ []) N ≡ slice_set (flags ns N) m true
flag-one ns m N small =
    changed (λ k. is_in k ns) (λ k. is_in k (ns ++ m ∷ [])) N m true false small
    (in-append m ns (m ∷ []) ∙ ap (λ t. is_in m ns || (t || false)) (same m) ∙ or-true (is_in m ns))
    (λ i ne. in-append i ns (m ∷ []) ∙ ap (λ t. is_in i ns || (t || false)) (differ m i (λ e. ne (sym e))) ∙ or-false (is_in i ns))

pub flags-back : (ns ms : List ℕ) (N : ℕ) → Below N ms → flags (ns ++ ms) N ≡ marked (flags ns N) ms
flags-back ns [] N small = ap (λ (xs : List ℕ). flags xs N) (append-nil ns)
flags-back ns (m ∷ ms) N small =
    ap (λ (xs : List ℕ). flags xs N) (sym (append_assoc ns (m ∷ []) ms)) ∙ flags-back (ns ++ m ∷ []) ms N small.1 ∙ ap (λ fs. marked fs ms) (flag-one ns m N small.0)

-- ---- a new region
pub zeros-numbers : (s t n : ℕ) → numbers (zeros s n) ≡ numbers (zeros t n)
zeros-numbers s t zero = refl
zeros-numbers s t (suc n) = ap (λ (ms : List ℕ). n ∷ ms) (zeros-numbers s t n)

pub zeros-sized : (s n : ℕ) → Sized s (zeros s n)
zeros-sized s zero = tt
zeros-sized s (suc n) = (length-replicate s 0, zeros-sized s n)

zeros-below' : (s n N : ℕ) → n ≤ N → Below N (numbers (zeros s n))
zeros-below' s zero N le = tt
zeros-below' s (suc n) N le = (omega (arith, le), zeros-below' s n N (omega (arith, le)))

pub zeros-below : (s n : ℕ) → Below n (numbers (zeros s n))
zeros-below s n = zeros-below' s n n (omega arith)

below-out : (n : ℕ) (ns : List ℕ) → Below n ns → is_in n ns ≡ false
below-out n [] b = refl
below-out n (m ∷ ms) b = ap (λ t. t || is_in n ms) (differ m n (λ e. absurd (subst (λ k. k < n → ⊥) (sym e) (λ h. omega (arith, h)) b.0))) ∙ below-out n ms b.1

pub zeros-distinct : (s n : ℕ) → distinct (numbers (zeros s n)) ≡ true
zeros-distinct s zero = refl
zeros-distinct s (suc n) = ap (λ t. not t && distinct (numbers (zeros s n))) (below-out n (numbers (zeros s n)) (zeros-below s n)) ∙ zeros-distinct s n

zeros-at : (s n k : ℕ) → k < n → home_of (zeros s n) k ≡ Some (replicate s 0)
zeros-at s zero k lt = absurd (omega (arith, lt))
zeros-at s (suc n) k lt =
    case_eq n k (λ t. (if t || is_in k (numbers (zeros s n)) then Some (if t then replicate s 0 else bytes_of (zeros s n) k) else None) ≡ Some (replicate s 0)) (λ _. refl) (λ ne. zeros-at s n k (omega (arith, lt, ne)))

pub fresh : (n : ℕ) → at_home (zeros 4096 n) n ≡ fresh_home n
fresh n =
    let l : length (at_home (zeros 4096 n) n) ≡ n = length-map-range_with_len (home_of (zeros 4096 n)) 0 n in
    ext_get_or None _ _ (l ∙ sym (length-replicate n (Some (replicate 4096 0)))) (λ i below. let lt : i < n = subst (λ k. i < k) l below in
    home-at (zeros 4096 n) n i lt ∙ zeros-at 4096 n i lt ∙ sym (get_or-replicate n i (Some (replicate 4096 0)) None lt))

zeros-in : (s n k : ℕ) → k < n → is_in k (numbers (zeros s n)) ≡ true
zeros-in s zero k lt = absurd (omega (arith, lt))
zeros-in s (suc n) k lt = case_eq n k (λ t. (t || is_in k (numbers (zeros s n))) ≡ true) (λ _. refl) (λ ne. zeros-in s n k (omega (arith, lt, ne)))

pub fresh-flags : (n : ℕ) → flags (numbers (zeros 4096 n)) n ≡ replicate n true
fresh-flags n =
    let l : length (flags (numbers (zeros 4096 n)) n) ≡ n = length-flags (numbers (zeros 4096 n)) n in
    ext_get_or false _ _ (l ∙ sym (length-replicate n true)) (λ i below. let lt : i < n = subst (λ k. i < k) l below in
    flag-at (numbers (zeros 4096 n)) n i false lt ∙ zeros-in 4096 n i lt ∙ sym (get_or-replicate n i true false lt))

pub apart-out : (ns ms : List ℕ) (k : ℕ) → apart ns ms ≡ true → is_in k ms ≡ true → is_in k ns ≡ false
apart-out [] ms k a h = refl
apart-out (n ∷ ns) ms k a h =
    ap (λ t. t || is_in k ns) (differ n k (λ e. clash (is_in n ms) (subst (λ j. is_in j ms ≡ true) (sym e) h) (not_true _ (fst_true _ _ a)))) ∙ apart-out ns ms k (snd_true _ _ a) h
