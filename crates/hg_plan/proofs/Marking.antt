-- Marks, one node after the other.
use Rattle.std.proofs.Common.{◌≡◌, ℕ, zero, suc, ◌+◌, ◌<◌, Bool, true, false, ◌&&◌, List, [], ◌∷◌, length, get_or, set, replicate, refl, sym, ap, ◌∙◌, arith}
use Rattle.std.specs.Prelude.{Option, Some, IsTrue, nat_lt, if◌then◌else◌}
use Rattle.std.specs.Cmp.{first_so}
use Rattle.std.specs.List.{list_all}
use Rattle.std.specs.Option.{option_to_list}
use Rattle.std.proofs.lemmas.Bool.{false≢true}
use Rattle.std.proofs.lemmas.Bool.Decides.{nat_tests}
use Rattle.hg_plan.specs.Testing.{marked, marked_from}

pub and_true : (a : Bool) → (a && true) ≡ a
and_true true = refl
and_true false = refl

twice : (a b : Bool) → (a && b) ≡ (a && (a && b))
twice true b = refl
twice false b = refl

swap : (a b c : Bool) → (a && (b && c)) ≡ (b && (a && c))
swap true b c = refl
swap false true c = refl
swap false false c = refl

here_set : (p : ℕ → Bool) (s : ℕ) (m : Bool) (r : List ℕ) → (p s && list_all p r) ≡ (p s && list_all p (if m then s ∷ r else r))
here_set p s true r = twice (p s) (list_all p r)
here_set p s false r = refl

later_set : (p : ℕ → Bool) (s : ℕ) (a m : Bool) (r t : List ℕ) → list_all p t ≡ (a && list_all p r)
    → list_all p (if m then s ∷ t else t) ≡ (a && list_all p (if m then s ∷ r else r))
later_set p s a true r t h = ap (λ b. p s && b) h ∙ swap (p s) a (list_all p r)
later_set p s a false r t h = h

-- a mark more
pub mark_set : (p : ℕ → Bool) (s n i : ℕ) (marks : List Bool) → i < length marks → n ≡ s + i
    → list_all p (marked_from s (set marks i true)) ≡ (p n && list_all p (marked_from s marks))
mark_set p s n i [] h e = absurd (omega arith)
mark_set p s n zero (m ∷ ms) h e =
    let z : s ≡ n = omega (arith, e) in
    here_set p s m (marked_from (s + 1) ms) ∙ ap (λ k. p k && list_all p (marked_from s (m ∷ ms))) z
mark_set p s n (suc i) (m ∷ ms) h e =
    later_set p s (p n) m (marked_from (s + 1) ms) (marked_from (s + 1) (set ms i true)) (mark_set p (s + 1) n i ms (omega arith) (omega (arith, e)))

-- a mark less
pub mark_cleared : (p : ℕ → Bool) (s n i : ℕ) (marks : List Bool) → get_or marks i false ≡ true → n ≡ s + i
    → list_all p (marked_from s marks) ≡ (p n && list_all p (marked_from s (set marks i false)))
mark_cleared p s n i [] h e = absurd (false≢true h)
mark_cleared p s n zero (true ∷ ms) h e =
    let z : s ≡ n = omega (arith, e) in
    ap (λ k. p k && list_all p (marked_from (s + 1) ms)) z
mark_cleared p s n zero (false ∷ ms) h e = absurd (false≢true h)
mark_cleared p s n (suc i) (m ∷ ms) h e =
    later_set p s (p n) m (marked_from (s + 1) (set ms i false)) (marked_from (s + 1) ms) (mark_cleared p (s + 1) n i ms h (omega (arith, e)))

-- two tests that agree at each marked node
pub same_marked : (p q : ℕ → Bool) (s : ℕ) (marks : List Bool) → ((i n : ℕ) → n ≡ s + i → get_or marks i false ≡ true → p n ≡ q n)
    → list_all p (marked_from s marks) ≡ list_all q (marked_from s marks)
same_marked p q s [] h = refl
same_marked p q s (true ∷ ms) h =
    let rest = same_marked p q (s + 1) ms (λ i n e m. h (suc i) n (omega (arith, e)) m) in
    let here : p s ≡ q s = h 0 s (omega arith) refl in
    λ i. here i && rest i
same_marked p q s (false ∷ ms) h = same_marked p q (s + 1) ms (λ i n e m. h (suc i) n (omega (arith, e)) m)

pub none_marked : (n s : ℕ) → marked_from s (replicate n false) ≡ []
none_marked zero s = refl
none_marked (suc n) s = none_marked n (s + 1)

-- ---- conditions as a whole

root_inside : (root : Option ℕ) (n m : ℕ) → root ≡ Some n → IsTrue (list_all (λ k. nat_lt k m) (option_to_list root)) → n < m
root_inside root n m is h =
    let e : (nat_lt n m && true) ≡ true = sym (ap (λ r. list_all (λ k. nat_lt k m) (option_to_list r)) is) ∙ h in
    let t : nat_lt n m ≡ true = first_so (nat_lt n m) true e in
    grind (arith, nat_tests)

pub root_marked : (p : ℕ → Bool) (root : Option ℕ) (n : ℕ) (marks : List Bool) → root ≡ Some n
    → IsTrue (list_all (λ k. nat_lt k (length marks)) (option_to_list root))
    → list_all p (marked (set marks n true)) ≡ (list_all p (option_to_list root) && list_all p (marked marks))
root_marked p root n marks is h =
    mark_set p 0 n n marks (root_inside root n (length marks) is h) (omega arith)
    ∙ ap (λ b. b && list_all p (marked marks)) (sym (and_true (p n)) ∙ ap (λ r. list_all p (option_to_list r)) (sym is))
