-- Laws of how many pages of a file are taken.
use Rattle.std.specs.Prelude.{◌≡◌, ◌≢◌, ℕ, zero, suc, ◌+◌, ◌<◌, ◌≤◌, Bool, true, false, List, [], ◌∷◌, length, ⊤, if◌then◌else◌}
use Rattle.std.proofs.Common.{◌∙◌, ap, subst, refl, arith, add-suc, add-zero, zero-add}
use Rattle.std.proofs.Common.{inl, inr}
use Rattle.std.specs.List.{AllByRecursion}
use Rattle.std.proofs.lemmas.Bool.Decides.{nat_tests, eqb_tells}
use Rattle.hg_base.specs.Space.{Space, at, key_in, taken_below, taken_in, IsMade}
use Rattle.hg_base.specs.declared.File.{File}
use Rattle.hg_base.specs.declared.File.TheVariants.{Main, Temp}
use Rattle.hg_base.specs.declared.PageId.{PageId}

-- the key names the file and the number
pub key_in-one : (file : File) (n m : ℕ) → key_in file n ≡ key_in file m → n ≡ m
key_in-one Main n m e = omega arith
key_in-one Temp n m e = omega arith

pub key_in-apart : (n m : ℕ) → key_in Main n ≢ key_in Temp m
key_in-apart n m e = absurd (omega arith)

-- no more pages are taken below a number than that number
pub taken_below-le : (taken : ℕ → Bool) (file : File) (n : ℕ) → taken_below taken file n ≤ n
taken_below-le taken file zero = omega arith
taken_below-le taken file (suc n) =
    elim (taken (key_in file n)) as (λ b. (if b then 1 else 0) + taken_below taken file n ≤ suc n) [
      | true ↦ omega (arith, taken_below-le taken file n)
      | false ↦ omega (arith, taken_below-le taken file n)
    ]

-- where no page from n on is taken, as many are taken below n as below any number above
pub taken_below-rest : (taken : ℕ → Bool) (file : File) (n k : ℕ) → ((m : ℕ) → n ≤ m → taken (key_in file m) ≡ false)
    → taken_below taken file (n + k) ≡ taken_below taken file n
taken_below-rest taken file n zero none = ap (taken_below taken file) (add-zero n)
taken_below-rest taken file n (suc k) none = rw (add-suc, none (n + k) (omega arith), zero-add) (taken_below-rest taken file n k none)

at-other : {X : Type 0} (f : ℕ → X) (p : ℕ) (x : X) (q : ℕ) → q ≢ p → at f p x q ≡ f q
at-other f p x q h = grind (arith, nat_tests)

at-here : {X : Type 0} (f : ℕ → X) (p : ℕ) (x : X) → at f p x p ≡ x
at-here f p x = grind (arith, nat_tests)

-- a change at a key of none of these pages changes no count
pub taken_below-other : (taken : ℕ → Bool) (file : File) (n p : ℕ) (b : Bool) → ((k : ℕ) → k < n → key_in file k ≢ p)
    → taken_below (at taken p b) file n ≡ taken_below taken file n
taken_below-other taken file zero p b none = refl
taken_below-other taken file (suc n) p b none =
    let here : at taken p b (key_in file n) ≡ taken (key_in file n) = at-other taken p b (key_in file n) (none n (omega arith)) in
    ap (λ t. (if t then 1 else 0) + taken_below (at taken p b) file n) here
    ∙ ap (λ k. (if taken (key_in file n) then 1 else 0) + k) (taken_below-other taken file n p b (λ k h. none k (omega arith)))

-- two numbers are one, or they are apart
split_at : (n m : ℕ) (P : Type 0) → (n ≡ m → P) → (n ≢ m → P) → P
split_at n m P same apart = elim (eqb_tells n m) [ inl h ↦ same h.1 | inr h ↦ apart h.1 ]

-- a page that is taken newly counts one
pub taken_below-new : (taken : ℕ → Bool) (file : File) (n m : ℕ) → m < n → taken (key_in file m) ≡ false
    → taken_below (at taken (key_in file m) true) file n ≡ taken_below taken file n + 1
taken_below-new taken file zero m h e = absurd (omega arith)
taken_below-new taken file (suc n) m h e = split_at n m
    (taken_below (at taken (key_in file m) true) file (suc n) ≡ taken_below taken file (suc n) + 1)
    (λ same.
    let here : at taken (key_in file m) true (key_in file n) ≡ true = ap (λ k. at taken (key_in file m) true (key_in file k)) same ∙ at-here taken (key_in file m) true in
    let was : taken (key_in file n) ≡ false = ap (λ k. taken (key_in file k)) same ∙ e in
    let rest : taken_below (at taken (key_in file m) true) file n ≡ taken_below taken file n =
    taken_below-other taken file n (key_in file m) true (λ k l q. absurd (let z : k ≡ m = key_in-one file k m q in omega arith)) in
    rw (here, was, rest) (omega arith))
    (λ apart.
    let there : at taken (key_in file m) true (key_in file n) ≡ taken (key_in file n) =
    at-other taken (key_in file m) true (key_in file n) (λ q. apart (key_in-one file n m q)) in
    let rest : taken_below (at taken (key_in file m) true) file n ≡ taken_below taken file n + 1 = taken_below-new taken file n m (omega arith) e in
    rw (there, rest) (omega arith))

-- a page that is given back counts one less
pub taken_below-gone : (taken : ℕ → Bool) (file : File) (n m : ℕ) → m < n → taken (key_in file m) ≡ true
    → taken_below (at taken (key_in file m) false) file n + 1 ≡ taken_below taken file n
taken_below-gone taken file zero m h e = absurd (omega arith)
taken_below-gone taken file (suc n) m h e = split_at n m
    (taken_below (at taken (key_in file m) false) file (suc n) + 1 ≡ taken_below taken file (suc n))
    (λ same.
    let here : at taken (key_in file m) false (key_in file n) ≡ false = ap (λ k. at taken (key_in file m) false (key_in file k)) same ∙ at-here taken (key_in file m) false in
    let was : taken (key_in file n) ≡ true = ap (λ k. taken (key_in file k)) same ∙ e in
    let rest : taken_below (at taken (key_in file m) false) file n ≡ taken_below taken file n =
    taken_below-other taken file n (key_in file m) false (λ k l q. absurd (let z : k ≡ m = key_in-one file k m q in omega arith)) in
    rw (here, was, rest) (omega arith))
    (λ apart.
    let there : at taken (key_in file m) false (key_in file n) ≡ taken (key_in file n) =
    at-other taken (key_in file m) false (key_in file n) (λ q. apart (key_in-one file n m q)) in
    let rest : taken_below (at taken (key_in file m) false) file n + 1 ≡ taken_below taken file n = taken_below-gone taken file n m (omega arith) e in
    rw (there, ← rest) (omega arith))

-- a page that was made is one more of its file
pub taken_in-made : (file : File) (a b : Space) (page : PageId) → IsMade file a b page → taken_in b file ≡ taken_in a file + 1
taken_in-made file a b page h =
    let P : File → Type 0 = λ f. page.no < a.limit f → taken_below (at a.taken (key_in page.file page.no) true) f (a.limit f) ≡ taken_in a f + 1 in
    ap (λ s. taken_in s file) h.after
    ∙ subst P h.in_file (λ l. taken_below-new a.taken page.file (a.limit page.file) page.no l h.unused.not_taken) h.below_limit

-- pages of a file by number, all taken and no two of them one
abbrev pub AreDistinctPages : (ℕ → Bool) → File → ℕ → List ℕ → Type 0
AreDistinctPages taken file n [] = ⊤
AreDistinctPages taken file n (x ∷ xs) = (x < n) × (taken (key_in file x) ≡ true) × AllByRecursion (λ y. y ≢ x) xs × AreDistinctPages taken file n xs

-- they stay taken when another page is given back
AreDistinctPages-other : (taken : ℕ → Bool) (file : File) (n m : ℕ) (xs : List ℕ) → AllByRecursion (λ y. y ≢ m) xs → AreDistinctPages taken file n xs
    → AreDistinctPages (at taken (key_in file m) false) file n xs
AreDistinctPages-other taken file n m [] a d = tt
AreDistinctPages-other taken file n m (x ∷ xs) a d = (
  d.0,
  at-other taken (key_in file m) false (key_in file x) (λ q. a.0 (key_in-one file x m q)) ∙ d.1,
  d.2,
  AreDistinctPages-other taken file n m xs a.1 d.3,
)

-- there are no more of them than pages are taken
pub AreDistinctPages-few : (taken : ℕ → Bool) (file : File) (n : ℕ) (xs : List ℕ) → AreDistinctPages taken file n xs → length xs ≤ taken_below taken file n
AreDistinctPages-few taken file n [] d = omega arith
AreDistinctPages-few taken file n (x ∷ xs) d =
    let rest : length xs ≤ taken_below (at taken (key_in file x) false) file n =
    AreDistinctPages-few (at taken (key_in file x) false) file n xs (AreDistinctPages-other taken file n x xs d.2 d.3) in
    omega (arith, taken_below-gone taken file n x d.0 d.1)
