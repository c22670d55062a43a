-- Laws of lines of pages: what keeps a line, the end of one, and a page more behind it.
use Rattle.std.specs.Prelude.{◌≡◌, ◌≢◌, ℕ, ◌<◌, ◌≤◌, ◌==◌, ◌||◌, ◌++◌, Bool, true, false, List, [], ◌∷◌, length, Option, Some, None, if◌then◌else◌}
use Rattle.std.specs.List.{AllByRecursion}
use Rattle.std.proofs.Common.{sym, ◌∙◌, ap, subst, refl, arith, inl, inr}
use Rattle.std.proofs.lemmas.Bool.{false≢true, eq-eqb, ne_eqb, cases_eq}
use Rattle.hg_base.specs.Space.{Space, NoPins, IsFree, key_in, taken_in}
use Rattle.hg_base.specs.TakenLaws.{AreDistinctPages, AreDistinctPages-few}
use Rattle.hg_base.specs.Steadiness.{Mine, Steady, IsPlain, IsSamePage}
use Rattle.hg_base.specs.Lines.{IsLine, IsPath, NoneMine, AreApart, last_of, has_page, pages_behind}
use Rattle.hg_base.specs.declared.File.{File}

-- What is known of each element.
pub all_map : (P Q : ℕ → Type 0) (xs : List ℕ) → ((x : ℕ) → P x → Q x) → AllByRecursion P xs → AllByRecursion Q xs
all_map P Q [] f h = tt
all_map P Q (x ∷ xs) f h = (f x h.0, all_map P Q xs f h.1)

pub all_both : (P Q R : ℕ → Type 0) (xs : List ℕ) → ((x : ℕ) → P x → Q x → R x) → AllByRecursion P xs → AllByRecursion Q xs → AllByRecursion R xs
all_both P Q R [] f h g = tt
all_both P Q R (x ∷ xs) f h g = (f x h.0 g.0, all_both P Q R xs f h.1 g.1)

pub all_more : (P : ℕ → Type 0) (xs : List ℕ) (x : ℕ) → AllByRecursion P xs → P x → AllByRecursion P (xs ++ x ∷ [])
all_more P [] x h p = (p, tt)
all_more P (y ∷ xs) x h p = (h.0, all_more P xs x h.1 p)

-- a page of a list, by the first of two cases
pub has_cases : (x y : ℕ) (xs : List ℕ) (P : Type 0) → has_page (x ∷ xs) y ≡ true → (x ≡ y → P) → (x ≢ y → has_page xs y ≡ true → P) → P
has_cases x y xs P h same other = elim (cases_eq x y) [
  | inl e ↦ same e
  | inr d ↦ other d (sym (ap (λ t. t || has_page xs y) (ne_eqb x y d)) ∙ h)
]

-- what is known of each page is known of one among them
pub all_has : (P : ℕ → Type 0) (xs : List ℕ) (x : ℕ) → AllByRecursion P xs → has_page xs x ≡ true → P x
all_has P [] x h e = absurd (false≢true e)
all_has P (y ∷ xs) x h e = has_cases y x xs (P x) e (λ i. subst P i h.0) (λ n m. all_has P xs x h.1 m)

pub distinct-taken : (file : File) (taken : ℕ → Bool) (n : ℕ) (xs : List ℕ) → AreDistinctPages taken file n xs → AllByRecursion (λ x. taken (key_in file x) ≡ true) xs
distinct-taken file taken n [] d = tt
distinct-taken file taken n (x ∷ xs) d = (d.1, distinct-taken file taken n xs d.3)

pub distinct-apart : (file : File) (taken : ℕ → Bool) (n : ℕ) (xs : List ℕ) → AreDistinctPages taken file n xs → AreApart xs
distinct-apart file taken n [] d = tt
distinct-apart file taken n (x ∷ xs) d = (d.2, distinct-apart file taken n xs d.3)

-- the pages of a line are taken pages of no heap
pub line-plain : (file : File) (s : Space) (from : Option ℕ) (xs : List ℕ) → IsLine file s from xs → AllByRecursion (λ x. IsPlain s (key_in file x)) xs
line-plain file s from xs l =
    all_both (λ x. s.taken (key_in file x) ≡ true) (λ x. s.of_heap (key_in file x) ≡ false) (λ x. IsPlain s (key_in file x)) xs
    (λ x t h. record { taken = t; no_heap = h }) (distinct-taken file s.taken (s.limit file) xs l.taken) l.no_heap

-- A page is taken, of a heap and linked as before.
pub record IsSameLink (a b : Space) (q : ℕ) : Type 0 where
  pub taken : b.taken q ≡ a.taken q
  pub of_heap : b.of_heap q ≡ a.of_heap q
  pub next : b.next q ≡ a.next q

pub distinct-same : (file : File) (ta tb : ℕ → Bool) (m n : ℕ) (xs : List ℕ) → m ≡ n → AllByRecursion (λ x. tb (key_in file x) ≡ ta (key_in file x)) xs
    → AreDistinctPages ta file m xs → AreDistinctPages tb file n xs
distinct-same file ta tb m n [] e h d = tt
distinct-same file ta tb m n (x ∷ xs) e h d = (let l : x < m = d.0 in omega arith, h.0 ∙ d.1, d.2, distinct-same file ta tb m n xs e h.1 d.3)

path-same : (file : File) (f g : ℕ → Option ℕ) (from : Option ℕ) (xs : List ℕ) → AllByRecursion (λ x. g (key_in file x) ≡ f (key_in file x)) xs
    → IsPath file f from xs → IsPath file g from xs
path-same file f g from [] h p = p
path-same file f g from (x ∷ xs) h p =
    let P : Option ℕ → Type 0 = λ o. IsPath file g o xs in
    (p.0, subst P (sym h.0) (path-same file f g (f (key_in file x)) xs h.1 p.1))

pub line_stays : (file : File) (a b : Space) (from : Option ℕ) (xs : List ℕ) → b.limit ≡ a.limit → AllByRecursion (λ x. IsSameLink a b (key_in file x)) xs
    → IsLine file a from xs → IsLine file b from xs
line_stays file a b from xs limit same l = record {
  taken = distinct-same file a.taken b.taken (a.limit file) (b.limit file) xs (sym (ap (λ f. f file) limit))
      (all_map (λ x. IsSameLink a b (key_in file x)) (λ x. b.taken (key_in file x) ≡ a.taken (key_in file x)) xs (λ x s. s.taken) same) l.taken;
  no_heap = all_both (λ x. IsSameLink a b (key_in file x)) (λ x. a.of_heap (key_in file x) ≡ false) (λ x. b.of_heap (key_in file x) ≡ false) xs
      (λ x s h. s.of_heap ∙ h) same l.no_heap;
  path = path-same file a.next b.next from xs
      (all_map (λ x. IsSameLink a b (key_in file x)) (λ x. b.next (key_in file x) ≡ a.next (key_in file x)) xs (λ x s. s.next) same) l.path;
}

-- Pages of a line that are not mine are there as before.
pub same_pages : (file : File) (m : Mine) (a b : Space) (from : Option ℕ) (xs : List ℕ) → Steady m a b → NoneMine file m xs → IsLine file a from xs
    → AllByRecursion (λ x. IsSamePage a b (key_in file x)) xs
same_pages file m a b from xs steady apart l =
    all_both (λ x. m.pages (key_in file x) → ⊥) (λ x. IsPlain a (key_in file x)) (λ x. IsSamePage a b (key_in file x)) xs
    (λ x n h. steady.pages (key_in file x) n h) apart (line-plain file a from xs l)

pub same_link : (a b : Space) (q : ℕ) → IsSamePage a b q → IsSameLink a b q
same_link a b q s = record { taken = s.taken; of_heap = s.of_heap; next = s.next }

-- and so is the line
pub line_steady : (file : File) (m : Mine) (a b : Space) (from : Option ℕ) (xs : List ℕ) → Steady m a b → NoneMine file m xs → IsLine file a from xs → IsLine file b from xs
line_steady file m a b from xs steady apart l =
    line_stays file a b from xs steady.limit
    (all_map (λ x. IsSamePage a b (key_in file x)) (λ x. IsSameLink a b (key_in file x)) xs (λ x s. same_link a b (key_in file x) s) (same_pages file m a b from xs steady apart l)) l

some_one : (x y : ℕ) → ◌≡◌ {A = Option ℕ} (Some x) (Some y) → x ≡ y
some_one x y e = cc

-- a page named first leads to one list of pages
pub path-one : (file : File) (next : ℕ → Option ℕ) (from : Option ℕ) (xs ys : List ℕ) → IsPath file next from xs → IsPath file next from ys → xs ≡ ys
path-one file next from [] [] p q = refl
path-one file next from [] (y ∷ ys) p q = absurd (let e : ◌≡◌ {A = Option ℕ} None (Some y) = sym p ∙ q.0 in cc)
path-one file next from (x ∷ xs) [] p q = absurd (let e : ◌≡◌ {A = Option ℕ} None (Some x) = sym q ∙ p.0 in cc)
path-one file next from (x ∷ xs) (y ∷ ys) p q =
    let e : y ≡ x = some_one y x (sym q.0 ∙ p.0) in
    let P : ℕ → Type 0 = λ z. IsPath file next (next (key_in file z)) ys in
    ap (λ r. x ∷ r) (path-one file next (next (key_in file x)) xs ys p.1 (subst P e q.1)) ∙ ap (λ z. z ∷ ys) (sym e)

pub line_one : (file : File) (s : Space) (from : Option ℕ) (xs ys : List ℕ) → IsLine file s from xs → IsLine file s from ys → xs ≡ ys
line_one file s from xs ys p q = path-one file s.next from xs ys p.path q.path

-- The last page of a list.
pub last_known : (P : ℕ → Type 0) (xs : List ℕ) (l : ℕ) → AllByRecursion P xs → last_of xs ≡ Some l → P l
last_known P [] l h e = absurd (let n : ◌≡◌ {A = Option ℕ} None (Some l) = e in cc)
last_known P (y ∷ []) l h e = let i : y ≡ l = (let n : ◌≡◌ {A = Option ℕ} (Some y) (Some l) = e in cc) in subst P i h.0
last_known P (y ∷ z ∷ xs) l h e = last_known P (z ∷ xs) l h.1 e

pub last_more : (xs : List ℕ) (x : ℕ) → last_of (xs ++ x ∷ []) ≡ Some x
last_more [] x = refl
last_more (y ∷ []) x = refl
last_more (y ∷ z ∷ xs) x = last_more (z ∷ xs) x

pub last_none : (xs : List ℕ) → last_of xs ≡ None → xs ≡ []
last_none [] e = refl
last_none (y ∷ []) e = absurd (let n : ◌≡◌ {A = Option ℕ} (Some y) None = e in cc)
last_none (y ∷ z ∷ xs) e = absurd (let n : ◌≡◌ {A = List ℕ} (z ∷ xs) [] = last_none (z ∷ xs) e in cc)

-- One page more behind the last.
pub distinct_more : (file : File) (taken : ℕ → Bool) (n : ℕ) (xs : List ℕ) (x : ℕ) → AreDistinctPages taken file n xs → AllByRecursion (λ y. y ≢ x) xs → x < n
    → taken (key_in file x) ≡ true → AreDistinctPages taken file n (xs ++ x ∷ [])
distinct_more file taken n [] x d apart l t = (l, t, tt, tt)
distinct_more file taken n (y ∷ xs) x d apart l t =
    (d.0, d.1, all_more (λ z. z ≢ y) xs x d.2 (λ e. apart.0 (sym e)), distinct_more file taken n xs x d.3 apart.1 l t)

pub path_more : (file : File) (f g : ℕ → Option ℕ) (from : Option ℕ) (xs : List ℕ) (x l : ℕ) → IsPath file f from xs → last_of xs ≡ Some l → AreApart xs
    → AllByRecursion (λ y. y ≢ l → g (key_in file y) ≡ f (key_in file y)) xs → g (key_in file l) ≡ Some x → g (key_in file x) ≡ None
    → IsPath file g from (xs ++ x ∷ [])
path_more file f g from [] x l p e d h gl gx = absurd (let n : ◌≡◌ {A = Option ℕ} None (Some l) = e in cc)
path_more file f g from (y ∷ []) x l p e d h gl gx =
    let i : y ≡ l = (let n : ◌≡◌ {A = Option ℕ} (Some y) (Some l) = e in cc) in
    (p.0, (ap (λ z. g (key_in file z)) i ∙ gl, gx))
path_more file f g from (y ∷ z ∷ xs) x l p e d h gl gx =
    let n : l ≢ y = last_known (λ w. w ≢ y) (z ∷ xs) l d.0 e in
    (p.0, subst (λ o. IsPath file g o (z ∷ xs ++ x ∷ [])) (sym (h.0 (λ q. n (sym q)))) (path_more file f g (f (key_in file y)) (z ∷ xs) x l p.1 e d.1 h.1 gl gx))

-- The pages behind one of a line.
pub behind_all : (P : ℕ → Type 0) (xs : List ℕ) (x : ℕ) → AllByRecursion P xs → AllByRecursion P (pages_behind xs x)
behind_all P [] x h = tt
behind_all P (y ∷ xs) x h =
    elim (y == x) as (λ b. AllByRecursion P (if b then xs else pages_behind xs x)) [ true ↦ h.1 | false ↦ behind_all P xs x h.1 ]

distinct_behind : (file : File) (taken : ℕ → Bool) (n : ℕ) (xs : List ℕ) (x : ℕ) → AreDistinctPages taken file n xs → AreDistinctPages taken file n (pages_behind xs x)
distinct_behind file taken n [] x d = tt
distinct_behind file taken n (y ∷ xs) x d =
    elim (y == x) as (λ b. AreDistinctPages taken file n (if b then xs else pages_behind xs x)) [ true ↦ d.3 | false ↦ distinct_behind file taken n xs x d.3 ]

path_behind : (file : File) (next : ℕ → Option ℕ) (from : Option ℕ) (xs : List ℕ) (x : ℕ) → has_page xs x ≡ true → IsPath file next from xs
    → IsPath file next (next (key_in file x)) (pages_behind xs x)
path_behind file next from [] x h p = absurd (false≢true h)
path_behind file next from (y ∷ xs) x h p =
    has_cases y x xs (IsPath file next (next (key_in file x)) (pages_behind (y ∷ xs) x)) h
    (λ e. subst (IsPath file next (next (key_in file x))) (sym (ap (λ b. if b then xs else pages_behind xs x) (eq-eqb y x e)))
    (subst (λ z. IsPath file next (next (key_in file z)) xs) e p.1))
    (λ n m. subst (IsPath file next (next (key_in file x))) (sym (ap (λ b. if b then xs else pages_behind xs x) (ne_eqb y x n)))
    (path_behind file next (next (key_in file y)) xs x m p.1))

pub line_behind : (file : File) (s : Space) (from : Option ℕ) (xs : List ℕ) (x : ℕ) → has_page xs x ≡ true → IsLine file s from xs
    → IsLine file s (s.next (key_in file x)) (pages_behind xs x)
line_behind file s from xs x h l = record {
  taken = distinct_behind file s.taken (s.limit file) xs x l.taken;
  no_heap = behind_all (λ y. s.of_heap (key_in file y) ≡ false) xs x l.no_heap;
  path = path_behind file s.next from xs x h l.path;
}

distinct-below : (file : File) (taken : ℕ → Bool) (n : ℕ) (xs : List ℕ) → AreDistinctPages taken file n xs → AllByRecursion (λ x. x < n) xs
distinct-below file taken n [] d = tt
distinct-below file taken n (x ∷ xs) d = (d.0, distinct-below file taken n xs d.3)

-- a page of a line can be pinned
pub line_free : (file : File) (s : Space) (from : Option ℕ) (xs : List ℕ) (x : ℕ) → NoPins s → IsLine file s from xs → has_page xs x ≡ true
    → IsFree s (record { file = file; no = x })
line_free file s from xs x out l h =
    let plain : IsPlain s (key_in file x) = all_has (λ y. IsPlain s (key_in file y)) xs x (line-plain file s from xs l) h in
    record {
      below_limit = all_has (λ y. y < s.limit file) xs x (distinct-below file s.taken (s.limit file) xs l.taken) h;
      taken = plain.taken;
      not_pinned = out.not_pinned (key_in file x);
      no_heap = plain.no_heap;
    }

-- no line has more pages than are taken
pub line_few : (file : File) (s : Space) (from : Option ℕ) (xs : List ℕ) → IsLine file s from xs → length xs ≤ taken_in s file
line_few file s from xs l = AreDistinctPages-few s.taken file (s.limit file) xs l.taken
