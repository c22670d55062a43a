-- Laws of the pages of tables.
use Rattle.std.specs.Prelude.{◌≡◌, ℕ, ◌<◌, ◌≤◌, ◌^◌, ◌==◌, ◌||◌, Bool, true, false, List, [], ◌∷◌}
use Rattle.std.specs.List.{AllByRecursion}
use Rattle.std.proofs.Common.{sym, ◌∙◌, ap, subst, refl, arith, inl, inr}
use Rattle.std.proofs.lemmas.Bool.{false≢true}
use Rattle.std.proofs.lemmas.Bool.Decides.{nat_tests, eqb_tells}
use Rattle.hg_base.specs.Space.{Space, key_in, taken_in, taken_below}
use Rattle.hg_base.specs.Lines.{NoneMine, has_page}
use Rattle.hg_base.specs.Steadiness.{Steady}
use Rattle.hg_base.specs.TakenLaws.{AreDistinctPages}
use Rattle.hg_base.specs.declared.File.{File}
use Rattle.hg_base.specs.declared.File.TheVariants.{Main, Temp}
use Rattle.hg_table.specs.Calls.{none_mine, TakesNone}
use Rattle.hg_dml.specs.Lent.{NoneLent}

-- a page that is named is among the pages
pub has_page-cons : (y x : ℕ) (xs : List ℕ) → has_page xs x ≡ true → has_page (y ∷ xs) x ≡ true
has_page-cons y x xs h = elim (y == x) as (λ b. (b || has_page xs x) ≡ true) [
  | true ↦ refl
  | false ↦ h
]

pub has_page-first : (x : ℕ) (xs : List ℕ) → has_page (x ∷ xs) x ≡ true
has_page-first x xs = let e : (x == x) ≡ true = grind (arith, nat_tests) in ap (λ b. b || has_page xs x) e

-- the pages of a line are taken and below the limit
pub among-taken : (taken : ℕ → Bool) (n : ℕ) (xs : List ℕ) (x : ℕ) → AreDistinctPages taken Main n xs → has_page xs x ≡ true
    → (x < n) × (taken (key_in Main x) ≡ true)
among-taken taken n [] x d h = absurd (false≢true h)
among-taken taken n (y ∷ ys) x d h = elim (eqb_tells y x) [
  | inl e ↦ subst (λ z. (z < n) × (taken (key_in Main z) ≡ true)) e.1 (d.0, d.1)
  | inr apart ↦ among-taken taken n ys x d.3 (ap (λ b. b || has_page ys x) (sym apart.0) ∙ h)
]

-- what holds of each page that is among the pages holds of all of them
pub all-pages : (P : ℕ → Type 0) (xs : List ℕ) → ((x : ℕ) → has_page xs x ≡ true → P x) → AllByRecursion P xs
all-pages P [] each = tt
all-pages P (x ∷ xs) each = (each x (has_page-first x xs), all-pages P xs (λ y h. each y (has_page-cons x y xs h)))

-- a call that owns no page
pub none-mine : (pages : List ℕ) → NoneMine Main none_mine pages
none-mine [] = tt
none-mine (x ∷ xs) = (λ no. no, none-mine xs)

-- no page is lent by a call that owns none
pub none-lent-still : (a b : Space) → Steady none_mine a b → NoneLent a → NoneLent b
none-lent-still a b steady none q = steady.of_heap q (λ no. no) ∙ none q

pub taken-still : (file : File) (a b : Space) → Steady none_mine a b → TakesNone a b → taken_in b file ≡ taken_in a file
taken-still file a b steady none = ap (λ t. taken_below t file (b.limit file)) none.taken ∙ ap (λ l. taken_below a.taken file (l file)) steady.limit

-- as many temporary pages as before
pub few-still : (a b : Space) → b.limit ≡ a.limit → a.limit Temp ≤ 2 ^ 32 → b.limit Temp ≤ 2 ^ 32
few-still a b same few = subst (λ l. l Temp ≤ 2 ^ 32) (sym same) few
