-- Laws of the first version that a snapshot sees, for the layers above.
use Rattle.std.specs.Prelude.{◌≡◌, ℕ, Bool, true, false, List, [], ◌∷◌, ◌++◌, Option, Some, None, if◌then◌else◌}
use Rattle.std.specs.List.{AllByRecursion}
use Rattle.std.proofs.Common.{sym, ◌∙◌, ap, refl, inl, inr}
use Rattle.std.proofs.lemmas.Bool.{cases_Bool}
use Rattle.hg_model.specs.Visible.{is_visible}
use Rattle.hg_table.specs.Versions.{Placed}
use Rattle.hg_table.specs.Places.{first_seen}

abbrev pub IsUnseen : (ℕ → Bool) → ℕ → Placed → Type 0
IsUnseen committed snapshot v = is_visible committed snapshot v.version ≡ false

-- the version is seen, and none of those before it is
pub record IsFirstOf (committed : ℕ → Bool) (snapshot : ℕ) (versions : List Placed) (v : Placed) : Type 0 where
  pub before : List Placed
  pub left : List Placed
  pub is : versions ≡ before ++ v ∷ left
  pub unseen : AllByRecursion (IsUnseen committed snapshot) before
  pub seen : is_visible committed snapshot v.version ≡ true

pub first-of : (c : ℕ → Bool) (s : ℕ) (vs : List Placed) (v : Placed) → first_seen c s vs ≡ Some v → IsFirstOf c s vs v
first-of c s [] v e = absurd (let n : ◌≡◌ {A = Option Placed} None (Some v) = e in cc)
first-of c s (w ∷ vs) v e = elim (cases_Bool (is_visible c s w.version)) [
  | inl i ↦
      let f : ◌≡◌ {A = Option Placed} (Some w) (Some v) = sym (ap (λ b. if b then Some w else first_seen c s vs) i) ∙ e in
      let same : w ≡ v = cc in
      record { before = []; left = vs; is = ap (λ x. x ∷ vs) same; unseen = tt; seen = sym (ap (λ (x : Placed). is_visible c s x.version) same) ∙ i }
  | inr i ↦
      let r = first-of c s vs v (sym (ap (λ b. if b then Some w else first_seen c s vs) i) ∙ e) in
      record { before = w ∷ r.before; left = r.left; is = ap (λ l. w ∷ l) r.is; unseen = (i, r.unseen); seen = r.seen }
]

pub none-of : (c : ℕ → Bool) (s : ℕ) (vs : List Placed) → first_seen c s vs ≡ None → AllByRecursion (IsUnseen c s) vs
none-of c s [] e = tt
none-of c s (w ∷ vs) e = elim (cases_Bool (is_visible c s w.version)) [
  | inl i ↦ absurd (let n : ◌≡◌ {A = Option Placed} (Some w) None = sym (ap (λ b. if b then Some w else first_seen c s vs) i) ∙ e in cc)
  | inr i ↦ (i, none-of c s vs (sym (ap (λ b. if b then Some w else first_seen c s vs) i) ∙ e))
]
