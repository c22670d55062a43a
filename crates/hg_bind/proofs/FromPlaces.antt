-- The columns of FROM by their places.
use Rattle.std.proofs.Common.{◌≡◌, ◌≤◌, ◌<◌, ℕ, zero, suc, ◌+◌, true, false, List, [], ◌∷◌, ◌++◌, Some, refl, ap, ◌∙◌, length, arith}
use Rattle.std.specs.Prelude.{slice_get, nat_lt}
use Rattle.std.proofs.lemmas.Bool.Decides.{nat_tests}
use Rattle.hg_model.specs.Scope.{columns_from}
use Rattle.hg_model.specs.declared.tables.FromColumn.{FromColumn}
use Rattle.hg_model.specs.declared.trees.Column.{Column}

pub front_at : {X : Type 0} (xs ys : List X) (k : ℕ) → k < length xs → slice_get (xs ++ ys) k ≡ slice_get xs k
front_at [] ys k h = absurd (omega arith)
front_at (x ∷ xs) ys zero h = refl
front_at (x ∷ xs) ys (suc k) h = front_at xs ys k (omega arith)

pub behind_at : {X : Type 0} (xs ys : List X) (k : ℕ) → slice_get (xs ++ ys) (length xs + k) ≡ slice_get ys k
behind_at [] ys k = ap (slice_get ys) (omega arith)
behind_at (x ∷ xs) ys k = let e : suc (length xs) + k ≡ suc (length xs + k) = omega arith in ap (slice_get (x ∷ (xs ++ ys))) e ∙ behind_at xs ys k

-- what stands at a place of a table's columns
pub column_at : (t : ℕ) (alias : List ℕ) (k : ℕ) (cs : List Column) (q : ℕ) → q < length (columns_from t alias k cs)
    → (f : FromColumn) × (slice_get (columns_from t alias k cs) q ≡ Some f) × (f.table ≡ t) × (f.place ≡ k + q)
column_at t alias k [] q h = absurd (omega arith)
column_at t alias k (x ∷ xs) zero h = (record { table = t; alias = alias; place = k; column = x }, refl, refl, omega arith)
column_at t alias k (x ∷ xs) (suc q) h =
    let more = column_at t alias (suc k) xs q (omega arith) in
    (more.0, more.1, more.2, more.3 ∙ omega arith)

pub is_below : (t seen : ℕ) → t < seen → nat_lt t seen ≡ true
is_below t seen h = grind (arith, nat_tests)

pub is_not_below : (t seen : ℕ) → seen ≤ t → nat_lt t seen ≡ false
is_not_below t seen h = grind (arith, nat_tests)
