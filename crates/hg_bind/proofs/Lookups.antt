-- Columns by their names and numbers.
use Rattle.std.proofs.Common.{◌≡◌, ◌<◌, ◌≤◌, ℕ, zero, suc, ◌+◌, List, [], ◌∷◌, ◌++◌, refl, sym, ap, ◌∙◌, length, get_or, arith}
use Rattle.std.specs.List.{range_with_len}
use Rattle.hg_model.specs.ChangeBinding.{kind_of_column}
use Rattle.hg_model.specs.Creation.{column_length}
use Rattle.hg_model.specs.Types as model
use Rattle.hg_model.specs.declared.trees.Column.{Column}

pub kind_there : (cs : List Column) (k : ℕ) (c : Column) → k < length cs → c ≡ get_or cs k c → kind_of_column cs k ≡ model.kind_of_type c.ty
kind_there [] k c h is = absurd (omega arith)
kind_there (x ∷ xs) zero c h is = ap (λ (y : Column). model.kind_of_type y.ty) (sym is)
kind_there (x ∷ xs) (suc k) c h is = kind_there xs k c (omega arith) is

pub kind_outside : (cs : List Column) (k : ℕ) → length cs ≤ k → kind_of_column cs k ≡ model.Nothing
kind_outside [] k h = refl
kind_outside (x ∷ xs) zero h = absurd (omega arith)
kind_outside (x ∷ xs) (suc k) h = kind_outside xs k (omega arith)

pub length_there : (cs : List Column) (k : ℕ) (c : Column) → k < length cs → c ≡ get_or cs k c → column_length cs k ≡ model.type_length c.ty
length_there [] k c h is = absurd (omega arith)
length_there (x ∷ xs) zero c h is = ap (λ (y : Column). model.type_length y.ty) (sym is)
length_there (x ∷ xs) (suc k) c h is = length_there xs k c (omega arith) is

pub length_outside : (cs : List Column) (k : ℕ) → length cs ≤ k → column_length cs k ≡ 0
length_outside [] k h = refl
length_outside (x ∷ xs) zero h = absurd (omega arith)
length_outside (x ∷ xs) (suc k) h = length_outside xs k (omega arith)

-- the numbers from 0 on, and one more
numbers_more : (a k : ℕ) → range_with_len a (suc k) ≡ range_with_len a k ++ (a + k) ∷ []
numbers_more a zero = ap (λ n. n ∷ []) (omega arith)
numbers_more a (suc k) = ap (λ l. a ∷ l) (numbers_more (a + 1) k ∙ ap (λ n. range_with_len (a + 1) k ++ n ∷ []) (omega arith))

pub range_more : (k : ℕ) → range_with_len 0 (k + 1) ≡ range_with_len 0 k ++ k ∷ []
range_more k = let e : k + 1 ≡ suc k = omega arith in ap (range_with_len 0) e ∙ numbers_more 0 k ∙ ap (λ n. range_with_len 0 k ++ n ∷ []) (omega arith)
