-- Rows of constants.
use Rattle.std.proofs.Common.{◌≡◌, ◌≢◌, ℕ, suc, Bool, true, false, List, [], ◌∷◌, refl, ap, length, ◌&&◌}
use Rattle.hg_model.specs.ChangeBinding.{kind_of_column, tuple_fits}
use Rattle.hg_model.specs.Types.{agree, kind_of_literal}
use Rattle.hg_model.specs.declared.trees.Column.{Column}
use Rattle.hg_model.specs.declared.trees.Literal.{Literal}

also_false : (a b : Bool) → b ≡ false → (a && b) ≡ false
also_false true b h = h
also_false false b h = refl

-- a row that has more constants than there are targets, or fewer
pub uneven : (cs : List Column) (ts : List ℕ) (vs : List Literal) → length ts ≢ length vs → tuple_fits cs ts vs ≡ false
uneven cs [] [] h = absurd (h refl)
uneven cs [] (v ∷ vs) h = refl
uneven cs (t ∷ ts) [] h = refl
uneven cs (t ∷ ts) (v ∷ vs) h = also_false (agree (kind_of_column cs t) (kind_of_literal v)) _ (uneven cs ts vs (λ e. h (ap suc e)))
