-- A row of small numbers fits.
use Rattle.std.proofs.Common.{◌≡◌, ℕ, zero, suc, ◌+◌, ◌<◌, ◌≤◌, List, [], ◌∷◌, ◌++◌, length, get_or, refl, sym, ap, ◌∙◌, subst, arith, true, length-append}
use Rattle.std.proofs.lemmas.List.{get_or_past}
use Rattle.hg_model.proofs.Leaves.{bound_kept, small_at}
use Rattle.hg_model.specs.Evaluation.{value_at}
use Rattle.hg_model.specs.SelectMeaning.{leaves_of}
use Rattle.hg_model.specs.Types.{bound_of, bounds_from, bounds_of, bound_at}
use Rattle.hg_model.specs.Width.{IsBelow, is_small_row}
use Rattle.hg_model.specs.declared.values.Value.{Value}
use Rattle.hg_model.specs.declared.values.Value.TheVariants.{Null}
use Rattle.hg_model.specs.declared.trees.Node.{Node}
use Rattle.hg_model.specs.declared.trees.Node.TheVariants as node
use Rattle.hg_expr.proofs.Bounds.{at_end}
use Rattle.hg_expr.specs.Laws.{IsBehind, AggregatesAreBehind, SmallRowsFit}
use Rattle.hg_expr.specs.Over.{leaf_at, RowFits}

leaf_small : (row : List Value) → is_small_row row ≡ true → (n : Node) (s : ℕ) (bs : List ℕ) → IsBehind (length row) n s → IsBelow (bound_of n bs) (leaf_at row n s)
leaf_small row small (node.Lit l) s bs h = tt
leaf_small row small (node.Col c) s bs h = small_at row s small
leaf_small row small (node.Neg a) s bs h = tt
leaf_small row small (node.Arith o a c) s bs h = tt
leaf_small row small (node.Compare o a c) s bs h = tt
leaf_small row small (node.Both a c) s bs h = tt
leaf_small row small (node.Either a c) s bs h = tt
leaf_small row small (node.Not a) s bs h = tt
leaf_small row small (node.IsNull a) s bs h = tt
leaf_small row small (node.NotNull a) s bs h = tt
leaf_small row small (node.Aggregate f a) s bs h =
    subst (λ v. IsBelow (bound_of (node.Aggregate f a) bs) v) (sym (get_or_past row s Null h)) tt

fits_from : (row : List Value) → is_small_row row ≡ true → (ns : List Node) (ss bs : List ℕ) (j k : ℕ) → k ≡ length bs + j → AggregatesAreBehind (length row) ns ss
    → IsBelow (bound_at (bounds_from ns bs) k) (value_at (leaves_of (leaf_at row) ns ss) j)
fits_from row small [] ss bs j k e h = tt
fits_from row small (n ∷ ns) [] bs j k e h = tt
fits_from row small (n ∷ ns) (s ∷ ss) bs zero k e h =
    let at : k ≡ length bs = omega arith in
    let here : bound_at (bounds_from ns (bs ++ bound_of n bs ∷ [])) k ≡ bound_of n bs =
    ap (bound_at (bounds_from ns (bs ++ bound_of n bs ∷ []))) at
    ∙ bound_kept ns (bs ++ bound_of n bs ∷ []) (length bs) (omega (arith, length-append bs (bound_of n bs ∷ [])))
    ∙ at_end bs (bound_of n bs) 0 in
    subst (λ b. IsBelow b (leaf_at row n s)) (sym here) (leaf_small row small n s bs h.0)
fits_from row small (n ∷ ns) (s ∷ ss) bs (suc j) k e h =
    fits_from row small ns ss (bs ++ bound_of n bs ∷ []) j k (omega (arith, length-append bs (bound_of n bs ∷ []))) h.1

pub rows_fit : SmallRowsFit
rows_fit nodes slots row same small behind = record {
  each = same;
  below = λ n. fits_from row small nodes slots [] n n (omega arith) behind;
}
