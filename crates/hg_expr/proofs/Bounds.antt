-- Over a row that fits, each node's value lies below its bound, and so below 2^126.
use Rattle.std.proofs.Common.{◌≡◌, ℕ, zero, suc, ◌+◌, ◌<◌, List, [], ◌∷◌, ◌++◌, length, get_or, refl, sym, ap, ◌∙◌, subst, arith, true, length-append}
use Rattle.std.specs.Cmp.{first_so, second_so}
use Rattle.std.specs.List.{list_all}
use Rattle.hg_model.proofs.Leaves.{bound_kept}
use Rattle.hg_model.proofs.Widths.{LeafBelow, LeavesBelow, values_below, zipped_at, narrow_bound}
use Rattle.hg_model.specs.Evaluation.{value_at, value_of}
use Rattle.hg_model.specs.Types.{bound_of, bounds_from, bounds_of, bound_at, is_narrow, all_narrow}
use Rattle.hg_model.specs.Width.{IsBelow, IsSound}
use Rattle.hg_model.specs.declared.values.Value.{Value}
use Rattle.hg_model.specs.declared.trees.Node.{Node}
use Rattle.hg_model.specs.declared.trees.Node.TheVariants as node
use Rattle.hg_expr.specs.Over.{leaves_at, values_over, RowFits}

leaf_below : (n : Node) (b : ℕ) (v : Value) → IsBelow b v → LeafBelow n b v
leaf_below (node.Lit l) b v h = tt
leaf_below (node.Col c) b v h = h
leaf_below (node.Neg a) b v h = tt
leaf_below (node.Arith o a c) b v h = tt
leaf_below (node.Compare o a c) b v h = tt
leaf_below (node.Both a c) b v h = tt
leaf_below (node.Either a c) b v h = tt
leaf_below (node.Not a) b v h = tt
leaf_below (node.IsNull a) b v h = tt
leaf_below (node.NotNull a) b v h = tt
leaf_below (node.Aggregate f a) b v h = h

pub at_end : (bs : List ℕ) (b d : ℕ) → get_or (bs ++ b ∷ []) (length bs) d ≡ b
at_end [] b d = refl
at_end (c ∷ bs) b d = at_end bs b d

leaves_below : (leaves : List Value) (ns : List Node) (bs all : List ℕ) → bounds_from ns bs ≡ all → ((k : ℕ) → IsBelow (bound_at all k) (value_at leaves k)) → LeavesBelow leaves ns bs
leaves_below leaves [] bs all e h = tt
leaves_below leaves (n ∷ ns) bs all e h =
    let here : bound_at all (length bs) ≡ bound_of n bs =
    ap (λ l. bound_at l (length bs)) (sym e)
    ∙ bound_kept ns (bs ++ bound_of n bs ∷ []) (length bs) (omega (arith, length-append bs (bound_of n bs ∷ [])))
    ∙ at_end bs (bound_of n bs) 0 in (
      leaf_below n (bound_of n bs) (value_at leaves (length bs)) (subst (λ b. IsBelow b (value_at leaves (length bs))) here (h (length bs))),
      leaves_below leaves ns (bs ++ bound_of n bs ∷ []) all e h,
    )

pub lies_below : (texts slots : List ℕ) (nodes : List Node) (row : List Value) → IsSound texts nodes → RowFits nodes slots row
    → (n : ℕ) → IsBelow (bound_at (bounds_of nodes) n) (value_of (values_over texts slots nodes row) n)
unfolding values_over
lies_below texts slots nodes row sound fits n =
    zipped_at (bounds_of nodes) (values_over texts slots nodes row) n
    (values_below (leaves_at row nodes slots) texts nodes [] [] tt
    (leaves_below (leaves_at row nodes slots) nodes [] (bounds_of nodes) refl fits.below) sound.narrow).1

narrow_at : (bs : List ℕ) (k : ℕ) → list_all is_narrow bs ≡ true → is_narrow (bound_at bs k) ≡ true
narrow_at [] k h = refl
narrow_at (b ∷ bs) zero h = first_so (is_narrow b) (list_all is_narrow bs) h
narrow_at (b ∷ bs) (suc k) h = narrow_at bs k (second_so (is_narrow b) (list_all is_narrow bs) h)

pub is_small : (texts slots : List ℕ) (nodes : List Node) (row : List Value) → IsSound texts nodes → RowFits nodes slots row
    → (n : ℕ) → IsBelow 126 (value_of (values_over texts slots nodes row) n)
is_small texts slots nodes row sound fits n =
    narrow_bound (bound_at (bounds_of nodes) n) (value_of (values_over texts slots nodes row) n) (narrow_at (bounds_of nodes) n sound.narrow)
    (lies_below texts slots nodes row sound fits n)

-- the same of a value that is the node's
pub below_by : (texts slots : List ℕ) (nodes : List Node) (row : List Value) → IsSound texts nodes → RowFits nodes slots row
    → (n : ℕ) (v : Value) → v ≡ value_of (values_over texts slots nodes row) n → IsBelow (bound_at (bounds_of nodes) n) v
below_by texts slots nodes row sound fits n v e = subst (λ w. IsBelow (bound_at (bounds_of nodes) n) w) (sym e) (lies_below texts slots nodes row sound fits n)

pub small_by : (texts slots : List ℕ) (nodes : List Node) (row : List Value) → IsSound texts nodes → RowFits nodes slots row
    → (n : ℕ) (v : Value) → v ≡ value_of (values_over texts slots nodes row) n → IsBelow 126 v
small_by texts slots nodes row sound fits n v e = subst (λ w. IsBelow 126 w) (sym e) (is_small texts slots nodes row sound fits n)
