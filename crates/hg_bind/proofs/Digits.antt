-- The bounds on width, front to back.
use Rattle.std.proofs.Common.{◌≡◌, ℕ, suc, ◌+◌, ◌-◌, ◌<◌, ◌≤◌, refl, sym, ap, ◌∙◌, arith, Bool, true, false, cond, not, List, ◌∷◌, length, drop, get_or}
use Rattle.std.specs.List.{list_all, position_or_len, range_with_len}
use Rattle.std.proofs.lemmas.List.{at_drop_more}
use borrow.Author.Tests.{leb-true}
use Rattle.hg_model.proofs.Widths.{narrow_next}
use Rattle.hg_model.specs.Types.{all_narrow, bound_of, bounds_from, bounds_of, is_narrow}
use Rattle.hg_model.specs.declared.trees.Node.{Node}

step_over : (p : ℕ → Bool) (b m : ℕ) → p b ≡ false → position_or_len p (range_with_len b (suc m)) ≡ 1 + position_or_len p (range_with_len (b + 1) m)
step_over p b m h = ap (λ t. cond (not t) (1 + position_or_len p (range_with_len (b + 1) m)) 0) h

pub digits_step : (p : ℕ → Bool) (b limit total : ℕ) → b < limit → p b ≡ false → b + position_or_len p (range_with_len b (limit - b)) ≡ total
    → b + 1 + position_or_len p (range_with_len (b + 1) (limit - (b + 1))) ≡ total
digits_step p b limit total below fails done =
    let cut : limit - b ≡ suc (limit - (b + 1)) = omega arith in
    let over = ap (λ m. position_or_len p (range_with_len b m)) cut ∙ step_over p b (limit - (b + 1)) fails in
    omega arith

-- where a node is too wide, not all are narrow
wide_first : (n : Node) (ns : List Node) (bs : List ℕ) (b : Bool) → list_all is_narrow (bounds_from (n ∷ ns) bs) ≡ b → 126 < bound_of n bs → b ≡ false
wide_first n ns bs true h wide = absurd (let narrow : bound_of n bs ≤ 126 = leb-true (bound_of n bs) 126 (narrow_next n ns bs h) in omega arith)
wide_first n ns bs false h wide = refl

pub wide_so : (nodes : List Node) (i : ℕ) (n : Node) (bs : List ℕ) (b : ℕ) → i < length nodes → n ≡ get_or nodes i n → bounds_from (drop i nodes) bs ≡ bounds_of nodes
    → b ≡ bound_of n bs → 126 < b → all_narrow nodes ≡ false
wide_so nodes i n bs b below is rest made wide =
    let same : bounds_from (drop i nodes) bs ≡ bounds_from (n ∷ drop (i + 1) nodes) bs
    = at_drop_more (λ l. bounds_from l bs) nodes i n below ∙ ap (λ m. bounds_from (m ∷ drop (i + 1) nodes) bs) (sym is) in
    wide_first n (drop (i + 1) nodes) bs (all_narrow nodes) (ap (list_all is_narrow) (sym same ∙ rest)) (omega arith)
