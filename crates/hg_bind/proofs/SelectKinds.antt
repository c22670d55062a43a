-- The kinds, and the lengths, of the nodes of a SELECT, one after the other.
use Rattle.std.proofs.Common.{◌≡◌, ◌<◌, ℕ, zero, suc, ◌+◌, List, [], ◌∷◌, ◌++◌, map, refl, sym, ap, ◌∙◌, length, arith, get_or, drop}
use Rattle.std.specs.Prelude.{slice_index}
use Rattle.std.proofs.lemmas.List.{drop_more, length-map, map-append}
use Rattle.hg_model.specs.Types as model
use Rattle.hg_model.specs.declared.trees.Node.{Node}
use Rattle.hg_bind.specs.Kinds.{shown}
use Rattle.hg_bind.specs.declared.kinds.Kind.{Kind}

kind_leaf : (g : ℕ → model.Kind) (ps : List ℕ) (i d : ℕ) → i < length ps → model.kind_at (map g ps) i ≡ g (get_or ps i d)
kind_leaf g [] i d h = absurd (omega arith)
kind_leaf g (p ∷ ps) zero d h = refl
kind_leaf g (p ∷ ps) (suc i) d h = kind_leaf g ps i d (omega arith)

pub kind_next : (g : ℕ → model.Kind) (ps : List ℕ) (nodes : List Node) (kinds : List Kind) (i d : ℕ) (n : Node) (k : Kind)
    → i < length nodes → length ps ≡ length nodes → length kinds ≡ i → n ≡ get_or nodes i n
    → shown k ≡ model.kind_of (g (get_or ps i d)) n (map shown kinds)
    → model.kinds_from (map g ps) (drop (i + 1) nodes) (map shown (kinds ++ k ∷ [])) ≡ model.kinds_from (map g ps) (drop i nodes) (map shown kinds)
kind_next g ps nodes kinds i d n k h even count is made =
    let leaves = map g ps in
    let whole : drop i nodes ≡ n ∷ drop (i + 1) nodes = drop_more nodes i n h ∙ ap (λ m. m ∷ drop (i + 1) nodes) (sym is) in
    let at : model.kind_at leaves (length (map shown kinds)) ≡ g (get_or ps i d) = ap (model.kind_at leaves) (length-map kinds shown ∙ count) ∙ kind_leaf g ps i d (omega arith) in
    ap (model.kinds_from leaves (drop (i + 1) nodes)) (map-append shown kinds (k ∷ []))
    ∙ ap (λ x. model.kinds_from leaves (drop (i + 1) nodes) (map shown kinds ++ x ∷ [])) (made ∙ ap (λ x. model.kind_of x n (map shown kinds)) (sym at))
    ∙ sym (ap (λ l. model.kinds_from leaves l (map shown kinds)) whole)

length_leaf : (g : ℕ → ℕ) (ps : List ℕ) (i d : ℕ) → i < length ps → slice_index (map g ps) i ≡ g (get_or ps i d)
length_leaf g [] i d h = absurd (omega arith)
length_leaf g (p ∷ ps) zero d h = refl
length_leaf g (p ∷ ps) (suc i) d h = length_leaf g ps i d (omega arith)

pub length_next : (kinds : List model.Kind) (g : ℕ → ℕ) (ps : List ℕ) (nodes : List Node) (lengths : List ℕ) (i d : ℕ) (n : Node) (k : ℕ)
    → i < length nodes → length ps ≡ length nodes → length lengths ≡ i → n ≡ get_or nodes i n
    → k ≡ model.length_of kinds (g (get_or ps i d)) n lengths
    → model.lengths_from kinds (map g ps) (drop (i + 1) nodes) (lengths ++ k ∷ []) ≡ model.lengths_from kinds (map g ps) (drop i nodes) lengths
length_next kinds g ps nodes lengths i d n k h even count is made =
    let leaves = map g ps in
    let whole : drop i nodes ≡ n ∷ drop (i + 1) nodes = drop_more nodes i n h ∙ ap (λ m. m ∷ drop (i + 1) nodes) (sym is) in
    let at : slice_index leaves (length lengths) ≡ g (get_or ps i d) = ap (slice_index leaves) count ∙ length_leaf g ps i d (omega arith) in
    ap (λ x. model.lengths_from kinds leaves (drop (i + 1) nodes) (lengths ++ x ∷ [])) (made ∙ ap (λ x. model.length_of kinds x n lengths) (sym at))
    ∙ sym (ap (λ l. model.lengths_from kinds leaves l lengths) whole)
