-- The kinds of nodes, front to back.
use Rattle.std.proofs.Common.{◌≡◌, ◌<◌, ℕ, zero, suc, ◌+◌, List, [], ◌∷◌, ◌++◌, map, refl, sym, ap, ◌∙◌, length, arith, get_or, drop}
use Rattle.std.proofs.lemmas.List.{drop_more, length-map, map-append}
use Rattle.hg_model.specs.Binding.{type_at}
use Rattle.hg_model.specs.ChangeBinding.{kind_of_column, change_kinds, change_positions}
use Rattle.hg_model.specs.Scope.{columns_from}
use Rattle.hg_model.specs.Types as model
use Rattle.hg_model.specs.declared.trees.Column.{Column}
use Rattle.hg_model.specs.declared.trees.Node.{Node}
use Rattle.hg_bind.specs.Bound.{row_places, numbers_of}
use Rattle.hg_bind.specs.Kinds.{kinds_of_nodes, shown}
use Rattle.hg_bind.specs.declared.kinds.Kind.{Kind}

leaf_at : (cs : List Column) (places : List (ℕ × ℕ)) (i : ℕ) (d : ℕ × ℕ) → i < length places
    → model.kind_at (map (kind_of_column cs) (numbers_of places)) i ≡ kind_of_column cs (get_or places i d).1
leaf_at cs [] i d h = absurd (omega arith)
leaf_at cs (p ∷ ps) zero d h = refl
leaf_at cs (p ∷ ps) (suc i) d h = leaf_at cs ps i d (omega arith)

pub kind_more : (cs : List Column) (places : List (ℕ × ℕ)) (nodes : List Node) (kinds : List Kind) (i : ℕ) (d : ℕ × ℕ) (n : Node) (k : Kind)
    → i < length nodes → length places ≡ length nodes → length kinds ≡ i → n ≡ get_or nodes i n
    → shown k ≡ model.kind_of (kind_of_column cs (get_or places i d).1) n (map shown kinds)
    → model.kinds_from (map (kind_of_column cs) (numbers_of places)) (drop (i + 1) nodes) (map shown (kinds ++ k ∷ []))
    ≡ model.kinds_from (map (kind_of_column cs) (numbers_of places)) (drop i nodes) (map shown kinds)
kind_more cs places nodes kinds i d n k h even count is made =
    let leaves = map (kind_of_column cs) (numbers_of places) in
    let whole : drop i nodes ≡ n ∷ drop (i + 1) nodes = drop_more nodes i n h ∙ ap (λ m. m ∷ drop (i + 1) nodes) (sym is) in
    let at : model.kind_at leaves (length (map shown kinds)) ≡ kind_of_column cs (get_or places i d).1 =
    ap (model.kind_at leaves) (length-map kinds shown ∙ count) ∙ leaf_at cs places i d (omega arith) in
    ap (model.kinds_from leaves (drop (i + 1) nodes)) (map-append shown kinds (k ∷ []))
    ∙ ap (λ x. model.kinds_from leaves (drop (i + 1) nodes) (map shown kinds ++ x ∷ [])) (made ∙ ap (λ l. model.kind_of l n (map shown kinds)) (sym at))
    ∙ sym (ap (λ l. model.kinds_from leaves l (map shown kinds)) whole)

-- the kinds of the columns of one table, as the definition looks them up
type_is : (alias : List ℕ) (t k : ℕ) (cs : List Column) (p : ℕ) → type_at (λ (c : Column). model.kind_of_type c.ty) model.Nothing (columns_from t alias k cs) p ≡ kind_of_column cs p
type_is alias t k [] p = refl
type_is alias t k (x ∷ xs) zero = refl
type_is alias t k (x ∷ xs) (suc p) = type_is alias t (suc k) xs p

leaves_are : (alias : List ℕ) (cs : List Column) (ps : List ℕ)
    → map (type_at (λ (c : Column). model.kind_of_type c.ty) model.Nothing (columns_from 0 alias 0 cs)) ps ≡ map (kind_of_column cs) (numbers_of (row_places ps))
leaves_are alias cs [] = refl
leaves_are alias cs (p ∷ ps) =
    ap (λ k. k ∷ map (type_at (λ (c : Column). model.kind_of_type c.ty) model.Nothing (columns_from 0 alias 0 cs)) ps) (type_is alias 0 0 cs p)
    ∙ ap (λ l. kind_of_column cs p ∷ l) (leaves_are alias cs ps)

pub kinds_are : (alias : List ℕ) (cs : List Column) (nodes : List Node)
    → change_kinds (columns_from 0 alias 0 cs) nodes ≡ kinds_of_nodes cs (numbers_of (row_places (change_positions (columns_from 0 alias 0 cs) nodes))) nodes
kinds_are alias cs nodes = ap (λ l. model.kinds_from l nodes []) (leaves_are alias cs (change_positions (columns_from 0 alias 0 cs) nodes))
