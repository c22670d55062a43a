-- A SELECT that is written out: a node has the value that it had, unless it was a name of ORDER BY that is an
-- output, and the nodes of a star have the values of the row.
use Rattle.std.proofs.Common.{◌≡◌, ◌<◌, ◌≤◌, ℕ, zero, suc, ◌+◌, Bool, true, false, List, [], ◌∷◌, ◌++◌, Option, Some, None, map, refl, sym, ap, subst, ◌∙◌, length, length-append, get_or, not, cond, ◌&&◌, add-zero, arith}
use Rattle.std.specs.Prelude.{nat_lt, slice_get, slice_index}
use Rattle.std.specs.List.{flat_map, list_all, position_or_len}
use Rattle.std.specs.Cmp.{first_so, second_so}
use Rattle.std.proofs.lemmas.Bool.Decides.{nat_tests}
use Rattle.std.proofs.lemmas.List.Folds.{list_all-append}
use Rattle.hg_model.specs.Binding.{is_order_key, is_output_target}
use Rattle.hg_model.specs.Evaluation.{as_value, node_value, value_at, value_of, values_from, values_of}
use Rattle.hg_model.specs.Query.{Query}
use Rattle.hg_model.specs.Scope.{column_meant, is_meant, position_of, positions_from, positions_of, tables_seen, target_of}
use Rattle.hg_model.specs.SelectMeaning.{leaves_of}
use Rattle.hg_model.specs.declared.tables.FromColumn.{FromColumn}
use Rattle.hg_model.specs.declared.trees.Node.{Node}
use Rattle.hg_model.specs.declared.trees.Node.TheVariants as node
use Rattle.hg_model.specs.declared.trees.OrderBy.TheVariants.{Column as ByColumn}
use Rattle.hg_model.specs.declared.trees.Output.{Output}
use Rattle.hg_model.specs.declared.values.NodeValue.{NodeValue}
use Rattle.hg_model.specs.declared.values.NodeValue.TheVariants.{Plain}
use Rattle.hg_model.specs.declared.values.Value.{Value}
use Rattle.hg_model.specs.declared.values.Value.TheVariants.{Null}
use Rattle.hg_bind.specs.BoundMeaning.{children, is_apart}
use Rattle.hg_bind.specs.BoundSelect.{column_node, nodes_written, place_if_named, place_of_column, place_of_found, places_written, settled, settled_node, star_nodes, star_outputs, star_places}
use Rattle.hg_bind.specs.Selecting.{named_from, named_place, named_unless}
use Rattle.hg_bind.proofs.Agreeing.{Alike, alike_more, count, in_turn, kept, live, node_alike, not_so}
use Rattle.hg_bind.proofs.NamedColumns.{named_count}
use Rattle.hg_bind.proofs.Settling.{settled_count}

-- a name of ORDER BY that is an output
abbrev pub replaced : List FromColumn → Query → ℕ → Bool
replaced scope q k = is_order_key q k && is_output_target (target_of scope (positions_of scope q) q (ByColumn k))

abbrev pub named_nodes : List FromColumn → Query → List (Option ℕ)
named_nodes scope q = named_from scope (positions_of scope q) q 0 q.nodes

and_left : (b c : Bool) → b ≡ false → (b && c) ≡ false
and_left true c h = absurd cc
and_left false c h = refl

-- a node that is used was not replaced
pub apart_lives : (scope : List FromColumn) (q : Query) (n : ℕ) → is_apart q n ≡ true → replaced scope q n ≡ false
apart_lives scope q n h =
    and_left (is_order_key q n) (is_output_target (target_of scope (positions_of scope q) q (ByColumn n)))
    (not_so (is_order_key q n) (second_so (nat_lt n (length q.nodes)) (not (is_order_key q n)) h))

pub apart_there : (q : Query) (n : ℕ) → is_apart q n ≡ true → n < length q.nodes
apart_there q n h = let below = first_so (nat_lt n (length q.nodes)) (not (is_order_key q n)) h in grind (arith, nat_tests)

lives : (b : Bool) → b ≡ false → not b ≡ true
lives true h = absurd cc
lives false h = refl

both_so : (s t : Bool) → s ≡ true → t ≡ true → (s && t) ≡ true
both_so true t h k = k
both_so false t h k = h

all_live : (scope : List FromColumn) (q : Query) (ns : List ℕ) → list_all (is_apart q) ns ≡ true → list_all (live (replaced scope q)) ns ≡ true
all_live scope q [] h = refl
all_live scope q (n ∷ ns) h =
    both_so (live (replaced scope q) n) (list_all (live (replaced scope q)) ns)
    (lives (replaced scope q n) (apart_lives scope q n (first_so (is_apart q n) (list_all (is_apart q) ns) h)))
    (all_live scope q ns (second_so (is_apart q n) (list_all (is_apart q) ns) h))

pub front_all : {X : Type 0} (p : X → Bool) (xs ys : List X) → list_all p (xs ++ ys) ≡ true → list_all p xs ≡ true
front_all p xs ys h = first_so (list_all p xs) (list_all p ys) (sym (list_all-append p xs ys) ∙ h)

pub back_all : {X : Type 0} (p : X → Bool) (xs ys : List X) → list_all p (xs ++ ys) ≡ true → list_all p ys ≡ true
back_all p xs ys h = second_so (list_all p xs) (list_all p ys) (sym (list_all-append p xs ys) ∙ h)

place_step : (b : Bool) (n m : ℕ) → n ≤ m → cond (not b) (1 + n) 0 ≤ suc m
place_step true n m h = omega arith
place_step false n m h = omega arith

place_within : {X : Type 0} (p : X → Bool) (xs : List X) → position_or_len p xs ≤ length xs
place_within p [] = omega arith
place_within p (x ∷ xs) = place_step (p x) (position_or_len p xs) (length xs) (place_within p xs)

none_behind : {X : Type 0} (xs : List X) → slice_get xs (length xs) ≡ None
none_behind [] = refl
none_behind (x ∷ xs) = none_behind xs

-- the leaves behind some
leaves_behind : (leaf : Node → ℕ → Value) (at : ℕ × ℕ → ℕ) (ns ms : List Node) (ps rs : List (ℕ × ℕ)) (i : ℕ) → length ns ≡ length ps
    → value_at (leaves_of leaf (ns ++ ms) (map at (ps ++ rs))) (length ns + i) ≡ value_at (leaves_of leaf ms (map at rs)) i
leaves_behind leaf at [] ms [] rs i e = let z : 0 + i ≡ i = omega arith in ap (value_at (leaves_of leaf ms (map at rs))) z
leaves_behind leaf at [] ms (p ∷ ps) rs i e = absurd (omega arith)
leaves_behind leaf at (n ∷ ns) ms [] rs i e = absurd (omega arith)
leaves_behind leaf at (n ∷ ns) ms (p ∷ ps) rs i e =
    let next : suc (length ns) + i ≡ suc (length ns + i) = omega arith in
    ap (value_at (leaves_of leaf ((n ∷ ns) ++ ms) (map at ((p ∷ ps) ++ rs)))) next ∙ leaves_behind leaf at ns ms ps rs i (omega arith)

-- the values of a star's nodes
star_at : (leaves : List Value) (texts : List ℕ) (cs : List FromColumn) (done : List NodeValue) (i : ℕ) → i < length cs
    → get_or (values_from leaves texts (map column_node cs) done) (length done + i) (Plain Null) ≡ Plain (value_at leaves (length done + i))
star_at leaves texts [] done i h = absurd (omega arith)
star_at leaves texts (c ∷ cs) done zero h =
    let x : NodeValue = Plain (value_at leaves (length done)) in
    let z : length done + 0 ≡ length done = omega arith in
    let pushed = length-append done (x ∷ []) in
    ap (λ k. get_or (values_from leaves texts (map column_node cs) (done ++ x ∷ [])) k (Plain Null)) z
    ∙ kept leaves texts (map column_node cs) (done ++ x ∷ []) (length done) (omega (arith, pushed))
    ∙ at_end done x ∙ ap (λ k. Plain (value_at leaves k)) (sym z)
  where
    at_end : (xs : List NodeValue) (x : NodeValue) → get_or (xs ++ x ∷ []) (length xs) (Plain Null) ≡ x
    at_end [] x = refl
    at_end (y ∷ ys) x = at_end ys x
star_at leaves texts (c ∷ cs) done (suc i) h =
    let x : NodeValue = Plain (value_at leaves (length done)) in
    let pushed = length-append done (x ∷ []) in
    let next : length done + suc i ≡ length (done ++ x ∷ []) + i = omega (arith, pushed) in
    ap (λ k. get_or (values_from leaves texts (map column_node cs) (done ++ x ∷ [])) k (Plain Null)) next
    ∙ star_at leaves texts cs (done ++ x ∷ []) i (omega arith)
    ∙ ap (λ k. Plain (value_at leaves k)) (sym next)

star_leaf : (leaf : Node → ℕ → Value) (row : List Value) (at : ℕ × ℕ → ℕ) (col : (c : FromColumn) (p : ℕ) → leaf (column_node c) p ≡ value_at row p) (cs : List FromColumn) (i : ℕ) → i < length cs
    → value_at (leaves_of leaf (map column_node cs) (map at (map place_of_column cs))) i ≡ value_at row (at (place_of_found (slice_get cs i)))
star_leaf leaf row at col [] i h = absurd (omega arith)
star_leaf leaf row at col (c ∷ cs) zero h = col c (at (place_of_column c))
star_leaf leaf row at col (c ∷ cs) (suc i) h = star_leaf leaf row at col cs i (omega arith)

-- the outputs of a star are the row
pub star_row : (vs : List NodeValue) (cs : List FromColumn) (n : ℕ) (row : List Value) → length row ≡ length cs
    → ((i : ℕ) → i < length cs → value_of vs (n + i) ≡ value_at row i) → map (λ (o : Output). value_of vs o.node) (star_outputs n cs) ≡ row
star_row vs [] n [] e h = refl
star_row vs [] n (v ∷ row) e h = absurd (omega arith)
star_row vs (c ∷ cs) n [] e h = absurd (omega arith)
star_row vs (c ∷ cs) n (v ∷ row) e h =
    let z : n ≡ n + 0 = omega arith in
    ap (λ w. w ∷ map (λ (o : Output). value_of vs o.node) (star_outputs (suc n) cs)) (ap (value_of vs) z ∙ h 0 (omega arith))
    ∙ ap (λ l. v ∷ l) (star_row vs cs (suc n) row (omega arith) (λ i below. let s : suc n + i ≡ n + suc i = omega arith in ap (value_of vs) s ∙ h (suc i) (omega arith)))

module _ (scope : List FromColumn) (q : Query) (at : ℕ × ℕ → ℕ) (at_is : (p : ℕ) → p ≤ length scope → at (place_of_found (slice_get scope p)) ≡ p) where
  abbrev dead : ℕ → Bool
  dead k = replaced scope q k

  abbrev named_at : ℕ → Node → Option ℕ
  named_at k n = named_place scope (positions_of scope q) q k n

  abbrev named_on : ℕ → List Node → List (Option ℕ)
  named_on k ns = named_from scope (positions_of scope q) q k ns

  node_stays : (k : ℕ) (n : Node) → dead k ≡ false → settled_node n (named_at k n) ≡ n
  node_stays k (node.Col c) h = ap (λ b. settled_node (node.Col c) (named_unless b (slice_index (positions_of scope q) k))) h
  node_stays k (node.Lit l) h = refl
  node_stays k (node.Neg a) h = refl
  node_stays k (node.Arith o a b) h = refl
  node_stays k (node.Compare c a b) h = refl
  node_stays k (node.Both a b) h = refl
  node_stays k (node.Either a b) h = refl
  node_stays k (node.Not a) h = refl
  node_stays k (node.IsNull a) h = refl
  node_stays k (node.NotNull a) h = refl
  node_stays k (node.Aggregate f a) h = refl

  nowhere : at (255, 255) ≡ length scope
  nowhere = ap (λ o. at (place_of_found o)) (sym (none_behind scope)) ∙ at_is (length scope) (omega arith)

  place_stays : (k : ℕ) (n : Node) → dead k ≡ false → slice_index (positions_of scope q) k ≡ position_of scope (tables_seen q k) n
      → at (place_if_named scope (named_at k n)) ≡ position_of scope (tables_seen q k) n
  place_stays k (node.Col c) h is =
      ap (λ b. at (place_if_named scope (named_unless b (slice_index (positions_of scope q) k)))) h
      ∙ ap (λ p. at (place_of_found (slice_get scope p))) is
      ∙ at_is (column_meant scope (tables_seen q k) c) (place_within (is_meant c (tables_seen q k)) scope)
  place_stays k (node.Lit l) h is = nowhere
  place_stays k (node.Neg a) h is = nowhere
  place_stays k (node.Arith o a b) h is = nowhere
  place_stays k (node.Compare c a b) h is = nowhere
  place_stays k (node.Both a b) h is = nowhere
  place_stays k (node.Either a b) h is = nowhere
  place_stays k (node.Not a) h is = nowhere
  place_stays k (node.IsNull a) h is = nowhere
  place_stays k (node.NotNull a) h is = nowhere
  place_stays k (node.Aggregate f a) h is = nowhere

  module _ (leaf leaf' : Node → ℕ → Value) (same : (n : Node) (p : ℕ) → list_all (is_apart q) (children n) ≡ true → leaf' n p ≡ leaf n p) where
    leaves_alike : (k : ℕ) (ns more : List Node) (behind : List (ℕ × ℕ)) (i : ℕ) → i < length ns → dead (k + i) ≡ false
        → ((j : ℕ) → j < length ns → slice_index (positions_of scope q) (k + j) ≡ slice_index (positions_from scope q k ns) j)
        → list_all (is_apart q) (flat_map children ns) ≡ true
        → value_at (leaves_of leaf' (settled ns (named_on k ns) ++ more) (map at (map (place_if_named scope) (named_on k ns) ++ behind))) i
        ≡ value_at (leaves_of leaf ns (positions_from scope q k ns)) i
    leaves_alike k [] more behind i h d are each = absurd (omega arith)
    leaves_alike k (n ∷ ns) more behind zero h d are each =
        let z : k + 0 ≡ k = omega arith in
        let d0 : dead k ≡ false = subst (λ m. dead m ≡ false) z d in
        let here : slice_index (positions_of scope q) k ≡ position_of scope (tables_seen q k) n = ap (slice_index (positions_of scope q)) (sym z) ∙ are 0 (omega arith) in
        ap (λ m. leaf' m (at (place_if_named scope (named_at k n)))) (node_stays k n d0)
        ∙ ap (leaf' n) (place_stays k n d0 here)
        ∙ same n (position_of scope (tables_seen q k) n) (front_all (is_apart q) (children n) (flat_map children ns) each)
    leaves_alike k (n ∷ ns) more behind (suc i) h d are each =
        let shift : k + suc i ≡ suc k + i = omega arith in
        leaves_alike (suc k) ns more behind i (omega arith) (subst (λ m. dead m ≡ false) shift d)
        (λ j below. let s : suc k + j ≡ k + suc j = omega arith in ap (slice_index (positions_of scope q)) s ∙ are (suc j) (omega arith))
        (back_all (is_apart q) (children n) (flat_map children ns) each)

    walk : (texts : List ℕ) (leaves leaves' : List Value) (k : ℕ) (ns : List Node) (done done' : List NodeValue) → Alike dead done done' → length done ≡ k
        → ((i : ℕ) → i < length ns → dead (k + i) ≡ false → value_at leaves' (k + i) ≡ value_at leaves (k + i))
        → list_all (is_apart q) (flat_map children ns) ≡ true
        → Alike dead (values_from leaves texts ns done) (values_from leaves' texts (settled ns (named_on k ns)) done')
    walk texts leaves leaves' k [] done done' a e agree each = a
    walk texts leaves leaves' k (n ∷ ns) done done' a e agree each =
        let x : NodeValue = node_value (value_at leaves (length done)) texts n done in
        let y : NodeValue = node_value (value_at leaves' (length done')) texts (settled_node n (named_at k n)) done' in
        let z : k + 0 ≡ k = omega arith in
        let pushed = length-append done (x ∷ []) in
        let new : dead (length done) ≡ false → y ≡ x = λ h.
        let d : dead k ≡ false = subst (λ m. dead m ≡ false) e h in
        let leaf_is : value_at leaves' (length done') ≡ value_at leaves (length done) =
        ap (value_at leaves') (a.even ∙ e ∙ sym z) ∙ agree 0 (omega arith) (subst (λ m. dead m ≡ false) (sym z) d) ∙ ap (value_at leaves) (z ∙ sym e) in
        ap (λ m. node_value (value_at leaves' (length done')) texts m done') (node_stays k n d)
        ∙ node_alike dead done done' a (value_at leaves (length done)) (value_at leaves' (length done')) texts n leaf_is
        (all_live scope q (children n) (front_all (is_apart q) (children n) (flat_map children ns) each)) in
        walk texts leaves leaves' (suc k) ns (done ++ x ∷ []) (done' ++ y ∷ []) (alike_more dead done done' x y a new) (omega (arith, pushed, e))
        (λ i below d. let s : suc k + i ≡ k + suc i = omega arith in
        ap (value_at leaves') s ∙ agree (suc i) (omega arith) (subst (λ m. dead m ≡ false) s d) ∙ ap (value_at leaves) (sym s))
        (back_all (is_apart q) (children n) (flat_map children ns) each)

    module _ (texts : List ℕ) (each : list_all (is_apart q) (flat_map children q.nodes) ≡ true) where
      abbrev nodes' : List Node
      nodes' = nodes_written scope (named_nodes scope q) q

      abbrev leaves' : List Value
      leaves' = leaves_of leaf' nodes' (map at (places_written scope (positions_of scope q) q))

      abbrev front' : List NodeValue
      front' = values_from leaves' texts (settled q.nodes (named_nodes scope q)) []

      front_alike : Alike dead (values_of (leaves_of leaf q.nodes (positions_of scope q)) texts q.nodes) front'
      front_alike =
          walk texts (leaves_of leaf q.nodes (positions_of scope q)) leaves' 0 q.nodes [] [] (record { even = refl; same = λ n h. refl }) refl
          (λ i below d. let z : 0 + i ≡ i = omega arith in
          ap (value_at leaves') z
          ∙ leaves_alike 0 q.nodes (star_nodes q.star scope) (star_places q.star scope) i below d
          (λ j h. let s : 0 + j ≡ j = omega arith in ap (slice_index (positions_of scope q)) s) each
          ∙ ap (value_at (leaves_of leaf q.nodes (positions_of scope q))) (sym z))
          each

      front_count : length front' ≡ length q.nodes
      front_count =
          let whole = count leaves' texts (settled q.nodes (named_nodes scope q)) [] in
          let even = settled_count q.nodes (named_nodes scope q) in
          omega (arith, whole, even)

      -- a node that was not replaced has the value that it had
      pub values_agree : (n : ℕ) → n < length q.nodes → dead n ≡ false
          → get_or (values_of leaves' texts nodes') n (Plain Null) ≡ get_or (values_of (leaves_of leaf q.nodes (positions_of scope q)) texts q.nodes) n (Plain Null)
      values_agree n below d =
          ap (λ l. get_or l n (Plain Null)) (in_turn leaves' texts (settled q.nodes (named_nodes scope q)) (star_nodes q.star scope) [])
          ∙ kept leaves' texts (star_nodes q.star scope) front' n (omega (arith, front_count, below))
          ∙ front_alike.same n d

      -- a node of a star has the value of the row at its place
      pub star_value : (row : List Value) → q.star ≡ true → ((c : FromColumn) (p : ℕ) → leaf' (column_node c) p ≡ value_at row p) → (i : ℕ) → i < length scope
          → value_of (values_of leaves' texts nodes') (length q.nodes + i) ≡ value_at row i
      star_value row star col i below =
          let even : length (settled q.nodes (named_nodes scope q)) ≡ length q.nodes = settled_count q.nodes (named_nodes scope q) in
          let named : length (map (place_if_named scope) (named_nodes scope q)) ≡ length q.nodes = length_map (place_if_named scope) (named_nodes scope q) ∙ named_count scope (positions_of scope q) q 0 q.nodes in
          ap as_value (
          ap (λ l. get_or l (length q.nodes + i) (Plain Null)) (in_turn leaves' texts (settled q.nodes (named_nodes scope q)) (star_nodes q.star scope) []
          ∙ ap (λ b. values_from leaves' texts (star_nodes b scope) front') star)
          ∙ ap (λ k. get_or (values_from leaves' texts (map column_node scope) front') (k + i) (Plain Null)) (sym front_count)
          ∙ star_at leaves' texts scope front' i below)
          ∙ ap (λ k. value_at leaves' (k + i)) (front_count ∙ sym even)
          ∙ leaves_behind leaf' at (settled q.nodes (named_nodes scope q)) (star_nodes q.star scope) (map (place_if_named scope) (named_nodes scope q)) (star_places q.star scope) i (even ∙ sym named)
          ∙ ap (λ b. value_at (leaves_of leaf' (star_nodes b scope) (map at (star_places b scope))) i) star
          ∙ star_leaf leaf' row at col scope i below
          ∙ ap (value_at row) (at_is i (omega arith))
        where
          length_map : {X Y : Type 0} (f : X → Y) (xs : List X) → length (map f xs) ≡ length xs
          length_map f [] = refl
          length_map f (x ∷ xs) = ap suc (length_map f xs)
