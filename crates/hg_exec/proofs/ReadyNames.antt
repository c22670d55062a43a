-- A column that a bound SELECT's nodes name is one that the statement names.
use Rattle.std.proofs.Common.{◌≡◌, ◌<◌, ◌≤◌, ℕ, zero, suc, ◌+◌, ◌*◌, Bool, true, false, List, [], ◌∷◌, ◌++◌, Some, map, refl, sym, ap, ◌∙◌, length, cond, not, ◌&&◌, ◌||◌, arith}
use Rattle.std.specs.Prelude.{nat_eq, slice_get, slice_index}
use Rattle.std.specs.List.{position_or_len}
use Rattle.std.proofs.lemmas.Bool.Decides.{nat_tests}
use Rattle.std.proofs.lemmas.Option.{slice_get_within}
use Rattle.hg_bind.specs.BoundSelect.{place_if_named, place_of_found, places_written, position_at, settled, settled_node, star_nodes, star_places, written_out}
use Rattle.hg_bind.specs.Laws.{HasColumn, HaveColumns}
use Rattle.hg_bind.specs.Selecting.{named_from, named_place, named_unless}
use Rattle.hg_expr.specs.Slots.{is_named, key_of, names_key}
use Rattle.hg_model.specs.Binding.{is_named_by, is_order_key, is_output_target, some_names}
use Rattle.hg_model.specs.Query.{Query}
use Rattle.hg_model.specs.Scope.{is_meant, position_of, positions_from, positions_of, tables_seen, target_of}
use Rattle.hg_model.specs.declared.tables.FromColumn.{FromColumn}
use Rattle.hg_model.specs.declared.trees.ColRef.{ColRef}
use Rattle.hg_model.specs.declared.trees.Node.{Node}
use Rattle.hg_model.specs.declared.trees.Node.TheVariants as node
use Rattle.hg_model.specs.declared.trees.OrderBy.TheVariants.{Column as ByColumn}
use Rattle.hg_exec.proofs.ReadyPlaces.{or_elim, place_of_key}

-- ---- positions

place_step : (b : Bool) (n m : ℕ) → n ≤ m → cond (not b) (1 + n) 0 ≤ suc m
place_step true n m h = omega arith
place_step false n m h = omega arith

place_within : {X : Type 0} (p : X → Bool) (xs : List X) → position_or_len p xs ≤ length xs
place_within p [] = omega arith
place_within p (x ∷ xs) = place_step (p x) (position_or_len p xs) (length xs) (place_within p xs)

position_within : (scope : List FromColumn) (seen : ℕ) (n : Node) → position_of scope seen n ≤ length scope
position_within scope seen (node.Col c) = place_within (is_meant c seen) scope
position_within scope seen (node.Lit l) = omega arith
position_within scope seen (node.Neg a) = omega arith
position_within scope seen (node.Arith o a b) = omega arith
position_within scope seen (node.Compare o a b) = omega arith
position_within scope seen (node.Both a b) = omega arith
position_within scope seen (node.Either a b) = omega arith
position_within scope seen (node.Not a) = omega arith
position_within scope seen (node.IsNull a) = omega arith
position_within scope seen (node.NotNull a) = omega arith
position_within scope seen (node.Aggregate f a) = omega arith

positions_within : (scope : List FromColumn) (q : Query) (k : ℕ) (ns : List Node) (i : ℕ) → slice_index (positions_from scope q k ns) i ≤ length scope
positions_within scope q k [] i = omega arith
positions_within scope q k (n ∷ ns) zero = position_within scope (tables_seen q k) n
positions_within scope q k (n ∷ ns) (suc i) = positions_within scope q (suc k) ns i

pub all_within : (scope : List FromColumn) (q : Query) (i : ℕ) → slice_index (positions_of scope q) i ≤ length scope
all_within scope q i = positions_within scope q 0 q.nodes i

-- ---- the column of a key

module _ (scope : List FromColumn) (positions : List ℕ) (q : Query) (widths : List ℕ) (within : (i : ℕ) → slice_index positions i ≤ length scope) where
  -- the statement names the column of a key
  record IsFound (key : ℕ) (by : ℕ → Bool) : Type 0 where
    place : ℕ
    is_by : by place ≡ true
    key_is : key_of (place_of_found (slice_get scope place)) ≡ key
    inside : (place_of_found (slice_get scope place)).1 < slice_index widths (place_of_found (slice_get scope place)).0
    low : place ≤ length scope

  same_place : (k : ℕ) → nat_eq k k ≡ true
  same_place k = grind (arith, nat_tests)

  both_so : (s t : Bool) → s ≡ true → t ≡ true → (s && t) ≡ true
  both_so true t h g = g
  both_so false t h g = h

  column_found : (c : ColRef) (k key : ℕ) (b : Bool) → HasColumn widths (settled_node (node.Col c) (named_unless b (slice_index positions k))) (place_if_named scope (named_unless b (slice_index positions k)))
      → names_key key (settled_node (node.Col c) (named_unless b (slice_index positions k))) (place_if_named scope (named_unless b (slice_index positions k))) ≡ true
      → IsFound key (λ p. nat_eq p (slice_index positions k) && not b)
  column_found c k key true h is = absurd cc
  column_found c k key false h is = record {
    place = slice_index positions k;
    is_by = both_so (nat_eq (slice_index positions k) (slice_index positions k)) true (same_place (slice_index positions k)) refl;
    key_is = grind (arith, nat_tests);
    inside = h.1;
    low = within k;
  }

  node_found : (k key : ℕ) (n : Node) → HasColumn widths (settled_node n (named_place scope positions q k n)) (place_if_named scope (named_place scope positions q k n))
      → names_key key (settled_node n (named_place scope positions q k n)) (place_if_named scope (named_place scope positions q k n)) ≡ true
      → IsFound key (λ p. is_named_by scope positions q p k n)
  node_found k key (node.Col c) h is = column_found c k key (is_order_key q k && is_output_target (target_of scope positions q (ByColumn k))) h is
  node_found k key (node.Lit l) h is = absurd cc
  node_found k key (node.Neg a) h is = absurd cc
  node_found k key (node.Arith o a b) h is = absurd cc
  node_found k key (node.Compare o a b) h is = absurd cc
  node_found k key (node.Both a b) h is = absurd cc
  node_found k key (node.Either a b) h is = absurd cc
  node_found k key (node.Not a) h is = absurd cc
  node_found k key (node.IsNull a) h is = absurd cc
  node_found k key (node.NotNull a) h is = absurd cc
  node_found k key (node.Aggregate f a) h is = absurd cc

  or_left : (s t : Bool) → s ≡ true → (s || t) ≡ true
  or_left true t h = refl
  or_left false t h = absurd cc

  or_right : (s t : Bool) → t ≡ true → (s || t) ≡ true
  or_right true t h = refl
  or_right false t h = h

  names_found : (k key : ℕ) (ns : List Node) → HaveColumns widths (settled ns (named_from scope positions q k ns) ++ []) (map (place_if_named scope) (named_from scope positions q k ns) ++ [])
      → is_named (settled ns (named_from scope positions q k ns) ++ []) (map (place_if_named scope) (named_from scope positions q k ns) ++ []) key ≡ true
      → IsFound key (λ p. some_names scope positions q p k ns)
  names_found k key [] h is = absurd cc
  names_found k key (n ∷ ns) h is =
      or_elim (names_key key (settled_node n (named_place scope positions q k n)) (place_if_named scope (named_place scope positions q k n)))
      (is_named (settled ns (named_from scope positions q (suc k) ns) ++ []) (map (place_if_named scope) (named_from scope positions q (suc k) ns) ++ []) key) is
      (λ e. let r = node_found k key n h.0 e in record {
        place = r.place;
        is_by = or_left (is_named_by scope positions q r.place k n) (some_names scope positions q r.place (suc k) ns) r.is_by;
        key_is = r.key_is;
        inside = r.inside;
        low = r.low;
      })
      (λ e. let r = names_found (suc k) key ns h.1 e in record {
        place = r.place;
        is_by = or_right (is_named_by scope positions q r.place k n) (some_names scope positions q r.place (suc k) ns) r.is_by;
        key_is = r.key_is;
        inside = r.inside;
        low = r.low;
      })

  -- a place in FROM is told by its table and column
  module _ (few : (t : ℕ) → slice_index widths t ≤ 16) (at_is : (p : ℕ) → p ≤ length scope → position_at widths (place_of_found (slice_get scope p)) ≡ p) where
    marked_by : (place : ℕ) (x : FromColumn) → slice_get scope place ≡ Some x → x.place < 16 → IsFound (16 * x.table + x.place) (λ p. some_names scope positions q p 0 q.nodes)
        → some_names scope positions q place 0 q.nodes ≡ true
    marked_by place x at low r =
        let found : ℕ × ℕ = place_of_found (slice_get scope r.place) in
        let same = place_of_key widths few found x.table x.place r.inside low r.key_is in
        let inside = slice_get_within scope place x at in
        let there : position_at widths (x.table, x.place) ≡ place = ap (λ o. position_at widths (place_of_found o)) (sym at) ∙ at_is place (omega (arith, inside)) in
        let here : position_at widths found ≡ r.place = at_is r.place r.low in
        let alike : position_at widths found ≡ position_at widths (x.table, x.place) =
        ap (λ t. position_at widths (t, found.1)) same.0 ∙ ap (λ i. position_at widths (x.table, i)) same.1 in
        ap (λ p. some_names scope positions q p 0 q.nodes) (sym there ∙ sym alike ∙ here) ∙ r.is_by

    pub marked : HaveColumns widths (written_out scope positions q).nodes (places_written scope positions q)
        → (place : ℕ) (x : FromColumn) → slice_get scope place ≡ Some x → x.place < 16
        → is_named (written_out scope positions q).nodes (places_written scope positions q) (16 * x.table + x.place) ≡ true
        → (q.star || some_names scope positions q place 0 q.nodes) ≡ true
    marked h place x at low is = by q.star h is
      where
        by : (b : Bool) → HaveColumns widths (settled q.nodes (named_from scope positions q 0 q.nodes) ++ star_nodes b scope) (map (place_if_named scope) (named_from scope positions q 0 q.nodes) ++ star_places b scope)
            → is_named (settled q.nodes (named_from scope positions q 0 q.nodes) ++ star_nodes b scope) (map (place_if_named scope) (named_from scope positions q 0 q.nodes) ++ star_places b scope) (16 * x.table + x.place) ≡ true
            → (b || some_names scope positions q place 0 q.nodes) ≡ true
        by true h is = refl
        by false h is = marked_by place x at low (names_found 0 (16 * x.table + x.place) q.nodes h is)
