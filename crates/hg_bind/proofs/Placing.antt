-- In a SELECT that nothing stands against each column node has the place of a column.
use Rattle.std.proofs.Common.{◌≡◌, ◌<◌, ◌≤◌, ℕ, zero, suc, ◌+◌, Bool, true, false, List, [], ◌∷◌, ◌++◌, Option, Some, None, map, refl, sym, ap, subst, ◌∙◌, length, cond, not, ◌&&◌, ◌||◌, if◌then◌else◌, arith}
use Rattle.std.specs.Prelude.{⊤, nat_eq, nat_le, nat_lt, slice_get, slice_index}
use Rattle.std.specs.List.{count_by, filter, list_all, list_any, position_or_len}
use Rattle.std.specs.Option.{option_to_list}
use Rattle.std.specs.Cmp.{first_so, second_so}
use Rattle.std.proofs.lemmas.Bool.Decides.{nat_tests}
use Rattle.std.proofs.lemmas.List.{length-map}
use Rattle.std.proofs.lemmas.List.Sums.{sum_by-cons}
use Rattle.hg_model.specs.Binding.{are_one_column, cause_if, cause_of_count, column_cause, is_key_of, is_order_key, is_output_target, key_cause, may_name_columns, name_cause, names_from, outputs_found, select_refusal}
use Rattle.hg_model.specs.Query.{Query}
use Rattle.hg_model.specs.Refusal.{Refusal, AmbiguousColumn, UnknownColumn, first_cause}
use Rattle.hg_model.specs.Scope.{column_meant, column_place, columns_of, finds_output, is_in_outputs, is_meant, is_named, is_within, name_target, output_count, output_found, output_or_node, position_of, positions_from, positions_of, scope_of, seen_from, star_output, tables_seen, target_of, written_output}
use Rattle.hg_model.specs.SelectMeaning.{on_conditions}
use Rattle.hg_model.specs.Tables.{Table, table_named}
use Rattle.hg_model.specs.declared.tables.FromColumn.{FromColumn}
use Rattle.hg_model.specs.declared.tables.Target.TheVariants.{ToOutput, ToNode}
use Rattle.hg_model.specs.declared.trees.ColRef.{ColRef}
use Rattle.hg_model.specs.declared.trees.FromTable.{FromTable}
use Rattle.hg_model.specs.declared.trees.Node.{Node}
use Rattle.hg_model.specs.declared.trees.Node.TheVariants as node
use Rattle.hg_model.specs.declared.trees.OrderBy.{OrderBy}
use Rattle.hg_model.specs.declared.trees.OrderBy.TheVariants.{Position, Column as ByColumn}
use Rattle.hg_model.specs.declared.trees.OrderKey.{OrderKey}
use Rattle.hg_model.specs.declared.trees.Output.{Output}
use Rattle.hg_bind.specs.BoundMeaning.{KeysStandApart, is_behind}
use Rattle.hg_bind.specs.BoundSelect.{IsBoundSelect, column_node, nodes_written, place_if_named, place_of_column, place_of_found, places_written, settled, settled_node, star_nodes, star_places, widths_of, written_out}
use Rattle.hg_bind.specs.Laws.{ColumnsHavePlaces, HasColumn, HaveColumns}
use Rattle.hg_bind.specs.Selecting.{named_from, named_place, named_unless}
use Rattle.hg_bind.proofs.Positions.{stands}
use Rattle.hg_bind.proofs.Replacing.{front_all, back_all}

-- one that is counted is found
one_counted : (n : ℕ) (c : ColRef) → cause_of_count n c ≡ None → 1 ≤ n
one_counted zero c h = absurd cc
one_counted (suc n) c h = omega arith

found_step : (b : Bool) (at counted total : ℕ) → 1 ≤ cond b 1 0 + counted → (1 ≤ counted → at < total) → cond (not b) (1 + at) 0 < suc total
found_step true at counted total h more = omega arith
found_step false at counted total h more = let below = more (omega arith) in omega arith

found : {X : Type 0} (p : X → Bool) (xs : List X) → 1 ≤ count_by p xs → position_or_len p xs < length xs
found p [] h = absurd (omega arith)
found p (x ∷ xs) h =
    found_step (p x) (position_or_len p xs) (count_by p xs) (length xs) (subst (λ n. 1 ≤ n) (sum_by-cons (λ y. cond (p y) 1 0) x xs) h) (found p xs)

filter_step : {X : Type 0} (b : Bool) (x : X) (kept : List X) (at total : ℕ) → suc total ≤ cond (not b) (1 + at) 0 → (total ≤ at → kept ≡ []) → cond b (x ∷ kept) kept ≡ []
filter_step true x kept at total h more = absurd (omega arith)
filter_step false x kept at total h more = more (omega arith)

none_found : {X : Type 0} (p : X → Bool) (xs : List X) → length xs ≤ position_or_len p xs → filter p xs ≡ []
none_found p [] h = refl
none_found p (x ∷ xs) h = filter_step (p x) x (filter p xs) (position_or_len p xs) (length xs) h (none_found p xs)

-- a key of ORDER BY sees all tables
within_step : (o : Option ℕ) (n : ℕ) → list_all (λ m. nat_lt m n) (option_to_list o) ≡ true → is_within o n ≡ false
within_step None n h = refl
within_step (Some m) n h = let below : nat_lt m n ≡ true = first_so (nat_lt m n) true h in grind (arith, nat_tests)

sees_all : (k : ℕ) (fs : List FromTable) (n : ℕ) → list_all (λ m. nat_lt m n) (on_conditions fs) ≡ true → seen_from k fs n ≡ k + length fs
sees_all k [] n h = omega arith
sees_all k (f ∷ fs) n h =
    let more = sees_all (suc k) fs n (back_all (λ m. nat_lt m n) (option_to_list f.on) (on_conditions fs) h) in
    ap (λ b. if b then suc k else seen_from (suc k) fs n) (within_step f.on n (front_all (λ m. nat_lt m n) (option_to_list f.on) (on_conditions fs) h))
    ∙ more ∙ omega arith

key_step : (roots : List ℕ) (n : ℕ) (k : OrderBy) → is_key_of n k ≡ true → is_behind roots k ≡ true → list_all (λ m. nat_lt m n) roots ≡ true
key_step roots n (Position k) h low = absurd cc
key_step roots n (ByColumn m) h low = let same : m ≡ n = grind (arith, nat_tests) in subst (λ j. list_all (λ m. nat_lt m j) roots ≡ true) same low

or_step : (b c : Bool) {P : Type 0} → (b || c) ≡ true → (b ≡ true → P) → (c ≡ true → P) → P
or_step true c h f g = f refl
or_step false c h f g = g h

key_behind : (roots : List ℕ) (n : ℕ) (ks : List OrderKey) → list_any (λ (k : OrderKey). is_key_of n k.by) ks ≡ true → list_all (λ (k : OrderKey). is_behind roots k.by) ks ≡ true
    → list_all (λ m. nat_lt m n) roots ≡ true
key_behind roots n [] h low = absurd cc
key_behind roots n (k ∷ ks) h low =
    or_step (is_key_of n k.by) (list_any (λ (k : OrderKey). is_key_of n k.by) ks) h
    (λ e. key_step roots n k.by e (first_so (is_behind roots k.by) (list_all (λ (k : OrderKey). is_behind roots k.by) ks) low))
    (λ e. key_behind roots n ks e (second_so (is_behind roots k.by) (list_all (λ (k : OrderKey). is_behind roots k.by) ks) low))

seen_step : (b : Bool) (n m : ℕ) → m ≡ n → (if b then n else m) ≡ n
seen_step true n m h = refl
seen_step false n m h = h

-- a target that is no output
no_output : (at outputs n : ℕ) (b : Bool) → nat_lt at outputs ≡ b → is_output_target (if b then ToOutput at else ToNode n) ≡ false → outputs ≤ at
no_output at outputs n true e h = absurd cc
no_output at outputs n false e h = grind (arith, nat_tests)

-- no cause of a list of causes
cause_left : (o : Option Refusal) (more : List (Option Refusal)) → first_cause (o ∷ more) ≡ None → (o ≡ None) × (first_cause more ≡ None)
unfolding first_cause
cause_left None more h = (refl, h)
cause_left (Some r) more h = absurd cc

fourth : (a b c d : Option Refusal) (more : List (Option Refusal)) → first_cause (a ∷ b ∷ c ∷ d ∷ more) ≡ None → d ≡ None
fourth a b c d more none =
    let first = (cause_left a (b ∷ c ∷ d ∷ more) none).1 in
    let second = (cause_left b (c ∷ d ∷ more) first).1 in
    let third = (cause_left c (d ∷ more) second).1 in
    (cause_left d more third).0

names_so : (ts : List Table) (q : Query) → select_refusal ts q ≡ None → first_cause (names_from (scope_of ts q) (positions_of (scope_of ts q) q) q 0 q.nodes) ≡ None
unfolding select_refusal
names_so ts q h = fourth _ _ _ _ _ h

pick_second : (b : Bool) (first second : Option Refusal) → b ≡ false → (if b then first else second) ≡ None → second ≡ None
pick_second true first second e h = absurd cc
pick_second false first second e h = h

may_cause : (b : Bool) (cause : Option Refusal) (r : Refusal) → (if b then cause else Some r) ≡ None → cause ≡ None
may_cause true cause r h = h
may_cause false cause r h = absurd cc

got_inside : {X : Type 0} (xs : List X) (k : ℕ) (x : X) → slice_get xs k ≡ Some x → k < length xs
got_inside [] k x h = absurd cc
got_inside (y ∷ ys) zero x h = omega arith
got_inside (y ∷ ys) (suc k) x h = let more : k < length ys = got_inside ys k x h in omega arith

module _ (tables : List Table) (q : Query) (apart : KeysStandApart q) where
  abbrev scope : List FromColumn
  scope = scope_of tables q

  abbrev positions : List ℕ
  positions = positions_of scope q

  abbrev widths : List ℕ
  widths = widths_of tables q.tables

  key_sees_all : (k : ℕ) → is_order_key q k ≡ true → tables_seen q k ≡ length q.tables
  key_sees_all k key =
      let z : 0 + length q.tables ≡ length q.tables = omega arith in
      seen_step (is_in_outputs q.outputs k) (length q.tables) (seen_from 0 q.tables k)
      (sees_all 0 q.tables k (key_behind (on_conditions q.tables) k q.order key apart.behind) ∙ z)

  -- a key that is no output names a column
  key_place : (c : ColRef) (k : ℕ) → is_order_key q k ≡ true → (b : Bool)
      → (if b then length scope else length q.outputs) ≤ (if b then star_output scope c else written_output scope positions q c)
      → (if b then cause_of_count (count_by (is_named c) scope) c
      else (if nat_lt 0 (length (outputs_found scope positions q c))
      then cause_if (not (are_one_column (outputs_found scope positions q c))) (AmbiguousColumn c)
      else (if may_name_columns q then column_cause scope (length q.tables) c else Some (UnknownColumn c)))) ≡ None
      → column_meant scope (tables_seen q k) c < length scope
  key_place c k key true past none =
      let below : position_or_len (is_named c) scope < length scope = found (is_named c) scope (one_counted (count_by (is_named c) scope) c none) in
      absurd (omega arith)
  key_place c k key false past none =
      let nothing : filter (finds_output scope positions q.nodes c) q.outputs ≡ [] = none_found (finds_output scope positions q.nodes c) q.outputs past in
      let no_one : nat_lt 0 (length (outputs_found scope positions q c)) ≡ false =
      ap (λ l. nat_lt 0 (length (map (λ (o : Output). column_place positions q.nodes o.node) l))) nothing in
      let later = pick_second (nat_lt 0 (length (outputs_found scope positions q c))) (cause_if (not (are_one_column (outputs_found scope positions q c))) (AmbiguousColumn c))
      (if may_name_columns q then column_cause scope (length q.tables) c else Some (UnknownColumn c)) no_one none in
      let meant = may_cause (may_name_columns q) (column_cause scope (length q.tables) c) (UnknownColumn c) later in
      subst (λ n. column_meant scope n c < length scope) (sym (key_sees_all k key))
      (found (is_meant c (length q.tables)) scope (one_counted (count_by (is_meant c (length q.tables)) scope) c meant))

  -- and so does every other name that is no output
  name_place : (c : ColRef) (k : ℕ) → slice_get q.nodes k ≡ Some (node.Col c) → (b : Bool) → is_order_key q k ≡ b
      → (if b then key_cause scope positions q c else column_cause scope (tables_seen q k) c) ≡ None
      → (b && is_output_target (target_of scope positions q (ByColumn k))) ≡ false → column_meant scope (tables_seen q k) c < length scope
  name_place c k at true key none plain =
      let own : is_output_target (output_or_node (output_found scope positions q c) (output_count scope q) k) ≡ false =
      ap (λ o. is_output_target (name_target scope positions q k o)) (sym at) ∙ plain in
      key_place c k key q.star (no_output (output_found scope positions q c) (output_count scope q) k (nat_lt (output_found scope positions q c) (output_count scope q)) refl own) none
  name_place c k at false key none plain = found (is_meant c (tables_seen q k)) scope (one_counted (count_by (is_meant c (tables_seen q k)) scope) c none)

  column_has : (c : ColRef) (p : ℕ) → p < length scope → HasColumn widths (node.Col c) (place_of_found (slice_get scope p))
  column_has c p h =
      let s = stands tables 0 q.tables p h in
      let table : s.column.table ≡ s.table = s.table_is ∙ omega arith in
      let inside : s.table < length widths = subst (λ n. s.table < n) (sym (length-map q.tables (λ (f : FromTable). length (columns_of (table_named tables f.table))))) s.inside in
      subst (λ o. HasColumn widths (node.Col c) (place_of_found o)) (sym s.there)
      (subst (λ t. t < length widths) (sym table) inside, subst (λ t. s.column.place < slice_index widths t) (sym table) s.within)

  col_by : (c : ColRef) (k : ℕ) (b : Bool) → (b ≡ false → slice_index positions k < length scope)
      → HasColumn widths (settled_node (node.Col c) (named_unless b (slice_index positions k))) (place_if_named scope (named_unless b (slice_index positions k)))
  col_by c k true inside = refl
  col_by c k false inside = column_has c (slice_index positions k) (inside refl)

  node_has : (k : ℕ) (n : Node) → slice_get q.nodes k ≡ Some n → slice_index positions k ≡ position_of scope (tables_seen q k) n → name_cause scope positions q k n ≡ None
      → HasColumn widths (settled_node n (named_place scope positions q k n)) (place_if_named scope (named_place scope positions q k n))
  node_has k (node.Col c) at is none =
      col_by c k (is_order_key q k && is_output_target (target_of scope positions q (ByColumn k)))
      (λ plain. subst (λ p. p < length scope) (sym is) (name_place c k at (is_order_key q k) refl none plain))
  node_has k (node.Lit l) at is none = refl
  node_has k (node.Neg a) at is none = refl
  node_has k (node.Arith o a b) at is none = refl
  node_has k (node.Compare c a b) at is none = refl
  node_has k (node.Both a b) at is none = refl
  node_has k (node.Either a b) at is none = refl
  node_has k (node.Not a) at is none = refl
  node_has k (node.IsNull a) at is none = refl
  node_has k (node.NotNull a) at is none = refl
  node_has k (node.Aggregate f a) at is none = refl

  all_have : (k : ℕ) (ns more : List Node) (behind : List (ℕ × ℕ)) → ((j : ℕ) → j < length ns → slice_index positions (k + j) ≡ slice_index (positions_from scope q k ns) j)
      → ((j : ℕ) → j < length ns → slice_get q.nodes (k + j) ≡ slice_get ns j) → first_cause (names_from scope positions q k ns) ≡ None → HaveColumns widths more behind
      → HaveColumns widths (settled ns (named_from scope positions q k ns) ++ more) (map (place_if_named scope) (named_from scope positions q k ns) ++ behind)
  all_have k [] more behind are at none later = later
  all_have k (n ∷ ns) more behind are at none later =
      let z : k ≡ k + 0 = omega arith in
      let causes = cause_left (name_cause scope positions q k n) (names_from scope positions q (suc k) ns) none in (
        node_has k n (ap (slice_get q.nodes) z ∙ at 0 (omega arith)) (ap (slice_index positions) z ∙ are 0 (omega arith)) causes.0,
        all_have (suc k) ns more behind
            (λ j below. let s : suc k + j ≡ k + suc j = omega arith in ap (slice_index positions) s ∙ are (suc j) (omega arith))
            (λ j below. let s : suc k + j ≡ k + suc j = omega arith in ap (slice_get q.nodes) s ∙ at (suc j) (omega arith)) causes.1 later,
      )

  columns_have : (cs : List FromColumn) (k : ℕ) → ((j : ℕ) → j < length cs → slice_get scope (k + j) ≡ slice_get cs j) → HaveColumns widths (map column_node cs) (map place_of_column cs)
  columns_have [] k at = tt
  columns_have (c ∷ cs) k at =
      let z : k ≡ k + 0 = omega arith in
      let here : slice_get scope k ≡ Some c = ap (slice_get scope) z ∙ at 0 (omega arith) in (
        subst (λ o. HasColumn widths (column_node c) (place_of_found o)) here (column_has (record { table = Some c.alias; name = c.column.name }) k (got_inside scope k c here)),
        columns_have cs (suc k) (λ j below. let s : suc k + j ≡ k + suc j = omega arith in ap (slice_get scope) s ∙ at (suc j) (omega arith)),
      )

  star_has : (b : Bool) → HaveColumns widths (star_nodes b scope) (star_places b scope)
  star_has true = columns_have scope 0 (λ j below. let s : 0 + j ≡ j = omega arith in ap (slice_get scope) s)
  star_has false = tt

  written_have : select_refusal tables q ≡ None → HaveColumns widths (written_out scope positions q).nodes (places_written scope positions q)
  written_have none =
      all_have 0 q.nodes (star_nodes q.star scope) (star_places q.star scope) (λ j below. let s : 0 + j ≡ j = omega arith in ap (slice_index positions) s)
      (λ j below. let s : 0 + j ≡ j = omega arith in ap (slice_get q.nodes) s) (names_so tables q none) (star_has q.star)

pub columns_have_places : ColumnsHavePlaces
columns_have_places tables q bound numbers places b apart =
    subst (λ (x : Query). HaveColumns (widths_of tables q.tables) x.nodes places) (sym b.bound_is)
    (subst (λ ps. HaveColumns (widths_of tables q.tables) (written_out (scope_of tables q) (positions_of (scope_of tables q) q) q).nodes ps) (sym b.places_are)
    (written_have tables q apart b.unrefused))
