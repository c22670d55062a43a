-- The columns of FROM that a statement names, and the length of its keys.
use Rattle.std.proofs.Common.{◌≡◌, ℕ, suc, ◌+◌, ◌-◌, Bool, true, false, List, [], ◌∷◌, Option, Some, None, refl, sym, ap, ◌∙◌, length, map, not, ◌&&◌, ◌||◌, if◌then◌else◌}
use Rattle.std.specs.Prelude.{nat_eq, nat_le, slice_index}
use Rattle.std.specs.List.{list_all, list_any, sum_by}
use Rattle.std.proofs.lemmas.List.Sums.{sum_by-cons}
use Rattle.hg_model.specs.Binding.{aggregate_lengths, column_lengths, is_named_by, is_order_key, is_output_target, is_place, lengths_fit, named_length, select_kinds, some_names, target_length, type_at}
use Rattle.hg_model.specs.Query.{Query}
use Rattle.hg_model.specs.Scope.{positions_from, target_of}
use Rattle.hg_model.specs.Types.{lengths_from, type_length}
use Rattle.hg_model.specs.declared.tables.FromColumn.{FromColumn}
use Rattle.hg_model.specs.declared.tables.Target.{Target}
use Rattle.hg_model.specs.declared.tables.Target.TheVariants.{ToOutput, ToNode}
use Rattle.hg_model.specs.declared.trees.Column.{Column}
use Rattle.hg_model.specs.declared.trees.Node.{Node}
use Rattle.hg_model.specs.declared.trees.Node.TheVariants as node
use Rattle.hg_model.specs.declared.trees.OrderKey.{OrderKey}
use Rattle.hg_model.specs.declared.trees.OrderBy.TheVariants.{Column as ByColumn}
use Rattle.hg_model.specs.declared.trees.Output.{Output}
use Rattle.hg_bind.specs.BoundSelect.{bound_key, by_target}
use Rattle.hg_bind.specs.Selecting.{named_from, named_place, named_sum, named_unless, own_key_length}

unless : (p r : ℕ) (h : Bool) → (nat_eq p r && not h) ≡ is_place p (named_unless h r)
unless p r true = by (nat_eq p r)
  where
    by : (b : Bool) → (b && false) ≡ false
    by true = refl
    by false = refl
unless p r false = by (nat_eq p r)
  where
    by : (b : Bool) → (b && true) ≡ b
    by true = refl
    by false = refl

pub positions_count : (scope : List FromColumn) (q : Query) (k : ℕ) (ns : List Node) → length (positions_from scope q k ns) ≡ length ns
positions_count scope q k [] = refl
positions_count scope q k (n ∷ ns) = ap suc (positions_count scope q (suc k) ns)

module _ (scope : List FromColumn) (positions : List ℕ) (q : Query) where
  pub named_count : (k : ℕ) (ns : List Node) → length (named_from scope positions q k ns) ≡ length ns
  named_count k [] = refl
  named_count k (n ∷ ns) = ap suc (named_count (suc k) ns)

  one : (p k : ℕ) (n : Node) → is_named_by scope positions q p k n ≡ is_place p (named_place scope positions q k n)
  one p k (node.Lit l) = refl
  one p k (node.Col c) = unless p (slice_index positions k) (is_order_key q k && is_output_target (target_of scope positions q (ByColumn k)))
  one p k (node.Neg a) = refl
  one p k (node.Arith o a b) = refl
  one p k (node.Compare c a b) = refl
  one p k (node.Both a b) = refl
  one p k (node.Either a b) = refl
  one p k (node.Not a) = refl
  one p k (node.IsNull a) = refl
  one p k (node.NotNull a) = refl
  one p k (node.Aggregate f a) = refl

  any : (p k : ℕ) (ns : List Node) → some_names scope positions q p k ns ≡ list_any (is_place p) (named_from scope positions q k ns)
  any p k [] = refl
  any p k (n ∷ ns) =
      ap (λ b. b || some_names scope positions q p (suc k) ns) (one p k n)
      ∙ ap (λ b. is_place p (named_place scope positions q k n) || b) (any p (suc k) ns)

  pub named_sum_is : (p : ℕ) (cs : List FromColumn) → named_sum q.star (named_from scope positions q 0 q.nodes) p cs ≡ named_length scope positions q p cs
  named_sum_is p [] = refl
  named_sum_is p (c ∷ cs) =
      ap (λ b. (if q.star || b then type_length c.column.ty else 0) + named_sum q.star (named_from scope positions q 0 q.nodes) (suc p) cs) (sym (any p 0 q.nodes))
      ∙ ap (λ n. (if q.star || some_names scope positions q p 0 q.nodes then type_length c.column.ty else 0) + n) (named_sum_is (suc p) cs)

  key_is : (lengths : List ℕ) (t : Target) → own_key_length lengths (by_target t) ≡ target_length lengths t
  key_is lengths (ToOutput k) = refl
  key_is lengths (ToNode n) = refl

  pub key_lengths_are : (lengths : List ℕ) (order : List OrderKey)
      → sum_by (λ (k : OrderKey). own_key_length lengths k.by) (map (bound_key scope positions q) order) ≡ sum_by (λ (k : OrderKey). target_length lengths (target_of scope positions q k.by)) order
  key_lengths_are lengths [] = refl
  key_lengths_are lengths (k ∷ ks) =
      sum_by-cons (λ (x : OrderKey). own_key_length lengths x.by) (bound_key scope positions q k) (map (bound_key scope positions q) ks)
      ∙ ap (λ n. n + sum_by (λ (x : OrderKey). own_key_length lengths x.by) (map (bound_key scope positions q) ks)) (key_is lengths (target_of scope positions q k.by))
      ∙ ap (λ n. target_length lengths (target_of scope positions q k.by) + n) (key_lengths_are lengths ks)
      ∙ sym (sum_by-cons (λ (x : OrderKey). target_length lengths (target_of scope positions q x.by)) k ks)

  abbrev lengths_of : List ℕ
  lengths_of = lengths_from (select_kinds scope positions q) (map (type_at (λ (c : Column). type_length c.ty) 0 scope) positions) q.nodes []

  abbrev fit : ℕ → ℕ → ℕ → Bool
  fit a b c = list_all (λ n. nat_le n 3900) (a ∷ b ∷ c ∷ [])

  abbrev outs : List ℕ → ℕ
  outs lengths = if q.star then column_lengths scope else sum_by (λ (o : Output). slice_index lengths o.node) q.outputs

  abbrev order_of : List ℕ → ℕ
  order_of lengths = sum_by (λ (k : OrderKey). target_length lengths (target_of scope positions q k.by)) q.order

  abbrev whole : ℕ
  whole = named_length scope positions q 0 scope

  pub lengths_are : (lengths : List ℕ) → lengths ≡ lengths_of → (result : Bool) (a b1 b2 c1 c2 : ℕ) → result ≡ fit a (b1 + b2) (c1 + c2)
      → a ≡ named_sum q.star (named_from scope positions q 0 q.nodes) 0 scope → b1 ≡ sum_by (slice_index lengths) q.group → b2 ≡ aggregate_lengths q.nodes lengths → c1 ≡ outs lengths
      → c2 ≡ sum_by (λ (k : OrderKey). own_key_length lengths k.by) (map (bound_key scope positions q) q.order) → result ≡ lengths_fit scope positions q
  lengths_are lengths are result a b1 b2 c1 c2 is named group aggregates outputs keys =
      is ∙ ap (λ n. fit n (b1 + b2) (c1 + c2)) (named ∙ named_sum_is 0 scope)
      ∙ ap (λ n. fit whole (n + b2) (c1 + c2)) group ∙ ap (λ n. fit whole (sum_by (slice_index lengths) q.group + n) (c1 + c2)) aggregates
      ∙ ap (λ n. fit whole (sum_by (slice_index lengths) q.group + aggregate_lengths q.nodes lengths) (n + c2)) outputs
      ∙ ap (λ n. fit whole (sum_by (slice_index lengths) q.group + aggregate_lengths q.nodes lengths) (outs lengths + n)) (keys ∙ key_lengths_are lengths q.order)
      ∙ ap (λ l. fit whole (sum_by (slice_index l) q.group + aggregate_lengths q.nodes l) (outs l + order_of l)) are
