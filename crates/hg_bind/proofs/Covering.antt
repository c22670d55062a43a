-- Grouping columns: what is said of each node once is what the definition says of the columns below it.
use Rattle.std.proofs.Common.{◌≡◌, ℕ, zero, suc, ◌+◌, Bool, true, false, List, [], ◌∷◌, ◌++◌, refl, sym, ap, ◌∙◌, length, map, ◌&&◌, if◌then◌else◌, arith}
use Rattle.std.specs.Prelude.{nat_eq, slice_index, slice_index_or}
use Rattle.std.specs.List.{list_all, list_any, range_with_len}
use Rattle.std.specs.Option.{option_to_list}
use Rattle.std.proofs.lemmas.List.{length-map, map-append}
use Rattle.hg_model.specs.Binding.{all_among, columns_at, free_columns, free_from, group_places, is_all_grouped, output_places, star_places}
use Rattle.hg_model.specs.Query.{Query}
use Rattle.hg_model.specs.declared.tables.FromColumn.{FromColumn}
use Rattle.hg_model.specs.declared.trees.Node.{Node}
use Rattle.hg_model.specs.declared.trees.Node.TheVariants as node
use Rattle.hg_model.specs.declared.trees.Output.{Output}
use Rattle.hg_bind.specs.Selecting.{covered_at, covered_from, is_covered}

and_true : (b : Bool) → (b && true) ≡ b
and_true true = refl
and_true false = refl

both : (a b x y : Bool) → a ≡ x → b ≡ y → (a && b) ≡ (x && y)
both a b x y e f = ap (λ z. z && b) e ∙ ap (λ z. x && z) f

all_parts : {X : Type 0} (f : X → Bool) (xs ys : List X) → list_all f (xs ++ ys) ≡ (list_all f xs && list_all f ys)
all_parts f [] ys = refl
all_parts f (x ∷ xs) ys = by (f x) (all_parts f xs ys)
  where
    by : (b : Bool) → list_all f (xs ++ ys) ≡ (list_all f xs && list_all f ys) → (b && list_all f (xs ++ ys)) ≡ ((b && list_all f xs) && list_all f ys)
    by true e = e
    by false e = refl

all_seen : {X Y : Type 0} (f : Y → Bool) (g : X → Y) (h : X → Bool) → ((x : X) → h x ≡ f (g x)) → (xs : List X) → list_all h xs ≡ list_all f (map g xs)
all_seen f g h e [] = refl
all_seen f g h e (x ∷ xs) = both (h x) (list_all h xs) (f (g x)) (list_all f (map g xs)) (e x) (all_seen f g h e xs)

star_is : (q : Query) (cs : List FromColumn) (p : ℕ) → star_places q cs p ≡ range_with_len p (length cs)
star_is q [] p = refl
star_is q (c ∷ cs) p =
    let next : suc p ≡ p + 1 = omega arith in
    ap (λ l. p ∷ l) (star_is q cs (suc p) ∙ ap (λ s. range_with_len s (length cs)) next)

module _ (allowed : List ℕ) where
  abbrev all : List ℕ → Bool
  all = all_among allowed

  at_map : (fs : List (List ℕ)) (n : ℕ) → covered_at (map all fs) n ≡ all (columns_at fs n)
  at_map [] n = refl
  at_map (f ∷ fs) zero = refl
  at_map (f ∷ fs) (suc n) = at_map fs n

  two : (fs : List (List ℕ)) (a b : ℕ) → (covered_at (map all fs) a && covered_at (map all fs) b) ≡ all (columns_at fs a ++ columns_at fs b)
  two fs a b =
      both (covered_at (map all fs) a) (covered_at (map all fs) b) (all (columns_at fs a)) (all (columns_at fs b)) (at_map fs a) (at_map fs b)
      ∙ sym (all_parts (λ p. list_any (nat_eq p) allowed) (columns_at fs a) (columns_at fs b))

  one : (leaf : ℕ) (n : Node) (fs : List (List ℕ)) → is_covered (list_any (nat_eq leaf) allowed) n (map all fs) ≡ all (free_columns leaf n fs)
  one leaf (node.Lit l) fs = refl
  one leaf (node.Col c) fs = sym (and_true (list_any (nat_eq leaf) allowed))
  one leaf (node.Neg a) fs = at_map fs a
  one leaf (node.Arith o a b) fs = two fs a b
  one leaf (node.Compare c a b) fs = two fs a b
  one leaf (node.Both a b) fs = two fs a b
  one leaf (node.Either a b) fs = two fs a b
  one leaf (node.Not a) fs = at_map fs a
  one leaf (node.IsNull a) fs = at_map fs a
  one leaf (node.NotNull a) fs = at_map fs a
  one leaf (node.Aggregate f a) fs = refl

  pub covered_is : (leaves : List ℕ) (ns : List Node) (fs : List (List ℕ)) → covered_from allowed leaves ns (map all fs) ≡ map all (free_from leaves ns fs)
  covered_is leaves [] fs = refl
  covered_is leaves (n ∷ ns) fs =
      ap (λ k. covered_from allowed leaves ns (map all fs ++ is_covered (list_any (nat_eq (slice_index leaves k)) allowed) n (map all fs) ∷ [])) (length-map fs all)
      ∙ ap (λ b. covered_from allowed leaves ns (map all fs ++ b ∷ [])) (one (slice_index leaves (length fs)) n fs)
      ∙ ap (covered_from allowed leaves ns) (sym (map-append all fs (free_columns (slice_index leaves (length fs)) n fs ∷ [])))
      ∙ covered_is leaves ns (fs ++ free_columns (slice_index leaves (length fs)) n fs ∷ [])

module _ (scope : List FromColumn) (positions : List ℕ) (q : Query) (covered : List Bool) (are : covered ≡ covered_from (group_places positions q) positions q.nodes []) where
  abbrev group : List ℕ
  group = group_places positions q

  abbrev free : List (List ℕ)
  free = free_from positions q.nodes []

  covered_so : covered ≡ map (all_among group) free
  covered_so = are ∙ covered_is group positions q.nodes []

  node_so : (n : ℕ) → covered_at covered n ≡ all_among group (columns_at free n)
  node_so n = ap (λ l. covered_at l n) covered_so ∙ at_map group free n

  having_so : list_all (covered_at covered) (option_to_list q.having) ≡ list_all (all_among group) (map (columns_at free) (option_to_list q.having))
  having_so = all_seen (all_among group) (columns_at free) (covered_at covered) node_so (option_to_list q.having)

  abbrev outputs_of : Bool → List (List ℕ)
  outputs_of star = if star then star_places q scope 0 ∷ [] else map (λ (o : Output). columns_at free o.node) q.outputs

  pub star_grouped : (result : Bool) → q.star ≡ true → result ≡ list_all (λ p. list_any (nat_eq p) group) (range_with_len 0 (length scope))
      → result ≡ list_all (all_among group) (output_places q scope free)
  star_grouped result star is =
      is ∙ ap (all_among group) (sym (star_is q scope 0)) ∙ sym (and_true (all_among group (star_places q scope 0))) ∙ sym (ap (λ b. list_all (all_among group) (outputs_of b)) star)

  pub written_grouped : (result : Bool) → q.star ≡ false → result ≡ list_all (λ (o : Output). covered_at covered o.node) q.outputs
      → result ≡ list_all (all_among group) (output_places q scope free)
  written_grouped result star is =
      is ∙ all_seen (all_among group) (λ (o : Output). columns_at free o.node) (λ (o : Output). covered_at covered o.node) (λ o. node_so o.node) q.outputs
      ∙ sym (ap (λ b. list_all (all_among group) (outputs_of b)) star)

  pub grouped_is : (outputs having : Bool) → outputs ≡ list_all (all_among group) (output_places q scope free) → having ≡ list_all (covered_at covered) (option_to_list q.having)
      → (outputs && having) ≡ is_all_grouped scope positions q
  grouped_is outputs having outs hav =
      both outputs having (list_all (all_among group) (output_places q scope free)) (list_all (all_among group) (map (columns_at free) (option_to_list q.having))) outs (hav ∙ having_so)
      ∙ sym (all_parts (all_among group) (output_places q scope free) (map (columns_at free) (option_to_list q.having)))
