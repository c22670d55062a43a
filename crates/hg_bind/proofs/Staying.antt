-- What has to hold of nodes so that they can be evaluated holds of a SELECT that is written out.
use Rattle.std.proofs.Common.{◌≡◌, ◌≤◌, ℕ, zero, suc, ◌+◌, max, Bool, true, false, List, [], ◌∷◌, ◌++◌, Option, Some, None, map, refl, sym, ap, subst, ◌∙◌, length, length-append, get_or, ◌&&◌, arith, le_trans}
use Rattle.std.specs.Prelude.{nat_le}
use Rattle.std.specs.List.{list_all}
use Rattle.std.specs.Cmp.{first_so, second_so}
use Rattle.std.proofs.lemmas.Bool.Decides.{nat_tests}
use Rattle.std.proofs.lemmas.List.Folds.{list_all-append}
use Rattle.hg_model.proofs.Widths.{narrow_next}
use Rattle.hg_model.specs.Query.{Query}
use Rattle.hg_model.specs.Scope.{positions_of, scope_of}
use Rattle.hg_model.specs.Types.{all_narrow, arithmetic_bound, bound_at, bound_of, bounds_from, fold_bound, is_narrow}
use Rattle.hg_model.specs.Width.{IsSound, has_children_before, is_tree, is_tree_from, text_fits}
use Rattle.hg_model.specs.declared.tables.FromColumn.{FromColumn}
use Rattle.hg_model.specs.declared.trees.Fold.{Fold}
use Rattle.hg_model.specs.declared.trees.Fold.TheVariants as of
use Rattle.hg_model.specs.declared.trees.Node.{Node}
use Rattle.hg_model.specs.declared.trees.Node.TheVariants as node
use Rattle.hg_model.specs.declared.trees.Op.{Op}
use Rattle.hg_model.specs.declared.trees.Op.TheVariants.{Add, Sub, Mul}
use Rattle.hg_bind.specs.BoundSelect.{IsBoundSelect, column_node, nodes_written, settled, settled_node, star_nodes, written_out}
use Rattle.hg_bind.specs.Laws.{BoundIsSound}
use Rattle.hg_bind.specs.Selecting.{named_from}

both_so : (s t : Bool) → s ≡ true → t ≡ true → (s && t) ≡ true
both_so true t h k = k
both_so false t h k = h

-- a name that is replaced has no children
before_still : (k : ℕ) (n : Node) (o : Option ℕ) → has_children_before k (settled_node n o) ≡ has_children_before k n
before_still k (node.Col c) None = refl
before_still k (node.Col c) (Some p) = refl
before_still k (node.Lit l) o = refl
before_still k (node.Neg a) o = refl
before_still k (node.Arith x a b) o = refl
before_still k (node.Compare x a b) o = refl
before_still k (node.Both a b) o = refl
before_still k (node.Either a b) o = refl
before_still k (node.Not a) o = refl
before_still k (node.IsNull a) o = refl
before_still k (node.NotNull a) o = refl
before_still k (node.Aggregate f a) o = refl

columns_tree : (k : ℕ) (cs : List FromColumn) → is_tree_from k (map column_node cs) ≡ true
columns_tree k [] = refl
columns_tree k (c ∷ cs) = columns_tree (suc k) cs

star_tree : (k : ℕ) (b : Bool) (cs : List FromColumn) → is_tree_from k (star_nodes b cs) ≡ true
star_tree k true cs = columns_tree k cs
star_tree k false cs = refl

tree_with : (k : ℕ) (ns : List Node) (b : Bool) (cs : List FromColumn) → is_tree_from k ns ≡ true → is_tree_from k (ns ++ star_nodes b cs) ≡ true
tree_with k [] b cs h = star_tree k b cs
tree_with k (n ∷ ns) b cs h =
    both_so (has_children_before k n) (is_tree_from (suc k) (ns ++ star_nodes b cs)) (first_so (has_children_before k n) (is_tree_from (suc k) ns) h)
    (tree_with (suc k) ns b cs (second_so (has_children_before k n) (is_tree_from (suc k) ns) h))

settled_tree : (k : ℕ) (ns : List Node) (os : List (Option ℕ)) → is_tree_from k ns ≡ true → is_tree_from k (settled ns os) ≡ true
settled_tree k [] os h = refl
settled_tree k (n ∷ ns) [] h = h
settled_tree k (n ∷ ns) (o ∷ os) h =
    both_so (has_children_before k (settled_node n o)) (is_tree_from (suc k) (settled ns os))
    (before_still k n o ∙ first_so (has_children_before k n) (is_tree_from (suc k) ns) h)
    (settled_tree (suc k) ns os (second_so (has_children_before k n) (is_tree_from (suc k) ns) h))

-- no text comes
text_still : (texts : List ℕ) (n : Node) (o : Option ℕ) → text_fits texts (settled_node n o) ≡ text_fits texts n
text_still texts (node.Col c) None = refl
text_still texts (node.Col c) (Some p) = refl
text_still texts (node.Lit l) o = refl
text_still texts (node.Neg a) o = refl
text_still texts (node.Arith x a b) o = refl
text_still texts (node.Compare x a b) o = refl
text_still texts (node.Both a b) o = refl
text_still texts (node.Either a b) o = refl
text_still texts (node.Not a) o = refl
text_still texts (node.IsNull a) o = refl
text_still texts (node.NotNull a) o = refl
text_still texts (node.Aggregate f a) o = refl

columns_texts : (texts : List ℕ) (cs : List FromColumn) → list_all (text_fits texts) (map column_node cs) ≡ true
columns_texts texts [] = refl
columns_texts texts (c ∷ cs) = columns_texts texts cs

star_texts : (texts : List ℕ) (b : Bool) (cs : List FromColumn) → list_all (text_fits texts) (star_nodes b cs) ≡ true
star_texts texts true cs = columns_texts texts cs
star_texts texts false cs = refl

settled_texts : (texts : List ℕ) (ns : List Node) (os : List (Option ℕ)) → list_all (text_fits texts) ns ≡ true → list_all (text_fits texts) (settled ns os) ≡ true
settled_texts texts [] os h = refl
settled_texts texts (n ∷ ns) [] h = h
settled_texts texts (n ∷ ns) (o ∷ os) h =
    both_so (text_fits texts (settled_node n o)) (list_all (text_fits texts) (settled ns os))
    (text_still texts n o ∙ first_so (text_fits texts n) (list_all (text_fits texts) ns) h)
    (settled_texts texts ns os (second_so (text_fits texts n) (list_all (text_fits texts) ns) h))

-- no node grows wider
record Lower (xs ys : List ℕ) : Type 0 where
  pub even : length ys ≡ length xs
  pub below : (k : ℕ) → bound_at ys k ≤ bound_at xs k

one_lower : (xs ys : List ℕ) (x y k : ℕ) → length ys ≡ length xs → y ≤ x → bound_at ys k ≤ bound_at xs k → bound_at (ys ++ y ∷ []) k ≤ bound_at (xs ++ x ∷ []) k
one_lower [] [] x y zero e h l = h
one_lower [] [] x y (suc k) e h l = l
one_lower [] (b ∷ ys) x y k e h l = absurd (omega arith)
one_lower (a ∷ xs) [] x y k e h l = absurd (omega arith)
one_lower (a ∷ xs) (b ∷ ys) x y zero e h l = l
one_lower (a ∷ xs) (b ∷ ys) x y (suc k) e h l = one_lower xs ys x y k (omega arith) h l

lower_more : (xs ys : List ℕ) (x y : ℕ) → Lower xs ys → y ≤ x → Lower (xs ++ x ∷ []) (ys ++ y ∷ [])
lower_more xs ys x y l h = record {
  even = omega (arith, length-append xs (x ∷ []), length-append ys (y ∷ []), l.even);
  below = λ k. one_lower xs ys x y k l.even h (l.below k);
}

sum_lower : (o : Op) (a b c d : ℕ) → a ≤ c → b ≤ d → arithmetic_bound o a b ≤ arithmetic_bound o c d
sum_lower Add a b c d p q = omega arith
sum_lower Sub a b c d p q = omega arith
sum_lower Mul a b c d p q = omega arith

fold_lower : (f : Fold) (a : Option ℕ) (xs ys : List ℕ) → Lower xs ys → fold_bound f ys a ≤ fold_bound f xs a
fold_lower of.CountRows a xs ys l = omega arith
fold_lower of.Count a xs ys l = omega arith
fold_lower of.Sum None xs ys l = omega arith
fold_lower of.Sum (Some a) xs ys l = let h = l.below a in omega arith
fold_lower of.Min None xs ys l = omega arith
fold_lower of.Min (Some a) xs ys l = l.below a
fold_lower of.Max None xs ys l = omega arith
fold_lower of.Max (Some a) xs ys l = l.below a

node_lower : (n : Node) (o : Option ℕ) (xs ys : List ℕ) → Lower xs ys → bound_of (settled_node n o) ys ≤ bound_of n xs
node_lower (node.Col c) None xs ys l = omega arith
node_lower (node.Col c) (Some p) xs ys l = omega arith
node_lower (node.Lit x) o xs ys l = omega arith
node_lower (node.Neg a) o xs ys l = l.below a
node_lower (node.Arith x a b) o xs ys l = sum_lower x (bound_at ys a) (bound_at ys b) (bound_at xs a) (bound_at xs b) (l.below a) (l.below b)
node_lower (node.Compare x a b) o xs ys l = omega arith
node_lower (node.Both a b) o xs ys l = omega arith
node_lower (node.Either a b) o xs ys l = omega arith
node_lower (node.Not a) o xs ys l = omega arith
node_lower (node.IsNull a) o xs ys l = omega arith
node_lower (node.NotNull a) o xs ys l = omega arith
node_lower (node.Aggregate f a) o xs ys l = fold_lower f a xs ys l

narrow_below : (a b : ℕ) → a ≤ b → is_narrow b ≡ true → is_narrow a ≡ true
narrow_below a b h n = grind (arith, nat_tests)

all_more : (ys : List ℕ) (y : ℕ) → list_all is_narrow ys ≡ true → is_narrow y ≡ true → list_all is_narrow (ys ++ y ∷ []) ≡ true
all_more ys y h n = list_all-append is_narrow ys (y ∷ []) ∙ both_so (list_all is_narrow ys) (is_narrow y && true) h (both_so (is_narrow y) true n refl)

columns_narrow : (cs : List FromColumn) (ys : List ℕ) → list_all is_narrow ys ≡ true → list_all is_narrow (bounds_from (map column_node cs) ys) ≡ true
columns_narrow [] ys h = h
columns_narrow (c ∷ cs) ys h = columns_narrow cs (ys ++ 32 ∷ []) (all_more ys 32 h (grind (arith, nat_tests)))

star_narrow : (b : Bool) (cs : List FromColumn) (ys : List ℕ) → list_all is_narrow ys ≡ true → list_all is_narrow (bounds_from (star_nodes b cs) ys) ≡ true
star_narrow true cs ys h = columns_narrow cs ys h
star_narrow false cs ys h = h

written_narrow : (ns : List Node) (os : List (Option ℕ)) (b : Bool) (cs : List FromColumn) (xs ys : List ℕ) → length os ≡ length ns → Lower xs ys → list_all is_narrow (bounds_from ns xs) ≡ true
    → list_all is_narrow ys ≡ true → list_all is_narrow (bounds_from (settled ns os ++ star_nodes b cs) ys) ≡ true
written_narrow [] os b cs xs ys e l h so_far = star_narrow b cs ys so_far
written_narrow (n ∷ ns) [] b cs xs ys e l h so_far = absurd (omega arith)
written_narrow (n ∷ ns) (o ∷ os) b cs xs ys e l h so_far =
    let x = bound_of n xs in
    let y = bound_of (settled_node n o) ys in
    let lower = node_lower n o xs ys l in
    written_narrow ns os b cs (xs ++ x ∷ []) (ys ++ y ∷ []) (omega arith) (lower_more xs ys x y l lower) h (all_more ys y so_far (narrow_below y x lower (narrow_next n ns xs h)))

count_named : (scope : List FromColumn) (positions : List ℕ) (q : Query) (k : ℕ) (ns : List Node) → length (named_from scope positions q k ns) ≡ length ns
count_named scope positions q k [] = refl
count_named scope positions q k (n ∷ ns) = ap suc (count_named scope positions q (suc k) ns)

written_sound : (scope : List FromColumn) (positions : List ℕ) (q : Query) (texts : List ℕ) → IsSound texts q.nodes → IsSound texts (written_out scope positions q).nodes
written_sound scope positions q texts s =
    let named = named_from scope positions q 0 q.nodes in
    record {
      tree = tree_with 0 (settled q.nodes named) q.star scope (settled_tree 0 q.nodes named s.tree);
      narrow = written_narrow q.nodes named q.star scope [] [] (count_named scope positions q 0 q.nodes) (record { even = refl; below = λ k. omega arith }) s.narrow refl;
      texts_fit = list_all-append (text_fits texts) (settled q.nodes named) (star_nodes q.star scope)
          ∙ both_so (list_all (text_fits texts) (settled q.nodes named)) (list_all (text_fits texts) (star_nodes q.star scope)) (settled_texts texts q.nodes named s.texts_fit) (star_texts texts q.star scope);
    }

pub bound_is_sound : BoundIsSound
bound_is_sound tables q bound texts numbers places b sound =
    subst (λ (x : Query). IsSound texts x.nodes) (sym b.bound_is) (written_sound (scope_of tables q) (positions_of (scope_of tables q) q) q texts sound)
