-- What the nodes of a statement are split into at AND, each by its children.
use Rattle.std.proofs.Common.{◌≡◌, ℕ, zero, suc, ◌+◌, ◌<◌, ◌≤◌, refl, sym, ap, subst, ◌∙◌, arith, true, List, [], ◌∷◌, ◌++◌, length, length-append, get_or}
use Rattle.std.specs.Prelude.{nat_lt}
use Rattle.std.specs.Cmp.{first_so, second_so}
use Rattle.std.proofs.lemmas.List.{get_or_append_left, get_or_past}
use Rattle.std.proofs.Math.Seq.{get_or-append_seam}
use borrow.Author.Tests.{ltb-true}
use Rattle.hg_model.specs.Conditions.{parts_at, parts_from, parts_of}
use Rattle.hg_model.specs.Width.{has_children_before, is_tree, is_tree_from}
use Rattle.hg_model.specs.declared.trees.Node.{Node}
use Rattle.hg_model.specs.declared.trees.Node.TheVariants as node

-- later nodes leave what the earlier ones are split into
parts_kept : (ns : List Node) (done : List (List ℕ)) (i : ℕ) → i < length done → parts_at (parts_from ns done) i ≡ parts_at done i
parts_kept [] done i h = refl
parts_kept (n ∷ ns) done i h =
    let x = parts_of (length done) n done in
    parts_kept ns (done ++ x ∷ []) i (omega (arith, length-append done (x ∷ []))) ∙ get_or_append_left done (x ∷ []) (i ∷ []) i h

-- so a node is split by what its children are split into in the end
parts_settle : (k : ℕ) (n : Node) (done all : List (List ℕ)) → ((i : ℕ) → i < length done → parts_at all i ≡ parts_at done i)
    → has_children_before (length done) n ≡ true → parts_of k n done ≡ parts_of k n all
parts_settle k (node.Both a b) done all stays h =
    let left = sym (stays a (ltb-true a (length done) (first_so (nat_lt a (length done)) (nat_lt b (length done)) h))) in
    let right = sym (stays b (ltb-true b (length done) (second_so (nat_lt a (length done)) (nat_lt b (length done)) h))) in
    λ i. left i ++ right i
parts_settle k (node.Lit l) done all stays h = refl
parts_settle k (node.Col c) done all stays h = refl
parts_settle k (node.Neg a) done all stays h = refl
parts_settle k (node.Arith o a b) done all stays h = refl
parts_settle k (node.Compare c a b) done all stays h = refl
parts_settle k (node.Either a b) done all stays h = refl
parts_settle k (node.Not a) done all stays h = refl
parts_settle k (node.IsNull a) done all stays h = refl
parts_settle k (node.NotNull a) done all stays h = refl
parts_settle k (node.Aggregate f a) done all stays h = refl

parts_given : (ns : List Node) (done : List (List ℕ)) (j k : ℕ) (n : Node) → is_tree_from (length done) ns ≡ true → j < length ns → n ≡ get_or ns j n
    → k ≡ length done + j → parts_at (parts_from ns done) k ≡ parts_of k n (parts_from ns done)
parts_given [] done j k n tree h e at = absurd (omega arith)
parts_given (m ∷ ns) done zero k n tree h e at =
    let x = parts_of (length done) m done in
    let all = parts_from ns (done ++ x ∷ []) in
    let P : ℕ → Type 0 = λ l. parts_at all l ≡ parts_of l n all in
    let is : length done ≡ k = omega (arith, at) in
    let before = first_so (has_children_before (length done) m) (is_tree_from (suc (length done)) ns) tree in
    subst P is
    (parts_kept ns (done ++ x ∷ []) (length done) (omega (arith, length-append done (x ∷ [])))
    ∙ get_or-append_seam done x [] (length done ∷ [])
    ∙ parts_settle (length done) m done all (parts_kept (m ∷ ns) done) before
    ∙ ap (λ o. parts_of (length done) o all) (sym e))
parts_given (m ∷ ns) done (suc j) k n tree h e at =
    let x = parts_of (length done) m done in
    let longer : suc (length done) ≡ length (done ++ x ∷ []) = omega (arith, length-append done (x ∷ [])) in
    let T : ℕ → Type 0 = λ l. is_tree_from l ns ≡ true in
    parts_given ns (done ++ x ∷ []) j k n (subst T longer (second_so (has_children_before (length done) m) (is_tree_from (suc (length done)) ns) tree))
    (omega arith) e (omega (arith, at, longer))

-- each node is split as its children are
pub node_parts : (ns : List Node) (k : ℕ) (n : Node) → is_tree ns ≡ true → k < length ns → n ≡ get_or ns k n
    → parts_at (parts_from ns []) k ≡ parts_of k n (parts_from ns [])
node_parts ns k n tree h e = parts_given ns [] k k n tree h e (omega arith)

parts_past : (ns : List Node) (done : List (List ℕ)) (i : ℕ) → length done + length ns ≤ i → parts_at (parts_from ns done) i ≡ i ∷ []
parts_past [] done i h = get_or_past done i (i ∷ []) (omega arith)
parts_past (n ∷ ns) done i h =
    let x = parts_of (length done) n done in
    parts_past ns (done ++ x ∷ []) i (omega (arith, length-append done (x ∷ [])))

-- what is no node is not split
pub parts_behind : (ns : List Node) (i : ℕ) → length ns ≤ i → parts_at (parts_from ns []) i ≡ i ∷ []
parts_behind ns i h = parts_past ns [] i (omega arith)

tree_later : (ns : List Node) (s j k : ℕ) (n : Node) → is_tree_from s ns ≡ true → j < length ns → n ≡ get_or ns j n → k ≡ s + j → has_children_before k n ≡ true
tree_later [] s j k n tree h e at = absurd (omega arith)
tree_later (m ∷ ns) s zero k n tree h e at =
    let is : s ≡ k = omega (arith, at) in
    ap (has_children_before k) e ∙ ap (λ l. has_children_before l m) (sym is) ∙ first_so (has_children_before s m) (is_tree_from (suc s) ns) tree
tree_later (m ∷ ns) s (suc j) k n tree h e at =
    tree_later ns (suc s) j k n (second_so (has_children_before s m) (is_tree_from (suc s) ns) tree) (omega arith) e (omega (arith, at))

-- each node's children stand before it
pub tree_at : (ns : List Node) (k : ℕ) (n : Node) → is_tree ns ≡ true → k < length ns → n ≡ get_or ns k n → has_children_before k n ≡ true
tree_at ns k n tree h e = tree_later ns 0 k k n tree h e (omega arith)
