-- The last table that a condition needs is the first where it may be tested.
use Rattle.std.proofs.Common.{◌≡◌, ℕ, zero, suc, ◌+◌, ◌<◌, ◌≤◌, max, refl, sym, ap, ◌∙◌, subst, arith, Bool, true, false, ◌&&◌, List, [], ◌∷◌, ◌++◌, length, length-append, get_or, drop}
use Rattle.std.specs.Prelude.{nat_eq, nat_le, not, if◌then◌else◌}
use Rattle.std.specs.List.{position_or_len, range_with_len}
use Rattle.std.proofs.lemmas.Bool.Decides.{nat_tests}
use Rattle.std.proofs.lemmas.List.Folds.{list_all-append}
use Rattle.hg_plan.proofs.Lists.{drop_is}
use Rattle.hg_plan.proofs.Marking.{and_true}
use Rattle.hg_model.specs.Binding.{columns_at, free_columns, free_from}
use Rattle.hg_model.specs.Conditions.{are_there, first_table, table_at}
use Rattle.hg_model.specs.Query.{Query}
use Rattle.hg_model.specs.declared.tables.FromColumn.{FromColumn}
use Rattle.hg_model.specs.declared.trees.Node.{Node}
use Rattle.hg_model.specs.declared.trees.Node.TheVariants as node
use Rattle.hg_plan.specs.Planning.{AreOfTables, IsOfTable}
use Rattle.hg_plan.specs.Testing.{latest_at, latest_from, latest_of}

-- ---- the list, node by node

pub latest_next : (ns : List Node) (ps : List (ℕ × ℕ)) (k : ℕ) (n : Node) (p : ℕ × ℕ) (old new all : List ℕ) → k < length ns → k < length ps
    → n ≡ get_or ns k n → p ≡ get_or ps k p → new ≡ old ++ latest_of p.0 n old ∷ []
    → latest_from (drop k ns) (drop k ps) old ≡ all → latest_from (drop (k + 1) ns) (drop (k + 1) ps) new ≡ all
latest_next ns ps k n p old new all l m e f is so_far =
    ap (latest_from (drop (k + 1) ns) (drop (k + 1) ps)) is
    ∙ sym (λ i. latest_from (drop_is ns k n l e i) (drop_is ps k p m f i) old)
    ∙ so_far

-- ---- the columns of a node are there from its last table on

both_there : (a b k : ℕ) → (nat_le a k && nat_le b k) ≡ nat_le (max a b) k
both_there a b k = by (nat_le a k) (nat_le b k) refl refl
  where
    by : (s t : Bool) → nat_le a k ≡ s → nat_le b k ≡ t → (s && t) ≡ nat_le (max a b) k
    by true true e f = grind (arith, nat_tests)
    by true false e f = grind (arith, nat_tests)
    by false t e f = grind (arith, nat_tests)

always_there : (k : ℕ) → true ≡ nat_le 0 k
always_there k = grind (arith, nat_tests)

module _ (scope : List FromColumn) where
  abbrev Tells : List (List ℕ) → List ℕ → Type 0
  Tells frees latest = (n k : ℕ) → are_there scope (columns_at frees n) k ≡ nat_le (latest_at latest n) k

  tells_both : (frees : List (List ℕ)) (latest : List ℕ) → Tells frees latest → (a b k : ℕ)
      → are_there scope (columns_at frees a ++ columns_at frees b) k ≡ nat_le (max (latest_at latest a) (latest_at latest b)) k
  tells_both frees latest t a b k =
      list_all-append (λ p. nat_le (table_at scope p) k) (columns_at frees a) (columns_at frees b)
      ∙ ap (λ x. x && are_there scope (columns_at frees b) k) (t a k) ∙ ap (λ x. nat_le (latest_at latest a) k && x) (t b k)
      ∙ both_there (latest_at latest a) (latest_at latest b) k

  node_tells : (n : Node) (leaf : ℕ) (place : ℕ × ℕ) (frees : List (List ℕ)) (latest : List ℕ) → IsOfTable scope n leaf place → Tells frees latest → (k : ℕ)
      → are_there scope (free_columns leaf n frees) k ≡ nat_le (latest_of place.0 n latest) k
  node_tells (node.Lit l) leaf place frees latest is t k = always_there k
  node_tells (node.Col c) leaf place frees latest is t k = and_true (nat_le (table_at scope leaf) k) ∙ ap (λ m. nat_le m k) is
  node_tells (node.Neg a) leaf place frees latest is t k = t a k
  node_tells (node.Arith o a b) leaf place frees latest is t k = tells_both frees latest t a b k
  node_tells (node.Compare c a b) leaf place frees latest is t k = tells_both frees latest t a b k
  node_tells (node.Both a b) leaf place frees latest is t k = tells_both frees latest t a b k
  node_tells (node.Either a b) leaf place frees latest is t k = tells_both frees latest t a b k
  node_tells (node.Not a) leaf place frees latest is t k = t a k
  node_tells (node.IsNull a) leaf place frees latest is t k = t a k
  node_tells (node.NotNull a) leaf place frees latest is t k = t a k
  node_tells (node.Aggregate f a) leaf place frees latest is t k = always_there k

  one_more : (frees : List (List ℕ)) (latest : List ℕ) (x : List ℕ) (y n k : ℕ) → length latest ≡ length frees → are_there scope x k ≡ nat_le y k
      → are_there scope (get_or frees n []) k ≡ nat_le (get_or latest n 0) k → are_there scope (get_or (frees ++ x ∷ []) n []) k ≡ nat_le (get_or (latest ++ y ∷ []) n 0) k
  one_more [] [] x y zero k e h t = h
  one_more [] [] x y (suc n) k e h t = t
  one_more [] (m ∷ ms) x y n k e h t = absurd (omega arith)
  one_more (f ∷ fs) [] x y n k e h t = absurd (omega arith)
  one_more (f ∷ fs) (m ∷ ms) x y zero k e h t = t
  one_more (f ∷ fs) (m ∷ ms) x y (suc n) k e h t = one_more fs ms x y n k (omega arith) h t

  nodes_tell : (leaves : List ℕ) (ns : List Node) (ps : List ℕ) (places : List (ℕ × ℕ)) (frees : List (List ℕ)) (latest : List ℕ) → AreOfTables scope ns ps places
      → length latest ≡ length frees → ((j : ℕ) → j < length ps → get_or leaves (length frees + j) 0 ≡ get_or ps j 0) → Tells frees latest
      → Tells (free_from leaves ns frees) (latest_from ns places latest)
  nodes_tell leaves [] ps places frees latest are e at t = t
  nodes_tell leaves (n ∷ ns) [] places frees latest are e at t = absurd are
  nodes_tell leaves (n ∷ ns) (p ∷ ps) [] frees latest are e at t = absurd are
  nodes_tell leaves (n ∷ ns) (p ∷ ps) (place ∷ places) frees latest are e at t =
      let leaf = get_or leaves (length frees) 0 in
      let z : length frees ≡ length frees + 0 = omega arith in
      let here : p ≡ leaf = sym (ap (λ i. get_or leaves i 0) z ∙ at 0 (omega arith)) in
      let x = free_columns leaf n frees in
      let y = latest_of place.0 n latest in
      let of : IsOfTable scope n leaf place = subst (λ l. IsOfTable scope n l place) here are.0 in
      let longer : length (frees ++ x ∷ []) ≡ length frees + 1 = omega (arith, length-append frees (x ∷ [])) in
      nodes_tell leaves ns ps places (frees ++ x ∷ []) (latest ++ y ∷ []) are.1
      (omega (arith, longer, e, length-append latest (y ∷ [])))
      (λ j h. let s : length (frees ++ x ∷ []) + j ≡ length frees + suc j = omega (arith, longer) in ap (λ i. get_or leaves i 0) s ∙ at (suc j) (omega arith))
      (λ m k. one_more frees latest x y m k e (node_tells n leaf place frees latest of t k) (t m k))

  -- ---- so the first table where they are there is the last that is needed

  first_from : (test : ℕ → Bool) (m s l k : ℕ) → ((j : ℕ) → test j ≡ nat_le m j) → k < l → nat_eq (position_or_len test (range_with_len s l)) k ≡ nat_eq (max m s) (s + k)
  first_from test m s zero k h lt = absurd (omega arith)
  first_from test m s (suc l) k h lt = by (position_or_len test (range_with_len (s + 1) l)) (test s) k lt (h s) (λ i below. first_from test m (s + 1) l i h below)
    where
      by : (later : ℕ) (b : Bool) (k : ℕ) → k < suc l → b ≡ nat_le m s → ((i : ℕ) → i < l → nat_eq later i ≡ nat_eq (max m (s + 1)) (s + 1 + i))
          → nat_eq (if not b then 1 + later else 0) k ≡ nat_eq (max m s) (s + k)
      by later true k lt e more = let le : m ≤ s = grind (arith, nat_tests) in grind (arith, nat_tests)
      by later false zero lt e more = let gt : s < m = grind (arith, nat_tests) in grind (arith, nat_tests)
      by later false (suc i) lt e more =
          let gt : s < m = grind (arith, nat_tests) in
          let same : nat_eq (max m (s + 1)) (s + 1 + i) ≡ nat_eq (max m s) (s + suc i) =
          (let a : max m (s + 1) ≡ max m s = omega arith in let b : s + 1 + i ≡ s + suc i = omega arith in λ x. nat_eq (a x) (b x)) in
          let shift : nat_eq (1 + later) (suc i) ≡ nat_eq later i = grind (arith, nat_tests) in
          shift ∙ more i (omega arith) ∙ same

  pub first_is : (q : Query) (positions : List ℕ) (places : List (ℕ × ℕ)) → AreOfTables scope q.nodes positions places → (n k : ℕ) → k < length q.tables
      → nat_eq (first_table scope positions q n) k ≡ nat_eq (latest_at (latest_from q.nodes places []) n) k
  first_is q positions places are n k lt =
      let m = latest_at (latest_from q.nodes places []) n in
      let tells = nodes_tell positions q.nodes positions places [] [] are refl (λ j h. let s : 0 + j ≡ j = omega arith in ap (λ i. get_or positions i 0) s) (λ i j. always_there j) in
      let a : max m 0 ≡ m = omega arith in
      let b : 0 + k ≡ k = omega arith in
      first_from (are_there scope (columns_at (free_from positions q.nodes []) n)) m 0 (length q.tables) k (tells n) lt ∙ (λ i. nat_eq (a i) (b i))
