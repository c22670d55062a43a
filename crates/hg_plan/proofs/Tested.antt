-- The marked nodes of each table are the conditions that are tested there.
use Rattle.std.proofs.Common.{◌≡◌, ℕ, suc, ◌+◌, ◌<◌, ◌≤◌, refl, sym, ap, ◌∙◌, arith, Bool, true, false, ◌&&◌, List, [], ◌∷◌, ◌++◌, length}
use Rattle.std.specs.Prelude.{◌||◌, nat_eq, not, if◌then◌else◌}
use Rattle.std.specs.List.{filter, list_all}
use Rattle.hg_expr.specs.Slots.{named_columns}
use Rattle.hg_model.specs.Conditions.{first_table, split_conditions, tested_at}
use Rattle.hg_model.specs.Query.{Query}
use Rattle.hg_model.specs.declared.tables.FromColumn.{FromColumn}
use Rattle.hg_model.specs.declared.trees.Node.{Node}
use Rattle.hg_plan.specs.Planning.{AreNamed, AreOfTables, AreTested}
use Rattle.hg_plan.specs.Testing.{AreMarkedAt, HaveSame, latest_at, latest_from, marked, marked_at}
use Rattle.hg_plan.specs.declared.plan.TableLoop.{TableLoop}
use Rattle.hg_plan.proofs.Latest.{first_is}

filter_same : (f g : ℕ → Bool) (xs : List ℕ) → ((n : ℕ) → f n ≡ g n) → filter f xs ≡ filter g xs
filter_same f g [] h = refl
filter_same f g (x ∷ xs) h = λ i. if h x i then x ∷ filter_same f g xs h i else filter_same f g xs h i

-- all members that pass a first test pass a second
all_filtered : (p f : ℕ → Bool) (xs : List ℕ) → list_all p (filter f xs) ≡ list_all (λ n. not (f n) || p n) xs
all_filtered p f [] = refl
all_filtered p f (x ∷ xs) = by (f x) (all_filtered p f xs)
  where
    by : (b : Bool) → list_all p (filter f xs) ≡ list_all (λ n. not (f n) || p n) xs
        → list_all p (if b then x ∷ filter f xs else filter f xs) ≡ ((not b || p x) && list_all (λ n. not (f n) || p n) xs)
    by true h = ap (λ r. p x && r) h
    by false h = h

module _ (scope : List FromColumn) (positions : List ℕ) (q : Query) (places : List (ℕ × ℕ)) (marks : List Bool) (latest : List ℕ)
    (same : HaveSame (marked marks) (split_conditions q)) (is : latest ≡ latest_from q.nodes places []) (are : AreOfTables scope q.nodes positions places) where
  tested_is : (k : ℕ) → k < length q.tables → (p : ℕ → Bool) → list_all p (marked_at marks latest k) ≡ list_all p (tested_at scope positions q k)
  tested_is k lt p =
      let f : ℕ → Bool = λ n. nat_eq (latest_at latest n) k in
      let g : ℕ → Bool = λ n. nat_eq (first_table scope positions q n) k in
      all_filtered p f (marked marks) ∙ same (λ n. not (f n) || p n) ∙ sym (all_filtered p f (split_conditions q))
      ∙ ap (list_all p) (filter_same f g (split_conditions q) (λ n. ap (λ l. nat_eq (latest_at l n) k) is ∙ sym (first_is scope q positions places are n k lt)))

  pub all_tested : (k : ℕ) (ls : List TableLoop) → k + length ls ≤ length q.tables → AreMarkedAt marks latest k ls → AreTested scope positions q k ls
  all_tested k [] few h = tt
  all_tested k (l ∷ ls) few h = (λ p. ap (list_all p) h.0 ∙ tested_is k (omega arith) p, all_tested (suc k) ls (omega arith) h.1)

-- ---- one loop more

pub named_more : (nodes : List Node) (places : List (ℕ × ℕ)) (k j : ℕ) (ls : List TableLoop) (l : TableLoop) → j ≡ k + length ls
    → l.columns.items ≡ named_columns nodes places j → AreNamed nodes places k ls → AreNamed nodes places k (ls ++ l ∷ [])
named_more nodes places k j [] l e is h = let here : j ≡ k = omega (arith, e) in (is ∙ ap (named_columns nodes places) here, tt)
named_more nodes places k j (x ∷ ls) l e is h = (h.0, named_more nodes places (suc k) j ls l (omega (arith, e)) is h.1)

pub marked_more : (marks : List Bool) (latest : List ℕ) (k j : ℕ) (ls : List TableLoop) (l : TableLoop) → j ≡ k + length ls
    → l.tests.items ≡ marked_at marks latest j → AreMarkedAt marks latest k ls → AreMarkedAt marks latest k (ls ++ l ∷ [])
marked_more marks latest k j [] l e is h = let here : j ≡ k = omega (arith, e) in (is ∙ ap (marked_at marks latest) here, tt)
marked_more marks latest k j (x ∷ ls) l e is h = (h.0, marked_more marks latest (suc k) j ls l (omega (arith, e)) is h.1)
