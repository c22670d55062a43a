-- The nodes of a SELECT, settled one after the other.
use Rattle.std.proofs.Common.{◌≡◌, ◌<◌, ◌≤◌, ℕ, zero, suc, ◌+◌, Bool, true, false, List, [], ◌∷◌, ◌++◌, Option, Some, None, map, refl, sym, ap, ◌∙◌, length, get_or, take, if◌then◌else◌, arith}
use Rattle.std.specs.Prelude.{slice_set}
use Rattle.std.specs.List.{refill}
use Rattle.std.proofs.lemmas.List.{append-nil, drop_all, length-set, take_all}
use Rattle.hg_model.specs.Query.{Query}
use Rattle.hg_model.specs.declared.tables.FromColumn.{FromColumn}
use Rattle.hg_model.specs.declared.trees.Node.{Node}
use Rattle.hg_model.specs.declared.trees.OrderKey.{OrderKey}
use Rattle.hg_model.specs.declared.trees.Output.{Output}
use Rattle.hg_bind.specs.BoundSelect.{column_node, nodes_written, outputs_written, settled, settled_node, star_nodes, star_outputs, written_with}

-- the first `k` settled
abbrev pub settled_upto : ℕ → List Node → List (Option ℕ) → List Node
settled_upto zero ns os = ns
settled_upto (suc k) [] os = []
settled_upto (suc k) (n ∷ ns) [] = n ∷ ns
settled_upto (suc k) (n ∷ ns) (o ∷ os) = settled_node n o ∷ settled_upto k ns os

pub settled_whole : (ns : List Node) (os : List (Option ℕ)) (k : ℕ) → length os ≤ k → length os ≡ length ns → settled_upto k ns os ≡ settled ns os
settled_whole [] os zero h e = refl
settled_whole [] os (suc k) h e = refl
settled_whole (n ∷ ns) [] zero h e = refl
settled_whole (n ∷ ns) [] (suc k) h e = refl
settled_whole (n ∷ ns) (o ∷ os) zero h e = absurd (omega arith)
settled_whole (n ∷ ns) (o ∷ os) (suc k) h e = ap (λ l. settled_node n o ∷ l) (settled_whole ns os k (omega arith) (omega arith))

more_settled : (ns : List Node) (os : List (Option ℕ)) (k : ℕ) (n : Node) (d : Option ℕ) → k < length ns → length os ≡ length ns
    → slice_set (settled_upto k ns os) k (settled_node (get_or (settled_upto k ns os) k n) (get_or os k d)) ≡ settled_upto (suc k) ns os
more_settled [] os k n d h e = absurd (omega arith)
more_settled (m ∷ ns) [] k n d h e = absurd (omega arith)
more_settled (m ∷ ns) (p ∷ os) zero n d h e = refl
more_settled (m ∷ ns) (p ∷ os) (suc k) n d h e = ap (λ l. settled_node m p ∷ l) (more_settled ns os k n d (omega arith) (omega arith))

refilled : (xs ws : List Node) → length ws ≡ length xs → refill (length xs) xs ws ≡ ws
refilled xs ws e =
    ap (λ l. take (length xs) (ws ++ l)) (drop_all (length ws) xs (omega arith)) ∙ ap (take (length xs)) (append-nil ws) ∙ take_all (length xs) ws (omega arith)

-- one more is settled where it lies: `lent` is the list as it is lent
module _ (ns : List Node) (os : List (Option ℕ)) (k : ℕ) (items lent : List Node) (n new : Node) (d : Option ℕ) (h : k < length os) (e : length os ≡ length ns)
    (inv : items ≡ settled_upto k ns os) (lent_is : lent ≡ items) (made : new ≡ settled_node (get_or lent k n) (get_or os k d)) where
  even : length (slice_set lent k new) ≡ length items
  even = length-set lent k new ∙ ap length lent_is

  pub settled_next : refill (length items) items (slice_set lent k new) ≡ settled_upto (k + 1) ns os
  settled_next =
      let next : suc k ≡ k + 1 = omega arith in
      refilled items (slice_set lent k new) even ∙ ap (λ l. slice_set l k new) (lent_is ∙ inv)
      ∙ ap (slice_set (settled_upto k ns os) k) (made ∙ ap (λ l. settled_node (get_or l k n) (get_or os k d)) (lent_is ∙ inv))
      ∙ more_settled ns os k n d (omega arith) e ∙ ap (λ j. settled_upto j ns os) next

  pub settled_even : length items ≡ length os → length (refill (length items) items (slice_set lent k new)) ≡ length os
  settled_even count = ap length (refilled items (slice_set lent k new) even) ∙ even ∙ count

pub settled_count : (ns : List Node) (os : List (Option ℕ)) → length (settled ns os) ≡ length ns
settled_count [] os = refl
settled_count (n ∷ ns) [] = refl
settled_count (n ∷ ns) (o ∷ os) = ap suc (settled_count ns os)

-- a star written out
pub written_star : (q : Query) (scope : List FromColumn) (named : List (Option ℕ)) (keys : List OrderKey) (nodes between : List Node) (outputs : List Output)
    → q.star ≡ true → between ≡ settled q.nodes named → nodes ≡ between ++ map column_node scope → outputs ≡ star_outputs (length between) scope
    → record q { star = false; outputs = outputs; order = keys; nodes = nodes } ≡ written_with scope named keys q
written_star q scope named keys nodes between outputs star settled_are nodes_are outputs_are =
    let all : nodes ≡ nodes_written scope named q =
    nodes_are ∙ ap (λ l. l ++ map column_node scope) settled_are ∙ ap (λ b. settled q.nodes named ++ star_nodes b scope) (sym star) in
    let outs : outputs ≡ outputs_written scope q =
    outputs_are ∙ ap (λ n. star_outputs n scope) (ap length settled_are ∙ settled_count q.nodes named)
    ∙ ap (λ b. if b then star_outputs (length q.nodes) scope else q.outputs) (sym star) in
    ap (λ l. record q { star = false; outputs = outputs; order = keys; nodes = l }) all
    ∙ ap (λ l. record q { star = false; outputs = l; order = keys; nodes = nodes_written scope named q }) outs
