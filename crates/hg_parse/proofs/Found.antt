-- Each expression is found: the descent reads what the grammar says, and stops behind it.
use Rattle.std.proofs.Common.{◌≡◌, ℕ, suc, Bool, cond, ◌+◌, true, false, List, [], ◌∷◌, ◌++◌, Some, None, refl, ap, ◌∙◌, arith, append_assoc, length-append, pos}
use Rattle.std.specs.Prelude.{codes}
use Rattle.hg_model.specs.Grammar.{Read, with_node, next, open_sign, close_sign, comma, dot, star, plus, minus, IsColumn, bare, dotted, IsCmp, eq, ne, ne_bang, lt, le, gt, ge, IsFold, count, sum, min, max, Rule, Or, And, Not, Pred, Sum, Term, Factor, Prim, Items, Expression, or_one, or_more, and_one, and_more, not_none, not_one, pred_sum, pred_cmp, pred_null, pred_not_null, pred_between, pred_not_between, pred_in, pred_not_in, sum_one, sum_plus, sum_minus, term_one, term_times, factor_prim, factor_plus, factor_minus, prim_number, prim_text, prim_null, prim_column, prim_nested, agg_rows, agg_one, items_one, items_more}
use Rattle.hg_model.specs.Tokens.{Token, Word, Digits, Letters, is_reserved, number_of}
use Rattle.hg_model.specs.declared.trees.Cmp.{Cmp}
use Rattle.hg_model.specs.declared.trees.Cmp.TheVariants as cmp
use Rattle.hg_model.specs.declared.trees.ColRef.{ColRef}
use Rattle.hg_model.specs.declared.trees.Fold.{Fold}
use Rattle.hg_model.specs.declared.trees.Fold.TheVariants as of
use Rattle.hg_model.specs.declared.trees.Literal.TheVariants as literal
use Rattle.hg_model.specs.declared.trees.Node.{Node}
use Rattle.hg_model.specs.declared.trees.Node.TheVariants as node
use Rattle.hg_model.specs.declared.trees.Op.TheVariants.{Add, Sub, Mul}
use Rattle.hg_parse.specs.Building.{Draft, plain, with_text_node}
use Rattle.hg_parse.proofs.Begins.{Begins, begins}
use Rattle.std.proofs.lemmas.Bool.{and_right}
use Rattle.hg_parse.specs.Steps.{Answer, got, and_then, eats, closed, Stop, Go, chain}
use Rattle.hg_parse.specs.Descent as d
use Rattle.hg_parse.specs.Descent.{compares}
use Rattle.hg_parse.specs.Follow.{AfterTerm, AfterSum, AfterPred, AfterAnd, AfterOr}
use Rattle.hg_parse.proofs.Chains.{chain_stop, one_more}

abbrev pub at : Draft → Read → Draft
at g r = record g { read = r }

abbrev pub Inner : Type 0
Inner = Draft → List Token → Answer Draft ℕ

abbrev pub inner : ℕ → Inner
inner k = d.inside plain k

abbrev pub Found : Rule → ℕ → Read → List Token → Read → ℕ → Type 0
Found Or k r ts s n = (g : Draft) (rest : List Token) → AfterAnd rest
    → d.disjunction plain k (inner k) (at g r) (ts ++ rest) ≡ chain (d.or_turn plain k (inner k)) (at g s) n rest
Found And k r ts s n = (g : Draft) (rest : List Token) → AfterPred rest
    → d.conjunction plain k (inner k) (at g r) (ts ++ rest) ≡ chain (d.and_turn plain k (inner k)) (at g s) n rest
Found Not k r ts s n = (g : Draft) (rest : List Token) → AfterPred rest
    → d.negation plain k (inner k) (at g r) (ts ++ rest) ≡ got (at g s) n rest
Found Pred k r ts s n = (g : Draft) (rest : List Token) → AfterPred rest
    → d.pred plain k (inner k) (at g r) (ts ++ rest) ≡ got (at g s) n rest
Found Sum k r ts s n = (g : Draft) (rest : List Token) → AfterTerm rest
    → d.sum plain k (inner k) (at g r) (ts ++ rest) ≡ chain (d.sum_turn plain k (inner k)) (at g s) n rest
Found Term k r ts s n = (g : Draft) (rest : List Token) → eats dot rest ≡ false
    → d.term plain k (inner k) (at g r) (ts ++ rest) ≡ chain (d.term_turn plain k (inner k)) (at g s) n rest
Found Factor k r ts s n = (g : Draft) (rest : List Token) → eats dot rest ≡ false
    → d.factor plain k (inner k) (at g r) (ts ++ rest) ≡ got (at g s) n rest
Found Prim k r ts s n = (g : Draft) (rest : List Token) → eats dot rest ≡ false
    → d.prim plain k (inner k) (at g r) (ts ++ rest) ≡ got (at g s) n rest
Found (Items m) k r ts s n = (g : Draft) (rest : List Token) → AfterSum rest
    → d.items plain k (inner k) m (at g r) (ts ++ rest) ≡ chain (d.items_turn plain k (inner k) m) (at g s) n rest

-- chains that stop

pub if_stop : {A : Type 0} (b : Bool) (x y : A) → b ≡ false → cond b x y ≡ y
if_stop b x y e = ap (λ c. cond c x y) e

pub if_go : {A : Type 0} (b : Bool) (x y : A) → b ≡ true → cond b x y ≡ x
if_go b x y e = ap (λ c. cond c x y) e

module _ (k : ℕ) (g : Draft) (s : Read) (n : ℕ) (rest : List Token) where
  term_stops : AfterTerm rest → d.term_turn plain k (inner k) (at g s) n rest ≡ Stop
  term_stops h = if_stop _ _ _ h.no_star

  sum_stops : AfterSum rest → d.sum_turn plain k (inner k) (at g s) n rest ≡ Stop
  sum_stops h = if_stop _ _ _ h.no_plus ∙ if_stop _ _ _ h.no_minus

  tail_stops : AfterPred rest → d.tail plain k (inner k) (compares rest) (at g s) n rest ≡ got (at g s) n rest
  tail_stops h = ap (λ o. d.tail plain k (inner k) o (at g s) n rest) h.no_cmp
      ∙ if_stop _ _ _ h.no_is ∙ if_stop _ _ _ h.no_not ∙ if_stop _ _ _ h.no_between ∙ if_stop _ _ _ h.no_in

  and_stops : AfterAnd rest → d.and_turn plain k (inner k) (at g s) n rest ≡ Stop
  and_stops h = if_stop _ _ _ h.no_and

  pub or_stops : AfterOr rest → d.or_turn plain k (inner k) (at g s) n rest ≡ Stop
  or_stops h = if_stop _ _ _ h.no_or

module _ (k : ℕ) (g : Draft) (r : Read) (ts : List Token) (s : Read) (n : ℕ) (rest : List Token) where
  term_got : Found Term k r ts s n → AfterTerm rest → d.term plain k (inner k) (at g r) (ts ++ rest) ≡ got (at g s) n rest
  term_got f h = f g rest h.no_dot ∙ chain_stop (d.term_turn plain k (inner k)) (at g s) n rest (term_stops k g s n rest h)

  sum_got : Found Sum k r ts s n → AfterSum rest → d.sum plain k (inner k) (at g r) (ts ++ rest) ≡ got (at g s) n rest
  sum_got f h = f g rest h.term ∙ chain_stop (d.sum_turn plain k (inner k)) (at g s) n rest (sum_stops k g s n rest h)

  and_got : Found And k r ts s n → AfterAnd rest → d.conjunction plain k (inner k) (at g r) (ts ++ rest) ≡ got (at g s) n rest
  and_got f h = f g rest h.pred ∙ chain_stop (d.and_turn plain k (inner k)) (at g s) n rest (and_stops k g s n rest h)

  pub or_got : Found Or k r ts s n → AfterOr rest → d.disjunction plain k (inner k) (at g r) (ts ++ rest) ≡ got (at g s) n rest
  or_got f h = f g rest h.conjunction ∙ chain_stop (d.or_turn plain k (inner k)) (at g s) n rest (or_stops k g s n rest h)

follow_or : (ts : List Token) → AfterAnd (d.key (codes "or") ∷ ts)
follow_or ts = record { pred = record { sum = record { term = record { no_dot = refl; no_star = refl }; no_plus = refl; no_minus = refl }; no_cmp = refl; no_is = refl; no_not = refl; no_between = refl; no_in = refl }; no_and = refl }

follow_and : (ts : List Token) → AfterPred (d.key (codes "and") ∷ ts)
follow_and ts = record { sum = record { term = record { no_dot = refl; no_star = refl }; no_plus = refl; no_minus = refl }; no_cmp = refl; no_is = refl; no_not = refl; no_between = refl; no_in = refl }

pub follow_close : (ts : List Token) → AfterOr (close_sign ∷ ts)
follow_close ts = record { conjunction = record { pred = record { sum = record { term = record { no_dot = refl; no_star = refl }; no_plus = refl; no_minus = refl }; no_cmp = refl; no_is = refl; no_not = refl; no_between = refl; no_in = refl }; no_and = refl }; no_or = refl }

pub follow_comma : (ts : List Token) → AfterOr (comma ∷ ts)
follow_comma ts = record { conjunction = record { pred = record { sum = record { term = record { no_dot = refl; no_star = refl }; no_plus = refl; no_minus = refl }; no_cmp = refl; no_is = refl; no_not = refl; no_between = refl; no_in = refl }; no_and = refl }; no_or = refl }

follow_word : (w : List ℕ) (ts : List Token) → AfterSum (d.key w ∷ ts)
follow_word w ts = record { term = record { no_dot = refl; no_star = refl }; no_plus = refl; no_minus = refl }

follow_cmp : {c : Token} {o : Cmp} → IsCmp c o → (ts : List Token) → AfterSum (c ∷ ts)
follow_cmp eq ts = record { term = record { no_dot = refl; no_star = refl }; no_plus = refl; no_minus = refl }
follow_cmp ne ts = record { term = record { no_dot = refl; no_star = refl }; no_plus = refl; no_minus = refl }
follow_cmp ne_bang ts = record { term = record { no_dot = refl; no_star = refl }; no_plus = refl; no_minus = refl }
follow_cmp lt ts = record { term = record { no_dot = refl; no_star = refl }; no_plus = refl; no_minus = refl }
follow_cmp le ts = record { term = record { no_dot = refl; no_star = refl }; no_plus = refl; no_minus = refl }
follow_cmp gt ts = record { term = record { no_dot = refl; no_star = refl }; no_plus = refl; no_minus = refl }
follow_cmp ge ts = record { term = record { no_dot = refl; no_star = refl }; no_plus = refl; no_minus = refl }

compares_so : {c : Token} {o : Cmp} → IsCmp c o → (ts : List Token) → compares (c ∷ ts) ≡ Some o
compares_so eq ts = refl
compares_so ne ts = refl
compares_so ne_bang ts = refl
compares_so lt ts = refl
compares_so le ts = refl
compares_so gt ts = refl
compares_so ge ts = refl

pub add_twice : (n : ℕ) → n + 1 + 1 ≡ n + 2
add_twice n = omega arith

-- one more node
pub next_with : (r : Read) (x : Node) → next (with_node r x) ≡ next r + 1
next_with r x = omega (arith, length-append r.nodes (x ∷ []))

module _ (k : ℕ) where
  -- or
  found_or_one : (r : Read) (ts : List Token) (s : Read) (n : ℕ) → Found And k r ts s n → Found Or k r ts s n
  unfolding d.disjunction
  found_or_one r ts s n f g rest h = ap (λ a. and_then a (λ t m us. chain (d.or_turn plain k (inner k)) t m us)) (and_got k g r ts s n rest f h)

  found_or_more : (r s t : Read) (ts us : List Token) (m n : ℕ) → Found Or k r ts s m → Found And k s us t n
      → Found Or k r (ts ++ d.key (codes "or") ∷ us) (with_node t (node.Either m n)) (next t)
  found_or_more r s t ts us m n f e g rest h =
      one_more (d.or_turn plain k (inner k)) (d.disjunction plain k (inner k) (at g r)) ts us rest (d.key (codes "or")) (at g s) m (at g (with_node t (node.Either m n))) (next t)
      (f g (d.key (codes "or") ∷ (us ++ rest)) (follow_or (us ++ rest)))
      (ap (λ a. Go (and_then a (λ t n us. d.with_next plain t (node.Either m n) us))) (and_got k g s us t n rest e h))

  -- and
  found_and_one : (r : Read) (ts : List Token) (s : Read) (n : ℕ) → Found Not k r ts s n → Found And k r ts s n
  unfolding d.conjunction
  found_and_one r ts s n f g rest h = ap (λ a. and_then a (λ t m us. chain (d.and_turn plain k (inner k)) t m us)) (f g rest h)

  found_and_more : (r s t : Read) (ts us : List Token) (m n : ℕ) → Found And k r ts s m → Found Not k s us t n
      → Found And k r (ts ++ d.key (codes "and") ∷ us) (with_node t (node.Both m n)) (next t)
  found_and_more r s t ts us m n f e g rest h =
      one_more (d.and_turn plain k (inner k)) (d.conjunction plain k (inner k) (at g r)) ts us rest (d.key (codes "and")) (at g s) m (at g (with_node t (node.Both m n))) (next t)
      (f g (d.key (codes "and") ∷ (us ++ rest)) (follow_and (us ++ rest)))
      (ap (λ a. Go (and_then a (λ t n us. d.with_next plain t (node.Both m n) us))) (e g rest h))

  -- not
  found_not_none : (r : Read) (ts : List Token) (s : Read) (n : ℕ) → Begins Pred ts → Found Pred k r ts s n → Found Not k r ts s n
  unfolding d.negation
  found_not_none r ts s n b f g rest h = if_stop _ _ _ (b rest).no_not ∙ f g rest h

  found_not_one : (r : Read) (ts : List Token) (s : Read) (n : ℕ) → Found Pred k r ts s n
      → Found Not k r (d.key (codes "not") ∷ ts) (with_node s (node.Not n)) (next s)
  unfolding d.negation
  found_not_one r ts s n f g rest h = ap (λ a. and_then a (d.denied plain)) (f g rest h)

  -- pred, behind its left operand
  behind_sum : (g : Draft) (r : Read) (ts : List Token) (s : Read) (m : ℕ) (rest : List Token) → Found Sum k r ts s m → AfterSum rest
      → d.pred plain k (inner k) (at g r) (ts ++ rest) ≡ d.tail plain k (inner k) (compares rest) (at g s) m rest
  unfolding d.pred
  behind_sum g r ts s m rest f h = ap (λ a. and_then a (λ t m us. d.tail plain k (inner k) (compares us) t m us)) (sum_got k g r ts s m rest f h)

  found_pred_sum : (r : Read) (ts : List Token) (s : Read) (n : ℕ) → Found Sum k r ts s n → Found Pred k r ts s n
  found_pred_sum r ts s n f g rest h = behind_sum g r ts s n rest f h.sum ∙ tail_stops k g s n rest h

  found_pred_cmp : (r s t : Read) (ts us : List Token) (m n : ℕ) (c : Token) (o : Cmp) → Found Sum k r ts s m → IsCmp c o → Found Sum k s us t n
      → Found Pred k r (ts ++ c ∷ us) (with_node t (node.Compare o m n)) (next t)
  found_pred_cmp r s t ts us m n c o f i e g rest h =
      ap (d.pred plain k (inner k) (at g r)) (append_assoc ts (c ∷ us) rest)
      ∙ behind_sum g r ts s m (c ∷ (us ++ rest)) f (follow_cmp i (us ++ rest))
      ∙ ap (λ p. d.tail plain k (inner k) p (at g s) m (c ∷ (us ++ rest))) (compares_so i (us ++ rest))
      ∙ ap (λ a. and_then a (λ t n us. d.with_next plain t (node.Compare o m n) us)) (sum_got k g s us t n rest e h.sum)

  found_pred_null : (r s : Read) (ts : List Token) (n : ℕ) → Found Sum k r ts s n
      → Found Pred k r (ts ++ d.key (codes "is") ∷ d.key (codes "null") ∷ []) (with_node s (node.IsNull n)) (next s)
  found_pred_null r s ts n f g rest h =
      ap (d.pred plain k (inner k) (at g r)) (append_assoc ts (d.key (codes "is") ∷ d.key (codes "null") ∷ []) rest)
      ∙ behind_sum g r ts s n (d.key (codes "is") ∷ d.key (codes "null") ∷ rest) f (follow_word (codes "is") _)

  found_pred_not_null : (r s : Read) (ts : List Token) (n : ℕ) → Found Sum k r ts s n
      → Found Pred k r (ts ++ d.key (codes "is") ∷ d.key (codes "not") ∷ d.key (codes "null") ∷ []) (with_node s (node.NotNull n)) (next s)
  found_pred_not_null r s ts n f g rest h =
      ap (d.pred plain k (inner k) (at g r)) (append_assoc ts (d.key (codes "is") ∷ d.key (codes "not") ∷ d.key (codes "null") ∷ []) rest)
      ∙ behind_sum g r ts s n (d.key (codes "is") ∷ d.key (codes "not") ∷ d.key (codes "null") ∷ rest) f (follow_word (codes "is") _)

  -- the ends of BETWEEN
  found_between : (s t u : Read) (us vs : List Token) (m a b : ℕ) → Found Sum k s us t a → Found Sum k (with_node t (node.Compare cmp.Ge m a)) vs u b
      → (g : Draft) (rest : List Token) → AfterSum rest
      → d.between plain k (inner k) (at g s) m ((us ++ d.key (codes "and") ∷ vs) ++ rest)
      ≡ got (at g (with_node (with_node u (node.Compare cmp.Le m b)) (node.Both (next t) (next u)))) (next u + 1) rest
  found_between s t u us vs m a b f e g rest h =
      ap (d.between plain k (inner k) (at g s) m) (append_assoc us (d.key (codes "and") ∷ vs) rest)
      ∙ ap (λ x. and_then x (d.upper_end plain k (inner k) m)) (sum_got k g s us t a (d.key (codes "and") ∷ (vs ++ rest)) f (follow_word (codes "and") _))
      ∙ ap (λ x. and_then x (d.both_ends plain m (next t))) (sum_got k g (with_node t (node.Compare cmp.Ge m a)) vs u b rest e h)
      ∙ ap (λ i. got (at g (with_node (with_node u (node.Compare cmp.Le m b)) (node.Both (next t) (next u)))) i rest) (next_with u (node.Compare cmp.Le m b))

  found_pred_between : (r s t u : Read) (ts us vs : List Token) (m a b : ℕ) → Found Sum k r ts s m → Found Sum k s us t a
      → Found Sum k (with_node t (node.Compare cmp.Ge m a)) vs u b
      → Found Pred k r (ts ++ d.key (codes "between") ∷ (us ++ d.key (codes "and") ∷ vs))
      (with_node (with_node u (node.Compare cmp.Le m b)) (node.Both (next t) (next u))) (next u + 1)
  found_pred_between r s t u ts us vs m a b f e l g rest h =
      ap (d.pred plain k (inner k) (at g r)) (append_assoc ts (d.key (codes "between") ∷ (us ++ d.key (codes "and") ∷ vs)) rest)
      ∙ behind_sum g r ts s m (d.key (codes "between") ∷ ((us ++ d.key (codes "and") ∷ vs) ++ rest)) f (follow_word (codes "between") _)
      ∙ found_between s t u us vs m a b e l g rest h.sum

  found_pred_not_between : (r s t u : Read) (ts us vs : List Token) (m a b : ℕ) → Found Sum k r ts s m → Found Sum k s us t a
      → Found Sum k (with_node t (node.Compare cmp.Ge m a)) vs u b
      → Found Pred k r (ts ++ d.key (codes "not") ∷ d.key (codes "between") ∷ (us ++ d.key (codes "and") ∷ vs))
      (with_node (with_node (with_node u (node.Compare cmp.Le m b)) (node.Both (next t) (next u))) (node.Not (next u + 1))) (next u + 2)
  found_pred_not_between r s t u ts us vs m a b f e l g rest h =
      let v : Read = with_node u (node.Compare cmp.Le m b) in
      let w : Read = with_node v (node.Both (next t) (next u)) in
      ap (d.pred plain k (inner k) (at g r)) (append_assoc ts (d.key (codes "not") ∷ d.key (codes "between") ∷ (us ++ d.key (codes "and") ∷ vs)) rest)
      ∙ behind_sum g r ts s m (d.key (codes "not") ∷ d.key (codes "between") ∷ ((us ++ d.key (codes "and") ∷ vs) ++ rest)) f (follow_word (codes "not") _)
      ∙ ap (λ x. and_then x (d.denied plain)) (found_between s t u us vs m a b e l g rest h.sum)
      ∙ ap (λ i. got (at g (with_node w (node.Not (next u + 1)))) i rest) (next_with v (node.Both (next t) (next u)) ∙ ap (λ i. i + 1) (next_with u (node.Compare cmp.Le m b)) ∙ add_twice (next u))

  -- the list of IN
  found_in : (s t : Read) (us : List Token) (m n : ℕ) → Found (Items m) k s us t n → (g : Draft) (rest : List Token)
      → d.in_list plain k (inner k) (at g s) m (open_sign ∷ ((us ++ close_sign ∷ []) ++ rest)) ≡ got (at g t) n rest
  found_in s t us m n f g rest =
      ap (λ l. closed (d.items plain k (inner k) m (at g s) l)) (append_assoc us (close_sign ∷ []) rest)
      ∙ ap closed (f g (close_sign ∷ rest) (follow_close rest).conjunction.pred.sum ∙ chain_stop (d.items_turn plain k (inner k) m) (at g t) n (close_sign ∷ rest) refl)

  found_pred_in : (r s t : Read) (ts us : List Token) (m n : ℕ) → Found Sum k r ts s m → Found (Items m) k s us t n
      → Found Pred k r (ts ++ d.key (codes "in") ∷ open_sign ∷ (us ++ close_sign ∷ [])) t n
  found_pred_in r s t ts us m n f e g rest h =
      ap (d.pred plain k (inner k) (at g r)) (append_assoc ts (d.key (codes "in") ∷ open_sign ∷ (us ++ close_sign ∷ [])) rest)
      ∙ behind_sum g r ts s m (d.key (codes "in") ∷ open_sign ∷ ((us ++ close_sign ∷ []) ++ rest)) f (follow_word (codes "in") _)
      ∙ found_in s t us m n e g rest

  found_pred_not_in : (r s t : Read) (ts us : List Token) (m n : ℕ) → Found Sum k r ts s m → Found (Items m) k s us t n
      → Found Pred k r (ts ++ d.key (codes "not") ∷ d.key (codes "in") ∷ open_sign ∷ (us ++ close_sign ∷ [])) (with_node t (node.Not n)) (next t)
  found_pred_not_in r s t ts us m n f e g rest h =
      ap (d.pred plain k (inner k) (at g r)) (append_assoc ts (d.key (codes "not") ∷ d.key (codes "in") ∷ open_sign ∷ (us ++ close_sign ∷ [])) rest)
      ∙ behind_sum g r ts s m (d.key (codes "not") ∷ d.key (codes "in") ∷ open_sign ∷ ((us ++ close_sign ∷ []) ++ rest)) f (follow_word (codes "not") _)
      ∙ ap (λ x. and_then x (d.denied plain)) (found_in s t us m n e g rest)

  -- sum
  found_sum_one : (r : Read) (ts : List Token) (s : Read) (n : ℕ) → Found Term k r ts s n → (g : Draft) (rest : List Token) → AfterTerm rest
      → d.sum plain k (inner k) (at g r) (ts ++ rest) ≡ chain (d.sum_turn plain k (inner k)) (at g s) n rest
  unfolding d.sum
  found_sum_one r ts s n f g rest h = ap (λ a. and_then a (λ t m us. chain (d.sum_turn plain k (inner k)) t m us)) (term_got k g r ts s n rest f h)

  found_sum_plus : (r s t : Read) (ts us : List Token) (m n : ℕ) → Found Sum k r ts s m → Found Term k s us t n
      → Found Sum k r (ts ++ plus ∷ us) (with_node t (node.Arith Add m n)) (next t)
  found_sum_plus r s t ts us m n f e g rest h =
      one_more (d.sum_turn plain k (inner k)) (d.sum plain k (inner k) (at g r)) ts us rest plus (at g s) m (at g (with_node t (node.Arith Add m n))) (next t)
      (f g (plus ∷ (us ++ rest)) (record { no_dot = refl; no_star = refl }))
      (ap (λ a. Go (and_then a (λ t n us. d.with_next plain t (node.Arith Add m n) us))) (term_got k g s us t n rest e h))

  found_sum_minus : (r s t : Read) (ts us : List Token) (m n : ℕ) → Found Sum k r ts s m → Found Term k s us t n
      → Found Sum k r (ts ++ minus ∷ us) (with_node t (node.Arith Sub m n)) (next t)
  found_sum_minus r s t ts us m n f e g rest h =
      one_more (d.sum_turn plain k (inner k)) (d.sum plain k (inner k) (at g r)) ts us rest minus (at g s) m (at g (with_node t (node.Arith Sub m n))) (next t)
      (f g (minus ∷ (us ++ rest)) (record { no_dot = refl; no_star = refl }))
      (ap (λ a. Go (and_then a (λ t n us. d.with_next plain t (node.Arith Sub m n) us))) (term_got k g s us t n rest e h))

  -- term
  found_term_one : (r : Read) (ts : List Token) (s : Read) (n : ℕ) → Found Factor k r ts s n → Found Term k r ts s n
  unfolding d.term
  found_term_one r ts s n f g rest h = ap (λ a. and_then a (λ t m us. chain (d.term_turn plain k (inner k)) t m us)) (f g rest h)

  found_term_times : (r s t : Read) (ts us : List Token) (m n : ℕ) → Found Term k r ts s m → Found Factor k s us t n
      → Found Term k r (ts ++ star ∷ us) (with_node t (node.Arith Mul m n)) (next t)
  found_term_times r s t ts us m n f e g rest h =
      one_more (d.term_turn plain k (inner k)) (d.term plain k (inner k) (at g r)) ts us rest star (at g s) m (at g (with_node t (node.Arith Mul m n))) (next t)
      (f g (star ∷ (us ++ rest)) refl)
      (ap (λ a. Go (and_then a (λ t n us. d.with_next plain t (node.Arith Mul m n) us))) (e g rest h))

  -- factor
  found_factor_prim : (r : Read) (ts : List Token) (s : Read) (n : ℕ) → Begins Prim ts → Found Prim k r ts s n → Found Factor k r ts s n
  unfolding d.factor
  found_factor_prim r ts s n b f g rest h = if_stop _ _ _ (b rest).no_plus ∙ if_stop _ _ _ (b rest).no_minus ∙ f g rest h

  found_factor_plus : (r : Read) (ts : List Token) (s : Read) (n : ℕ) → Found Prim k r ts s n → Found Factor k r (plus ∷ ts) s n
  unfolding d.factor
  found_factor_plus r ts s n f g rest h = f g rest h

  found_factor_minus : (r : Read) (ts : List Token) (s : Read) (n : ℕ) → Found Prim k r ts s n → Found Factor k r (minus ∷ ts) (with_node s (node.Neg n)) (next s)
  unfolding d.factor
  found_factor_minus r ts s n f g rest h = ap (λ a. and_then a (λ t n us. d.with_next plain t (node.Neg n) us)) (f g rest h)

  -- prim
  found_prim_number : (r : Read) (ds : List ℕ) → Found Prim k r (Digits ds ∷ []) (with_node r (node.Lit (literal.Int (pos (number_of ds))))) (next r)
  unfolding d.prim
  found_prim_number r ds g rest h = refl

  found_prim_text : (r : Read) (t : List ℕ) → Found Prim k r (Letters t ∷ []) (with_text_node r t) (next r)
  unfolding d.prim
  found_prim_text r t g rest h = refl

  found_prim_null : (r : Read) → Found Prim k r (Word (codes "null") ∷ []) (with_node r (node.Lit literal.Null)) (next r)
  unfolding d.prim is_reserved
  found_prim_null r g rest h = refl

  found_prim_column : (r : Read) {ts : List Token} {c : ColRef} → IsColumn ts c → Found Prim k r ts (with_node r (node.Col c)) (next r)
  unfolding d.prim
  found_prim_column r (bare c i) g rest h =
      if_stop _ _ _ i ∙ ap (λ a. and_then a (λ t c us. d.with_next plain t (node.Col c) us)) (if_stop (eats dot rest) _ (got (at g r) (d.named c) rest) h)
  found_prim_column r (dotted t c i j) g rest h =
      if_stop _ _ _ i ∙ ap (λ a. and_then (and_then a (λ s x us. got s (d.named_of t x) us)) (λ t c us. d.with_next plain t (node.Col c) us)) (if_stop (is_reserved c) None (got (at g r) c rest) j)

  found_prim_nested : (r : Read) (ts : List Token) (s : Read) (n : ℕ) → Found Or k r ts s n → Found Prim (suc k) r (open_sign ∷ (ts ++ close_sign ∷ [])) s n
  unfolding d.prim d.inside
  found_prim_nested r ts s n f g rest h =
      ap (λ l. closed (d.disjunction plain k (inner k) (at g r) l)) (append_assoc ts (close_sign ∷ []) rest)
      ∙ ap closed (or_got k g r ts s n (close_sign ∷ rest) f (follow_close rest))

  found_agg_rows : (r : Read)
      → Found Prim (suc k) r (Word (codes "count") ∷ open_sign ∷ star ∷ close_sign ∷ []) (with_node r (node.Aggregate of.CountRows None)) (next r)
  unfolding d.prim is_reserved
  found_agg_rows r g rest h = refl

  aggregate_at : {w : Token} {f : Fold} → IsFold w f → (g : Draft) (us : List Token)
      → d.prim plain (suc k) (inner (suc k)) g (w ∷ open_sign ∷ us) ≡ d.aggregate plain (inner (suc k)) g f us
  unfolding d.prim is_reserved
  aggregate_at count g us = refl
  aggregate_at sum g us = refl
  aggregate_at min g us = refl
  aggregate_at max g us = refl

  found_agg_one : (r s : Read) (ts : List Token) (n : ℕ) (w : Token) (f : Fold) → IsFold w f → Begins Or ts → Found Or k r ts s n
      → Found Prim (suc k) r (w ∷ open_sign ∷ (ts ++ close_sign ∷ [])) (with_node s (node.Aggregate f (Some n))) (next s)
  unfolding d.inside
  found_agg_one r s ts n w f i b e g rest h =
      aggregate_at i (at g r) ((ts ++ close_sign ∷ []) ++ rest)
      ∙ ap (d.aggregate plain (inner (suc k)) (at g r) f) (append_assoc ts (close_sign ∷ []) rest)
      ∙ if_stop _ _ _ (and_right (d.is_count f) _ (b (close_sign ∷ rest)).no_star)
      ∙ ap (λ a. and_then (closed a) (λ t n us. d.with_next plain t (node.Aggregate f (Some n)) us)) (or_got k g r ts s n (close_sign ∷ rest) e (follow_close rest))

  -- the items of IN
  found_items_one : (r s : Read) (ts : List Token) (m n : ℕ) → Found Sum k r ts s n → Found (Items m) k r ts (with_node s (node.Compare cmp.Eq m n)) (next s)
  unfolding d.items
  found_items_one r s ts m n f g rest h =
      ap (λ a. and_then (and_then a (λ t n us. d.with_next plain t (node.Compare cmp.Eq m n) us)) (λ t n us. chain (d.items_turn plain k (inner k) m) t n us)) (sum_got k g r ts s n rest f h)

  found_items_more : (r s t : Read) (ts us : List Token) (m j n : ℕ) → Found (Items m) k r ts s j → Found Sum k s us t n
      → Found (Items m) k r (ts ++ comma ∷ us) (with_node (with_node t (node.Compare cmp.Eq m n)) (node.Either j (next t))) (next t + 1)
  found_items_more r s t ts us m j n f e g rest h =
      let v : Read = with_node t (node.Compare cmp.Eq m n) in
      let w : Read = with_node v (node.Either j (next t)) in
      one_more (d.items_turn plain k (inner k) m) (d.items plain k (inner k) m (at g r)) ts us rest comma (at g s) j (at g w) (next t + 1)
      (f g (comma ∷ (us ++ rest)) (follow_comma (us ++ rest)).conjunction.pred.sum)
      (ap (λ a. Go (and_then a (d.item_joined plain m j))) (sum_got k g s us t n rest e h) ∙ ap (λ i. Go (got (at g w) i rest)) (next_with t (node.Compare cmp.Eq m n)))

pub found : {l : Rule} {k : ℕ} {r : Read} {ts : List Token} {s : Read} {n : ℕ} → Expression l k r ts s n → Found l k r ts s n
found (or_one {d = k} {r} {s} {ts} {n} e) = found_or_one k r ts s n (found e)
found (or_more {d = k} {r} {s} {t} {ts} {us} {m} {n} e f) = found_or_more k r s t ts us m n (found e) (found f)
found (and_one {d = k} {r} {s} {ts} {n} e) = found_and_one k r ts s n (found e)
found (and_more {d = k} {r} {s} {t} {ts} {us} {m} {n} e f) = found_and_more k r s t ts us m n (found e) (found f)
found (not_none {d = k} {r} {s} {ts} {n} e) = found_not_none k r ts s n (begins e) (found e)
found (not_one {d = k} {r} {s} {ts} {n} e) = found_not_one k r ts s n (found e)
found (pred_sum {d = k} {r} {s} {ts} {n} e) = found_pred_sum k r ts s n (found e)
found (pred_cmp {d = k} {r} {s} {t} {ts} {us} {m} {n} {c} {o} e i f) = found_pred_cmp k r s t ts us m n c o (found e) i (found f)
found (pred_null {d = k} {r} {s} {ts} {n} e) = found_pred_null k r s ts n (found e)
found (pred_not_null {d = k} {r} {s} {ts} {n} e) = found_pred_not_null k r s ts n (found e)
found (pred_between {d = k} {r} {s} {t} {u} {ts} {us} {vs} {m} {a} {b} e f l) = found_pred_between k r s t u ts us vs m a b (found e) (found f) (found l)
found (pred_not_between {d = k} {r} {s} {t} {u} {ts} {us} {vs} {m} {a} {b} e f l) = found_pred_not_between k r s t u ts us vs m a b (found e) (found f) (found l)
found (pred_in {d = k} {r} {s} {t} {ts} {us} {m} {n} e f) = found_pred_in k r s t ts us m n (found e) (found f)
found (pred_not_in {d = k} {r} {s} {t} {ts} {us} {m} {n} e f) = found_pred_not_in k r s t ts us m n (found e) (found f)
found (sum_one {d = k} {r} {s} {ts} {n} e) = found_sum_one k r ts s n (found e)
found (sum_plus {d = k} {r} {s} {t} {ts} {us} {m} {n} e f) = found_sum_plus k r s t ts us m n (found e) (found f)
found (sum_minus {d = k} {r} {s} {t} {ts} {us} {m} {n} e f) = found_sum_minus k r s t ts us m n (found e) (found f)
found (term_one {d = k} {r} {s} {ts} {n} e) = found_term_one k r ts s n (found e)
found (term_times {d = k} {r} {s} {t} {ts} {us} {m} {n} e f) = found_term_times k r s t ts us m n (found e) (found f)
found (factor_prim {d = k} {r} {s} {ts} {n} e) = found_factor_prim k r ts s n (begins e) (found e)
found (factor_plus {d = k} {r} {s} {ts} {n} e) = found_factor_plus k r ts s n (found e)
found (factor_minus {d = k} {r} {s} {ts} {n} e) = found_factor_minus k r ts s n (found e)
found (prim_number {d = k} {r} ds) = found_prim_number k r ds
found (prim_text {d = k} {r} t) = found_prim_text k r t
found (prim_null {d = k} {r}) = found_prim_null k r
found (prim_column {d = k} {r} c) = found_prim_column k r c
found (prim_nested {d = k} {r} {s} {ts} {n} e) = found_prim_nested k r ts s n (found e)
found (agg_rows {d = k} {r}) = found_agg_rows k r
found (agg_one {d = k} {r} {s} {ts} {n} {w} {f} i e) = found_agg_one k r s ts n w f i (begins e) (found e)
found (items_one {d = k} {r} {s} {ts} {m} {n} e) = found_items_one k r s ts m n (found e)
found (items_more {d = k} {r} {s} {t} {ts} {us} {m} {k = j} {n} e f) = found_items_more k r s t ts us m j n (found e) (found f)
