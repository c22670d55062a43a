-- What the descent keeps is what is kept of what it makes of the whole.
use Rattle.std.proofs.Common.{◌≡◌, ℕ, zero, suc, Bool, cond, true, false, ◌&&◌, List, [], ◌∷◌, Option, Some, None, length, refl, sym, ap, ◌∙◌, arith, pos}
use Rattle.std.specs.Prelude.{codes, ⊤, nat_lt}
use Rattle.std.specs.Option.{option_map}
use Rattle.hg_model.specs.Grammar.{open_sign, close_sign, comma, dot, star, plus, minus}
use Rattle.hg_model.specs.Reading.{has_long_number}
use Rattle.hg_model.specs.Tables.{same_name}
use Rattle.hg_model.specs.Tokens.{Token, Word, Digits, Letters, Sign, is_reserved, number_of}
use Rattle.hg_model.specs.declared.trees.Cmp.{Cmp}
use Rattle.hg_model.specs.declared.trees.Cmp.TheVariants as cmp
use Rattle.hg_model.specs.declared.trees.Fold.{Fold}
use Rattle.hg_model.specs.declared.trees.Fold.TheVariants as of
use Rattle.hg_model.specs.declared.trees.Literal.TheVariants as literal
use Rattle.hg_model.specs.declared.trees.Node.{Node}
use Rattle.hg_model.specs.declared.trees.Node.TheVariants as node
use Rattle.hg_model.specs.declared.trees.Op.TheVariants.{Add, Sub, Mul}
use Rattle.hg_parse.specs.Building.{Draft, plain}
use Rattle.hg_parse.specs.Descent as d
use Rattle.hg_parse.specs.Keeping.{cap, Kept, kept_of, keeping, short_node, image}
use Rattle.hg_parse.specs.Steps.{Answer, got, and_then, eats, behind, after, closed, Turn, Stop, Go, follow, turns, chain, commas, comma_turn}
use Rattle.hg_parse.proofs.Keeps.{node_kept, text_kept_so}

abbrev pub turn_image : {X Y : Type 0} → (X → Y) → Turn Draft X → Turn Kept Y
turn_image f Stop = Stop
turn_image f (Go a) = Go (image f a)

abbrev pub same_value : {X : Type 0} → X → X
same_value x = x

pub then_image : {X Y Z W : Type 0} (f : X → Z) (h : Y → W) (b : Answer Kept Z) (a : Answer Draft X) (k : Draft → X → List Token → Answer Draft Y) (l : Kept → Z → List Token → Answer Kept W)
    → b ≡ image f a → ((s : Draft) (x : X) (us : List Token) → l (kept_of s) (f x) us ≡ image h (k s x us)) → and_then b l ≡ image h (and_then a k)
then_image f h b a k l e same = ap (λ c. and_then c l) e ∙ then_so f h a k l same
  where
    then_so : {X Y Z W : Type 0} (f : X → Z) (h : Y → W) (a : Answer Draft X) (k : Draft → X → List Token → Answer Draft Y) (l : Kept → Z → List Token → Answer Kept W)
        → ((s : Draft) (x : X) (us : List Token) → l (kept_of s) (f x) us ≡ image h (k s x us)) → and_then (image f a) l ≡ image h (and_then a k)
    then_so f h None k l same = refl
    then_so f h (Some g) k l same = same g.state g.value g.rest

pub if_image : {X Y : Type 0} (h : X → Y) (b : Bool) (x y : Answer Draft X) (z w : Answer Kept Y) → z ≡ image h x → w ≡ image h y → cond b z w ≡ image h (cond b x y)
if_image h true x y z w e l = e
if_image h false x y z w e l = l

pub turn_if_image : {X Y : Type 0} (h : X → Y) (b : Bool) (x y : Turn Draft X) (z w : Turn Kept Y) → z ≡ turn_image h x → w ≡ turn_image h y → cond b z w ≡ turn_image h (cond b x y)
turn_if_image h true x y z w e l = e
turn_if_image h false x y z w e l = l

pub after_image : {X Y : Type 0} (h : X → Y) (t : Token) (ts : List Token) (k : List Token → Answer Draft X) (l : List Token → Answer Kept Y)
    → ((us : List Token) → l us ≡ image h (k us)) → after t ts l ≡ image h (after t ts k)
after_image h t ts k l same = if_image h (eats t ts) (k (behind ts)) None (l (behind ts)) None (same (behind ts)) refl

pub closed_image : {X Y : Type 0} (h : X → Y) (b : Answer Kept Y) (a : Answer Draft X) → b ≡ image h a → closed b ≡ image h (closed a)
closed_image h b a e = then_image h h b a _ _ e (λ s x us. after_image h close_sign us (λ vs. got s x vs) (λ vs. got (kept_of s) (h x) vs) (λ vs. refl))

module _ {X Y : Type 0} (f : X → Y) (turn : Draft → X → List Token → Turn Draft X) (other : Kept → Y → List Token → Turn Kept Y)
    (same : (s : Draft) (x : X) (ts : List Token) → other (kept_of s) (f x) ts ≡ turn_image f (turn s x ts)) where
  follow_image : (next : Draft → X → List Token → Answer Draft X) (more : Kept → Y → List Token → Answer Kept Y)
      → ((s : Draft) (x : X) (ts : List Token) → more (kept_of s) (f x) ts ≡ image f (next s x ts))
      → (r : Turn Draft X) (s : Draft) (x : X) (ts : List Token) → follow more (turn_image f r) (kept_of s) (f x) ts ≡ image f (follow next r s x ts)
  follow_image next more e Stop s x ts = refl
  follow_image next more e (Go None) s x ts = refl
  follow_image next more e (Go (Some g)) s x ts =
      if_image f (nat_lt (length g.rest) (length ts)) (next g.state g.value g.rest) None (more (kept_of g.state) (f g.value) g.rest) None (e g.state g.value g.rest) refl

  turns_image : (k : ℕ) (s : Draft) (x : X) (ts : List Token) → turns other k (kept_of s) (f x) ts ≡ image f (turns turn k s x ts)
  unfolding turns
  turns_image zero s x ts = refl
  turns_image (suc k) s x ts =
      ap (λ r. follow (turns other k) r (kept_of s) (f x) ts) (same s x ts) ∙ follow_image (turns turn k) (turns other k) (turns_image k) (turn s x ts) s x ts

  pub chain_image : (s : Draft) (x : X) (ts : List Token) → chain other (kept_of s) (f x) ts ≡ image f (chain turn s x ts)
  unfolding chain
  chain_image s x ts = turns_image (suc (length ts)) s x ts

pub commas_image : (item : Draft → List Token → Answer Draft ⊤) (other : Kept → List Token → Answer Kept ⊤)
    → ((s : Draft) (ts : List Token) → other (kept_of s) ts ≡ image same_value (item s ts))
    → (s : Draft) (ts : List Token) → commas other (kept_of s) ts ≡ image same_value (commas item s ts)
commas_image item other same s ts =
    then_image same_value same_value (other (kept_of s) ts) (item s ts) (λ t x us. chain (comma_turn item) t x us) (λ t x us. chain (comma_turn other) t x us) (same s ts)
    (λ t x us. chain_image same_value (comma_turn item) (comma_turn other)
    (λ v y vs. turn_if_image same_value (eats comma vs) (Go (item v (behind vs))) Stop (Go (other (kept_of v) (behind vs))) Stop (ap Go (same v (behind vs))) refl) t x us)

-- names and columns do not look at the state
pub name_image : (s : Draft) (ts : List Token) → d.name (kept_of s) ts ≡ image same_value (d.name s ts)
name_image s [] = refl
name_image s (Word w ∷ ts) = if_image same_value (is_reserved w) None (got s w ts) None (got (kept_of s) w ts) refl refl
name_image s (Digits w ∷ ts) = refl
name_image s (Letters w ∷ ts) = refl
name_image s (Sign w ∷ ts) = refl

pub column_of_image : (s : Draft) (c : List ℕ) (ts : List Token) → d.column_of (kept_of s) c ts ≡ image same_value (d.column_of s c ts)
column_of_image s c ts =
    if_image same_value (eats dot ts) _ _ _ _
    (then_image same_value same_value (d.name (kept_of s) (behind ts)) (d.name s (behind ts)) (λ s x us. got s (d.named_of c x) us) (λ s x us. got s (d.named_of c x) us)
    (name_image s (behind ts)) (λ s x us. refl)) refl

pub column_image : (s : Draft) (ts : List Token) → d.column (kept_of s) ts ≡ image same_value (d.column s ts)
column_image s ts = then_image same_value same_value (d.name (kept_of s) ts) (d.name s ts) d.column_of d.column_of (name_image s ts) column_of_image

-- one more node, whose index is given
with_next_image : (s : Draft) (n m : Node) (ts : List Token) → short_node m ≡ short_node n → has_long_number m ≡ has_long_number n
    → d.with_next keeping (kept_of s) m ts ≡ image cap (d.with_next plain s n ts)
with_next_image s n m ts e l = ap (λ k. got k (cap (length s.read.nodes)) ts) (node_kept s n m e l)

pub cap_cap : (n : ℕ) → cap (cap n) ≡ cap n
cap_cap n = omega arith

pub option_cap : (o : Option ℕ) → option_map cap (option_map cap o) ≡ option_map cap o
option_cap None = refl
option_cap (Some n) = ap Some (cap_cap n)

module _ (k : ℕ) (inner : Draft → List Token → Answer Draft ℕ) (other : Kept → List Token → Answer Kept ℕ)
    (nested : (s : Draft) (ts : List Token) → other (kept_of s) ts ≡ image cap (inner s ts)) where
  deeper_image : (m : ℕ) (b : Answer Kept ℕ) (a : Answer Draft ℕ) → b ≡ image cap a → d.deeper m b ≡ image cap (d.deeper m a)
  deeper_image zero b a e = refl
  deeper_image (suc m) b a e = e

  aggregate_image : (s : Draft) (f : Fold) (ts : List Token) → d.aggregate keeping other (kept_of s) f ts ≡ image cap (d.aggregate plain inner s f ts)
  aggregate_image s f ts =
      if_image cap (d.is_count f && eats star ts) _ _ _ _
      (after_image cap close_sign (behind ts) (λ us. d.with_next plain s (node.Aggregate of.CountRows None) us) (λ us. d.with_next keeping (kept_of s) (node.Aggregate of.CountRows None) us)
      (λ us. with_next_image s (node.Aggregate of.CountRows None) (node.Aggregate of.CountRows None) us refl refl))
      (then_image cap cap (closed (other (kept_of s) ts)) (closed (inner s ts)) (λ t n us. d.with_next plain t (node.Aggregate f (Some n)) us) (λ t n us. d.with_next keeping t (node.Aggregate f (Some n)) us)
      (closed_image cap (other (kept_of s) ts) (inner s ts) (nested s ts))
      (λ t n us. with_next_image t (node.Aggregate f (Some n)) (node.Aggregate f (Some (cap n))) us (ap (λ i. node.Aggregate f (Some i)) (cap_cap n)) refl))

  fold_image : (s : Draft) (o : Option Fold) (ts : List Token) → d.fold_at keeping k other (kept_of s) o ts ≡ image cap (d.fold_at plain k inner s o ts)
  fold_image s None ts = refl
  fold_image s (Some f) ts =
      after_image cap open_sign ts (λ us. d.deeper k (d.aggregate plain inner s f us)) (λ us. d.deeper k (d.aggregate keeping other (kept_of s) f us))
      (λ us. deeper_image k _ _ (aggregate_image s f us))

  prim_image : (s : Draft) (ts : List Token) → d.prim keeping k other (kept_of s) ts ≡ image cap (d.prim plain k inner s ts)
  unfolding d.prim
  prim_image s [] = refl
  prim_image s (Word w ∷ ts) =
      if_image cap (is_reserved w) _ _ _ _
      (if_image cap (same_name w (codes "null")) _ _ _ _ (with_next_image s (node.Lit literal.Null) (node.Lit literal.Null) ts refl refl) (fold_image s (d.fold_of w) ts))
      (then_image same_value cap (d.column_of (kept_of s) w ts) (d.column_of s w ts) (λ t c us. d.with_next plain t (node.Col c) us) (λ t c us. d.with_next keeping t (node.Col c) us)
      (column_of_image s w ts) (λ t c us. with_next_image t (node.Col c) (node.Col c) us refl refl))
  prim_image s (Digits ds ∷ ts) = with_next_image s (node.Lit (literal.Int (pos (number_of ds)))) (node.Lit (literal.Int (pos (number_of ds)))) ts refl refl
  prim_image s (Letters t ∷ ts) = ap (λ k. got k (cap (length s.read.nodes)) ts) (text_kept_so s t)
  prim_image s (Sign w ∷ ts) = if_image cap (same_name w (40 ∷ [])) _ _ _ _ (deeper_image k _ _ (closed_image cap (other (kept_of s) ts) (inner s ts) (nested s ts))) refl

  factor_image : (s : Draft) (ts : List Token) → d.factor keeping k other (kept_of s) ts ≡ image cap (d.factor plain k inner s ts)
  unfolding d.factor
  factor_image s ts =
      if_image cap (eats plus ts) _ _ _ _ (prim_image s (behind ts))
      (if_image cap (eats minus ts) _ _ _ _
      (then_image cap cap (d.prim keeping k other (kept_of s) (behind ts)) (d.prim plain k inner s (behind ts)) (λ t n us. d.with_next plain t (node.Neg n) us) (λ t n us. d.with_next keeping t (node.Neg n) us)
      (prim_image s (behind ts)) (λ t n us. with_next_image t (node.Neg n) (node.Neg (cap n)) us (ap node.Neg (cap_cap n)) refl))
      (prim_image s ts))

  -- an operator between two operands
  joins_image : (operand : Draft → List Token → Answer Draft ℕ) (alike : Kept → List Token → Answer Kept ℕ) → ((s : Draft) (ts : List Token) → alike (kept_of s) ts ≡ image cap (operand s ts))
      → (make : ℕ → ℕ → Node) → ((a b : ℕ) → short_node (make (cap a) (cap b)) ≡ short_node (make a b)) → ((a b : ℕ) → has_long_number (make a b) ≡ false)
      → (s : Draft) (m : ℕ) (ts : List Token) → d.joins keeping alike make (kept_of s) (cap m) ts ≡ image cap (d.joins plain operand make s m ts)
  joins_image operand alike same make e l s m ts =
      then_image cap cap (alike (kept_of s) ts) (operand s ts) (λ t n us. d.with_next plain t (make m n) us) (λ t n us. d.with_next keeping t (make (cap m) n) us) (same s ts)
      (λ t n us. with_next_image t (make m n) (make (cap m) (cap n)) us (e m n) (l (cap m) (cap n) ∙ sym (l m n)))

  two_caps : (make : ℕ → ℕ → Node) (a b : ℕ) → make (cap (cap a)) (cap (cap b)) ≡ make (cap a) (cap b)
  two_caps make a b = ap (λ i. make i (cap (cap b))) (cap_cap a) ∙ ap (λ i. make (cap a) i) (cap_cap b)

  term_image : (s : Draft) (ts : List Token) → d.term keeping k other (kept_of s) ts ≡ image cap (d.term plain k inner s ts)
  unfolding d.term
  term_image s ts =
      then_image cap cap (d.factor keeping k other (kept_of s) ts) (d.factor plain k inner s ts) (λ t n us. chain (d.term_turn plain k inner) t n us) (λ t n us. chain (d.term_turn keeping k other) t n us)
      (factor_image s ts)
      (λ t n us. chain_image cap (d.term_turn plain k inner) (d.term_turn keeping k other)
      (λ v m vs. turn_if_image cap (eats star vs) _ _ _ _
      (ap Go (joins_image (d.factor plain k inner) (d.factor keeping k other) factor_image (node.Arith Mul) (two_caps (node.Arith Mul)) (λ a b. refl) v m (behind vs))) refl) t n us)

  sum_image : (s : Draft) (ts : List Token) → d.sum keeping k other (kept_of s) ts ≡ image cap (d.sum plain k inner s ts)
  unfolding d.sum
  sum_image s ts =
      then_image cap cap (d.term keeping k other (kept_of s) ts) (d.term plain k inner s ts) (λ t n us. chain (d.sum_turn plain k inner) t n us) (λ t n us. chain (d.sum_turn keeping k other) t n us)
      (term_image s ts)
      (λ t n us. chain_image cap (d.sum_turn plain k inner) (d.sum_turn keeping k other)
      (λ v m vs. turn_if_image cap (eats plus vs) _ _ _ _
      (ap Go (joins_image (d.term plain k inner) (d.term keeping k other) term_image (node.Arith Add) (two_caps (node.Arith Add)) (λ a b. refl) v m (behind vs)))
      (turn_if_image cap (eats minus vs) _ _ _ _
      (ap Go (joins_image (d.term plain k inner) (d.term keeping k other) term_image (node.Arith Sub) (two_caps (node.Arith Sub)) (λ a b. refl) v m (behind vs))) refl)) t n us)

  item_image : (m j : ℕ) (s : Draft) (n : ℕ) (us : List Token) → d.item_joined keeping (cap m) (cap j) (kept_of s) (cap n) us ≡ image cap (d.item_joined plain m j s n us)
  item_image m j s n us =
      ap (λ v. d.with_next keeping v (node.Either (cap j) (cap (length s.read.nodes))) us)
      (node_kept s (node.Compare cmp.Eq m n) (node.Compare cmp.Eq (cap m) (cap n)) (two_caps (node.Compare cmp.Eq) m n) refl)
      ∙ with_next_image (plain.node s (node.Compare cmp.Eq m n)) (node.Either j (length s.read.nodes)) (node.Either (cap j) (cap (length s.read.nodes))) us
      (two_caps node.Either j (length s.read.nodes)) refl

  items_image : (m : ℕ) (s : Draft) (ts : List Token) → d.items keeping k other (cap m) (kept_of s) ts ≡ image cap (d.items plain k inner m s ts)
  unfolding d.items
  items_image m s ts =
      then_image cap cap (d.joins keeping (d.sum keeping k other) (node.Compare cmp.Eq) (kept_of s) (cap m) ts) (d.joins plain (d.sum plain k inner) (node.Compare cmp.Eq) s m ts)
      (λ t n us. chain (d.items_turn plain k inner m) t n us) (λ t n us. chain (d.items_turn keeping k other (cap m)) t n us)
      (joins_image (d.sum plain k inner) (d.sum keeping k other) sum_image (node.Compare cmp.Eq) (two_caps (node.Compare cmp.Eq)) (λ a b. refl) s m ts)
      (λ t n us. chain_image cap (d.items_turn plain k inner m) (d.items_turn keeping k other (cap m))
      (λ v j vs. turn_if_image cap (eats comma vs) _ _ _ _
      (ap Go (then_image cap cap (d.sum keeping k other (kept_of v) (behind vs)) (d.sum plain k inner v (behind vs)) (d.item_joined plain m j) (d.item_joined keeping (cap m) (cap j)) (sum_image v (behind vs))
      (λ u n ws. item_image m j u n ws))) refl) t n us)

  in_image : (s : Draft) (m : ℕ) (ts : List Token) → d.in_list keeping k other (kept_of s) (cap m) ts ≡ image cap (d.in_list plain k inner s m ts)
  in_image s m ts =
      after_image cap open_sign ts (λ us. closed (d.items plain k inner m s us)) (λ us. closed (d.items keeping k other (cap m) (kept_of s) us))
      (λ us. closed_image cap _ _ (items_image m s us))

  ends_image : (m g : ℕ) (s : Draft) (n : ℕ) (us : List Token) → d.both_ends keeping (cap m) (cap g) (kept_of s) (cap n) us ≡ image cap (d.both_ends plain m g s n us)
  ends_image m g s n us =
      ap (λ v. d.with_next keeping v (node.Both (cap g) (cap (length s.read.nodes))) us)
      (node_kept s (node.Compare cmp.Le m n) (node.Compare cmp.Le (cap m) (cap n)) (two_caps (node.Compare cmp.Le) m n) refl)
      ∙ with_next_image (plain.node s (node.Compare cmp.Le m n)) (node.Both g (length s.read.nodes)) (node.Both (cap g) (cap (length s.read.nodes))) us
      (two_caps node.Both g (length s.read.nodes)) refl

  upper_image : (m : ℕ) (s : Draft) (a : ℕ) (us : List Token) → d.upper_end keeping k other (cap m) (kept_of s) (cap a) us ≡ image cap (d.upper_end plain k inner m s a us)
  upper_image m s a us =
      after_image cap (d.key (codes "and")) us
      (λ vs. and_then (d.sum plain k inner (plain.node s (node.Compare cmp.Ge m a)) vs) (d.both_ends plain m (length s.read.nodes)))
      (λ vs. and_then (d.sum keeping k other (keeping.node (kept_of s) (node.Compare cmp.Ge (cap m) (cap a))) vs) (d.both_ends keeping (cap m) (cap (length s.read.nodes))))
      (λ vs. then_image cap cap (d.sum keeping k other (keeping.node (kept_of s) (node.Compare cmp.Ge (cap m) (cap a))) vs) (d.sum plain k inner (plain.node s (node.Compare cmp.Ge m a)) vs)
      (d.both_ends plain m (length s.read.nodes)) (d.both_ends keeping (cap m) (cap (length s.read.nodes)))
      (ap (λ v. d.sum keeping k other v vs) (node_kept s (node.Compare cmp.Ge m a) (node.Compare cmp.Ge (cap m) (cap a)) (two_caps (node.Compare cmp.Ge) m a) refl)
      ∙ sum_image (plain.node s (node.Compare cmp.Ge m a)) vs)
      (λ u n ws. ends_image m (length s.read.nodes) u n ws))

  between_image : (s : Draft) (m : ℕ) (ts : List Token) → d.between keeping k other (kept_of s) (cap m) ts ≡ image cap (d.between plain k inner s m ts)
  between_image s m ts =
      then_image cap cap (d.sum keeping k other (kept_of s) ts) (d.sum plain k inner s ts) (d.upper_end plain k inner m) (d.upper_end keeping k other (cap m)) (sum_image s ts)
      (λ t a us. upper_image m t a us)

  denied_image : (s : Draft) (n : ℕ) (us : List Token) → d.denied keeping (kept_of s) (cap n) us ≡ image cap (d.denied plain s n us)
  denied_image s n us = with_next_image s (node.Not n) (node.Not (cap n)) us (ap node.Not (cap_cap n)) refl

  not_tail_image : (s : Draft) (m : ℕ) (ts : List Token) → d.not_tail keeping k other (kept_of s) (cap m) ts ≡ image cap (d.not_tail plain k inner s m ts)
  not_tail_image s m ts =
      if_image cap (eats (d.key (codes "between")) ts) _ _ _ _ (then_image cap cap _ _ (d.denied plain) (d.denied keeping) (between_image s m (behind ts)) denied_image)
      (if_image cap (eats (d.key (codes "in")) ts) _ _ _ _ (then_image cap cap _ _ (d.denied plain) (d.denied keeping) (in_image s m (behind ts)) denied_image) refl)

  is_tail_image : (s : Draft) (m : ℕ) (ts : List Token) → d.is_tail keeping (kept_of s) (cap m) ts ≡ image cap (d.is_tail plain s m ts)
  is_tail_image s m ts =
      if_image cap (eats (d.key (codes "not")) ts) _ _ _ _
      (after_image cap (d.key (codes "null")) (behind ts) (λ us. d.with_next plain s (node.NotNull m) us) (λ us. d.with_next keeping (kept_of s) (node.NotNull (cap m)) us)
      (λ us. with_next_image s (node.NotNull m) (node.NotNull (cap m)) us (ap node.NotNull (cap_cap m)) refl))
      (after_image cap (d.key (codes "null")) ts (λ us. d.with_next plain s (node.IsNull m) us) (λ us. d.with_next keeping (kept_of s) (node.IsNull (cap m)) us)
      (λ us. with_next_image s (node.IsNull m) (node.IsNull (cap m)) us (ap node.IsNull (cap_cap m)) refl))

  word_tail_image : (s : Draft) (m : ℕ) (ts : List Token) → d.word_tail keeping k other (kept_of s) (cap m) ts ≡ image cap (d.word_tail plain k inner s m ts)
  word_tail_image s m ts =
      if_image cap (eats (d.key (codes "is")) ts) _ _ _ _ (is_tail_image s m (behind ts))
      (if_image cap (eats (d.key (codes "not")) ts) _ _ _ _ (not_tail_image s m (behind ts))
      (if_image cap (eats (d.key (codes "between")) ts) _ _ _ _ (between_image s m (behind ts))
      (if_image cap (eats (d.key (codes "in")) ts) _ _ _ _ (in_image s m (behind ts)) refl)))

  tail_image : (o : Option Cmp) (s : Draft) (m : ℕ) (ts : List Token) → d.tail keeping k other o (kept_of s) (cap m) ts ≡ image cap (d.tail plain k inner o s m ts)
  tail_image None s m ts = word_tail_image s m ts
  tail_image (Some o) s m ts = joins_image (d.sum plain k inner) (d.sum keeping k other) sum_image (node.Compare o) (two_caps (node.Compare o)) (λ a b. refl) s m (behind ts)

  pred_image : (s : Draft) (ts : List Token) → d.pred keeping k other (kept_of s) ts ≡ image cap (d.pred plain k inner s ts)
  unfolding d.pred
  pred_image s ts =
      then_image cap cap (d.sum keeping k other (kept_of s) ts) (d.sum plain k inner s ts) (λ t m us. d.tail plain k inner (d.compares us) t m us) (λ t m us. d.tail keeping k other (d.compares us) t m us)
      (sum_image s ts) (λ t m us. tail_image (d.compares us) t m us)

  negation_image : (s : Draft) (ts : List Token) → d.negation keeping k other (kept_of s) ts ≡ image cap (d.negation plain k inner s ts)
  unfolding d.negation
  negation_image s ts =
      if_image cap (eats (d.key (codes "not")) ts) _ _ _ _ (then_image cap cap _ _ (d.denied plain) (d.denied keeping) (pred_image s (behind ts)) denied_image) (pred_image s ts)

  conjunction_image : (s : Draft) (ts : List Token) → d.conjunction keeping k other (kept_of s) ts ≡ image cap (d.conjunction plain k inner s ts)
  unfolding d.conjunction
  conjunction_image s ts =
      then_image cap cap (d.negation keeping k other (kept_of s) ts) (d.negation plain k inner s ts) (λ t n us. chain (d.and_turn plain k inner) t n us) (λ t n us. chain (d.and_turn keeping k other) t n us)
      (negation_image s ts)
      (λ t n us. chain_image cap (d.and_turn plain k inner) (d.and_turn keeping k other)
      (λ v m vs. turn_if_image cap (eats (d.key (codes "and")) vs) _ _ _ _
      (ap Go (joins_image (d.negation plain k inner) (d.negation keeping k other) negation_image node.Both (two_caps node.Both) (λ a b. refl) v m (behind vs))) refl) t n us)

  pub disjunction_image : (s : Draft) (ts : List Token) → d.disjunction keeping k other (kept_of s) ts ≡ image cap (d.disjunction plain k inner s ts)
  unfolding d.disjunction
  disjunction_image s ts =
      then_image cap cap (d.conjunction keeping k other (kept_of s) ts) (d.conjunction plain k inner s ts) (λ t n us. chain (d.or_turn plain k inner) t n us) (λ t n us. chain (d.or_turn keeping k other) t n us)
      (conjunction_image s ts)
      (λ t n us. chain_image cap (d.or_turn plain k inner) (d.or_turn keeping k other)
      (λ v m vs. turn_if_image cap (eats (d.key (codes "or")) vs) _ _ _ _
      (ap Go (joins_image (d.conjunction plain k inner) (d.conjunction keeping k other) conjunction_image node.Either (two_caps node.Either) (λ a b. refl) v m (behind vs))) refl) t n us)

pub inside_image : (k : ℕ) (s : Draft) (ts : List Token) → d.inside keeping k (kept_of s) ts ≡ image cap (d.inside plain k s ts)
unfolding d.inside
inside_image zero s ts = refl
inside_image (suc k) s ts = disjunction_image k (d.inside plain k) (d.inside keeping k) (inside_image k) s ts

pub whole_image : (s : Draft) (ts : List Token) → d.whole keeping (kept_of s) ts ≡ image cap (d.whole plain s ts)
whole_image s ts = inside_image 33 s ts
