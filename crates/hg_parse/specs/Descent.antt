-- The descent over an expression: one function for each rule of the grammar, the tightest first. `inner` reads
-- what stands in parentheses, and `d` says how deep these may still nest.
use Rattle.std.specs.Prelude.{ℕ, zero, suc, Bool, true, false, List, [], ◌∷◌, Option, Some, None, ◌&&◌, pos, codes, if◌then◌else◌}
use Rattle.hg_model.specs.Grammar.{open_sign, close_sign, comma, dot, star, plus, minus}
use Rattle.hg_model.specs.Tables.{same_name}
use Rattle.hg_model.specs.Tokens.{Token, Word, Digits, Letters, Sign, is_reserved, number_of}
use Rattle.hg_model.specs.declared.trees.Cmp.{Cmp}
use Rattle.hg_model.specs.declared.trees.Cmp.TheVariants as cmp
use Rattle.hg_model.specs.declared.trees.ColRef.{ColRef}
use Rattle.hg_model.specs.declared.trees.Fold.{Fold}
use Rattle.hg_model.specs.declared.trees.Fold.TheVariants as of
use Rattle.hg_model.specs.declared.trees.Literal.TheVariants as literal
use Rattle.hg_model.specs.declared.trees.Node.{Node}
use Rattle.hg_model.specs.declared.trees.Node.TheVariants as node
use Rattle.hg_model.specs.declared.trees.Op.TheVariants.{Add, Sub, Mul}
use Rattle.hg_parse.specs.Building.{Builder}
use Rattle.hg_parse.specs.Steps.{Answer, got, and_then, eats, behind, after, closed, Turn, Stop, Go, chain}

abbrev pub key : List ℕ → Token
key w = Word w

-- name
abbrev pub name : {S : Type 0} → S → List Token → Answer S (List ℕ)
name s (Word w ∷ ts) = if is_reserved w then None else got s w ts
name s _ = None

abbrev pub named : List ℕ → ColRef
named c = record { table = None; name = c }

abbrev pub named_of : List ℕ → List ℕ → ColRef
named_of t c = record { table = Some t; name = c }

-- col = name ["." name]
abbrev pub column_of : {S : Type 0} → S → List ℕ → List Token → Answer S ColRef
column_of s c ts = if eats dot ts then and_then (name s (behind ts)) (λ s d us. got s (named_of c d) us) else got s (named c) ts

abbrev pub column : {S : Type 0} → S → List Token → Answer S ColRef
column s ts = and_then (name s ts) (λ s c us. column_of s c us)

abbrev pub cmp_of : List ℕ → Option Cmp
cmp_of s = if same_name s (61 ∷ []) then Some cmp.Eq
    else if same_name s (60 ∷ 62 ∷ []) then Some cmp.Ne
    else if same_name s (33 ∷ 61 ∷ []) then Some cmp.Ne
    else if same_name s (60 ∷ []) then Some cmp.Lt
    else if same_name s (60 ∷ 61 ∷ []) then Some cmp.Le
    else if same_name s (62 ∷ []) then Some cmp.Gt
    else if same_name s (62 ∷ 61 ∷ []) then Some cmp.Ge
    else None

-- the comparison that the tokens begin with
abbrev pub compares : List Token → Option Cmp
compares (Sign s ∷ ts) = cmp_of s
compares _ = None

abbrev pub fold_of : List ℕ → Option Fold
fold_of w = if same_name w (codes "count") then Some of.Count
    else if same_name w (codes "sum") then Some of.Sum
    else if same_name w (codes "min") then Some of.Min
    else if same_name w (codes "max") then Some of.Max
    else None

abbrev pub is_count : Fold → Bool
is_count of.Count = true
is_count _ = false

-- where one more parenthesis may open
abbrev pub deeper : {R : Type 0} → ℕ → Option R → Option R
deeper zero a = None
deeper (suc d) a = a

module _ {S : Type 0} (b : Builder S) where
  abbrev pub with_next : S → Node → List Token → Answer S ℕ
  with_next s n ts = got (b.node s n) (b.next s) ts

  -- behind `(` of an aggregate
  abbrev pub aggregate : (S → List Token → Answer S ℕ) → S → Fold → List Token → Answer S ℕ
  aggregate inner s f ts =
      if is_count f && eats star ts then after close_sign (behind ts) (λ us. with_next s (node.Aggregate of.CountRows None) us)
      else and_then (closed (inner s ts)) (λ t n us. with_next t (node.Aggregate f (Some n)) us)

  abbrev pub fold_at : ℕ → (S → List Token → Answer S ℕ) → S → Option Fold → List Token → Answer S ℕ
  fold_at d inner s None ts = None
  fold_at d inner s (Some f) ts = after open_sign ts (λ us. deeper d (aggregate inner s f us))

  abbrev pub reserved : ℕ → (S → List Token → Answer S ℕ) → S → List ℕ → List Token → Answer S ℕ
  reserved d inner s w ts = if same_name w (codes "null") then with_next s (node.Lit literal.Null) ts else fold_at d inner s (fold_of w) ts

  -- prim = number | text | NULL | col | agg | "(" or ")"
  unfoldable pub prim : ℕ → (S → List Token → Answer S ℕ) → S → List Token → Answer S ℕ
  prim d inner s [] = None
  prim d inner s (Word w ∷ ts) =
      if is_reserved w then reserved d inner s w ts else and_then (column_of s w ts) (λ t c us. with_next t (node.Col c) us)
  prim d inner s (Digits ds ∷ ts) = with_next s (node.Lit (literal.Int (pos (number_of ds)))) ts
  prim d inner s (Letters t ∷ ts) = got (b.text s t) (b.next s) ts
  prim d inner s (Sign w ∷ ts) = if same_name w (40 ∷ []) then deeper d (closed (inner s ts)) else None

  -- factor = ["+" | "-"] prim
  unfoldable pub factor : ℕ → (S → List Token → Answer S ℕ) → S → List Token → Answer S ℕ
  factor d inner s ts =
      if eats plus ts then prim d inner s (behind ts)
      else if eats minus ts then and_then (prim d inner s (behind ts)) (λ t n us. with_next t (node.Neg n) us)
      else prim d inner s ts

  -- an operator that joins two operands
  abbrev pub joins : (S → List Token → Answer S ℕ) → (ℕ → ℕ → Node) → S → ℕ → List Token → Answer S ℕ
  joins operand make s m ts = and_then (operand s ts) (λ t n us. with_next t (make m n) us)

  abbrev pub term_turn : ℕ → (S → List Token → Answer S ℕ) → S → ℕ → List Token → Turn S ℕ
  term_turn d inner s m ts = if eats star ts then Go (joins (factor d inner) (node.Arith Mul) s m (behind ts)) else Stop

  -- term = factor {"*" factor}
  unfoldable pub term : ℕ → (S → List Token → Answer S ℕ) → S → List Token → Answer S ℕ
  term d inner s ts = and_then (factor d inner s ts) (λ t n us. chain (term_turn d inner) t n us)

  abbrev pub sum_turn : ℕ → (S → List Token → Answer S ℕ) → S → ℕ → List Token → Turn S ℕ
  sum_turn d inner s m ts =
      if eats plus ts then Go (joins (term d inner) (node.Arith Add) s m (behind ts))
      else if eats minus ts then Go (joins (term d inner) (node.Arith Sub) s m (behind ts))
      else Stop

  -- sum = term {("+" | "-") term}
  unfoldable pub sum : ℕ → (S → List Token → Answer S ℕ) → S → List Token → Answer S ℕ
  sum d inner s ts = and_then (term d inner s ts) (λ t n us. chain (sum_turn d inner) t n us)

  -- the items of IN behind the left operand m: an equality each, joined by OR
  abbrev pub item_joined : ℕ → ℕ → S → ℕ → List Token → Answer S ℕ
  item_joined m k s n us = let t = b.node s (node.Compare cmp.Eq m n) in with_next t (node.Either k (b.next s)) us

  abbrev pub items_turn : ℕ → (S → List Token → Answer S ℕ) → ℕ → S → ℕ → List Token → Turn S ℕ
  items_turn d inner m s k ts = if eats comma ts then Go (and_then (sum d inner s (behind ts)) (item_joined m k)) else Stop

  unfoldable pub items : ℕ → (S → List Token → Answer S ℕ) → ℕ → S → List Token → Answer S ℕ
  items d inner m s ts =
      and_then (joins (sum d inner) (node.Compare cmp.Eq) s m ts) (λ t n us. chain (items_turn d inner m) t n us)

  -- behind IN
  abbrev pub in_list : ℕ → (S → List Token → Answer S ℕ) → S → ℕ → List Token → Answer S ℕ
  in_list d inner s m ts = after open_sign ts (λ us. closed (items d inner m s us))

  -- behind BETWEEN
  abbrev pub both_ends : ℕ → ℕ → S → ℕ → List Token → Answer S ℕ
  both_ends m g u c ws = let v = b.node u (node.Compare cmp.Le m c) in with_next v (node.Both g (b.next u)) ws

  abbrev pub upper_end : ℕ → (S → List Token → Answer S ℕ) → ℕ → S → ℕ → List Token → Answer S ℕ
  upper_end d inner m t a us =
      after (key (codes "and")) us (λ vs. and_then (sum d inner (b.node t (node.Compare cmp.Ge m a)) vs) (both_ends m (b.next t)))

  abbrev pub between : ℕ → (S → List Token → Answer S ℕ) → S → ℕ → List Token → Answer S ℕ
  between d inner s m ts = and_then (sum d inner s ts) (upper_end d inner m)

  abbrev pub denied : S → ℕ → List Token → Answer S ℕ
  denied s n ts = with_next s (node.Not n) ts

  -- behind NOT that stands behind an operand
  abbrev pub not_tail : ℕ → (S → List Token → Answer S ℕ) → S → ℕ → List Token → Answer S ℕ
  not_tail d inner s m ts =
      if eats (key (codes "between")) ts then and_then (between d inner s m (behind ts)) denied
      else if eats (key (codes "in")) ts then and_then (in_list d inner s m (behind ts)) denied
      else None

  -- behind IS
  abbrev pub is_tail : S → ℕ → List Token → Answer S ℕ
  is_tail s m ts =
      if eats (key (codes "not")) ts then after (key (codes "null")) (behind ts) (λ us. with_next s (node.NotNull m) us)
      else after (key (codes "null")) ts (λ us. with_next s (node.IsNull m) us)

  abbrev pub word_tail : ℕ → (S → List Token → Answer S ℕ) → S → ℕ → List Token → Answer S ℕ
  word_tail d inner s m ts =
      if eats (key (codes "is")) ts then is_tail s m (behind ts)
      else if eats (key (codes "not")) ts then not_tail d inner s m (behind ts)
      else if eats (key (codes "between")) ts then between d inner s m (behind ts)
      else if eats (key (codes "in")) ts then in_list d inner s m (behind ts)
      else got s m ts

  abbrev pub tail : ℕ → (S → List Token → Answer S ℕ) → Option Cmp → S → ℕ → List Token → Answer S ℕ
  tail d inner None s m ts = word_tail d inner s m ts
  tail d inner (Some o) s m ts = joins (sum d inner) (node.Compare o) s m (behind ts)

  -- pred = sum [cmp sum | IS [NOT] NULL | [NOT] BETWEEN sum AND sum | [NOT] IN "(" sum {"," sum} ")"]
  unfoldable pub pred : ℕ → (S → List Token → Answer S ℕ) → S → List Token → Answer S ℕ
  pred d inner s ts = and_then (sum d inner s ts) (λ t m us. tail d inner (compares us) t m us)

  -- not = [NOT] pred
  unfoldable pub negation : ℕ → (S → List Token → Answer S ℕ) → S → List Token → Answer S ℕ
  negation d inner s ts =
      if eats (key (codes "not")) ts then and_then (pred d inner s (behind ts)) denied else pred d inner s ts

  abbrev pub and_turn : ℕ → (S → List Token → Answer S ℕ) → S → ℕ → List Token → Turn S ℕ
  and_turn d inner s m ts = if eats (key (codes "and")) ts then Go (joins (negation d inner) node.Both s m (behind ts)) else Stop

  -- and = not {AND not}
  unfoldable pub conjunction : ℕ → (S → List Token → Answer S ℕ) → S → List Token → Answer S ℕ
  conjunction d inner s ts = and_then (negation d inner s ts) (λ t n us. chain (and_turn d inner) t n us)

  abbrev pub or_turn : ℕ → (S → List Token → Answer S ℕ) → S → ℕ → List Token → Turn S ℕ
  or_turn d inner s m ts = if eats (key (codes "or")) ts then Go (joins (conjunction d inner) node.Either s m (behind ts)) else Stop

  -- or = and {OR and}
  unfoldable pub disjunction : ℕ → (S → List Token → Answer S ℕ) → S → List Token → Answer S ℕ
  disjunction d inner s ts = and_then (conjunction d inner s ts) (λ t n us. chain (or_turn d inner) t n us)

  -- what may stand in parentheses, where d more may open
  unfoldable pub inside : ℕ → S → List Token → Answer S ℕ
  inside zero s ts = None
  inside (suc d) s ts = disjunction d (inside d) s ts

  -- an expression with no parenthesis open
  abbrev pub whole : S → List Token → Answer S ℕ
  whole s ts = inside 33 s ts
