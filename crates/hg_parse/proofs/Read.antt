-- What the descent reads is an expression of the grammar.
use Rattle.std.proofs.Common.{◌≡◌, ℕ, zero, suc, ◌+◌, true, List, [], ◌∷◌, ◌++◌, Option, Some, None, refl, sym, ap, ◌∙◌, subst}
use Rattle.std.specs.Prelude.{codes, ◌&&◌}
use Rattle.std.proofs.lemmas.Bool.{and_parts}
use Rattle.std.specs.Cmp.Lexicographic.{same_text}
use Rattle.hg_model.specs.Grammar.{Read as ReadSoFar, with_node, next, IsName, open_sign, close_sign, comma, dot, star, plus, minus, IsColumn, bare, dotted, IsCmp, eq, ne, ne_bang, lt, le, gt, ge, IsFold, count, sum, min, max, Rule, Or, And, Not, Pred, Sum, Term, Factor, Prim, Items, Expression, or_one, or_more, and_one, and_more, not_none, not_one, pred_sum, pred_cmp, pred_null, pred_not_null, pred_between, pred_not_between, pred_in, pred_not_in, sum_one, sum_plus, sum_minus, term_one, term_times, factor_prim, factor_plus, factor_minus, prim_number, prim_text, prim_null, prim_column, prim_nested, agg_rows, agg_one, items_one, items_more}
use Rattle.hg_model.specs.Tables.{same_name}
use Rattle.hg_model.specs.Tokens.{Token, Word, Digits, Letters, Sign, is_reserved}
use Rattle.hg_model.specs.declared.trees.Cmp.{Cmp}
use Rattle.hg_model.specs.declared.trees.Cmp.TheVariants as cmp
use Rattle.hg_model.specs.declared.trees.ColRef.{ColRef}
use Rattle.hg_model.specs.declared.trees.Fold.{Fold}
use Rattle.hg_model.specs.declared.trees.Fold.TheVariants as of
use Rattle.hg_model.specs.declared.trees.Node.{Node}
use Rattle.hg_model.specs.declared.trees.Node.TheVariants as node
use Rattle.hg_model.specs.declared.trees.Op.TheVariants.{Add, Sub, Mul}
use Rattle.hg_parse.specs.Building.{Draft, plain}
use Rattle.hg_parse.specs.Descent as d
use Rattle.hg_parse.specs.Steps.{Answer, got, and_then, eats, behind, after, closed, chain}
use Rattle.hg_parse.proofs.Found.{at, inner, next_with, add_twice}
use Rattle.hg_parse.proofs.OnAnswers.{OnOption, OnAnswer, OnTurn, on_then, on_each, on_if, on_eats, on_after, on_chain, eats_is, joined, put_first}

-- a front of the tokens is an expression, and the rest is left
pub record ReadBy (l : Rule) (k : ℕ) (g : Draft) (ts : List Token) (s : Draft) (n : ℕ) (rest : List Token) : Type 0 where
  pub same : s ≡ at g s.read
  pub front : List Token
  pub parts : ts ≡ front ++ rest
  pub reads : Expression l k g.read front s.read n

-- a state behind a state behind a state
pub later : {s t : Draft} (g : Draft) → s ≡ at g s.read → t ≡ at s t.read → t ≡ at g t.read
later {t} g e f = f ∙ ap (λ x. at x t.read) e

noded : {t : Draft} (g : Draft) (x : ReadSoFar) → t ≡ at g t.read → at t x ≡ at g x
noded g x e = ap (λ y. at y x) e

-- in parentheses
abbrev pub Inner : ℕ → Draft → List Token → Draft → ℕ → List Token → Type 0
Inner zero g ts s n rest = ⊥
Inner (suc k) g ts s n rest = ReadBy Or k g ts s n rest

-- what `)` closes
pub record Closed {X : Type 0} (P : Draft → X → List Token → Type 0) (s : Draft) (x : X) (rest : List Token) : Type 0 where
  pub inside : List Token
  pub holds : P s x inside
  pub parts : inside ≡ close_sign ∷ rest

pub on_closed : {X : Type 0} (P : Draft → X → List Token → Type 0) (a : Answer Draft X) → OnAnswer a P → OnAnswer (closed a) (Closed P)
on_closed P a h =
    on_then P (Closed P) a (λ s x ts. after close_sign ts (λ us. got s x us)) h
    (λ s x us p. on_after (Closed P) close_sign us (λ vs. got s x vs) (λ e. record { inside = us; holds = p; parts = e }))

-- names
pub record Named {S : Type 0} (g : S) (ts : List Token) (s : S) (c : List ℕ) (rest : List Token) : Type 0 where
  pub same : s ≡ g
  pub parts : ts ≡ Word c ∷ rest
  pub name : IsName c

pub name_read : {S : Type 0} (g : S) (ts : List Token) → OnAnswer (d.name g ts) (Named g ts)
name_read g [] = tt
name_read g (Word w ∷ ts) = on_if (λ a. OnAnswer a (Named g (Word w ∷ ts))) (is_reserved w) None (got g w ts) (λ e. tt) (λ e. record { same = refl; parts = refl; name = e })
name_read g (Digits w ∷ ts) = tt
name_read g (Letters w ∷ ts) = tt
name_read g (Sign w ∷ ts) = tt

pub record ColumnRead {S : Type 0} (g : S) (ts : List Token) (s : S) (c : ColRef) (rest : List Token) : Type 0 where
  pub same : s ≡ g
  pub front : List Token
  pub parts : ts ≡ front ++ rest
  pub reads : IsColumn front c

column_of_read : {S : Type 0} (g s : S) (ts : List Token) (c : List ℕ) (us : List Token) → Named g ts s c us → OnAnswer (d.column_of s c us) (ColumnRead g ts)
column_of_read g s ts c us h =
    on_eats (λ a. OnAnswer a (ColumnRead g ts)) dot us _ _
    (λ e. on_then (Named s (behind us)) (ColumnRead g ts) (d.name s (behind us)) (λ s x vs. got s (d.named_of c x) vs) (name_read s (behind us))
    (λ t x vs n. record {
      same = n.same ∙ h.same;
      front = Word c ∷ dot ∷ Word x ∷ [];
      parts = h.parts ∙ ap (λ l. Word c ∷ l) (e ∙ ap (λ l. dot ∷ l) n.parts);
      reads = dotted c x h.name n.name;
    }))
    (record { same = h.same; front = Word c ∷ []; parts = h.parts; reads = bare c h.name })

pub column_read : {S : Type 0} (g : S) (ts : List Token) → OnAnswer (d.column g ts) (ColumnRead g ts)
column_read g ts = on_then (Named g ts) (ColumnRead g ts) (d.name g ts) d.column_of (name_read g ts) (λ s c us h. column_of_read g s ts c us h)

-- which aggregate a word is
fold_is : (w : List ℕ) → OnOption (d.fold_of w) (IsFold (Word w))
fold_is w =
    let P : Option Fold → Type 0 = λ o. OnOption o (IsFold (Word w)) in
    on_if P (same_name w (codes "count")) _ _ (λ e. subst (λ v. IsFold (Word v) of.Count) (sym (same_text w (codes "count") (sym e))) count)
    (λ x. on_if P (same_name w (codes "sum")) _ _ (λ e. subst (λ v. IsFold (Word v) of.Sum) (sym (same_text w (codes "sum") (sym e))) sum)
    (λ y. on_if P (same_name w (codes "min")) _ _ (λ e. subst (λ v. IsFold (Word v) of.Min) (sym (same_text w (codes "min") (sym e))) min)
    (λ z. on_if P (same_name w (codes "max")) _ _ (λ e. subst (λ v. IsFold (Word v) of.Max) (sym (same_text w (codes "max") (sym e))) max) (λ u. tt))))

count_is : {t : Token} {f : Fold} → IsFold t f → d.is_count f ≡ true → (t ≡ Word (codes "count"))
count_is count e = refl
count_is sum e = absurd (cc)
count_is min e = absurd (cc)
count_is max e = absurd (cc)

-- which comparison the tokens begin with
pub record CmpRead (ts : List Token) (o : Cmp) : Type 0 where
  pub sign : Token
  pub parts : ts ≡ sign ∷ behind ts
  pub is : IsCmp sign o

sign_is : (w : List ℕ) → OnOption (d.cmp_of w) (IsCmp (Sign w))
sign_is w =
    let P : Option Cmp → Type 0 = λ o. OnOption o (IsCmp (Sign w)) in
    let text : (v : List ℕ) → same_name w v ≡ true → v ≡ w = λ v e. sym (same_text w v (sym e)) in
    on_if P (same_name w (61 ∷ [])) _ _ (λ e. subst (λ v. IsCmp (Sign v) cmp.Eq) (text _ e) eq)
    (λ x1. on_if P (same_name w (60 ∷ 62 ∷ [])) _ _ (λ e. subst (λ v. IsCmp (Sign v) cmp.Ne) (text _ e) ne)
    (λ x2. on_if P (same_name w (33 ∷ 61 ∷ [])) _ _ (λ e. subst (λ v. IsCmp (Sign v) cmp.Ne) (text _ e) ne_bang)
    (λ x3. on_if P (same_name w (60 ∷ [])) _ _ (λ e. subst (λ v. IsCmp (Sign v) cmp.Lt) (text _ e) lt)
    (λ x4. on_if P (same_name w (60 ∷ 61 ∷ [])) _ _ (λ e. subst (λ v. IsCmp (Sign v) cmp.Le) (text _ e) le)
    (λ x5. on_if P (same_name w (62 ∷ [])) _ _ (λ e. subst (λ v. IsCmp (Sign v) cmp.Gt) (text _ e) gt)
    (λ x6. on_if P (same_name w (62 ∷ 61 ∷ [])) _ _ (λ e. subst (λ v. IsCmp (Sign v) cmp.Ge) (text _ e) ge) (λ x7. tt)))))))

with_rest : (w : List ℕ) (ts : List Token) (o : Option Cmp) → OnOption o (IsCmp (Sign w)) → OnOption o (CmpRead (Sign w ∷ ts))
with_rest w ts None h = tt
with_rest w ts (Some o) h = record { sign = Sign w; parts = refl; is = h }

compares_read : (ts : List Token) → OnOption (d.compares ts) (CmpRead ts)
compares_read [] = tt
compares_read (Word w ∷ ts) = tt
compares_read (Digits w ∷ ts) = tt
compares_read (Letters w ∷ ts) = tt
compares_read (Sign w ∷ ts) = with_rest w ts (d.cmp_of w) (sign_is w)

-- the list of IN with its parentheses
pub record ListRead (k m : ℕ) (g : Draft) (ts : List Token) (s : Draft) (n : ℕ) (rest : List Token) : Type 0 where
  pub same : s ≡ at g s.read
  pub front : List Token
  pub parts : ts ≡ (open_sign ∷ (front ++ close_sign ∷ [])) ++ rest
  pub reads : Expression (Items m) k g.read front s.read n

-- the ends of BETWEEN
pub record EndsRead (k m : ℕ) (g : Draft) (ts : List Token) (s : Draft) (n : ℕ) (rest : List Token) : Type 0 where
  pub middle : ReadSoFar
  pub last : ReadSoFar
  pub lower : ℕ
  pub upper : ℕ
  pub low : List Token
  pub high : List Token
  pub same : s ≡ at g s.read
  pub state : s.read ≡ with_node (with_node last (node.Compare cmp.Le m upper)) (node.Both (next middle) (next last))
  pub index : n ≡ next last + 1
  pub parts : ts ≡ (low ++ d.key (codes "and") ∷ high) ++ rest
  pub first : Expression Sum k g.read low middle lower
  pub second : Expression Sum k (with_node middle (node.Compare cmp.Ge m lower)) high last upper

module _ (k : ℕ) (r s : ReadSoFar) (ts : List Token) (m : ℕ) (now : ReadSoFar) (n : ℕ) (t u : ReadSoFar) (us vs : List Token) (a b : ℕ)
    (state : now ≡ with_node (with_node u (node.Compare cmp.Le m b)) (node.Both (next t) (next u))) (index : n ≡ next u + 1) where
  between_so : Expression Sum k r ts s m → Expression Sum k s us t a → Expression Sum k (with_node t (node.Compare cmp.Ge m a)) vs u b
      → Expression Pred k r (ts ++ d.key (codes "between") ∷ (us ++ d.key (codes "and") ∷ vs)) now n
  between_so x y z =
      let ts' : List Token = ts ++ d.key (codes "between") ∷ (us ++ d.key (codes "and") ∷ vs) in
      subst (λ q. Expression Pred k r ts' q n) (sym state)
      (subst (λ i. Expression Pred k r ts' (with_node (with_node u (node.Compare cmp.Le m b)) (node.Both (next t) (next u))) i) (sym index) (pred_between x y z))

  not_between_so : Expression Sum k r ts s m → Expression Sum k s us t a → Expression Sum k (with_node t (node.Compare cmp.Ge m a)) vs u b
      → Expression Pred k r (ts ++ d.key (codes "not") ∷ d.key (codes "between") ∷ (us ++ d.key (codes "and") ∷ vs)) (with_node now (node.Not n)) (next now)
  not_between_so x y z =
      let ts' : List Token = ts ++ d.key (codes "not") ∷ d.key (codes "between") ∷ (us ++ d.key (codes "and") ∷ vs) in
      let v : ReadSoFar = with_node u (node.Compare cmp.Le m b) in
      let w : ReadSoFar = with_node v (node.Both (next t) (next u)) in
      let two : next w ≡ next u + 2 = next_with v (node.Both (next t) (next u)) ∙ ap (λ i. i + 1) (next_with u (node.Compare cmp.Le m b)) ∙ add_twice (next u) in
      subst (λ q. Expression Pred k r ts' (with_node q (node.Not n)) (next q)) (sym state)
      (subst (λ i. Expression Pred k r ts' (with_node w (node.Not i)) (next w)) (sym index)
      (subst (λ i. Expression Pred k r ts' (with_node w (node.Not (next u + 1))) i) (sym two) (pred_not_between x y z)))

module _ (k : ℕ) (nested : (g : Draft) (ts : List Token) → OnAnswer (inner k g ts) (Inner k g ts)) where
  -- prim
  aggregate_read : (j : ℕ) (g : Draft) (w : List ℕ) (ts us : List Token) (f : Fold) → IsFold (Word w) f → ts ≡ open_sign ∷ us
      → ((h : Draft) (vs : List Token) → OnAnswer (inner k h vs) (ReadBy Or j h vs))
      → OnAnswer (d.aggregate plain (inner k) g f us) (ReadBy Prim (suc j) g (Word w ∷ ts))
  aggregate_read j g w ts us f i e inside =
      on_if (λ a. OnAnswer a (ReadBy Prim (suc j) g (Word w ∷ ts))) (d.is_count f && eats star us) _ _
      (λ b. let both = and_parts (d.is_count f) (eats star us) b in
      on_after (ReadBy Prim (suc j) g (Word w ∷ ts)) close_sign (behind us) (λ vs. d.with_next plain g (node.Aggregate of.CountRows None) vs)
      (λ c. record {
        same = refl;
        front = Word (codes "count") ∷ open_sign ∷ star ∷ close_sign ∷ [];
        parts = ap (λ t. t ∷ ts) (count_is i both.0) ∙ ap (λ l. Word (codes "count") ∷ l) (e ∙ ap (λ l. open_sign ∷ l) (eats_is star us both.1 ∙ ap (λ l. star ∷ l) c));
        reads = agg_rows;
      }))
      (λ b. on_then (Closed (ReadBy Or j g us)) (ReadBy Prim (suc j) g (Word w ∷ ts)) (closed (inner k g us)) (λ t n vs. d.with_next plain t (node.Aggregate f (Some n)) vs)
      (on_closed (ReadBy Or j g us) (inner k g us) (inside g us))
      (λ t n vs c. record {
        same = noded g (with_node t.read (node.Aggregate f (Some n))) c.holds.same;
        front = Word w ∷ open_sign ∷ (c.holds.front ++ close_sign ∷ []);
        parts = ap (λ l. Word w ∷ l) (e ∙ ap (λ l. open_sign ∷ l) (joined c.holds.front [] vs c.holds.parts c.parts refl));
        reads = agg_one i c.holds.reads;
      }))

  fold_read : (g : Draft) (w : List ℕ) (ts : List Token) (o : Option Fold) → OnOption o (IsFold (Word w)) → OnAnswer (d.fold_at plain k (inner k) g o ts) (ReadBy Prim k g (Word w ∷ ts))
  fold_read g w ts None h = tt
  fold_read g w ts (Some f) h =
      on_after (ReadBy Prim k g (Word w ∷ ts)) open_sign ts (λ us. d.deeper k (d.aggregate plain (inner k) g f us)) (λ e. deep_fold k (λ x l. nested x l) refl e)
    where
      deep_fold : (m : ℕ) → ((x : Draft) (l : List Token) → OnAnswer (inner k x l) (Inner m x l)) → k ≡ m → ts ≡ open_sign ∷ behind ts
          → OnAnswer (d.deeper m (d.aggregate plain (inner k) g f (behind ts))) (ReadBy Prim m g (Word w ∷ ts))
      deep_fold zero n e l = tt
      deep_fold (suc j) n e l = aggregate_read j g w ts (behind ts) f h l n

  prim_read : (g : Draft) (ts : List Token) → OnAnswer (d.prim plain k (inner k) g ts) (ReadBy Prim k g ts)
  unfolding d.prim
  prim_read g [] = tt
  prim_read g (Word w ∷ ts) =
      let Q : Answer Draft ℕ → Type 0 = λ a. OnAnswer a (ReadBy Prim k g (Word w ∷ ts)) in
      on_if Q (is_reserved w) _ _
      (λ e. on_if Q (same_name w (codes "null")) _ _
      (λ l. record { same = refl; front = Word (codes "null") ∷ []; parts = ap (λ v. Word v ∷ ts) (same_text w (codes "null") (sym l)); reads = prim_null })
      (λ l. fold_read g w ts (d.fold_of w) (fold_is w)))
      (λ e. on_then (ColumnRead g (Word w ∷ ts)) (ReadBy Prim k g (Word w ∷ ts)) (d.column_of g w ts) (λ t c us. d.with_next plain t (node.Col c) us)
      (column_of_read g g (Word w ∷ ts) w ts (record { same = refl; parts = refl; name = e }))
      (λ t c us h. record {
        same = ap (λ x. at x (with_node t.read (node.Col c))) h.same;
        front = h.front;
        parts = h.parts;
        reads = subst (λ x. Expression Prim k g.read h.front (with_node x.read (node.Col c)) (next x.read)) (sym h.same) (prim_column h.reads);
      }))
  prim_read g (Digits ds ∷ ts) = record { same = refl; front = Digits ds ∷ []; parts = refl; reads = prim_number ds }
  prim_read g (Letters t ∷ ts) = record { same = refl; front = Letters t ∷ []; parts = refl; reads = prim_text t }
  prim_read g (Sign w ∷ ts) =
      on_if (λ a. OnAnswer a (ReadBy Prim k g (Sign w ∷ ts))) (same_name w (40 ∷ [])) _ _ (λ e. deep_prim k (λ x l. nested x l) e) (λ e. tt)
    where
      deep_prim : (m : ℕ) → ((x : Draft) (l : List Token) → OnAnswer (inner k x l) (Inner m x l)) → same_name w (40 ∷ []) ≡ true
          → OnAnswer (d.deeper m (closed (inner k g ts))) (ReadBy Prim m g (Sign w ∷ ts))
      deep_prim zero n e = tt
      deep_prim (suc j) n e =
          on_each (Closed (ReadBy Or j g ts)) (ReadBy Prim (suc j) g (Sign w ∷ ts)) (closed (inner k g ts))
          (on_closed (ReadBy Or j g ts) (inner k g ts) (n g ts))
          (λ t x vs c. record {
            same = c.holds.same;
            front = open_sign ∷ (c.holds.front ++ close_sign ∷ []);
            parts = ap (λ v. Sign v ∷ ts) (same_text w (40 ∷ []) (sym e)) ∙ ap (λ l. open_sign ∷ l) (joined c.holds.front [] vs c.holds.parts c.parts refl);
            reads = prim_nested c.holds.reads;
          })

  -- an operand between two tokens
  prim_signed : (g : Draft) (ts : List Token) → OnAnswer (d.prim plain k (inner k) g ts) (ReadBy Factor k g ts)
  prim_signed g ts =
      on_each (ReadBy Prim k g ts) (ReadBy Factor k g ts) (d.prim plain k (inner k) g ts) (prim_read g ts)
      (λ s n us h. record { same = h.same; front = h.front; parts = h.parts; reads = factor_prim h.reads })

  factor_read : (g : Draft) (ts : List Token) → OnAnswer (d.factor plain k (inner k) g ts) (ReadBy Factor k g ts)
  unfolding d.factor
  factor_read g ts =
      let Q : Answer Draft ℕ → Type 0 = λ a. OnAnswer a (ReadBy Factor k g ts) in
      on_eats Q plus ts _ _
      (λ e. on_each (ReadBy Prim k g (behind ts)) (ReadBy Factor k g ts) (d.prim plain k (inner k) g (behind ts)) (prim_read g (behind ts))
      (λ s n us h. record { same = h.same; front = plus ∷ h.front; parts = put_first h.front us e h.parts; reads = factor_plus h.reads }))
      (on_eats Q minus ts _ _
      (λ e. on_then (ReadBy Prim k g (behind ts)) (ReadBy Factor k g ts) (d.prim plain k (inner k) g (behind ts)) (λ t n us. d.with_next plain t (node.Neg n) us) (prim_read g (behind ts))
      (λ t n us h. record {
        same = noded g (with_node t.read (node.Neg n)) h.same;
        front = minus ∷ h.front;
        parts = put_first h.front us e h.parts;
        reads = factor_minus h.reads;
      }))
      (prim_signed g ts))

  -- an operator between two operands
  joins_read : (l m : Rule) (op : Token) (make : ℕ → ℕ → Node) (operand : Draft → List Token → Answer Draft ℕ)
      → ((h : Draft) (vs : List Token) → OnAnswer (operand h vs) (ReadBy m k h vs))
      → ((r s t : ReadSoFar) (ts us : List Token) (a b : ℕ) → Expression l k r ts s a → Expression m k s us t b → Expression l k r (ts ++ op ∷ us) (with_node t (make a b)) (next t))
      → (g : Draft) (ts : List Token) (s : Draft) (a : ℕ) (us : List Token) → ReadBy l k g ts s a us → us ≡ op ∷ behind us
      → OnAnswer (d.joins plain operand make s a (behind us)) (ReadBy l k g ts)
  joins_read l m op make operand reads rule g ts s a us h e =
      on_then (ReadBy m k s (behind us)) (ReadBy l k g ts) (operand s (behind us)) (λ t n vs. d.with_next plain t (make a n) vs) (reads s (behind us))
      (λ t n vs f. record {
        same = noded g (with_node t.read (make a n)) (later g h.same f.same);
        front = h.front ++ op ∷ f.front;
        parts = joined h.front f.front vs h.parts e f.parts;
        reads = rule g.read s.read t.read h.front f.front a n h.reads f.reads;
      })

  -- term
  term_read : (g : Draft) (ts : List Token) → OnAnswer (d.term plain k (inner k) g ts) (ReadBy Term k g ts)
  unfolding d.term
  term_read g ts =
      on_then (ReadBy Factor k g ts) (ReadBy Term k g ts) (d.factor plain k (inner k) g ts) (λ t n us. chain (d.term_turn plain k (inner k)) t n us) (factor_read g ts)
      (λ t n us h. on_chain (ReadBy Term k g ts) (d.term_turn plain k (inner k))
      (λ s a vs f. on_eats (λ r. OnTurn r (ReadBy Term k g ts)) star vs _ _
      (λ e. joins_read Term Factor star (node.Arith Mul) (d.factor plain k (inner k)) factor_read (λ r s t ts us a b x y. term_times x y) g ts s a vs f e) tt)
      t n us (record { same = h.same; front = h.front; parts = h.parts; reads = term_one h.reads }))

  -- sum
  sum_read : (g : Draft) (ts : List Token) → OnAnswer (d.sum plain k (inner k) g ts) (ReadBy Sum k g ts)
  unfolding d.sum
  sum_read g ts =
      on_then (ReadBy Term k g ts) (ReadBy Sum k g ts) (d.term plain k (inner k) g ts) (λ t n us. chain (d.sum_turn plain k (inner k)) t n us) (term_read g ts)
      (λ t n us h. on_chain (ReadBy Sum k g ts) (d.sum_turn plain k (inner k))
      (λ s a vs f. on_eats (λ r. OnTurn r (ReadBy Sum k g ts)) plus vs _ _
      (λ e. joins_read Sum Term plus (node.Arith Add) (d.term plain k (inner k)) term_read (λ r s t ts us a b x y. sum_plus x y) g ts s a vs f e)
      (on_eats (λ r. OnTurn r (ReadBy Sum k g ts)) minus vs _ _
      (λ e. joins_read Sum Term minus (node.Arith Sub) (d.term plain k (inner k)) term_read (λ r s t ts us a b x y. sum_minus x y) g ts s a vs f e) tt))
      t n us (record { same = h.same; front = h.front; parts = h.parts; reads = sum_one h.reads }))

  -- the items of IN
  items_step : (m : ℕ) (g : Draft) (ts : List Token) (s : Draft) (a : ℕ) (us : List Token) → ReadBy (Items m) k g ts s a us → us ≡ comma ∷ behind us
      → OnAnswer (and_then (d.sum plain k (inner k) s (behind us)) (d.item_joined plain m a)) (ReadBy (Items m) k g ts)
  items_step m g ts s a us h e =
      on_then (ReadBy Sum k s (behind us)) (ReadBy (Items m) k g ts) (d.sum plain k (inner k) s (behind us)) (d.item_joined plain m a) (sum_read s (behind us))
      (λ t n vs f.
      let v : ReadSoFar = with_node t.read (node.Compare cmp.Eq m n) in
      let w : ReadSoFar = with_node v (node.Either a (next t.read)) in
      record {
        same = noded g w (later g h.same f.same);
        front = h.front ++ comma ∷ f.front;
        parts = joined h.front f.front vs h.parts e f.parts;
        reads = subst (λ i. Expression (Items m) k g.read (h.front ++ comma ∷ f.front) w i) (sym (next_with t.read (node.Compare cmp.Eq m n))) (items_more h.reads f.reads);
      })

  items_read : (m : ℕ) (g : Draft) (ts : List Token) → OnAnswer (d.items plain k (inner k) m g ts) (ReadBy (Items m) k g ts)
  unfolding d.items
  items_read m g ts =
      on_then (ReadBy (Items m) k g ts) (ReadBy (Items m) k g ts) (d.joins plain (d.sum plain k (inner k)) (node.Compare cmp.Eq) g m ts) (λ t n us. chain (d.items_turn plain k (inner k) m) t n us)
      (on_then (ReadBy Sum k g ts) (ReadBy (Items m) k g ts) (d.sum plain k (inner k) g ts) (λ t n us. d.with_next plain t (node.Compare cmp.Eq m n) us) (sum_read g ts)
      (λ t n us h. record {
        same = noded g (with_node t.read (node.Compare cmp.Eq m n)) h.same;
        front = h.front;
        parts = h.parts;
        reads = items_one h.reads;
      }))
      (λ t n us h. on_chain (ReadBy (Items m) k g ts) (d.items_turn plain k (inner k) m)
      (λ s a vs f. on_eats (λ r. OnTurn r (ReadBy (Items m) k g ts)) comma vs _ _ (λ e. items_step m g ts s a vs f e) tt) t n us h)

  in_read : (m : ℕ) (s : Draft) (us : List Token) → OnAnswer (d.in_list plain k (inner k) s m us) (ListRead k m s us)
  in_read m s us =
      on_after (ListRead k m s us) open_sign us (λ vs. closed (d.items plain k (inner k) m s vs))
      (λ e. on_each (Closed (ReadBy (Items m) k s (behind us))) (ListRead k m s us) (closed (d.items plain k (inner k) m s (behind us)))
      (on_closed (ReadBy (Items m) k s (behind us)) (d.items plain k (inner k) m s (behind us)) (items_read m s (behind us)))
      (λ t n rest c. record {
        same = c.holds.same;
        front = c.holds.front;
        parts = put_first (c.holds.front ++ close_sign ∷ []) rest e (joined c.holds.front [] rest c.holds.parts c.parts refl);
        reads = c.holds.reads;
      }))

  -- BETWEEN
  upper_read : (m : ℕ) (s : Draft) (ts : List Token) (t : Draft) (a : ℕ) (us : List Token) → ReadBy Sum k s ts t a us
      → OnAnswer (d.upper_end plain k (inner k) m t a us) (EndsRead k m s ts)
  upper_read m s ts t a us h =
      let g : Draft = at t (with_node t.read (node.Compare cmp.Ge m a)) in
      on_after (EndsRead k m s ts) (d.key (codes "and")) us (λ vs. and_then (d.sum plain k (inner k) g vs) (d.both_ends plain m (next t.read)))
      (λ e. on_then (ReadBy Sum k g (behind us)) (EndsRead k m s ts) (d.sum plain k (inner k) g (behind us)) (d.both_ends plain m (next t.read)) (sum_read g (behind us))
      (λ u b rest f. record {
        middle = t.read;
        last = u.read;
        lower = a;
        upper = b;
        low = h.front;
        high = f.front;
        same = noded s (with_node (with_node u.read (node.Compare cmp.Le m b)) (node.Both (next t.read) (next u.read))) (f.same ∙ noded s u.read h.same);
        state = refl;
        index = next_with u.read (node.Compare cmp.Le m b);
        parts = joined h.front f.front rest h.parts e f.parts;
        first = h.reads;
        second = f.reads;
      }))

  between_read : (m : ℕ) (s : Draft) (ts : List Token) → OnAnswer (d.between plain k (inner k) s m ts) (EndsRead k m s ts)
  between_read m s ts =
      on_then (ReadBy Sum k s ts) (EndsRead k m s ts) (d.sum plain k (inner k) s ts) (d.upper_end plain k (inner k) m) (sum_read s ts) (λ t a us h. upper_read m s ts t a us h)

  -- pred
  denied_read : (g : Draft) (ts : List Token) (s : Draft) (m : ℕ) (us : List Token) → ReadBy Sum k g ts s m us → us ≡ d.key (codes "not") ∷ behind us
      → OnAnswer (d.not_tail plain k (inner k) s m (behind us)) (ReadBy Pred k g ts)
  denied_read g ts s m us h e =
      let vs : List Token = behind us in
      on_eats (λ a. OnAnswer a (ReadBy Pred k g ts)) (d.key (codes "between")) vs _ _
      (λ l. on_then (EndsRead k m s (behind vs)) (ReadBy Pred k g ts) (d.between plain k (inner k) s m (behind vs)) (d.denied plain) (between_read m s (behind vs))
      (λ t n rest b. record {
        same = noded g (with_node t.read (node.Not n)) (later g h.same b.same);
        front = h.front ++ d.key (codes "not") ∷ d.key (codes "between") ∷ (b.low ++ d.key (codes "and") ∷ b.high);
        parts = joined h.front (d.key (codes "between") ∷ (b.low ++ d.key (codes "and") ∷ b.high)) rest h.parts e (put_first (b.low ++ d.key (codes "and") ∷ b.high) rest l b.parts);
        reads = not_between_so k g.read s.read h.front m t.read n b.middle b.last b.low b.high b.lower b.upper b.state b.index h.reads b.first b.second;
      }))
      (on_eats (λ a. OnAnswer a (ReadBy Pred k g ts)) (d.key (codes "in")) vs _ _
      (λ l. on_then (ListRead k m s (behind vs)) (ReadBy Pred k g ts) (d.in_list plain k (inner k) s m (behind vs)) (d.denied plain) (in_read m s (behind vs))
      (λ t n rest b. record {
        same = noded g (with_node t.read (node.Not n)) (later g h.same b.same);
        front = h.front ++ d.key (codes "not") ∷ d.key (codes "in") ∷ open_sign ∷ (b.front ++ close_sign ∷ []);
        parts = joined h.front (d.key (codes "in") ∷ open_sign ∷ (b.front ++ close_sign ∷ [])) rest h.parts e (put_first (open_sign ∷ (b.front ++ close_sign ∷ [])) rest l b.parts);
        reads = pred_not_in h.reads b.reads;
      })) tt)

  is_read : (g : Draft) (ts : List Token) (s : Draft) (m : ℕ) (us : List Token) → ReadBy Sum k g ts s m us → us ≡ d.key (codes "is") ∷ behind us
      → OnAnswer (d.is_tail plain s m (behind us)) (ReadBy Pred k g ts)
  is_read g ts s m us h e =
      let vs : List Token = behind us in
      on_eats (λ a. OnAnswer a (ReadBy Pred k g ts)) (d.key (codes "not")) vs _ _
      (λ l. on_after (ReadBy Pred k g ts) (d.key (codes "null")) (behind vs) (λ ws. d.with_next plain s (node.NotNull m) ws)
      (λ n. record {
        same = noded g (with_node s.read (node.NotNull m)) h.same;
        front = h.front ++ d.key (codes "is") ∷ d.key (codes "not") ∷ d.key (codes "null") ∷ [];
        parts = joined h.front (d.key (codes "not") ∷ d.key (codes "null") ∷ []) (behind (behind vs)) h.parts e (l ∙ ap (λ x. d.key (codes "not") ∷ x) n);
        reads = pred_not_null h.reads;
      }))
      (on_after (ReadBy Pred k g ts) (d.key (codes "null")) vs (λ ws. d.with_next plain s (node.IsNull m) ws)
      (λ n. record {
        same = noded g (with_node s.read (node.IsNull m)) h.same;
        front = h.front ++ d.key (codes "is") ∷ d.key (codes "null") ∷ [];
        parts = joined h.front (d.key (codes "null") ∷ []) (behind vs) h.parts e n;
        reads = pred_null h.reads;
      }))

  word_read : (g : Draft) (ts : List Token) (s : Draft) (m : ℕ) (us : List Token) → ReadBy Sum k g ts s m us → OnAnswer (d.word_tail plain k (inner k) s m us) (ReadBy Pred k g ts)
  word_read g ts s m us h =
      let Q : Answer Draft ℕ → Type 0 = λ a. OnAnswer a (ReadBy Pred k g ts) in
      let vs : List Token = behind us in
      on_eats Q (d.key (codes "is")) us _ _ (λ e. is_read g ts s m us h e)
      (on_eats Q (d.key (codes "not")) us _ _ (λ e. denied_read g ts s m us h e)
      (on_eats Q (d.key (codes "between")) us _ _
      (λ e. on_each (EndsRead k m s vs) (ReadBy Pred k g ts) (d.between plain k (inner k) s m vs) (between_read m s vs)
      (λ t n rest b. record {
        same = later g h.same b.same;
        front = h.front ++ d.key (codes "between") ∷ (b.low ++ d.key (codes "and") ∷ b.high);
        parts = joined h.front (b.low ++ d.key (codes "and") ∷ b.high) rest h.parts e b.parts;
        reads = between_so k g.read s.read h.front m t.read n b.middle b.last b.low b.high b.lower b.upper b.state b.index h.reads b.first b.second;
      }))
      (on_eats Q (d.key (codes "in")) us _ _
      (λ e. on_each (ListRead k m s vs) (ReadBy Pred k g ts) (d.in_list plain k (inner k) s m vs) (in_read m s vs)
      (λ t n rest b. record {
        same = later g h.same b.same;
        front = h.front ++ d.key (codes "in") ∷ open_sign ∷ (b.front ++ close_sign ∷ []);
        parts = joined h.front (open_sign ∷ (b.front ++ close_sign ∷ [])) rest h.parts e b.parts;
        reads = pred_in h.reads b.reads;
      }))
      (record { same = h.same; front = h.front; parts = h.parts; reads = pred_sum h.reads }))))

  tail_read : (g : Draft) (ts : List Token) (s : Draft) (m : ℕ) (us : List Token) (o : Option Cmp) → OnOption o (CmpRead us) → ReadBy Sum k g ts s m us
      → OnAnswer (d.tail plain k (inner k) o s m us) (ReadBy Pred k g ts)
  tail_read g ts s m us None c h = word_read g ts s m us h
  tail_read g ts s m us (Some o) c h =
      on_then (ReadBy Sum k s (behind us)) (ReadBy Pred k g ts) (d.sum plain k (inner k) s (behind us)) (λ t n vs. d.with_next plain t (node.Compare o m n) vs) (sum_read s (behind us))
      (λ t n vs f. record {
        same = noded g (with_node t.read (node.Compare o m n)) (later g h.same f.same);
        front = h.front ++ c.sign ∷ f.front;
        parts = joined h.front f.front vs h.parts c.parts f.parts;
        reads = pred_cmp h.reads c.is f.reads;
      })

  pred_read : (g : Draft) (ts : List Token) → OnAnswer (d.pred plain k (inner k) g ts) (ReadBy Pred k g ts)
  unfolding d.pred
  pred_read g ts =
      on_then (ReadBy Sum k g ts) (ReadBy Pred k g ts) (d.sum plain k (inner k) g ts) (λ t m us. d.tail plain k (inner k) (d.compares us) t m us) (sum_read g ts)
      (λ s m us h. tail_read g ts s m us (d.compares us) (compares_read us) h)

  -- not
  negation_read : (g : Draft) (ts : List Token) → OnAnswer (d.negation plain k (inner k) g ts) (ReadBy Not k g ts)
  unfolding d.negation
  negation_read g ts =
      on_eats (λ a. OnAnswer a (ReadBy Not k g ts)) (d.key (codes "not")) ts _ _
      (λ e. on_then (ReadBy Pred k g (behind ts)) (ReadBy Not k g ts) (d.pred plain k (inner k) g (behind ts)) (d.denied plain) (pred_read g (behind ts))
      (λ t n us h. record {
        same = noded g (with_node t.read (node.Not n)) h.same;
        front = d.key (codes "not") ∷ h.front;
        parts = put_first h.front us e h.parts;
        reads = not_one h.reads;
      }))
      (on_each (ReadBy Pred k g ts) (ReadBy Not k g ts) (d.pred plain k (inner k) g ts) (pred_read g ts)
      (λ t n us h. record { same = h.same; front = h.front; parts = h.parts; reads = not_none h.reads }))

  -- and
  conjunction_read : (g : Draft) (ts : List Token) → OnAnswer (d.conjunction plain k (inner k) g ts) (ReadBy And k g ts)
  unfolding d.conjunction
  conjunction_read g ts =
      on_then (ReadBy Not k g ts) (ReadBy And k g ts) (d.negation plain k (inner k) g ts) (λ t n us. chain (d.and_turn plain k (inner k)) t n us) (negation_read g ts)
      (λ t n us h. on_chain (ReadBy And k g ts) (d.and_turn plain k (inner k))
      (λ s a vs f. on_eats (λ r. OnTurn r (ReadBy And k g ts)) (d.key (codes "and")) vs _ _
      (λ e. joins_read And Not (d.key (codes "and")) node.Both (d.negation plain k (inner k)) negation_read (λ r s t ts us a b x y. and_more x y) g ts s a vs f e) tt)
      t n us (record { same = h.same; front = h.front; parts = h.parts; reads = and_one h.reads }))

  -- or
  disjunction_read : (g : Draft) (ts : List Token) → OnAnswer (d.disjunction plain k (inner k) g ts) (ReadBy Or k g ts)
  unfolding d.disjunction
  disjunction_read g ts =
      on_then (ReadBy And k g ts) (ReadBy Or k g ts) (d.conjunction plain k (inner k) g ts) (λ t n us. chain (d.or_turn plain k (inner k)) t n us) (conjunction_read g ts)
      (λ t n us h. on_chain (ReadBy Or k g ts) (d.or_turn plain k (inner k))
      (λ s a vs f. on_eats (λ r. OnTurn r (ReadBy Or k g ts)) (d.key (codes "or")) vs _ _
      (λ e. joins_read Or And (d.key (codes "or")) node.Either (d.conjunction plain k (inner k)) conjunction_read (λ r s t ts us a b x y. or_more x y) g ts s a vs f e) tt)
      t n us (record { same = h.same; front = h.front; parts = h.parts; reads = or_one h.reads }))

pub inside_read : (k : ℕ) (g : Draft) (ts : List Token) → OnAnswer (d.inside plain k g ts) (Inner k g ts)
unfolding d.inside
inside_read zero g ts = tt
inside_read (suc k) g ts = disjunction_read k (inside_read k) g ts

-- an expression with no parenthesis open
pub whole_read : (g : Draft) (ts : List Token) → OnAnswer (d.whole plain g ts) (ReadBy Or 32 g ts)
whole_read g ts = inside_read 33 g ts
