-- The rules of an expression by what comes next, and the turns of its chains.
use Rattle.std.proofs.Common.{◌≡◌, ◌<◌, ◌≤◌, ◌-◌, ℕ, zero, suc, Bool, true, false, List, [], ◌∷◌, Option, Some, None, length, refl, sym, ap, ◌∙◌, arith}
use mathlib.Core.Path.{fun_ext}
use Rattle.std.specs.Prelude.{codes, if◌then◌else◌, pos}
use Rattle.hg_model.specs.Grammar.{open_sign, plus, minus}
use Rattle.hg_model.specs.Tables.{same_name}
use Rattle.hg_model.specs.Tokens.{Token, Word, Digits, Letters, Sign, is_reserved}
use Rattle.hg_model.specs.declared.trees.Cmp.{Cmp}
use Rattle.hg_model.specs.declared.trees.Cmp.TheVariants as cmp
use Rattle.hg_model.specs.declared.trees.Fold.{Fold}
use Rattle.hg_model.specs.declared.trees.Fold.TheVariants as of
use Rattle.hg_model.specs.declared.trees.Literal.TheVariants as literal
use Rattle.hg_model.specs.declared.trees.Node.{Node}
use Rattle.hg_model.specs.declared.trees.Node.TheVariants as node
use Rattle.hg_model.specs.declared.trees.Op.{Op}
use Rattle.hg_model.specs.declared.trees.Op.TheVariants.{Add, Sub}
use Rattle.hg_parse.proofs.Chains.{chain_go, chain_stop, chain_fail}
use Rattle.hg_parse.proofs.Eaten.{same_back}
use Rattle.hg_parse.specs.AtHand.{digits_in, text_in, name_in, fold_in, sum_sign}
use Rattle.hg_parse.specs.Building.{Builder}
use Rattle.hg_parse.specs.Descent.{key, compares, fold_of, deeper, column_of, with_next, prim, reserved, fold_at, aggregate, joins, item_joined, term, sum_turn, inside, disjunction, whole}
use Rattle.hg_parse.specs.Steps.{Answer, got, and_then, eats, behind, closed, Turn, Stop, Go, chain}

abbrev compare_steps : (List ℕ → Bool) → Option Cmp
compare_steps is = if is (61 ∷ []) then Some cmp.Eq
    else if is (60 ∷ 62 ∷ []) then Some cmp.Ne
    else if is (33 ∷ 61 ∷ []) then Some cmp.Ne
    else if is (60 ∷ []) then Some cmp.Lt
    else if is (60 ∷ 61 ∷ []) then Some cmp.Le
    else if is (62 ∷ []) then Some cmp.Gt
    else if is (62 ∷ 61 ∷ []) then Some cmp.Ge
    else None

turned_words : {X : Type 0} (f : (List ℕ → Bool) → X) (w : List ℕ) → f (λ v. same_name w v) ≡ f (λ v. same_name v w)
turned_words f w = ap f (fun_ext (λ v. same_back w v))

pub compares_by : (ts : List Token) → compares ts ≡ compare_steps (λ v. eats (Sign v) ts)
compares_by [] = refl
compares_by (Word w ∷ ts) = refl
compares_by (Digits w ∷ ts) = refl
compares_by (Letters w ∷ ts) = refl
compares_by (Sign w ∷ ts) = turned_words compare_steps w

abbrev fold_steps : (List ℕ → Bool) → Option Fold
fold_steps is = if is (codes "count") then Some of.Count
    else if is (codes "sum") then Some of.Sum
    else if is (codes "min") then Some of.Min
    else if is (codes "max") then Some of.Max
    else None

pub fold_by : (ts : List Token) → fold_in ts ≡ fold_steps (λ v. eats (Word v) ts)
fold_by [] = refl
fold_by (Word w ∷ ts) = turned_words fold_steps w
fold_by (Digits w ∷ ts) = refl
fold_by (Letters w ∷ ts) = refl
fold_by (Sign w ∷ ts) = refl

module _ {S : Type 0} (b : Builder S) where
  module _ (d : ℕ) (inner : S → List Token → Answer S ℕ) where
    abbrev pub prim_4 : S → List Token → Answer S ℕ
    prim_4 s ts = if eats open_sign ts then deeper d (closed (inner s (behind ts))) else fold_at b d inner s (fold_in ts) (behind ts)

    abbrev pub prim_3 : S → List Token → Answer S ℕ
    prim_3 s ts = if eats (key (codes "null")) ts then with_next b s (node.Lit literal.Null) (behind ts) else prim_4 s ts

    abbrev pub prim_2 : S → Option (List ℕ) → List Token → Answer S ℕ
    prim_2 s None ts = prim_3 s ts
    prim_2 s (Some w) ts = and_then (column_of s w (behind ts)) (λ t c us. with_next b t (node.Col c) us)

    abbrev pub prim_1 : S → Option ℕ → List Token → Answer S ℕ
    prim_1 s None ts = prim_2 s (name_in ts) ts
    prim_1 s (Some n) ts = with_next b s (node.Lit (literal.Int (pos n))) (behind ts)

    abbrev pub prim_0 : S → Option (List ℕ) → List Token → Answer S ℕ
    prim_0 s None ts = prim_1 s (digits_in ts) ts
    prim_0 s (Some t) ts = got (b.text s t) (b.next s) (behind ts)

    word_by : (r : Bool) (s : S) (w : List ℕ) (ts : List Token) → (if r then reserved b d inner s w ts else and_then (column_of s w ts) (λ t c us. with_next b t (node.Col c) us))
        ≡ prim_2 s (if r then None else Some w) (Word w ∷ ts)
    word_by true s w ts = ap (λ x. if x then with_next b s (node.Lit literal.Null) ts else fold_at b d inner s (fold_of w) ts) (same_back w (codes "null"))
    word_by false s w ts = refl

    pub prim_by : (s : S) (ts : List Token) → prim b d inner s ts ≡ prim_0 s (text_in ts) ts
    unfolding prim
    prim_by s [] = refl
    prim_by s (Word w ∷ ts) = word_by (is_reserved w) s w ts
    prim_by s (Digits ds ∷ ts) = refl
    prim_by s (Letters t ∷ ts) = refl
    prim_by s (Sign w ∷ ts) = ap (λ x. if x then deeper d (closed (inner s ts)) else None) (same_back w (40 ∷ []))

  pub nested_by : (d : ℕ) (s : S) (ts : List Token) → 0 < d → deeper d (closed (inside b d s ts)) ≡ closed (disjunction b (d - 1) (inside b (d - 1)) s ts)
  unfolding inside
  nested_by zero s ts h = absurd (omega arith)
  nested_by (suc e) s ts h = let q : suc e - 1 ≡ e = omega arith in rw q refl

  pub aggregate_by : (d : ℕ) (s : S) (f : Fold) (ts : List Token) → 0 < d
      → deeper d (aggregate b (inside b d) s f ts) ≡ aggregate b (disjunction b (d - 1) (inside b (d - 1))) s f ts
  unfolding inside
  aggregate_by zero s f ts h = absurd (omega arith)
  aggregate_by (suc e) s f ts h = let q : suc e - 1 ≡ e = omega arith in rw q refl

  pub no_deeper : {R : Type 0} (d : ℕ) (a : Option R) → d ≡ 0 → deeper d a ≡ None
  no_deeper d a h = ap (λ x. deeper x a) h

  pub whole_by : (s : S) (ts : List Token) → whole b s ts ≡ disjunction b 32 (inside b 32) s ts
  unfolding inside
  whole_by s ts = refl

  pub joins_by : (operand : S → List Token → Answer S ℕ) (make : ℕ → ℕ → Node) (s t u : S) (m n x : ℕ) (ts us : List Token)
      → operand s ts ≡ got t n us → u ≡ b.node t (make m n) → x ≡ b.next t → joins b operand make s m ts ≡ got u x us
  joins_by operand make s t u m n x ts us e f h =
      ap (λ a. and_then a (λ t n us. with_next b t (make m n) us)) e ∙ (ap (λ v. got v (b.next t) us) (sym f) ∙ ap (λ y. got u y us) (sym h))

  pub joins_none : (operand : S → List Token → Answer S ℕ) (make : ℕ → ℕ → Node) (s : S) (m : ℕ) (ts : List Token)
      → operand s ts ≡ None → joins b operand make s m ts ≡ None
  joins_none operand make s m ts e = ap (λ a. and_then a (λ t n us. with_next b t (make m n) us)) e

module _ {S X : Type 0} (turn : S → X → List Token → Turn S X) (go : List Token → Answer S X) where
  pub turn_go : (s t : S) (x y : X) (ts ms us : List Token) (e : Bool) → turn s x ts ≡ (if e then Go (go (behind ts)) else Stop) → true ≡ e → ms ≡ behind ts → go ms ≡ got t y us
      → length us < length ts → chain turn s x ts ≡ chain turn t y us
  turn_go s t x y ts ms us e h b m g l = chain_go turn s x ts t y us (h ∙ (ap (λ z. if z then Go (go (behind ts)) else Stop) (sym b) ∙ ap Go (ap go (sym m) ∙ g))) l

  pub turn_fail : (s : S) (x : X) (ts ms : List Token) (e : Bool) → turn s x ts ≡ (if e then Go (go (behind ts)) else Stop) → true ≡ e → ms ≡ behind ts → go ms ≡ None
      → chain turn s x ts ≡ None
  turn_fail s x ts ms e h b m g = chain_fail turn s x ts (h ∙ (ap (λ z. if z then Go (go (behind ts)) else Stop) (sym b) ∙ ap Go (ap go (sym m) ∙ g)))

  pub turn_stop : (s : S) (x : X) (ts ms : List Token) (e : Bool) → turn s x ts ≡ (if e then Go (go (behind ts)) else Stop) → false ≡ e → ms ≡ ts → chain turn s x ts ≡ got s x ms
  turn_stop s x ts ms e h b m = chain_stop turn s x ts (h ∙ ap (λ z. if z then Go (go (behind ts)) else Stop) (sym b)) ∙ ap (got s x) (sym m)

module _ {S : Type 0} (b : Builder S) where
  pub join_go : (turn : S → ℕ → List Token → Turn S ℕ) (operand : S → List Token → Answer S ℕ) (make : ℕ → ℕ → Node) (e : Bool) (s t u : S) (m n x : ℕ) (ts ms us : List Token)
      → turn s m ts ≡ (if e then Go (joins b operand make s m (behind ts)) else Stop) → true ≡ e → ms ≡ behind ts → operand s ms ≡ got t n us
      → u ≡ b.node t (make m n) → x ≡ b.next t → length us < length ts → chain turn s m ts ≡ chain turn u x us
  join_go turn operand make e s t u m n x ts ms us h f r o k i l =
      turn_go turn (joins b operand make s m) s u m x ts ms us e h f r (joins_by b operand make s t u m n x ms us o k i) l

  pub join_fail : (turn : S → ℕ → List Token → Turn S ℕ) (operand : S → List Token → Answer S ℕ) (make : ℕ → ℕ → Node) (e : Bool) (s : S) (m : ℕ) (ts ms : List Token)
      → turn s m ts ≡ (if e then Go (joins b operand make s m (behind ts)) else Stop) → true ≡ e → ms ≡ behind ts → operand s ms ≡ None → chain turn s m ts ≡ None
  join_fail turn operand make e s m ts ms h f r o = turn_fail turn (joins b operand make s m) s m ts ms e h f r (joins_none b operand make s m ms o)

  pub item_by : (operand : S → List Token → Answer S ℕ) (s t v u : S) (m k n e x : ℕ) (ms us : List Token) → operand s ms ≡ got t n us
      → v ≡ b.node t (node.Compare cmp.Eq m n) → e ≡ b.next t → u ≡ b.node v (node.Either k e) → x ≡ b.next v
      → and_then (operand s ms) (item_joined b m k) ≡ got u x us
  item_by operand s t v u m k n e x ms us h f g i j =
      ap (λ a. and_then a (item_joined b m k)) h
      ∙ (ap (λ w. got (b.node w (node.Either k (b.next t))) (b.next w) us) (sym f) ∙ (ap (λ y. got (b.node v (node.Either k y)) (b.next v) us) (sym g)
      ∙ (ap (λ w. got w (b.next v) us) (sym i) ∙ ap (λ y. got u y us) (sym j))))

  pub item_none : (operand : S → List Token → Answer S ℕ) (s : S) (m k : ℕ) (ms : List Token) → operand s ms ≡ None → and_then (operand s ms) (item_joined b m k) ≡ None
  item_none operand s m k ms h = ap (λ a. and_then a (item_joined b m k)) h

  module _ (d : ℕ) (inner : S → List Token → Answer S ℕ) where
    abbrev sum_by : S → ℕ → List Token → Option Op → Turn S ℕ
    sum_by s m ts None = Stop
    sum_by s m ts (Some o) = Go (joins b (term b d inner) (node.Arith o) s m (behind ts))

    sum_cases : (p q : Bool) (s : S) (m : ℕ) (ts : List Token)
        → (if p then Go (joins b (term b d inner) (node.Arith Add) s m (behind ts)) else if q then Go (joins b (term b d inner) (node.Arith Sub) s m (behind ts)) else Stop)
        ≡ sum_by s m ts (if p then Some Add else if q then Some Sub else None)
    sum_cases true q s m ts = refl
    sum_cases false true s m ts = refl
    sum_cases false false s m ts = refl

    sum_turn_by : (s : S) (m : ℕ) (ts : List Token) → sum_turn b d inner s m ts ≡ sum_by s m ts (sum_sign ts)
    sum_turn_by s m ts = sum_cases (eats plus ts) (eats minus ts) s m ts

    no_sign_at_end : (o : Op) → None ≡ Some o → ⊥
    no_sign_at_end o h = cc

    pub sign_read : (o : Op) (ts : List Token) → sum_sign ts ≡ Some o → length (behind ts) < length ts
    sign_read o [] h = absurd (no_sign_at_end o h)
    sign_read o (t ∷ ts) h = omega arith

    pub sum_go : (o : Op) (s t u : S) (m n x : ℕ) (ts ms us : List Token) → sum_sign ts ≡ Some o → ms ≡ behind ts → term b d inner s ms ≡ got t n us
        → u ≡ b.node t (node.Arith o m n) → x ≡ b.next t → length us ≤ length ms → chain (sum_turn b d inner) s m ts ≡ chain (sum_turn b d inner) u x us
    sum_go o s t u m n x ts ms us h r e k i l =
        let less : length (behind ts) < length ts = sign_read o ts h in
        let same : length ms ≡ length (behind ts) = ap length r in
        chain_go (sum_turn b d inner) s m ts u x us
        (sum_turn_by s m ts ∙ (ap (sum_by s m ts) h ∙ ap Go (ap (joins b (term b d inner) (node.Arith o) s m) (sym r) ∙ joins_by b (term b d inner) (node.Arith o) s t u m n x ms us e k i)))
        (omega arith)

    pub sum_fail : (o : Op) (s : S) (m : ℕ) (ts ms : List Token) → sum_sign ts ≡ Some o → ms ≡ behind ts → term b d inner s ms ≡ None → chain (sum_turn b d inner) s m ts ≡ None
    sum_fail o s m ts ms h r e =
        chain_fail (sum_turn b d inner) s m ts
        (sum_turn_by s m ts ∙ (ap (sum_by s m ts) h ∙ ap Go (ap (joins b (term b d inner) (node.Arith o) s m) (sym r) ∙ joins_none b (term b d inner) (node.Arith o) s m ms e)))

    pub sum_stop : (s : S) (m : ℕ) (ts ms : List Token) → sum_sign ts ≡ None → ms ≡ ts → chain (sum_turn b d inner) s m ts ≡ got s m ms
    sum_stop s m ts ms h r = chain_stop (sum_turn b d inner) s m ts (sum_turn_by s m ts ∙ ap (sum_by s m ts) h) ∙ ap (got s m) (sym r)
