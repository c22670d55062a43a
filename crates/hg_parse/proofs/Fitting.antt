-- What fits: names of at most 30 letters, and operands that stand before their nodes. A tree has no other where its
-- tokens have no longer names.
use Rattle.std.proofs.Common.{◌≡◌, ◌<◌, ◌≤◌, ◌+◌, ℕ, false, List, [], ◌∷◌, ◌++◌, Option, Some, None, length, refl, arith, length-append}
use Rattle.std.specs.Prelude.{codes, nat_lt, ⊤}
use Rattle.hg_model.specs.Grammar.{Read, with_node, next, IsName, open_sign, close_sign, comma, star, plus, minus, IsColumn, bare, dotted, Rule, Or, And, Not, Pred, Sum, Term, Factor, Prim, Items, Expression, or_one, or_more, and_one, and_more, not_none, not_one, pred_sum, pred_cmp, pred_null, pred_not_null, pred_between, pred_not_between, pred_in, pred_not_in, sum_one, sum_plus, sum_minus, term_one, term_times, factor_prim, factor_plus, factor_minus, prim_number, prim_text, prim_null, prim_column, prim_nested, agg_rows, agg_one, items_one, items_more}
use Rattle.hg_model.specs.Reading.{is_long_name}
use Rattle.hg_model.specs.Tokens.{Token, Word}
use Rattle.hg_model.specs.declared.trees.Cmp.TheVariants as cmp
use Rattle.hg_model.specs.declared.trees.Op.TheVariants.{Add, Sub, Mul}
use Rattle.hg_model.specs.declared.trees.ColRef.{ColRef}
use Rattle.hg_model.specs.declared.trees.Literal.TheVariants as literal
use Rattle.hg_model.specs.declared.trees.Node.{Node}
use Rattle.hg_model.specs.declared.trees.Node.TheVariants as node
use Rattle.hg_parse.specs.Descent.{key}
use Rattle.std.proofs.lemmas.Bool.Decides.{nat_tests}

abbrev pub Each : {X : Type 0} → (X → Type 0) → List X → Type 0
Each P [] = ⊤
Each P (x ∷ xs) = P x × Each P xs

pub each_both : {X : Type 0} (P : X → Type 0) (xs ys : List X) → Each P xs → Each P ys → Each P (xs ++ ys)
each_both P [] ys h k = k
each_both P (x ∷ xs) ys h k = (h.0, each_both P xs ys h.1 k)

pub each_left : {X : Type 0} (P : X → Type 0) (xs ys : List X) → Each P (xs ++ ys) → Each P xs
each_left P [] ys h = tt
each_left P (x ∷ xs) ys h = (h.0, each_left P xs ys h.1)

pub each_right : {X : Type 0} (P : X → Type 0) (xs ys : List X) → Each P (xs ++ ys) → Each P ys
each_right P [] ys h = h
each_right P (x ∷ xs) ys h = each_right P xs ys h.1

pub each_map : {X : Type 0} (P Q : X → Type 0) (xs : List X) → ((x : X) → P x → Q x) → Each P xs → Each Q xs
each_map P Q [] f h = tt
each_map P Q (x ∷ xs) f h = (f x h.0, each_map P Q xs f h.1)

abbrev pub Some_is : {X : Type 0} → (X → Type 0) → Option X → Type 0
Some_is P None = ⊤
Some_is P (Some x) = P x

pub some_map : {X : Type 0} (P Q : X → Type 0) (o : Option X) → ((x : X) → P x → Q x) → Some_is P o → Some_is Q o
some_map P Q None f h = tt
some_map P Q (Some x) f h = f x h

abbrev pub Short : List ℕ → Type 0
Short w = length w ≤ 30

abbrev pub TokenFits : Token → Type 0
TokenFits t = is_long_name t ≡ false

abbrev pub ColumnFits : ColRef → Type 0
ColumnFits c = Some_is Short c.table × Short c.name

-- a node before which k nodes stand
abbrev pub NodeFits : ℕ → Node → Type 0
NodeFits k (node.Lit l) = ⊤
NodeFits k (node.Col c) = ColumnFits c
NodeFits k (node.Neg a) = a < k
NodeFits k (node.Arith o a b) = (a < k) × (b < k)
NodeFits k (node.Compare o a b) = (a < k) × (b < k)
NodeFits k (node.Both a b) = (a < k) × (b < k)
NodeFits k (node.Either a b) = (a < k) × (b < k)
NodeFits k (node.Not a) = a < k
NodeFits k (node.IsNull a) = a < k
NodeFits k (node.NotNull a) = a < k
NodeFits k (node.Aggregate f a) = Some_is (λ x. x < k) a

pub less_more : (k j a : ℕ) → k ≤ j → a < k → a < j
less_more k j a h l = omega arith

pub node_more : (k j : ℕ) → k ≤ j → (n : Node) → NodeFits k n → NodeFits j n
node_more k j h (node.Lit l) f = tt
node_more k j h (node.Col c) f = f
node_more k j h (node.Neg a) f = less_more k j a h f
node_more k j h (node.Arith o a b) f = (less_more k j a h f.0, less_more k j b h f.1)
node_more k j h (node.Compare o a b) f = (less_more k j a h f.0, less_more k j b h f.1)
node_more k j h (node.Both a b) f = (less_more k j a h f.0, less_more k j b h f.1)
node_more k j h (node.Either a b) f = (less_more k j a h f.0, less_more k j b h f.1)
node_more k j h (node.Not a) f = less_more k j a h f
node_more k j h (node.IsNull a) f = less_more k j a h f
node_more k j h (node.NotNull a) f = less_more k j a h f
node_more k j h (node.Aggregate g a) f = some_map (λ x. x < k) (λ x. x < j) a (λ x l. less_more k j x h l) f

abbrev pub NodesFit : Read → Type 0
NodesFit r = Each (NodeFits (length r.nodes)) r.nodes

-- what was read fits, where it fitted before; node n stands in it
pub record Grows (r s : Read) : Type 0 where
  pub fits : NodesFit s
  pub more : length r.nodes ≤ length s.nodes

pub record Gives (r s : Read) (n : ℕ) : Type 0 where
  pub fits : NodesFit s
  pub more : length r.nodes ≤ length s.nodes
  pub here : n < length s.nodes

one_longer : (ns : List Node) (n : Node) → length (ns ++ n ∷ []) ≡ length ns + 1
one_longer ns n = omega (arith, length-append ns (n ∷ []))

added : (ns : List Node) (n : Node) (k : ℕ) → k ≡ length (ns ++ n ∷ []) → Each (NodeFits (length ns)) ns → NodeFits (length ns) n → Each (NodeFits k) (ns ++ n ∷ [])
added ns n k e f h =
    let l : length ns ≤ k = omega (arith, one_longer ns n) in
    each_both (NodeFits k) ns (n ∷ []) (each_map (NodeFits (length ns)) (NodeFits k) ns (λ x g. node_more (length ns) k l x g) f) (node_more (length ns) k l n h, tt)

pub put : (r s : Read) (n : Node) → NodesFit s → length r.nodes ≤ length s.nodes → NodeFits (length s.nodes) n → Gives r (with_node s n) (next s)
put r s n f m h = record {
  fits = added s.nodes n _ refl f h;
  more = omega (arith, one_longer s.nodes n);
  here = omega (arith, one_longer s.nodes n);
}

nodes_only : (r : Read) (ns : List Node) (x : List ℕ) → ns ≡ r.nodes → NodesFit r → NodesFit (record { nodes = ns; texts = x })
nodes_only r ns x e f = rw e f

below_30 : (n : ℕ) → nat_lt 30 n ≡ false → n ≤ 30
below_30 n h = grind (arith, nat_tests)

pub not_long : (w : List ℕ) → IsName w → TokenFits (Word w) → Short w
not_long w r h = below_30 (length w) (rw r at h)

pub column_fits : {ts : List Token} {c : ColRef} → IsColumn ts c → Each TokenFits ts → ColumnFits c
column_fits (bare c r) t = (tt, not_long c r t.0)
column_fits (dotted a c q r) t = (not_long a q t.0, not_long c r t.1.1.0)

abbrev pub RuleFits : Rule → Read → Type 0
RuleFits (Items m) r = m < length r.nodes
RuleFits Or r = ⊤
RuleFits And r = ⊤
RuleFits Not r = ⊤
RuleFits Pred r = ⊤
RuleFits Sum r = ⊤
RuleFits Term r = ⊤
RuleFits Factor r = ⊤
RuleFits Prim r = ⊤

one : (r s : Read) (n : ℕ) (nd : Node) → Gives r s n → (n < length s.nodes → NodeFits (length s.nodes) nd) → Gives r (with_node s nd) (next s)
one r s n nd a f = put r s nd a.fits a.more (f a.here)

two : (r s t : Read) (m n : ℕ) (nd : Node) → Gives r s m → Gives s t n → (m < length t.nodes → n < length t.nodes → NodeFits (length t.nodes) nd) → Gives r (with_node t nd) (next t)
two r s t m n nd a b f =
    let x = a.more in
    let y = b.more in
    let z = a.here in
    put r t nd b.fits (omega arith) (f (omega arith) b.here)

on : (r s t : Read) (m n : ℕ) → Gives r s m → Gives s t n → Gives r t n
on r s t m n a b = let x = a.more in let y = b.more in record { fits = b.fits; more = omega arith; here = b.here }

-- m >= a and m <= b
range : (r s t u : Read) (m a b : ℕ) → Gives r s m → Gives s t a → Gives (with_node t (node.Compare cmp.Ge m a)) u b
    → Gives r (with_node (with_node u (node.Compare cmp.Le m b)) (node.Both (next t) (next u))) (next u + 1)
range r s t u m a b x y z =
    let k = x.more in
    let l = y.more in
    let q = z.more in
    let h = x.here in
    let e = one_longer t.nodes (node.Compare cmp.Ge m a) in
    let w : Gives r (with_node u (node.Compare cmp.Le m b)) (next u) = put r u (node.Compare cmp.Le m b) z.fits (omega arith) (omega arith, z.here) in
    let f = one_longer u.nodes (node.Compare cmp.Le m b) in
    let v = put r (with_node u (node.Compare cmp.Le m b)) (node.Both (next t) (next u)) w.fits w.more (omega arith, omega arith) in
    record { fits = v.fits; more = v.more; here = (let g = v.here in omega arith) }

-- one more item of IN
item : (r s t : Read) (m k n : ℕ) → m < length r.nodes → Gives r s k → Gives s t n
    → Gives r (with_node (with_node t (node.Compare cmp.Eq m n)) (node.Either k (next t))) (next t + 1)
item r s t m k n h a b =
    let x = a.more in
    let y = b.more in
    let z = a.here in
    let w : Gives r (with_node t (node.Compare cmp.Eq m n)) (next t) = put r t (node.Compare cmp.Eq m n) b.fits (omega arith) (omega arith, b.here) in
    let f = one_longer t.nodes (node.Compare cmp.Eq m n) in
    let v = put r (with_node t (node.Compare cmp.Eq m n)) (node.Either k (next t)) w.fits w.more (omega arith, omega arith) in
    record { fits = v.fits; more = v.more; here = (let g = v.here in omega arith) }

started : (r : Read) (nd : Node) → NodesFit r → NodeFits (length r.nodes) nd → Gives r (with_node r nd) (next r)
started r nd f h = put r r nd f (omega arith) h

denied : (r t u : Read) (m b : ℕ) → Gives r (with_node (with_node u (node.Compare cmp.Le m b)) (node.Both (next t) (next u))) (next u + 1)
    → Gives r (with_node (with_node (with_node u (node.Compare cmp.Le m b)) (node.Both (next t) (next u))) (node.Not (next u + 1))) (next u + 2)
denied r t u m b g =
    let v = put r (with_node (with_node u (node.Compare cmp.Le m b)) (node.Both (next t) (next u))) (node.Not (next u + 1)) g.fits g.more g.here in
    let e = one_longer u.nodes (node.Compare cmp.Le m b) in
    let q = one_longer (u.nodes ++ node.Compare cmp.Le m b ∷ []) (node.Both (next t) (next u)) in
    record { fits = v.fits; more = v.more; here = (let k = v.here in omega arith) }

pub left : (ts us : List Token) → Each TokenFits (ts ++ us) → Each TokenFits ts
left ts us t = each_left TokenFits ts us t

pub right : (ts us : List Token) → Each TokenFits (ts ++ us) → Each TokenFits us
right ts us t = each_right TokenFits ts us t

pub gives : {rule : Rule} {d : ℕ} {r s : Read} {ts : List Token} {n : ℕ} → Expression rule d r ts s n → Each TokenFits ts → NodesFit r → RuleFits rule r → Gives r s n
gives (or_one e) t f h = gives e t f tt
gives (or_more {r} {s} {t = u} {ts} {us} {m} {n} e g) t f h =
    let a = gives e (left ts (key (codes "or") ∷ us) t) f tt in
    two r s u m n (node.Either m n) a (gives g (right ts (key (codes "or") ∷ us) t).1 a.fits tt) (λ x y. (x, y))
gives (and_one e) t f h = gives e t f tt
gives (and_more {r} {s} {t = u} {ts} {us} {m} {n} e g) t f h =
    let a = gives e (left ts (key (codes "and") ∷ us) t) f tt in
    two r s u m n (node.Both m n) a (gives g (right ts (key (codes "and") ∷ us) t).1 a.fits tt) (λ x y. (x, y))
gives (not_none e) t f h = gives e t f tt
gives (not_one {r} {s} {ts} {n} e) t f h = one r s n (node.Not n) (gives e t.1 f tt) (λ x. x)
gives (pred_sum e) t f h = gives e t f tt
gives (pred_cmp {r} {s} {t = u} {ts} {us} {m} {n} {c} {o} e k g) t f h =
    let a = gives e (left ts (c ∷ us) t) f tt in
    two r s u m n (node.Compare o m n) a (gives g (right ts (c ∷ us) t).1 a.fits tt) (λ x y. (x, y))
gives (pred_null {r} {s} {ts} {n} e) t f h = one r s n (node.IsNull n) (gives e (left ts _ t) f tt) (λ x. x)
gives (pred_not_null {r} {s} {ts} {n} e) t f h = one r s n (node.NotNull n) (gives e (left ts _ t) f tt) (λ x. x)
gives (pred_between {r} {s} {t = u} {u = v} {ts} {us} {vs} {m} {a} {b} e g k) t f h =
    let x = gives e (left ts (key (codes "between") ∷ (us ++ key (codes "and") ∷ vs)) t) f tt in
    let rest = (right ts (key (codes "between") ∷ (us ++ key (codes "and") ∷ vs)) t).1 in
    let y = gives g (left us (key (codes "and") ∷ vs) rest) x.fits tt in
    let w = two r s u m a (node.Compare cmp.Ge m a) x y (λ p q. (p, q)) in
    range r s u v m a b x y (gives k (right us (key (codes "and") ∷ vs) rest).1 w.fits tt)
gives (pred_not_between {r} {s} {t = u} {u = v} {ts} {us} {vs} {m} {a} {b} e g k) t f h =
    let x = gives e (left ts (key (codes "not") ∷ key (codes "between") ∷ (us ++ key (codes "and") ∷ vs)) t) f tt in
    let rest = (right ts (key (codes "not") ∷ key (codes "between") ∷ (us ++ key (codes "and") ∷ vs)) t).1.1 in
    let y = gives g (left us (key (codes "and") ∷ vs) rest) x.fits tt in
    let w = two r s u m a (node.Compare cmp.Ge m a) x y (λ p q. (p, q)) in
    denied r u v m b (range r s u v m a b x y (gives k (right us (key (codes "and") ∷ vs) rest).1 w.fits tt))
gives (pred_in {r} {s} {t = u} {ts} {us} {m} {n} e g) t f h =
    let a = gives e (left ts (key (codes "in") ∷ open_sign ∷ (us ++ close_sign ∷ [])) t) f tt in
    on r s u m n a (gives g (left us (close_sign ∷ []) (right ts (key (codes "in") ∷ open_sign ∷ (us ++ close_sign ∷ [])) t).1.1) a.fits a.here)
gives (pred_not_in {r} {s} {t = u} {ts} {us} {m} {n} e g) t f h =
    let a = gives e (left ts (key (codes "not") ∷ key (codes "in") ∷ open_sign ∷ (us ++ close_sign ∷ [])) t) f tt in
    one r u n (node.Not n) (on r s u m n a (gives g (left us (close_sign ∷ []) (right ts (key (codes "not") ∷ key (codes "in") ∷ open_sign ∷ (us ++ close_sign ∷ [])) t).1.1.1) a.fits a.here)) (λ x. x)
gives (sum_one e) t f h = gives e t f tt
gives (sum_plus {r} {s} {t = u} {ts} {us} {m} {n} e g) t f h =
    let a = gives e (left ts (plus ∷ us) t) f tt in
    two r s u m n (node.Arith Add m n) a (gives g (right ts (plus ∷ us) t).1 a.fits tt) (λ x y. (x, y))
gives (sum_minus {r} {s} {t = u} {ts} {us} {m} {n} e g) t f h =
    let a = gives e (left ts (minus ∷ us) t) f tt in
    two r s u m n (node.Arith Sub m n) a (gives g (right ts (minus ∷ us) t).1 a.fits tt) (λ x y. (x, y))
gives (term_one e) t f h = gives e t f tt
gives (term_times {r} {s} {t = u} {ts} {us} {m} {n} e g) t f h =
    let a = gives e (left ts (star ∷ us) t) f tt in
    two r s u m n (node.Arith Mul m n) a (gives g (right ts (star ∷ us) t).1 a.fits tt) (λ x y. (x, y))
gives (factor_prim e) t f h = gives e t f tt
gives (factor_plus e) t f h = gives e t.1 f tt
gives (factor_minus {r} {s} {ts} {n} e) t f h = one r s n (node.Neg n) (gives e t.1 f tt) (λ x. x)
gives (prim_number {r} ds) t f h = started r _ f tt
gives (prim_text {r} x) t f h =
    let a = started r (node.Lit (literal.Text (record { at = length r.texts; len = length x }))) f tt in
    record { fits = a.fits; more = a.more; here = a.here }
gives (prim_null {r}) t f h = started r _ f tt
gives (prim_column {r} {ts} {c} e) t f h = started r (node.Col c) f (column_fits e t)
gives (prim_nested {ts} e) t f h = gives e (left ts (close_sign ∷ []) t.1) f tt
gives (agg_rows {r}) t f h = started r _ f tt
gives (agg_one {r} {s} {ts} {n} {f = o} k e) t f h = one r s n (node.Aggregate o (Some n)) (gives e (left ts (close_sign ∷ []) t.1.1) f tt) (λ x. x)
gives (items_one {r} {s} {ts} {m} {n} e) t f h =
    let a = gives e t f tt in
    let x = a.more in
    one r s n (node.Compare cmp.Eq m n) a (λ y. (omega arith, y))
gives (items_more {r} {s} {t = u} {ts} {us} {m} {k} {n} e g) t f h =
    let a = gives e (left ts (comma ∷ us) t) f h in
    item r s u m k n h a (gives g (right ts (comma ∷ us) t).1 a.fits tt)
