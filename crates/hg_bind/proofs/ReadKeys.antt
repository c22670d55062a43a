-- In a SELECT that was read each node that it speaks of is there, and a name in ORDER BY is a node of its own: it
-- stands behind all others.
use Rattle.std.proofs.Common.{◌≡◌, ℕ, suc, ◌+◌, ◌<◌, ◌≤◌, refl, sym, ap, subst, ◌∙◌, arith, pos, Bool, true, false, not, ◌&&◌, ◌||◌, List, [], ◌∷◌, ◌++◌, length, map, Option, Some, None, length-append, append-nil, lt_of_lt_of_le, le_trans}
use Rattle.std.specs.Prelude.{⊤, nat_eq, nat_lt}
use Rattle.std.specs.List.{AllByRecursion, flat_map, list_all, list_any}
use Rattle.std.specs.Option.{option_to_list}
use Rattle.std.proofs.lemmas.Bool.Decides.{nat_tests}
use Rattle.hg_model.specs.Binding.{is_key_of, is_order_key}
use Rattle.hg_model.specs.Grammar as grammar
use Rattle.hg_model.specs.Grammar.{Read, Rule, Items, Expression, Clause, IsOutput, Outputs, Tables, GroupColumns, Group, IsKey, Keys, Order, Columns, IsSelect, IsCommand, IsLine}
use Rattle.hg_model.specs.Query.{Query}
use Rattle.hg_model.specs.Reading.{Reads, Reading, Statement}
use Rattle.hg_model.specs.Reading as reading
use Rattle.hg_model.specs.SelectMeaning.{conditions, on_conditions}
use Rattle.hg_model.specs.Statements.{CommandTree, SelectRows, OpenCursor}
use Rattle.hg_model.specs.Tokens.{Token, number_of}
use Rattle.hg_model.specs.declared.trees.Cmp.{Cmp}
use Rattle.hg_model.specs.declared.trees.Cmp.TheVariants as cmp
use Rattle.hg_model.specs.declared.trees.Fold.TheVariants as of
use Rattle.hg_model.specs.declared.trees.FromTable.{FromTable}
use Rattle.hg_model.specs.declared.trees.Op.TheVariants.{Add, Sub, Mul}
use Rattle.hg_model.specs.declared.trees.Literal.TheVariants as literal
use Rattle.hg_model.specs.declared.trees.Node.{Node}
use Rattle.hg_model.specs.declared.trees.Node.TheVariants as node
use Rattle.hg_model.specs.declared.trees.OrderBy.{OrderBy}
use Rattle.hg_model.specs.declared.trees.OrderBy.TheVariants.{Position, Column as ByColumn}
use Rattle.hg_model.specs.declared.trees.OrderKey.{OrderKey}
use Rattle.hg_model.specs.declared.trees.Output.{Output}
use Rattle.hg_bind.specs.BoundMeaning.{KeysStandApart, children, is_apart, is_behind, is_within, nodes_used}
use Rattle.hg_bind.proofs.Widths.{all_append, all_weaken}

abbrev Below : ℕ → List ℕ → Type 0
Below b ns = AllByRecursion (λ n. n < b) ns

higher : (a b : ℕ) → a ≤ b → (ns : List ℕ) → Below a ns → Below b ns
higher a b up ns h = all_weaken (λ n. n < a) (λ n. n < b) (λ n below. lt_of_lt_of_le below up) ns h

-- the nodes read so far, each over others of them
abbrev AllBelow : ℕ → List Node → Type 0
AllBelow b ns = AllByRecursion (λ (n : Node). Below b (children n)) ns

record Closed (ns : List Node) : Type 0 where
  pub so : AllBelow (length ns) ns

longer_by_one : (ns : List Node) (k : Node) → length (ns ++ k ∷ []) ≡ length ns + 1
longer_by_one ns k = length-append ns (k ∷ [])

closed_more : (ns : List Node) (k : Node) → Below (length ns) (children k) → Closed ns → Closed (ns ++ k ∷ [])
closed_more ns k h c =
    let up : length ns ≤ length (ns ++ k ∷ []) = omega (arith, longer_by_one ns k) in
    record {
      so = all_append (λ (n : Node). Below (length (ns ++ k ∷ [])) (children n)) ns (k ∷ [])
          (all_weaken (λ (n : Node). Below (length ns) (children n)) (λ (n : Node). Below (length (ns ++ k ∷ [])) (children n))
          (λ n below. higher (length ns) (length (ns ++ k ∷ [])) up (children n) below) ns c.so)
          (higher (length ns) (length (ns ++ k ∷ [])) up (children k) h, tt);
    }

-- n is a node of ss, which goes on from rs
record Good (rs ss : List Node) (n : ℕ) : Type 0 where
  pub longer : length rs ≤ length ss
  pub inside : n < length ss
  pub closed : Closed rs → Closed ss

more : (rs ss : List Node) (k : Node) → length rs ≤ length ss → (Closed rs → Closed ss) → Below (length ss) (children k) → Good rs (ss ++ k ∷ []) (length ss)
more rs ss k up closed below = record {
  longer = omega (arith, longer_by_one ss k);
  inside = omega (arith, longer_by_one ss k);
  closed = λ h. closed_more ss k below (closed h);
}

over_two : (rs ss ts : List Node) (m n : ℕ) (k : Node) → Good rs ss m → Good ss ts n → (m < length ts → n < length ts → Below (length ts) (children k)) → Good rs (ts ++ k ∷ []) (length ts)
over_two rs ss ts m n k g h below =
    more rs ts k (le_trans g.longer h.longer) (λ u. h.closed (g.closed u)) (below (lt_of_lt_of_le g.inside h.longer) h.inside)

over_one : (rs ss : List Node) (n : ℕ) (k : Node) → Good rs ss n → (n < length ss → Below (length ss) (children k)) → Good rs (ss ++ k ∷ []) (length ss)
over_one rs ss n k g below = more rs ss k g.longer g.closed (below g.inside)

leaf : (rs : List Node) (k : Node) → Below (length rs) (children k) → Good rs (rs ++ k ∷ []) (length rs)
leaf rs k below = more rs rs k (omega arith) (λ u. u) below

both : (b m n : ℕ) → m < b → n < b → Below b (m ∷ n ∷ [])
both b m n p q = (p, (q, tt))

-- a BETWEEN: two comparisons, joined by AND
between : (rs ss ts us : List Node) (m a b : ℕ) (c d : Cmp) → Good rs ss m → Good ss ts a → Good (ts ++ node.Compare c m a ∷ []) us b
    → Good rs ((us ++ node.Compare d m b ∷ []) ++ node.Both (length ts) (length us) ∷ []) (length us + 1)
between rs ss ts us m a b c d g h k =
    let first = over_two rs ss ts m a (node.Compare c m a) g h (both (length ts) m a) in
    let up : length ts + 1 ≤ length us = omega (arith, longer_by_one ts (node.Compare c m a), k.longer) in
    let left : m < length us = omega (arith, g.inside, h.longer) in
    let second = more rs us (node.Compare d m b) (le_trans first.longer k.longer) (λ x. k.closed (first.closed x)) (both (length us) m b left k.inside) in
    let whole = us ++ node.Compare d m b ∷ [] in
    let grown = longer_by_one us (node.Compare d m b) in
    let joined = more rs whole (node.Both (length ts) (length us)) second.longer second.closed (both (length whole) (length ts) (length us) (omega arith) (omega arith)) in
    subst (λ x. Good rs (whole ++ node.Both (length ts) (length us) ∷ []) x) grown joined

not_between : (rs ns us : List Node) (k : Node) → length ns ≡ length us + 2 → Good rs ns (length us + 1) → Good rs (ns ++ node.Not (length us + 1) ∷ []) (length us + 2)
not_between rs ns us k size g =
    subst (λ x. Good rs (ns ++ node.Not (length us + 1) ∷ []) x) size (over_one rs ns (length us + 1) (node.Not (length us + 1)) g (λ p. (p, tt)))

after : (rs ss ts : List Node) (m n : ℕ) → Good rs ss m → Good ss ts n → Good rs ts n
after rs ss ts m n g h = record { longer = le_trans g.longer h.longer; inside = h.inside; closed = λ u. h.closed (g.closed u) }

one_item : (rs ss ts : List Node) (m k n : ℕ) → m < length rs → Good rs ss k → Good ss ts n
    → Good rs ((ts ++ node.Compare cmp.Eq m n ∷ []) ++ node.Either k (length ts) ∷ []) (length ts + 1)
one_item rs ss ts m k n left g h =
    let equal = more rs ts (node.Compare cmp.Eq m n) (le_trans g.longer h.longer) (λ u. h.closed (g.closed u)) (both (length ts) m n (omega (arith, g.longer, h.longer)) h.inside) in
    let whole = ts ++ node.Compare cmp.Eq m n ∷ [] in
    let grown = longer_by_one ts (node.Compare cmp.Eq m n) in
    let joined = more rs whole (node.Either k (length ts)) equal.longer equal.closed (both (length whole) k (length ts) (omega (arith, g.inside, h.longer)) (omega arith)) in
    subst (λ x. Good rs (whole ++ node.Either k (length ts) ∷ []) x) grown joined

-- the left operand of the items of IN has been read
abbrev Left : Rule → List Node → Type 0
Left (Items m) rs = m < length rs
Left grammar.Or rs = ⊤
Left grammar.And rs = ⊤
Left grammar.Not rs = ⊤
Left grammar.Pred rs = ⊤
Left grammar.Sum rs = ⊤
Left grammar.Term rs = ⊤
Left grammar.Factor rs = ⊤
Left grammar.Prim rs = ⊤

good : {rule : Rule} {d : ℕ} {r s : Read} {ts : List Token} {n : ℕ} → Expression rule d r ts s n → Left rule r.nodes → Good r.nodes s.nodes n
good (grammar.or_one e) l = good e tt
good (grammar.or_more {r = r} {s = s} {t = t} {m = m} {n = n} e f) l = over_two r.nodes s.nodes t.nodes m n (node.Either m n) (good e tt) (good f tt) (both (length t.nodes) m n)
good (grammar.and_one e) l = good e tt
good (grammar.and_more {r = r} {s = s} {t = t} {m = m} {n = n} e f) l = over_two r.nodes s.nodes t.nodes m n (node.Both m n) (good e tt) (good f tt) (both (length t.nodes) m n)
good (grammar.not_none e) l = good e tt
good (grammar.not_one {r = r} {s = s} {n = n} e) l = over_one r.nodes s.nodes n (node.Not n) (good e tt) (λ a. (a, tt))
good (grammar.pred_sum e) l = good e tt
good (grammar.pred_cmp {r = r} {s = s} {t = t} {m = m} {n = n} {o = o} e is f) l =
    over_two r.nodes s.nodes t.nodes m n (node.Compare o m n) (good e tt) (good f tt) (both (length t.nodes) m n)
good (grammar.pred_null {r = r} {s = s} {n = n} e) l = over_one r.nodes s.nodes n (node.IsNull n) (good e tt) (λ a. (a, tt))
good (grammar.pred_not_null {r = r} {s = s} {n = n} e) l = over_one r.nodes s.nodes n (node.NotNull n) (good e tt) (λ a. (a, tt))
good (grammar.pred_between {r = r} {s = s} {t = t} {u = u} {m = m} {a = a} {b = b} e f g) l =
    between r.nodes s.nodes t.nodes u.nodes m a b cmp.Ge cmp.Le (good e tt) (good f tt) (good g tt)
good (grammar.pred_not_between {r = r} {s = s} {t = t} {u = u} {m = m} {a = a} {b = b} e f g) l =
    let whole = (u.nodes ++ node.Compare cmp.Le m b ∷ []) ++ node.Both (length t.nodes) (length u.nodes) ∷ [] in
    let size : length whole ≡ length u.nodes + 2 = omega (arith, longer_by_one u.nodes (node.Compare cmp.Le m b), longer_by_one (u.nodes ++ node.Compare cmp.Le m b ∷ []) (node.Both (length t.nodes) (length u.nodes))) in
    not_between r.nodes whole u.nodes (node.Both (length t.nodes) (length u.nodes)) size
    (between r.nodes s.nodes t.nodes u.nodes m a b cmp.Ge cmp.Le (good e tt) (good f tt) (good g tt))
good (grammar.pred_in {r = r} {s = s} {t = t} {m = m} {n = n} e f) l =
    let g = good e tt in
    after r.nodes s.nodes t.nodes m n g (good f g.inside)
good (grammar.pred_not_in {r = r} {s = s} {t = t} {m = m} {n = n} e f) l =
    let g = good e tt in
    over_one r.nodes t.nodes n (node.Not n) (after r.nodes s.nodes t.nodes m n g (good f g.inside)) (λ a. (a, tt))
good (grammar.sum_one e) l = good e tt
good (grammar.sum_plus {r = r} {s = s} {t = t} {m = m} {n = n} e f) l = over_two r.nodes s.nodes t.nodes m n (node.Arith Add m n) (good e tt) (good f tt) (both (length t.nodes) m n)
good (grammar.sum_minus {r = r} {s = s} {t = t} {m = m} {n = n} e f) l = over_two r.nodes s.nodes t.nodes m n (node.Arith Sub m n) (good e tt) (good f tt) (both (length t.nodes) m n)
good (grammar.term_one e) l = good e tt
good (grammar.term_times {r = r} {s = s} {t = t} {m = m} {n = n} e f) l = over_two r.nodes s.nodes t.nodes m n (node.Arith Mul m n) (good e tt) (good f tt) (both (length t.nodes) m n)
good (grammar.factor_prim e) l = good e tt
good (grammar.factor_plus e) l = good e tt
good (grammar.factor_minus {r = r} {s = s} {n = n} e) l = over_one r.nodes s.nodes n (node.Neg n) (good e tt) (λ a. (a, tt))
good (grammar.prim_number {r = r} ds) l = leaf r.nodes (node.Lit (literal.Int (pos (number_of ds)))) tt
good (grammar.prim_text {r = r} t) l = leaf r.nodes (node.Lit (literal.Text (record { at = length r.texts; len = length t }))) tt
good (grammar.prim_null {r = r}) l = leaf r.nodes (node.Lit literal.Null) tt
good (grammar.prim_column {r = r} {c = c} is) l = leaf r.nodes (node.Col c) tt
good (grammar.prim_nested e) l = good e tt
good (grammar.agg_rows {r = r}) l = leaf r.nodes (node.Aggregate of.CountRows None) tt
good (grammar.agg_one {r = r} {s = s} {n = n} {f = f} is e) l = over_one r.nodes s.nodes n (node.Aggregate f (Some n)) (good e tt) (λ a. (a, tt))
good (grammar.items_one {r = r} {s = s} {m = m} {n = n} e) l =
    let g = good e tt in
    more r.nodes s.nodes (node.Compare cmp.Eq m n) g.longer g.closed (both (length s.nodes) m n (lt_of_lt_of_le l g.longer) g.inside)
good (grammar.items_more {r = r} {s = s} {t = t} {m = m} {k = k} {n = n} e f) l = one_item r.nodes s.nodes t.nodes m k n l (good e l) (good f tt)

-- some nodes of ss, which goes on from rs
record Part (rs ss : List Node) (ns : List ℕ) : Type 0 where
  pub longer : length rs ≤ length ss
  pub inside : Below (length ss) ns
  pub closed : Closed rs → Closed ss

nothing : (rs : List Node) → Part rs rs []
nothing rs = record { longer = omega arith; inside = tt; closed = λ u. u }

one_part : (rs ss : List Node) (n : ℕ) → Good rs ss n → Part rs ss (n ∷ [])
one_part rs ss n g = record { longer = g.longer; inside = (g.inside, tt); closed = g.closed }

then : (rs ss ts : List Node) (ms ns : List ℕ) → Part rs ss ms → Part ss ts ns → Part rs ts (ms ++ ns)
then rs ss ts ms ns p r = record {
  longer = le_trans p.longer r.longer;
  inside = all_append (λ n. n < length ts) ms ns (higher (length ss) (length ts) r.longer ms p.inside) r.inside;
  closed = λ u. r.closed (p.closed u);
}

clause : {w : List ℕ} {r s : Read} {ts : List Token} {f : Option ℕ} → Clause w r ts s f → Part r.nodes s.nodes (option_to_list f)
clause (grammar.Clause.left_out {r = r}) = nothing r.nodes
clause (grammar.Clause.given {r = r} {s = s} {n = n} e) = one_part r.nodes s.nodes n (good e tt)

abbrev node_of : Output → ℕ
node_of o = o.node

output : {r s : Read} {ts : List Token} {o : Output} → IsOutput r ts s o → Part r.nodes s.nodes (o.node ∷ [])
output (grammar.IsOutput.plain {r = r} {s = s} {n = n} e) = one_part r.nodes s.nodes n (good e tt)
output (grammar.IsOutput.named {r = r} {s = s} {n = n} c is e) = one_part r.nodes s.nodes n (good e tt)

nodes_on : (os ps : List Output) → map node_of os ++ map node_of ps ≡ map node_of (os ++ ps)
nodes_on [] ps = refl
nodes_on (o ∷ os) ps = ap (λ l. o.node ∷ l) (nodes_on os ps)

outputs : {r s : Read} {ts : List Token} {os : List Output} → Outputs r ts s os → Part r.nodes s.nodes (map node_of os)
outputs (grammar.Outputs.one o) = output o
outputs (grammar.Outputs.more {r = r} {s = s} {t = t} {o = o} {os = os} xs x) =
    subst (λ l. Part r.nodes t.nodes l) (nodes_on os (o ∷ [])) (then r.nodes s.nodes t.nodes (map node_of os) (o.node ∷ []) (outputs xs) (output x))

conditions_on : (fs : List FromTable) (f : FromTable) → on_conditions fs ++ option_to_list f.on ≡ on_conditions (fs ++ f ∷ [])
conditions_on [] f = sym (append-nil (option_to_list f.on))
conditions_on (g ∷ fs) f = appended (option_to_list g.on) (on_conditions fs) (option_to_list f.on) ∙ ap (λ l. option_to_list g.on ++ l) (conditions_on fs f)
  where
    appended : (xs ys zs : List ℕ) → (xs ++ ys) ++ zs ≡ xs ++ (ys ++ zs)
    appended [] ys zs = refl
    appended (x ∷ xs) ys zs = ap (λ l. x ∷ l) (appended xs ys zs)

one_more : (rs ss ts : List Node) (fs : List FromTable) (f : FromTable) → Part rs ss (on_conditions fs) → Part ss ts (option_to_list f.on) → Part rs ts (on_conditions (fs ++ f ∷ []))
one_more rs ss ts fs f p r = subst (λ l. Part rs ts l) (conditions_on fs f) (then rs ss ts (on_conditions fs) (option_to_list f.on) p r)

tables : {r s : Read} {ts : List Token} {fs : List FromTable} → Tables r ts s fs → Part r.nodes s.nodes (on_conditions fs)
tables (grammar.Tables.one {r = r} is) = nothing r.nodes
tables (grammar.Tables.by_comma {r = r} {s = s} {fs = fs} {t = t} {a = a} xs is) = one_more r.nodes s.nodes s.nodes fs (record { table = t; alias = a; on = None }) (tables xs) (nothing s.nodes)
tables (grammar.Tables.by_cross {r = r} {s = s} {fs = fs} {t = t} {a = a} xs is) = one_more r.nodes s.nodes s.nodes fs (record { table = t; alias = a; on = None }) (tables xs) (nothing s.nodes)
tables (grammar.Tables.by_join {r = r} {s = s} {u = u} {fs = fs} {t = t} {a = a} {n = n} xs is e) =
    one_more r.nodes s.nodes u.nodes fs (record { table = t; alias = a; on = Some n }) (tables xs) (one_part s.nodes u.nodes n (good e tt))
tables (grammar.Tables.by_inner {r = r} {s = s} {u = u} {fs = fs} {t = t} {a = a} {n = n} xs is e) =
    one_more r.nodes s.nodes u.nodes fs (record { table = t; alias = a; on = Some n }) (tables xs) (one_part s.nodes u.nodes n (good e tt))

group_columns : {r s : Read} {ts : List Token} {ns : List ℕ} → GroupColumns r ts s ns → Part r.nodes s.nodes ns
group_columns (grammar.GroupColumns.one {r = r} {c = c} is) = one_part r.nodes (r.nodes ++ node.Col c ∷ []) (length r.nodes) (leaf r.nodes (node.Col c) tt)
group_columns (grammar.GroupColumns.more {r = r} {s = s} {ns = ns} {c = c} xs is) =
    then r.nodes s.nodes (s.nodes ++ node.Col c ∷ []) ns (length s.nodes ∷ []) (group_columns xs) (one_part s.nodes (s.nodes ++ node.Col c ∷ []) (length s.nodes) (leaf s.nodes (node.Col c) tt))

group : {r s : Read} {ts : List Token} {ns : List ℕ} → Group r ts s ns → Part r.nodes s.nodes ns
group (grammar.Group.left_out {r = r}) = nothing r.nodes
group (grammar.Group.given xs) = group_columns xs

columns : {ts : List Token} {s : Read} {b : Bool} {os : List Output} → Columns ts s b os → Part [] s.nodes (map node_of os)
columns grammar.Columns.by_star = nothing []
columns (grammar.Columns.by_outputs xs) = outputs xs

-- the nodes of ORDER BY: behind all others, each a column
abbrev Behind : ℕ → ℕ → OrderBy → Type 0
Behind a b (Position k) = ⊤
Behind a b (ByColumn n) = (a ≤ n) × (n < b)

wider : (a a' b b' : ℕ) (k : OrderBy) → a' ≤ a → b ≤ b' → Behind a b k → Behind a' b' k
wider a a' b b' (Position k) low high h = tt
wider a a' b b' (ByColumn n) low high h = (le_trans low h.0, lt_of_lt_of_le h.1 high)

abbrev all_children : List Node → List ℕ
all_children ns = flat_map children ns

record Ordered (rs ss : List Node) (ks : List OrderKey) : Type 0 where
  pub longer : length rs ≤ length ss
  pub behind : AllByRecursion (λ (k : OrderKey). Behind (length rs) (length ss) k.by) ks
  pub same : all_children ss ≡ all_children rs

childless : (ns : List Node) (k : Node) → children k ≡ [] → all_children (ns ++ k ∷ []) ≡ all_children ns
childless [] k e = append-nil (children k) ∙ e
childless (n ∷ ns) k e = ap (λ l. children n ++ l) (childless ns k e)

key : {r s : Read} {ts : List Token} {k : OrderKey} → IsKey r ts s k → Ordered r.nodes s.nodes (k ∷ [])
key (grammar.IsKey.position {r = r} ds d) = record { longer = omega arith; behind = (tt, tt); same = refl }
key (grammar.IsKey.column {r = r} {c = c} is d) =
    let up : length r.nodes ≤ length (r.nodes ++ node.Col c ∷ []) = omega (arith, longer_by_one r.nodes (node.Col c)) in
    let inside : length r.nodes < length (r.nodes ++ node.Col c ∷ []) = omega (arith, longer_by_one r.nodes (node.Col c)) in
    record { longer = up; behind = ((omega arith, inside), tt); same = childless r.nodes (node.Col c) refl }

keys : {r s : Read} {ts : List Token} {ks : List OrderKey} → Keys r ts s ks → Ordered r.nodes s.nodes ks
keys (grammar.Keys.one k) = key k
keys (grammar.Keys.more {r = r} {s = s} {t = t} {ks = ks} {k = k} xs x) =
    let first = keys xs in
    let last = key x in
    record {
      longer = le_trans first.longer last.longer;
      behind = all_append (λ (k : OrderKey). Behind (length r.nodes) (length t.nodes) k.by) ks (k ∷ [])
          (all_weaken (λ (k : OrderKey). Behind (length r.nodes) (length s.nodes) k.by) (λ (k : OrderKey). Behind (length r.nodes) (length t.nodes) k.by)
          (λ k h. wider (length r.nodes) (length r.nodes) (length s.nodes) (length t.nodes) k.by (omega arith) last.longer h) ks first.behind)
          (wider (length s.nodes) (length r.nodes) (length t.nodes) (length t.nodes) k.by first.longer (omega arith) last.behind.0, tt);
      same = last.same ∙ first.same;
    }

order : {r s : Read} {ts : List Token} {ks : List OrderKey} → Order r ts s ks → Ordered r.nodes s.nodes ks
order (grammar.Order.left_out {r = r}) = record { longer = omega arith; behind = tt; same = refl }
order (grammar.Order.given xs) = keys xs

-- a node in front of those of ORDER BY is apart from them
not_key : (a b n : ℕ) (k : OrderBy) → n < a → Behind a b k → is_key_of n k ≡ false
not_key a b n (Position k) below h = refl
not_key a b n (ByColumn m) below h = let up = h.0 in grind (arith, nat_tests)

no_key : (a b n : ℕ) (ks : List OrderKey) → n < a → AllByRecursion (λ (k : OrderKey). Behind a b k.by) ks → list_any (λ (k : OrderKey). is_key_of n k.by) ks ≡ false
no_key a b n [] below h = refl
no_key a b n (k ∷ ks) below h =
    ap (λ x. x || list_any (λ (k : OrderKey). is_key_of n k.by) ks) (not_key a b n k.by below h.0) ∙ no_key a b n ks below h.1

is_below : (m n : ℕ) → m < n → nat_lt m n ≡ true
is_below m n h = grind (arith, nat_tests)

both_so : (s t : Bool) → s ≡ true → t ≡ true → (s && t) ≡ true
both_so true t h k = k
both_so false t h k = h

module _ (q : Query) (front : ℕ) (up : front ≤ length q.nodes) (behind : AllByRecursion (λ (k : OrderKey). Behind front (length q.nodes) k.by) q.order) where
  one_apart : (n : ℕ) → n < front → is_apart q n ≡ true
  one_apart n below =
      both_so (nat_lt n (length q.nodes)) (not (is_order_key q n)) (is_below n (length q.nodes) (lt_of_lt_of_le below up)) (ap not (no_key front (length q.nodes) n q.order below behind))

  all_apart : (ns : List ℕ) → Below front ns → list_all (is_apart q) ns ≡ true
  all_apart [] h = refl
  all_apart (n ∷ ns) h = both_so (is_apart q n) (list_all (is_apart q) ns) (one_apart n h.0) (all_apart ns h.1)

  one_within : (k : OrderBy) → Behind front (length q.nodes) k → is_within (length q.nodes) k ≡ true
  one_within (Position k) h = refl
  one_within (ByColumn n) h = is_below n (length q.nodes) h.1

  all_within : (ks : List OrderKey) → AllByRecursion (λ (k : OrderKey). Behind front (length q.nodes) k.by) ks → list_all (λ (k : OrderKey). is_within (length q.nodes) k.by) ks ≡ true
  all_within [] h = refl
  all_within (k ∷ ks) h =
      both_so (is_within (length q.nodes) k.by) (list_all (λ (k : OrderKey). is_within (length q.nodes) k.by) ks) (one_within k.by h.0) (all_within ks h.1)

  -- conditions in front
  all_lower : (roots : List ℕ) (n : ℕ) → Below front roots → front ≤ n → list_all (λ m. nat_lt m n) roots ≡ true
  all_lower [] n h low = refl
  all_lower (m ∷ ms) n h low = both_so (nat_lt m n) (list_all (λ m. nat_lt m n) ms) (is_below m n (lt_of_lt_of_le h.0 low)) (all_lower ms n h.1 low)

  one_behind : (roots : List ℕ) (k : OrderBy) → Below front roots → Behind front (length q.nodes) k → is_behind roots k ≡ true
  one_behind roots (Position k) low h = refl
  one_behind roots (ByColumn n) low h = all_lower roots n low h.0

  all_behind : (roots : List ℕ) (ks : List OrderKey) → Below front roots → AllByRecursion (λ (k : OrderKey). Behind front (length q.nodes) k.by) ks
      → list_all (λ (k : OrderKey). is_behind roots k.by) ks ≡ true
  all_behind roots [] low h = refl
  all_behind roots (k ∷ ks) low h =
      both_so (is_behind roots k.by) (list_all (λ (k : OrderKey). is_behind roots k.by) ks) (one_behind roots k.by low h.0) (all_behind roots ks low h.1)

flat_below : (b : ℕ) (ns : List Node) → AllBelow b ns → Below b (all_children ns)
flat_below b [] h = tt
flat_below b (n ∷ ns) h = all_append (λ c. c < b) (children n) (all_children ns) h.0 (flat_below b ns h.1)

select : {ts : List Token} {q : Query} {texts : List ℕ} → IsSelect ts q texts → KeysStandApart q
select (grammar.IsSelect.select {a = a} {b = b} {c = c} {d = d} {e = e} {f = f} {distinct = distinct} {star = star} {outputs = os} {tables = fs} {filter = filter} {having = having} {group = ns} {order = ks}
    head out from where_is grouped have ordered) =
    let q : Query = record { distinct = distinct; star = star; outputs = os; tables = fs; filter = filter; group = ns; having = having; order = ks; nodes = f.nodes } in
    let o = columns out in
    let t = tables from in
    let w = clause where_is in
    let g = group grouped in
    let h = clause have in
    let k = order ordered in
    let front = length e.nodes in
    let closed : Closed e.nodes = h.closed (g.closed (w.closed (t.closed (o.closed (record { so = tt }))))) in
    let from_d = h.longer in
    let from_c = le_trans g.longer from_d in
    let from_b = le_trans w.longer from_c in
    let from_a = le_trans t.longer from_b in
    let used : Below front (nodes_used q) =
    all_append (λ n. n < front) (map node_of os) (conditions q ++ (ns ++ (option_to_list having ++ all_children f.nodes))) (higher (length a.nodes) front from_a (map node_of os) o.inside)
    (all_append (λ n. n < front) (conditions q) (ns ++ (option_to_list having ++ all_children f.nodes))
    (all_append (λ n. n < front) (on_conditions fs) (option_to_list filter) (higher (length b.nodes) front from_b (on_conditions fs) t.inside)
    (higher (length c.nodes) front from_c (option_to_list filter) w.inside))
    (all_append (λ n. n < front) ns (option_to_list having ++ all_children f.nodes) (higher (length d.nodes) front from_d ns g.inside)
    (all_append (λ n. n < front) (option_to_list having) (all_children f.nodes) h.inside
    (subst (λ l. Below front l) (sym k.same) (flat_below front e.nodes closed.so))))) in
    record {
      others = all_apart q front k.longer k.behind (nodes_used q) used;
      keys = all_within q front k.longer k.behind ks k.behind;
      behind = all_behind q front k.longer k.behind (on_conditions fs) ks (higher (length b.nodes) front from_b (on_conditions fs) t.inside) k.behind;
    }

-- a command that is a SELECT, or opens one
abbrev Selects : CommandTree → Type 0
Selects (SelectRows q) = KeysStandApart q
Selects (OpenCursor c q) = KeysStandApart q
Selects _ = ⊤

command : {ts : List Token} {c : CommandTree} {x : List ℕ} → IsCommand ts c x → Selects c
command (grammar.IsCommand.create_table t is cs) = tt
command (grammar.IsCommand.create_index i t u is it ns) = tt
command (grammar.IsCommand.insert t is l vs) = tt
command (grammar.IsCommand.update t is xs f) = tt
command (grammar.IsCommand.delete t is f) = tt
command (grammar.IsCommand.vacuum t is) = tt
command (grammar.IsCommand.select s) = select s
command (grammar.IsCommand.open_cursor c is s) = select s
command (grammar.IsCommand.start c ds is) = tt
command (grammar.IsCommand.work ds) = tt
command (grammar.IsCommand.fetch c ds is) = tt
command (grammar.IsCommand.close c is) = tt
command (grammar.IsCommand.pool ds) = tt
command (grammar.IsCommand.mpl ds) = tt
command grammar.IsCommand.show_memory = tt

line : {ts : List Token} {c : CommandTree} {x : List ℕ} → IsLine ts c x → Selects c
line (grammar.IsLine.bare c) = command c
line (grammar.IsLine.ended c) = command c

abbrev ReadsApart : Reading → Type 0
ReadsApart (Statement c x) = Selects c
ReadsApart _ = ⊤

pub reads_apart : {max : ℕ} {bs : List ℕ} {r : Reading} → Reads max bs r → ReadsApart r
reads_apart (reading.Reads.blank s) = tt
reads_apart (reading.Reads.syntax_error s n) = tt
reads_apart (reading.Reads.bad_number ts c x s l b) = tt
reads_apart (reading.Reads.too_many ts c x k s l b m) = tt
reads_apart (reading.Reads.statement ts c x s l b m) = line l
