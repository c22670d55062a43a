-- What fits in the parts of a statement.
use Rattle.std.proofs.Common.{◌<◌, ◌≤◌, ◌+◌, ℕ, Bool, List, [], ◌∷◌, ◌++◌, Option, Some, None, length, arith, length-append}
use Rattle.std.specs.Prelude.{codes, ⊤}
use Rattle.hg_model.specs.Grammar.{Read, with_node, next, nothing_read, open_sign, close_sign, comma, equals, semicolon, bare, Whole, Clause, left_out, given, IsOutput, plain, named, Outputs, one, more, IsRef, own, alias, alias_as, Tables, by_comma, by_cross, by_join, by_inner, GroupColumns, Group, IsKey, position, column, Keys, Order, Columns, by_star, by_outputs, IsSelect, select, Tuples, Names, Listed, IsNewColumn, NewColumns, Sets, IsCommand, create_table, create_index, insert, update, delete, vacuum, open_cursor, start, work, fetch, close, pool, mpl, show_memory, IsLine, ended}
use Rattle.hg_model.specs.Query.{Query}
use Rattle.hg_model.specs.Statements.{CommandTree, CreateTable, CreateIndex, InsertRows, UpdateRows, DeleteRows, Vacuum, SelectRows, OpenCursor, Start, Work, Fetch, Close, Pool, Mpl, ShowMemory}
use Rattle.hg_model.specs.Tokens.{Token, Word}
use Rattle.hg_model.specs.declared.trees.FromTable.{FromTable}
use Rattle.hg_model.specs.declared.trees.Literal.{Literal}
use Rattle.hg_model.specs.declared.trees.NewColumn.{NewColumn}
use Rattle.hg_model.specs.declared.trees.Node.{Node}
use Rattle.hg_model.specs.declared.trees.Node.TheVariants as node
use Rattle.hg_model.specs.declared.trees.OrderBy.{OrderBy}
use Rattle.hg_model.specs.declared.trees.OrderBy.TheVariants.{Position, Column as ByColumn}
use Rattle.hg_model.specs.declared.trees.OrderKey.{OrderKey}
use Rattle.hg_model.specs.declared.trees.Output.{Output}
use Rattle.hg_parse.proofs.Fitting.{Each, each_both, each_map, Some_is, some_map, Short, TokenFits, NodeFits, less_more, NodesFit, put, gives, not_long, column_fits, left, right}
use Rattle.hg_parse.specs.Descent.{key}

abbrev pub Below : ℕ → ℕ → Type 0
Below k n = n < k

abbrev pub OutputFits : ℕ → Output → Type 0
OutputFits k o = Below k o.node × Some_is Short o.name

abbrev pub TableFits : ℕ → FromTable → Type 0
TableFits k t = Short t.table × Short t.alias × Some_is (Below k) t.on

abbrev pub ByFits : ℕ → OrderBy → Type 0
ByFits k (Position n) = ⊤
ByFits k (ByColumn n) = Below k n

abbrev pub KeyFits : ℕ → OrderKey → Type 0
KeyFits k o = ByFits k o.by

abbrev pub SetFits : ℕ → List ℕ × ℕ → Type 0
SetFits k x = Short x.0 × Below k x.1

abbrev pub NewFits : NewColumn → Type 0
NewFits c = Short c.column.name

abbrev Widens : {X : Type 0} → (ℕ → X → Type 0) → Type 0
Widens {X} P = (k j : ℕ) → k ≤ j → (x : X) → P k x → P j x

below_more : Widens Below
below_more k j h x l = less_more k j x h l

output_more : Widens OutputFits
output_more k j h x f = (less_more k j x.node h f.0, f.1)

table_more : Widens TableFits
table_more k j h x f = (f.0, f.1, some_map (Below k) (Below j) x.on (λ n l. less_more k j n h l) f.2)

by_more : (k j : ℕ) → k ≤ j → (x : OrderBy) → ByFits k x → ByFits j x
by_more k j h (Position n) f = tt
by_more k j h (ByColumn n) f = less_more k j n h f

key_more : Widens KeyFits
key_more k j h x f = by_more k j h x.by f

set_more : Widens SetFits
set_more k j h x f = (f.0, less_more k j x.1 h f.1)

-- a list that was read, whose items fit
pub record GrowsBy {X : Type 0} (P : ℕ → X → Type 0) (r s : Read) (xs : List X) : Type 0 where
  pub fits : NodesFit s
  pub more : length r.nodes ≤ length s.nodes
  pub each : Each (P (length s.nodes)) xs

pub record GrowsTo (r s : Read) (n : Option ℕ) : Type 0 where
  pub fits : NodesFit s
  pub more : length r.nodes ≤ length s.nodes
  pub each : Some_is (Below (length s.nodes)) n

module _ {X : Type 0} (P : ℕ → X → Type 0) (w : Widens P) where
  first : (r s : Read) (x : X) → NodesFit s → length r.nodes ≤ length s.nodes → P (length s.nodes) x → GrowsBy P r s (x ∷ [])
  first r s x f m h = record { fits = f; more = m; each = (h, tt) }

  further : (r s t : Read) (xs : List X) (x : X) → GrowsBy P r s xs → NodesFit t → length s.nodes ≤ length t.nodes → P (length t.nodes) x → GrowsBy P r t (xs ++ x ∷ [])
  further r s t xs x g f m h = record {
    fits = f;
    more = (let a = g.more in omega arith);
    each = each_both (P (length t.nodes)) xs (x ∷ []) (each_map (P (length s.nodes)) (P (length t.nodes)) xs (λ y q. w (length s.nodes) (length t.nodes) m y q) g.each) (h, tt);
  }

clause_fits : {w : List ℕ} {r s : Read} {ts : List Token} {n : Option ℕ} → Clause w r ts s n → Each TokenFits ts → NodesFit r → GrowsTo r s n
clause_fits (left_out {r}) t f = record { fits = f; more = omega arith; each = tt }
clause_fits (given e) t f = let a = gives e t.1 f tt in record { fits = a.fits; more = a.more; each = a.here }

record GrowsOne {X : Type 0} (P : ℕ → X → Type 0) (r s : Read) (x : X) : Type 0 where
  pub fits : NodesFit s
  pub more : length r.nodes ≤ length s.nodes
  pub here : P (length s.nodes) x

output_fits : {r s : Read} {ts : List Token} {o : Output} → IsOutput r ts s o → Each TokenFits ts → NodesFit r → GrowsOne OutputFits r s o
output_fits (plain e) t f = let a = gives e t f tt in record { fits = a.fits; more = a.more; here = (a.here, tt) }
output_fits (named {ts} c i e) t f =
    let a = gives e (left ts (key (codes "as") ∷ Word c ∷ []) t) f tt in
    record { fits = a.fits; more = a.more; here = (a.here, not_long c i (right ts (key (codes "as") ∷ Word c ∷ []) t).1.0) }

outputs_fit : {r s : Read} {ts : List Token} {os : List Output} → Outputs r ts s os → Each TokenFits ts → NodesFit r → GrowsBy OutputFits r s os
outputs_fit (one {r} {s} {o} e) t f = let a = output_fits e t f in first OutputFits output_more r s o a.fits a.more a.here
outputs_fit (more {r} {s} {t = u} {ts} {us} {o} {os} g e) t f =
    let a = outputs_fit g (left ts (comma ∷ us) t) f in
    let b = output_fits e (right ts (comma ∷ us) t).1 a.fits in
    further OutputFits output_more r s u os o a b.fits b.more b.here

ref_fits : {ts : List Token} {x y : List ℕ} → IsRef ts x y → Each TokenFits ts → Short x × Short y
ref_fits (own x i) t = (not_long x i t.0, not_long x i t.0)
ref_fits (alias x y i j) t = (not_long x i t.0, not_long y j t.1.0)
ref_fits (alias_as x y i j) t = (not_long x i t.0, not_long y j t.1.1.0)

joined_fits : (r s u : Read) (fs : List FromTable) (us vs : List Token) (x y : List ℕ) (n : ℕ) → GrowsBy TableFits r s fs → IsRef us x y → Whole s vs u n
    → Each TokenFits (us ++ key (codes "on") ∷ vs) → GrowsBy TableFits r u (fs ++ record { table = x; alias = y; on = Some n } ∷ [])
joined_fits r s u fs us vs x y n g i e t =
    let a = gives e (right us (key (codes "on") ∷ vs) t).1 g.fits tt in
    let p = ref_fits i (left us (key (codes "on") ∷ vs) t) in
    further TableFits table_more r s u fs (record { table = x; alias = y; on = Some n }) g a.fits a.more (p.0, p.1, a.here)

listed_fits : (r s : Read) (fs : List FromTable) (us : List Token) (x y : List ℕ) → GrowsBy TableFits r s fs → IsRef us x y
    → Each TokenFits us → GrowsBy TableFits r s (fs ++ record { table = x; alias = y; on = None } ∷ [])
listed_fits r s fs us x y g i t =
    let p = ref_fits i t in
    further TableFits table_more r s s fs (record { table = x; alias = y; on = None }) g g.fits (omega arith) (p.0, p.1, tt)

tables_fit : {r s : Read} {ts : List Token} {fs : List FromTable} → Tables r ts s fs → Each TokenFits ts → NodesFit r → GrowsBy TableFits r s fs
tables_fit (one {r} {t = x} {a = y} i) t f =
    let p = ref_fits i t in
    first TableFits table_more r r (record { table = x; alias = y; on = None }) f (omega arith) (p.0, p.1, tt)
tables_fit (by_comma {r} {s} {ts} {us} {fs} {t = x} {a = y} g i) t f = listed_fits r s fs us x y (tables_fit g (left ts (comma ∷ us) t) f) i (right ts (comma ∷ us) t).1
tables_fit (by_cross {r} {s} {ts} {us} {fs} {t = x} {a = y} g i) t f =
    listed_fits r s fs us x y (tables_fit g (left ts (key (codes "cross") ∷ key (codes "join") ∷ us) t) f) i (right ts (key (codes "cross") ∷ key (codes "join") ∷ us) t).1.1
tables_fit (by_join {r} {s} {u} {ts} {us} {vs} {fs} {t = x} {a = y} {n} g i e) t f =
    joined_fits r s u fs us vs x y n (tables_fit g (left ts (key (codes "join") ∷ (us ++ key (codes "on") ∷ vs)) t) f) i e (right ts (key (codes "join") ∷ (us ++ key (codes "on") ∷ vs)) t).1
tables_fit (by_inner {r} {s} {u} {ts} {us} {vs} {fs} {t = x} {a = y} {n} g i e) t f =
    joined_fits r s u fs us vs x y n (tables_fit g (left ts (key (codes "inner") ∷ key (codes "join") ∷ (us ++ key (codes "on") ∷ vs)) t) f) i e
    (right ts (key (codes "inner") ∷ key (codes "join") ∷ (us ++ key (codes "on") ∷ vs)) t).1.1

groups_fit : {r s : Read} {ts : List Token} {ns : List ℕ} → GroupColumns r ts s ns → Each TokenFits ts → NodesFit r → GrowsBy Below r s ns
groups_fit (one {r} {c} e) t f =
    let a = put r r (node.Col c) f (omega arith) (column_fits e t) in
    first Below below_more r (with_node r (node.Col c)) (next r) a.fits a.more a.here
groups_fit (more {r} {s} {ts} {us} {ns} {c} g e) t f =
    let a = groups_fit g (left ts (comma ∷ us) t) f in
    let b = put s s (node.Col c) a.fits (omega arith) (column_fits e (right ts (comma ∷ us) t).1) in
    further Below below_more r s (with_node s (node.Col c)) ns (next s) a b.fits b.more b.here

group_fits : {r s : Read} {ts : List Token} {ns : List ℕ} → Group r ts s ns → Each TokenFits ts → NodesFit r → GrowsBy Below r s ns
group_fits (left_out {r}) t f = record { fits = f; more = omega arith; each = tt }
group_fits (given e) t f = groups_fit e t.1.1 f

key_fits : {r s : Read} {ts : List Token} {k : OrderKey} → IsKey r ts s k → Each TokenFits ts → NodesFit r → GrowsOne KeyFits r s k
key_fits (position {r} ds e) t f = record { fits = f; more = omega arith; here = tt }
key_fits (column {r} {ts} {us} {c} i e) t f =
    let a = put r r (node.Col c) f (omega arith) (column_fits i (left ts us t)) in
    record { fits = a.fits; more = a.more; here = a.here }

keys_fit : {r s : Read} {ts : List Token} {ks : List OrderKey} → Keys r ts s ks → Each TokenFits ts → NodesFit r → GrowsBy KeyFits r s ks
keys_fit (one {r} {s} {k} e) t f = let a = key_fits e t f in first KeyFits key_more r s k a.fits a.more a.here
keys_fit (more {r} {s} {t = u} {ts} {us} {ks} {k} g e) t f =
    let a = keys_fit g (left ts (comma ∷ us) t) f in
    let b = key_fits e (right ts (comma ∷ us) t).1 a.fits in
    further KeyFits key_more r s u ks k a b.fits b.more b.here

order_fits : {r s : Read} {ts : List Token} {ks : List OrderKey} → Order r ts s ks → Each TokenFits ts → NodesFit r → GrowsBy KeyFits r s ks
order_fits (left_out {r}) t f = record { fits = f; more = omega arith; each = tt }
order_fits (given e) t f = keys_fit e t.1.1 f

sets_fit : {r s : Read} {ts : List Token} {xs : List (List ℕ × ℕ)} → Sets r ts s xs → Each TokenFits ts → NodesFit r → GrowsBy SetFits r s xs
sets_fit (one {r} {s} {n} c i e) t f =
    let a = gives e t.1.1 f tt in
    let x : List ℕ × ℕ = (c, n) in
    first SetFits set_more r s x a.fits a.more (not_long c i t.0, a.here)
sets_fit (more {r} {s} {t = u} {ts} {us} {xs} {n} c g i e) t f =
    let a = sets_fit g (left ts (comma ∷ Word c ∷ equals ∷ us) t) f in
    let rest = (right ts (comma ∷ Word c ∷ equals ∷ us) t).1 in
    let b = gives e rest.1.1 a.fits tt in
    let x : List ℕ × ℕ = (c, n) in
    further SetFits set_more r s u xs x a b.fits b.more (not_long c i rest.0, b.here)

names_fit : {ts : List Token} {cs : List (List ℕ)} → Names ts cs → Each TokenFits ts → Each Short cs
names_fit (one c i) t = (not_long c i t.0, tt)
names_fit (more {ts} {cs} c i e) t =
    each_both Short cs (c ∷ []) (names_fit e (left ts (comma ∷ Word c ∷ []) t)) (not_long c i (right ts (comma ∷ Word c ∷ []) t).1.0, tt)

listed_names_fit : {ts : List Token} {cs : List (List ℕ)} → Listed ts cs → Each TokenFits ts → Each Short cs
listed_names_fit left_out t = tt
listed_names_fit (given {ts} e) t = names_fit e (left ts (close_sign ∷ []) t.1)

new_fits : {ts : List Token} {c : NewColumn} → IsNewColumn ts c → Each TokenFits ts → NewFits c
new_fits (column c i e g) t = not_long c i t.0

news_fit : {ts : List Token} {cs : List NewColumn} → NewColumns ts cs → Each TokenFits ts → Each NewFits cs
news_fit (one e) t = (new_fits e t, tt)
news_fit (more {ts} {us} {cs} {c} g e) t = each_both NewFits cs (c ∷ []) (news_fit g (left ts (comma ∷ us) t)) (new_fits e (right ts (comma ∷ us) t).1, tt)

abbrev pub NotOver : ℕ → ℕ → Type 0
NotOver k n = n ≤ k

tuples_fit : {x y : List ℕ} {ts : List Token} {vs : List Literal} {es : List ℕ} → Tuples x ts y vs es → Each (NotOver (length vs)) es
tuples_fit (one {vs} e) = (omega arith, tt)
tuples_fit (more {vs} {ws} {es} g e) =
    let l = length-append vs ws in
    each_both (NotOver (length (vs ++ ws))) es ((length vs + length ws) ∷ [])
    (each_map (NotOver (length vs)) (NotOver (length (vs ++ ws))) es (λ n h. omega (arith, l)) (tuples_fit g)) (omega (arith, l), tt)

pub record QueryFits (q : Query) : Type 0 where
  pub outputs : Each (OutputFits (length q.nodes)) q.outputs
  pub tables : Each (TableFits (length q.nodes)) q.tables
  pub filter : Some_is (Below (length q.nodes)) q.filter
  pub group : Each (Below (length q.nodes)) q.group
  pub having : Some_is (Below (length q.nodes)) q.having
  pub order : Each (KeyFits (length q.nodes)) q.order
  pub nodes : Each (NodeFits (length q.nodes)) q.nodes

columns_fit : {s : Read} {star : Bool} {ts : List Token} {os : List Output} → Columns ts s star os → Each TokenFits ts → GrowsBy OutputFits nothing_read s os
columns_fit by_star t = record { fits = tt; more = omega arith; each = tt }
columns_fit (by_outputs e) t = outputs_fit e t tt

select_fits : {ts : List Token} {q : Query} {x : List ℕ} → IsSelect ts q x → Each TokenFits ts → QueryFits q
select_fits (select {hs} {cs} {fs} {ws} {gs} {vs} {os} {a} {b} {c} {d} {e} {f} {outputs} {tables} {filter} {having} {group} {order} p o q w g v k) t =
    let t1 = right hs _ t in
    let t2 = (right cs _ t1).1 in
    let t3 = right fs _ t2 in
    let t4 = right ws _ t3 in
    let t5 = right gs _ t4 in
    let t6 = right vs _ t5 in
    let x1 = columns_fit o (left cs _ t1) in
    let x2 = tables_fit q (left fs _ t2) x1.fits in
    let x3 = clause_fits w (left ws _ t3) x2.fits in
    let x4 = group_fits g (left gs _ t4) x3.fits in
    let x5 = clause_fits v (left vs _ t5) x4.fits in
    let x6 = order_fits k t6 x5.fits in
    let m2 = x2.more in
    let m3 = x3.more in
    let m4 = x4.more in
    let m5 = x5.more in
    let m6 = x6.more in
    let k1 : length a.nodes ≤ length f.nodes = omega arith in
    let k2 : length b.nodes ≤ length f.nodes = omega arith in
    let k3 : length c.nodes ≤ length f.nodes = omega arith in
    let k4 : length d.nodes ≤ length f.nodes = omega arith in
    let k5 : length e.nodes ≤ length f.nodes = omega arith in
    record {
      outputs = each_map (OutputFits (length a.nodes)) (OutputFits (length f.nodes)) outputs (λ y h. output_more _ _ k1 y h) x1.each;
      tables = each_map (TableFits (length b.nodes)) (TableFits (length f.nodes)) tables (λ y h. table_more _ _ k2 y h) x2.each;
      filter = some_map (Below (length c.nodes)) (Below (length f.nodes)) filter (λ y h. below_more _ _ k3 y h) x3.each;
      group = each_map (Below (length d.nodes)) (Below (length f.nodes)) group (λ y h. below_more _ _ k4 y h) x4.each;
      having = some_map (Below (length e.nodes)) (Below (length f.nodes)) having (λ y h. below_more _ _ k5 y h) x5.each;
      order = x6.each;
      nodes = x6.fits;
    }

pub record ChangeFits (name : List ℕ) (filter : Option ℕ) (nodes : List Node) : Type 0 where
  pub short : Short name
  pub below : Some_is (Below (length nodes)) filter
  pub each : Each (NodeFits (length nodes)) nodes

abbrev pub CommandFits : CommandTree → Type 0
CommandFits (CreateTable t) = Short t.name × Each NewFits t.columns
CommandFits (CreateIndex i) = Short i.name × Short i.table × Each Short i.columns
CommandFits (InsertRows i) = Short i.table × Each Short i.columns × Each (NotOver (length i.values)) i.ends
CommandFits (UpdateRows u) = ChangeFits u.table u.filter u.nodes × Each (SetFits (length u.nodes)) u.sets
CommandFits (DeleteRows d) = ChangeFits d.table d.filter d.nodes
CommandFits (Vacuum t) = Short t
CommandFits (SelectRows q) = QueryFits q
CommandFits (OpenCursor c q) = Short c × QueryFits q
CommandFits (Start c n) = Short c
CommandFits (Work n) = ⊤
CommandFits (Fetch c n) = Short c
CommandFits (Close c) = Short c
CommandFits (Pool n) = ⊤
CommandFits (Mpl n) = ⊤
CommandFits ShowMemory = ⊤

command_fits : {ts : List Token} {c : CommandTree} {x : List ℕ} → IsCommand ts c x → Each TokenFits ts → CommandFits c
command_fits (create_table {ts} n i e) t = (not_long n i t.1.1.0, news_fit e (left ts (close_sign ∷ []) t.1.1.1.1))
command_fits (create_index {us} {ts} i n u j k e) t =
    let w = (right us (key (codes "index") ∷ Word i ∷ key (codes "on") ∷ Word n ∷ open_sign ∷ (ts ++ close_sign ∷ [])) t.1).1 in
    (not_long i j w.0, not_long n k w.1.1.0, names_fit e (left ts (close_sign ∷ []) w.1.1.1.1))
command_fits (insert {ts} {us} n i e g) t = (not_long n i t.1.1.0, listed_names_fit e (left ts (key (codes "values") ∷ us) t.1.1.1), tuples_fit g)
command_fits (update {ts} {us} {r} {s} {xs} {f} n i e g) t =
    let a = sets_fit e (left ts us t.1.1.1) tt in
    let b = clause_fits g (right ts us t.1.1.1) a.fits in
    let m = b.more in (
      record { short = not_long n i t.1.0; below = b.each; each = b.fits },
      each_map (SetFits (length r.nodes)) (SetFits (length s.nodes)) xs (λ y h. set_more _ _ m y h) a.each,
    )
command_fits (delete n i e) t = let b = clause_fits e t.1.1.1 tt in record { short = not_long n i t.1.1.0; below = b.each; each = b.fits }
command_fits (vacuum n i) t = not_long n i t.1.0
command_fits (select e) t = select_fits e t
command_fits (open_cursor c i e) t = (not_long c i t.1.0, select_fits e t.1.1.1)
command_fits (start c ds i) t = not_long c i t.1.0
command_fits (work ds) t = tt
command_fits (fetch c ds i) t = not_long c i t.1.0
command_fits (close c i) t = not_long c i t.1.0
command_fits (pool ds) t = tt
command_fits (mpl ds) t = tt
command_fits show_memory t = tt

pub line_fits : {ts : List Token} {c : CommandTree} {x : List ℕ} → IsLine ts c x → Each TokenFits ts → CommandFits c
line_fits (bare e) t = command_fits e t
line_fits (ended {ts} e) t = command_fits e (left ts (semicolon ∷ []) t)
