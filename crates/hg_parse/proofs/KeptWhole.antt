-- A tree that is not too large is kept whole.
use Rattle.std.proofs.Common.{◌≡◌, ◌<◌, ◌≤◌, ◌^◌, ℕ, zero, suc, Bool, true, false, ◌&&◌, ◌||◌, List, [], ◌∷◌, Option, Some, None, length, take, map, min, refl, ap, ◌∙◌, arith}
use Rattle.std.specs.Prelude.{not, nat_lt, nat_le, ⊤, if◌then◌else◌}
use Rattle.std.specs.List.{list_any}
use Rattle.std.specs.Option.{option_map}
use Rattle.std.proofs.lemmas.Bool.{lt-ltb}
use Rattle.std.proofs.lemmas.Bool.Decides.{nat_tests}
use Rattle.hg_model.specs.Query.{Query}
use Rattle.hg_model.specs.Reading.{first_count, is_long_literal, has_long_number, is_bad_type, is_bad_key, is_bad_count}
use Rattle.hg_model.specs.Statements.{CommandTree, CreateTable, CreateIndex, InsertRows, UpdateRows, DeleteRows, Vacuum, SelectRows, OpenCursor, Start, Work, Fetch, Close, Pool, Mpl}
use Rattle.hg_model.specs.declared.trees.ColRef.{ColRef}
use Rattle.hg_model.specs.declared.trees.Count.{Count}
use Rattle.hg_model.specs.declared.trees.Count.TheVariants as count
use Rattle.hg_model.specs.declared.trees.FromTable.{FromTable}
use Rattle.hg_model.specs.declared.trees.Literal.{Literal}
use Rattle.hg_model.specs.declared.trees.Literal.TheVariants as literal
use Rattle.hg_model.specs.declared.trees.NewColumn.{NewColumn}
use Rattle.hg_model.specs.declared.trees.Node.{Node}
use Rattle.hg_model.specs.declared.trees.Node.TheVariants as node
use Rattle.hg_model.specs.declared.trees.OrderBy.{OrderBy}
use Rattle.hg_model.specs.declared.trees.OrderBy.TheVariants.{Position, Column as ByColumn}
use Rattle.hg_model.specs.declared.trees.OrderKey.{OrderKey}
use Rattle.hg_model.specs.declared.trees.Output.{Output}
use Rattle.hg_model.specs.declared.trees.SqlType.{SqlType}
use Rattle.hg_model.specs.declared.trees.SqlType.TheVariants.{Varchar}
use Rattle.hg_parse.proofs.Fitting.{Each, Some_is, Short, ColumnFits, NodeFits}
use Rattle.hg_parse.proofs.FittingParts.{Below, OutputFits, TableFits, ByFits, KeyFits, SetFits, NewFits, NotOver, QueryFits, ChangeFits, CommandFits}
use Rattle.hg_parse.specs.Building.{Draft}
use Rattle.hg_parse.specs.Judging.{bad_kept, too_many_kept, columns_kept, in_insert, in_select, nodes_kept}
use Rattle.hg_parse.specs.Keeping.{Kept, kept_of, cap, cap_wide, cap_form, cap_heading, short_name, short_literal, short_column, short_node, short_output, short_table, short_by, short_key, short_type, short_new_column, short_set}
use Rattle.hg_parse.specs.Rules.{Heading, Form, TableForm, IndexForm, InsertForm, UpdateForm, DeleteForm, VacuumForm, SelectForm, OpenForm, StartForm, WorkForm, FetchForm, CloseForm, PoolForm, MplForm, MemoryForm, tree_of, query_by}
use Rattle.hg_parse.specs.Statements.{tree_in, short_form, short_count, query_in, at_heading}

take_all : {X : Type 0} (n : ℕ) (xs : List X) → length xs ≤ n → take n xs ≡ xs
take_all zero [] h = refl
take_all zero (x ∷ xs) h = absurd (omega arith)
take_all (suc n) [] h = refl
take_all (suc n) (x ∷ xs) h = ap (λ l. x ∷ l) (take_all n xs (omega arith))

map_same : {X : Type 0} (P : X → Type 0) (f : X → X) (xs : List X) → ((x : X) → P x → f x ≡ x) → Each P xs → map f xs ≡ xs
map_same P f [] h e = refl
map_same P f (x ∷ xs) h e = ap (λ y. y ∷ map f xs) (h x e.0) ∙ ap (λ l. x ∷ l) (map_same P f xs h e.1)

front_whole : {X : Type 0} (P : X → Type 0) (f : X → X) (n : ℕ) (xs : List X) → ((x : X) → P x → f x ≡ x) → Each P xs → length xs ≤ n → take n (map f xs) ≡ xs
front_whole P f n xs h e l = ap (take n) (map_same P f xs h e) ∙ take_all n xs l

option_same : {X : Type 0} (P : X → Type 0) (f : X → X) (o : Option X) → ((x : X) → P x → f x ≡ x) → Some_is P o → option_map f o ≡ o
option_same P f None h e = refl
option_same P f (Some x) h e = ap Some (h x e)

abbrev Both_of : {X : Type 0} → (X → Type 0) → (X → Bool) → X → Type 0
Both_of P t x = P x × (t x ≡ false)

yes_no : true ≡ false → ⊥
yes_no h = cc

or_left : (a b : Bool) → (a || b) ≡ false → a ≡ false
or_left false b h = refl
or_left true b h = absurd (yes_no h)

or_right : (a b : Bool) → (a || b) ≡ false → b ≡ false
or_right false b h = h
or_right true b h = absurd (yes_no h)

pub each_no : {X : Type 0} (t : X → Bool) (xs : List X) → list_any t xs ≡ false → Each (λ x. t x ≡ false) xs
each_no t [] h = tt
each_no t (x ∷ xs) h = (or_left (t x) (list_any t xs) h, each_no t xs (or_right (t x) (list_any t xs) h))

each_and : {X : Type 0} (P : X → Type 0) (t : X → Bool) (xs : List X) → Each P xs → list_any t xs ≡ false → Each (Both_of P t) xs
each_and P t [] e h = tt
each_and P t (x ∷ xs) e h = ((e.0, or_left (t x) (list_any t xs) h), each_and P t xs e.1 (or_right (t x) (list_any t xs) h))

each_true : {X : Type 0} (xs : List X) → Each (λ x. ⊤) xs
each_true [] = tt
each_true (x ∷ xs) = (tt, each_true xs)

name_same : (w : List ℕ) → Short w → short_name w ≡ w
name_same w h = take_all 30 w h

cap_same : (k n : ℕ) → k ≤ 96 → n < k → cap n ≡ n
cap_same k n h l = omega arith

wide_same : (k n : ℕ) → k ≤ 1024 → n ≤ k → cap_wide n ≡ n
wide_same k n h l = omega arith

abbrev column_of : Option (List ℕ) → List ℕ → ColRef
column_of t c = record { table = t; name = c }

column_same : (c : ColRef) → ColumnFits c → short_column c ≡ c
column_same c h =
    ap (λ t. column_of t (short_name c.name)) (option_same Short short_name c.table name_same h.0) ∙ ap (column_of c.table) (name_same c.name h.1)

literal_same : (l : Literal) → is_long_literal l ≡ false → short_literal l ≡ l
literal_same l h = ap (λ b. if b then literal.Null else l) h

node_same : (k : ℕ) → k ≤ 96 → (n : Node) → Both_of (NodeFits k) has_long_number n → short_node n ≡ n
node_same k h (node.Lit l) f = ap node.Lit (literal_same l f.1)
node_same k h (node.Col c) f = ap node.Col (column_same c f.0)
node_same k h (node.Neg a) f = ap node.Neg (cap_same k a h f.0)
node_same k h (node.Arith o a b) f = ap (λ x. node.Arith o x (cap b)) (cap_same k a h f.0.0) ∙ ap (node.Arith o a) (cap_same k b h f.0.1)
node_same k h (node.Compare o a b) f = ap (λ x. node.Compare o x (cap b)) (cap_same k a h f.0.0) ∙ ap (node.Compare o a) (cap_same k b h f.0.1)
node_same k h (node.Both a b) f = ap (λ x. node.Both x (cap b)) (cap_same k a h f.0.0) ∙ ap (node.Both a) (cap_same k b h f.0.1)
node_same k h (node.Either a b) f = ap (λ x. node.Either x (cap b)) (cap_same k a h f.0.0) ∙ ap (node.Either a) (cap_same k b h f.0.1)
node_same k h (node.Not a) f = ap node.Not (cap_same k a h f.0)
node_same k h (node.IsNull a) f = ap node.IsNull (cap_same k a h f.0)
node_same k h (node.NotNull a) f = ap node.NotNull (cap_same k a h f.0)
node_same k h (node.Aggregate g a) f = ap (node.Aggregate g) (option_same (Below k) cap a (λ x l. cap_same k x h l) f.0)

abbrev output_with : ℕ → Option (List ℕ) → Output
output_with n w = record { node = n; name = w }

output_same : (k : ℕ) → k ≤ 96 → (o : Output) → OutputFits k o → short_output o ≡ o
output_same k h o f =
    ap (λ x. output_with x (option_map short_name o.name)) (cap_same k o.node h f.0) ∙ ap (output_with o.node) (option_same Short short_name o.name name_same f.1)

abbrev table_with : List ℕ → List ℕ → Option ℕ → FromTable
table_with t a n = record { table = t; alias = a; on = n }

table_same : (k : ℕ) → k ≤ 96 → (t : FromTable) → TableFits k t → short_table t ≡ t
table_same k h t f =
    ap (λ x. table_with x (short_name t.alias) (option_map cap t.on)) (name_same t.table f.0)
    ∙ (ap (λ x. table_with t.table x (option_map cap t.on)) (name_same t.alias f.1) ∙ ap (table_with t.table t.alias) (option_same (Below k) cap t.on (λ x l. cap_same k x h l) f.2))

by_same : (k : ℕ) → k ≤ 96 → (b : OrderBy) → ByFits k b → is_bad_key b ≡ false → short_by b ≡ b
by_same k h (Position n) f e = ap (λ x. if x then Position 0 else Position n) e
by_same k h (ByColumn n) f e = ap ByColumn (cap_same k n h f)

abbrev key_with : OrderBy → Bool → OrderKey
key_with b d = record { by = b; descending = d }

key_same : (k : ℕ) → k ≤ 96 → (o : OrderKey) → Both_of (KeyFits k) (λ (x : OrderKey). is_bad_key x.by) o → short_key o ≡ o
key_same k h o f = ap (λ b. key_with b o.descending) (by_same k h o.by f.0 f.1)

abbrev set_with : List ℕ → ℕ → List ℕ × ℕ
set_with w n = (w, n)

set_same : (k : ℕ) → k ≤ 96 → (x : List ℕ × ℕ) → SetFits k x → short_set x ≡ x
set_same k h x f = ap (λ w. set_with w (cap x.1)) (name_same x.0 f.0) ∙ ap (set_with x.0) (cap_same k x.1 h f.1)

abbrev varchar_one : SqlType
varchar_one = Varchar 1

type_same : (t : SqlType) → is_bad_type t ≡ false → short_type t ≡ t
type_same t h = ap (λ b. if b then varchar_one else t) h

abbrev new_with : List ℕ → SqlType → Bool → Bool → Bool → NewColumn
new_with c t n p u = record { column = record { name = c; ty = t; not_null = n }; primary = p; unique = u }

new_same : (c : NewColumn) → Both_of NewFits (λ (x : NewColumn). is_bad_type x.column.ty) c → short_new_column c ≡ c
new_same c f =
    ap (λ w. new_with w (short_type c.column.ty) c.column.not_null c.primary c.unique) (name_same c.column.name f.0)
    ∙ ap (λ t. new_with c.column.name t c.column.not_null c.primary c.unique) (type_same c.column.ty f.1)

-- counts that are not too great
within_cap : (n l : ℕ) → n < 255 → nat_lt n (min l 255) ≡ false → l ≤ n
within_cap n l h e = grind (arith, nat_tests)

within_wide : (n l : ℕ) → n < 65535 → nat_lt n (min l 65535) ≡ false → l ≤ n
within_wide n l h e = grind (arith, nat_tests)

no_count : (c : Count) → Some c ≡ None → ⊥
no_count c h = cc

abbrev Fails : Bool × Count → Type 0
Fails p = p.0 ≡ false

none_first : (b : Bool) (c : Count) (o : Option Count) → (if b then Some c else o) ≡ None → b ≡ false
none_first true c o h = absurd (no_count c h)
none_first false c o h = refl

none_rest : (b : Bool) (c : Count) (o : Option Count) → (if b then Some c else o) ≡ None → o ≡ None
none_rest true c o h = absurd (no_count c h)
none_rest false c o h = h

all_none : (xs : List (Bool × Count)) → first_count xs ≡ None → Each Fails xs
all_none [] h = tt
all_none (p ∷ xs) h = (none_first p.0 p.1 (first_count xs) h, all_none xs (none_rest p.0 p.1 (first_count xs) h))

abbrev counts_of : Bool → Bool → Form → Kept → List (Bool × Count)
counts_of a b f k =
    (a, count.NameLetters)
    ∷ (b, count.TextLetters)
    ∷ (nat_lt 16 (columns_kept f k), count.Columns)
    ∷ (nat_lt 64 (in_insert f k.ends.count), count.Rows)
    ∷ (nat_lt 1024 (in_insert f k.values.count), count.Values)
    ∷ (nat_lt 4 (in_select f k.tables.count), count.TablesInFrom)
    ∷ (nat_lt 16 (in_select f k.outputs.count), count.Outputs)
    ∷ (nat_lt 16 (in_select f k.group.count), count.GroupColumns)
    ∷ (nat_lt 8 (in_select f k.order.count), count.OrderKeys)
    ∷ (nat_lt 96 (nodes_kept f k), count.Nodes)
    ∷ []

pub record Few (a b : Bool) (f : Form) (k : Kept) : Type 0 where
  pub names : a ≡ false
  pub texts : b ≡ false
  pub columns : nat_lt 16 (columns_kept f k) ≡ false
  pub rows : nat_lt 64 (in_insert f k.ends.count) ≡ false
  pub values : nat_lt 1024 (in_insert f k.values.count) ≡ false
  pub tables : nat_lt 4 (in_select f k.tables.count) ≡ false
  pub outputs : nat_lt 16 (in_select f k.outputs.count) ≡ false
  pub group : nat_lt 16 (in_select f k.group.count) ≡ false
  pub order : nat_lt 8 (in_select f k.order.count) ≡ false
  pub nodes : nat_lt 96 (nodes_kept f k) ≡ false

pub few : (a b : Bool) (f : Form) (k : Kept) → too_many_kept a b f k ≡ None → Few a b f k
few a b f k h =
    let e : Each Fails (counts_of a b f k) = all_none (counts_of a b f k) h in
    record {
      names = e.0;
      texts = e.1.0;
      columns = e.1.1.0;
      rows = e.1.1.1.0;
      values = e.1.1.1.1.0;
      tables = e.1.1.1.1.1.0;
      outputs = e.1.1.1.1.1.1.0;
      group = e.1.1.1.1.1.1.1.0;
      order = e.1.1.1.1.1.1.1.1.0;
      nodes = e.1.1.1.1.1.1.1.1.1.0;
    }

nodes_whole : (g : Draft) → Each (NodeFits (length g.read.nodes)) g.read.nodes → list_any has_long_number g.read.nodes ≡ false → length g.read.nodes ≤ 96
    → (kept_of g).nodes.items ≡ g.read.nodes
nodes_whole g e b l =
    front_whole (Both_of (NodeFits (length g.read.nodes)) has_long_number) short_node 96 g.read.nodes (node_same (length g.read.nodes) l)
    (each_and (NodeFits (length g.read.nodes)) has_long_number g.read.nodes e b) l

abbrev query_with : Bool → Bool → List Output → List FromTable → Option ℕ → List ℕ → Option ℕ → List OrderKey → List Node → Query
query_with d s os ts f gs h ks ns = record { distinct = d; star = s; outputs = os; tables = ts; filter = f; group = gs; having = h; order = ks; nodes = ns }

query_whole : (h : Heading) (g : Draft) → QueryFits (query_by h g) → list_any has_long_number g.read.nodes ≡ false → list_any (λ (o : OrderKey). is_bad_key o.by) g.order ≡ false
    → length g.read.nodes ≤ 96 → length g.outputs ≤ 16 → length g.tables ≤ 4 → length g.group ≤ 16 → length g.order ≤ 8
    → query_in (at_heading (cap_heading h)) (kept_of g) ≡ query_by h g
query_whole h g q b c ln lo lt lg lk =
    let k = kept_of g in
    let n = length g.read.nodes in
    let eo : k.outputs.items ≡ g.outputs = front_whole (OutputFits n) short_output 16 g.outputs (output_same n ln) q.outputs lo in
    let et : k.tables.items ≡ g.tables = front_whole (TableFits n) short_table 4 g.tables (table_same n ln) q.tables lt in
    let ef : option_map cap h.filter ≡ h.filter = option_same (Below n) cap h.filter (λ x l. cap_same n x ln l) q.filter in
    let eg : k.group.items ≡ g.group = front_whole (Below n) cap 16 g.group (λ x l. cap_same n x ln l) q.group lg in
    let eh : option_map cap h.having ≡ h.having = option_same (Below n) cap h.having (λ x l. cap_same n x ln l) q.having in
    let ek : k.order.items ≡ g.order = front_whole (Both_of (KeyFits n) (λ (o : OrderKey). is_bad_key o.by)) short_key 8 g.order (key_same n ln)
    (each_and (KeyFits n) (λ (o : OrderKey). is_bad_key o.by) g.order q.order c) lk in
    let en : k.nodes.items ≡ g.read.nodes = nodes_whole g q.nodes b ln in
    ap (λ x. query_with h.distinct h.star x k.tables.items (option_map cap h.filter) k.group.items (option_map cap h.having) k.order.items k.nodes.items) eo
    ∙ (ap (λ x. query_with h.distinct h.star g.outputs x (option_map cap h.filter) k.group.items (option_map cap h.having) k.order.items k.nodes.items) et
    ∙ (ap (λ x. query_with h.distinct h.star g.outputs g.tables x k.group.items (option_map cap h.having) k.order.items k.nodes.items) ef
    ∙ (ap (λ x. query_with h.distinct h.star g.outputs g.tables h.filter x (option_map cap h.having) k.order.items k.nodes.items) eg
    ∙ (ap (λ x. query_with h.distinct h.star g.outputs g.tables h.filter g.group x k.order.items k.nodes.items) eh
    ∙ (ap (λ x. query_with h.distinct h.star g.outputs g.tables h.filter g.group h.having x k.nodes.items) ek
    ∙ ap (λ x. query_with h.distinct h.star g.outputs g.tables h.filter g.group h.having g.order x) en)))))

below_count : (n : ℕ) → is_bad_count n ≡ false → n < 2 ^ 32
below_count n h = grind (arith, nat_tests)

below_pool : (max n : ℕ) → max < 2 ^ 32 → not (nat_le 16 n && nat_le n max) ≡ false → n < 2 ^ 32
below_pool max n m h = grind (arith, nat_tests)

below_mpl : (n : ℕ) → not (nat_le 1 n && nat_le n 16) ≡ false → n < 2 ^ 32
below_mpl n h = grind (arith, nat_tests)

count_same : (n : ℕ) → n < 2 ^ 32 → short_count n ≡ n
count_same n h = ap (λ b. if b then n else 0) (lt-ltb n (2 ^ 32) h)

abbrev table_tree : List ℕ → List NewColumn → CommandTree
table_tree t cs = CreateTable (record { name = t; columns = cs })

abbrev index_tree : Bool → List ℕ → List ℕ → List (List ℕ) → CommandTree
index_tree u i t cs = CreateIndex (record { name = i; table = t; unique = u; columns = cs })

abbrev insert_tree : List ℕ → List (List ℕ) → List Literal → List ℕ → CommandTree
insert_tree t cs vs es = InsertRows (record { table = t; columns = cs; values = vs; ends = es })

abbrev update_tree : List ℕ → List (List ℕ × ℕ) → Option ℕ → List Node → CommandTree
update_tree t xs f ns = UpdateRows (record { table = t; sets = xs; filter = f; nodes = ns })

abbrev delete_tree : List ℕ → Option ℕ → List Node → CommandTree
delete_tree t f ns = DeleteRows (record { table = t; filter = f; nodes = ns })

names_whole : (cs : List (List ℕ)) → Each Short cs → length cs ≤ 16 → take 16 (map short_name cs) ≡ cs
names_whole cs e l = front_whole Short short_name 16 cs name_same e l

insert_whole : (t : List ℕ) (g : Draft) → Short t → Each Short g.names → Each (NotOver (length g.values)) g.ends → list_any is_long_literal g.values ≡ false
    → length g.names ≤ 16 → length g.ends ≤ 64 → length g.values ≤ 1024
    → insert_tree (short_name t) (kept_of g).names.items (kept_of g).values.items (kept_of g).ends.items ≡ insert_tree t g.names g.values g.ends
insert_whole t g st sn se b ln le lv =
    let k = kept_of g in
    let en : k.names.items ≡ g.names = names_whole g.names sn ln in
    let ev : k.values.items ≡ g.values = front_whole (λ l. is_long_literal l ≡ false) short_literal 1024 g.values literal_same (each_no is_long_literal g.values b) lv in
    let ee : k.ends.items ≡ g.ends = front_whole (NotOver (length g.values)) cap_wide 64 g.ends (λ x l. wide_same (length g.values) x lv l) se le in
    ap (λ x. insert_tree x k.names.items k.values.items k.ends.items) (name_same t st)
    ∙ (ap (λ x. insert_tree t x k.values.items k.ends.items) en ∙ (ap (λ x. insert_tree t g.names x k.ends.items) ev ∙ ap (insert_tree t g.names g.values) ee))

update_whole : (t : List ℕ) (f : Option ℕ) (g : Draft) → ChangeFits t f g.read.nodes → Each (SetFits (length g.read.nodes)) g.sets → list_any has_long_number g.read.nodes ≡ false
    → length g.sets ≤ 16 → length g.read.nodes ≤ 96
    → update_tree (short_name t) (kept_of g).sets.items (option_map cap f) (kept_of g).nodes.items ≡ update_tree t g.sets f g.read.nodes
update_whole t f g c e b ls ln =
    let k = kept_of g in
    let n = length g.read.nodes in
    let es : k.sets.items ≡ g.sets = front_whole (SetFits n) short_set 16 g.sets (set_same n ln) e ls in
    let ef : option_map cap f ≡ f = option_same (Below n) cap f (λ x l. cap_same n x ln l) c.below in
    ap (λ x. update_tree x k.sets.items (option_map cap f) k.nodes.items) (name_same t c.short)
    ∙ (ap (λ x. update_tree t x (option_map cap f) k.nodes.items) es ∙ (ap (λ x. update_tree t g.sets x k.nodes.items) ef ∙ ap (update_tree t g.sets f) (nodes_whole g c.each b ln)))

delete_whole : (t : List ℕ) (f : Option ℕ) (g : Draft) → ChangeFits t f g.read.nodes → list_any has_long_number g.read.nodes ≡ false → length g.read.nodes ≤ 96
    → delete_tree (short_name t) (option_map cap f) (kept_of g).nodes.items ≡ delete_tree t f g.read.nodes
delete_whole t f g c b ln =
    let n = length g.read.nodes in
    let ef : option_map cap f ≡ f = option_same (Below n) cap f (λ x l. cap_same n x ln l) c.below in
    ap (λ x. delete_tree x (option_map cap f) (kept_of g).nodes.items) (name_same t c.short)
    ∙ (ap (λ x. delete_tree t x (kept_of g).nodes.items) ef ∙ ap (delete_tree t f) (nodes_whole g c.each b ln))

select_whole : (max : ℕ) (a b : Bool) (h : Heading) (g : Draft) → QueryFits (query_by h g) → bad_kept max (SelectForm h) (kept_of g) ≡ false → Few a b (SelectForm h) (kept_of g)
    → query_in (at_heading (cap_heading h)) (kept_of g) ≡ query_by h g
select_whole max a b h g q e m =
    query_whole h g q (or_left (list_any has_long_number g.read.nodes) (list_any (λ (o : OrderKey). is_bad_key o.by) g.order) e)
    (or_right (list_any has_long_number g.read.nodes) (list_any (λ (o : OrderKey). is_bad_key o.by) g.order) e)
    (within_cap 96 (length g.read.nodes) (omega arith) m.nodes) (within_cap 16 (length g.outputs) (omega arith) m.outputs)
    (within_cap 4 (length g.tables) (omega arith) m.tables) (within_cap 16 (length g.group) (omega arith) m.group) (within_cap 8 (length g.order) (omega arith) m.order)

-- a statement in range, and not too large, is kept whole
pub kept_whole : (max : ℕ) (a b : Bool) (f : Form) (g : Draft) → max < 2 ^ 32 → CommandFits (tree_of f g) → bad_kept max f (kept_of g) ≡ false → Few a b f (kept_of g)
    → tree_in (short_form (cap_form f)) (kept_of g) ≡ tree_of f g
kept_whole max a b (TableForm t) g x c e m =
    let l : length g.columns ≤ 16 = within_cap 16 (length g.columns) (omega arith) m.columns in
    ap (λ n. table_tree n (kept_of g).columns.items) (name_same t c.0)
    ∙ ap (table_tree t) (front_whole (Both_of NewFits (λ (n : NewColumn). is_bad_type n.column.ty)) short_new_column 16 g.columns new_same
    (each_and NewFits (λ (n : NewColumn). is_bad_type n.column.ty) g.columns c.1 e) l)
kept_whole max a b (IndexForm u i t) g x c e m =
    ap (λ n. index_tree u n (short_name t) (kept_of g).names.items) (name_same i c.0)
    ∙ (ap (λ n. index_tree u i n (kept_of g).names.items) (name_same t c.1) ∙ ap (index_tree u i t) (names_whole g.names c.2 (within_cap 16 (length g.names) (omega arith) m.columns)))
kept_whole max a b (InsertForm t) g x c e m =
    insert_whole t g c.0 c.1 c.2 e (within_cap 16 (length g.names) (omega arith) m.columns) (within_cap 64 (length g.ends) (omega arith) m.rows)
    (within_wide 1024 (length g.values) (omega arith) m.values)
kept_whole max a b (UpdateForm t f) g x c e m =
    update_whole t f g c.0 c.1 e (within_cap 16 (length g.sets) (omega arith) m.columns) (within_cap 96 (length g.read.nodes) (omega arith) m.nodes)
kept_whole max a b (DeleteForm t f) g x c e m = delete_whole t f g c e (within_cap 96 (length g.read.nodes) (omega arith) m.nodes)
kept_whole max a b (VacuumForm t) g x c e m = ap Vacuum (name_same t c)
kept_whole max a b (SelectForm h) g x c e m = ap SelectRows (select_whole max a b h g c e m)
kept_whole max a b (OpenForm n h) g x c e m =
    ap (λ w. OpenCursor w (query_in (at_heading (cap_heading h)) (kept_of g))) (name_same n c.0)
    ∙ ap (OpenCursor n) (select_whole max a b h g c.1 e
    (record { names = m.names; texts = m.texts; columns = m.columns; rows = m.rows; values = m.values; tables = m.tables; outputs = m.outputs; group = m.group; order = m.order; nodes = m.nodes }))
kept_whole max a b (StartForm n k) g x c e m = ap (λ w. Start w (short_count k)) (name_same n c) ∙ ap (Start n) (count_same k (below_count k e))
kept_whole max a b (WorkForm k) g x c e m = ap Work (count_same k (below_count k e))
kept_whole max a b (FetchForm n k) g x c e m = ap (λ w. Fetch w (short_count k)) (name_same n c) ∙ ap (Fetch n) (count_same k (below_count k e))
kept_whole max a b (CloseForm n) g x c e m = ap Close (name_same n c)
kept_whole max a b (PoolForm k) g x c e m = ap Pool (count_same k (below_pool max k x e))
kept_whole max a b (MplForm k) g x c e m = ap Mpl (count_same k (below_mpl k e))
kept_whole max a b MemoryForm g x c e m = refl
