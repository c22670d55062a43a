-- What the parser keeps of a draft: as much of each list as a statement may have, and counts. A count stops at
-- the greatest number of its type, names are kept up to 30 letters, and a number that is out of range is only
-- marked. So what is kept is a function of the draft, and the parser builds it without the draft.
use Rattle.std.specs.Prelude.{ℕ, Bool, List, [], ◌∷◌, ◌++◌, ◌+◌, ◌||◌, Some, None, length, take, map, min, nat_lt, if◌then◌else◌}
use Rattle.std.specs.List.{list_any}
use Rattle.std.specs.Option.{option_map}
use Rattle.hg_model.specs.Reading.{is_long_literal, has_long_number, is_bad_type, is_bad_key}
use Rattle.hg_model.specs.declared.trees.ColRef.{ColRef}
use Rattle.hg_model.specs.declared.trees.FromTable.{FromTable}
use Rattle.hg_model.specs.declared.trees.Literal.{Literal}
use Rattle.hg_model.specs.declared.trees.Literal.TheVariants as literal
use Rattle.hg_model.specs.declared.trees.NewColumn.{NewColumn}
use Rattle.hg_model.specs.declared.trees.Node.{Node}
use Rattle.hg_model.specs.declared.trees.Node.TheVariants as node
use Rattle.hg_model.specs.declared.trees.OrderBy.{OrderBy}
use Rattle.hg_model.specs.declared.trees.OrderBy.TheVariants.{Position, Column as ByColumn}
use Rattle.hg_model.specs.declared.trees.OrderKey.{OrderKey}
use Rattle.hg_model.specs.declared.trees.Output.{Output}
use Rattle.hg_model.specs.declared.trees.SqlType.{SqlType}
use Rattle.hg_model.specs.declared.trees.SqlType.TheVariants.{Varchar}
use Rattle.hg_parse.specs.Building.{Builder, Draft}
use Rattle.hg_parse.specs.Rules.{Heading, Form, TableForm, IndexForm, InsertForm, UpdateForm, DeleteForm, VacuumForm, SelectForm, OpenForm, StartForm, WorkForm, FetchForm, CloseForm, PoolForm, MplForm, MemoryForm}
use Rattle.hg_parse.specs.Steps.{Answer, got}

-- an index or a count of 8 bits
abbrev pub cap : ℕ → ℕ
cap n = min n 255

abbrev pub cap_wide : ℕ → ℕ
cap_wide n = min n 65535

abbrev pub short_name : List ℕ → List ℕ
short_name w = take 30 w

abbrev pub short_literal : Literal → Literal
short_literal l = if is_long_literal l then literal.Null else l

abbrev pub short_column : ColRef → ColRef
short_column c = record { table = option_map short_name c.table; name = short_name c.name }

abbrev pub short_node : Node → Node
short_node (node.Lit l) = node.Lit (short_literal l)
short_node (node.Col c) = node.Col (short_column c)
short_node (node.Neg a) = node.Neg (cap a)
short_node (node.Arith o a b) = node.Arith o (cap a) (cap b)
short_node (node.Compare o a b) = node.Compare o (cap a) (cap b)
short_node (node.Both a b) = node.Both (cap a) (cap b)
short_node (node.Either a b) = node.Either (cap a) (cap b)
short_node (node.Not a) = node.Not (cap a)
short_node (node.IsNull a) = node.IsNull (cap a)
short_node (node.NotNull a) = node.NotNull (cap a)
short_node (node.Aggregate f a) = node.Aggregate f (option_map cap a)

abbrev pub short_output : Output → Output
short_output o = record { node = cap o.node; name = option_map short_name o.name }

abbrev pub short_table : FromTable → FromTable
short_table t = record { table = short_name t.table; alias = short_name t.alias; on = option_map cap t.on }

abbrev pub short_by : OrderBy → OrderBy
short_by (Position k) = if is_bad_key (Position k) then Position 0 else Position k
short_by (ByColumn n) = ByColumn (cap n)

abbrev pub short_key : OrderKey → OrderKey
short_key k = record { by = short_by k.by; descending = k.descending }

abbrev pub short_type : SqlType → SqlType
short_type t = if is_bad_type t then Varchar 1 else t

abbrev pub short_new_column : NewColumn → NewColumn
short_new_column c = record { column = record { name = short_name c.column.name; ty = short_type c.column.ty; not_null = c.column.not_null }; primary = c.primary; unique = c.unique }

abbrev pub short_set : List ℕ × ℕ → List ℕ × ℕ
short_set x = (short_name x.0, cap x.1)

-- a list of which so many are kept, and how many there were
pub record Front (X : Type 0) : Type 0 where
  pub items : List X
  pub count : ℕ

abbrev pub front : {X Y : Type 0} → ℕ → (X → Y) → List X → Front Y
front most short xs = record { items = take most (map short xs); count = cap (length xs) }

-- one more item
abbrev pub pushed : {X : Type 0} → ℕ → Front X → X → Front X
pushed most f x = record { items = if nat_lt f.count most then f.items ++ x ∷ [] else f.items; count = cap (f.count + 1) }

abbrev pub wide_front : {X Y : Type 0} → ℕ → (X → Y) → List X → Front Y
wide_front most short xs = record { items = take most (map short xs); count = cap_wide (length xs) }

abbrev pub wide_pushed : {X : Type 0} → ℕ → Front X → X → Front X
wide_pushed most f x = record { items = if nat_lt f.count most then f.items ++ x ∷ [] else f.items; count = cap_wide (f.count + 1) }

pub record Kept : Type 0 where
  pub nodes : Front Node
  pub texts : List ℕ
  pub outputs : Front Output
  pub tables : Front FromTable
  pub group : Front ℕ
  pub order : Front OrderKey
  pub columns : Front NewColumn
  pub names : Front (List ℕ)
  pub sets : Front (List ℕ × ℕ)
  pub values : Front Literal
  pub ends : Front ℕ
  pub bad_node : Bool
  pub bad_key : Bool
  pub bad_type : Bool
  pub bad_value : Bool

abbrev pub kept_of : Draft → Kept
kept_of g = record {
  nodes = front 96 short_node g.read.nodes;
  texts = g.read.texts;
  outputs = front 16 short_output g.outputs;
  tables = front 4 short_table g.tables;
  group = front 16 cap g.group;
  order = front 8 short_key g.order;
  columns = front 16 short_new_column g.columns;
  names = front 16 short_name g.names;
  sets = front 16 short_set g.sets;
  values = wide_front 1024 short_literal g.values;
  ends = front 64 cap_wide g.ends;
  bad_node = list_any has_long_number g.read.nodes;
  bad_key = list_any (λ (k : OrderKey). is_bad_key k.by) g.order;
  bad_type = list_any (λ (c : NewColumn). is_bad_type c.column.ty) g.columns;
  bad_value = list_any is_long_literal g.values;
}

abbrev pub text_kept : Kept → List ℕ → Literal
text_kept k t = literal.Text (record { at = length k.texts; len = length t })

abbrev pub keeping : Builder Kept
keeping = record {
  next = λ k. k.nodes.count;
  node = λ k n. record k { nodes = pushed 96 k.nodes (short_node n); bad_node = k.bad_node || has_long_number n };
  text = λ k t. record k { nodes = pushed 96 k.nodes (node.Lit (text_kept k t)); texts = k.texts ++ t };
  output = λ k o. record k { outputs = pushed 16 k.outputs (short_output o) };
  table = λ k t. record k { tables = pushed 4 k.tables (short_table t) };
  group = λ k n. record k { group = pushed 16 k.group (cap n) };
  key = λ k o. record k { order = pushed 8 k.order (short_key o); bad_key = k.bad_key || is_bad_key o.by };
  column = λ k c. record k { columns = pushed 16 k.columns (short_new_column c); bad_type = k.bad_type || is_bad_type c.column.ty };
  name = λ k w. record k { names = pushed 16 k.names (short_name w) };
  set = λ k w n. record k { sets = pushed 16 k.sets (short_name w, cap n) };
  value = λ k v. record k { values = wide_pushed 1024 k.values (short_literal v); bad_value = k.bad_value || is_long_literal v };
  text_value = λ k t. record k { texts = k.texts ++ t; values = wide_pushed 1024 k.values (text_kept k t) };
  row = λ k. record k { ends = pushed 64 k.ends k.values.count };
}

-- an answer as it is kept
abbrev pub image : {X Y : Type 0} → (X → Y) → Answer Draft X → Answer Kept Y
image f None = None
image f (Some g) = got (kept_of g.state) (f g.value) g.rest

abbrev pub cap_heading : Heading → Heading
cap_heading h = record { distinct = h.distinct; star = h.star; filter = option_map cap h.filter; having = option_map cap h.having }

abbrev pub cap_form : Form → Form
cap_form (UpdateForm t f) = UpdateForm t (option_map cap f)
cap_form (DeleteForm t f) = DeleteForm t (option_map cap f)
cap_form (SelectForm h) = SelectForm (cap_heading h)
cap_form (OpenForm c h) = OpenForm c (cap_heading h)
cap_form (TableForm t) = TableForm t
cap_form (IndexForm u i t) = IndexForm u i t
cap_form (InsertForm t) = InsertForm t
cap_form (VacuumForm t) = VacuumForm t
cap_form (StartForm c n) = StartForm c n
cap_form (WorkForm n) = WorkForm n
cap_form (FetchForm c n) = FetchForm c n
cap_form (CloseForm c) = CloseForm c
cap_form (PoolForm n) = PoolForm n
cap_form (MplForm n) = MplForm n
cap_form MemoryForm = MemoryForm
