-- The descent over a statement: one function for each rule of the grammar.
use Rattle.std.specs.Prelude.{ℕ, Bool, true, false, List, [], ◌∷◌, Option, Some, None, not, pos, neg_ℤ, codes, if◌then◌else◌, ⊤}
use Rattle.hg_model.specs.Grammar.{open_sign, close_sign, comma, star, equals, semicolon}
use Rattle.hg_model.specs.Query.{Query}
use Rattle.hg_model.specs.Statements.{CommandTree, CreateTable, CreateIndex, InsertRows, UpdateRows, DeleteRows, Vacuum, SelectRows, OpenCursor, Start, Work, Fetch, Close, Pool, Mpl, ShowMemory}
use Rattle.hg_model.specs.Tables.{same_name}
use Rattle.hg_model.specs.Tokens.{Token, Word, Digits, Letters, Sign, is_reserved, number_of}
use Rattle.hg_model.specs.declared.trees.ColRef.{ColRef}
use Rattle.hg_model.specs.declared.trees.FromTable.{FromTable}
use Rattle.hg_model.specs.declared.trees.Literal.TheVariants as literal
use Rattle.hg_model.specs.declared.trees.NewColumn.{NewColumn}
use Rattle.hg_model.specs.declared.trees.Node.TheVariants as node
use Rattle.hg_model.specs.declared.trees.OrderBy.{OrderBy}
use Rattle.hg_model.specs.declared.trees.OrderBy.TheVariants.{Position, Column as ByColumn}
use Rattle.hg_model.specs.declared.trees.SqlType.{SqlType}
use Rattle.hg_model.specs.declared.trees.SqlType.TheVariants.{Integer, Varchar}
use Rattle.hg_parse.specs.Building.{Builder, Draft, plain, empty_draft}
use Rattle.hg_parse.specs.Descent.{key, name, column, whole}
use Rattle.hg_parse.specs.Steps.{Answer, got, and_then, eats, behind, after, closed, Turn, Stop, Go, chain, commas}

-- what a SELECT has beside its lists
pub record Heading : Type 0 where
  pub distinct : Bool
  pub star : Bool
  pub filter : Option ℕ
  pub having : Option ℕ

-- which command was read, with what stands in no list
pub data Form : Type 0 where
  TableForm : List ℕ → Form
  IndexForm : Bool → List ℕ → List ℕ → Form
  InsertForm : List ℕ → Form
  UpdateForm : List ℕ → Option ℕ → Form
  DeleteForm : List ℕ → Option ℕ → Form
  VacuumForm : List ℕ → Form
  SelectForm : Heading → Form
  OpenForm : List ℕ → Heading → Form
  StartForm : List ℕ → ℕ → Form
  WorkForm : ℕ → Form
  FetchForm : List ℕ → ℕ → Form
  CloseForm : List ℕ → Form
  PoolForm : ℕ → Form
  MplForm : ℕ → Form
  MemoryForm : Form

-- the constraints that a column has so far
pub record Flags : Type 0 where
  pub not_null : Bool
  pub primary : Bool
  pub unique : Bool

abbrev pub flags : Bool → Bool → Bool → Flags
flags n p u = record { not_null = n; primary = p; unique = u }

abbrev pub begins_name : List Token → Bool
begins_name (Word w ∷ ts) = not (is_reserved w)
begins_name _ = false

abbrev pub from_table : List ℕ → List ℕ → FromTable
from_table t a = record { table = t; alias = a; on = None }

abbrev pub joined_table : FromTable → ℕ → FromTable
joined_table f n = record { table = f.table; alias = f.alias; on = Some n }

abbrev pub new_column_of : List ℕ → SqlType → Flags → NewColumn
new_column_of c ty f = record { column = record { name = c; ty = ty; not_null = f.not_null }; primary = f.primary; unique = f.unique }

module _ {S : Type 0} where
  -- ref = name [[AS] name]
  abbrev pub aliased : List ℕ → S → List ℕ → List Token → Answer S FromTable
  aliased t s a ts = got s (from_table t a) ts

  abbrev pub alias : S → List ℕ → List Token → Answer S FromTable
  alias s t ts =
      if eats (key (codes "as")) ts then and_then (name s (behind ts)) (aliased t)
      else if begins_name ts then and_then (name s ts) (aliased t)
      else got s (from_table t t) ts

  abbrev pub ref : S → List Token → Answer S FromTable
  ref s ts = and_then (name s ts) alias

  -- [ASC | DESC]
  abbrev pub direction : S → List Token → Answer S Bool
  direction s ts =
      if eats (key (codes "asc")) ts then got s false (behind ts)
      else if eats (key (codes "desc")) ts then got s true (behind ts)
      else got s false ts

  -- [ALL | DISTINCT]
  abbrev pub quantifier : S → List Token → Answer S Bool
  quantifier s ts =
      if eats (key (codes "all")) ts then got s false (behind ts)
      else if eats (key (codes "distinct")) ts then got s true (behind ts)
      else got s false ts

  abbrev pub number : S → List Token → Answer S ℕ
  number s (Digits ds ∷ ts) = got s (number_of ds) ts
  number s _ = None

  -- INTEGER | INT | VARCHAR "(" number ")"
  abbrev pub varchar : S → ℕ → List Token → Answer S SqlType
  varchar s n ts = after close_sign ts (λ us. got s (Varchar n) us)

  abbrev pub type_of : S → List Token → Answer S SqlType
  type_of s ts =
      if eats (key (codes "integer")) ts then got s Integer (behind ts)
      else if eats (key (codes "int")) ts then got s Integer (behind ts)
      else after (key (codes "varchar")) ts (λ us. after open_sign us (λ vs. and_then (number s vs) varchar))

  -- {NOT NULL | PRIMARY KEY | UNIQUE}, each at most once
  abbrev pub not_null : S → Flags → List Token → Answer S Flags
  not_null s f ts = if f.not_null then None else after (key (codes "null")) ts (λ us. got s (flags true f.primary f.unique) us)

  abbrev pub primary_key : S → Flags → List Token → Answer S Flags
  primary_key s f ts = if f.primary then None else after (key (codes "key")) ts (λ us. got s (flags f.not_null true f.unique) us)

  abbrev pub unique : S → Flags → List Token → Answer S Flags
  unique s f ts = if f.unique then None else got s (flags f.not_null f.primary true) ts

  abbrev pub constraints_turn : S → Flags → List Token → Turn S Flags
  constraints_turn s f ts =
      if eats (key (codes "not")) ts then Go (not_null s f (behind ts))
      else if eats (key (codes "primary")) ts then Go (primary_key s f (behind ts))
      else if eats (key (codes "unique")) ts then Go (unique s f (behind ts))
      else Stop

  abbrev pub constraints : S → List Token → Answer S Flags
  constraints s ts = chain constraints_turn s (flags false false false) ts

module _ {S : Type 0} (b : Builder S) where
  -- [WORD or], as of WHERE and HAVING
  abbrev pub given : S → ℕ → List Token → Answer S (Option ℕ)
  given s n ts = got s (Some n) ts

  abbrev pub clause : List ℕ → S → List Token → Answer S (Option ℕ)
  clause w s ts = if eats (key w) ts then and_then (whole b s (behind ts)) given else got s None ts

  -- output = or [AS name]
  abbrev pub named_output : ℕ → S → List ℕ → List Token → Answer S ⊤
  named_output n s c ts = got (b.output s (record { node = n; name = Some c })) tt ts

  abbrev pub output_name : S → ℕ → List Token → Answer S ⊤
  output_name s n ts =
      if eats (key (codes "as")) ts then and_then (name s (behind ts)) (named_output n)
      else got (b.output s (record { node = n; name = None })) tt ts

  abbrev pub output : S → List Token → Answer S ⊤
  output s ts = and_then (whole b s ts) output_name

  -- ref {"," ref | CROSS JOIN ref | [INNER] JOIN ref ON or}
  abbrev pub listed_table : S → FromTable → List Token → Answer S ⊤
  listed_table s f ts = got (b.table s f) tt ts

  abbrev pub plain_table : S → List Token → Answer S ⊤
  plain_table s ts = and_then (ref s ts) listed_table

  abbrev pub join_on : FromTable → S → ℕ → List Token → Answer S ⊤
  join_on f s n ts = got (b.table s (joined_table f n)) tt ts

  abbrev pub on_clause : S → FromTable → List Token → Answer S ⊤
  on_clause s f ts = after (key (codes "on")) ts (λ us. and_then (whole b s us) (join_on f))

  abbrev pub joined : S → List Token → Answer S ⊤
  joined s ts = and_then (ref s ts) on_clause

  abbrev pub tables_turn : S → ⊤ → List Token → Turn S ⊤
  tables_turn s x ts =
      if eats comma ts then Go (plain_table s (behind ts))
      else if eats (key (codes "cross")) ts then Go (after (key (codes "join")) (behind ts) (λ us. plain_table s us))
      else if eats (key (codes "join")) ts then Go (joined s (behind ts))
      else if eats (key (codes "inner")) ts then Go (after (key (codes "join")) (behind ts) (λ us. joined s us))
      else Stop

  abbrev pub tables : S → List Token → Answer S ⊤
  tables s ts = and_then (plain_table s ts) (λ t x us. chain tables_turn t x us)

  -- [GROUP BY col {"," col}]
  abbrev pub grouped : S → ColRef → List Token → Answer S ⊤
  grouped s c ts = got (b.group (b.node s (node.Col c)) (b.next s)) tt ts

  abbrev pub group_column : S → List Token → Answer S ⊤
  group_column s ts = and_then (column s ts) grouped

  abbrev pub group : S → List Token → Answer S ⊤
  group s ts =
      if eats (key (codes "group")) ts then after (key (codes "by")) (behind ts) (λ us. commas group_column s us) else got s tt ts

  -- key = (number | col) [ASC | DESC]
  abbrev pub directed : OrderBy → S → Bool → List Token → Answer S ⊤
  directed by s d ts = got (b.key s (record { by = by; descending = d })) tt ts

  abbrev pub key_by : S → OrderBy → List Token → Answer S ⊤
  key_by s by ts = and_then (direction s ts) (directed by)

  abbrev pub column_key : S → ColRef → List Token → Answer S ⊤
  column_key s c ts = key_by (b.node s (node.Col c)) (ByColumn (b.next s)) ts

  abbrev pub order_key : S → List Token → Answer S ⊤
  order_key s (Digits ds ∷ ts) = key_by s (Position (number_of ds)) ts
  order_key s ts = and_then (column s ts) column_key

  -- [ORDER BY key {"," key}]
  abbrev pub order : S → List Token → Answer S ⊤
  order s ts =
      if eats (key (codes "order")) ts then after (key (codes "by")) (behind ts) (λ us. commas order_key s us) else got s tt ts

  -- "*" | output {"," output}
  abbrev pub no_star : S → ⊤ → List Token → Answer S Bool
  no_star s x ts = got s false ts

  abbrev pub columns : S → List Token → Answer S Bool
  columns s ts = if eats star ts then got s true (behind ts) else and_then (commas output s ts) no_star

  -- a SELECT behind its first word
  abbrev pub select_end : Bool → Bool → Option ℕ → Option ℕ → S → ⊤ → List Token → Answer S Heading
  select_end distinct star filter having s x ts = got s (record { distinct = distinct; star = star; filter = filter; having = having }) ts

  abbrev pub behind_having : Bool → Bool → Option ℕ → S → Option ℕ → List Token → Answer S Heading
  behind_having distinct star filter s having ts = and_then (order s ts) (select_end distinct star filter having)

  abbrev pub behind_group : Bool → Bool → Option ℕ → S → ⊤ → List Token → Answer S Heading
  behind_group distinct star filter s x ts = and_then (clause (codes "having") s ts) (behind_having distinct star filter)

  abbrev pub behind_where : Bool → Bool → S → Option ℕ → List Token → Answer S Heading
  behind_where distinct star s filter ts = and_then (group s ts) (behind_group distinct star filter)

  abbrev pub behind_tables : Bool → Bool → S → ⊤ → List Token → Answer S Heading
  behind_tables distinct star s x ts = and_then (clause (codes "where") s ts) (behind_where distinct star)

  abbrev pub behind_columns : Bool → S → Bool → List Token → Answer S Heading
  behind_columns distinct s star ts = after (key (codes "from")) ts (λ us. and_then (tables s us) (behind_tables distinct star))

  abbrev pub behind_quantifier : S → Bool → List Token → Answer S Heading
  behind_quantifier s distinct ts = and_then (columns s ts) (behind_columns distinct)

  unfoldable pub select : S → List Token → Answer S Heading
  select s ts = and_then (quantifier s ts) behind_quantifier

  -- const = ["+" | "-"] number | text | NULL
  abbrev pub positive : S → ℕ → List Token → Answer S ⊤
  positive s n ts = got (b.value s (literal.Int (pos n))) tt ts

  abbrev pub negative : S → ℕ → List Token → Answer S ⊤
  negative s n ts = got (b.value s (literal.Int (neg_ℤ (pos n)))) tt ts

  abbrev pub constant : S → List Token → Answer S ⊤
  constant s [] = None
  constant s (Word w ∷ ts) = if same_name w (codes "null") then got (b.value s literal.Null) tt ts else None
  constant s (Digits ds ∷ ts) = positive s (number_of ds) ts
  constant s (Letters t ∷ ts) = got (b.text_value s t) tt ts
  constant s (Sign w ∷ ts) =
      if same_name w (43 ∷ []) then and_then (number s ts) positive
      else if same_name w (45 ∷ []) then and_then (number s ts) negative
      else None

  -- tuple = "(" const {"," const} ")"
  abbrev pub end_row : S → ⊤ → List Token → Answer S ⊤
  end_row s x ts = got (b.row s) tt ts

  abbrev pub row : S → List Token → Answer S ⊤
  row s ts = after open_sign ts (λ us. and_then (closed (commas constant s us)) end_row)

  -- "(" name {"," name} ")"
  abbrev pub listed_name : S → List ℕ → List Token → Answer S ⊤
  listed_name s w ts = got (b.name s w) tt ts

  abbrev pub name_item : S → List Token → Answer S ⊤
  name_item s ts = and_then (name s ts) listed_name

  abbrev pub listed : S → List Token → Answer S ⊤
  listed s ts = if eats open_sign ts then closed (commas name_item s (behind ts)) else got s tt ts

  abbrev pub name_list : S → List Token → Answer S ⊤
  name_list s ts = after open_sign ts (λ us. closed (commas name_item s us))

  -- column = name type constraints
  abbrev pub constrained : List ℕ → SqlType → S → Flags → List Token → Answer S ⊤
  constrained c ty s f ts = got (b.column s (new_column_of c ty f)) tt ts

  abbrev pub typed : List ℕ → S → SqlType → List Token → Answer S ⊤
  typed c s ty ts = and_then (constraints s ts) (constrained c ty)

  abbrev pub named_column : S → List ℕ → List Token → Answer S ⊤
  named_column s c ts = and_then (type_of s ts) (typed c)

  abbrev pub new_column : S → List Token → Answer S ⊤
  new_column s ts = and_then (name s ts) named_column

  -- name "=" or
  abbrev pub set_to : List ℕ → S → ℕ → List Token → Answer S ⊤
  set_to c s n ts = got (b.set s c n) tt ts

  abbrev pub set_target : S → List ℕ → List Token → Answer S ⊤
  set_target s c ts = after equals ts (λ us. and_then (whole b s us) (set_to c))

  abbrev pub set_item : S → List Token → Answer S ⊤
  set_item s ts = and_then (name s ts) set_target

  -- CREATE TABLE name "(" column {"," column} ")"
  abbrev pub table_form : List ℕ → S → ⊤ → List Token → Answer S Form
  table_form t s x ts = got s (TableForm t) ts

  abbrev pub table_columns : S → List ℕ → List Token → Answer S Form
  table_columns s t ts = after open_sign ts (λ us. and_then (closed (commas new_column s us)) (table_form t))

  abbrev pub create_table : S → List Token → Answer S Form
  create_table s ts = and_then (name s ts) table_columns

  -- CREATE [UNIQUE] INDEX name ON name names
  abbrev pub index_form : Bool → List ℕ → List ℕ → S → ⊤ → List Token → Answer S Form
  index_form u i t s x ts = got s (IndexForm u i t) ts

  abbrev pub index_table : Bool → List ℕ → S → List ℕ → List Token → Answer S Form
  index_table u i s t ts = and_then (name_list s ts) (index_form u i t)

  abbrev pub index_name : Bool → S → List ℕ → List Token → Answer S Form
  index_name u s i ts = after (key (codes "on")) ts (λ us. and_then (name s us) (index_table u i))

  abbrev pub create_index : Bool → S → List Token → Answer S Form
  create_index u s ts = after (key (codes "index")) ts (λ us. and_then (name s us) (index_name u))

  abbrev pub create : S → List Token → Answer S Form
  create s ts =
      if eats (key (codes "table")) ts then create_table s (behind ts)
      else if eats (key (codes "unique")) ts then create_index true s (behind ts)
      else create_index false s ts

  -- INSERT INTO name [names] VALUES tuple {"," tuple}
  abbrev pub insert_form : List ℕ → S → ⊤ → List Token → Answer S Form
  insert_form t s x ts = got s (InsertForm t) ts

  abbrev pub insert_values : List ℕ → S → ⊤ → List Token → Answer S Form
  insert_values t s x ts = after (key (codes "values")) ts (λ us. and_then (commas row s us) (insert_form t))

  abbrev pub insert_into : S → List ℕ → List Token → Answer S Form
  insert_into s t ts = and_then (listed s ts) (insert_values t)

  abbrev pub insert : S → List Token → Answer S Form
  insert s ts = after (key (codes "into")) ts (λ us. and_then (name s us) insert_into)

  -- UPDATE name SET name "=" or {"," name "=" or} [WHERE or]
  abbrev pub update_form : List ℕ → S → Option ℕ → List Token → Answer S Form
  update_form t s f ts = got s (UpdateForm t f) ts

  abbrev pub update_where : List ℕ → S → ⊤ → List Token → Answer S Form
  update_where t s x ts = and_then (clause (codes "where") s ts) (update_form t)

  abbrev pub update_sets : S → List ℕ → List Token → Answer S Form
  update_sets s t ts = after (key (codes "set")) ts (λ us. and_then (commas set_item s us) (update_where t))

  abbrev pub update : S → List Token → Answer S Form
  update s ts = and_then (name s ts) update_sets

  -- DELETE FROM name [WHERE or]
  abbrev pub delete_form : List ℕ → S → Option ℕ → List Token → Answer S Form
  delete_form t s f ts = got s (DeleteForm t f) ts

  abbrev pub delete_where : S → List ℕ → List Token → Answer S Form
  delete_where s t ts = and_then (clause (codes "where") s ts) (delete_form t)

  abbrev pub delete : S → List Token → Answer S Form
  delete s ts = after (key (codes "from")) ts (λ us. and_then (name s us) delete_where)

  abbrev pub select_form : S → Heading → List Token → Answer S Form
  select_form s h ts = got s (SelectForm h) ts

  -- OPEN name FOR select
  abbrev pub open_form : List ℕ → S → Heading → List Token → Answer S Form
  open_form c s h ts = got s (OpenForm c h) ts

  abbrev pub open_for : S → List ℕ → List Token → Answer S Form
  open_for s c ts = after (key (codes "for")) ts (λ us. after (key (codes "select")) us (λ vs. and_then (select s vs) (open_form c)))

  -- commands of a name, of a number, of both
  abbrev pub of_name : (List ℕ → Form) → S → List ℕ → List Token → Answer S Form
  of_name make s c ts = got s (make c) ts

  abbrev pub of_number : (ℕ → Form) → S → ℕ → List Token → Answer S Form
  of_number make s n ts = got s (make n) ts

  abbrev pub of_both : (List ℕ → ℕ → Form) → S → List ℕ → List Token → Answer S Form
  of_both make s c ts = and_then (number s ts) (of_number (make c))

  -- a command whose first word is no reserved word
  abbrev pub soft_command : List ℕ → S → List Token → Answer S Form
  soft_command w s ts =
      if same_name w (codes "open") then and_then (name s ts) open_for
      else if same_name w (codes "start") then and_then (name s ts) (of_both StartForm)
      else if same_name w (codes "work") then and_then (number s ts) (of_number WorkForm)
      else if same_name w (codes "fetch") then and_then (name s ts) (of_both FetchForm)
      else if same_name w (codes "close") then and_then (name s ts) (of_name CloseForm)
      else if same_name w (codes "vacuum") then and_then (name s ts) (of_name VacuumForm)
      else if same_name w (codes "pool") then and_then (number s ts) (of_number PoolForm)
      else if same_name w (codes "mpl") then and_then (number s ts) (of_number MplForm)
      else if same_name w (codes "show") then after (key (codes "memory")) ts (λ us. got s MemoryForm us)
      else None

  abbrev pub command_of : List ℕ → S → List Token → Answer S Form
  command_of w s ts =
      if same_name w (codes "insert") then insert s ts
      else if same_name w (codes "select") then and_then (select s ts) select_form
      else if same_name w (codes "update") then update s ts
      else if same_name w (codes "delete") then delete s ts
      else if same_name w (codes "create") then create s ts
      else soft_command w s ts

  unfoldable pub command : S → List Token → Answer S Form
  command s (Word w ∷ ts) = command_of w s ts
  command s _ = None

abbrev pub query_by : Heading → Draft → Query
query_by h g = record { distinct = h.distinct; star = h.star; outputs = g.outputs; tables = g.tables; filter = h.filter; group = g.group; having = h.having; order = g.order; nodes = g.read.nodes }

-- the tree of a command
abbrev pub tree_of : Form → Draft → CommandTree
tree_of (TableForm t) g = CreateTable (record { name = t; columns = g.columns })
tree_of (IndexForm u i t) g = CreateIndex (record { name = i; table = t; unique = u; columns = g.names })
tree_of (InsertForm t) g = InsertRows (record { table = t; columns = g.names; values = g.values; ends = g.ends })
tree_of (UpdateForm t f) g = UpdateRows (record { table = t; sets = g.sets; filter = f; nodes = g.read.nodes })
tree_of (DeleteForm t f) g = DeleteRows (record { table = t; filter = f; nodes = g.read.nodes })
tree_of (VacuumForm t) g = Vacuum t
tree_of (SelectForm h) g = SelectRows (query_by h g)
tree_of (OpenForm c h) g = OpenCursor c (query_by h g)
tree_of (StartForm c n) g = Start c n
tree_of (WorkForm n) g = Work n
tree_of (FetchForm c n) g = Fetch c n
tree_of (CloseForm c) g = Close c
tree_of (PoolForm n) g = Pool n
tree_of (MplForm n) g = Mpl n
tree_of MemoryForm g = ShowMemory

abbrev pub is_end : List Token → Bool
is_end [] = true
is_end (t ∷ ts) = false

-- line = command [";"]
abbrev pub ends_line : List Token → Bool
ends_line ts = if eats semicolon ts then is_end (behind ts) else is_end ts

-- a command and its texts
pub record Line : Type 0 where
  pub command : CommandTree
  pub texts : List ℕ

abbrev pub line_end : Answer Draft Form → Option Line
line_end None = None
line_end (Some g) = if ends_line g.rest then Some (record { command = tree_of g.value g.state; texts = g.state.read.texts }) else None

-- the one tree of a line, if it has one
unfoldable pub line_of : List Token → Option Line
line_of ts = line_end (command plain empty_draft ts)
