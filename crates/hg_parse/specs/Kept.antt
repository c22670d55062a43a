-- What a room keeps of a statement, and how it is put there.
use Rattle.std.specs.Prelude.{ℕ, ◌+◌, ◌++◌, ◌≡◌, ◌≤◌, Bool, true, false, List, Option, Some, None, length, Result, Ok, Err, ⊤, ◌<◌}
use Rattle.std.specs.Option.{option_map}
use Rattle.hg_model.specs.declared.trees.ColRef.{ColRef}
use Rattle.hg_model.specs.declared.trees.FromTable.{FromTable}
use Rattle.hg_model.specs.declared.trees.Literal.{Literal}
use Rattle.hg_model.specs.declared.trees.NewColumn.{NewColumn}
use Rattle.hg_model.specs.declared.trees.Node.{Node}
use Rattle.hg_model.specs.declared.trees.OrderBy.{OrderBy}
use Rattle.hg_model.specs.declared.trees.OrderBy.TheVariants.{Position, Column as ByColumn}
use Rattle.hg_model.specs.declared.trees.OrderKey.{OrderKey}
use Rattle.hg_model.specs.declared.trees.Output.{Output}
use Rattle.hg_model.specs.declared.trees.Span.{Span}
use Rattle.hg_model.specs.declared.trees.SqlType.{SqlType}
use Rattle.hg_model.specs.declared.trees.SqlType.TheVariants.{Integer, Varchar}
use Rattle.hg_parse.specs.AtHand.{word_at, number_at, tokens, left, GoesOn}
use Rattle.hg_parse.specs.Building.{Builder}
use Rattle.hg_parse.specs.Keeping.{Kept, Front, keeping, pushed, wide_pushed}
use Rattle.hg_parse.specs.Rules.{Flags, flags, from_table, Heading, Form, TableForm, IndexForm, InsertForm, UpdateForm, DeleteForm, VacuumForm, SelectForm, OpenForm, StartForm, WorkForm, FetchForm, CloseForm, PoolForm, MplForm, MemoryForm}
use Rattle.hg_parse.specs.Steps.{Answer, got, Turn, Stop, Go}
use Rattle.hg_parse.specs.declared.input.Input.{Input}
use Rattle.hg_parse.specs.declared.input.Syntax.{Syntax}
use Rattle.hg_parse.specs.declared.places.ColumnAt.{ColumnAt}
use Rattle.hg_parse.specs.declared.places.Constraints.{Constraints}
use Rattle.hg_parse.specs.declared.places.FormAt.{FormAt}
use Rattle.hg_parse.specs.declared.places.FormAt.TheVariants as form
use Rattle.hg_parse.specs.declared.places.HeadingAt.{HeadingAt}
use Rattle.hg_parse.specs.declared.places.KeyAt.{KeyAt}
use Rattle.hg_parse.specs.declared.places.KeyAt.TheVariants as key
use Rattle.hg_parse.specs.declared.places.TableAt.{TableAt}
use Rattle.hg_parse.specs.declared.places.TypeAt.{TypeAt}
use Rattle.hg_parse.specs.declared.places.TypeAt.TheVariants as type
use Rattle.hg_parse.specs.declared.room.Room.{Room}

abbrev pub column_at : ColumnAt → ColRef
column_at c = record { table = option_map word_at c.table; name = word_at c.name }

abbrev pub table_at : TableAt → FromTable
table_at t = from_table (word_at t.table) (word_at t.alias)

abbrev pub type_at : TypeAt → SqlType
type_at type.Integer = Integer
type_at (type.Varchar n) = Varchar (number_at n)

abbrev pub by_at : KeyAt → OrderBy
by_at (key.Position n) = Position (number_at n)
by_at (key.Column n) = ByColumn n

abbrev pub flags_at : Constraints → Flags
flags_at c = flags c.not_null c.primary c.unique

abbrev pub heading_at : HeadingAt → Heading
heading_at h = record { distinct = h.distinct; star = h.star; filter = h.filter; having = h.having }

abbrev pub form_at : FormAt → Form
form_at (form.Table t) = TableForm (word_at t)
form_at (form.Index u i t) = IndexForm u (word_at i) (word_at t)
form_at (form.Insert t) = InsertForm (word_at t)
form_at (form.Update t f) = UpdateForm (word_at t) f
form_at (form.Delete t f) = DeleteForm (word_at t) f
form_at (form.Vacuum t) = VacuumForm (word_at t)
form_at (form.Select h) = SelectForm (heading_at h)
form_at (form.Open c h) = OpenForm (word_at c) (heading_at h)
form_at (form.Start c n) = StartForm (word_at c) (number_at n)
form_at (form.Work n) = WorkForm (number_at n)
form_at (form.Fetch c n) = FetchForm (word_at c) (number_at n)
form_at (form.Close c) = CloseForm (word_at c)
form_at (form.Pool n) = PoolForm (number_at n)
form_at (form.Mpl n) = MplForm (number_at n)
form_at form.Memory = MemoryForm

abbrev pub output_of : ℕ → Option (List ℕ) → Output
output_of n w = record { node = n; name = w }

abbrev pub key_of : OrderBy → Bool → OrderKey
key_of by d = record { by = by; descending = d }

-- the builder that keeps, as one word
unfoldable pub keeper : Builder Kept
keeper = keeping

abbrev pub counted : {X : Type 0} → List X → ℕ → Front X
counted xs n = record { items = xs; count = n }

unfoldable pub kept : Room → Kept
kept r = record {
  nodes = counted r.nodes.items r.node_count;
  texts = r.texts.bytes;
  outputs = counted r.outputs.items r.output_count;
  tables = counted r.tables.items r.table_count;
  group = counted r.group.items r.group_count;
  order = counted r.order.items r.order_count;
  columns = counted r.columns.items r.column_count;
  names = counted r.names.items r.name_count;
  sets = counted r.sets.items r.set_count;
  values = counted r.values.items r.value_count;
  ends = counted r.ends.items r.end_count;
  bad_node = r.bad_node;
  bad_key = r.bad_key;
  bad_type = r.bad_type;
  bad_value = r.bad_value;
}

-- how many letters the texts have
abbrev pub used : Room → ℕ
used r = length r.texts.bytes

abbrev pub with_letters : Kept → List ℕ → Kept
with_letters k t = record k { texts = k.texts ++ t }

abbrev pub span_of : Kept → List ℕ → Span
span_of k t = record { at = length k.texts; len = length t }

abbrev pub with_node : Kept → Node → Kept
with_node k n = record k { nodes = pushed 96 k.nodes n }

abbrev pub with_value : Kept → Literal → Kept
with_value k v = record k { values = wide_pushed 1024 k.values v }

abbrev pub with_output : Kept → Output → Kept
with_output k x = record k { outputs = pushed 16 k.outputs x }

abbrev pub with_table : Kept → FromTable → Kept
with_table k x = record k { tables = pushed 4 k.tables x }

abbrev pub with_group : Kept → ℕ → Kept
with_group k x = record k { group = pushed 16 k.group x }

abbrev pub with_key : Kept → OrderKey → Kept
with_key k x = record k { order = pushed 8 k.order x }

abbrev pub with_column : Kept → NewColumn → Kept
with_column k x = record k { columns = pushed 16 k.columns x }

abbrev pub with_name : Kept → (List ℕ) → Kept
with_name k x = record k { names = pushed 16 k.names x }

abbrev pub with_set : Kept → (List ℕ × ℕ) → Kept
with_set k x = record k { sets = pushed 16 k.sets x }

abbrev pub with_end : Kept → ℕ → Kept
with_end k x = record k { ends = pushed 64 k.ends x }

-- what a rule gave: a value, what is kept now, and the tokens that are left
abbrev pub told : {X Y : Type 0} → (Y → X) → Result Y Syntax → Room → Input → Answer Kept X
told f (Ok y) r i = got (kept r) (f y) (tokens i)
told f (Err e) r i = None

abbrev pub unit : {Y : Type 0} → Y → ⊤
unit y = tt

abbrev pub same : {Y : Type 0} → Y → Y
same y = y

-- the texts that are not read yet have room
abbrev pub Fits : Input → Room → Type 0
Fits i r = used r + left i ≤ 4096

-- Reading goes on, and the texts still have room.
pub record Moves (i : Input) (r : Room) (j : Input) (s : Room) : Type 0 where
  pub goes_on : GoesOn i j
  pub room : used s + left j ≤ used r + left i

-- what one turn of a chain gave that keeps nothing
abbrev pub turned_at : {X Y : Type 0} → Kept → (Y → X) → Result (Option Y) Syntax → Input → Turn Kept X
turned_at k f (Ok None) i = Stop
turned_at k f (Ok (Some y)) i = Go (got k (f y) (tokens i))
turned_at k f (Err e) i = Go None

-- a turn that goes on reads a token at least, and one that stops none
abbrev pub Went : {Y : Type 0} → Result (Option Y) Syntax → Input → Input → Type 0
Went (Ok None) i j = tokens j ≡ tokens i
Went (Ok (Some y)) i j = length (tokens j) < length (tokens i)
Went (Err e) i j = ⊤

-- what one turn of a chain gave that keeps something
abbrev pub turned_on : Result Bool Syntax → Room → Input → Turn Kept ⊤
turned_on (Ok true) r i = Go (got (kept r) tt (tokens i))
turned_on (Ok false) r i = Stop
turned_on (Err e) r i = Go None

abbrev pub WentOn : Result Bool Syntax → Input → Room → Input → Room → Type 0
WentOn (Ok true) i r j s = length (tokens j) < length (tokens i)
WentOn (Ok false) i r j s = (tokens j ≡ tokens i) × (kept s ≡ kept r)
WentOn (Err e) i r j s = ⊤
