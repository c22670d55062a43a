-- The statement that a room keeps.
use Rattle.std.specs.Prelude.{ℕ, ◌^◌, Bool, true, false, [], ◌∷◌, Option, Some, None, Result, Ok, Err, nat_lt, if◌then◌else◌}
use Rattle.hg_model.specs.Query.{Query}
use Rattle.hg_model.specs.Reading.{Reading, Blank, Syntax, BadNumber, TooMany, first_count}
use Rattle.hg_model.specs.Reading.{Statement as StatementOf}
use Rattle.hg_model.specs.Statements.{CommandTree, CreateTable, CreateIndex, InsertRows, UpdateRows, DeleteRows, Vacuum, SelectRows, OpenCursor, Start, Work, Fetch, Close, Pool, Mpl, ShowMemory}
use Rattle.hg_model.specs.declared.trees.Count.{Count}
use Rattle.hg_model.specs.declared.trees.Count.TheVariants as count
use Rattle.hg_parse.specs.Keeping.{Kept, short_name}
use Rattle.hg_parse.specs.Kept.{kept, form_at}
use Rattle.hg_parse.specs.Rules.{Heading, Form, TableForm, IndexForm, InsertForm, UpdateForm, DeleteForm, VacuumForm, SelectForm, OpenForm, StartForm, WorkForm, FetchForm, CloseForm, PoolForm, MplForm, MemoryForm, ends_line}
use Rattle.hg_parse.specs.Steps.{Answer}
use Rattle.hg_parse.specs.declared.input.Syntax.{Syntax as Stops}
use Rattle.hg_parse.specs.declared.places.FormAt.{FormAt}
use Rattle.hg_parse.specs.declared.places.HeadingAt.{HeadingAt}
use Rattle.hg_parse.specs.declared.room.Room.{Room}
use Rattle.hg_parse.specs.declared.statement.ParseError.{ParseError}
use Rattle.hg_parse.specs.declared.statement.ParseError.TheVariants as error
use Rattle.hg_parse.specs.declared.statement.Statement.{Statement}
use Rattle.hg_parse.specs.declared.statement.Statement.TheVariants as statement

abbrev pub short_count : ℕ → ℕ
short_count n = if nat_lt n (2 ^ 32) then n else 0

abbrev pub at_heading : Heading → HeadingAt
at_heading h = record { distinct = h.distinct; star = h.star; filter = h.filter; having = h.having }

abbrev pub short_form : Form → Statement
short_form (TableForm t) = statement.CreateTable (short_name t)
short_form (IndexForm u i t) = statement.CreateIndex u (short_name i) (short_name t)
short_form (InsertForm t) = statement.Insert (short_name t)
short_form (UpdateForm t f) = statement.Update (short_name t) f
short_form (DeleteForm t f) = statement.Delete (short_name t) f
short_form (VacuumForm t) = statement.Vacuum (short_name t)
short_form (SelectForm h) = statement.Select (at_heading h)
short_form (OpenForm c h) = statement.OpenCursor (short_name c) (at_heading h)
short_form (StartForm c n) = statement.Start (short_name c) (short_count n)
short_form (WorkForm n) = statement.Work (short_count n)
short_form (FetchForm c n) = statement.Fetch (short_name c) (short_count n)
short_form (CloseForm c) = statement.Close (short_name c)
short_form (PoolForm n) = statement.Pool (short_count n)
short_form (MplForm n) = statement.Mpl (short_count n)
short_form MemoryForm = statement.ShowMemory

abbrev pub nodes_over : Kept → Option Count
nodes_over k = first_count ((nat_lt 96 k.nodes.count, count.Nodes) ∷ [])

abbrev pub query_over : Kept → Option Count
query_over k = first_count
    ((nat_lt 4 k.tables.count, count.TablesInFrom)
    ∷ (nat_lt 16 k.outputs.count, count.Outputs)
    ∷ (nat_lt 16 k.group.count, count.GroupColumns)
    ∷ (nat_lt 8 k.order.count, count.OrderKeys)
    ∷ (nat_lt 96 k.nodes.count, count.Nodes)
    ∷ [])

-- a SELECT whose lists are kept
abbrev pub query_in : HeadingAt → Kept → Query
query_in h k = record { distinct = h.distinct; star = h.star; outputs = k.outputs.items; tables = k.tables.items; filter = h.filter; group = k.group.items; having = h.having; order = k.order.items; nodes = k.nodes.items }

-- the tree of a statement whose lists are kept
abbrev pub tree_in : Statement → Kept → CommandTree
tree_in (statement.CreateTable t) k = CreateTable (record { name = t; columns = k.columns.items })
tree_in (statement.CreateIndex u i t) k = CreateIndex (record { name = i; table = t; unique = u; columns = k.names.items })
tree_in (statement.Insert t) k = InsertRows (record { table = t; columns = k.names.items; values = k.values.items; ends = k.ends.items })
tree_in (statement.Update t f) k = UpdateRows (record { table = t; sets = k.sets.items; filter = f; nodes = k.nodes.items })
tree_in (statement.Delete t f) k = DeleteRows (record { table = t; filter = f; nodes = k.nodes.items })
tree_in (statement.Vacuum t) k = Vacuum t
tree_in (statement.Select h) k = SelectRows (query_in h k)
tree_in (statement.OpenCursor c h) k = OpenCursor c (query_in h k)
tree_in (statement.Start c n) k = Start c n
tree_in (statement.Work n) k = Work n
tree_in (statement.Fetch c n) k = Fetch c n
tree_in (statement.Close c) k = Close c
tree_in (statement.Pool n) k = Pool n
tree_in (statement.Mpl n) k = Mpl n
tree_in statement.ShowMemory k = ShowMemory

-- what an answer says that a line is read as, with the room behind it
abbrev pub reading_in : Result (Option Statement) ParseError → Kept → Reading
reading_in (Ok None) k = Blank
reading_in (Ok (Some s)) k = StatementOf (tree_in s k) k.texts
reading_in (Err error.Syntax) k = Syntax
reading_in (Err error.BadNumber) k = BadNumber
reading_in (Err (error.TooMany c)) k = TooMany c

-- what is kept of a line of tokens: nothing where it is no command, or more stands behind it
abbrev pub line_kept : Answer Kept Form → Option (Kept × Form)
line_kept None = None
line_kept (Some g) = if ends_line g.rest then Some (g.state, g.value) else None

abbrev pub lined : Bool → Answer Kept Form → Option (Kept × Form)
lined false a = None
lined true a = line_kept a

abbrev pub told_line : Result FormAt Stops → Room → Option (Kept × Form)
told_line (Ok f) r = Some (kept r, form_at f)
told_line (Err e) r = None
