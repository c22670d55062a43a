-- The command that a borrowed one stands for, and which of them a line is read as.
use Rattle.std.specs.Prelude.{ℕ, List}
use Rattle.hg_model.specs.LineReading.{ReadsLine, ReadAs}
use Rattle.hg_model.specs.Query.{Query}
use Rattle.hg_model.specs.Reading.{Statement}
use Rattle.hg_model.specs.Script.{Line}
use Rattle.hg_model.specs.Statements.{TableTree, IndexTree, InsertTree, UpdateTree, DeleteTree, CommandTree, CreateTable, CreateIndex, InsertRows, UpdateRows, DeleteRows, Vacuum, SelectRows, OpenCursor, Start, Work, Fetch, Close, Pool, Mpl, ShowMemory}
use Rattle.hg_reply.specs.declared.asked.Asked.{Asked}
use Rattle.hg_reply.specs.declared.asked.CommandAt.{CommandAt}
use Rattle.hg_reply.specs.declared.asked.CommandAt.TheVariants as at
use Rattle.hg_reply.specs.declared.asked.DeleteAt.{DeleteAt}
use Rattle.hg_reply.specs.declared.asked.IndexAt.{IndexAt}
use Rattle.hg_reply.specs.declared.asked.InsertAt.{InsertAt}
use Rattle.hg_reply.specs.declared.asked.SelectAt.{SelectAt}
use Rattle.hg_reply.specs.declared.asked.TableAt.{TableAt}
use Rattle.hg_reply.specs.declared.asked.UpdateAt.{UpdateAt}

abbrev pub table_at : TableAt → TableTree
table_at t = record { name = t.name.now; columns = t.columns.now }

abbrev pub index_at : IndexAt → IndexTree
index_at i = record { name = i.name.now; table = i.table.now; unique = i.unique; columns = i.columns.now }

abbrev pub insert_at : InsertAt → InsertTree
insert_at i = record { table = i.table.now; columns = i.columns.now; values = i.values.now; ends = i.ends.now }

abbrev pub update_at : UpdateAt → UpdateTree
update_at u = record { table = u.table.now; sets = u.sets.now; filter = u.filter; nodes = u.nodes.now }

abbrev pub delete_at : DeleteAt → DeleteTree
delete_at d = record { table = d.table.now; filter = d.filter; nodes = d.nodes.now }

abbrev pub query_at : SelectAt → Query
query_at s = record {
  distinct = s.distinct;
  star = s.star;
  outputs = s.outputs.now;
  tables = s.tables.now;
  filter = s.filter;
  group = s.group.now;
  having = s.having;
  order = s.order.now;
  nodes = s.nodes.now;
}

abbrev pub command_in : CommandAt → CommandTree
command_in (at.CreateTable t) = CreateTable (table_at t)
command_in (at.CreateIndex i) = CreateIndex (index_at i)
command_in (at.Insert i) = InsertRows (insert_at i)
command_in (at.Update u) = UpdateRows (update_at u)
command_in (at.Delete d) = DeleteRows (delete_at d)
command_in (at.Vacuum t) = Vacuum t.now
command_in (at.Select s) = SelectRows (query_at s)
command_in (at.OpenCursor c s) = OpenCursor c.now (query_at s)
command_in (at.Start c n) = Start c.now n
command_in (at.Work n) = Work n
command_in (at.Fetch c n) = Fetch c.now n
command_in (at.Close c) = Close c.now
command_in (at.Pool n) = Pool n
command_in (at.Mpl n) = Mpl n
command_in at.ShowMemory = ShowMemory

-- the texts of its line, one after the other
abbrev pub texts_in : Asked → List ℕ
texts_in a = a.texts.now

-- some line is read as that command; `max` is the most frames that the pool may have
abbrev pub IsReadAs : ℕ → CommandTree → List ℕ → Type 0
IsReadAs max c texts = (line : Line) × ReadsLine max line (ReadAs (Statement c texts))
