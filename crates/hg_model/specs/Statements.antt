-- The trees of all statements as lists, as the grammar gives them. A SELECT is a `Query`.
use Rattle.std.specs.Prelude.{ℕ, Bool, List, Option}
use Rattle.hg_model.specs.Query.{Query, query_of}
use Rattle.hg_model.specs.declared.trees.Command.{Command}
use Rattle.hg_model.specs.declared.trees.Command.TheVariants as command
use Rattle.hg_model.specs.declared.trees.Delete.{Delete}
use Rattle.hg_model.specs.declared.trees.Insert.{Insert}
use Rattle.hg_model.specs.declared.trees.Literal.{Literal}
use Rattle.hg_model.specs.declared.trees.NewColumn.{NewColumn}
use Rattle.hg_model.specs.declared.trees.NewIndex.{NewIndex}
use Rattle.hg_model.specs.declared.trees.NewTable.{NewTable}
use Rattle.hg_model.specs.declared.trees.Node.{Node}
use Rattle.hg_model.specs.declared.trees.Update.{Update}

pub record TableTree : Type 0 where
  pub name : List ℕ
  pub columns : List NewColumn

pub record IndexTree : Type 0 where
  pub name : List ℕ
  pub table : List ℕ
  pub unique : Bool
  pub columns : List (List ℕ)

-- `ends` has, for each row, the place behind its last value; no columns means all
pub record InsertTree : Type 0 where
  pub table : List ℕ
  pub columns : List (List ℕ)
  pub values : List Literal
  pub ends : List ℕ

pub record UpdateTree : Type 0 where
  pub table : List ℕ
  pub sets : List (List ℕ × ℕ)
  pub filter : Option ℕ
  pub nodes : List Node

pub record DeleteTree : Type 0 where
  pub table : List ℕ
  pub filter : Option ℕ
  pub nodes : List Node

pub data CommandTree : Type 0 where
  CreateTable : TableTree → CommandTree
  CreateIndex : IndexTree → CommandTree
  InsertRows : InsertTree → CommandTree
  UpdateRows : UpdateTree → CommandTree
  DeleteRows : DeleteTree → CommandTree
  Vacuum : List ℕ → CommandTree
  SelectRows : Query → CommandTree
  OpenCursor : List ℕ → Query → CommandTree
  Start : List ℕ → ℕ → CommandTree
  Work : ℕ → CommandTree
  Fetch : List ℕ → ℕ → CommandTree
  Close : List ℕ → CommandTree
  Pool : ℕ → CommandTree
  Mpl : ℕ → CommandTree
  ShowMemory : CommandTree

abbrev pub table_tree : NewTable → TableTree
table_tree t = record { name = t.name; columns = t.columns.items }

abbrev pub index_tree : NewIndex → IndexTree
index_tree i = record { name = i.name; table = i.table; unique = i.unique; columns = i.columns.items }

abbrev pub insert_tree : Insert → InsertTree
insert_tree i = record { table = i.table; columns = i.columns.items; values = i.values.items; ends = i.ends.items }

abbrev pub update_tree : Update → UpdateTree
update_tree u = record { table = u.table; sets = u.sets.items; filter = u.filter; nodes = u.nodes.items }

abbrev pub delete_tree : Delete → DeleteTree
delete_tree d = record { table = d.table; filter = d.filter; nodes = d.nodes.items }

abbrev pub command_tree : Command → CommandTree
command_tree (command.CreateTable t) = CreateTable (table_tree t)
command_tree (command.CreateIndex i) = CreateIndex (index_tree i)
command_tree (command.Insert i) = InsertRows (insert_tree i)
command_tree (command.Update u) = UpdateRows (update_tree u)
command_tree (command.Delete d) = DeleteRows (delete_tree d)
command_tree (command.Vacuum t) = Vacuum t
command_tree (command.Select s) = SelectRows (query_of s)
command_tree (command.OpenCursor c s) = OpenCursor c (query_of s)
command_tree (command.Start c n) = Start c n
command_tree (command.Work n) = Work n
command_tree (command.Fetch c n) = Fetch c n
command_tree (command.Close c) = Close c
command_tree (command.Pool n) = Pool n
command_tree (command.Mpl n) = Mpl n
command_tree command.ShowMemory = ShowMemory
