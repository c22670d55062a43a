-- Worked scripts, with their reply lines by hand: rounds, cursors that stay as they were opened, and rows of
-- a SELECT. Commands stand as their trees.
use Rattle.std.specs.Prelude.{◌≡◌, ℕ, true, false, List, [], ◌∷◌, ◌++◌, Option, None, Some, pos, negsuc, codes}
use Rattle.hg_machine.specs.Plain.Begin.{BeginsCommand, all_built}
use Rattle.hg_machine.specs.Plain.Refused.{cursor_busy}
use Rattle.hg_machine.specs.Plain.Replies.{ReplyLine, created, rows, opened, started, worked, mpl_set, row, done, ended}
use Rattle.hg_machine.specs.Plain.Run.{Manner, exactly, Finishes}
use Rattle.hg_machine.specs.Plain.State.{State, Sizes, first_state}
use Rattle.hg_model.specs.Query.{Query}
use Rattle.hg_model.specs.Statements.{CommandTree, TableTree, CreateTable, InsertRows, DeleteRows, SelectRows, OpenCursor, Start, Work, Fetch, Mpl}
use Rattle.hg_model.specs.declared.trees.Cmp.TheVariants as cmp
use Rattle.hg_model.specs.declared.trees.Literal.{Literal}
use Rattle.hg_model.specs.declared.trees.Literal.TheVariants as literal
use Rattle.hg_model.specs.declared.trees.NewColumn.{NewColumn}
use Rattle.hg_model.specs.declared.trees.Node.TheVariants as node
use Rattle.hg_model.specs.declared.trees.SqlType.TheVariants.{Integer}
use Rattle.hg_model.specs.declared.values.Value.{Value}
use Rattle.hg_model.specs.declared.values.Value.TheVariants.{Null, Int}

-- a command, its turns and its closing
pub record RunsCommand (old : State) (c : CommandTree) (lines : List ReplyLine) (new : State) : Type 0 where
  pub between : State
  pub first : List ReplyLine
  pub others : List ReplyLine
  pub begins : BeginsCommand old c [] first between
  pub finishes : Finishes (exactly all_built) between others new
  pub joined : lines ≡ first ++ others

-- commands in order, each with its lines
abbrev pub RunsCommands : State → List CommandTree → List (List ReplyLine) → State → Type 0
RunsCommands old [] [] new = new ≡ old
RunsCommands old [] (lines ∷ more) new = ⊥
RunsCommands old (c ∷ cs) [] new = ⊥
RunsCommands old (c ∷ cs) (lines ∷ more) new = (between : State) × RunsCommand old c lines between × RunsCommands between cs more new

pub record CommandsSay (cs : List CommandTree) (said : List (List ReplyLine)) : Type 0 where
  pub last : State
  pub runs : RunsCommands (first_state (record { max = 256; pool = 128; mpl = 4; main_pages = 65536; temp_pages = 1048576 })) cs said last

abbrev pub integer_column : List ℕ → NewColumn
integer_column name = record { column = (record { name = name; ty = Integer; not_null = false }); primary = false; unique = false }

-- CREATE TABLE t (a INTEGER); with b too
abbrev pub create_t : CommandTree
create_t = CreateTable (record { name = codes "t"; columns = integer_column (codes "a") ∷ [] })

abbrev pub create_t_of_two : CommandTree
create_t_of_two = CreateTable (record { name = codes "t"; columns = integer_column (codes "a") ∷ integer_column (codes "b") ∷ [] })

-- INSERT INTO t VALUES ..
abbrev pub insert_into_t : List Literal → List ℕ → CommandTree
insert_into_t values ends = InsertRows (record { table = codes "t"; columns = []; values = values; ends = ends })

-- SELECT a FROM t; SELECT * FROM t
abbrev pub a_of_t : Query
a_of_t = record {
  distinct = false;
  star = false;
  outputs = (record { node = 0; name = None }) ∷ [];
  tables = (record { table = codes "t"; alias = codes "t"; on = None }) ∷ [];
  filter = None;
  group = [];
  having = None;
  order = [];
  nodes = node.Col (record { table = None; name = codes "a" }) ∷ [];
}

abbrev pub all_of_t : Query
all_of_t = record {
  distinct = false;
  star = true;
  outputs = [];
  tables = (record { table = codes "t"; alias = codes "t"; on = None }) ∷ [];
  filter = None;
  group = [];
  having = None;
  order = [];
  nodes = [];
}

-- DELETE FROM t WHERE a = 1
abbrev pub delete_one : CommandTree
delete_one = DeleteRows (record {
  table = codes "t";
  filter = Some 2;
  nodes = node.Col (record { table = None; name = codes "a" }) ∷ node.Lit (literal.Int (pos 1)) ∷ node.Compare cmp.Eq 0 1 ∷ [];
})

abbrev pub c : List ℕ
c = codes "c"

abbrev pub d : List ℕ
d = codes "d"

abbrev pub number_row : List ℕ → ℕ → ReplyLine
number_row cursor n = row (Some cursor) (Int (pos n) ∷ [])

-- Two cursors of which one may be active: the second waits until the first has its rows.
abbrev pub TheSecondWaits : Type 0
TheSecondWaits = CommandsSay
    (create_t ∷ insert_into_t (literal.Int (pos 1) ∷ literal.Int (pos 2) ∷ literal.Int (pos 3) ∷ []) (1 ∷ 2 ∷ 3 ∷ []) ∷ OpenCursor c a_of_t ∷ OpenCursor d a_of_t
    ∷ Mpl 1 ∷ Start c 2 ∷ Start d 1 ∷ Start c 1 ∷ Work 5 ∷ [])
    ((created ∷ []) ∷ (rows 3 ∷ []) ∷ (opened c ∷ []) ∷ (opened d ∷ []) ∷ (mpl_set 1 ∷ []) ∷ (started c ∷ []) ∷ (started d ∷ []) ∷ (cursor_busy c ∷ [])
    ∷ (number_row c 1 ∷ number_row c 2 ∷ done (Some c) ∷ number_row d 1 ∷ done (Some d) ∷ worked 3 ∷ []) ∷ [])

-- A cursor shows its table as it stood when it was opened.
abbrev pub CursorsStayAsOpened : Type 0
CursorsStayAsOpened = CommandsSay
    (create_t ∷ insert_into_t (literal.Int (pos 1) ∷ literal.Int (pos 2) ∷ []) (1 ∷ 2 ∷ []) ∷ OpenCursor c a_of_t ∷ insert_into_t (literal.Int (pos 3) ∷ []) (1 ∷ [])
    ∷ delete_one ∷ OpenCursor d a_of_t ∷ Fetch c 5 ∷ Fetch d 5 ∷ [])
    ((created ∷ []) ∷ (rows 2 ∷ []) ∷ (opened c ∷ []) ∷ (rows 1 ∷ []) ∷ (rows 1 ∷ []) ∷ (opened d ∷ []) ∷ (number_row c 1 ∷ number_row c 2 ∷ ended (Some c) ∷ [])
    ∷ (number_row d 2 ∷ number_row d 3 ∷ ended (Some d) ∷ []) ∷ [])

-- The rows of two INSERTs come by a SELECT, which closes silently.
abbrev pub RowsComeBack : Type 0
RowsComeBack = CommandsSay
    (create_t_of_two ∷ insert_into_t (literal.Int (pos 1) ∷ literal.Int (pos 2) ∷ literal.Int (pos 3) ∷ literal.Null ∷ []) (2 ∷ 4 ∷ [])
    ∷ insert_into_t (literal.Int (negsuc 3) ∷ literal.Int (pos 0) ∷ []) (2 ∷ []) ∷ SelectRows all_of_t ∷ [])
    ((created ∷ []) ∷ (rows 2 ∷ []) ∷ (rows 1 ∷ [])
    ∷ (row None (Int (pos 1) ∷ Int (pos 2) ∷ []) ∷ row None (Int (pos 3) ∷ Null ∷ []) ∷ row None (Int (negsuc 3) ∷ Int (pos 0) ∷ []) ∷ ended None ∷ []) ∷ [])
