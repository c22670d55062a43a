-- Each by its tokens and the rules of the grammar.
use Rattle.std.proofs.Common.{ℕ, refl, true, false, List, [], ◌∷◌, Some, None, pos, neg_ℤ}
use Rattle.std.specs.Prelude.{codes}
use Rattle.hg_model.specs.Grammar as grammar
use Rattle.hg_model.specs.Grammar.{Read, nothing_read, with_node, next, Whole}
use Rattle.hg_model.specs.Reading as reading
use Rattle.hg_model.specs.Reading.{Reads, BadNumber}
use Rattle.hg_model.specs.Statements.{CreateTable, InsertRows, UpdateRows, DeleteRows, SelectRows, OpenCursor, Start, Work, Fetch, Pool, Mpl}
use Rattle.hg_model.specs.Tokens.{is_reserved}
use Rattle.hg_model.specs.declared.trees.Cmp.TheVariants as cmp
use Rattle.hg_model.specs.declared.trees.Literal.TheVariants as literal
use Rattle.hg_model.specs.declared.trees.Node.TheVariants as node
use Rattle.hg_model.specs.declared.trees.OrderBy.TheVariants.{Position}
use Rattle.hg_model.specs.declared.trees.SqlType.TheVariants.{Varchar}
use Rattle.hg_worked.proofs.Sentences.{whole_number, whole_equality}
use Rattle.hg_worked.proofs.Spelling.{Piece, Blank, Wording, Number, Mark, tokens_of, spelled}
use Rattle.hg_worked.specs.LineNumbers.{LineNumbersHold, PoolNumbersHold}

no_letters : (max : ℕ) → Reads max (codes "CREATE TABLE t (a VARCHAR(0))") BadNumber
unfolding is_reserved
no_letters max =
    let ps : List Piece = Wording (codes "CREATE") ∷ Blank ∷ Wording (codes "TABLE") ∷ Blank ∷ Wording (codes "t") ∷ Blank ∷ Mark (codes "(") ∷ Wording (codes "a") ∷ Blank ∷ Wording (codes "VARCHAR") ∷ Mark (codes "(") ∷ Number (codes "0") ∷ Mark (codes ")") ∷ Mark (codes ")") ∷ [] in
    reading.Reads.bad_number (tokens_of ps) (CreateTable (record { name = codes "t"; columns = record { column = record { name = codes "a"; ty = Varchar 0; not_null = false }; primary = false; unique = false } ∷ [] })) [] (spelled ps refl)
    (grammar.IsLine.bare (grammar.IsCommand.create_table (codes "t") refl (grammar.NewColumns.one (grammar.IsNewColumn.column (codes "a") refl (grammar.IsType.varchar (codes "0")) grammar.Constraints.none)))) refl

letters_256 : (max : ℕ) → Reads max (codes "CREATE TABLE t (a VARCHAR(256))") BadNumber
unfolding is_reserved
letters_256 max =
    let ps : List Piece = Wording (codes "CREATE") ∷ Blank ∷ Wording (codes "TABLE") ∷ Blank ∷ Wording (codes "t") ∷ Blank ∷ Mark (codes "(") ∷ Wording (codes "a") ∷ Blank ∷ Wording (codes "VARCHAR") ∷ Mark (codes "(") ∷ Number (codes "256") ∷ Mark (codes ")") ∷ Mark (codes ")") ∷ [] in
    reading.Reads.bad_number (tokens_of ps) (CreateTable (record { name = codes "t"; columns = record { column = record { name = codes "a"; ty = Varchar 256; not_null = false }; primary = false; unique = false } ∷ [] })) [] (spelled ps refl)
    (grammar.IsLine.bare (grammar.IsCommand.create_table (codes "t") refl (grammar.NewColumns.one (grammar.IsNewColumn.column (codes "a") refl (grammar.IsType.varchar (codes "256")) grammar.Constraints.none)))) refl

inserted : (max : ℕ) → Reads max (codes "INSERT INTO t VALUES (-100000000000000000000000000000000000000)") BadNumber
unfolding is_reserved
inserted max =
    let ps : List Piece = Wording (codes "INSERT") ∷ Blank ∷ Wording (codes "INTO") ∷ Blank ∷ Wording (codes "t") ∷ Blank ∷ Wording (codes "VALUES") ∷ Blank ∷ Mark (codes "(") ∷ Mark (codes "-") ∷ Number (codes "100000000000000000000000000000000000000") ∷ Mark (codes ")") ∷ [] in
    reading.Reads.bad_number (tokens_of ps) (InsertRows (record { table = codes "t"; columns = []; values = literal.Int (neg_ℤ (pos 100000000000000000000000000000000000000)) ∷ []; ends = 1 ∷ [] })) [] (spelled ps refl)
    (grammar.IsLine.bare (grammar.IsCommand.insert (codes "t") refl grammar.Listed.left_out (grammar.Tuples.one (grammar.Constants.one (grammar.IsConstant.negative (codes "100000000000000000000000000000000000000")))))) refl

updated : (max : ℕ) → Reads max (codes "UPDATE t SET a = 100000000000000000000000000000000000000") BadNumber
unfolding is_reserved
updated max =
    let ps : List Piece = Wording (codes "UPDATE") ∷ Blank ∷ Wording (codes "t") ∷ Blank ∷ Wording (codes "SET") ∷ Blank ∷ Wording (codes "a") ∷ Blank ∷ Mark (codes "=") ∷ Blank ∷ Number (codes "100000000000000000000000000000000000000") ∷ [] in
    reading.Reads.bad_number (tokens_of ps) (UpdateRows (record { table = codes "t"; sets = (codes "a", 0) ∷ []; filter = None; nodes = node.Lit (literal.Int (pos 100000000000000000000000000000000000000)) ∷ [] })) [] (spelled ps refl)
    (grammar.IsLine.bare (grammar.IsCommand.update (codes "t") refl (grammar.Sets.one (codes "a") refl (whole_number nothing_read (codes "100000000000000000000000000000000000000"))) grammar.Clause.left_out)) refl

deleted : (max : ℕ) → Reads max (codes "DELETE FROM t WHERE a = 100000000000000000000000000000000000000") BadNumber
unfolding is_reserved
deleted max =
    let ps : List Piece = Wording (codes "DELETE") ∷ Blank ∷ Wording (codes "FROM") ∷ Blank ∷ Wording (codes "t") ∷ Blank ∷ Wording (codes "WHERE") ∷ Blank ∷ Wording (codes "a") ∷ Blank ∷ Mark (codes "=") ∷ Blank ∷ Number (codes "100000000000000000000000000000000000000") ∷ [] in
    reading.Reads.bad_number (tokens_of ps) (DeleteRows (record { table = codes "t"; filter = Some 2; nodes = node.Col (record { table = None; name = codes "a" }) ∷ node.Lit (literal.Int (pos 100000000000000000000000000000000000000)) ∷ node.Compare cmp.Eq 0 1 ∷ [] })) [] (spelled ps refl)
    (grammar.IsLine.bare (grammar.IsCommand.delete (codes "t") refl (grammar.Clause.given (whole_equality nothing_read (codes "a") (codes "100000000000000000000000000000000000000") refl)))) refl

selected : (max : ℕ) → Reads max (codes "SELECT 100000000000000000000000000000000000000 FROM t") BadNumber
unfolding is_reserved
selected max =
    let ps : List Piece = Wording (codes "SELECT") ∷ Blank ∷ Number (codes "100000000000000000000000000000000000000") ∷ Blank ∷ Wording (codes "FROM") ∷ Blank ∷ Wording (codes "t") ∷ [] in
    reading.Reads.bad_number (tokens_of ps) (SelectRows (record { distinct = false; star = false; outputs = record { node = 0; name = None } ∷ []; tables = record { table = codes "t"; alias = codes "t"; on = None } ∷ []; filter = None; group = []; having = None; order = []; nodes = node.Lit (literal.Int (pos 100000000000000000000000000000000000000)) ∷ [] })) [] (spelled ps refl)
    (grammar.IsLine.bare (grammar.IsCommand.select (grammar.IsSelect.select grammar.Head.plain (grammar.Columns.by_outputs (grammar.Outputs.one (grammar.IsOutput.plain (whole_number nothing_read (codes "100000000000000000000000000000000000000"))))) (grammar.Tables.one (grammar.IsRef.own (codes "t") refl)) grammar.Clause.left_out grammar.Group.left_out grammar.Clause.left_out grammar.Order.left_out))) refl

opened : (max : ℕ) → Reads max (codes "OPEN c FOR SELECT 100000000000000000000000000000000000000 FROM t") BadNumber
unfolding is_reserved
opened max =
    let ps : List Piece = Wording (codes "OPEN") ∷ Blank ∷ Wording (codes "c") ∷ Blank ∷ Wording (codes "FOR") ∷ Blank ∷ Wording (codes "SELECT") ∷ Blank ∷ Number (codes "100000000000000000000000000000000000000") ∷ Blank ∷ Wording (codes "FROM") ∷ Blank ∷ Wording (codes "t") ∷ [] in
    reading.Reads.bad_number (tokens_of ps) (OpenCursor (codes "c") (record { distinct = false; star = false; outputs = record { node = 0; name = None } ∷ []; tables = record { table = codes "t"; alias = codes "t"; on = None } ∷ []; filter = None; group = []; having = None; order = []; nodes = node.Lit (literal.Int (pos 100000000000000000000000000000000000000)) ∷ [] })) [] (spelled ps refl)
    (grammar.IsLine.bare (grammar.IsCommand.open_cursor (codes "c") refl (grammar.IsSelect.select grammar.Head.plain (grammar.Columns.by_outputs (grammar.Outputs.one (grammar.IsOutput.plain (whole_number nothing_read (codes "100000000000000000000000000000000000000"))))) (grammar.Tables.one (grammar.IsRef.own (codes "t") refl)) grammar.Clause.left_out grammar.Group.left_out grammar.Clause.left_out grammar.Order.left_out))) refl

position : (max : ℕ) → Reads max (codes "SELECT * FROM t ORDER BY 4294967296") BadNumber
unfolding is_reserved
position max =
    let ps : List Piece = Wording (codes "SELECT") ∷ Blank ∷ Mark (codes "*") ∷ Blank ∷ Wording (codes "FROM") ∷ Blank ∷ Wording (codes "t") ∷ Blank ∷ Wording (codes "ORDER") ∷ Blank ∷ Wording (codes "BY") ∷ Blank ∷ Number (codes "4294967296") ∷ [] in
    reading.Reads.bad_number (tokens_of ps) (SelectRows (record { distinct = false; star = true; outputs = []; tables = record { table = codes "t"; alias = codes "t"; on = None } ∷ []; filter = None; group = []; having = None; order = record { by = Position 4294967296; descending = false } ∷ []; nodes = [] })) [] (spelled ps refl)
    (grammar.IsLine.bare (grammar.IsCommand.select (grammar.IsSelect.select grammar.Head.plain grammar.Columns.by_star (grammar.Tables.one (grammar.IsRef.own (codes "t") refl)) grammar.Clause.left_out grammar.Group.left_out grammar.Clause.left_out (grammar.Order.given (grammar.Keys.one (grammar.IsKey.position (codes "4294967296") grammar.Direction.left_out)))))) refl

start : (max : ℕ) → Reads max (codes "START c 0") BadNumber
unfolding is_reserved
start max =
    let ps : List Piece = Wording (codes "START") ∷ Blank ∷ Wording (codes "c") ∷ Blank ∷ Number (codes "0") ∷ [] in
    reading.Reads.bad_number (tokens_of ps) (Start (codes "c") 0) [] (spelled ps refl)
    (grammar.IsLine.bare (grammar.IsCommand.start (codes "c") (codes "0") refl)) refl

work : (max : ℕ) → Reads max (codes "WORK 1000000001") BadNumber
unfolding is_reserved
work max =
    let ps : List Piece = Wording (codes "WORK") ∷ Blank ∷ Number (codes "1000000001") ∷ [] in
    reading.Reads.bad_number (tokens_of ps) (Work 1000000001) [] (spelled ps refl)
    (grammar.IsLine.bare (grammar.IsCommand.work (codes "1000000001"))) refl

fetch : (max : ℕ) → Reads max (codes "FETCH c 1000000001") BadNumber
unfolding is_reserved
fetch max =
    let ps : List Piece = Wording (codes "FETCH") ∷ Blank ∷ Wording (codes "c") ∷ Blank ∷ Number (codes "1000000001") ∷ [] in
    reading.Reads.bad_number (tokens_of ps) (Fetch (codes "c") 1000000001) [] (spelled ps refl)
    (grammar.IsLine.bare (grammar.IsCommand.fetch (codes "c") (codes "1000000001") refl)) refl

small_pool : (max : ℕ) → Reads max (codes "POOL 15") BadNumber
unfolding is_reserved
small_pool max =
    let ps : List Piece = Wording (codes "POOL") ∷ Blank ∷ Number (codes "15") ∷ [] in
    reading.Reads.bad_number (tokens_of ps) (Pool 15) [] (spelled ps refl)
    (grammar.IsLine.bare (grammar.IsCommand.pool (codes "15"))) refl

no_mpl : (max : ℕ) → Reads max (codes "MPL 0") BadNumber
unfolding is_reserved
no_mpl max =
    let ps : List Piece = Wording (codes "MPL") ∷ Blank ∷ Number (codes "0") ∷ [] in
    reading.Reads.bad_number (tokens_of ps) (Mpl 0) [] (spelled ps refl)
    (grammar.IsLine.bare (grammar.IsCommand.mpl (codes "0"))) refl

mpl_17 : (max : ℕ) → Reads max (codes "MPL 17") BadNumber
unfolding is_reserved
mpl_17 max =
    let ps : List Piece = Wording (codes "MPL") ∷ Blank ∷ Number (codes "17") ∷ [] in
    reading.Reads.bad_number (tokens_of ps) (Mpl 17) [] (spelled ps refl)
    (grammar.IsLine.bare (grammar.IsCommand.mpl (codes "17"))) refl

large_pool : Reads 256 (codes "POOL 257") BadNumber
unfolding is_reserved
large_pool =
    let ps : List Piece = Wording (codes "POOL") ∷ Blank ∷ Number (codes "257") ∷ [] in
    reading.Reads.bad_number (tokens_of ps) (Pool 257) [] (spelled ps refl)
    (grammar.IsLine.bare (grammar.IsCommand.pool (codes "257"))) refl

pub line_numbers_hold : (max : ℕ) → LineNumbersHold max
line_numbers_hold max = record { no_letters = no_letters max; letters_256 = letters_256 max; inserted = inserted max; updated = updated max; deleted = deleted max; selected = selected max; opened = opened max; position = position max; start = start max; work = work max; fetch = fetch max; small_pool = small_pool max; no_mpl = no_mpl max; mpl_17 = mpl_17 max }

pub pool_numbers_hold : PoolNumbersHold
pool_numbers_hold = record { large_pool = large_pool }
