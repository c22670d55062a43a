-- Each by its tokens and the rules of the grammar.
use Rattle.std.proofs.Common.{ℕ, refl, true, false, List, [], ◌∷◌, ◌++◌, Some, None, replicate}
use Rattle.std.specs.Prelude.{codes}
use Rattle.hg_model.specs.Grammar as grammar
use Rattle.hg_model.specs.Grammar.{Read, nothing_read, with_node}
use Rattle.hg_model.specs.Reading as reading
use Rattle.hg_model.specs.Reading.{Reads, TooMany}
use Rattle.hg_model.specs.Statements.{InsertRows, DeleteRows, Vacuum, SelectRows}
use Rattle.hg_model.specs.Tokens as tokens
use Rattle.hg_model.specs.Tokens.{Token, Word, Digits, Sign, is_reserved}
use Rattle.hg_model.specs.declared.trees.Count.TheVariants as count
use Rattle.hg_model.specs.declared.trees.Literal.TheVariants as literal
use Rattle.hg_worked.proofs.Repeats as repeats
use Rattle.hg_worked.proofs.Repeats.{pushed, table_a, one, rows_end, with_columns, columns_numbered, first_key, with_numbers, numbers_put, last_sum, sums_read}
use Rattle.hg_worked.proofs.Sentences.{number_node, column_node, sum_number, whole_number}
use Rattle.hg_worked.proofs.Spelling.{Piece, Blank, Wording, Number, Text, Mark, tokens_of, spelled, pieces, commas, commas_spelled, comma_bytes}
use Rattle.hg_worked.specs.LineCounts.{LineCountsHold, LineCountsFit, IsStatement, times}

name_letters : (max : ℕ) → Reads max (codes "VACUUM " ++ times 31 (codes "a")) (TooMany count.NameLetters)
unfolding is_reserved
name_letters max =
    let ps : List Piece = Wording (codes "VACUUM") ∷ Blank ∷ Wording (times 31 (codes "a")) ∷ [] in
    reading.Reads.too_many (tokens_of ps) (Vacuum (times 31 (codes "a"))) ([]) count.NameLetters (spelled ps refl)
    (grammar.IsLine.bare (grammar.IsCommand.vacuum (times 31 (codes "a")) refl)) refl refl

text_letters : (max : ℕ) → Reads max (codes "INSERT INTO t VALUES ('" ++ (times 256 (codes "a") ++ codes "')")) (TooMany count.TextLetters)
unfolding is_reserved
text_letters max =
    let ps : List Piece = Wording (codes "INSERT") ∷ Blank ∷ Wording (codes "INTO") ∷ Blank ∷ Wording (codes "t") ∷ Blank ∷ Wording (codes "VALUES") ∷ Blank ∷ Mark (codes "(") ∷ Text (times 256 (codes "a")) ∷ Mark (codes ")") ∷ [] in
    reading.Reads.too_many (tokens_of ps) (InsertRows (record { table = codes "t"; columns = []; values = literal.Text (record { at = 0; len = 256 }) ∷ []; ends = 1 ∷ [] })) (times 256 (codes "a")) count.TextLetters (spelled ps refl)
    (grammar.IsLine.bare (grammar.IsCommand.insert (codes "t") refl grammar.Listed.left_out (grammar.Tuples.one (grammar.Constants.one (grammar.IsConstant.text (times 256 (codes "a"))))))) refl refl

columns : (max : ℕ) → Reads max (codes "INSERT INTO t (a" ++ (times 16 (codes ",a") ++ codes ") VALUES (1)")) (TooMany count.Columns)
unfolding is_reserved
columns max =
    let ps : List Piece = Wording (codes "INSERT") ∷ Blank ∷ Wording (codes "INTO") ∷ Blank ∷ Wording (codes "t") ∷ Blank ∷ Mark (codes "(") ∷ Wording (codes "a") ∷ (pieces 16 (Mark (codes ",") ∷ Wording (codes "a") ∷ []) ++ Mark (codes ")") ∷ Blank ∷ Wording (codes "VALUES") ∷ Blank ∷ Mark (codes "(") ∷ Number (codes "1") ∷ Mark (codes ")") ∷ []) in
    reading.Reads.too_many (tokens_of ps) (InsertRows (record { table = codes "t"; columns = pushed 16 (codes "a") (codes "a" ∷ []); values = one ∷ []; ends = 1 ∷ [] })) ([]) count.Columns (spelled ps refl)
    (grammar.IsLine.bare (grammar.IsCommand.insert (codes "t") refl (grammar.Listed.given (repeats.names 16 (grammar.Names.one (codes "a") refl))) (grammar.Tuples.one (grammar.Constants.one (grammar.IsConstant.plain (codes "1")))))) refl refl

rows : (max : ℕ) → Reads max (codes "INSERT INTO t VALUES (1)" ++ times 64 (codes ",(1)")) (TooMany count.Rows)
unfolding is_reserved
rows max =
    let ps : List Piece = Wording (codes "INSERT") ∷ Blank ∷ Wording (codes "INTO") ∷ Blank ∷ Wording (codes "t") ∷ Blank ∷ Wording (codes "VALUES") ∷ Blank ∷ Mark (codes "(") ∷ Number (codes "1") ∷ Mark (codes ")") ∷ pieces 64 (Mark (codes ",") ∷ Mark (codes "(") ∷ Number (codes "1") ∷ Mark (codes ")") ∷ []) in
    reading.Reads.too_many (tokens_of ps) (InsertRows (record { table = codes "t"; columns = []; values = pushed 64 one (one ∷ []); ends = rows_end 64 (one ∷ []) (1 ∷ []) })) ([]) count.Rows (spelled ps refl)
    (grammar.IsLine.bare (grammar.IsCommand.insert (codes "t") refl grammar.Listed.left_out (repeats.rows 64 (grammar.Tuples.one (grammar.Constants.one (grammar.IsConstant.plain (codes "1"))))))) refl refl

tables_in_from : (max : ℕ) → Reads max (codes "SELECT * FROM a" ++ times 4 (codes ",a")) (TooMany count.TablesInFrom)
unfolding is_reserved
tables_in_from max =
    let ps : List Piece = Wording (codes "SELECT") ∷ Blank ∷ Mark (codes "*") ∷ Blank ∷ Wording (codes "FROM") ∷ Blank ∷ Wording (codes "a") ∷ pieces 4 (Mark (codes ",") ∷ Wording (codes "a") ∷ []) in
    reading.Reads.too_many (tokens_of ps) (SelectRows (record { distinct = false; star = true; outputs = []; tables = pushed 4 table_a (table_a ∷ []); filter = None; group = []; having = None; order = []; nodes = [] })) ([]) count.TablesInFrom (spelled ps refl)
    (grammar.IsLine.bare (grammar.IsCommand.select (grammar.IsSelect.select grammar.Head.plain grammar.Columns.by_star (repeats.tables 4 (grammar.Tables.one (grammar.IsRef.own (codes "a") refl))) grammar.Clause.left_out grammar.Group.left_out grammar.Clause.left_out grammar.Order.left_out))) refl refl

outputs : (max : ℕ) → Reads max (codes "SELECT 1" ++ (times 16 (codes ",1") ++ codes " FROM t")) (TooMany count.Outputs)
unfolding is_reserved
outputs max =
    let ps : List Piece = Wording (codes "SELECT") ∷ Blank ∷ Number (codes "1") ∷ (pieces 16 (Mark (codes ",") ∷ Number (codes "1") ∷ []) ++ Blank ∷ Wording (codes "FROM") ∷ Blank ∷ Wording (codes "t") ∷ []) in
    reading.Reads.too_many (tokens_of ps) (SelectRows (record { distinct = false; star = false; outputs = numbers_put 16 (with_node nothing_read (number_node (codes "1"))) (record { node = 0; name = None } ∷ []); tables = record { table = codes "t"; alias = codes "t"; on = None } ∷ []; filter = None; group = []; having = None; order = []; nodes = (with_numbers 16 (with_node nothing_read (number_node (codes "1")))).nodes })) ([]) count.Outputs (spelled ps refl)
    (grammar.IsLine.bare (grammar.IsCommand.select (grammar.IsSelect.select grammar.Head.plain (grammar.Columns.by_outputs (repeats.outputs 16 (grammar.Outputs.one (grammar.IsOutput.plain (whole_number nothing_read (codes "1")))))) (grammar.Tables.one (grammar.IsRef.own (codes "t") refl)) grammar.Clause.left_out grammar.Group.left_out grammar.Clause.left_out grammar.Order.left_out))) refl refl

group_columns : (max : ℕ) → Reads max (codes "SELECT * FROM t GROUP BY a" ++ times 16 (codes ",a")) (TooMany count.GroupColumns)
unfolding is_reserved
group_columns max =
    let ps : List Piece = Wording (codes "SELECT") ∷ Blank ∷ Mark (codes "*") ∷ Blank ∷ Wording (codes "FROM") ∷ Blank ∷ Wording (codes "t") ∷ Blank ∷ Wording (codes "GROUP") ∷ Blank ∷ Wording (codes "BY") ∷ Blank ∷ Wording (codes "a") ∷ pieces 16 (Mark (codes ",") ∷ Wording (codes "a") ∷ []) in
    reading.Reads.too_many (tokens_of ps) (SelectRows (record { distinct = false; star = true; outputs = []; tables = record { table = codes "t"; alias = codes "t"; on = None } ∷ []; filter = None; group = columns_numbered 16 (with_node nothing_read (column_node (codes "a"))) (0 ∷ []); having = None; order = []; nodes = (with_columns 16 (with_node nothing_read (column_node (codes "a")))).nodes })) ([]) count.GroupColumns (spelled ps refl)
    (grammar.IsLine.bare (grammar.IsCommand.select (grammar.IsSelect.select grammar.Head.plain grammar.Columns.by_star (grammar.Tables.one (grammar.IsRef.own (codes "t") refl)) grammar.Clause.left_out (grammar.Group.given (repeats.groups 16 (grammar.GroupColumns.one (grammar.IsColumn.bare (codes "a") refl)))) grammar.Clause.left_out grammar.Order.left_out))) refl refl

order_keys : (max : ℕ) → Reads max (codes "SELECT * FROM t ORDER BY 1" ++ times 8 (codes ",1")) (TooMany count.OrderKeys)
unfolding is_reserved
order_keys max =
    let ps : List Piece = Wording (codes "SELECT") ∷ Blank ∷ Mark (codes "*") ∷ Blank ∷ Wording (codes "FROM") ∷ Blank ∷ Wording (codes "t") ∷ Blank ∷ Wording (codes "ORDER") ∷ Blank ∷ Wording (codes "BY") ∷ Blank ∷ Number (codes "1") ∷ pieces 8 (Mark (codes ",") ∷ Number (codes "1") ∷ []) in
    reading.Reads.too_many (tokens_of ps) (SelectRows (record { distinct = false; star = true; outputs = []; tables = record { table = codes "t"; alias = codes "t"; on = None } ∷ []; filter = None; group = []; having = None; order = pushed 8 first_key (first_key ∷ []); nodes = [] })) ([]) count.OrderKeys (spelled ps refl)
    (grammar.IsLine.bare (grammar.IsCommand.select (grammar.IsSelect.select grammar.Head.plain grammar.Columns.by_star (grammar.Tables.one (grammar.IsRef.own (codes "t") refl)) grammar.Clause.left_out grammar.Group.left_out grammar.Clause.left_out (grammar.Order.given (repeats.keys 8 (grammar.Keys.one (grammar.IsKey.position (codes "1") grammar.Direction.left_out))))))) refl refl

nodes : (max : ℕ) → Reads max (codes "DELETE FROM t WHERE 1" ++ times 48 (codes "+1")) (TooMany count.Nodes)
unfolding is_reserved
nodes max =
    let ps : List Piece = Wording (codes "DELETE") ∷ Blank ∷ Wording (codes "FROM") ∷ Blank ∷ Wording (codes "t") ∷ Blank ∷ Wording (codes "WHERE") ∷ Blank ∷ Number (codes "1") ∷ pieces 48 (Mark (codes "+") ∷ Number (codes "1") ∷ []) in
    reading.Reads.too_many (tokens_of ps) (DeleteRows (record { table = codes "t"; filter = Some (last_sum 48 (with_node nothing_read (number_node (codes "1"))) 0); nodes = (sums_read 48 (with_node nothing_read (number_node (codes "1"))) 0).nodes })) ([]) count.Nodes (spelled ps refl)
    (grammar.IsLine.bare (grammar.IsCommand.delete (codes "t") refl (grammar.Clause.given (grammar.Expression.or_one (grammar.Expression.and_one (grammar.Expression.not_none (grammar.Expression.pred_sum (repeats.sums 48 (sum_number 32 nothing_read (codes "1")))))))))) refl refl

values : (max : ℕ) → Reads max (codes "INSERT INTO t VALUES (1" ++ (times 1024 (codes ",1") ++ codes ")")) (TooMany count.Values)
unfolding is_reserved
values max =
    let ts : List Token = Word (codes "insert") ∷ Word (codes "into") ∷ Word (codes "t") ∷ Word (codes "values") ∷ Sign (codes "(") ∷ Digits (codes "1") ∷ commas 1024 (Sign (codes ")") ∷ []) in
    reading.Reads.too_many ts (InsertRows (record { table = codes "t"; columns = []; values = one ∷ replicate 1024 one; ends = 1025 ∷ [] })) [] count.Values
    (tokens.Spells.word _ (codes "INSERT") _ refl refl (tokens.Spells.blank _ 32 _ refl
    (tokens.Spells.word _ (codes "INTO") _ refl refl (tokens.Spells.blank _ 32 _ refl
    (tokens.Spells.word _ (codes "t") _ refl refl (tokens.Spells.blank _ 32 _ refl
    (tokens.Spells.word _ (codes "VALUES") _ refl refl (tokens.Spells.blank _ 32 _ refl
    (tokens.Spells.sign _ (codes "(") (49 ∷ comma_bytes 1024 (codes ")")) refl refl
    (tokens.Spells.number _ (codes "1") (comma_bytes 1024 (codes ")")) refl refl
    (commas_spelled 1024 (Sign (codes ")") ∷ []) (codes ")") refl (tokens.Spells.sign [] (codes ")") [] refl refl tokens.Spells.at_end))))))))))))
    (grammar.IsLine.bare (grammar.IsCommand.insert (codes "t") refl grammar.Listed.left_out
    (grammar.Tuples.one (repeats.constants 1024 (grammar.Constants.one (grammar.IsConstant.plain (codes "1"))))))) refl refl

name_letters_fit : (max : ℕ) → IsStatement max (codes "VACUUM " ++ times 30 (codes "a"))
unfolding is_reserved
name_letters_fit max =
    let ps : List Piece = Wording (codes "VACUUM") ∷ Blank ∷ Wording (times 30 (codes "a")) ∷ [] in (
      Vacuum (times 30 (codes "a")),
      [],
      reading.Reads.statement (tokens_of ps) (Vacuum (times 30 (codes "a"))) ([]) (spelled ps refl)
          (grammar.IsLine.bare (grammar.IsCommand.vacuum (times 30 (codes "a")) refl)) refl refl,
    )

text_letters_fit : (max : ℕ) → IsStatement max (codes "INSERT INTO t VALUES ('" ++ (times 255 (codes "a") ++ codes "')"))
unfolding is_reserved
text_letters_fit max =
    let ps : List Piece = Wording (codes "INSERT") ∷ Blank ∷ Wording (codes "INTO") ∷ Blank ∷ Wording (codes "t") ∷ Blank ∷ Wording (codes "VALUES") ∷ Blank ∷ Mark (codes "(") ∷ Text (times 255 (codes "a")) ∷ Mark (codes ")") ∷ [] in (
      InsertRows (record { table = codes "t"; columns = []; values = literal.Text (record { at = 0; len = 255 }) ∷ []; ends = 1 ∷ [] }),
      times 255 (codes "a"),
      reading.Reads.statement (tokens_of ps) (InsertRows (record { table = codes "t"; columns = []; values = literal.Text (record { at = 0; len = 255 }) ∷ []; ends = 1 ∷ [] })) (times 255 (codes "a")) (spelled ps refl)
          (grammar.IsLine.bare (grammar.IsCommand.insert (codes "t") refl grammar.Listed.left_out (grammar.Tuples.one (grammar.Constants.one (grammar.IsConstant.text (times 255 (codes "a"))))))) refl refl,
    )

columns_fit : (max : ℕ) → IsStatement max (codes "INSERT INTO t (a" ++ (times 15 (codes ",a") ++ codes ") VALUES (1)"))
unfolding is_reserved
columns_fit max =
    let ps : List Piece = Wording (codes "INSERT") ∷ Blank ∷ Wording (codes "INTO") ∷ Blank ∷ Wording (codes "t") ∷ Blank ∷ Mark (codes "(") ∷ Wording (codes "a") ∷ (pieces 15 (Mark (codes ",") ∷ Wording (codes "a") ∷ []) ++ Mark (codes ")") ∷ Blank ∷ Wording (codes "VALUES") ∷ Blank ∷ Mark (codes "(") ∷ Number (codes "1") ∷ Mark (codes ")") ∷ []) in (
      InsertRows (record { table = codes "t"; columns = pushed 15 (codes "a") (codes "a" ∷ []); values = one ∷ []; ends = 1 ∷ [] }),
      [],
      reading.Reads.statement (tokens_of ps) (InsertRows (record { table = codes "t"; columns = pushed 15 (codes "a") (codes "a" ∷ []); values = one ∷ []; ends = 1 ∷ [] })) ([]) (spelled ps refl)
          (grammar.IsLine.bare (grammar.IsCommand.insert (codes "t") refl (grammar.Listed.given (repeats.names 15 (grammar.Names.one (codes "a") refl))) (grammar.Tuples.one (grammar.Constants.one (grammar.IsConstant.plain (codes "1")))))) refl refl,
    )

rows_fit : (max : ℕ) → IsStatement max (codes "INSERT INTO t VALUES (1)" ++ times 63 (codes ",(1)"))
unfolding is_reserved
rows_fit max =
    let ps : List Piece = Wording (codes "INSERT") ∷ Blank ∷ Wording (codes "INTO") ∷ Blank ∷ Wording (codes "t") ∷ Blank ∷ Wording (codes "VALUES") ∷ Blank ∷ Mark (codes "(") ∷ Number (codes "1") ∷ Mark (codes ")") ∷ pieces 63 (Mark (codes ",") ∷ Mark (codes "(") ∷ Number (codes "1") ∷ Mark (codes ")") ∷ []) in (
      InsertRows (record { table = codes "t"; columns = []; values = pushed 63 one (one ∷ []); ends = rows_end 63 (one ∷ []) (1 ∷ []) }),
      [],
      reading.Reads.statement (tokens_of ps) (InsertRows (record { table = codes "t"; columns = []; values = pushed 63 one (one ∷ []); ends = rows_end 63 (one ∷ []) (1 ∷ []) })) ([]) (spelled ps refl)
          (grammar.IsLine.bare (grammar.IsCommand.insert (codes "t") refl grammar.Listed.left_out (repeats.rows 63 (grammar.Tuples.one (grammar.Constants.one (grammar.IsConstant.plain (codes "1"))))))) refl refl,
    )

tables_in_from_fit : (max : ℕ) → IsStatement max (codes "SELECT * FROM a" ++ times 3 (codes ",a"))
unfolding is_reserved
tables_in_from_fit max =
    let ps : List Piece = Wording (codes "SELECT") ∷ Blank ∷ Mark (codes "*") ∷ Blank ∷ Wording (codes "FROM") ∷ Blank ∷ Wording (codes "a") ∷ pieces 3 (Mark (codes ",") ∷ Wording (codes "a") ∷ []) in (
      SelectRows (record { distinct = false; star = true; outputs = []; tables = pushed 3 table_a (table_a ∷ []); filter = None; group = []; having = None; order = []; nodes = [] }),
      [],
      reading.Reads.statement (tokens_of ps) (SelectRows (record { distinct = false; star = true; outputs = []; tables = pushed 3 table_a (table_a ∷ []); filter = None; group = []; having = None; order = []; nodes = [] })) ([]) (spelled ps refl)
          (grammar.IsLine.bare (grammar.IsCommand.select (grammar.IsSelect.select grammar.Head.plain grammar.Columns.by_star (repeats.tables 3 (grammar.Tables.one (grammar.IsRef.own (codes "a") refl))) grammar.Clause.left_out grammar.Group.left_out grammar.Clause.left_out grammar.Order.left_out))) refl refl,
    )

outputs_fit : (max : ℕ) → IsStatement max (codes "SELECT 1" ++ (times 15 (codes ",1") ++ codes " FROM t"))
unfolding is_reserved
outputs_fit max =
    let ps : List Piece = Wording (codes "SELECT") ∷ Blank ∷ Number (codes "1") ∷ (pieces 15 (Mark (codes ",") ∷ Number (codes "1") ∷ []) ++ Blank ∷ Wording (codes "FROM") ∷ Blank ∷ Wording (codes "t") ∷ []) in (
      SelectRows (record { distinct = false; star = false; outputs = numbers_put 15 (with_node nothing_read (number_node (codes "1"))) (record { node = 0; name = None } ∷ []); tables = record { table = codes "t"; alias = codes "t"; on = None } ∷ []; filter = None; group = []; having = None; order = []; nodes = (with_numbers 15 (with_node nothing_read (number_node (codes "1")))).nodes }),
      [],
      reading.Reads.statement (tokens_of ps) (SelectRows (record { distinct = false; star = false; outputs = numbers_put 15 (with_node nothing_read (number_node (codes "1"))) (record { node = 0; name = None } ∷ []); tables = record { table = codes "t"; alias = codes "t"; on = None } ∷ []; filter = None; group = []; having = None; order = []; nodes = (with_numbers 15 (with_node nothing_read (number_node (codes "1")))).nodes })) ([]) (spelled ps refl)
          (grammar.IsLine.bare (grammar.IsCommand.select (grammar.IsSelect.select grammar.Head.plain (grammar.Columns.by_outputs (repeats.outputs 15 (grammar.Outputs.one (grammar.IsOutput.plain (whole_number nothing_read (codes "1")))))) (grammar.Tables.one (grammar.IsRef.own (codes "t") refl)) grammar.Clause.left_out grammar.Group.left_out grammar.Clause.left_out grammar.Order.left_out))) refl refl,
    )

group_columns_fit : (max : ℕ) → IsStatement max (codes "SELECT * FROM t GROUP BY a" ++ times 15 (codes ",a"))
unfolding is_reserved
group_columns_fit max =
    let ps : List Piece = Wording (codes "SELECT") ∷ Blank ∷ Mark (codes "*") ∷ Blank ∷ Wording (codes "FROM") ∷ Blank ∷ Wording (codes "t") ∷ Blank ∷ Wording (codes "GROUP") ∷ Blank ∷ Wording (codes "BY") ∷ Blank ∷ Wording (codes "a") ∷ pieces 15 (Mark (codes ",") ∷ Wording (codes "a") ∷ []) in (
      SelectRows (record { distinct = false; star = true; outputs = []; tables = record { table = codes "t"; alias = codes "t"; on = None } ∷ []; filter = None; group = columns_numbered 15 (with_node nothing_read (column_node (codes "a"))) (0 ∷ []); having = None; order = []; nodes = (with_columns 15 (with_node nothing_read (column_node (codes "a")))).nodes }),
      [],
      reading.Reads.statement (tokens_of ps) (SelectRows (record { distinct = false; star = true; outputs = []; tables = record { table = codes "t"; alias = codes "t"; on = None } ∷ []; filter = None; group = columns_numbered 15 (with_node nothing_read (column_node (codes "a"))) (0 ∷ []); having = None; order = []; nodes = (with_columns 15 (with_node nothing_read (column_node (codes "a")))).nodes })) ([]) (spelled ps refl)
          (grammar.IsLine.bare (grammar.IsCommand.select (grammar.IsSelect.select grammar.Head.plain grammar.Columns.by_star (grammar.Tables.one (grammar.IsRef.own (codes "t") refl)) grammar.Clause.left_out (grammar.Group.given (repeats.groups 15 (grammar.GroupColumns.one (grammar.IsColumn.bare (codes "a") refl)))) grammar.Clause.left_out grammar.Order.left_out))) refl refl,
    )

order_keys_fit : (max : ℕ) → IsStatement max (codes "SELECT * FROM t ORDER BY 1" ++ times 7 (codes ",1"))
unfolding is_reserved
order_keys_fit max =
    let ps : List Piece = Wording (codes "SELECT") ∷ Blank ∷ Mark (codes "*") ∷ Blank ∷ Wording (codes "FROM") ∷ Blank ∷ Wording (codes "t") ∷ Blank ∷ Wording (codes "ORDER") ∷ Blank ∷ Wording (codes "BY") ∷ Blank ∷ Number (codes "1") ∷ pieces 7 (Mark (codes ",") ∷ Number (codes "1") ∷ []) in (
      SelectRows (record { distinct = false; star = true; outputs = []; tables = record { table = codes "t"; alias = codes "t"; on = None } ∷ []; filter = None; group = []; having = None; order = pushed 7 first_key (first_key ∷ []); nodes = [] }),
      [],
      reading.Reads.statement (tokens_of ps) (SelectRows (record { distinct = false; star = true; outputs = []; tables = record { table = codes "t"; alias = codes "t"; on = None } ∷ []; filter = None; group = []; having = None; order = pushed 7 first_key (first_key ∷ []); nodes = [] })) ([]) (spelled ps refl)
          (grammar.IsLine.bare (grammar.IsCommand.select (grammar.IsSelect.select grammar.Head.plain grammar.Columns.by_star (grammar.Tables.one (grammar.IsRef.own (codes "t") refl)) grammar.Clause.left_out grammar.Group.left_out grammar.Clause.left_out (grammar.Order.given (repeats.keys 7 (grammar.Keys.one (grammar.IsKey.position (codes "1") grammar.Direction.left_out))))))) refl refl,
    )

nodes_fit : (max : ℕ) → IsStatement max (codes "DELETE FROM t WHERE 1" ++ times 47 (codes "+1"))
unfolding is_reserved
nodes_fit max =
    let ps : List Piece = Wording (codes "DELETE") ∷ Blank ∷ Wording (codes "FROM") ∷ Blank ∷ Wording (codes "t") ∷ Blank ∷ Wording (codes "WHERE") ∷ Blank ∷ Number (codes "1") ∷ pieces 47 (Mark (codes "+") ∷ Number (codes "1") ∷ []) in (
      DeleteRows (record { table = codes "t"; filter = Some (last_sum 47 (with_node nothing_read (number_node (codes "1"))) 0); nodes = (sums_read 47 (with_node nothing_read (number_node (codes "1"))) 0).nodes }),
      [],
      reading.Reads.statement (tokens_of ps) (DeleteRows (record { table = codes "t"; filter = Some (last_sum 47 (with_node nothing_read (number_node (codes "1"))) 0); nodes = (sums_read 47 (with_node nothing_read (number_node (codes "1"))) 0).nodes })) ([]) (spelled ps refl)
          (grammar.IsLine.bare (grammar.IsCommand.delete (codes "t") refl (grammar.Clause.given (grammar.Expression.or_one (grammar.Expression.and_one (grammar.Expression.not_none (grammar.Expression.pred_sum (repeats.sums 47 (sum_number 32 nothing_read (codes "1")))))))))) refl refl,
    )

values_fit : (max : ℕ) → IsStatement max (codes "INSERT INTO t VALUES (1" ++ (times 1023 (codes ",1") ++ codes ")"))
unfolding is_reserved
values_fit max =
    let ts : List Token = Word (codes "insert") ∷ Word (codes "into") ∷ Word (codes "t") ∷ Word (codes "values") ∷ Sign (codes "(") ∷ Digits (codes "1") ∷ commas 1023 (Sign (codes ")") ∷ []) in (
      InsertRows (record { table = codes "t"; columns = []; values = one ∷ replicate 1023 one; ends = 1024 ∷ [] }),
      [],
      reading.Reads.statement ts (InsertRows (record { table = codes "t"; columns = []; values = one ∷ replicate 1023 one; ends = 1024 ∷ [] })) []
          (tokens.Spells.word _ (codes "INSERT") _ refl refl (tokens.Spells.blank _ 32 _ refl
          (tokens.Spells.word _ (codes "INTO") _ refl refl (tokens.Spells.blank _ 32 _ refl
          (tokens.Spells.word _ (codes "t") _ refl refl (tokens.Spells.blank _ 32 _ refl
          (tokens.Spells.word _ (codes "VALUES") _ refl refl (tokens.Spells.blank _ 32 _ refl
          (tokens.Spells.sign _ (codes "(") (49 ∷ comma_bytes 1023 (codes ")")) refl refl
          (tokens.Spells.number _ (codes "1") (comma_bytes 1023 (codes ")")) refl refl
          (commas_spelled 1023 (Sign (codes ")") ∷ []) (codes ")") refl (tokens.Spells.sign [] (codes ")") [] refl refl tokens.Spells.at_end))))))))))))
          (grammar.IsLine.bare (grammar.IsCommand.insert (codes "t") refl grammar.Listed.left_out
          (grammar.Tuples.one (repeats.constants 1023 (grammar.Constants.one (grammar.IsConstant.plain (codes "1"))))))) refl refl,
    )

pub line_counts_hold : (max : ℕ) → LineCountsHold max
line_counts_hold max = record { name_letters = name_letters max; text_letters = text_letters max; columns = columns max; rows = rows max; tables_in_from = tables_in_from max; outputs = outputs max; group_columns = group_columns max; order_keys = order_keys max; nodes = nodes max; values = values max }

pub line_counts_fit : (max : ℕ) → LineCountsFit max
line_counts_fit max = record { name_letters = name_letters_fit max; text_letters = text_letters_fit max; columns = columns_fit max; rows = rows_fit max; tables_in_from = tables_in_from_fit max; outputs = outputs_fit max; group_columns = group_columns_fit max; order_keys = order_keys_fit max; nodes = nodes_fit max; values = values_fit max }
