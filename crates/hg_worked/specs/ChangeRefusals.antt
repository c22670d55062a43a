-- Worked refusals of changes: two causes in one statement, of which the first is given; each by hand.
use Rattle.std.specs.Prelude.{◌≡◌, ℕ, true, false, List, [], ◌∷◌, ◌++◌, Some, None, map, length, pos, negsuc, codes, replicate}
use Rattle.hg_model.specs.ChangeMeaning.{insert_meaning, update_meaning, delete_meaning, vacuum_meaning, tables_after}
use Rattle.hg_model.specs.Changes.{Made, Refused}
use Rattle.hg_model.specs.Creation.{Index}
use Rattle.hg_model.specs.Refusal.{UnknownTable, UnknownColumn, AmbiguousColumn, TypeMismatch, TooWide, NameTaken, TooMany, NotGrouped, DoesNotFit, NullNotAllowed, DuplicateKey, BadNumber, RowTooLong, StampsUsedUp, KeyTooLong, code_of}
use Rattle.hg_model.specs.Tables.{Table}
use Rattle.hg_model.specs.declared.trees.Count.TheVariants as count
use Rattle.hg_model.specs.declared.trees.Cmp.TheVariants as cmp
use Rattle.hg_model.specs.declared.trees.Fold.TheVariants as of
use Rattle.hg_model.specs.declared.trees.Literal.TheVariants as literal
use Rattle.hg_model.specs.declared.trees.Node.TheVariants as node
use Rattle.hg_model.specs.declared.trees.Op.TheVariants as op
use Rattle.hg_model.specs.declared.trees.SqlType.TheVariants.{Integer, Varchar}
use Rattle.hg_model.specs.declared.values.Value.TheVariants.{Null, Int}

-- t with a unique index on its first column, and w with one on its first
abbrev pub tables_tw : List Table
tables_tw =
    record { name = codes "t"; columns = (record { name = codes "k"; ty = Integer; not_null = false } ∷ record { name = codes "a"; ty = Integer; not_null = true } ∷ record { name = codes "s"; ty = Varchar 3; not_null = false } ∷ []); rows = ((Int (pos 1)) ∷ (Int (pos 10)) ∷ Null ∷ []) ∷ ((Int (pos 2)) ∷ (Int (pos 20)) ∷ Null ∷ []) ∷ [] }
    ∷ record { name = codes "w"; columns = (record { name = codes "p"; ty = Varchar 255; not_null = false } ∷ record { name = codes "q"; ty = Varchar 255; not_null = false } ∷ record { name = codes "r"; ty = Varchar 255; not_null = false } ∷ record { name = codes "s"; ty = Varchar 255; not_null = false } ∷ record { name = codes "z"; ty = Varchar 1; not_null = false } ∷ []); rows = (Null ∷ Null ∷ Null ∷ Null ∷ Null ∷ []) ∷ (Null ∷ Null ∷ Null ∷ Null ∷ Null ∷ []) ∷ [] } ∷ []

abbrev pub indexes_tw : List Index
indexes_tw = record { name = None; table = codes "t"; columns = 0 ∷ []; unique = true } ∷ record { name = None; table = codes "w"; columns = 0 ∷ []; unique = true } ∷ []

-- none of the 2^20 stamps is left, and one is
abbrev pub all_given : ℕ
all_given = 1048576

abbrev pub one_left : ℕ
one_left = 1048575

-- a thousand letters and one or two more; each of four columns of w takes 250 of them
abbrev pub letters : List ℕ
letters = replicate 1000 97 ++ 98 ∷ 99 ∷ []

pub record InsertRefusalsHold : Type 0 where
  -- INSERT INTO u (y) VALUES (1)
  pub table_then_column : insert_meaning 0 tables_tw indexes_tw [] (record { table = codes "u"; columns = (codes "y" ∷ []); values = (literal.Int (pos 1) ∷ []); ends = (1 ∷ []) }) ≡ Refused (UnknownTable (codes "u"))
  -- INSERT INTO t (a, a, y) VALUES (1, 2, 3)
  pub taken_then_unknown : insert_meaning 0 tables_tw indexes_tw [] (record { table = codes "t"; columns = (codes "a" ∷ codes "a" ∷ codes "y" ∷ []); values = (literal.Int (pos 1) ∷ literal.Int (pos 2) ∷ literal.Int (pos 3) ∷ []); ends = (3 ∷ []) }) ≡ Refused (NameTaken (codes "a"))
  -- INSERT INTO t (y, a, a) VALUES (1, 2, 3)
  pub unknown_then_taken : insert_meaning 0 tables_tw indexes_tw [] (record { table = codes "t"; columns = (codes "y" ∷ codes "a" ∷ codes "a" ∷ []); values = (literal.Int (pos 1) ∷ literal.Int (pos 2) ∷ literal.Int (pos 3) ∷ []); ends = (3 ∷ []) }) ≡ Refused (UnknownColumn (record { table = None; name = codes "y" }))
  -- INSERT INTO t (a, y) VALUES ('x')
  pub column_then_type : insert_meaning 0 tables_tw indexes_tw (codes "x") (record { table = codes "t"; columns = (codes "a" ∷ codes "y" ∷ []); values = (literal.Text (record { at = 0; len = 1 }) ∷ []); ends = (1 ∷ []) }) ≡ Refused (UnknownColumn (record { table = None; name = codes "y" }))
  -- INSERT INTO t (a, a) VALUES ('x', 1)
  pub taken_then_type : insert_meaning 0 tables_tw indexes_tw (codes "x") (record { table = codes "t"; columns = (codes "a" ∷ codes "a" ∷ []); values = (literal.Text (record { at = 0; len = 1 }) ∷ literal.Int (pos 1) ∷ []); ends = (2 ∷ []) }) ≡ Refused (NameTaken (codes "a"))
  -- INSERT INTO t (k, a) VALUES (1)
  pub number_of_values_is_a_type : insert_meaning 0 tables_tw indexes_tw [] (record { table = codes "t"; columns = (codes "k" ∷ codes "a" ∷ []); values = (literal.Int (pos 1) ∷ []); ends = (1 ∷ []) }) ≡ Refused TypeMismatch
  -- INSERT INTO t (a) VALUES ('x')
  pub type_then_stamp : insert_meaning all_given tables_tw indexes_tw (codes "x") (record { table = codes "t"; columns = (codes "a" ∷ []); values = (literal.Text (record { at = 0; len = 1 }) ∷ []); ends = (1 ∷ []) }) ≡ Refused TypeMismatch
  -- INSERT INTO t (a) VALUES (NULL)
  pub stamp_then_null : insert_meaning all_given tables_tw indexes_tw [] (record { table = codes "t"; columns = (codes "a" ∷ []); values = (literal.Null ∷ []); ends = (1 ∷ []) }) ≡ Refused StampsUsedUp
  -- INSERT INTO t (a) VALUES (NULL)
  pub last_stamp : insert_meaning one_left tables_tw indexes_tw [] (record { table = codes "t"; columns = (codes "a" ∷ []); values = (literal.Null ∷ []); ends = (1 ∷ []) }) ≡ Refused (NullNotAllowed (codes "a"))
  -- INSERT INTO t (k, a) VALUES (2147483648, 5), (3, NULL)
  pub null_then_fit : insert_meaning 0 tables_tw indexes_tw [] (record { table = codes "t"; columns = (codes "k" ∷ codes "a" ∷ []); values = (literal.Int (pos 2147483648) ∷ literal.Int (pos 5) ∷ literal.Int (pos 3) ∷ literal.Null ∷ []); ends = (2 ∷ 4 ∷ []) }) ≡ Refused (NullNotAllowed (codes "a"))
  -- INSERT INTO w VALUES of four texts of 250 letters and one of two
  pub fit_then_length : insert_meaning 0 tables_tw indexes_tw letters (record { table = codes "w"; columns = []; values = (literal.Text (record { at = 0; len = 250 }) ∷ literal.Text (record { at = 250; len = 250 }) ∷ literal.Text (record { at = 500; len = 250 }) ∷ literal.Text (record { at = 750; len = 250 }) ∷ literal.Text (record { at = 1000; len = 2 }) ∷ []); ends = (5 ∷ []) }) ≡ Refused (DoesNotFit (codes "z"))
  -- INSERT INTO w VALUES of two equal rows of four texts of 250 letters and one of one
  pub length_then_double : insert_meaning 0 tables_tw indexes_tw letters (record { table = codes "w"; columns = []; values = (literal.Text (record { at = 0; len = 250 }) ∷ literal.Text (record { at = 250; len = 250 }) ∷ literal.Text (record { at = 500; len = 250 }) ∷ literal.Text (record { at = 750; len = 250 }) ∷ literal.Text (record { at = 1000; len = 1 }) ∷ literal.Text (record { at = 0; len = 250 }) ∷ literal.Text (record { at = 250; len = 250 }) ∷ literal.Text (record { at = 500; len = 250 }) ∷ literal.Text (record { at = 750; len = 250 }) ∷ literal.Text (record { at = 1000; len = 1 }) ∷ []); ends = (5 ∷ 10 ∷ []) }) ≡ Refused RowTooLong
  -- INSERT INTO t VALUES (2, 3, 'x')
  pub double_key : insert_meaning 0 tables_tw indexes_tw (codes "x") (record { table = codes "t"; columns = []; values = (literal.Int (pos 2) ∷ literal.Int (pos 3) ∷ literal.Text (record { at = 0; len = 1 }) ∷ []); ends = (3 ∷ []) }) ≡ Refused DuplicateKey
  -- INSERT INTO t (a, k) VALUES (-30, 3)
  pub made_by_the_last_stamp : insert_meaning one_left tables_tw indexes_tw [] (record { table = codes "t"; columns = (codes "a" ∷ codes "k" ∷ []); values = (literal.Int (negsuc 29) ∷ literal.Int (pos 3) ∷ []); ends = (2 ∷ []) }) ≡ Made (((Int (pos 1)) ∷ (Int (pos 10)) ∷ Null ∷ []) ∷ ((Int (pos 2)) ∷ (Int (pos 20)) ∷ Null ∷ []) ∷ ((Int (pos 3)) ∷ (Int (negsuc 29)) ∷ Null ∷ []) ∷ []) 1

pub record UpdateRefusalsHold : Type 0 where
  -- UPDATE u SET y = 1
  pub table_then_column : update_meaning 0 tables_tw indexes_tw [] (record { table = codes "u"; sets = ((codes "y", 0) ∷ []); filter = None; nodes = ((node.Lit (literal.Int (pos 1))) ∷ []) }) ≡ Refused (UnknownTable (codes "u"))
  -- UPDATE t SET a = 1, a = 2, y = 3
  pub taken_then_unknown : update_meaning 0 tables_tw indexes_tw [] (record { table = codes "t"; sets = ((codes "a", 0) ∷ (codes "a", 1) ∷ (codes "y", 2) ∷ []); filter = None; nodes = ((node.Lit (literal.Int (pos 1))) ∷ (node.Lit (literal.Int (pos 2))) ∷ (node.Lit (literal.Int (pos 3))) ∷ []) }) ≡ Refused (NameTaken (codes "a"))
  -- UPDATE t SET y = 1, a = 2, a = 3
  pub unknown_then_taken : update_meaning 0 tables_tw indexes_tw [] (record { table = codes "t"; sets = ((codes "y", 0) ∷ (codes "a", 1) ∷ (codes "a", 2) ∷ []); filter = None; nodes = ((node.Lit (literal.Int (pos 1))) ∷ (node.Lit (literal.Int (pos 2))) ∷ (node.Lit (literal.Int (pos 3))) ∷ []) }) ≡ Refused (UnknownColumn (record { table = None; name = codes "y" }))
  -- UPDATE t SET a = x, a = 1
  pub taken_then_name : update_meaning 0 tables_tw indexes_tw [] (record { table = codes "t"; sets = ((codes "a", 0) ∷ (codes "a", 1) ∷ []); filter = None; nodes = ((node.Col (record { table = None; name = codes "x" })) ∷ (node.Lit (literal.Int (pos 1))) ∷ []) }) ≡ Refused (NameTaken (codes "a"))
  -- UPDATE t SET a = x, y = 1
  pub target_then_name : update_meaning 0 tables_tw indexes_tw [] (record { table = codes "t"; sets = ((codes "a", 0) ∷ (codes "y", 1) ∷ []); filter = None; nodes = ((node.Col (record { table = None; name = codes "x" })) ∷ (node.Lit (literal.Int (pos 1))) ∷ []) }) ≡ Refused (UnknownColumn (record { table = None; name = codes "y" }))
  -- UPDATE t SET a = y WHERE x = 1
  pub names_in_order : update_meaning 0 tables_tw indexes_tw [] (record { table = codes "t"; sets = ((codes "a", 0) ∷ []); filter = (Some 3); nodes = ((node.Col (record { table = None; name = codes "y" })) ∷ (node.Col (record { table = None; name = codes "x" })) ∷ (node.Lit (literal.Int (pos 1))) ∷ (node.Compare cmp.Eq 1 2) ∷ []) }) ≡ Refused (UnknownColumn (record { table = None; name = codes "y" }))
  -- UPDATE t SET a = 'x' WHERE y = 1
  pub name_then_type : update_meaning 0 tables_tw indexes_tw (codes "x") (record { table = codes "t"; sets = ((codes "a", 0) ∷ []); filter = (Some 3); nodes = ((node.Lit (literal.Text (record { at = 0; len = 1 }))) ∷ (node.Col (record { table = None; name = codes "y" })) ∷ (node.Lit (literal.Int (pos 1))) ∷ (node.Compare cmp.Eq 1 2) ∷ []) }) ≡ Refused (UnknownColumn (record { table = None; name = codes "y" }))
  -- UPDATE t SET a = COUNT(*), k = 'x'
  pub type_then_aggregate : update_meaning 0 tables_tw indexes_tw (codes "x") (record { table = codes "t"; sets = ((codes "a", 0) ∷ (codes "k", 1) ∷ []); filter = None; nodes = ((node.Aggregate of.CountRows None) ∷ (node.Lit (literal.Text (record { at = 0; len = 1 }))) ∷ []) }) ≡ Refused TypeMismatch
  -- UPDATE t SET a = a * a * a * a, k = COUNT(*)
  pub aggregate_then_width : update_meaning 0 tables_tw indexes_tw [] (record { table = codes "t"; sets = ((codes "a", 6) ∷ (codes "k", 7) ∷ []); filter = None; nodes = ((node.Col (record { table = None; name = codes "a" })) ∷ (node.Col (record { table = None; name = codes "a" })) ∷ (node.Arith op.Mul 0 1) ∷ (node.Col (record { table = None; name = codes "a" })) ∷ (node.Arith op.Mul 2 3) ∷ (node.Col (record { table = None; name = codes "a" })) ∷ (node.Arith op.Mul 4 5) ∷ (node.Aggregate of.CountRows None) ∷ []) }) ≡ Refused NotGrouped
  -- UPDATE t SET a = a * a * a * a
  pub width_then_stamp : update_meaning all_given tables_tw indexes_tw [] (record { table = codes "t"; sets = ((codes "a", 6) ∷ []); filter = None; nodes = ((node.Col (record { table = None; name = codes "a" })) ∷ (node.Col (record { table = None; name = codes "a" })) ∷ (node.Arith op.Mul 0 1) ∷ (node.Col (record { table = None; name = codes "a" })) ∷ (node.Arith op.Mul 2 3) ∷ (node.Col (record { table = None; name = codes "a" })) ∷ (node.Arith op.Mul 4 5) ∷ []) }) ≡ Refused TooWide
  -- UPDATE t SET a = NULL
  pub stamp_then_null : update_meaning all_given tables_tw indexes_tw [] (record { table = codes "t"; sets = ((codes "a", 0) ∷ []); filter = None; nodes = ((node.Lit literal.Null) ∷ []) }) ≡ Refused StampsUsedUp
  -- UPDATE t SET k = 2147483648, a = NULL
  pub null_then_fit : update_meaning 0 tables_tw indexes_tw [] (record { table = codes "t"; sets = ((codes "k", 0) ∷ (codes "a", 1) ∷ []); filter = None; nodes = ((node.Lit (literal.Int (pos 2147483648))) ∷ (node.Lit literal.Null) ∷ []) }) ≡ Refused (NullNotAllowed (codes "a"))
  -- UPDATE w SET four columns to texts of 250 letters and z to one of two
  pub fit_then_length : update_meaning 0 tables_tw indexes_tw letters (record { table = codes "w"; sets = ((codes "p", 0) ∷ (codes "q", 1) ∷ (codes "r", 2) ∷ (codes "s", 3) ∷ (codes "z", 4) ∷ []); filter = None; nodes = ((node.Lit (literal.Text (record { at = 0; len = 250 }))) ∷ (node.Lit (literal.Text (record { at = 250; len = 250 }))) ∷ (node.Lit (literal.Text (record { at = 500; len = 250 }))) ∷ (node.Lit (literal.Text (record { at = 750; len = 250 }))) ∷ (node.Lit (literal.Text (record { at = 1000; len = 2 }))) ∷ []) }) ≡ Refused (DoesNotFit (codes "z"))
  -- UPDATE w SET four columns of both rows to texts of 250 letters and z to one of one
  pub length_then_double : update_meaning 0 tables_tw indexes_tw letters (record { table = codes "w"; sets = ((codes "p", 0) ∷ (codes "q", 1) ∷ (codes "r", 2) ∷ (codes "s", 3) ∷ (codes "z", 4) ∷ []); filter = None; nodes = ((node.Lit (literal.Text (record { at = 0; len = 250 }))) ∷ (node.Lit (literal.Text (record { at = 250; len = 250 }))) ∷ (node.Lit (literal.Text (record { at = 500; len = 250 }))) ∷ (node.Lit (literal.Text (record { at = 750; len = 250 }))) ∷ (node.Lit (literal.Text (record { at = 1000; len = 1 }))) ∷ []) }) ≡ Refused RowTooLong
  -- UPDATE t SET k = 7
  pub double_key : update_meaning 0 tables_tw indexes_tw [] (record { table = codes "t"; sets = ((codes "k", 0) ∷ []); filter = None; nodes = ((node.Lit (literal.Int (pos 7))) ∷ []) }) ≡ Refused DuplicateKey

pub record DeleteRefusalsHold : Type 0 where
  -- DELETE FROM u WHERE y = 1
  pub table_then_name : delete_meaning 0 tables_tw [] (record { table = codes "u"; filter = (Some 2); nodes = ((node.Col (record { table = None; name = codes "y" })) ∷ (node.Lit (literal.Int (pos 1))) ∷ (node.Compare cmp.Eq 0 1) ∷ []) }) ≡ Refused (UnknownTable (codes "u"))
  -- DELETE FROM t WHERE y = 1 OR x = 1
  pub names_in_order : delete_meaning 0 tables_tw [] (record { table = codes "t"; filter = (Some 6); nodes = ((node.Col (record { table = None; name = codes "y" })) ∷ (node.Lit (literal.Int (pos 1))) ∷ (node.Compare cmp.Eq 0 1) ∷ (node.Col (record { table = None; name = codes "x" })) ∷ (node.Lit (literal.Int (pos 1))) ∷ (node.Compare cmp.Eq 3 4) ∷ (node.Either 2 5) ∷ []) }) ≡ Refused (UnknownColumn (record { table = None; name = codes "y" }))
  -- DELETE FROM t WHERE a = 'x' AND y = 1
  pub name_then_type : delete_meaning 0 tables_tw (codes "x") (record { table = codes "t"; filter = (Some 6); nodes = ((node.Col (record { table = None; name = codes "a" })) ∷ (node.Lit (literal.Text (record { at = 0; len = 1 }))) ∷ (node.Compare cmp.Eq 0 1) ∷ (node.Col (record { table = None; name = codes "y" })) ∷ (node.Lit (literal.Int (pos 1))) ∷ (node.Compare cmp.Eq 3 4) ∷ (node.Both 2 5) ∷ []) }) ≡ Refused (UnknownColumn (record { table = None; name = codes "y" }))
  -- DELETE FROM t WHERE COUNT(*) = 'x'
  pub type_then_aggregate : delete_meaning 0 tables_tw (codes "x") (record { table = codes "t"; filter = (Some 2); nodes = ((node.Aggregate of.CountRows None) ∷ (node.Lit (literal.Text (record { at = 0; len = 1 }))) ∷ (node.Compare cmp.Eq 0 1) ∷ []) }) ≡ Refused TypeMismatch
  -- DELETE FROM t WHERE a * a * a * a = COUNT(*)
  pub aggregate_then_width : delete_meaning 0 tables_tw [] (record { table = codes "t"; filter = (Some 8); nodes = ((node.Col (record { table = None; name = codes "a" })) ∷ (node.Col (record { table = None; name = codes "a" })) ∷ (node.Arith op.Mul 0 1) ∷ (node.Col (record { table = None; name = codes "a" })) ∷ (node.Arith op.Mul 2 3) ∷ (node.Col (record { table = None; name = codes "a" })) ∷ (node.Arith op.Mul 4 5) ∷ (node.Aggregate of.CountRows None) ∷ (node.Compare cmp.Eq 6 7) ∷ []) }) ≡ Refused NotGrouped
  -- DELETE FROM t WHERE a * a * a * a = 1
  pub width_then_stamp : delete_meaning all_given tables_tw [] (record { table = codes "t"; filter = (Some 8); nodes = ((node.Col (record { table = None; name = codes "a" })) ∷ (node.Col (record { table = None; name = codes "a" })) ∷ (node.Arith op.Mul 0 1) ∷ (node.Col (record { table = None; name = codes "a" })) ∷ (node.Arith op.Mul 2 3) ∷ (node.Col (record { table = None; name = codes "a" })) ∷ (node.Arith op.Mul 4 5) ∷ (node.Lit (literal.Int (pos 1))) ∷ (node.Compare cmp.Eq 6 7) ∷ []) }) ≡ Refused TooWide
  -- DELETE FROM t WHERE a = 5
  pub stamps_used_up : delete_meaning all_given tables_tw [] (record { table = codes "t"; filter = (Some 2); nodes = ((node.Col (record { table = None; name = codes "a" })) ∷ (node.Lit (literal.Int (pos 5))) ∷ (node.Compare cmp.Eq 0 1) ∷ []) }) ≡ Refused StampsUsedUp
  -- DELETE FROM t WHERE a = 10
  pub made_by_the_last_stamp : delete_meaning one_left tables_tw [] (record { table = codes "t"; filter = (Some 2); nodes = ((node.Col (record { table = None; name = codes "a" })) ∷ (node.Lit (literal.Int (pos 10))) ∷ (node.Compare cmp.Eq 0 1) ∷ []) }) ≡ Made (((Int (pos 2)) ∷ (Int (pos 20)) ∷ Null ∷ []) ∷ []) 1

pub record VacuumsHold : Type 0 where
  -- VACUUM u
  pub unknown_table : vacuum_meaning tables_tw (codes "u") ≡ Refused (UnknownTable (codes "u"))
  -- VACUUM t
  pub same_rows : vacuum_meaning tables_tw (codes "t") ≡ Made (((Int (pos 1)) ∷ (Int (pos 10)) ∷ Null ∷ []) ∷ ((Int (pos 2)) ∷ (Int (pos 20)) ∷ Null ∷ []) ∷ []) 0
  -- the rows of t after a change of it
  pub after_a_change : map (λ (x : Table). length x.rows) (tables_after tables_tw (codes "t") (Made [] 2)) ≡ 0 ∷ 2 ∷ []
  -- the rows of t after a refused change of it
  pub after_a_refusal : tables_after tables_tw (codes "t") (Refused DuplicateKey) ≡ tables_tw

pub record CodesHold : Type 0 where
  -- unknown table
  pub unknown_table : code_of (UnknownTable (codes "t")) ≡ 3
  -- unknown column
  pub unknown_column : code_of (UnknownColumn (record { table = None; name = codes "a" })) ≡ 4
  -- ambiguous column
  pub ambiguous_column : code_of (AmbiguousColumn (record { table = None; name = codes "a" })) ≡ 5
  -- type mismatch
  pub type_mismatch : code_of TypeMismatch ≡ 6
  -- too wide
  pub too_wide : code_of TooWide ≡ 7
  -- name taken
  pub name_taken : code_of (NameTaken (codes "t")) ≡ 8
  -- too many
  pub too_many : code_of (TooMany count.Nodes) ≡ 9
  -- not grouped
  pub not_grouped : code_of NotGrouped ≡ 10
  -- does not fit
  pub does_not_fit : code_of (DoesNotFit (codes "a")) ≡ 11
  -- null not allowed
  pub null_not_allowed : code_of (NullNotAllowed (codes "a")) ≡ 12
  -- duplicate key
  pub duplicate_key : code_of DuplicateKey ≡ 13
  -- bad number
  pub bad_number : code_of BadNumber ≡ 22
  -- row too long
  pub row_too_long : code_of RowTooLong ≡ 23
  -- stamps used up
  pub stamps_used_up : code_of StampsUsedUp ≡ 24
  -- key too long
  pub key_too_long : code_of KeyTooLong ≡ 25
