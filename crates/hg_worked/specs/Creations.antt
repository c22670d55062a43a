-- Worked statements, each with its answer by hand.
use Rattle.std.specs.Prelude.{◌≡◌, true, false, [], ◌∷◌, Some, None, codes, replicate}
use Rattle.hg_model.specs.Creation.{Index, created_table, created_index, created_indexes, uniques_of, key_length, create_table_refusal, create_index_refusal}
use Rattle.hg_model.specs.Refusal.{UnknownTable, UnknownColumn, NameTaken, TooMany, KeyTooLong, DuplicateKey}
use Rattle.hg_model.specs.declared.trees.Count.TheVariants as count
use Rattle.hg_model.specs.declared.trees.SqlType.TheVariants.{Integer, Varchar}
use Rattle.hg_worked.specs.Samples.{tables_10, tables_11, tables_19}

-- an index that UNIQUE makes on the first column of t, and one that CREATE INDEX made
abbrev pub unique_index : Index
unique_index = record { name = None; table = codes "t"; columns = 0 ∷ []; unique = true }

abbrev pub named_index : Index
named_index = record { name = Some (codes "i"); table = codes "x"; columns = 0 ∷ []; unique = false }

pub record CreationsHold : Type 0 where
  -- CREATE INDEX i ON x (p, q, r), of three columns of VARCHAR(200)
  pub bytes_606 : key_length (record { name = codes "p"; ty = Varchar 200; not_null = false } ∷ record { name = codes "q"; ty = Varchar 200; not_null = false } ∷ record { name = codes "r"; ty = Varchar 200; not_null = false } ∷ []) (0 ∷ 1 ∷ 2 ∷ []) ≡ 606
  pub key_of_606 : create_index_refusal tables_19 [] (record { name = codes "i"; table = codes "x"; unique = false; columns = codes "p" ∷ codes "q" ∷ codes "r" ∷ [] }) ≡ Some KeyTooLong
  -- CREATE INDEX i ON x (p, q)
  pub bytes_404 : key_length (record { name = codes "p"; ty = Varchar 200; not_null = false } ∷ record { name = codes "q"; ty = Varchar 200; not_null = false } ∷ []) (0 ∷ 1 ∷ []) ≡ 404
  pub key_of_404 : create_index_refusal tables_19 [] (record { name = codes "i"; table = codes "x"; unique = false; columns = codes "p" ∷ codes "q" ∷ [] }) ≡ None
  -- CREATE INDEX i ON x (s, p, n), of VARCHAR(255), VARCHAR(200) and INTEGER, 464 bytes; and with m, VARCHAR(46), 512
  pub key_of_512 : create_index_refusal tables_19 [] (record { name = codes "i"; table = codes "x"; unique = false; columns = codes "s" ∷ codes "p" ∷ codes "n" ∷ codes "m" ∷ [] }) ≡ None
  -- and with o, VARCHAR(47), 513
  pub key_of_513 : create_index_refusal tables_19 [] (record { name = codes "i"; table = codes "x"; unique = false; columns = codes "s" ∷ codes "p" ∷ codes "n" ∷ codes "o" ∷ [] }) ≡ Some KeyTooLong
  -- CREATE INDEX i ON y (q) beside an index i: the name comes before the unknown table
  pub index_taken : create_index_refusal tables_19 (unique_index ∷ named_index ∷ []) (record { name = codes "i"; table = codes "y"; unique = false; columns = codes "q" ∷ [] }) ≡ Some (NameTaken (codes "i"))
  -- CREATE INDEX j ON y (q) beside 64 indexes, and beside 63
  pub indexes_full : create_index_refusal tables_19 (replicate 64 unique_index) (record { name = codes "j"; table = codes "y"; unique = false; columns = codes "q" ∷ [] }) ≡ Some (TooMany count.Indexes)
  pub index_of_no_table : create_index_refusal tables_19 (replicate 63 unique_index) (record { name = codes "j"; table = codes "y"; unique = false; columns = codes "q" ∷ [] }) ≡ Some (UnknownTable (codes "y"))
  -- CREATE INDEX i ON x (p, p, z): the unknown column comes before the repeated one
  pub unknown_first : create_index_refusal tables_19 [] (record { name = codes "i"; table = codes "x"; unique = false; columns = codes "p" ∷ codes "p" ∷ codes "z" ∷ [] }) ≡ Some (UnknownColumn (record { table = None; name = codes "z" }))
  pub repeated : create_index_refusal tables_19 [] (record { name = codes "i"; table = codes "x"; unique = false; columns = codes "p" ∷ codes "q" ∷ codes "q" ∷ codes "p" ∷ [] }) ≡ Some (NameTaken (codes "q"))
  -- CREATE UNIQUE INDEX i ON t (a) over 3, 3, NULL, 5; without UNIQUE; and over NULL, NULL
  pub doubled_key : create_index_refusal tables_11 [] (record { name = codes "i"; table = codes "t"; unique = true; columns = codes "a" ∷ [] }) ≡ Some DuplicateKey
  pub doubled_value : create_index_refusal tables_11 [] (record { name = codes "i"; table = codes "t"; unique = false; columns = codes "a" ∷ [] }) ≡ None
  pub doubled_null : create_index_refusal tables_10 [] (record { name = codes "i"; table = codes "t"; unique = true; columns = codes "a" ∷ [] }) ≡ None
  -- CREATE INDEX i ON x (q, p) has the columns 1 and 0
  pub index_made : created_index (record { name = codes "x"; columns = (record { name = codes "p"; ty = Varchar 200; not_null = false } ∷ record { name = codes "q"; ty = Varchar 200; not_null = false } ∷ []); rows = [] }) (record { name = codes "i"; table = codes "x"; unique = false; columns = codes "q" ∷ codes "p" ∷ [] }) ≡ record { name = Some (codes "i"); table = codes "x"; columns = 1 ∷ 0 ∷ []; unique = false }
  -- CREATE TABLE t (k INTEGER UNIQUE)
  pub unique_made : created_indexes (record { name = codes "t"; columns = (record { column = record { name = codes "k"; ty = Integer; not_null = false }; primary = false; unique = true } ∷ []) }) ≡ unique_index ∷ []
  pub unique_column : created_table (record { name = codes "t"; columns = (record { column = record { name = codes "k"; ty = Integer; not_null = false }; primary = false; unique = true } ∷ []) }) ≡ record { name = codes "t"; columns = (record { name = codes "k"; ty = Integer; not_null = false } ∷ []); rows = [] }
  -- CREATE TABLE c (id INTEGER PRIMARY KEY, name VARCHAR(40) NOT NULL, city VARCHAR(30))
  pub primary_made : created_table (record { name = codes "c"; columns = (record { column = record { name = codes "id"; ty = Integer; not_null = false }; primary = true; unique = false } ∷ record { column = record { name = codes "name"; ty = Varchar 40; not_null = true }; primary = false; unique = false } ∷ record { column = record { name = codes "city"; ty = Varchar 30; not_null = false }; primary = false; unique = false } ∷ []) })
      ≡ record { name = codes "c"; columns = (record { name = codes "id"; ty = Integer; not_null = true } ∷ record { name = codes "name"; ty = Varchar 40; not_null = true } ∷ record { name = codes "city"; ty = Varchar 30; not_null = false } ∷ []); rows = [] }
  -- CREATE TABLE t (a INT, k INT UNIQUE PRIMARY KEY, l INT UNIQUE): one index for k
  pub both_keys : created_indexes (record { name = codes "t"; columns = (record { column = record { name = codes "a"; ty = Integer; not_null = false }; primary = false; unique = false } ∷ record { column = record { name = codes "k"; ty = Integer; not_null = false }; primary = true; unique = true } ∷ record { column = record { name = codes "l"; ty = Integer; not_null = false }; primary = false; unique = true } ∷ []) })
      ≡ record { name = None; table = codes "t"; columns = 1 ∷ []; unique = true } ∷ record { name = None; table = codes "t"; columns = 2 ∷ []; unique = true } ∷ []
  -- the unique indexes of t among those of t and x
  pub uniques : uniques_of (named_index ∷ unique_index ∷ []) (codes "t") ≡ (0 ∷ []) ∷ []
  -- CREATE TABLE x (a INT, a INT) where x is there, and CREATE TABLE y (a INT, b INT, b INT, a INT)
  pub table_taken : create_table_refusal tables_19 [] (record { name = codes "x"; columns = (record { column = record { name = codes "a"; ty = Integer; not_null = false }; primary = false; unique = false } ∷ record { column = record { name = codes "a"; ty = Integer; not_null = false }; primary = false; unique = false } ∷ []) }) ≡ Some (NameTaken (codes "x"))
  pub column_taken : create_table_refusal tables_19 [] (record { name = codes "y"; columns = (record { column = record { name = codes "a"; ty = Integer; not_null = false }; primary = true; unique = false } ∷ record { column = record { name = codes "b"; ty = Integer; not_null = false }; primary = true; unique = false } ∷ record { column = record { name = codes "b"; ty = Integer; not_null = false }; primary = false; unique = false } ∷ record { column = record { name = codes "a"; ty = Integer; not_null = false }; primary = false; unique = false } ∷ []) }) ≡ Some (NameTaken (codes "b"))
  -- CREATE TABLE y (a INT PRIMARY KEY, b INT PRIMARY KEY)
  pub two_primary_keys : create_table_refusal tables_19 [] (record { name = codes "y"; columns = (record { column = record { name = codes "a"; ty = Integer; not_null = false }; primary = true; unique = false } ∷ record { column = record { name = codes "b"; ty = Integer; not_null = false }; primary = true; unique = false } ∷ []) }) ≡ Some (TooMany count.PrimaryKeys)
  -- CREATE TABLE y (a INT) beside 64 tables, and beside 64 indexes; and CREATE TABLE y (a INT UNIQUE) there
  pub tables_full : create_table_refusal (replicate 64 (record { name = codes "x"; columns = []; rows = [] })) [] (record { name = codes "y"; columns = (record { column = record { name = codes "a"; ty = Integer; not_null = false }; primary = false; unique = false } ∷ []) }) ≡ Some (TooMany count.Tables)
  pub no_index_more : create_table_refusal tables_19 (replicate 64 unique_index) (record { name = codes "y"; columns = (record { column = record { name = codes "a"; ty = Integer; not_null = false }; primary = false; unique = false } ∷ []) }) ≡ None
  pub one_index_more : create_table_refusal tables_19 (replicate 64 unique_index) (record { name = codes "y"; columns = (record { column = record { name = codes "a"; ty = Integer; not_null = false }; primary = false; unique = true } ∷ []) }) ≡ Some (TooMany count.Indexes)
