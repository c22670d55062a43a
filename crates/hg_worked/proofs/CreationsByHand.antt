-- Each by computation.
use Rattle.std.specs.Prelude.{◌≡◌, true, false, [], ◌∷◌, Some, None, codes, replicate}
use Rattle.hg_model.specs.Creation.{created_table, created_index, created_indexes, uniques_of, key_length, create_table_refusal, create_index_refusal}
use Rattle.hg_model.specs.Refusal.{UnknownTable, UnknownColumn, NameTaken, TooMany, KeyTooLong, DuplicateKey}
use Rattle.hg_model.specs.declared.trees.Count.TheVariants as count
use Rattle.hg_model.specs.declared.trees.SqlType.TheVariants.{Integer, Varchar}
use Rattle.hg_worked.specs.Samples.{tables_10, tables_11, tables_19}
use Rattle.std.specs.Prelude.{refl}
use Rattle.hg_model.specs.Refusal.{first_cause}
use Rattle.hg_worked.specs.Creations.{CreationsHold, unique_index, named_index}

bytes_606 : key_length (record { name = codes "p"; ty = Varchar 200; not_null = false } ∷ record { name = codes "q"; ty = Varchar 200; not_null = false } ∷ record { name = codes "r"; ty = Varchar 200; not_null = false } ∷ []) (0 ∷ 1 ∷ 2 ∷ []) ≡ 606
unfolding create_table_refusal create_index_refusal first_cause
bytes_606 = refl

key_of_606 : create_index_refusal tables_19 [] (record { name = codes "i"; table = codes "x"; unique = false; columns = codes "p" ∷ codes "q" ∷ codes "r" ∷ [] }) ≡ Some KeyTooLong
unfolding create_table_refusal create_index_refusal first_cause
key_of_606 = refl

bytes_404 : key_length (record { name = codes "p"; ty = Varchar 200; not_null = false } ∷ record { name = codes "q"; ty = Varchar 200; not_null = false } ∷ []) (0 ∷ 1 ∷ []) ≡ 404
unfolding create_table_refusal create_index_refusal first_cause
bytes_404 = refl

key_of_404 : create_index_refusal tables_19 [] (record { name = codes "i"; table = codes "x"; unique = false; columns = codes "p" ∷ codes "q" ∷ [] }) ≡ None
unfolding create_table_refusal create_index_refusal first_cause
key_of_404 = refl

key_of_512 : create_index_refusal tables_19 [] (record { name = codes "i"; table = codes "x"; unique = false; columns = codes "s" ∷ codes "p" ∷ codes "n" ∷ codes "m" ∷ [] }) ≡ None
unfolding create_table_refusal create_index_refusal first_cause
key_of_512 = refl

key_of_513 : create_index_refusal tables_19 [] (record { name = codes "i"; table = codes "x"; unique = false; columns = codes "s" ∷ codes "p" ∷ codes "n" ∷ codes "o" ∷ [] }) ≡ Some KeyTooLong
unfolding create_table_refusal create_index_refusal first_cause
key_of_513 = refl

index_taken : create_index_refusal tables_19 (unique_index ∷ named_index ∷ []) (record { name = codes "i"; table = codes "y"; unique = false; columns = codes "q" ∷ [] }) ≡ Some (NameTaken (codes "i"))
unfolding create_table_refusal create_index_refusal first_cause
index_taken = refl

indexes_full : create_index_refusal tables_19 (replicate 64 unique_index) (record { name = codes "j"; table = codes "y"; unique = false; columns = codes "q" ∷ [] }) ≡ Some (TooMany count.Indexes)
unfolding create_table_refusal create_index_refusal first_cause
indexes_full = refl

index_of_no_table : create_index_refusal tables_19 (replicate 63 unique_index) (record { name = codes "j"; table = codes "y"; unique = false; columns = codes "q" ∷ [] }) ≡ Some (UnknownTable (codes "y"))
unfolding create_table_refusal create_index_refusal first_cause
index_of_no_table = refl

unknown_first : create_index_refusal tables_19 [] (record { name = codes "i"; table = codes "x"; unique = false; columns = codes "p" ∷ codes "p" ∷ codes "z" ∷ [] }) ≡ Some (UnknownColumn (record { table = None; name = codes "z" }))
unfolding create_table_refusal create_index_refusal first_cause
unknown_first = refl

repeated : create_index_refusal tables_19 [] (record { name = codes "i"; table = codes "x"; unique = false; columns = codes "p" ∷ codes "q" ∷ codes "q" ∷ codes "p" ∷ [] }) ≡ Some (NameTaken (codes "q"))
unfolding create_table_refusal create_index_refusal first_cause
repeated = refl

doubled_key : create_index_refusal tables_11 [] (record { name = codes "i"; table = codes "t"; unique = true; columns = codes "a" ∷ [] }) ≡ Some DuplicateKey
unfolding create_table_refusal create_index_refusal first_cause
doubled_key = refl

doubled_value : create_index_refusal tables_11 [] (record { name = codes "i"; table = codes "t"; unique = false; columns = codes "a" ∷ [] }) ≡ None
unfolding create_table_refusal create_index_refusal first_cause
doubled_value = refl

doubled_null : create_index_refusal tables_10 [] (record { name = codes "i"; table = codes "t"; unique = true; columns = codes "a" ∷ [] }) ≡ None
unfolding create_table_refusal create_index_refusal first_cause
doubled_null = refl

index_made : created_index (record { name = codes "x"; columns = (record { name = codes "p"; ty = Varchar 200; not_null = false } ∷ record { name = codes "q"; ty = Varchar 200; not_null = false } ∷ []); rows = [] }) (record { name = codes "i"; table = codes "x"; unique = false; columns = codes "q" ∷ codes "p" ∷ [] }) ≡ record { name = Some (codes "i"); table = codes "x"; columns = 1 ∷ 0 ∷ []; unique = false }
unfolding create_table_refusal create_index_refusal first_cause
index_made = refl

unique_made : created_indexes (record { name = codes "t"; columns = (record { column = record { name = codes "k"; ty = Integer; not_null = false }; primary = false; unique = true } ∷ []) }) ≡ unique_index ∷ []
unfolding create_table_refusal create_index_refusal first_cause
unique_made = refl

unique_column : created_table (record { name = codes "t"; columns = (record { column = record { name = codes "k"; ty = Integer; not_null = false }; primary = false; unique = true } ∷ []) }) ≡ record { name = codes "t"; columns = (record { name = codes "k"; ty = Integer; not_null = false } ∷ []); rows = [] }
unfolding create_table_refusal create_index_refusal first_cause
unique_column = refl

primary_made : created_table (record { name = codes "c"; columns = (record { column = record { name = codes "id"; ty = Integer; not_null = false }; primary = true; unique = false } ∷ record { column = record { name = codes "name"; ty = Varchar 40; not_null = true }; primary = false; unique = false } ∷ record { column = record { name = codes "city"; ty = Varchar 30; not_null = false }; primary = false; unique = false } ∷ []) })
    ≡ record { name = codes "c"; columns = (record { name = codes "id"; ty = Integer; not_null = true } ∷ record { name = codes "name"; ty = Varchar 40; not_null = true } ∷ record { name = codes "city"; ty = Varchar 30; not_null = false } ∷ []); rows = [] }
unfolding create_table_refusal create_index_refusal first_cause
primary_made = refl

both_keys : created_indexes (record { name = codes "t"; columns = (record { column = record { name = codes "a"; ty = Integer; not_null = false }; primary = false; unique = false } ∷ record { column = record { name = codes "k"; ty = Integer; not_null = false }; primary = true; unique = true } ∷ record { column = record { name = codes "l"; ty = Integer; not_null = false }; primary = false; unique = true } ∷ []) })
    ≡ record { name = None; table = codes "t"; columns = 1 ∷ []; unique = true } ∷ record { name = None; table = codes "t"; columns = 2 ∷ []; unique = true } ∷ []
unfolding create_table_refusal create_index_refusal first_cause
both_keys = refl

uniques : uniques_of (named_index ∷ unique_index ∷ []) (codes "t") ≡ (0 ∷ []) ∷ []
unfolding create_table_refusal create_index_refusal first_cause
uniques = refl

table_taken : create_table_refusal tables_19 [] (record { name = codes "x"; columns = (record { column = record { name = codes "a"; ty = Integer; not_null = false }; primary = false; unique = false } ∷ record { column = record { name = codes "a"; ty = Integer; not_null = false }; primary = false; unique = false } ∷ []) }) ≡ Some (NameTaken (codes "x"))
unfolding create_table_refusal create_index_refusal first_cause
table_taken = refl

column_taken : create_table_refusal tables_19 [] (record { name = codes "y"; columns = (record { column = record { name = codes "a"; ty = Integer; not_null = false }; primary = true; unique = false } ∷ record { column = record { name = codes "b"; ty = Integer; not_null = false }; primary = true; unique = false } ∷ record { column = record { name = codes "b"; ty = Integer; not_null = false }; primary = false; unique = false } ∷ record { column = record { name = codes "a"; ty = Integer; not_null = false }; primary = false; unique = false } ∷ []) }) ≡ Some (NameTaken (codes "b"))
unfolding create_table_refusal create_index_refusal first_cause
column_taken = refl

two_primary_keys : create_table_refusal tables_19 [] (record { name = codes "y"; columns = (record { column = record { name = codes "a"; ty = Integer; not_null = false }; primary = true; unique = false } ∷ record { column = record { name = codes "b"; ty = Integer; not_null = false }; primary = true; unique = false } ∷ []) }) ≡ Some (TooMany count.PrimaryKeys)
unfolding create_table_refusal create_index_refusal first_cause
two_primary_keys = refl

tables_full : create_table_refusal (replicate 64 (record { name = codes "x"; columns = []; rows = [] })) [] (record { name = codes "y"; columns = (record { column = record { name = codes "a"; ty = Integer; not_null = false }; primary = false; unique = false } ∷ []) }) ≡ Some (TooMany count.Tables)
unfolding create_table_refusal create_index_refusal first_cause
tables_full = refl

no_index_more : create_table_refusal tables_19 (replicate 64 unique_index) (record { name = codes "y"; columns = (record { column = record { name = codes "a"; ty = Integer; not_null = false }; primary = false; unique = false } ∷ []) }) ≡ None
unfolding create_table_refusal create_index_refusal first_cause
no_index_more = refl

one_index_more : create_table_refusal tables_19 (replicate 64 unique_index) (record { name = codes "y"; columns = (record { column = record { name = codes "a"; ty = Integer; not_null = false }; primary = false; unique = true } ∷ []) }) ≡ Some (TooMany count.Indexes)
unfolding create_table_refusal create_index_refusal first_cause
one_index_more = refl

pub creations_hold : CreationsHold
creations_hold = record { bytes_606 = bytes_606; key_of_606 = key_of_606; bytes_404 = bytes_404; key_of_404 = key_of_404; key_of_512 = key_of_512; key_of_513 = key_of_513; index_taken = index_taken; indexes_full = indexes_full; index_of_no_table = index_of_no_table; unknown_first = unknown_first; repeated = repeated; doubled_key = doubled_key; doubled_value = doubled_value; doubled_null = doubled_null; index_made = index_made; unique_made = unique_made; unique_column = unique_column; primary_made = primary_made; both_keys = both_keys; uniques = uniques; table_taken = table_taken; column_taken = column_taken; two_primary_keys = two_primary_keys; tables_full = tables_full; no_index_more = no_index_more; one_index_more = one_index_more }
