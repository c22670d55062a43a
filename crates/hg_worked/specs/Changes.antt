-- Worked statements, each with its answer by hand.
use Rattle.std.specs.Prelude.{◌≡◌, true, false, [], ◌∷◌, Some, None, pos, codes, replicate}
use Rattle.std.specs.List.{range_with_len}
use Rattle.hg_model.specs.ChangeBinding.{change_positions}
use Rattle.hg_model.specs.Changes.{insert_change, update_change, delete_change, Made, Refused}
use Rattle.hg_model.specs.Refusal.{DoesNotFit, NullNotAllowed, DuplicateKey, RowTooLong}
use Rattle.hg_model.specs.Scope.{columns_from}
use Rattle.hg_model.specs.declared.trees.SqlType.TheVariants.{Integer, Varchar}
use Rattle.hg_model.specs.declared.trees.Literal.TheVariants as literal
use Rattle.hg_model.specs.declared.trees.Cmp.TheVariants as cmp
use Rattle.hg_model.specs.declared.trees.Op.TheVariants as op
use Rattle.hg_model.specs.declared.trees.Node.TheVariants as node
use Rattle.hg_model.specs.declared.values.Value.TheVariants.{Null, Int, Text}

pub record ChangesHold : Type 0 where
  -- INSERT INTO t VALUES (1), (2), (2147483648)
  pub too_big : insert_change [] (record { name = codes "t"; columns = (record { name = codes "a"; ty = Integer; not_null = false } ∷ []); rows = [] }) [] (range_with_len 0 1) (record { table = codes "t"; columns = []; values = (literal.Int (pos 1) ∷ literal.Int (pos 2) ∷ literal.Int (pos 2147483648) ∷ []); ends = (1 ∷ 2 ∷ 3 ∷ []) }) ≡ Refused (DoesNotFit (codes "a"))
  -- INSERT INTO n VALUES ('it''s')
  pub quote : insert_change (codes "it's") (record { name = codes "n"; columns = (record { name = codes "s"; ty = Varchar 4; not_null = true } ∷ []); rows = [] }) [] (range_with_len 0 1) (record { table = codes "t"; columns = []; values = (literal.Text (record { at = 0; len = 4 }) ∷ []); ends = (1 ∷ []) }) ≡ Made ((Text (codes "it's") ∷ []) ∷ []) 1
  -- INSERT INTO n VALUES (NULL)
  pub forbidden_null : insert_change [] (record { name = codes "n"; columns = (record { name = codes "s"; ty = Varchar 4; not_null = true } ∷ []); rows = [] }) [] (range_with_len 0 1) (record { table = codes "t"; columns = []; values = (literal.Null ∷ []); ends = (1 ∷ []) }) ≡ Refused (NullNotAllowed (codes "s"))
  -- INSERT INTO n VALUES ('abcde')
  pub too_many_letters : insert_change (codes "abcde") (record { name = codes "n"; columns = (record { name = codes "s"; ty = Varchar 4; not_null = true } ∷ []); rows = [] }) [] (range_with_len 0 1) (record { table = codes "t"; columns = []; values = (literal.Text (record { at = 0; len = 5 }) ∷ []); ends = (1 ∷ []) }) ≡ Refused (DoesNotFit (codes "s"))
  -- four texts of 250 letters
  pub row_of_1008_bytes : insert_change (replicate 1000 97) (record { name = codes "w"; columns = (record { name = codes "p"; ty = Varchar 255; not_null = false } ∷ record { name = codes "q"; ty = Varchar 255; not_null = false } ∷ record { name = codes "r"; ty = Varchar 255; not_null = false } ∷ record { name = codes "s"; ty = Varchar 255; not_null = false } ∷ []); rows = [] }) [] (range_with_len 0 4) (record { table = codes "t"; columns = []; values = (literal.Text (record { at = 0; len = 250 }) ∷ literal.Text (record { at = 250; len = 250 }) ∷ literal.Text (record { at = 500; len = 250 }) ∷ literal.Text (record { at = 750; len = 250 }) ∷ []); ends = (4 ∷ []) }) ≡ Refused RowTooLong
  -- four texts of 248 letters
  pub row_of_1000_bytes : insert_change (replicate 992 97) (record { name = codes "w"; columns = (record { name = codes "p"; ty = Varchar 255; not_null = false } ∷ record { name = codes "q"; ty = Varchar 255; not_null = false } ∷ record { name = codes "r"; ty = Varchar 255; not_null = false } ∷ record { name = codes "s"; ty = Varchar 255; not_null = false } ∷ []); rows = [] }) [] (range_with_len 0 4) (record { table = codes "t"; columns = []; values = (literal.Text (record { at = 0; len = 248 }) ∷ literal.Text (record { at = 248; len = 248 }) ∷ literal.Text (record { at = 496; len = 248 }) ∷ literal.Text (record { at = 744; len = 248 }) ∷ []); ends = (4 ∷ []) }) ≡ Made ((Text (replicate 248 97) ∷ Text (replicate 248 97) ∷ Text (replicate 248 97) ∷ Text (replicate 248 97) ∷ []) ∷ []) 1
  -- UPDATE t SET k = k + 1
  pub keys_after_the_whole : update_change [] (record { name = codes "t"; columns = (record { name = codes "k"; ty = Integer; not_null = false } ∷ []); rows = (((Int (pos 1)) ∷ []) ∷ ((Int (pos 2)) ∷ []) ∷ ((Int (pos 3)) ∷ []) ∷ []) }) ((0 ∷ []) ∷ []) (change_positions (columns_from 0 (codes "t") 0 (record { name = codes "k"; ty = Integer; not_null = false } ∷ [])) ((node.Col (record { table = None; name = codes "k" })) ∷ (node.Lit (literal.Int (pos 1))) ∷ (node.Arith op.Add 0 1) ∷ [])) (0 ∷ []) (record { table = codes "t"; sets = (codes "k", 2) ∷ []; filter = None; nodes = ((node.Col (record { table = None; name = codes "k" })) ∷ (node.Lit (literal.Int (pos 1))) ∷ (node.Arith op.Add 0 1) ∷ []) }) ≡ Made (((Int (pos 2)) ∷ []) ∷ ((Int (pos 3)) ∷ []) ∷ ((Int (pos 4)) ∷ []) ∷ []) 3
  -- UPDATE t SET k = 7
  pub doubled_key : update_change [] (record { name = codes "t"; columns = (record { name = codes "k"; ty = Integer; not_null = false } ∷ []); rows = (((Int (pos 1)) ∷ []) ∷ ((Int (pos 2)) ∷ []) ∷ ((Int (pos 3)) ∷ []) ∷ []) }) ((0 ∷ []) ∷ []) (change_positions (columns_from 0 (codes "t") 0 (record { name = codes "k"; ty = Integer; not_null = false } ∷ [])) ((node.Lit (literal.Int (pos 7))) ∷ [])) (0 ∷ []) (record { table = codes "t"; sets = (codes "k", 0) ∷ []; filter = None; nodes = ((node.Lit (literal.Int (pos 7))) ∷ []) }) ≡ Refused DuplicateKey
  -- UPDATE t SET k = NULL
  pub null_keys_may_repeat : update_change [] (record { name = codes "t"; columns = (record { name = codes "k"; ty = Integer; not_null = false } ∷ []); rows = (((Int (pos 1)) ∷ []) ∷ ((Int (pos 2)) ∷ []) ∷ ((Int (pos 3)) ∷ []) ∷ []) }) ((0 ∷ []) ∷ []) (change_positions (columns_from 0 (codes "t") 0 (record { name = codes "k"; ty = Integer; not_null = false } ∷ [])) ((node.Lit literal.Null) ∷ [])) (0 ∷ []) (record { table = codes "t"; sets = (codes "k", 0) ∷ []; filter = None; nodes = ((node.Lit literal.Null) ∷ []) }) ≡ Made ((Null ∷ []) ∷ (Null ∷ []) ∷ (Null ∷ []) ∷ []) 3
  -- UPDATE t SET a = 2147483647 + b
  pub overflow : update_change [] (record { name = codes "t"; columns = (record { name = codes "a"; ty = Integer; not_null = false } ∷ record { name = codes "b"; ty = Integer; not_null = false } ∷ []); rows = (((Int (pos 1)) ∷ (Int (pos 2)) ∷ []) ∷ []) }) [] (change_positions (columns_from 0 (codes "t") 0 (record { name = codes "a"; ty = Integer; not_null = false } ∷ record { name = codes "b"; ty = Integer; not_null = false } ∷ [])) ((node.Lit (literal.Int (pos 2147483647))) ∷ (node.Col (record { table = None; name = codes "b" })) ∷ (node.Arith op.Add 0 1) ∷ [])) (0 ∷ []) (record { table = codes "t"; sets = (codes "a", 2) ∷ []; filter = None; nodes = ((node.Lit (literal.Int (pos 2147483647))) ∷ (node.Col (record { table = None; name = codes "b" })) ∷ (node.Arith op.Add 0 1) ∷ []) }) ≡ Refused (DoesNotFit (codes "a"))
  -- UPDATE t SET a = b, b = a
  pub swapped : update_change [] (record { name = codes "t"; columns = (record { name = codes "a"; ty = Integer; not_null = false } ∷ record { name = codes "b"; ty = Integer; not_null = false } ∷ []); rows = (((Int (pos 1)) ∷ (Int (pos 2)) ∷ []) ∷ []) }) [] (change_positions (columns_from 0 (codes "t") 0 (record { name = codes "a"; ty = Integer; not_null = false } ∷ record { name = codes "b"; ty = Integer; not_null = false } ∷ [])) ((node.Col (record { table = None; name = codes "b" })) ∷ (node.Col (record { table = None; name = codes "a" })) ∷ [])) (0 ∷ 1 ∷ []) (record { table = codes "t"; sets = (codes "a", 0) ∷ (codes "b", 1) ∷ []; filter = None; nodes = ((node.Col (record { table = None; name = codes "b" })) ∷ (node.Col (record { table = None; name = codes "a" })) ∷ []) }) ≡ Made (((Int (pos 2)) ∷ (Int (pos 1)) ∷ []) ∷ []) 1
  -- DELETE FROM t WHERE a = NULL
  pub delete_unknown : delete_change [] (record { name = codes "t"; columns = (record { name = codes "a"; ty = Integer; not_null = false } ∷ record { name = codes "b"; ty = Integer; not_null = false } ∷ []); rows = (((Int (pos 1)) ∷ (Int (pos 2)) ∷ []) ∷ []) }) (change_positions (columns_from 0 (codes "t") 0 (record { name = codes "a"; ty = Integer; not_null = false } ∷ record { name = codes "b"; ty = Integer; not_null = false } ∷ [])) ((node.Col (record { table = None; name = codes "a" })) ∷ (node.Lit literal.Null) ∷ (node.Compare cmp.Eq 0 1) ∷ [])) (record { table = codes "t"; filter = Some 2; nodes = ((node.Col (record { table = None; name = codes "a" })) ∷ (node.Lit literal.Null) ∷ (node.Compare cmp.Eq 0 1) ∷ []) }) ≡ Made (((Int (pos 1)) ∷ (Int (pos 2)) ∷ []) ∷ []) 0
  -- DELETE FROM t WHERE a = 1
  pub delete_one : delete_change [] (record { name = codes "t"; columns = (record { name = codes "a"; ty = Integer; not_null = false } ∷ []); rows = (((Int (pos 1)) ∷ []) ∷ ((Int (pos 2)) ∷ []) ∷ (Null ∷ []) ∷ []) }) (change_positions (columns_from 0 (codes "t") 0 (record { name = codes "a"; ty = Integer; not_null = false } ∷ [])) ((node.Col (record { table = None; name = codes "a" })) ∷ (node.Lit (literal.Int (pos 1))) ∷ (node.Compare cmp.Eq 0 1) ∷ [])) (record { table = codes "t"; filter = Some 2; nodes = ((node.Col (record { table = None; name = codes "a" })) ∷ (node.Lit (literal.Int (pos 1))) ∷ (node.Compare cmp.Eq 0 1) ∷ []) }) ≡ Made (((Int (pos 2)) ∷ []) ∷ (Null ∷ []) ∷ []) 1
