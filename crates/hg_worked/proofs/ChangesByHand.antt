-- Each by computation.
use Rattle.std.specs.Prelude.{◌≡◌, true, false, [], ◌∷◌, Some, None, pos, codes, replicate}
use Rattle.std.specs.List.{range_with_len}
use Rattle.hg_model.specs.ChangeBinding.{change_positions}
use Rattle.hg_model.specs.Changes.{insert_change, update_change, delete_change, Made, Refused}
use Rattle.hg_model.specs.Refusal.{DoesNotFit, NullNotAllowed, DuplicateKey, RowTooLong}
use Rattle.hg_model.specs.Scope.{columns_from}
use Rattle.hg_model.specs.declared.trees.SqlType.TheVariants.{Integer, Varchar}
use Rattle.hg_model.specs.declared.trees.Literal.TheVariants as literal
use Rattle.hg_model.specs.declared.trees.Cmp.TheVariants as cmp
use Rattle.hg_model.specs.declared.trees.Op.TheVariants as op
use Rattle.hg_model.specs.declared.trees.Node.TheVariants as node
use Rattle.hg_model.specs.declared.values.Value.TheVariants.{Null, Int, Text}
use Rattle.std.specs.Prelude.{refl}
use Rattle.hg_model.specs.Refusal.{first_cause}
use Rattle.hg_worked.specs.Changes.{ChangesHold}

too_big : insert_change [] (record { name = codes "t"; columns = (record { name = codes "a"; ty = Integer; not_null = false } ∷ []); rows = [] }) [] (range_with_len 0 1) (record { table = codes "t"; columns = []; values = (literal.Int (pos 1) ∷ literal.Int (pos 2) ∷ literal.Int (pos 2147483648) ∷ []); ends = (1 ∷ 2 ∷ 3 ∷ []) }) ≡ Refused (DoesNotFit (codes "a"))
unfolding insert_change update_change delete_change first_cause
too_big = refl

quote : insert_change (codes "it's") (record { name = codes "n"; columns = (record { name = codes "s"; ty = Varchar 4; not_null = true } ∷ []); rows = [] }) [] (range_with_len 0 1) (record { table = codes "t"; columns = []; values = (literal.Text (record { at = 0; len = 4 }) ∷ []); ends = (1 ∷ []) }) ≡ Made ((Text (codes "it's") ∷ []) ∷ []) 1
unfolding insert_change update_change delete_change first_cause
quote = refl

forbidden_null : insert_change [] (record { name = codes "n"; columns = (record { name = codes "s"; ty = Varchar 4; not_null = true } ∷ []); rows = [] }) [] (range_with_len 0 1) (record { table = codes "t"; columns = []; values = (literal.Null ∷ []); ends = (1 ∷ []) }) ≡ Refused (NullNotAllowed (codes "s"))
unfolding insert_change update_change delete_change first_cause
forbidden_null = refl

too_many_letters : insert_change (codes "abcde") (record { name = codes "n"; columns = (record { name = codes "s"; ty = Varchar 4; not_null = true } ∷ []); rows = [] }) [] (range_with_len 0 1) (record { table = codes "t"; columns = []; values = (literal.Text (record { at = 0; len = 5 }) ∷ []); ends = (1 ∷ []) }) ≡ Refused (DoesNotFit (codes "s"))
unfolding insert_change update_change delete_change first_cause
too_many_letters = refl

row_of_1008_bytes : insert_change (replicate 1000 97) (record { name = codes "w"; columns = (record { name = codes "p"; ty = Varchar 255; not_null = false } ∷ record { name = codes "q"; ty = Varchar 255; not_null = false } ∷ record { name = codes "r"; ty = Varchar 255; not_null = false } ∷ record { name = codes "s"; ty = Varchar 255; not_null = false } ∷ []); rows = [] }) [] (range_with_len 0 4) (record { table = codes "t"; columns = []; values = (literal.Text (record { at = 0; len = 250 }) ∷ literal.Text (record { at = 250; len = 250 }) ∷ literal.Text (record { at = 500; len = 250 }) ∷ literal.Text (record { at = 750; len = 250 }) ∷ []); ends = (4 ∷ []) }) ≡ Refused RowTooLong
unfolding insert_change update_change delete_change first_cause
row_of_1008_bytes = refl

row_of_1000_bytes : insert_change (replicate 992 97) (record { name = codes "w"; columns = (record { name = codes "p"; ty = Varchar 255; not_null = false } ∷ record { name = codes "q"; ty = Varchar 255; not_null = false } ∷ record { name = codes "r"; ty = Varchar 255; not_null = false } ∷ record { name = codes "s"; ty = Varchar 255; not_null = false } ∷ []); rows = [] }) [] (range_with_len 0 4) (record { table = codes "t"; columns = []; values = (literal.Text (record { at = 0; len = 248 }) ∷ literal.Text (record { at = 248; len = 248 }) ∷ literal.Text (record { at = 496; len = 248 }) ∷ literal.Text (record { at = 744; len = 248 }) ∷ []); ends = (4 ∷ []) }) ≡ Made ((Text (replicate 248 97) ∷ Text (replicate 248 97) ∷ Text (replicate 248 97) ∷ Text (replicate 248 97) ∷ []) ∷ []) 1
unfolding insert_change update_change delete_change first_cause
row_of_1000_bytes = refl

keys_after_the_whole : update_change [] (record { name = codes "t"; columns = (record { name = codes "k"; ty = Integer; not_null = false } ∷ []); rows = (((Int (pos 1)) ∷ []) ∷ ((Int (pos 2)) ∷ []) ∷ ((Int (pos 3)) ∷ []) ∷ []) }) ((0 ∷ []) ∷ []) (change_positions (columns_from 0 (codes "t") 0 (record { name = codes "k"; ty = Integer; not_null = false } ∷ [])) ((node.Col (record { table = None; name = codes "k" })) ∷ (node.Lit (literal.Int (pos 1))) ∷ (node.Arith op.Add 0 1) ∷ [])) (0 ∷ []) (record { table = codes "t"; sets = (codes "k", 2) ∷ []; filter = None; nodes = ((node.Col (record { table = None; name = codes "k" })) ∷ (node.Lit (literal.Int (pos 1))) ∷ (node.Arith op.Add 0 1) ∷ []) }) ≡ Made (((Int (pos 2)) ∷ []) ∷ ((Int (pos 3)) ∷ []) ∷ ((Int (pos 4)) ∷ []) ∷ []) 3
unfolding insert_change update_change delete_change first_cause
keys_after_the_whole = refl

doubled_key : update_change [] (record { name = codes "t"; columns = (record { name = codes "k"; ty = Integer; not_null = false } ∷ []); rows = (((Int (pos 1)) ∷ []) ∷ ((Int (pos 2)) ∷ []) ∷ ((Int (pos 3)) ∷ []) ∷ []) }) ((0 ∷ []) ∷ []) (change_positions (columns_from 0 (codes "t") 0 (record { name = codes "k"; ty = Integer; not_null = false } ∷ [])) ((node.Lit (literal.Int (pos 7))) ∷ [])) (0 ∷ []) (record { table = codes "t"; sets = (codes "k", 0) ∷ []; filter = None; nodes = ((node.Lit (literal.Int (pos 7))) ∷ []) }) ≡ Refused DuplicateKey
unfolding insert_change update_change delete_change first_cause
doubled_key = refl

null_keys_may_repeat : update_change [] (record { name = codes "t"; columns = (record { name = codes "k"; ty = Integer; not_null = false } ∷ []); rows = (((Int (pos 1)) ∷ []) ∷ ((Int (pos 2)) ∷ []) ∷ ((Int (pos 3)) ∷ []) ∷ []) }) ((0 ∷ []) ∷ []) (change_positions (columns_from 0 (codes "t") 0 (record { name = codes "k"; ty = Integer; not_null = false } ∷ [])) ((node.Lit literal.Null) ∷ [])) (0 ∷ []) (record { table = codes "t"; sets = (codes "k", 0) ∷ []; filter = None; nodes = ((node.Lit literal.Null) ∷ []) }) ≡ Made ((Null ∷ []) ∷ (Null ∷ []) ∷ (Null ∷ []) ∷ []) 3
unfolding insert_change update_change delete_change first_cause
null_keys_may_repeat = refl

overflow : update_change [] (record { name = codes "t"; columns = (record { name = codes "a"; ty = Integer; not_null = false } ∷ record { name = codes "b"; ty = Integer; not_null = false } ∷ []); rows = (((Int (pos 1)) ∷ (Int (pos 2)) ∷ []) ∷ []) }) [] (change_positions (columns_from 0 (codes "t") 0 (record { name = codes "a"; ty = Integer; not_null = false } ∷ record { name = codes "b"; ty = Integer; not_null = false } ∷ [])) ((node.Lit (literal.Int (pos 2147483647))) ∷ (node.Col (record { table = None; name = codes "b" })) ∷ (node.Arith op.Add 0 1) ∷ [])) (0 ∷ []) (record { table = codes "t"; sets = (codes "a", 2) ∷ []; filter = None; nodes = ((node.Lit (literal.Int (pos 2147483647))) ∷ (node.Col (record { table = None; name = codes "b" })) ∷ (node.Arith op.Add 0 1) ∷ []) }) ≡ Refused (DoesNotFit (codes "a"))
unfolding insert_change update_change delete_change first_cause
overflow = refl

swapped : update_change [] (record { name = codes "t"; columns = (record { name = codes "a"; ty = Integer; not_null = false } ∷ record { name = codes "b"; ty = Integer; not_null = false } ∷ []); rows = (((Int (pos 1)) ∷ (Int (pos 2)) ∷ []) ∷ []) }) [] (change_positions (columns_from 0 (codes "t") 0 (record { name = codes "a"; ty = Integer; not_null = false } ∷ record { name = codes "b"; ty = Integer; not_null = false } ∷ [])) ((node.Col (record { table = None; name = codes "b" })) ∷ (node.Col (record { table = None; name = codes "a" })) ∷ [])) (0 ∷ 1 ∷ []) (record { table = codes "t"; sets = (codes "a", 0) ∷ (codes "b", 1) ∷ []; filter = None; nodes = ((node.Col (record { table = None; name = codes "b" })) ∷ (node.Col (record { table = None; name = codes "a" })) ∷ []) }) ≡ Made (((Int (pos 2)) ∷ (Int (pos 1)) ∷ []) ∷ []) 1
unfolding insert_change update_change delete_change first_cause
swapped = refl

delete_unknown : delete_change [] (record { name = codes "t"; columns = (record { name = codes "a"; ty = Integer; not_null = false } ∷ record { name = codes "b"; ty = Integer; not_null = false } ∷ []); rows = (((Int (pos 1)) ∷ (Int (pos 2)) ∷ []) ∷ []) }) (change_positions (columns_from 0 (codes "t") 0 (record { name = codes "a"; ty = Integer; not_null = false } ∷ record { name = codes "b"; ty = Integer; not_null = false } ∷ [])) ((node.Col (record { table = None; name = codes "a" })) ∷ (node.Lit literal.Null) ∷ (node.Compare cmp.Eq 0 1) ∷ [])) (record { table = codes "t"; filter = Some 2; nodes = ((node.Col (record { table = None; name = codes "a" })) ∷ (node.Lit literal.Null) ∷ (node.Compare cmp.Eq 0 1) ∷ []) }) ≡ Made (((Int (pos 1)) ∷ (Int (pos 2)) ∷ []) ∷ []) 0
unfolding insert_change update_change delete_change first_cause
delete_unknown = refl

delete_one : delete_change [] (record { name = codes "t"; columns = (record { name = codes "a"; ty = Integer; not_null = false } ∷ []); rows = (((Int (pos 1)) ∷ []) ∷ ((Int (pos 2)) ∷ []) ∷ (Null ∷ []) ∷ []) }) (change_positions (columns_from 0 (codes "t") 0 (record { name = codes "a"; ty = Integer; not_null = false } ∷ [])) ((node.Col (record { table = None; name = codes "a" })) ∷ (node.Lit (literal.Int (pos 1))) ∷ (node.Compare cmp.Eq 0 1) ∷ [])) (record { table = codes "t"; filter = Some 2; nodes = ((node.Col (record { table = None; name = codes "a" })) ∷ (node.Lit (literal.Int (pos 1))) ∷ (node.Compare cmp.Eq 0 1) ∷ []) }) ≡ Made (((Int (pos 2)) ∷ []) ∷ (Null ∷ []) ∷ []) 1
unfolding insert_change update_change delete_change first_cause
delete_one = refl

pub changes_hold : ChangesHold
changes_hold = record { too_big = too_big; quote = quote; forbidden_null = forbidden_null; too_many_letters = too_many_letters; row_of_1008_bytes = row_of_1008_bytes; row_of_1000_bytes = row_of_1000_bytes; keys_after_the_whole = keys_after_the_whole; doubled_key = doubled_key; null_keys_may_repeat = null_keys_may_repeat; overflow = overflow; swapped = swapped; delete_unknown = delete_unknown; delete_one = delete_one }
