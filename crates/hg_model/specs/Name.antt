-- What a name is. Our own rule, after the identifiers of SQL-92, section 5.2: a letter or '_',
-- and then letters, digits and '_', at most 30 bytes in all.
use Rattle.std.specs.Prelude.{ℕ, Bool, false, List, [], ◌∷◌, ◌&&◌, ◌||◌, ◌==◌, nat_le, length}
use Rattle.std.specs.List.{list_all}

abbrev pub is_letter : ℕ → Bool
is_letter b = (nat_le 97 b && nat_le b 122) || (nat_le 65 b && nat_le b 90)

abbrev pub is_digit : ℕ → Bool
is_digit b = nat_le 48 b && nat_le b 57

-- the first byte of a name
abbrev pub begins_word : ℕ → Bool
begins_word b = is_letter b || (b == 95)

-- a later byte of a name
abbrev pub is_in_word : ℕ → Bool
is_in_word b = begins_word b || is_digit b

abbrev pub is_name : List ℕ → Bool
is_name [] = false
is_name (b ∷ bs) = begins_word b && list_all is_in_word bs && nat_le (length bs) 29
