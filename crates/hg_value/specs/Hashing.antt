-- The hash of a key: 64 bits, by the function FNV-1a (Fowler, Noll, Vo). It begins with a
-- number; each byte is taken into it by exclusive or, and the whole is multiplied by a prime.
use Rattle.std.specs.Prelude.{ℕ, List, bit_xor, ◌*◌, ◌%◌, ◌^◌}
use Rattle.std.specs.List.{fold}

abbrev pub with_byte : ℕ → ℕ → ℕ
with_byte h b = (bit_xor h b * 1099511628211) % 2 ^ 64

unfoldable pub hash_of : List ℕ → ℕ
hash_of key = fold with_byte 14695981039346656037 key
