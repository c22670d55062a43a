-- What a text is: 0 to 255 characters from 0x20 to 0x7E. Our own rule.
use Rattle.std.specs.Prelude.{ℕ, Bool, List, ◌&&◌, nat_le, length}
use Rattle.std.specs.List.{list_all}

abbrev pub is_printable : ℕ → Bool
is_printable b = nat_le 32 b && nat_le b 126

abbrev pub is_chars : List ℕ → Bool
is_chars bs = list_all is_printable bs && nat_le (length bs) 255
