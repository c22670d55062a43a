-- What the raw parts of a region own and lend.
use Rattle.std.specs.Prelude.{ℕ, ◌-◌, ◌*◌, List, [], ◌∷◌, length}
use base.Fraction.{full_share}
use base.Fml.{Lft, Fml, ftrue, fsep}
use mir.Syntax.{Ty}
use denote.Builtin.{u8}
use denote.Array.{Array}
use denote.RawPtr.{Ptr, lies_at, room_for, in_block, ◌+ₚ◌}
use denote.Sharing.{nothing, said, beside}
use denote.Struct.Lending.{lent_at}
use Rattle.core.specs.Allocator.{array_of}
use Rattle.hg_raw.specs.Frames.{Frame}

-- part n of parts of s bytes each from p on
abbrev pub part_own : Ptr → ℕ → Frame → Fml
part_own p s f = lies_at (Array u8 (length f.1)) full_share (p +ₚ f.0 * s) f.1

abbrev pub parts_own : Ptr → ℕ → List Frame → Fml
parts_own p s [] = ftrue
parts_own p s (f ∷ fs) = fsep (part_own p s f) (parts_own p s fs)

-- what a `Slots` owns: its base is not null, and the bytes of its parts
abbrev pub slots_own : Ptr → ℕ → List Frame → Fml
slots_own p s fs = in_block p (parts_own p s fs)

abbrev pub part_lent : Ptr → ℕ → Frame → Lft → Fml
part_lent p s f = lent_at (Array u8 (length f.1)) (p +ₚ f.0 * s) f.1

abbrev pub parts_lent : Ptr → ℕ → List Frame → Lft → Fml
parts_lent p s [] = nothing
parts_lent p s (f ∷ fs) = beside (part_lent p s f) (parts_lent p s fs)

-- what a `&` to one holds
abbrev pub slots_lent : Ptr → ℕ → List Frame → Lft → Fml
slots_lent p s fs = beside (said (in_block p ftrue)) (parts_lent p s fs)

-- room for part n of parts of s bytes each, to which nothing was written yet
abbrev pub blank_own : Ptr → ℕ → ℕ → Fml
blank_own p s n = room_for (array_of u8 s) (p +ₚ n * s)

abbrev pub blanks_own : Ptr → ℕ → List ℕ → Fml
blanks_own p s [] = ftrue
blanks_own p s (n ∷ ns) = fsep (blank_own p s n) (blanks_own p s ns)

-- what a `Blanks` owns: its base is not null, and room for its parts
abbrev pub room_own : Ptr → List ℕ → Fml
room_own p ns = in_block p (blanks_own p 4096 ns)

-- what is left of a block of c bytes at p when its first n bytes are given out: the room behind them, and the right, t's, to free it
abbrev pub lease_own : (Ty → Ptr → Fml) → Ptr → ℕ → ℕ → Fml
lease_own t p n c = fsep (room_for (array_of u8 (c - n)) (p +ₚ n * 1)) (t (array_of u8 c) p)
