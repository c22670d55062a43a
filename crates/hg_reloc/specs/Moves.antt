-- Where the frames of a heap's pages go when it is locked again, and what becomes of an address.
-- Our own rule: an address is frame * 4096 + offset, and the word 0 is nil.
use Rattle.std.specs.Prelude.{ℕ, ◌+◌, ◌*◌, ◌/◌, ◌%◌, ◌<◌, ◌==◌, ◌||◌, Bool, false, List, [], ◌∷◌, map, Option, None, Some, if◌then◌else◌}
use Rattle.std.specs.List.{AllByRecursion}
use Rattle.hg_base.specs.Lines.{AreApart}
use Rattle.hg_reloc.specs.declared.map.Move.{Move}

-- What callers see of a map: its entries, and the number below which all frames are.
pub record Moves : Type 0 where
  pub max : ℕ
  pub entries : List Move

-- the frame that an entry gives for this one, none where no entry has it
abbrev pub entry : List Move → ℕ → Option ℕ
entry [] f = None
entry (m ∷ ms) f = if m.old.0 == f then Some m.new.0 else entry ms f

-- whether some entry leads to this frame
abbrev pub leads_to : List Move → ℕ → Bool
leads_to [] f = false
leads_to (m ∷ ms) f = (m.new.0 == f) || leads_to ms f

-- the frame that an entry gives, and this very frame where no entry has it
abbrev pub or_itself : ℕ → Option ℕ → ℕ
or_itself f None = f
or_itself f (Some g) = g

abbrev pub frame_after : Moves → ℕ → ℕ
frame_after m f = or_itself f (entry m.entries f)

-- What becomes of an address: nil stays, every other word has the frame after the move, and its offset.
abbrev pub moved_word : Moves → ℕ → ℕ
moved_word m word = if word == 0 then 0 else frame_after m (word / 4096) * 4096 + word % 4096

abbrev pub olds : List Move → List ℕ
olds ms = map (λ (m : Move). m.old.0) ms

abbrev pub news : List Move → List ℕ
news ms = map (λ (m : Move). m.new.0) ms

-- no frame has two entries, no two entries lead to one frame, and all frames are below max
pub record AreMoves (m : Moves) : Type 0 where
  pub from_below : AllByRecursion (λ f. f < m.max) (olds m.entries)
  pub from_apart : AreApart (olds m.entries)
  pub to_below : AllByRecursion (λ f. f < m.max) (news m.entries)
  pub to_apart : AreApart (news m.entries)
