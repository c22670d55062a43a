-- Which values a row holds, and which of them is a node's. Our own rule: a row holds the columns that the
-- nodes name, each once, in order of the tables of FROM and then of the columns. The place of a column is
-- its table's position in FROM and its number there. A place whose first part is 255 is the second part,
-- the number of a value of the row itself.
use Rattle.std.specs.Prelude.{◌≡◌, ℕ, zero, suc, Bool, true, false, List, [], ◌∷◌, ◌++◌, ◌+◌, ◌*◌, ◌==◌, ◌||◌, ◌<◌, ⊤, length, nat_eq, if◌then◌else◌}
use Rattle.hg_model.specs.declared.trees.Node.{Node}
use Rattle.hg_model.specs.declared.trees.Node.TheVariants as node

-- A table has at most 16 columns, so that this number orders the columns of FROM.
abbrev pub key_of : ℕ × ℕ → ℕ
key_of place = 16 * place.0 + place.1

-- whether a node is the column of a key
abbrev pub names_key : ℕ → Node → ℕ × ℕ → Bool
names_key key (node.Col c) place = nat_eq (key_of place) key
names_key key _ place = false

-- whether some node names the column of a key
abbrev pub is_named : List Node → List (ℕ × ℕ) → ℕ → Bool
is_named [] places key = false
is_named (n ∷ ns) [] key = false
is_named (n ∷ ns) (p ∷ ps) key = names_key key n p || is_named ns ps key

-- the columns of a table that some node names, in order, and of them those below a number
abbrev pub named_below : List Node → List (ℕ × ℕ) → ℕ → ℕ → List ℕ
named_below nodes places table zero = []
named_below nodes places table (suc column) =
    named_below nodes places table column ++ (if is_named nodes places (key_of (table, column)) then column ∷ [] else [])

unfoldable pub named_columns : List Node → List (ℕ × ℕ) → ℕ → List ℕ
named_columns nodes places table = named_below nodes places table 16

-- the number of a column in the row: how many named ones stand before it
abbrev pub number_of : List Node → List (ℕ × ℕ) → ℕ → ℕ
number_of nodes places zero = 0
number_of nodes places (suc key) = number_of nodes places key + (if is_named nodes places key then 1 else 0)

-- A node that is no column has the slot 255 behind every row, where its place does not give one.
abbrev pub slot_at : List Node → List (ℕ × ℕ) → Node → ℕ × ℕ → ℕ
slot_at nodes places (node.Col c) place = if place.0 == 255 then place.1 else number_of nodes places (key_of place)
slot_at nodes places _ place = if place.0 == 255 then place.1 else 255

abbrev pub slots_from : List Node → List (ℕ × ℕ) → List Node → List (ℕ × ℕ) → List ℕ
slots_from nodes places [] ps = []
slots_from nodes places (n ∷ ns) [] = []
slots_from nodes places (n ∷ ns) (p ∷ ps) = slot_at nodes places n p ∷ slots_from nodes places ns ps

-- for each node the number of its value in the row
unfoldable pub slots_of : List Node → List (ℕ × ℕ) → List ℕ
slots_of nodes places = slots_from nodes places nodes places

-- a place of one of four tables of at most 16 columns, or of the row itself
pub data IsPlace (place : ℕ × ℕ) : Type 0 where
  OfRow : place.0 ≡ 255 → IsPlace place
  OfTable : place.0 < 4 → place.1 < 16 → IsPlace place

-- each node has a place, and a column one that there may be
abbrev pub HasPlace : Node → ℕ × ℕ → Type 0
HasPlace (node.Col c) place = IsPlace place
HasPlace _ place = ⊤

abbrev pub ArePlaced : List Node → List (ℕ × ℕ) → Type 0
ArePlaced [] [] = ⊤
ArePlaced [] (p ∷ ps) = ⊥
ArePlaced (n ∷ ns) [] = ⊥
ArePlaced (n ∷ ns) (p ∷ ps) = HasPlace n p × ArePlaced ns ps
