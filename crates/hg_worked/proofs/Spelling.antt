-- A line as pieces: words, numbers, texts and signs, with blanks between them.
use Rattle.std.proofs.Common.{◌≡◌, ℕ, zero, suc, Bool, true, not, ◌&&◌, List, [], ◌∷◌, ◌++◌, refl}
use Rattle.std.specs.List.{list_all}
use Rattle.std.specs.Cmp.{first_so, second_so}
use Rattle.std.specs.Prelude.{◌==◌}
use Rattle.hg_model.specs.Name.{is_in_word}
use Rattle.hg_model.specs.Tokens as tokens
use Rattle.hg_model.specs.Tokens.{Token, Word, Digits, Letters, Sign, Spells, is_word, is_number, is_sign, begins, goes_on, lower, doubled}
use Rattle.hg_model.specs.Value.{is_printable}

pub data Piece : Type 0 where
  Blank : Piece
  Wording : List ℕ → Piece
  Number : List ℕ → Piece
  Text : List ℕ → Piece
  Mark : List ℕ → Piece

abbrev pub bytes_of : List Piece → List ℕ
bytes_of [] = []
bytes_of (Blank ∷ ps) = 32 ∷ bytes_of ps
bytes_of (Wording w ∷ ps) = w ++ bytes_of ps
bytes_of (Number ds ∷ ps) = ds ++ bytes_of ps
bytes_of (Text t ∷ ps) = 39 ∷ (doubled t ++ 39 ∷ bytes_of ps)
bytes_of (Mark s ∷ ps) = s ++ bytes_of ps

abbrev pub tokens_of : List Piece → List Token
tokens_of [] = []
tokens_of (Blank ∷ ps) = tokens_of ps
tokens_of (Wording w ∷ ps) = Word (lower w) ∷ tokens_of ps
tokens_of (Number ds ∷ ps) = Digits ds ∷ tokens_of ps
tokens_of (Text t ∷ ps) = Letters t ∷ tokens_of ps
tokens_of (Mark s ∷ ps) = Sign s ∷ tokens_of ps

-- whether a piece is what it is called, and ends where it is said to
abbrev pub is_piece : Piece → List ℕ → Bool
is_piece Blank rest = true
is_piece (Wording w) rest = is_word w && not (begins is_in_word rest)
is_piece (Number ds) rest = is_number ds && not (begins is_in_word rest)
is_piece (Text t) rest = list_all is_printable t && not (begins (λ b. b == 39) rest)
is_piece (Mark s) rest = is_sign s && not (begins (goes_on s) rest)

abbrev pub are_pieces : List Piece → Bool
are_pieces [] = true
are_pieces (p ∷ ps) = is_piece p (bytes_of ps) && are_pieces ps

spelled_more : (p : Piece) (ps : List Piece) → is_piece p (bytes_of ps) ≡ true → Spells (tokens_of ps) (bytes_of ps) → Spells (tokens_of (p ∷ ps)) (bytes_of (p ∷ ps))
spelled_more Blank ps h s = tokens.Spells.blank (tokens_of ps) 32 (bytes_of ps) refl s
spelled_more (Wording w) ps h s =
    tokens.Spells.word (tokens_of ps) w (bytes_of ps) (first_so (is_word w) (not (begins is_in_word (bytes_of ps))) h) (second_so (is_word w) (not (begins is_in_word (bytes_of ps))) h) s
spelled_more (Number ds) ps h s =
    tokens.Spells.number (tokens_of ps) ds (bytes_of ps) (first_so (is_number ds) (not (begins is_in_word (bytes_of ps))) h) (second_so (is_number ds) (not (begins is_in_word (bytes_of ps))) h) s
spelled_more (Text t) ps h s =
    tokens.Spells.text (tokens_of ps) t (bytes_of ps) (first_so (list_all is_printable t) (not (begins (λ b. b == 39) (bytes_of ps))) h)
    (second_so (list_all is_printable t) (not (begins (λ b. b == 39) (bytes_of ps))) h) s
spelled_more (Mark m) ps h s =
    tokens.Spells.sign (tokens_of ps) m (bytes_of ps) (first_so (is_sign m) (not (begins (goes_on m) (bytes_of ps))) h) (second_so (is_sign m) (not (begins (goes_on m) (bytes_of ps))) h) s

pub spelled : (ps : List Piece) → are_pieces ps ≡ true → Spells (tokens_of ps) (bytes_of ps)
spelled [] h = tokens.Spells.at_end
spelled (p ∷ ps) h =
    spelled_more p ps (first_so (is_piece p (bytes_of ps)) (are_pieces ps) h) (spelled ps (second_so (is_piece p (bytes_of ps)) (are_pieces ps) h))

-- some pieces so many times
abbrev pub pieces : ℕ → List Piece → List Piece
pieces zero ps = []
pieces (suc n) ps = ps ++ pieces n ps

-- the numeral 1 in front of an end, and behind a comma so many times
abbrev pub commas : ℕ → List Token → List Token
commas zero ts = ts
commas (suc n) ts = Sign (44 ∷ []) ∷ Digits (49 ∷ []) ∷ commas n ts

abbrev pub comma_bytes : ℕ → List ℕ → List ℕ
comma_bytes zero bs = bs
comma_bytes (suc n) bs = 44 ∷ 49 ∷ comma_bytes n bs

ends_number : (n : ℕ) (bs : List ℕ) → not (begins is_in_word bs) ≡ true → not (begins is_in_word (comma_bytes n bs)) ≡ true
ends_number zero bs h = h
ends_number (suc n) bs h = refl

pub commas_spelled : (n : ℕ) (ts : List Token) (bs : List ℕ) → not (begins is_in_word bs) ≡ true → Spells ts bs → Spells (commas n ts) (comma_bytes n bs)
commas_spelled zero ts bs h s = s
commas_spelled (suc n) ts bs h s =
    tokens.Spells.sign _ (44 ∷ []) (49 ∷ comma_bytes n bs) refl refl
    (tokens.Spells.number _ (49 ∷ []) (comma_bytes n bs) refl (ends_number n bs h) (commas_spelled n ts bs h s))
