-- How a line is cut into tokens from its front on. Our own rule, after SQL-92, section 5.2: blanks stand
-- between tokens, a comment runs from `--` to the end of the line, the longest sign is read, and a number
-- is not directly followed by a letter or `_`.
use Rattle.std.specs.Prelude.{◌≡◌, ℕ, zero, suc, ◌+◌, ◌<◌, Bool, List, [], ◌∷◌, take, drop, length, Option, None, Some, ◌==◌, ◌&&◌, ◌||◌, ◌↔◌, if◌then◌else◌}
use Rattle.std.specs.List.{prefix_len, take_while}
use Rattle.std.specs.Option.{option_map}
use Rattle.hg_model.specs.Name.{begins_word, is_in_word, is_digit}
use Rattle.hg_model.specs.Value.{is_printable}
use Rattle.hg_model.specs.Tokens.{Token, Word, Digits, Letters, Sign, Spells, begins, is_sign, lower}

-- what stands at the front of the rest of a line
pub data Front : Type 0 where
  -- nothing but blanks and a comment is left
  AtEnd : Front
  -- no token can begin here
  Wrong : Front
  -- a token, and the bytes behind it
  Next : Token → List ℕ → Front

abbrev pub is_blank : ℕ → Bool
is_blank b = (b == 32) || (b == 9)

-- what is left behind the bytes from the front on that pass a test
abbrev pub drop_while : (ℕ → Bool) → List ℕ → List ℕ
drop_while test bs = drop (prefix_len test bs) bs

-- a word is as long as it can be
abbrev pub word_front : List ℕ → Front
word_front bs = Next (Word (lower (take_while is_in_word bs))) (drop_while is_in_word bs)

-- and so is a number, which no letter and no `_` may follow
abbrev pub number_front : List ℕ → Front
number_front bs = if begins is_in_word (drop_while is_digit bs) then Wrong else Next (Digits (take_while is_digit bs)) (drop_while is_digit bs)

-- The place of the quote that ends a text, counted from the first byte of the text: two quotes are one
-- of the text. There is none where a byte may not stand in a text, or the line ends first.
abbrev pub closing : List ℕ → Option ℕ
closing [] = None
closing (b ∷ []) = if b == 39 then Some 0 else None
closing (b ∷ c ∷ bs) =
    if b == 39 then (if c == 39 then option_map (λ n. suc (suc n)) (closing bs) else Some 0)
    else (if is_printable b then option_map (λ n. suc n) (closing (c ∷ bs)) else None)

-- a text whose quotes are doubled, as it is meant
abbrev pub undoubled : List ℕ → List ℕ
undoubled [] = []
undoubled (b ∷ []) = b ∷ []
undoubled (b ∷ c ∷ bs) = if b == 39 then 39 ∷ undoubled bs else b ∷ undoubled (c ∷ bs)

-- what is left behind a byte of such a text: a quote takes the one behind it along
abbrev pub behind_byte : ℕ → List ℕ → List ℕ
behind_byte b bs = if b == 39 then drop 1 bs else bs

abbrev pub text_up_to : Option ℕ → List ℕ → Front
text_up_to None bs = Wrong
text_up_to (Some n) bs = Next (Letters (undoubled (take n bs))) (drop (suc n) bs)

-- what stands behind the quote that begins a text
abbrev pub text_front : List ℕ → Front
text_front bs = text_up_to (closing bs) bs

abbrev pub one_byte_sign : ℕ → List ℕ → Front
one_byte_sign b bs = if is_sign (b ∷ []) then Next (Sign (b ∷ [])) bs else Wrong

-- a sign of two bytes, else of one
abbrev pub sign_front : ℕ → List ℕ → Front
sign_front b [] = one_byte_sign b []
sign_front b (c ∷ bs) = if is_sign (b ∷ c ∷ []) then Next (Sign (b ∷ c ∷ [])) bs else one_byte_sign b (c ∷ bs)

abbrev pub begins_comment : ℕ → List ℕ → Bool
begins_comment b bs = (b == 45) && begins (λ c. c == 45) bs

unfoldable pub front_of : List ℕ → Front
front_of [] = AtEnd
front_of (b ∷ bs) =
    if is_blank b then front_of bs
    else (if begins_comment b bs then AtEnd
    else (if begins_word b then word_front (b ∷ bs)
    else (if is_digit b then number_front (b ∷ bs)
    else (if b == 39 then text_front bs
    else sign_front b bs))))

-- the tokens of a line by what stands at its front, where `more` gives those of the bytes behind a token
abbrev pub tokens_by : Front → (List ℕ → Option (List Token)) → Option (List Token)
tokens_by AtEnd more = Some []
tokens_by Wrong more = None
tokens_by (Next t rest) more = option_map (λ ts. t ∷ ts) (more rest)

-- the tokens of a line that has fewer than `most`
unfoldable pub tokens_within : ℕ → List ℕ → Option (List Token)
tokens_within zero line = None
tokens_within (suc most) line = tokens_by (front_of line) (tokens_within most)

-- The tokens of a line, one behind the other. A token has at least one byte, so there are no more tokens
-- than bytes.
unfoldable pub tokens_of : List ℕ → Option (List Token)
tokens_of line = tokens_within (suc (length line)) line

-- The laws of these words; the functions of `laws` carry them.

-- a line has the tokens that its bytes spell, and so at most one list of them
abbrev pub Spelled : Type 0
Spelled = (ts : List Token) (line : List ℕ) → Spells ts line ↔ (tokens_of line ≡ Some ts)

abbrev pub EndsLine : Type 0
EndsLine = (line : List ℕ) → front_of line ≡ AtEnd → tokens_of line ≡ Some []

abbrev pub EndsWrong : Type 0
EndsWrong = (line : List ℕ) → front_of line ≡ Wrong → tokens_of line ≡ None

abbrev pub GoesOn : Type 0
GoesOn = (line rest : List ℕ) (t : Token) → front_of line ≡ Next t rest → tokens_of line ≡ option_map (λ ts. t ∷ ts) (tokens_of rest)

abbrev pub GetsShorter : Type 0
GetsShorter = (line rest : List ℕ) (t : Token) → front_of line ≡ Next t rest → length rest < length line

-- a text and what is left behind it are shorter than the line, so the texts of a line fit into its length
abbrev pub TextsFit : Type 0
TextsFit = (line rest t : List ℕ) → front_of line ≡ Next (Letters t) rest → length t + length rest < length line
