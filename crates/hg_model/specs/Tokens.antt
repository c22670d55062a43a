-- The tokens of a line. Our own rule, after SQL-92, section 5.2: words and names are read without regard
-- to case and kept in lower case; the longest sign is read; a comment runs from `--` to the end of the
-- line.
use Rattle.std.specs.Prelude.{ℕ, Bool, false, List, [], ◌∷◌, ◌++◌, ◌+◌, ◌-◌, ◌*◌, ◌&&◌, ◌||◌, ◌==◌, not, cond, IsTrue, length, nat_lt, nat_le, map, codes}
use Rattle.std.specs.List.{list_all, list_any, fold}
use Rattle.hg_model.specs.Name.{begins_word, is_in_word, is_digit}
use Rattle.hg_model.specs.Tables.{same_name}
use Rattle.hg_model.specs.Value.{is_printable}

-- A word is a keyword or a name, in lower case; a text has its quotes undoubled.
pub data Token : Type 0 where
  Word : List ℕ → Token
  Digits : List ℕ → Token
  Letters : List ℕ → Token
  Sign : List ℕ → Token

abbrev pub lower_byte : ℕ → ℕ
lower_byte b = cond (nat_le 65 b && nat_le b 90) (b + 32) b

abbrev pub lower : List ℕ → List ℕ
lower bs = map lower_byte bs

abbrev pub is_word : List ℕ → Bool
is_word [] = false
is_word (b ∷ bs) = begins_word b && list_all is_in_word bs

abbrev pub is_number : List ℕ → Bool
is_number ds = nat_lt 0 (length ds) && list_all is_digit ds

-- whether a line's rest begins with a byte that passes a test
abbrev pub begins : (ℕ → Bool) → List ℕ → Bool
begins test [] = false
begins test (b ∷ bs) = test b

-- a text as it stands in a line, without the quotes around it: each quote doubled
abbrev pub doubled : List ℕ → List ℕ
doubled [] = []
doubled (b ∷ bs) = cond (b == 39) (39 ∷ 39 ∷ doubled bs) (b ∷ doubled bs)

-- ( ) , . ; * + - = < > <= >= <> !=
abbrev pub signs : List (List ℕ)
signs = (40 ∷ []) ∷ (41 ∷ []) ∷ (44 ∷ []) ∷ (46 ∷ []) ∷ (59 ∷ []) ∷ (42 ∷ []) ∷ (43 ∷ []) ∷ (45 ∷ []) ∷ (61 ∷ []) ∷ (60 ∷ []) ∷ (62 ∷ [])
    ∷ (60 ∷ 61 ∷ []) ∷ (62 ∷ 61 ∷ []) ∷ (60 ∷ 62 ∷ []) ∷ (33 ∷ 61 ∷ []) ∷ []

abbrev pub is_sign : List ℕ → Bool
is_sign s = list_any (same_name s) signs

-- whether a sign goes on with the byte behind it: to a longer sign, or from `-` to a comment
abbrev pub goes_on : List ℕ → ℕ → Bool
goes_on s b = is_sign (s ++ b ∷ []) || (same_name s (45 ∷ []) && b == 45)

-- The bytes of a line spell its tokens. Where no such list is there, the line is no statement.
pub data Spells : List Token → List ℕ → Type 0 where
  at_end : Spells [] []
  comment : (bs : List ℕ) → Spells [] (45 ∷ 45 ∷ bs)
  blank : (ts : List Token) (b : ℕ) (bs : List ℕ) → IsTrue (b == 32 || b == 9) → Spells ts bs → Spells ts (b ∷ bs)
  word : (ts : List Token) (w bs : List ℕ) → IsTrue (is_word w) → IsTrue (not (begins is_in_word bs)) → Spells ts bs → Spells (Word (lower w) ∷ ts) (w ++ bs)
  number : (ts : List Token) (ds bs : List ℕ) → IsTrue (is_number ds) → IsTrue (not (begins is_in_word bs)) → Spells ts bs → Spells (Digits ds ∷ ts) (ds ++ bs)
  text : (ts : List Token) (t bs : List ℕ) → IsTrue (list_all is_printable t) → IsTrue (not (begins (λ b. b == 39) bs)) → Spells ts bs
      → Spells (Letters t ∷ ts) (39 ∷ (doubled t ++ 39 ∷ bs))
  sign : (ts : List Token) (s bs : List ℕ) → IsTrue (is_sign s) → IsTrue (not (begins (goes_on s) bs)) → Spells ts bs → Spells (Sign s ∷ ts) (s ++ bs)

-- the words that are no names
abbrev pub reserved_words : List (List ℕ)
reserved_words = codes "all" ∷ codes "and" ∷ codes "as" ∷ codes "asc" ∷ codes "between" ∷ codes "bigint" ∷ codes "by" ∷ codes "count" ∷ codes "create" ∷ codes "cross"
    ∷ codes "delete" ∷ codes "desc" ∷ codes "distinct" ∷ codes "exists" ∷ codes "from" ∷ codes "group" ∷ codes "having" ∷ codes "in" ∷ codes "index" ∷ codes "inner"
    ∷ codes "insert" ∷ codes "int" ∷ codes "integer" ∷ codes "into" ∷ codes "is" ∷ codes "join" ∷ codes "key" ∷ codes "left" ∷ codes "max" ∷ codes "min" ∷ codes "not"
    ∷ codes "null" ∷ codes "on" ∷ codes "or" ∷ codes "order" ∷ codes "outer" ∷ codes "primary" ∷ codes "select" ∷ codes "set" ∷ codes "sum" ∷ codes "table"
    ∷ codes "unique" ∷ codes "update" ∷ codes "values" ∷ codes "varchar" ∷ codes "where" ∷ []

unfoldable pub is_reserved : List ℕ → Bool
is_reserved w = list_any (same_name w) reserved_words

-- the number that some digits name
abbrev pub number_of : List ℕ → ℕ
number_of ds = fold (λ n d. 10 * n + (d - 48)) 0 ds
