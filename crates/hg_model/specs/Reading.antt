-- What a line of a script is read as. Our own rule: the first of these causes, in this order, that
-- applies refuses a line that is not blank: it is not in the grammar, a number in it is out of range,
-- it has too many of something.
use Rattle.std.specs.Prelude.{◌≡◌, ℕ, Bool, true, false, List, [], ◌∷◌, Option, Some, None, ◌^◌, nat_lt, nat_le, nat_abs, ◌&&◌, ◌||◌, not, length, if◌then◌else◌}
use Rattle.std.specs.List.{list_any}
use Rattle.hg_model.specs.Grammar.{IsLine}
use Rattle.hg_model.specs.Query.{Query}
use Rattle.hg_model.specs.Statements.{InsertTree, CommandTree, CreateTable, CreateIndex, InsertRows, UpdateRows, DeleteRows, Vacuum, SelectRows, OpenCursor, Start, Work, Fetch, Close, Pool, Mpl, ShowMemory}
use Rattle.hg_model.specs.Tokens.{Token, Word, Digits, Letters, Sign, Spells, is_reserved}
use Rattle.hg_model.specs.declared.trees.Count.{Count}
use Rattle.hg_model.specs.declared.trees.Count.TheVariants as count
use Rattle.hg_model.specs.declared.trees.Literal.{Literal}
use Rattle.hg_model.specs.declared.trees.Literal.TheVariants as literal
use Rattle.hg_model.specs.declared.trees.NewColumn.{NewColumn}
use Rattle.hg_model.specs.declared.trees.Node.{Node}
use Rattle.hg_model.specs.declared.trees.Node.TheVariants as node
use Rattle.hg_model.specs.declared.trees.OrderBy.{OrderBy}
use Rattle.hg_model.specs.declared.trees.OrderBy.TheVariants.{Position, Column as ByColumn}
use Rattle.hg_model.specs.declared.trees.OrderKey.{OrderKey}
use Rattle.hg_model.specs.declared.trees.SqlType.{SqlType}
use Rattle.hg_model.specs.declared.trees.SqlType.TheVariants.{Integer, Varchar}

-- a number literal has at most 38 digits behind its leading zeros
abbrev pub is_long_number : ℕ → Bool
is_long_number n = nat_le (10 ^ 38) n

abbrev pub is_long_literal : Literal → Bool
is_long_literal literal.Null = false
is_long_literal (literal.Int x) = is_long_number (nat_abs x)
is_long_literal (literal.Text s) = false

abbrev pub has_long_number : Node → Bool
has_long_number (node.Lit l) = is_long_literal l
has_long_number _ = false

-- VARCHAR has 1 to 255 characters
abbrev pub is_bad_type : SqlType → Bool
is_bad_type Integer = false
is_bad_type (Varchar n) = not (nat_le 1 n && nat_le n 255)

-- a position in ORDER BY is at most 2^32 - 1
abbrev pub is_bad_key : OrderBy → Bool
is_bad_key (Position k) = nat_le (2 ^ 32) k
is_bad_key (ByColumn n) = false

abbrev pub is_bad_query : Query → Bool
is_bad_query q = list_any has_long_number q.nodes || list_any (λ (k : OrderKey). is_bad_key k.by) q.order

-- the n of START, WORK and FETCH
abbrev pub is_bad_count : ℕ → Bool
is_bad_count n = not (nat_le 1 n && nat_le n 1000000000)

-- a number of the line is out of range; `max` is the most frames that the pool may have
abbrev pub has_bad_number : ℕ → CommandTree → Bool
has_bad_number max (CreateTable t) = list_any (λ (c : NewColumn). is_bad_type c.column.ty) t.columns
has_bad_number max (CreateIndex i) = false
has_bad_number max (InsertRows i) = list_any is_long_literal i.values
has_bad_number max (UpdateRows u) = list_any has_long_number u.nodes
has_bad_number max (DeleteRows d) = list_any has_long_number d.nodes
has_bad_number max (Vacuum t) = false
has_bad_number max (SelectRows q) = is_bad_query q
has_bad_number max (OpenCursor c q) = is_bad_query q
has_bad_number max (Start c n) = is_bad_count n
has_bad_number max (Work n) = is_bad_count n
has_bad_number max (Fetch c n) = is_bad_count n
has_bad_number max (Close c) = false
has_bad_number max (Pool n) = not (nat_le 16 n && nat_le n max)
has_bad_number max (Mpl n) = not (nat_le 1 n && nat_le n 16)
has_bad_number max ShowMemory = false

-- how many there are of each thing in a line
abbrev pub columns_in : CommandTree → ℕ
columns_in (CreateTable t) = length t.columns
columns_in (CreateIndex i) = length i.columns
columns_in (InsertRows i) = length i.columns
columns_in (UpdateRows u) = length u.sets
columns_in _ = 0

abbrev pub of_insert : (InsertTree → ℕ) → CommandTree → ℕ
of_insert f (InsertRows i) = f i
of_insert f _ = 0

abbrev pub of_query : (Query → ℕ) → CommandTree → ℕ
of_query f (SelectRows q) = f q
of_query f (OpenCursor c q) = f q
of_query f _ = 0

abbrev pub nodes_in : CommandTree → ℕ
nodes_in (SelectRows q) = length q.nodes
nodes_in (OpenCursor c q) = length q.nodes
nodes_in (UpdateRows u) = length u.nodes
nodes_in (DeleteRows d) = length d.nodes
nodes_in _ = 0

-- a name has at most 30 letters and a text 255
abbrev pub is_long_name : Token → Bool
is_long_name (Word w) = not (is_reserved w) && nat_lt 30 (length w)
is_long_name (Digits ds) = false
is_long_name (Letters t) = false
is_long_name (Sign s) = false

abbrev pub is_long_text : Token → Bool
is_long_text (Letters t) = nat_lt 255 (length t)
is_long_text (Word w) = false
is_long_text (Digits ds) = false
is_long_text (Sign s) = false

abbrev pub first_count : List (Bool × Count) → Option Count
first_count [] = None
first_count (b ∷ bs) = if b.0 then Some b.1 else first_count bs

-- the first kind, in this order, of which a line has too many
abbrev pub too_many_of : List Token → CommandTree → Option Count
too_many_of ts c = first_count
    ((list_any is_long_name ts, count.NameLetters)
    ∷ (list_any is_long_text ts, count.TextLetters)
    ∷ (nat_lt 16 (columns_in c), count.Columns)
    ∷ (nat_lt 64 (of_insert (λ (i : InsertTree). length i.ends) c), count.Rows)
    ∷ (nat_lt 1024 (of_insert (λ (i : InsertTree). length i.values) c), count.Values)
    ∷ (nat_lt 4 (of_query (λ (q : Query). length q.tables) c), count.TablesInFrom)
    ∷ (nat_lt 16 (of_query (λ (q : Query). length q.outputs) c), count.Outputs)
    ∷ (nat_lt 16 (of_query (λ (q : Query). length q.group) c), count.GroupColumns)
    ∷ (nat_lt 8 (of_query (λ (q : Query). length q.order) c), count.OrderKeys)
    ∷ (nat_lt 96 (nodes_in c), count.Nodes)
    ∷ [])

-- what a line may be read as
pub data Reading : Type 0 where
  Blank : Reading
  Syntax : Reading
  BadNumber : Reading
  TooMany : Count → Reading
  Statement : CommandTree → List ℕ → Reading

-- A line of only blanks and a comment has no tokens. Every other line without a tree is a syntax error.
pub data Reads (max : ℕ) (line : List ℕ) : Reading → Type 0 where
  blank : Spells [] line → Reads max line Blank
  syntax_error : (Spells [] line → ⊥) → ((ts : List Token) (c : CommandTree) (x : List ℕ) → Spells ts line → IsLine ts c x → ⊥) → Reads max line Syntax
  bad_number : (ts : List Token) (c : CommandTree) (x : List ℕ) → Spells ts line → IsLine ts c x → has_bad_number max c ≡ true → Reads max line BadNumber
  too_many : (ts : List Token) (c : CommandTree) (x : List ℕ) (k : Count) → Spells ts line → IsLine ts c x → has_bad_number max c ≡ false
      → too_many_of ts c ≡ Some k → Reads max line (TooMany k)
  statement : (ts : List Token) (c : CommandTree) (x : List ℕ) → Spells ts line → IsLine ts c x → has_bad_number max c ≡ false
      → too_many_of ts c ≡ None → Reads max line (Statement c x)

-- The law that a line has at most one tree, and so is read in one way. It is stated here and is to be
-- proved with the parser.
abbrev pub HasOneReading : Type 0
HasOneReading = (max : ℕ) (line : List ℕ) (a b : Reading) → Reads max line a → Reads max line b → a ≡ b
