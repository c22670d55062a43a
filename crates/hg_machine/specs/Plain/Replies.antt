-- Reply lines as values, and the bytes of each. Our own rule.
use Rattle.std.specs.Prelude.{ℕ, ◌+◌, Bool, true, false, List, [], ◌∷◌, ◌++◌, Option, Some, None, codes, decimal, slice_index_or, ◌==◌, if◌then◌else◌}
use Rattle.std.specs.List.{flat_map, list_any}
use Rattle.std.specs.Fmt.{signed_decimal}
use Rattle.hg_base.specs.declared.File.{File}
use Rattle.hg_base.specs.declared.File.TheVariants as file
use Rattle.hg_model.specs.declared.values.Value.{Value}
use Rattle.hg_model.specs.declared.values.Value.TheVariants as value

-- the name of a cursor; a SELECT has a cursor without a name, which is shown as '*'
abbrev pub CursorName : Type 0
CursorName = Option (List ℕ)

-- what SHOW MEMORY says first
pub record Figures : Type 0 where
  pub pool : ℕ
  pub max : ℕ
  pub mpl : ℕ
  pub active : ℕ
  pub waiting : ℕ
  pub hard : ℕ
  pub soft : ℕ

pub data ReplyLine : Type 0 where
  -- a table or an index was made
  created : ReplyLine
  -- so many rows were inserted, changed or deleted
  rows : (count : ℕ) → ReplyLine
  vacuumed : ReplyLine
  opened : (cursor : List ℕ) → ReplyLine
  started : (cursor : List ℕ) → ReplyLine
  -- WORK gave so many turns
  worked : (turns : ℕ) → ReplyLine
  closed : (cursor : CursorName) → ReplyLine
  pool_set : (frames : ℕ) → ReplyLine
  mpl_set : (level : ℕ) → ReplyLine
  memory : (figures : Figures) → ReplyLine
  -- so many pages are held by a cursor
  held : (cursor : CursorName) (pages : ℕ) → ReplyLine
  row : (cursor : CursorName) (values : List Value) → ReplyLine
  -- the last row that was wanted has been given
  done : (cursor : CursorName) → ReplyLine
  -- no row is left
  ended : (cursor : CursorName) → ReplyLine
  -- a refusal: its code, and the words behind the code's name
  error : (code : ℕ) (words : List (List ℕ)) → ReplyLine

-- the name of each code, from 1 on
abbrev pub code_names : List (List ℕ)
code_names =
    [] ∷ codes "syntax" ∷ codes "line too long" ∷ codes "unknown table" ∷ codes "unknown column" ∷ codes "ambiguous column"
    ∷ codes "type mismatch" ∷ codes "expression too wide" ∷ codes "name taken" ∷ codes "too many" ∷ codes "not grouped"
    ∷ codes "value does not fit" ∷ codes "null not allowed" ∷ codes "duplicate key" ∷ codes "unknown cursor" ∷ codes "cursor busy"
    ∷ codes "limit" ∷ codes "main device fault" ∷ codes "temp device fault" ∷ codes "main full" ∷ codes "temp full"
    ∷ codes "damaged" ∷ codes "bad number" ∷ codes "row too long" ∷ codes "stamps used up" ∷ codes "key too long" ∷ []

abbrev pub code_name : ℕ → List ℕ
code_name code = slice_index_or code_names code []

-- a cursor as it is shown
abbrev pub shown : CursorName → List ℕ
shown None = codes "*"
shown (Some name) = name

-- a byte of a text between quotes: a quote stands twice
abbrev pub doubled : ℕ → List ℕ
doubled b = if b == 39 then 39 ∷ 39 ∷ [] else b ∷ []

-- a text in single quotes
abbrev pub quoted : List ℕ → List ℕ
quoted text = 39 ∷ flat_map doubled text ++ 39 ∷ []

abbrev pub value_text : Value → List ℕ
value_text value.Null = codes "NULL"
value_text (value.Int number) = signed_decimal number
value_text (value.Text text) = quoted text

-- a value behind a comma
abbrev pub next_text : Value → List ℕ
next_text v = 44 ∷ value_text v

-- the values with commas between them
abbrev pub row_text : List Value → List ℕ
row_text [] = []
row_text (v ∷ vs) = value_text v ++ flat_map next_text vs

-- a word behind a blank
abbrev pub word_text : List ℕ → List ℕ
word_text word = 32 ∷ word

-- a word, and a number behind a blank
abbrev pub figure_text : List ℕ → ℕ → List ℕ
figure_text word number = word ++ 32 ∷ decimal number

abbrev pub figures_text : Figures → List ℕ
figures_text f =
    codes "memory pool " ++ decimal f.pool ++ codes " max " ++ decimal f.max ++ codes " mpl " ++ decimal f.mpl ++ codes " active " ++ decimal f.active
    ++ codes " waiting " ++ decimal f.waiting ++ codes " hard " ++ decimal f.hard ++ codes " soft " ++ decimal f.soft

-- a reply line without its line feed
abbrev pub bare_text : ReplyLine → List ℕ
bare_text created = codes "created"
bare_text (rows count) = codes "rows " ++ decimal count
bare_text vacuumed = codes "vacuumed"
bare_text (opened cursor) = codes "open " ++ cursor
bare_text (started cursor) = codes "started " ++ cursor
bare_text (worked turns) = codes "worked " ++ decimal turns
bare_text (closed cursor) = codes "closed " ++ shown cursor
bare_text (pool_set frames) = codes "pool " ++ decimal frames
bare_text (mpl_set level) = codes "mpl " ++ decimal level
bare_text (memory figures) = figures_text figures
bare_text (held cursor pages) = codes "held " ++ shown cursor ++ 32 ∷ decimal pages
bare_text (row cursor values) = codes "row " ++ shown cursor ++ 32 ∷ row_text values
bare_text (done cursor) = codes "done " ++ shown cursor
bare_text (ended cursor) = codes "end " ++ shown cursor
bare_text (error code words) = codes "error " ++ decimal code ++ 32 ∷ code_name code ++ flat_map word_text words

-- a reply line with its line feed
abbrev pub line_text : ReplyLine → List ℕ
line_text line = bare_text line ++ 10 ∷ []

-- the text of several reply lines
unfoldable pub text_of : List ReplyLine → List ℕ
text_of lines = flat_map line_text lines

abbrev pub is_error : ReplyLine → Bool
is_error (error code words) = true
is_error created = false
is_error (rows count) = false
is_error vacuumed = false
is_error (opened cursor) = false
is_error (started cursor) = false
is_error (worked turns) = false
is_error (closed cursor) = false
is_error (pool_set frames) = false
is_error (mpl_set level) = false
is_error (memory figures) = false
is_error (held cursor pages) = false
is_error (row cursor values) = false
is_error (done cursor) = false
is_error (ended cursor) = false

-- whether one of the lines is an error line
unfoldable pub has_error : List ReplyLine → Bool
has_error lines = list_any is_error lines

-- whether a line is the error line of that code
abbrev pub is_code : ℕ → ReplyLine → Bool
is_code wanted (error code words) = code == wanted
is_code wanted created = false
is_code wanted (rows count) = false
is_code wanted vacuumed = false
is_code wanted (opened cursor) = false
is_code wanted (started cursor) = false
is_code wanted (worked turns) = false
is_code wanted (closed cursor) = false
is_code wanted (pool_set frames) = false
is_code wanted (mpl_set level) = false
is_code wanted (memory figures) = false
is_code wanted (held cursor pages) = false
is_code wanted (row cursor values) = false
is_code wanted (done cursor) = false
is_code wanted (ended cursor) = false

-- how many of the lines are error lines of that code
unfoldable pub code_lines : ℕ → List ReplyLine → ℕ
code_lines wanted [] = 0
code_lines wanted (line ∷ lines) = (if is_code wanted line then 1 else 0) + code_lines wanted lines

-- the codes that say that the device of a file failed, and that all pages of a file are taken
abbrev pub fault_code : File → ℕ
fault_code file.Main = 17
fault_code file.Temp = 18

abbrev pub full_code : File → ℕ
full_code file.Main = 19
full_code file.Temp = 20

abbrev pub device_fault : File → ReplyLine
device_fault f = error (fault_code f) []

abbrev pub file_full : File → ReplyLine
file_full f = error (full_code f) []

-- how many lines say that the device of this file failed
abbrev pub fault_lines : File → List ReplyLine → ℕ
fault_lines f lines = code_lines (fault_code f) lines

-- how many lines say that this file is full
abbrev pub full_lines : File → List ReplyLine → ℕ
full_lines f lines = code_lines (full_code f) lines
