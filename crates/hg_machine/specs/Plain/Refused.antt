-- The error lines of refusals. Our own rule.
use Rattle.std.specs.Prelude.{ℕ, List, [], ◌∷◌, ◌++◌, Option, None, Some, codes, decimal}
use Rattle.hg_base.specs.declared.Check.{Check}
use Rattle.hg_base.specs.declared.Check.TheVariants as check
use Rattle.hg_base.specs.declared.File.{File}
use Rattle.hg_base.specs.declared.File.TheVariants as file
use Rattle.hg_base.specs.declared.PageId.{PageId}
use Rattle.hg_machine.specs.Plain.Replies.{ReplyLine, error}
use Rattle.hg_model.specs.Refusal.{Refusal, code_of, UnknownTable, UnknownColumn, AmbiguousColumn, TypeMismatch, TooWide, NameTaken, TooMany, NotGrouped, DoesNotFit, NullNotAllowed, DuplicateKey, BadNumber, RowTooLong, StampsUsedUp, KeyTooLong}
use Rattle.hg_model.specs.declared.trees.ColRef.{ColRef}
use Rattle.hg_model.specs.declared.trees.Count.{Count}
use Rattle.hg_model.specs.declared.trees.Count.TheVariants as count

abbrev pub kind_name : Count → List ℕ
kind_name count.NameLetters = codes "name letters"
kind_name count.TextLetters = codes "text letters"
kind_name count.Columns = codes "columns"
kind_name count.Rows = codes "rows"
kind_name count.Values = codes "values"
kind_name count.TablesInFrom = codes "tables in from"
kind_name count.Outputs = codes "outputs"
kind_name count.GroupColumns = codes "group columns"
kind_name count.OrderKeys = codes "order keys"
kind_name count.Nodes = codes "nodes"
kind_name count.PrimaryKeys = codes "primary keys"
kind_name count.Tables = codes "tables"
kind_name count.Indexes = codes "indexes"
kind_name count.Cursors = codes "cursors"
kind_name count.RowsGrouped = codes "rows grouped"

abbrev pub kind_limit : Count → ℕ
kind_limit count.NameLetters = 30
kind_limit count.TextLetters = 255
kind_limit count.Columns = 16
kind_limit count.Rows = 64
kind_limit count.Values = 1024
kind_limit count.TablesInFrom = 4
kind_limit count.Outputs = 16
kind_limit count.GroupColumns = 16
kind_limit count.OrderKeys = 8
kind_limit count.Nodes = 96
kind_limit count.PrimaryKeys = 1
kind_limit count.Tables = 64
kind_limit count.Indexes = 64
kind_limit count.Cursors = 16
kind_limit count.RowsGrouped = 1073741824

abbrev pub too_many_line : Count → ReplyLine
too_many_line kind = error 9 (kind_name kind ∷ decimal (kind_limit kind) ∷ [])

-- a column as it was written, in lower case
abbrev pub dotted : Option (List ℕ) → List ℕ → List ℕ
dotted None name = name
dotted (Some table) name = table ++ 46 ∷ name

abbrev pub column_word : ColRef → List ℕ
column_word c = dotted c.table c.name

-- the words behind the name of a refusal's code
abbrev pub words_of : Refusal → List (List ℕ)
words_of (UnknownTable table) = table ∷ []
words_of (UnknownColumn c) = column_word c ∷ []
words_of (AmbiguousColumn c) = column_word c ∷ []
words_of TypeMismatch = []
words_of TooWide = []
words_of (NameTaken name) = name ∷ []
words_of (TooMany kind) = kind_name kind ∷ decimal (kind_limit kind) ∷ []
words_of NotGrouped = []
words_of (DoesNotFit column) = column ∷ []
words_of (NullNotAllowed column) = column ∷ []
words_of DuplicateKey = []
words_of BadNumber = []
words_of RowTooLong = []
words_of StampsUsedUp = []
words_of KeyTooLong = []

abbrev pub refusal_line : Refusal → ReplyLine
refusal_line refusal = error (code_of refusal) (words_of refusal)

abbrev pub syntax_error : ReplyLine
syntax_error = error 1 []

abbrev pub line_too_long : ReplyLine
line_too_long = error 2 []

abbrev pub unknown_cursor : List ℕ → ReplyLine
unknown_cursor name = error 14 (name ∷ [])

abbrev pub cursor_busy : List ℕ → ReplyLine
cursor_busy name = error 15 (name ∷ [])

abbrev pub limit_reached : ℕ → ℕ → ReplyLine
limit_reached held ceiling = error 16 (decimal held ∷ decimal ceiling ∷ [])

abbrev pub bad_number : ReplyLine
bad_number = error 22 []

abbrev pub stamps_used_up : ReplyLine
stamps_used_up = error 24 []

abbrev pub file_name : File → List ℕ
file_name file.Main = codes "main"
file_name file.Temp = codes "temp"

abbrev pub check_name : Check → List ℕ
check_name check.Kind = codes "kind"
check_name check.Size = codes "size"
check_name check.Frame = codes "frame"
check_name check.Link = codes "link"
check_name check.Level = codes "level"
check_name check.Order = codes "order"
check_name check.RowBytes = codes "row"

-- a page holds what no writer put there
abbrev pub damaged : PageId → Check → ReplyLine
damaged page found = error 21 (file_name page.file ∷ decimal page.no ∷ check_name found ∷ [])
