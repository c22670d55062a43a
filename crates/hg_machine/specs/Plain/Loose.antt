-- What holds over devices that do not tell what stands on their pages, and may give back other bytes than
-- they were given. Our own rule: each step is one of the machine over tables and cursors with any rows in
-- them; or, in a command that looks at pages, it says that a page is damaged where the machine says that a
-- device failed; or it misses that rows break unique indexes. All else, the refusals that rest on a line's text and on what tables, columns,
-- indexes and cursors there are, the stamps, the pages in use and the licences, is as ever.
use Rattle.std.specs.Prelude.{◌≡◌, ℕ, zero, suc, ⊤, Bool, true, false, List, [], ◌∷◌, map}
use Rattle.hg_base.specs.declared.Check.{Check}
use Rattle.hg_base.specs.declared.File.{File}
use Rattle.hg_base.specs.declared.PageId.{PageId}
use Rattle.hg_machine.specs.Plain.Refused.{damaged}
use Rattle.hg_machine.specs.Plain.Replies.{ReplyLine, device_fault}
use Rattle.hg_machine.specs.Plain.Run.{Manner}
use Rattle.hg_machine.specs.Plain.State.{State, TableState, CursorState}
use Rattle.hg_model.specs.Creation.{Index}
use Rattle.hg_model.specs.LineReading.{ReadsLine, ReadAs}
use Rattle.hg_model.specs.Reading.{Statement}
use Rattle.hg_model.specs.Script.{Line}
use Rattle.hg_model.specs.Statements.{CommandTree, CreateTable, CreateIndex, InsertRows, UpdateRows, DeleteRows, Vacuum, SelectRows, OpenCursor, Start, Work, Fetch, Close, Pool, Mpl, ShowMemory}

-- of the pages that a cursor needs at most, whether it needs any: that its plan says, without rows
abbrev pub some_need : ℕ → ℕ
some_need zero = 0
some_need (suc n) = 1

-- the mark of too many rows grouped: only a cursor that needs pages may group
abbrev pub bare_mark : ℕ → Bool → Bool
bare_mark zero mark = mark
bare_mark (suc n) mark = false

-- a table and a cursor without what stands on pages: a table's rows and versions; what is left to a cursor,
-- and what was computed from rows when it was opened
abbrev pub bare_table : TableState → TableState
bare_table t = record { table = (record { name = t.table.name; columns = t.table.columns; rows = [] }); versions = 0 }

abbrev pub bare_cursor : CursorState → CursorState
bare_cursor c = record {
  name = c.name;
  left = [];
  is_too_many = bare_mark c.need c.is_too_many;
  wanted = c.wanted;
  held = c.held;
  floor = c.floor;
  need = some_need c.need;
}

abbrev pub bare : State → State
bare s = record s { tables = map bare_table s.tables; cursors = map bare_cursor s.cursors }

-- two states that differ in nothing else
abbrev pub Alike : State → State → Type 0
Alike a b = bare a ≡ bare b

-- with no index unique, so that no rows break one, even where they do so whatever rows a table has
abbrev pub plain_index : Index → Index
plain_index i = record { name = i.name; table = i.table; columns = i.columns; unique = false }

abbrev pub without_uniques : State → State
without_uniques s = record s { indexes = map plain_index s.indexes }

-- Whether a command looks at what stands on pages. CREATE TABLE makes its pages anew, POOL writes pages and
-- reads none, and the others call no device.
abbrev pub looks_at_pages : CommandTree → Bool
looks_at_pages (CreateTable t) = false
looks_at_pages (CreateIndex i) = true
looks_at_pages (InsertRows i) = true
looks_at_pages (UpdateRows u) = true
looks_at_pages (DeleteRows d) = true
looks_at_pages (Vacuum t) = true
looks_at_pages (SelectRows q) = true
looks_at_pages (OpenCursor name q) = true
looks_at_pages (Start name n) = false
looks_at_pages (Work n) = true
looks_at_pages (Fetch name n) = true
looks_at_pages (Close name) = false
looks_at_pages (Pool n) = false
looks_at_pages (Mpl n) = false
looks_at_pages ShowMemory = false

-- the line asks for a command that looks at pages
abbrev pub LineLooks : Line → State → Type 0
LineLooks line s = (c : CommandTree) × (texts : List ℕ) × ReadsLine s.max line (ReadAs (Statement c texts)) × (looks_at_pages c ≡ true)

pub data Loosely (looks : State → Type 0) (step : State → List ReplyLine → State → Type 0) (old : State) (lines : List ReplyLine) (new : State) : Type 0 where
  with_any_rows : (seen : State) → Alike old seen → step seen lines new → Loosely looks step old lines new
  finds_damage : (seen : State) (file : File) (page : PageId) (check : Check) (more : List ReplyLine) → looks old → Alike old seen
      → step seen (device_fault file ∷ more) new → lines ≡ damaged page check ∷ more → Loosely looks step old lines new
  misses_doubles : (seen after : State) → Alike old seen → step (without_uniques seen) lines after
      → after.indexes ≡ (without_uniques seen).indexes → new ≡ record after { indexes = old.indexes } → Loosely looks step old lines new

abbrev pub loosely : Manner → Manner
loosely m = record {
  begins = λ old line. Loosely (LineLooks line) (λ s. m.begins s line) old;
  turn = Loosely (λ s. ⊤) m.turn;
  closes = Loosely (λ s. ⊥) m.closes;
}
