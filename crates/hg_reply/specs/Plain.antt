-- The reply line that a borrowed line stands for.
use denote.Ref.{Bor}
use Rattle.std.specs.Prelude.{ℕ, List, [], ◌∷◌, Option, None, Some, decimal, ◌≤◌, ⊤}
use Rattle.hg_machine.specs.Plain.Refused.{column_word, kind_name, kind_limit, file_name, check_name}
use Rattle.hg_machine.specs.Plain.Replies.{ReplyLine as Said, CursorName, Figures as SaidFigures, created, rows, vacuumed, opened, started, worked, closed, pool_set, mpl_set, memory, held, done, ended, error}
use Rattle.hg_base.specs.declared.Check.{Check}
use Rattle.hg_base.specs.declared.PageId.{PageId}
use Rattle.hg_model.specs.declared.trees.Count.{Count}
use Rattle.hg_reply.specs.declared.lines.Figures.{Figures}
use Rattle.hg_reply.specs.declared.lines.ReplyLine.{ReplyLine}
use Rattle.hg_reply.specs.declared.lines.ReplyLine.TheVariants as line
use Rattle.hg_reply.specs.declared.lines.Words.{Words}
use Rattle.hg_reply.specs.declared.lines.Words.TheVariants as word

abbrev pub name_of : Option (Bor (List ℕ)) → CursorName
name_of None = None
name_of (Some name) = Some name.now

abbrev pub figures_of : Figures → SaidFigures
figures_of f = record { pool = f.pool; max = f.max; mpl = f.mpl; active = f.active; waiting = f.waiting; hard = f.hard; soft = f.soft }

abbrev pub kind_words : Count → List (List ℕ)
kind_words kind = kind_name kind ∷ decimal (kind_limit kind) ∷ []

abbrev pub number_words : ℕ → ℕ → List (List ℕ)
number_words a b = decimal a ∷ decimal b ∷ []

abbrev pub damage_words : PageId → Check → List (List ℕ)
damage_words page check = file_name page.file ∷ decimal page.no ∷ check_name check ∷ []

abbrev pub words_of : Words → List (List ℕ)
words_of word.Nothing = []
words_of (word.Name name) = name.now ∷ []
words_of (word.Column c) = column_word c.now ∷ []
words_of (word.Kind kind) = kind_words kind
words_of (word.HeldAndCeiling pages ceiling) = number_words pages ceiling
words_of (word.Damage page check) = damage_words page check

abbrev pub line_of : ReplyLine → Said
line_of line.Created = created
line_of (line.Rows count) = rows count
line_of line.Vacuumed = vacuumed
line_of (line.Opened name) = opened name.now
line_of (line.Started name) = started name.now
line_of (line.Worked turns) = worked turns
line_of (line.Closed cursor) = closed (name_of cursor)
line_of (line.PoolSet frames) = pool_set frames
line_of (line.MplSet level) = mpl_set level
line_of (line.Memory figures) = memory (figures_of figures)
line_of (line.Held cursor pages) = held (name_of cursor) pages
line_of (line.Done cursor) = done (name_of cursor)
line_of (line.Ended cursor) = ended (name_of cursor)
line_of (line.Error code words) = error code (words_of words)

-- an error line has one of the codes that there are
abbrev pub IsKnown : ReplyLine → Type 0
IsKnown (line.Error code words) = code ≤ 25
IsKnown _ = ⊤
