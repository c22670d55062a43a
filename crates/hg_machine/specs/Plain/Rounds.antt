-- The round of the active cursors and the list of those that wait. Our own rule: whenever a cursor
-- leaves the round, or more cursors may be active, the first waiting ones go to the back of the round
-- while fewer than `mpl` are active.
use Rattle.std.specs.Prelude.{ℕ, zero, suc, ◌-◌, Bool, true, false, List, [], ◌∷◌, ◌++◌, Option, None, Some, length, take, drop, nat_lt, ◌||◌, not, if◌then◌else◌}
use Rattle.hg_machine.specs.Plain.Replies.{CursorName}
use Rattle.hg_machine.specs.Plain.State.{State, CursorState, Task, Works, Fetches, is_among, without_name, cursor_set, without_cursor}

-- a cursor is idle, waiting or active
pub data Phase : Type 0 where
  Idle : Phase
  Waiting : Phase
  Active : Phase

abbrev pub phase_of : State → CursorName → Phase
phase_of s name = if is_among s.round name then Active else (if is_among s.waiting name then Waiting else Idle)

-- whether it is active or waits to be
abbrev pub is_started : State → CursorName → Bool
is_started s name = is_among s.round name || is_among s.waiting name

-- how many may join the round
abbrev pub places : State → ℕ
places s = s.mpl - length s.round

-- the first waiting cursors join
abbrev pub joined : State → State
joined s = record s { round = s.round ++ take (places s) s.waiting; waiting = drop (places s) s.waiting }

-- a cursor rests: it is no more active, nor does it wait
abbrev pub leaves : State → CursorName → State
leaves s name = joined (record s { round = without_name s.round name; waiting = without_name s.waiting name })

-- a cursor is closed
abbrev pub closes : State → CursorName → State
closes s name = leaves (record s { cursors = without_cursor s.cursors name }) name

-- a cursor with another state
abbrev pub becomes : State → CursorName → CursorState → State
becomes s name c = record s { cursors = cursor_set s.cursors name c }

-- a cursor that is idle joins the round, or waits where as many as may be are active
abbrev pub starts : State → CursorName → CursorState → Option ℕ → State
starts s name c wanted =
    let set = becomes s name (record c { wanted = wanted }) in
    if nat_lt (length s.round) s.mpl then record set { round = s.round ++ name ∷ [] } else record set { waiting = s.waiting ++ name ∷ [] }

-- whether more rows are wanted, and how many when one more was given
abbrev pub wants_more : Option ℕ → Bool
wants_more None = true
wants_more (Some zero) = false
wants_more (Some (suc n)) = true

abbrev pub one_less : Option ℕ → Option ℕ
one_less None = None
one_less (Some zero) = Some zero
one_less (Some (suc n)) = Some n

-- whether the command at work has turns to give: WORK gives no more where no cursor is active
abbrev pub has_someone : List CursorName → Bool
has_someone [] = false
has_someone (name ∷ names) = true

abbrev pub task_has_turns : State → Option Task → Bool
task_has_turns s None = false
task_has_turns s (Some (Works turns given)) = if nat_lt given turns then has_someone s.round else false
task_has_turns s (Some (Fetches name)) = is_started s name

abbrev pub has_turns : State → Bool
has_turns s = task_has_turns s s.task
