-- The governor of working memory: whose turn it is, who waits, and what each request holds. After the
-- memory governor of SQL Anywhere (Bowman and others, ICDE 2007 workshops), whose requests wait for one
-- of `mpl` places; the order of the queues is our own rule.
use Rattle.std.specs.Prelude.{◌≡◌, ℕ, ◌+◌, ◌-◌, ◌<◌, ◌≤◌, ◌==◌, nat_lt, Option, Some, None, List, [], ◌∷◌, ◌++◌, length, take, drop, slice_index, slice_set, if◌then◌else◌}
use Rattle.std.specs.List.{AllByRecursion}
use Rattle.hg_model.specs.Limits.{hard_limit, soft_limit, ceiling_of}

-- What is seen of it: the round, a queue of the active requests; the waiting list, a queue; how many
-- pages each request holds; the most frames that the pool may have, the frames in use, and how many
-- requests may be active.
pub record GovernorState : Type 0 where
  pub round : List ℕ
  pub waiting : List ℕ
  pub held : List ℕ
  pub most : ℕ
  pub current : ℕ
  pub mpl : ℕ

-- The limits as they stand.
abbrev pub hard_in : GovernorState → ℕ
hard_in s = hard_limit s.most (length s.round)

abbrev pub soft_in : GovernorState → ℕ
soft_in s = soft_limit s.current s.mpl

abbrev pub ceiling_in : GovernorState → ℕ
ceiling_in s = ceiling_of s.most (length s.round) s.current

abbrev pub held_by : GovernorState → ℕ → ℕ
held_by s r = slice_index s.held r

-- how often a request is in a queue
abbrev pub count_of : ℕ → List ℕ → ℕ
count_of r [] = 0
count_of r (x ∷ xs) = (if x == r then 1 else 0) + count_of r xs

-- a queue without a request
abbrev pub without : ℕ → List ℕ → List ℕ
without r [] = []
without r (x ∷ xs) = if x == r then without r xs else x ∷ without r xs

-- a request is idle: neither active nor waiting
abbrev pub IsIdle : GovernorState → ℕ → Type 0
IsIdle s r = count_of r s.round + count_of r s.waiting ≡ 0

-- a request is active or waits
abbrev pub IsBusy : GovernorState → ℕ → Type 0
IsBusy s r = 1 ≤ count_of r s.round + count_of r s.waiting

-- an idle request goes to the back of the round where fewer than mpl are active, else to the back of the
-- waiting list
abbrev pub started : ℕ → GovernorState → GovernorState
started r s = if nat_lt (length s.round) s.mpl then record s { round = s.round ++ r ∷ [] } else record s { waiting = s.waiting ++ r ∷ [] }

-- the first waiting requests go to the back of the round while fewer than mpl are active
abbrev pub joined : GovernorState → GovernorState
joined s = record s { round = s.round ++ take (s.mpl - length s.round) s.waiting; waiting = drop (s.mpl - length s.round) s.waiting }

-- a request becomes idle, and waiting ones join
abbrev pub stopped : ℕ → GovernorState → GovernorState
stopped r s = joined (record s { round = without r s.round; waiting = without r s.waiting })

-- the front of a queue, and the queue with its front at its back
abbrev pub front_of : List ℕ → Option ℕ
front_of [] = None
front_of (x ∷ xs) = Some x

abbrev pub turned : List ℕ → List ℕ
turned [] = []
turned (x ∷ xs) = xs ++ x ∷ []

-- another number of pages is held
abbrev pub with_held : GovernorState → ℕ → ℕ → GovernorState
with_held s r n = record s { held = slice_set s.held r n }

-- What is true of every governor: no request is twice in a queue, nor in both; nobody waits while fewer
-- than mpl are active; the numbers are in their ranges.
pub record IsSound (s : GovernorState) : Type 0 where
  pub once : (r : ℕ) → count_of r s.round + count_of r s.waiting ≤ 1
  pub round_small : AllByRecursion (λ r. r < 16) s.round
  pub waiting_small : AllByRecursion (λ r. r < 16) s.waiting
  pub none_waits : 1 ≤ length s.waiting → s.mpl ≤ length s.round
  pub all_held : length s.held ≡ 16
  pub most_few : s.most ≤ 65536
  pub current_some : 16 ≤ s.current
  pub current_few : s.current ≤ s.most
  pub mpl_some : 1 ≤ s.mpl
  pub mpl_few : s.mpl ≤ 16
