-- How the governor keeps both queues as one: the active requests first, and behind them those that wait.
use Rattle.std.specs.Prelude.{ℕ, ◌≤◌, List, length, take, drop}
use Rattle.hg_gov.specs.Rounds.{GovernorState, IsSound}

abbrev pub shown : List ℕ → ℕ → List ℕ → ℕ → ℕ → ℕ → GovernorState
shown queue active held most current mpl = record {
  round = take active queue;
  waiting = drop active queue;
  held = held;
  most = most;
  current = current;
  mpl = mpl;
}

-- what is true of the fields
pub record IsKept (queue : List ℕ) (active : ℕ) (held : List ℕ) (most current mpl : ℕ) : Type 0 where
  pub few : active ≤ length queue
  pub sound : IsSound (shown queue active held most current mpl)
