-- How many working pages a request may hold. After the memory governor of SQL Anywhere (Bowman and others,
-- ICDE 2007 workshops), which has a hard and a soft limit for each request; the formulas, the reserve of
-- eight frames and the ceiling are our own rules.
use Rattle.std.specs.Prelude.{◌≡◌, ℕ, ◌+◌, ◌-◌, ◌*◌, ◌/◌, ◌≤◌, min, max, ◌⊎◌}

-- `most` is the most frames that the pool may have, `current` the frames in use, `active` the number of
-- active cursors and `mpl` the most that may be active
abbrev pub hard_limit : ℕ → ℕ → ℕ
hard_limit most active = 3 * most / (4 * max active 1)

abbrev pub soft_limit : ℕ → ℕ → ℕ
soft_limit current mpl = current / mpl

abbrev pub ceiling_of : ℕ → ℕ → ℕ → ℕ
ceiling_of most active current = min (hard_limit most active) (current - 8)

-- A grant of one page to a request that holds `held` pages and can free `freeable` of them.
pub record IsProper (held freeable ceiling soft : ℕ) : Type 0 where
  pub below_ceiling : held + 1 ≤ ceiling
  pub below_soft : (held + 1 ≤ soft) ⊎ (freeable ≡ 0)

-- the most pages that a request holds after a turn in which it was granted some: `floor` is that of its
-- statement
abbrev pub cap_of : ℕ → ℕ → ℕ → ℕ
cap_of ceiling soft floor = min ceiling (max soft (floor + 1))
