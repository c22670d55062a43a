-- Places in a round, before and after one look; each look brings every other frame nearer by one.
use Rattle.std.proofs.Common.{◌≡◌, ◌≢◌, ℕ, ◌+◌, ◌<◌, arith}
use Rattle.std.proofs.lemmas.Bool.Decides.{nat_tests}
use Rattle.hg_clock.specs.Clock.{first_look, place}

pub first_look-below : (current hand f : ℕ) → f < current → first_look current hand < current
first_look-below current hand f below = grind (arith, nat_tests)

pub place-below : (current h g : ℕ) → h < current → g < current → place current h g < current
place-below current h g h_below g_below = grind (arith, nat_tests)

pub place-zero : (current h g : ℕ) → h < current → g < current → place current h g ≡ 0 → g ≡ h
place-zero current h g h_below g_below zero_place = grind (arith, nat_tests)

pub place-first : (current h : ℕ) → place current h h ≡ 0
place-first current h = grind (arith, nat_tests)

pub place-next : (current h g : ℕ) → h < current → g < current → g ≢ h
    → place current (first_look current (h + 1)) g + 1 ≡ place current h g
place-next current h g h_below g_below other = grind (arith, nat_tests)

pub place-next_first : (current h : ℕ) → h < current → place current (first_look current (h + 1)) h + 1 ≡ current
place-next_first current h h_below = grind (arith, nat_tests)
