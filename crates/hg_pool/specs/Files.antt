-- One function of the key of a page, made of one for each file of the number of a page. A main page
-- has an even key and a temporary one an odd key. Our own rule.
use Rattle.std.specs.Prelude.{ℕ, ◌/◌, ◌%◌, ◌==◌, if◌then◌else◌}

abbrev pub by_key : {X : Type 0} → (ℕ → X) → (ℕ → X) → ℕ → X
by_key main temp q = if q % 2 == 0 then main (q / 2) else temp (q / 2)
