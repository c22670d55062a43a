use Rattle.std.proofs.Common.{◌≡◌, ℕ, ◌<◌, false, length, drop, get_or}
use Rattle.std.specs.Prelude.{◌||◌}
use Rattle.hg_expr.specs.Slots.{is_named, ArePlaced}
use Rattle.hg_expr.proofs.slots.mark_all.Given as goal

abbrev pub invariant-loop-k : goal.invariant-loop-k
invariant-loop-k l = record {
  room : length l.marks ≡ 64;
  each : (key : ℕ) → key < 64 → get_or l.marks key false || is_named (drop l.k l.nodes) (drop l.k l.places) key ≡ is_named l.nodes l.places key;
  placed : ArePlaced (drop l.k l.nodes) (drop l.k l.places);
}
