use Rattle.std.proofs.Common.{◌≡◌, ℕ, ◌<◌, ◌≤◌, Option, false}
use Rattle.hg_slot.specs.Slotted.{record_at}
use Rattle.hg_table.specs.Marks.{committed}
use Rattle.hg_table.specs.Places.{sees}
use Rattle.hg_table.specs.Versions.{RowVersion, Shows}
use Rattle.hg_table.proofs.seeking.next_seen.Given as goal

abbrev pub invariant-loop-slot : goal.invariant-loop-slot
invariant-loop-slot l = record {
  same : l.out ≡ l.initial.out;
  none : (held : ℕ → Option RowVersion) → ((k : ℕ) → Shows l.columns (record_at l.page k) (held k)) → (k : ℕ) → l.from ≤ k → k < l.slot → sees (committed l.stamps) l.snapshot.0 (held k) ≡ false;
}
