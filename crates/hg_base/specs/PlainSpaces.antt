-- The state of a plain space, and what holds of its parts.
use Rattle.std.specs.Prelude.{ℕ, ◌≤◌, length, Option}
use Rattle.hg_base.specs.Space.{Space, Counts}
use Rattle.hg_base.specs.Plain.{shown, shown_heaps, slot_at, heap_at, owner_of}
use Rattle.hg_base.specs.PlainHeapFacts.{AreKept}
use Rattle.hg_base.specs.declared.plain_parts.PlainParts.{PlainParts}

abbrev pub counts_of : PlainParts → Counts
counts_of s = record {
  main_device = 0;
  temp_device = s.temp_faults;
  main = 0;
  temp = s.temp_faults;
  main_full = s.main_full;
  temp_full = s.temp_full;
}

abbrev pub state_of : PlainParts → Space
state_of s = shown (slot_at s.slots.items) s.pins (counts_of s) (shown_heaps (heap_at s.heaps.items) s.caps s.peaks)

-- which heap each page is of
abbrev pub owners_of : PlainParts → ℕ → Option ℕ
owners_of s q = owner_of q (slot_at s.slots.items q)

pub record IsWhole (s : PlainParts) : Type 0 where
  pub few : length s.heaps.items ≤ 512
  pub kept : AreKept (owners_of s) (heap_at s.heaps.items)
