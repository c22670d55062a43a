use Rattle.std.proofs.Common.{◌≡◌, drop}
use Rattle.std.specs.List.{AllByRecursion}
use Rattle.hg_base.specs.HeapStates.{without_heap_pages}
use Rattle.hg_base.specs.PlainSpaces.{state_of, owners_of}
use Rattle.hg_base.specs.PlainTables.{IsClearable, cleared}
use Rattle.hg_base.proofs.plain_parts.PlainParts.clear_slots.Given as goal

abbrev pub invariant-loop-i : goal.invariant-loop-i
invariant-loop-i l = record {
  state : without_heap_pages (state_of l.self) (drop l.i l.pages) ≡ without_heap_pages (state_of l.initial.self) l.pages;
  owners : cleared (owners_of l.self) (drop l.i l.pages) ≡ cleared (owners_of l.initial.self) l.pages;
  heaps : l.self.heaps ≡ l.initial.self.heaps;
  ready : AllByRecursion (IsClearable l.self.slots.items) (drop l.i l.pages);
}
