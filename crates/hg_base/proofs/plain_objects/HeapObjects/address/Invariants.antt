use Rattle.std.proofs.Common.{◌≡◌, ◌+◌, drop, slice_index_or}
use Rattle.hg_base.specs.PlainObjects.{addresses_from}
use Rattle.hg_base.proofs.plain_objects.HeapObjects.address.Given as goal

abbrev pub invariant-loop-page : goal.invariant-loop-page
invariant-loop-page l =
    slice_index_or (addresses_from l.self.first l.self.layout.items) l.number 0
    ≡ slice_index_or (addresses_from (l.self.first + l.page) (drop l.page l.self.layout.items)) l.left 0
