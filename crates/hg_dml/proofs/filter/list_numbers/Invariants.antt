use Rattle.std.proofs.Common.{◌≡◌, take}
use Rattle.hg_bind.specs.Bound.{numbers_of}
use Rattle.hg_dml.proofs.filter.list_numbers.Given as goal

abbrev pub invariant-loop-place : goal.invariant-loop-place
invariant-loop-place l = l.numbers.items ≡ numbers_of (take l.place-index l.places)
