use Rattle.std.proofs.Common.{◌≡◌, ◌==◌, drop}
use Rattle.std.specs.List.{position_from}
use Rattle.hg_dml.specs.Tuples.{source_of}
use Rattle.hg_dml.proofs.tuples.source_of.Given as goal

abbrev pub invariant-loop-place : goal.invariant-loop-place
invariant-loop-place l = position_from (λ t. t == l.column) l.place (drop l.place l.targets) ≡ source_of l.targets l.column
