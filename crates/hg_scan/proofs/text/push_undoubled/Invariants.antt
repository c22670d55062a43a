use Rattle.std.proofs.Common.{◌≡◌, ◌++◌, length, IsTrue}
use Rattle.std.specs.List.{list_all}
use Rattle.hg_model.specs.Value.{is_printable}
use Rattle.hg_scan.specs.Cutting.{undoubled}
use Rattle.hg_scan.proofs.text.push_undoubled.Given as goal

abbrev pub decreases-loop-rest : goal.decreases-loop-rest
decreases-loop-rest l = length l.rest

abbrev pub invariant-loop-rest : goal.invariant-loop-rest
invariant-loop-rest l = record {
  pushed : l.out.bytes ++ undoubled l.rest ≡ l.fn.out.bytes ++ undoubled l.bytes;
  printable : IsTrue (list_all is_printable l.rest);
}
