use Rattle.std.proofs.Common.{◌≡◌, length, IsTrue}
use Rattle.std.specs.List.{list_all}
use Rattle.hg_model.specs.Name.{is_digit}
use Rattle.hg_model.specs.Tokens.{number_of}
use Rattle.hg_scan.proofs.number.without_zeros.Given as goal

abbrev pub decreases-loop-rest : goal.decreases-loop-rest
decreases-loop-rest l = length l.rest

abbrev pub invariant-loop-rest : goal.invariant-loop-rest
invariant-loop-rest l = record {
  same : number_of l.rest ≡ number_of l.digits;
  digits : IsTrue (list_all is_digit l.rest);
}
