use Rattle.std.proofs.Common.{◌≡◌, ◌<◌, ◌^◌, take}
use Rattle.hg_model.specs.Tokens.{number_of}
use Rattle.hg_scan.proofs.number.long_value.Given as goal

abbrev pub invariant-loop-d : goal.invariant-loop-d
invariant-loop-d l = record {
  value : l.all ≡ number_of (take l.d-index l.digits);
  small : l.all < 10 ^ l.d-index;
}
