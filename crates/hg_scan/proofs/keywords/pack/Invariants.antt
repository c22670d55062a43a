use Rattle.std.proofs.Common.{◌≡◌, ◌<◌, ◌^◌, take}
use Rattle.hg_model.specs.Tokens.{lower}
use Rattle.hg_scan.specs.Packing.{packed}
use Rattle.hg_scan.proofs.keywords.pack.Given as goal

abbrev pub invariant-loop-b : goal.invariant-loop-b
invariant-loop-b l = record {
  value : l.all ≡ packed (lower (take l.b-index l.word));
  small : l.all < 256 ^ l.b-index;
}
