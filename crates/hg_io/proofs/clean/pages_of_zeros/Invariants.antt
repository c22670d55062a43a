use Rattle.std.proofs.Common.{◌≡◌, replicate}
use Rattle.hg_io.specs.Device.{zeros}
use Rattle.hg_io.proofs.clean.pages_of_zeros.Given as goal

abbrev pub invariant-loop-page : goal.invariant-loop-page
invariant-loop-page l = l.pages.items ≡ replicate l._page zeros
