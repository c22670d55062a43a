-- The number with which the program ends. Our own rule.
use Rattle.std.specs.Prelude.{ℕ}
use Rattle.hg_serve.specs.declared.statuses.Status.{Status}
use Rattle.hg_serve.specs.declared.statuses.Status.TheVariants.{Clean, Errors, Usage, SourceFault, SinkFault, NoMemory, TooLong}

abbrev pub number_of : Status → ℕ
number_of Clean = 0
number_of Errors = 1
number_of Usage = 2
number_of SourceFault = 3
number_of SinkFault = 4
number_of NoMemory = 5
number_of TooLong = 6
