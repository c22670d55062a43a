-- a write that goes on with the bytes written so far
use Rattle.std.proofs.Common.{◌≡◌, ℕ, ◌+◌, List, ◌++◌, take, drop, Option, sym, ap, ◌∙◌}
use Rattle.std.proofs.Math.Seq.{take-add}
use Rattle.hg_io.specs.Bytes.{then, then-then}

pub more_written : (first old new : Option (List ℕ)) (bytes rest : List ℕ) (at n : ℕ) → old ≡ then first (take at bytes) → rest ≡ drop at bytes
    → new ≡ then old (take n rest) → new ≡ then first (take (at + n) bytes)
more_written first old new bytes rest at n before is written =
    written ∙ ap (λ o. then o (take n rest)) before ∙ then-then first (take at bytes) (take n rest)
    ∙ ap (λ l. then first (take at bytes ++ take n l)) is ∙ ap (then first) (sym (take-add at n bytes))
