-- What a call of the outside counts. Our own rule.
use Rattle.std.specs.Prelude.{◌≡◌, ℕ, Result, OnOk, OnErr}
use Rattle.hg_base.specs.Count.{raised}

-- a call that did its work leaves the count of faults as it was, and one that failed raises it by one
pub record CountsFaults {T E : Type 0} (before now : ℕ) (result : Result T E) : Type 0 where
  pub stays : OnOk result (now ≡ before)
  pub failed : OnErr result (now ≡ raised before 1)
