-- Which pages of a space are lent: a page that was handed out with its frame is, and the space says that
-- it is of a heap. Our own rule: a change of a table lends none.
use Rattle.std.specs.Prelude.{◌≡◌, ℕ, false}
use Rattle.hg_base.specs.Space.{Space}

-- no page is lent
abbrev pub NoneLent : Space → Type 0
NoneLent s = (q : ℕ) → s.of_heap q ≡ false
