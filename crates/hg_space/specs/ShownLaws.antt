-- What holds of the map of every space.
use Rattle.std.specs.Prelude.{◌≡◌, ℕ, ◌+◌, ◌<◌, ◌≤◌, ◌&&◌, nat_lt, not, true, false, Some, None, if◌then◌else◌, slice_index}
use Rattle.std.proofs.Common.{◌∙◌, sym, ap, arith, inl, inr}
use Rattle.std.proofs.lemmas.Bool.{false≢true}
use Rattle.std.proofs.lemmas.Bool.Decides.{leb_tells, nat_tests}
use Rattle.hg_space.specs.Bits.{is_set}
use Rattle.hg_space.specs.Shown.{Kept, reached, is_used, pages_of}
use Rattle.hg_space.specs.PageMap.{IsSound}

pub nat_lt-true : (a b : ℕ) → a < b → nat_lt a b ≡ true
nat_lt-true a b h = grind (arith, nat_tests)

pub nat_lt-false : (a b : ℕ) → b ≤ a → nat_lt a b ≡ false
nat_lt-false a b h = grind (arith, nat_tests)

-- a used page was taken
pub used-within : (s : Kept) (n : ℕ) → is_used s n ≡ true → n < reached s
used-within s n h = elim (leb_tells (reached s) n) [
  | inl r ↦ absurd (false≢true (ap (λ b. b && not (is_set s.free (s.first + n))) (sym (nat_lt-false n (reached s) r.1)) ∙ h))
  | inr r ↦ r.1
]

pub pages_of_sound : (s : Kept) → reached s ≤ s.limit → IsSound (pages_of s)
unfolding pages_of
pages_of_sound s within = record {
  within = λ n h. let l = used-within s n h in omega arith;
  no_next = λ n h. ap (λ u. if u && is_set s.linked n then Some (slice_index s.links n) else None) h;
}
