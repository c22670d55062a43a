-- The pins of a call that holds several at once. Our own rule.
use Rattle.std.specs.Prelude.{◌≡◌, ℕ, ◌==◌, ◌||◌, Bool, true, false, List, [], ◌∷◌, length}
use Rattle.std.proofs.Common.{◌∙◌, refl, arith}
use Rattle.std.proofs.lemmas.Bool.Decides.{nat_tests}
use Rattle.hg_base.specs.Space.{Space, NoPins, with_pin, with_new, without_pin, at}
use Rattle.hg_base.specs.Lines.{has_page}

-- Just these pages are pinned, by their keys, each by one pin.
pub record HoldsPins (s : Space) (held : List ℕ) : Type 0 where
  pub count : s.pins ≡ length held
  pub pinned : (q : ℕ) → s.pinned q ≡ has_page held q

-- none is pinned where no pin is out
pub no_pins_held : (s : Space) → NoPins s → HoldsPins s []
no_pins_held s h = record { count = h.none_out; pinned = h.not_pinned }

pub none_held : (s : Space) → HoldsPins s [] → NoPins s
none_held s h = record { none_out = h.count; not_pinned = h.pinned }

pinned_at : (f : ℕ → Bool) (held : List ℕ) (p q : ℕ) → f q ≡ has_page held q → at f p true q ≡ has_page (p ∷ held) q
pinned_at f held p q e = grind (arith, nat_tests)

-- one pin more
pub one_more_held : (s : Space) (held : List ℕ) (p : ℕ) (b : List ℕ) → HoldsPins s held → HoldsPins (with_pin s p b) (p ∷ held)
one_more_held s held p b h = record { count = let c = h.count in omega arith; pinned = λ q. pinned_at s.pinned held p q (h.pinned q) }

pub new_held : (s : Space) (held : List ℕ) (p : ℕ) → HoldsPins s held → HoldsPins (with_new s p) (p ∷ held)
new_held s held p h = record { count = let c = h.count in omega arith; pinned = λ q. pinned_at s.pinned held p q (h.pinned q) }

unpinned_at : (f : ℕ → Bool) (held : List ℕ) (p q : ℕ) → f q ≡ has_page (p ∷ held) q → has_page held p ≡ false → at f p false q ≡ has_page held q
unpinned_at f held p q e n = grind (arith, nat_tests)

-- the pin made last is given back
pub one_less_held : (s : Space) (held : List ℕ) (p : ℕ) → has_page held p ≡ false → HoldsPins s (p ∷ held) → HoldsPins (without_pin s p) held
one_less_held s held p n h = record {
  count = let c = h.count in omega arith;
  pinned = λ q. unpinned_at s.pinned held p q (h.pinned q) n;
}

or_swaps : (a b c : Bool) → (a || (b || c)) ≡ (b || (a || c))
or_swaps true true c = refl
or_swaps true false c = refl
or_swaps false true c = refl
or_swaps false false c = refl

-- the order of two pins does not count
pub held_swapped : (s : Space) (held : List ℕ) (p q : ℕ) → HoldsPins s (p ∷ q ∷ held) → HoldsPins s (q ∷ p ∷ held)
held_swapped s held p q h = record { count = h.count; pinned = λ r. h.pinned r ∙ or_swaps (p == r) (q == r) (has_page held r) }
