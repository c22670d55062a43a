-- No byte is of two records: together they have no more bytes than there are from the lowest on.
use Rattle.std.specs.Prelude.{◌≡◌, ℕ, ◌+◌, ◌-◌, ◌<◌, ◌≤◌, ◌&&◌, ◌||◌, nat_lt, not, zero, suc, min, Bool, true, false, List}
use Rattle.std.proofs.Common.{sym, ◌∙◌, ap, refl, arith, inl, inr, lt-ltb}
use Rattle.std.proofs.lemmas.Bool.{cases_lt, le-ltb, false≢true}
use Rattle.hg_slot.specs.Slotted.{slots, lowest, offset, size, lengths, length_of, record_at, Fits, HasGap, IsOf, IsSlotted}
use Rattle.hg_slot.proofs.Finding.{lengths-next, lengths-none, length-shown}

-- how many of m places from `low` on pass a test
abbrev one : Bool → ℕ
one true = 1
one false = 0

abbrev count : (ℕ → Bool) → ℕ → ℕ → ℕ
count p low zero = 0
count p low (suc m) = one (p (low + m)) + count p low m

one-small : (b : Bool) → one b ≤ 1
one-small true = omega arith
one-small false = omega arith

count-small : (p : ℕ → Bool) (low m : ℕ) → count p low m ≤ m
count-small p low zero = omega arith
count-small p low (suc m) = omega (arith, one-small (p (low + m)), count-small p low m)

one-both : (a b : Bool) → (a ≡ true → b ≡ true → ⊥) → one (a || b) ≡ one a + one b
one-both true true h = absurd (h refl refl)
one-both true false h = refl
one-both false true h = refl
one-both false false h = refl

-- of two tests that no place passes together
count-both : (p q : ℕ → Bool) (low m : ℕ) → ((x : ℕ) → low ≤ x → x < low + m → p x ≡ true → q x ≡ true → ⊥)
    → count (λ x. p x || q x) low m ≡ count p low m + count q low m
count-both p q low zero h = refl
count-both p q low (suc m) h =
    let e = one-both (p (low + m)) (q (low + m)) (h (low + m) (omega arith) (omega arith)) in
    let f = count-both p q low m (λ x l r. h x l (omega arith)) in
    omega arith

-- the test of n places from `from` on
abbrev within : ℕ → ℕ → ℕ → Bool
within from n x = not (nat_lt x from) && nat_lt x (from + n)

within-yes : (from n x : ℕ) → from ≤ x → x < from + n → within from n x ≡ true
within-yes from n x l h = ap (λ b. not b && nat_lt x (from + n)) (le-ltb x from l) ∙ lt-ltb x (from + n) h

within-below : (from n x : ℕ) → x < from → within from n x ≡ false
within-below from n x l = ap (λ b. not b && nat_lt x (from + n)) (lt-ltb x from l)

within-behind : (from n x : ℕ) → from + n ≤ x → within from n x ≡ false
within-behind from n x l = ap (λ b. not b && nat_lt x (from + n)) (le-ltb x from (omega arith)) ∙ le-ltb x (from + n) l

count-within : (from n low m : ℕ) → low ≤ from → count (within from n) low m + from ≡ min (from + n) (low + m) + (from - (low + m))
count-within from n low zero l = omega arith
count-within from n low (suc m) l =
    let r = count-within from n low m l in
    elim (cases_lt (low + m) from) [
      | inl h ↦ let e = ap one (within-below from n (low + m) h) in omega arith
      | inr h ↦ elim (cases_lt (low + m) (from + n)) [
        | inl g ↦ let e = ap one (within-yes from n (low + m) h g) in omega arith
        | inr g ↦ let e = ap one (within-behind from n (low + m) g) in omega arith
      ]
    ]

-- the bytes of the records of the first n slots
abbrev covered : List ℕ → ℕ → ℕ → Bool
covered page zero x = false
covered page (suc n) x = covered page n x || within (offset page n) (size page n) x

record Covers (page : List ℕ) (n x : ℕ) : Type 0 where
  slot : ℕ
  is_slot : slot < n
  of : IsOf page slot x

within-is : (from n x : ℕ) → within from n x ≡ true → (from ≤ x) × (x < from + n)
within-is from n x h = elim (cases_lt x from) [
  | inl l ↦ absurd (false≢true (sym (within-below from n x l) ∙ h))
  | inr l ↦ elim (cases_lt x (from + n)) [
    | inl g ↦ (l, g)
    | inr g ↦ absurd (false≢true (sym (within-behind from n x g) ∙ h))
  ]
]

or-either : (a b : Bool) → (a || b) ≡ true → (P : Type 0) → (a ≡ true → P) → (b ≡ true → P) → P
or-either true b h P f g = f refl
or-either false b h P f g = g h

covers : (page : List ℕ) (n x : ℕ) → covered page n x ≡ true → Covers page n x
covers page zero x h = absurd (false≢true h)
covers page (suc n) x h = or-either (covered page n x) (within (offset page n) (size page n) x) h (Covers page (suc n) x)
    (λ e. let c = covers page n x e in let l = c.is_slot in record { slot = c.slot; is_slot = omega arith; of = c.of })
    (λ e. let w = within-is (offset page n) (size page n) x e in record { slot = n; is_slot = omega arith; of = record { from = w.0; to = w.1 } })

count-none : (low m : ℕ) → count (λ x. false) low m ≡ 0
count-none low zero = refl
count-none low (suc m) = let r = count-none low m in omega arith

-- the bytes of one record are all from the lowest on
count-one : (page : List ℕ) (n : ℕ) → IsSlotted page → n < slots page → count (within (offset page n) (size page n)) (lowest page) (4096 - lowest page) ≡ size page n
count-one page n s h =
    let ends = s.ends in
    elim (s.placed n h) [
      | inl (z, y) ↦
          let none : (m : ℕ) → count (within (offset page n) (size page n)) (lowest page) m ≡ 0 = λ m. nothing m y in
          none (4096 - lowest page) ∙ sym y
      | inr (f, t) ↦ let c = count-within (offset page n) (size page n) (lowest page) (4096 - lowest page) f in omega arith
    ]
  where
    nothing : (m : ℕ) → size page n ≡ 0 → count (within (offset page n) (size page n)) (lowest page) m ≡ 0
    nothing zero y = refl
    nothing (suc m) y = elim (cases_lt (lowest page + m) (offset page n)) [
      | inl l ↦ let e = ap one (within-below (offset page n) (size page n) (lowest page + m) l) in let r = nothing m y in omega arith
      | inr l ↦ let e = ap one (within-behind (offset page n) (size page n) (lowest page + m) (omega arith)) in let r = nothing m y in omega arith
    ]

count-all : (page : List ℕ) (n : ℕ) → IsSlotted page → n ≤ slots page → count (covered page n) (lowest page) (4096 - lowest page) ≡ lengths page n
count-all page zero s h = count-none (lowest page) (4096 - lowest page) ∙ sym (lengths-none page)
count-all page (suc n) s h =
    let both = count-both (covered page n) (within (offset page n) (size page n)) (lowest page) (4096 - lowest page)
    (λ x l r p q.
    let c = covers page n x p in let w = within-is (offset page n) (size page n) x q in let k = c.is_slot in
    s.apart c.slot n x (omega arith) (omega arith) (λ e. absurd (omega arith)) c.of (record { from = w.0; to = w.1 })) in
    let here = count-one page n s (omega arith) in
    let before = count-all page n s (omega arith) in
    let more : lengths page (suc n) ≡ lengths page n + length_of (record_at page n) = (let e : n + 1 ≡ suc n = omega arith in sym (ap (lengths page) e) ∙ lengths-next page n) in
    let long = length-shown page n s (omega arith) in
    omega arith

pub lengths-low : (page : List ℕ) → IsSlotted page → lengths page (slots page) + lowest page ≤ 4096
lengths-low page s =
    let ends = s.ends in
    let c = count-all page (slots page) s (omega arith) in
    let l = count-small (covered page (slots page)) (lowest page) (4096 - lowest page) in
    omega arith

pub gap_fits : (page : List ℕ) (n : ℕ) → IsSlotted page → HasGap page n → Fits page n
gap_fits page n s g = let few = g.few in let room = g.room in let l = lengths-low page s in inr (omega arith, omega arith)
