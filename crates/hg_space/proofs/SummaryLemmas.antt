-- How bits in levels are kept, and the way down to the first bit of the lowest level.
use Rattle.std.proofs.Common.{◌≡◌, ◌≢◌, ℕ, zero, suc, ◌+◌, ◌-◌, ◌*◌, ◌/◌, ◌<◌, ◌≤◌, ◌==◌, Bool, true, false, List, length, refl, sym, ◌∙◌, ap, inl, inr, arith, add-one}
use Rattle.std.specs.Prelude.{not}
use Rattle.std.proofs.lemmas.Bool.{false≢true}
use Rattle.std.proofs.lemmas.Bool.Decides.{eqb_tells, leb_tells}
use Rattle.std.proofs.Math.ListN.{get_or-eq_default}
use Rattle.hg_space.specs.Bits.{is_set, has_bits, Puts, IsFirstSet}
use Rattle.hg_space.specs.Summary.{level_start, IsSummary, IsSummaryBut, PutsUp}
use Rattle.hg_space.proofs.BitLemmas.{has_bits-set}

not-true : (b : Bool) → (b ≡ true → ⊥) → b ≡ false
not-true true h = absurd (h refl)
not-true false h = refl

-- a bit that says of another word than the written one says it still
stays : (old mid : List ℕ) (bit end : ℕ) (b : Bool) → Puts old bit b mid → IsSummaryBut old end bit → (bit < end → has_bits old (bit + 1) ≡ b)
    → (i : ℕ) → i < end → i + 1 ≢ bit / 64 → is_set mid i ≡ has_bits mid (i + 1)
stays old mid bit end b p but right i l ne =
    let same : has_bits old (i + 1) ≡ has_bits mid (i + 1) = ap (λ x. not (x == 0)) (sym (p.words (i + 1) ne)) in
    elim (eqb_tells i bit) [
      | inl w ↦ ap (is_set mid) w.1 ∙ p.here ∙ sym (right (omega arith)) ∙ ap (λ k. has_bits old (k + 1)) (sym w.1) ∙ same
      | inr w ↦ p.others i w.1 ∙ but i l w.1 ∙ same
    ]

-- one level up
pub climbs : (old mid new : List ℕ) (bit : ℕ) (b : Bool) → Puts old bit b mid → 64 ≤ bit → has_bits mid (bit / 64) ≡ b
    → PutsUp mid (bit / 64 - 1) b new → PutsUp old bit b new
climbs old mid new bit b p high has up =
    let back : bit / 64 - 1 + 1 ≡ bit / 64 = omega arith in
    record {
      here = up.others bit (omega arith) (omega arith) ∙ p.here;
      others = λ i from ne. up.others i (omega arith) (omega arith) ∙ p.others i ne;
      summary = λ end but right.
          up.summary end (λ i l ne. stays old mid bit end b p but right i l (omega arith)) (λ _. ap (has_bits mid) back ∙ has);
    }

pub level_start-next : (level : ℕ) → level_start (level + 1) ≡ 64 * (level_start level + 1)
level_start-next level = ap level_start (add-one level)

-- a level ends where the next one begins
pub level_start-le : (depth level : ℕ) → level < depth → 64 * (level_start level + 1) ≤ level_start depth
level_start-le zero level h = absurd (omega arith)
level_start-le (suc depth) level h =
    elim (eqb_tells level depth) [
      | inl w ↦ (let same : level_start level ≡ level_start depth = ap level_start w.1 in omega arith)
      | inr w ↦ omega (arith, level_start-le depth level (omega arith))
    ]

pub inside-of : (ws : List ℕ) (w : ℕ) → has_bits ws w ≡ true → w < length ws
inside-of ws w h = elim (leb_tells (length ws) w) [
  | inl r ↦ absurd (false≢true (ap (λ x. not (x == 0)) (sym (get_or-eq_default ws 0 r.1)) ∙ h))
  | inr r ↦ r.1
]

pub has-below : (ws : List ℕ) (depth level bit : ℕ) → level < depth → IsSummary ws (level_start depth)
    → IsFirstSet ws (level_start level) bit → bit < 64 * (level_start level + 1) → has_bits ws (bit + 1) ≡ true
has-below ws depth level bit l summary first below =
    sym (summary bit (omega (arith, level_start-le depth level l))) ∙ first.here

-- one level down
pub goes-down : (ws : List ℕ) (depth level bit next : ℕ) → level < depth → IsSummary ws (level_start depth)
    → IsFirstSet ws (level_start level) bit → bit < 64 * (level_start level + 1) → IsFirstSet ws (64 * (bit + 1)) next
    → IsFirstSet ws (64 * (level_start level + 1)) next
goes-down ws depth level bit next l summary first below found =
    record {
      from = omega (arith, first.from, found.from);
      here = found.here;
      lower = λ k from lt. elim (leb_tells (64 * (bit + 1)) k) [
        | inl r ↦ found.lower k r.1 lt
        | inr r ↦
            let m : ℕ = k / 64 - 1 in
            let above : m + 1 ≡ k / 64 = omega arith in
            let in_level : level_start level ≤ m = omega arith in
            let before : m < bit = omega arith in
            let in_summary : m < level_start depth = omega (arith, level_start-le depth level l) in
            not-true (is_set ws k) (λ set. false≢true (sym (first.lower m in_level before) ∙ summary m in_summary ∙ ap (has_bits ws) above ∙ has_bits-set ws k set))
      ];
    }
