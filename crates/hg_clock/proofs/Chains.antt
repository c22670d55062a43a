-- The looks of the hand end in what the clock takes, and in nothing else.
use Rattle.std.proofs.Common.{◌≡◌, ◌≢◌, ℕ, zero, suc, ◌+◌, ◌-◌, ◌<◌, ◌≤◌, Bool, true, false, if◌then◌else◌, nat_lt, List, [], ◌∷◌, length, slice_index, slice_index_or, refl, sym, ap, ◌∙◌, subst, inl, inr, arith}
use Rattle.std.specs.Bool.{MatchBool}
use Rattle.std.proofs.Math.ListN.{length-set}
use Rattle.std.proofs.lemmas.Grind.{same_number_lists}
use Rattle.std.proofs.lemmas.Bool.Decides.{nat_tests}
use Rattle.hg_clock.specs.Clock.{ClockState, AllOut, Takes, place_of, is_out, score_of, frame_count}
use Rattle.hg_clock.specs.Looks.{Looks, Passed, Taken, LooksEndIn, LooksNeverEnd}
use Rattle.hg_clock.specs.Sweep.{AllOutIn}
use Rattle.hg_clock.proofs.Cases.{true-or-false, lt-or-le}
use Rattle.hg_clock.proofs.Places.{first_look-below, place-zero, place-first, place-next}
use Rattle.hg_clock.proofs.Looking.{at_hand, gone_on, lowered, step-out, step-lower, step-round, score-other, score-same}

abbrev End : ℕ → ClockState → ℕ → ClockState → Type 0
End current old f new = (passed : List ℕ) × Looks current old passed f new

match_true : (b : Bool) (P Q : Type 0) → b ≡ true → P → MatchBool b P Q
match_true true P Q e p = p
match_true false P Q e p = cc

match_false : (b : Bool) (P Q : Type 0) → b ≡ false → Q → MatchBool b P Q
match_false true P Q e q = cc
match_false false P Q e q = q

state-is : (clock : ClockState) (scores : List ℕ) (out : List Bool) (hand : ℕ) → clock.scores ≡ scores → clock.out ≡ out → clock.hand ≡ hand
    → clock ≡ record { scores = scores; out = out; hand = hand }
state-is clock scores out hand e e' e'' = rw (← e, ← e', ← e'') refl

kept : (n s m a b : ℕ) → n ≡ s - (m + (if nat_lt a b then 1 else 0)) → m ≡ 0 → b ≡ 0 → n ≡ s
kept n s m a b h e e' = grind (arith, nat_tests)

-- at the frame that is taken, with no round to go
take-now : (current f : ℕ) (new old : ClockState) → Takes current old f new → score_of old f ≡ 0 → place_of current old f ≡ 0
    → Taken current old f new
take-now current f new old t zero_score zero_place =
    let h_below = first_look-below current old.hand f t.victim.eligible.below in
    let each = λ (g : ℕ) (inside : g < length new.scores). elim (true-or-false (is_out old g)) as (λ _. slice_index new.scores g ≡ slice_index old.scores g) [
      | inl w ↦ t.out_kept g w
      | inr w ↦ elim (lt-or-le g current) as (λ _. slice_index new.scores g ≡ slice_index old.scores g) [
        | inl below ↦ kept _ _ _ _ _ (t.passed g (record { below = below; not_out = w })) zero_score zero_place
        | inr behind ↦ t.unused_kept g behind
      ]
    ] in (
      place-zero current (at_hand current old) f h_below t.victim.eligible.below zero_place,
      t.victim.eligible.below,
      t.victim.eligible.not_out,
      zero_score,
      state-is new old.scores old.out (f + 1) (same_number_lists new.scores old.scores t.frames each) t.out t.hand,
    )

not-first : (p q n : ℕ) → p ≡ suc n → q ≡ 0 → q ≡ p → ⊥
not-first p q n e e' e'' = cc

nearer-by : (a p n : ℕ) → a + 1 ≡ p → p ≡ suc n → a ≡ n
nearer-by a p n e e' = omega arith

nearer-score : (m s n : ℕ) → m ≡ s - 1 → s ≡ suc n → m ≡ n
nearer-score m s n e e' = omega arith

above-zero : (s n : ℕ) → s ≡ suc n → 0 < s
above-zero s n e = omega arith

inside-by : (h n current : ℕ) → h < current → current ≤ n → h < n
inside-by h n current lt le = omega arith

room-kept : (current : ℕ) (old : ClockState) → current ≤ frame_count old → current ≤ frame_count (lowered current old)
room-kept current old room = rw (length-set old.scores (at_hand current old) (score_of old (at_hand current old) - 1)) room

-- one more look in front of a chain, over a frame that is out or over another
look-out : (current f : ℕ) (old new : ClockState) → is_out old (at_hand current old) ≡ true
    → End current (gone_on current old) f new → End current old f new
look-out current f old new h_out chain =
    (at_hand current old ∷ chain.0, (gone_on current old, (refl, match_true (is_out old (at_hand current old)) _ _ h_out refl), chain.1))

look-lower : (current f : ℕ) (old new : ClockState) → is_out old (at_hand current old) ≡ false → 0 < score_of old (at_hand current old)
    → End current (lowered current old) f new → End current old f new
look-lower current f old new h_in positive chain =
    (at_hand current old ∷ chain.0, (lowered current old, (refl, match_false (is_out old (at_hand current old)) _ _ h_in (positive, refl)), chain.1))

-- The hand goes on to the frame that is taken; what it does there is given.
to-front : (current f s : ℕ) (new : ClockState)
    → ((old : ClockState) → current ≤ frame_count old → Takes current old f new → score_of old f ≡ s → place_of current old f ≡ 0 → End current old f new)
    → (p : ℕ) (old : ClockState) → current ≤ frame_count old → Takes current old f new → score_of old f ≡ s → place_of current old f ≡ p
    → End current old f new
to-front current f s new at_front zero old room t score_is place_is = at_front old room t score_is place_is
to-front current f s new at_front (suc p) old room t score_is place_is =
    let h_below : at_hand current old < current = first_look-below current old.hand f t.victim.eligible.below in
    let other : f ≢ at_hand current old =
    λ e. not-first (place_of current old f) (place_of current old (at_hand current old)) p place_is (place-first current (at_hand current old))
    (ap (λ k. place_of current old k) (sym e)) in
    let near = nearer-by _ _ p (place-next current (at_hand current old) f h_below t.victim.eligible.below other) place_is in
    elim (true-or-false (is_out old (at_hand current old))) [
      | inl h_out ↦ look-out current f old new h_out
          (to-front current f s new at_front p (gone_on current old) room (step-out current f old new h_out t) score_is near)
      | inr h_in ↦
          let stepped = step-lower current f old new room h_in other t in
          look-lower current f old new h_in stepped.0
          (to-front current f s new at_front p (lowered current old) (room-kept current old room) stepped.1 (score-other current old f other ∙ score_is) near)
    ]

-- The hand comes to an end, whatever number of rounds is still to go.
ends-by : (current f s : ℕ) (new old : ClockState) → current ≤ frame_count old → Takes current old f new → score_of old f ≡ s
    → End current old f new
ends-by current f zero new old room t score_is =
    to-front current f zero new (λ now _ t' score_is' front. ([], take-now current f new now t' score_is' front))
    (place_of current old f) old room t score_is refl
ends-by current f (suc s) new old room t score_is =
    to-front current f (suc s) new
    (λ now room' t' score_is' front.
    let first : f ≡ at_hand current now = place-zero current (at_hand current now) f
    (first_look-below current now.hand f t'.victim.eligible.below) t'.victim.eligible.below front in
    let positive = above-zero _ s score_is' in
    let h_in : is_out now (at_hand current now) ≡ false = ap (λ k. is_out now k) (sym first) ∙ t'.victim.eligible.not_out in
    let h_positive : 0 < score_of now (at_hand current now) = let P : ℕ → Type 0 = λ k. 0 < score_of now k in subst P first positive in
    let h_inside : at_hand current now < frame_count now =
    inside-by _ _ current (first_look-below current now.hand f t'.victim.eligible.below) room' in
    look-lower current f now new h_in h_positive
    (ends-by current f s new (lowered current now) (room-kept current now room') (step-round current f now new room' first positive t')
    (ap (λ k. score_of (lowered current now) k) first ∙ nearer-score _ _ s (score-same current now h_inside) (ap (λ k. score_of now k) (sym first) ∙ score_is'))))
    (place_of current old f) old room t score_is refl

match-positive : (b : Bool) (P Q : Type 0) → b ≡ false → MatchBool b P Q → Q
match-positive true P Q e m = cc
match-positive false P Q e m = m

no-positive : (s : ℕ) → 0 < s → s ≡ 0 → ⊥
no-positive s p e = omega arith

-- a frame that is passed is not one that is taken
passed-or-taken : (current f g : ℕ) (old mid new : ClockState) → Passed current old f mid → Taken current old g new → ⊥
passed-or-taken current f g old mid new p t =
    let same : g ≡ f = t.0 ∙ sym p.0 in
    let f_in : is_out old f ≡ false = ap (λ k. is_out old k) (sym same) ∙ t.2 in
    let positive = (match-positive (is_out old f) _ _ f_in p.1).0 in
    let none : score_of old f ≡ 0 = ap (λ k. score_of old k) (sym same) ∙ t.3 in
    no-positive _ positive none

-- what a pass over a frame leaves
same-by : (b : Bool) (P Q R : ClockState) (A : Type 0) (x y : ClockState) → MatchBool b (x ≡ P) (A × (x ≡ Q)) → MatchBool b (y ≡ P) (A × (y ≡ Q)) → x ≡ y
same-by true P Q R A x y e e' = e ∙ sym e'
same-by false P Q R A x y e e' = e.1 ∙ sym e'.1

passed-same : (current f g : ℕ) (old mid other : ClockState) → Passed current old f mid → Passed current old g other → mid ≡ other
passed-same current f g old mid other p q =
    let same : g ≡ f = q.0 ∙ sym p.0 in
    let P : ℕ → Type 0 = λ k. Passed current old k other in
    let q' = subst P same q in
    same-by (is_out old f) _ _ old _ mid other p.1 q'.1

-- two chains of looks end in the same
looks-same : (passed passed' : List ℕ) (current f g : ℕ) (old new other : ClockState) → Looks current old passed f new
    → Looks current old passed' g other → (g ≡ f) × (other ≡ new)
looks-same [] [] current f g old new other l l' =
    let same : g ≡ f = l'.0 ∙ sym l.0 in
    (same, l'.4 ∙ ap (λ k. record old { hand = k + 1 }) same ∙ sym l.4)
looks-same [] (y ∷ ys) current f g old new other l l' = absurd (passed-or-taken current y f old l'.0 new l'.1 l)
looks-same (x ∷ xs) [] current f g old new other l l' = absurd (passed-or-taken current x g old l.0 other l.1 l')
looks-same (x ∷ xs) (y ∷ ys) current f g old new other l l' =
    let mids : l'.0 ≡ l.0 = passed-same current y x old l'.0 l.0 l'.1 l.1 in
    let P : ClockState → Type 0 = λ s. Looks current s ys g other in
    looks-same xs ys current f g l.0 new other l.2 (subst P mids l'.2)

pub looks-end : (current f : ℕ) (old new : ClockState) → current ≤ frame_count old → Takes current old f new → LooksEndIn current old f new
looks-end current f old new room t =
    let chain = ends-by current f (score_of old f) new old room t refl in
    record { reached = chain; only = λ passed g other l. looks-same chain.0 passed current f g old new other chain.1 l }

out-by : (b : Bool) (A : Type 0) (P Q x : ClockState) (out : List Bool) → P.out ≡ out → Q.out ≡ out → MatchBool b (x ≡ P) (A × (x ≡ Q)) → x.out ≡ out
out-by true A P Q x out e e' m = ap (λ s. s.out) m ∙ e
out-by false A P Q x out e e' m = ap (λ s. s.out) m.1 ∙ e'

pub looks-never : (current : ℕ) (old : ClockState) → AllOut current old → LooksNeverEnd current old
looks-never current old all_out [] f new l = let f_out : is_out old f ≡ true = all_out f l.1 in let f_in : is_out old f ≡ false = l.2 in cc
looks-never current old all_out (x ∷ xs) f new l =
    let same : l.0.out ≡ old.out = out-by (is_out old x) _ _ _ l.0 old.out refl refl l.1.1 in
    looks-never current l.0 (λ g below. ap (λ out. slice_index_or out g false) same ∙ all_out g below) xs f new l.2

pub never-by : (current : ℕ) (old : ClockState) (out : List Bool) → out ≡ old.out → AllOutIn out 0 current → LooksNeverEnd current old
never-by current old out out_is all_out = looks-never current old (rw (← out_is) (λ f below. all_out f (omega arith) below))
