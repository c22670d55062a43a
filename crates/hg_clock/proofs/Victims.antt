-- From what the sweeps say of lists to what the clock takes.
use Rattle.std.proofs.Common.{◌≡◌, ℕ, ◌+◌, ◌-◌, ◌≤◌, ◌<◌, Bool, List, length, slice_index, slice_index_or, false, sym, ◌∙◌, inl, inr, arith}
use Rattle.std.proofs.lemmas.List.{get_or_default}
use Rattle.hg_clock.proofs.Cases.{true-or-false, lt-or-le}
use Rattle.hg_clock.specs.Clock.{ClockState, IsSound, IsVictim, Takes, first_look}
use Rattle.hg_clock.specs.Sweep.{IsFirstUsedUp, Passes}

pub victim_from : (current f : ℕ) (old : ClockState)
    → IsFirstUsedUp old.scores old.out current (first_look current old.hand) f → IsVictim current old f
victim_from current f old h = record {
  eligible = record { below = h.below; not_out = h.not_out };
  least = λ g e. h.least g e.below e.not_out;
  first = λ g e same. h.first_come g e.below e.not_out same;
}

pub takes_from : (current f : ℕ) (old new : ClockState)
    → IsFirstUsedUp old.scores old.out current (first_look current old.hand) f
    → Passes old.scores old.out current (first_look current old.hand) f new.scores
    → new.out ≡ old.out → new.hand ≡ f + 1 → Takes current old f new
takes_from current f old new h k out hand = record {
  victim = victim_from current f old h;
  frames = k.frames;
  passed = λ g e. k.passed g e.below e.not_out;
  out_kept = λ g is_out. k.out_kept g is_out;
  unused_kept = λ g behind. k.unused_kept g behind;
  out = out;
  hand = hand;
}

-- the same over the lists that the sweeps were lent
pub takes_lent : (current first f : ℕ) (old new : ClockState) (scores : List ℕ) (out : List Bool) → first ≡ first_look current old.hand
    → scores ≡ old.scores → out ≡ old.out → IsFirstUsedUp scores out current first f
    → (lent left : List ℕ) (lent_out : List Bool) → lent ≡ old.scores → lent_out ≡ old.out → Passes lent lent_out current first f left
    → new.scores ≡ left
    → new.out ≡ old.out → new.hand ≡ f + 1 → Takes current old f new
takes_lent current first f old new scores out first_is scores_is out_is h lent left lent_out lent_is lent_out_is k left_is out_kept hand =
    takes_from current f old new (rw (← first_is, ← scores_is, ← out_is) h) (rw (← first_is, ← lent_is, ← lent_out_is, left_is) k) out_kept hand

same-bound : (n s bound : ℕ) → n ≡ s → s ≤ bound → n ≤ bound
same-bound n s bound e le = omega arith

less-bound : (n s p bound : ℕ) → n ≡ s - p → s ≤ bound → n ≤ bound
less-bound n s p bound e le = omega arith

-- scores that passes lowered keep their bound
bound-kept : (current first f bound : ℕ) (old left : List ℕ) (out : List Bool) (g : ℕ) → Passes old out current first f left
    → slice_index old g ≤ bound → slice_index left g ≤ bound
bound-kept current first f bound old left out g k old_bound = elim (true-or-false (slice_index_or out g false)) [
  | inl is_out ↦ same-bound _ _ bound (k.out_kept g is_out) old_bound
  | inr not_out ↦ elim (lt-or-le g current) [
    | inl below ↦ less-bound _ _ _ bound (k.passed g below not_out) old_bound
    | inr behind ↦ same-bound _ _ bound (k.unused_kept g behind) old_bound
  ]
]

-- the same of the clock's own lists
pub sound-kept : (current first f hand hand' : ℕ) (old lent left new : List ℕ) (out lent_out : List Bool) → lent ≡ old → lent_out ≡ out
    → Passes lent lent_out current first f left → new ≡ left → IsSound (record { scores = old; out = out; hand = hand })
    → IsSound (record { scores = new; out = out; hand = hand' })
sound-kept current first f hand hand' old lent left new out lent_out lent_is lent_out_is k new_is sound =
    let k' : Passes old out current first f new = rw (← lent_is, ← lent_out_is, new_is) k in
    record {
      same_length = sound.same_length ∙ sym k'.frames;
      small = λ g d inside.
          let inside' : g < length old = omega (arith, k'.frames) in
          same-bound _ _ 7 (get_or_default new g d 0 inside) (bound-kept current first f 7 old new out g k' (sound.small g 0 inside'));
    }
