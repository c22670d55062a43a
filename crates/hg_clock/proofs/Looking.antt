-- What the clock takes after one look of the hand is what it takes before it.
use Rattle.std.proofs.Common.{◌≡◌, ◌≢◌, ℕ, ◌+◌, ◌-◌, ◌<◌, ◌≤◌, true, false, if◌then◌else◌, nat_lt, slice_set, sym, ap, ◌∙◌, inl, inr, get_or-set_other, get_or-set_same, arith}
use Rattle.std.proofs.Math.ListN.{length-set}
use Rattle.std.proofs.lemmas.Bool.Decides.{nat_tests, eqb_tells}
use Rattle.hg_clock.specs.Clock.{ClockState, IsEligible, Takes, first_look, place_of, is_out, score_of, frame_count}
use Rattle.hg_clock.proofs.Places.{first_look-below, place-below, place-zero, place-first, place-next, place-next_first}

-- the frame that the hand looks at
abbrev pub at_hand : ℕ → ClockState → ℕ
at_hand current clock = first_look current clock.hand

-- the hand went on, and no score changed
abbrev pub gone_on : ℕ → ClockState → ClockState
gone_on current old = record old { hand = at_hand current old + 1 }

-- the hand went on, and lowered the score of the frame that it looked at
abbrev pub lowered : ℕ → ClockState → ClockState
lowered current old = record old { scores = slice_set old.scores (at_hand current old) (score_of old (at_hand current old) - 1); hand = at_hand current old + 1 }

-- a score left, where both places are nearer by one
left-nearer : (s m a b far_a far_b : ℕ) → a + 1 ≡ far_a → b + 1 ≡ far_b
    → s - (m + (if nat_lt far_a far_b then 1 else 0)) ≡ s - (m + (if nat_lt a b then 1 else 0))
left-nearer s m a b far_a far_b e e' = grind (arith, nat_tests)

differ : (current : ℕ) (old : ClockState) (g h : ℕ) → is_out old g ≡ false → is_out old h ≡ true → g ≢ h
differ current old g h g_in h_out same = let e : is_out old g ≡ is_out old h = ap (λ k. is_out old k) same in cc

-- past a frame that is out
pub step-out : (current f : ℕ) (old new : ClockState) → is_out old (at_hand current old) ≡ true
    → Takes current old f new → Takes current (gone_on current old) f new
step-out current f old new h_out t =
    let h_below : at_hand current old < current = first_look-below current old.hand f t.victim.eligible.below in
    let other = λ (g : ℕ) (e : IsEligible current (gone_on current old) g). differ current old g (at_hand current old) e.not_out h_out in
    let nearer = λ (g : ℕ) (e : IsEligible current (gone_on current old) g). place-next current (at_hand current old) g h_below e.below (other g e) in
    let f_is : IsEligible current (gone_on current old) f = record { below = t.victim.eligible.below; not_out = t.victim.eligible.not_out } in
    let same = λ (g : ℕ) (e : IsEligible current (gone_on current old) g). let e' : IsEligible current old g = record { below = e.below; not_out = e.not_out } in e' in
    record {
      victim = record {
        eligible = f_is;
        least = λ g e. t.victim.least g (same g e);
        first = λ g e equal. omega (arith, nearer g e, nearer f f_is, t.victim.first g (same g e) equal);
      };
      frames = t.frames;
      passed = λ g e. t.passed g (same g e) ∙ left-nearer (score_of old g) (score_of old f) _ _ _ _ (nearer g e) (nearer f f_is);
      out_kept = λ g g_out. t.out_kept g g_out;
      unused_kept = λ g behind. t.unused_kept g behind;
      out = t.out;
      hand = t.hand;
    }

pub score-other : (current : ℕ) (old : ClockState) (g : ℕ) → g ≢ at_hand current old → score_of (lowered current old) g ≡ score_of old g
score-other current old g other = get_or-set_other old.scores (at_hand current old) g (score_of old (at_hand current old) - 1) 0 other

pub score-same : (current : ℕ) (old : ClockState) → at_hand current old < frame_count old
    → score_of (lowered current old) (at_hand current old) ≡ score_of old (at_hand current old) - 1
score-same current old inside = get_or-set_same old.scores (at_hand current old) (score_of old (at_hand current old) - 1) 0 inside

-- Numbers of two frames before and after a look: m of the frame that is taken, s of another, and their places.
greater-by : (m s : ℕ) → m ≤ s → (s ≡ m → ⊥) → m < s
greater-by m s le differs = omega arith

positive-by : (p : ℕ) → (p ≡ 0 → ⊥) → 0 < p
positive-by p nonzero = omega arith

positive-above : (m s : ℕ) → m < s → 0 < s
positive-above m s lt = omega arith

zero-by : (p q : ℕ) → p ≤ q → q ≡ 0 → p ≡ 0
zero-by p q le e = omega arith

differ-by : (g h current : ℕ) → h < current → current ≤ g → g ≢ h
differ-by g h current lt le = omega arith

all-equal : (m n : ℕ) → n ≡ m → m ≤ n
all-equal m n e = omega arith

least-other : (m s m' s' : ℕ) → m' ≡ m → s' ≡ s → m ≤ s → m' ≤ s'
least-other m s m' s' e e' le = omega arith

least-looked : (m s m' s' : ℕ) → m' ≡ m → s' ≡ s - 1 → m < s → m' ≤ s'
least-looked m s m' s' e e' lt = omega arith

first-other : (a b far_a far_b : ℕ) → a + 1 ≡ far_a → b + 1 ≡ far_b → far_a ≤ far_b → a ≤ b
first-other a b far_a far_b e e' le = omega arith

first-looked : (a b far_a current : ℕ) → a + 1 ≡ far_a → b + 1 ≡ current → far_a < current → a ≤ b
first-looked a b far_a current e e' lt = omega arith

left-other : (n s m s' m' a b far_a far_b : ℕ) → n ≡ s - (m + (if nat_lt far_a far_b then 1 else 0)) → s' ≡ s → m' ≡ m
    → a + 1 ≡ far_a → b + 1 ≡ far_b → n ≡ s' - (m' + (if nat_lt a b then 1 else 0))
left-other n s m s' m' a b far_a far_b h e e' e'' e''' = grind (arith, nat_tests)

left-looked : (n s m s' m' a b far_a far_b current : ℕ) → n ≡ s - (m + (if nat_lt far_a far_b then 1 else 0)) → s' ≡ s - 1 → m' ≡ m
    → far_a ≡ 0 → 0 < far_b → a + 1 ≡ current → b + 1 ≡ far_b → far_b < current → n ≡ s' - (m' + (if nat_lt a b then 1 else 0))
left-looked n s m s' m' a b far_a far_b current h e e' z p e'' e''' lt = grind (arith, nat_tests)

-- past a frame that is not the one taken, whose score is lowered
pub step-lower : (current f : ℕ) (old new : ClockState) → current ≤ frame_count old → is_out old (at_hand current old) ≡ false
    → f ≢ at_hand current old → Takes current old f new → (0 < score_of old (at_hand current old)) × Takes current (lowered current old) f new
step-lower current f old new room h_in f_other t =
    let h_below : at_hand current old < current = first_look-below current old.hand f t.victim.eligible.below in
    let h_inside : at_hand current old < frame_count old = omega arith in
    let h_is : IsEligible current old (at_hand current old) = record { below = h_below; not_out = h_in } in
    let f_is : IsEligible current old f = t.victim.eligible in
    let h_score = score-same current old h_inside in
    let h_far = place-next_first current (at_hand current old) h_below in
    let h_zero = place-first current (at_hand current old) in
    let f_near = place-next current (at_hand current old) f h_below f_is.below f_other in
    let f_far = place-below current (at_hand current old) f h_below f_is.below in
    let f_same = score-other current old f f_other in
    let f_positive : 0 < place_of current old f = positive-by _ (λ z. f_other (place-zero current (at_hand current old) f h_below f_is.below z)) in
    let greater = greater-by (score_of old f) (score_of old (at_hand current old)) (t.victim.least _ h_is)
    (λ e. f_other (place-zero current (at_hand current old) f h_below f_is.below (zero-by _ _ (t.victim.first _ h_is e) h_zero))) in
    let same = λ (g : ℕ) (e : IsEligible current (lowered current old) g). let e' : IsEligible current old g = record { below = e.below; not_out = e.not_out } in e' in
    let near = λ (g : ℕ) (e : IsEligible current (lowered current old) g) (o : g ≢ at_hand current old). place-next current (at_hand current old) g h_below e.below o in (
      positive-above _ _ greater,
      record {
        victim = record {
          eligible = record { below = f_is.below; not_out = f_is.not_out };
          least = λ g e. elim (eqb_tells g (at_hand current old)) [
            | inl w ↦ least-looked _ _ _ _ f_same (ap (λ k. score_of (lowered current old) k) w.1 ∙ h_score) greater
            | inr w ↦ least-other _ _ _ _ f_same (score-other current old g w.1) (t.victim.least g (same g e))
          ];
          first = λ g e equal. elim (eqb_tells g (at_hand current old)) [
            | inl w ↦ first-looked _ _ _ _ f_near (ap (λ k. place_of current (lowered current old) k + 1) w.1 ∙ h_far) f_far
            | inr w ↦ first-other _ _ _ _ f_near (near g e w.1)
                (t.victim.first g (same g e) (sym (score-other current old g w.1) ∙ equal ∙ f_same))
          ];
        };
        frames = t.frames ∙ sym (length-set old.scores _ _);
        passed = λ g e. elim (eqb_tells g (at_hand current old)) [
          | inl w ↦ left-looked _ _ _ _ _ _ _ _ _ current (t.passed g (same g e))
              (ap (λ k. score_of (lowered current old) k) w.1 ∙ h_score ∙ ap (λ k. score_of old k - 1) (sym w.1)) f_same
              (ap (λ k. place_of current old k) w.1 ∙ h_zero) f_positive
              (ap (λ k. place_of current (lowered current old) k + 1) w.1 ∙ h_far) f_near f_far
          | inr w ↦ left-other _ _ _ _ _ _ _ _ _ (t.passed g (same g e)) (score-other current old g w.1) f_same (near g e w.1) f_near
        ];
        out_kept = λ g g_out. t.out_kept g g_out ∙ sym (score-other current old g (λ e. differ current old (at_hand current old) g h_in g_out (sym e)));
        unused_kept = λ g behind. t.unused_kept g behind ∙ sym (score-other current old g (differ-by _ _ current h_below behind));
        out = t.out;
        hand = t.hand;
      },
    )

-- the same numbers where the frame looked at is the one taken, with a round still to go
least-round : (m s m' s' : ℕ) → m' ≡ m - 1 → s' ≡ s → m ≤ s → m' ≤ s'
least-round m s m' s' e e' le = omega arith

first-round : (m s m' s' : ℕ) → m' ≡ m - 1 → s' ≡ s → 0 < m → m ≤ s → s' ≡ m' → ⊥
first-round m s m' s' e e' p le equal = omega arith

left-round : (n s m s' m' a b far_a far_b current : ℕ) → n ≡ s - (m + (if nat_lt far_a far_b then 1 else 0)) → s' ≡ s → m' ≡ m - 1
    → 0 < m → far_b ≡ 0 → a + 1 ≡ far_a → b + 1 ≡ current → far_a < current → n ≡ s' - (m' + (if nat_lt a b then 1 else 0))
left-round n s m s' m' a b far_a far_b current h e e' p z e'' e''' lt = grind (arith, nat_tests)

left-taken : (n s m s' m' extra extra' : ℕ) → n ≡ s - (m + extra) → s ≡ m → s' ≡ m' → n ≡ s' - (m' + extra')
left-taken n s m s' m' extra extra' h e e' = omega arith

-- past the frame that is taken in a later round, whose score is lowered
pub step-round : (current f : ℕ) (old new : ClockState) → current ≤ frame_count old → f ≡ at_hand current old
    → 0 < score_of old f → Takes current old f new → Takes current (lowered current old) f new
step-round current f old new room f_first positive t =
    let f_is : IsEligible current old f = t.victim.eligible in
    let h_below : at_hand current old < current = first_look-below current old.hand f f_is.below in
    let h_inside : at_hand current old < frame_count old = omega arith in
    let f_score : score_of (lowered current old) f ≡ score_of old f - 1 =
    ap (λ k. score_of (lowered current old) k) f_first ∙ score-same current old h_inside ∙ ap (λ k. score_of old k - 1) (sym f_first) in
    let f_far : place_of current (lowered current old) f + 1 ≡ current =
    ap (λ k. place_of current (lowered current old) k + 1) f_first ∙ place-next_first current (at_hand current old) h_below in
    let f_zero : place_of current old f ≡ 0 = ap (λ k. place_of current old k) f_first ∙ place-first current (at_hand current old) in
    let same = λ (g : ℕ) (e : IsEligible current (lowered current old) g). let e' : IsEligible current old g = record { below = e.below; not_out = e.not_out } in e' in
    let other = λ (g : ℕ) (o : g ≢ f). let o' : g ≢ at_hand current old = λ e. o (e ∙ sym f_first) in o' in
    let near = λ (g : ℕ) (e : IsEligible current (lowered current old) g) (o : g ≢ f). place-next current (at_hand current old) g h_below e.below (other g o) in
    record {
      victim = record {
        eligible = record { below = f_is.below; not_out = f_is.not_out };
        least = λ g e. elim (eqb_tells g f) [
          | inl w ↦ all-equal _ _ (ap (λ k. score_of (lowered current old) k) w.1)
          | inr w ↦ least-round _ _ _ _ f_score (score-other current old g (other g w.1)) (t.victim.least g (same g e))
        ];
        first = λ g e equal. elim (eqb_tells g f) [
          | inl w ↦ all-equal _ _ (ap (λ k. place_of current (lowered current old) k) w.1)
          | inr w ↦ absurd (first-round _ _ _ _ f_score (score-other current old g (other g w.1)) positive (t.victim.least g (same g e)) equal)
        ];
      };
      frames = t.frames ∙ sym (length-set old.scores _ _);
      passed = λ g e. elim (eqb_tells g f) [
        | inl w ↦ left-taken _ _ _ _ _ _ _ (t.passed g (same g e)) (ap (λ k. score_of old k) w.1)
            (ap (λ k. score_of (lowered current old) k) w.1)
        | inr w ↦ left-round _ _ _ _ _ _ _ _ _ current (t.passed g (same g e)) (score-other current old g (other g w.1)) f_score positive f_zero
            (near g e w.1) f_far (place-below current (at_hand current old) g h_below e.below)
      ];
      out_kept = λ g g_out. t.out_kept g g_out ∙ sym (score-other current old g
          (other g (λ e. differ current old f g f_is.not_out g_out (sym e))));
      unused_kept = λ g behind. t.unused_kept g behind ∙ sym (score-other current old g (differ-by _ _ current h_below behind));
      out = t.out;
      hand = t.hand;
    }
