-- The looks of the hand, one by one. Our own rule.
use Rattle.std.specs.Prelude.{◌≡◌, ℕ, ◌+◌, ◌-◌, ◌<◌, false, List, [], ◌∷◌, slice_set}
use Rattle.std.specs.Bool.{MatchBool}
use Rattle.hg_clock.specs.Clock.{ClockState, first_look, is_out, score_of}

-- the hand looks at f and passes it: one that is out as it is, another by lowering its positive score by 1
abbrev pub Passed : ℕ → ClockState → ℕ → ClockState → Type 0
Passed current old f new = (f ≡ first_look current old.hand)
    × MatchBool (is_out old f) (new ≡ record old { hand = f + 1 })
    ((0 < score_of old f) × (new ≡ record old { scores = slice_set old.scores f (score_of old f - 1); hand = f + 1 }))

-- the hand looks at f and takes it: one below `current` that is not out and has score 0
abbrev pub Taken : ℕ → ClockState → ℕ → ClockState → Type 0
Taken current old f new = (f ≡ first_look current old.hand) × (f < current) × (is_out old f ≡ false) × (score_of old f ≡ 0)
    × (new ≡ record old { hand = f + 1 })

-- the hand passes these frames in this order, and then takes f
abbrev pub Looks : ℕ → ClockState → List ℕ → ℕ → ClockState → Type 0
Looks current old [] f new = Taken current old f new
Looks current old (g ∷ gs) f new = (mid : ClockState) × Passed current old g mid × Looks current mid gs f new

-- looks of the hand end in taking f, and they can end in nothing else
pub record LooksEndIn (current : ℕ) (old : ClockState) (f : ℕ) (new : ClockState) : Type 0 where
  pub reached : (passed : List ℕ) × Looks current old passed f new
  pub only : (passed : List ℕ) (g : ℕ) (other : ClockState) → Looks current old passed g other → (g ≡ f) × (other ≡ new)

-- the hand may look as often as it will, and takes no frame
abbrev pub LooksNeverEnd : ℕ → ClockState → Type 0
LooksNeverEnd current old = (passed : List ℕ) (f : ℕ) (new : ClockState) → ¬ Looks current old passed f new
