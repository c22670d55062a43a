-- Each look leaves fewer.
use Rattle.std.specs.Prelude.{◌≡◌, ℕ, zero, suc, ◌+◌, ◌*◌, ◌<◌, ◌≤◌, Bool, true, List, [], ◌∷◌, ◌++◌, length, drop, get_or, Option, Some, None, slice_get, ◌⊎◌}
use Rattle.std.proofs.Common.{sym, ◌∙◌, ap, subst, refl, arith, length-append, inl, inr}
use Rattle.std.proofs.lemmas.Option.{slice_get_cases}
use Rattle.std.proofs.Math.Nat.{suc-mul}
use Rattle.hg_model.specs.declared.values.Value.{Value}
use Rattle.hg_exec.specs.Entering.{Enters, begun}
use Rattle.hg_exec.specs.Joins.{Form}
use Rattle.hg_exec.specs.Turning.{IfGoesOn, worth, looks_from}
use Rattle.hg_exec.specs.declared.loops.Step.{Step}
use Rattle.hg_exec.specs.declared.loops.Step.TheVariants as step
use Rattle.hg_exec.specs.declared.plan.OpenLoop.{OpenLoop}
use Rattle.hg_plan.specs.declared.plan.TableLoop.{TableLoop}
use Rattle.hg_exec.proofs.Opening.{drop-at, worth-some, looks-top}

times-some : (b w : ℕ) → 0 < b → 0 < w → 0 < b * w
times-some zero w h k = absurd (omega arith)
times-some (suc b) w h k = omega (arith, suc-mul b w)

times-next : (b w : ℕ) → (b + 1) * w ≡ b * w + w
times-next b w = let e : b + 1 ≡ suc b = omega arith in ap (λ k. k * w) e ∙ suc-mul b w

module _ (most : ℕ) (loops : List TableLoop) (outer : List OpenLoop) (o : OpenLoop) (l : TableLoop) (at : slice_get loops (length outer) ≡ Some l) where
  abbrev weight : ℕ
  weight = worth most (length (drop (suc (length outer)) loops))

  before : looks_from most loops (outer ++ o ∷ []) ≡ o.budget * weight + looks_from most loops outer
  before = looks-top most loops outer o l at

  pub closed-nearer : 0 < o.budget → looks_from most loops outer < looks_from most loops (outer ++ o ∷ [])
  closed-nearer some =
      let e = before in
      let t = times-some o.budget weight some (worth-some most (length (drop (suc (length outer)) loops))) in
      omega arith

  module _ (next : OpenLoop) (fewer : next.budget + 1 ≡ o.budget) where
    fall : o.budget * weight ≡ next.budget * weight + weight
    fall = ap (λ k. k * weight) (sym fewer) ∙ times-next next.budget weight

    pub stayed-nearer : looks_from most loops (outer ++ next ∷ []) < looks_from most loops (outer ++ o ∷ [])
    stayed-nearer =
        let e = before in
        let n = looks-top most loops outer next l at in
        let w = worth-some most (length (drop (suc (length outer)) loops)) in
        let k = fall in
        omega arith

    pub begun-nearer : (start : ℕ) → suc (length outer) < length loops
        → looks_from most loops ((outer ++ next ∷ []) ++ begun most start ∷ []) < looks_from most loops (outer ++ o ∷ [])
    begun-nearer start deeper = here (slice_get_cases loops (suc (length outer))).1
      where
        found : (m : TableLoop) → slice_get loops (suc (length outer)) ≡ Some m
            → looks_from most loops ((outer ++ next ∷ []) ++ begun most start ∷ []) < looks_from most loops (outer ++ o ∷ [])
        found m there =
            let depth : length (outer ++ next ∷ []) ≡ suc (length outer) = length-append outer (next ∷ []) ∙ omega arith in
            let inside = worth most (length (drop (suc (suc (length outer))) loops)) in
            let e = before in
            let n = looks-top most loops outer next l at in
            let i : looks_from most loops ((outer ++ next ∷ []) ++ begun most start ∷ []) ≡ most * inside + looks_from most loops (outer ++ next ∷ []) =
            looks-top most loops (outer ++ next ∷ []) (begun most start) m (ap (slice_get loops) depth ∙ there)
            ∙ ap (λ k. most * worth most (length (drop (suc k) loops)) + looks_from most loops (outer ++ next ∷ [])) depth in
            let w : weight ≡ suc most * inside = ap (λ ls. worth most (length ls)) (drop-at loops (suc (length outer)) m there) in
            let s = suc-mul most inside in
            let some = worth-some most (length (drop (suc (suc (length outer))) loops)) in
            let k = fall in
            omega arith

        here : ((m : TableLoop) × (suc (length outer) < length loops) × (slice_get loops (suc (length outer)) ≡ Some m) × (get_or loops (suc (length outer)) m ≡ m))
            ⊎ ((length loops ≤ suc (length outer)) × (slice_get loops (suc (length outer)) ≡ None))
            → looks_from most loops ((outer ++ next ∷ []) ++ begun most start ∷ []) < looks_from most loops (outer ++ o ∷ [])
        here (inl h) = found h.0 h.2
        here (inr h) = absurd (let e = h.0 in omega arith)

    pub entered-nearer : (f : Form) (joined : List Value) (os : List OpenLoop) (s : Step) → Enters f loops most l outer next joined os s
        → IfGoesOn s (looks_from most loops os < looks_from most loops (outer ++ o ∷ []))
    entered-nearer f joined os step.Again (inl h) = subst (λ us. looks_from most loops us < looks_from most loops (outer ++ o ∷ [])) (sym h.1) stayed-nearer
    entered-nearer f joined os step.Again (inr h) =
        subst (λ us. looks_from most loops us < looks_from most loops (outer ++ o ∷ [])) (sym h.2) (begun-nearer (length joined) h.1)
    entered-nearer f joined os step.Row h = subst (λ us. looks_from most loops us < looks_from most loops (outer ++ o ∷ [])) (sym h.2) stayed-nearer
    entered-nearer f joined os step.End h = absurd h
    entered-nearer f joined os (step.Fault e) h = absurd h
