-- Parts in memory: one is taken out and put back, and two lists of them are joined. Assumes `Logic`.
use mathlib.Core.Path.{◌≡◌, refl, sym, subst}
use mathlib.Core.Bool.{Bool, true, false}
use mathlib.Core.List.{List, [], ◌∷◌, ◌++◌}
use Prim.Native.Nat.{ℕ}
use lib.Dec.{T, eqb→eq}
use seplogic.Ra.Ura.{Ura}
use base.Logic.{SProp, ent, sep, emp, snd∗}
use base.Fml.{Lft, Fml}
use types.Logic.{Logic, sem}
use types.Kit.{‵, ◌⊛◌, ◌$◌, ◌∵◌, !, qed, by, move, keep, drop, use1, use2, split, fsplit, fjoin, frame, rewrite, done}
use denote.RawPtr.{Ptr}
use Rattle.hg_raw.specs.Frames.{Frame, numbers, is_in, bytes_of, without, minus, with_bytes}
use Rattle.hg_raw.specs.Memory.{part_own, parts_own, part_lent, parts_lent, blank_own, blanks_own}
use Rattle.std.proofs.Common.{◌==◌, if◌then◌else◌}
use Rattle.hg_raw.proofs.Lists.{clash, or_rest}

pub by_test : {X : Type 1} (t : Bool) → (t ≡ true → X) → (t ≡ false → X) → X
by_test true y n = y refl
by_test false y n = n refl

module _ {M : Type 1} {𝓤 : Ura M} (𝓛 : Logic 𝓤) (p : Ptr) (s : ℕ) where
  open 𝓛 use {H}

  abbrev ◌⊢◌ : SProp 𝓤 → SProp 𝓤 → Type 1
  P ⊢ Q = ent 𝓤 P Q

  abbrev ◌∗◌ : SProp 𝓤 → SProp 𝓤 → SProp 𝓤
  P ∗ Q = sep 𝓤 P Q

  abbrev ⟦◌⟧ : Fml → SProp 𝓤
  ⟦ P ⟧ = sem 𝓛 P

  infix 26 ◌⊢◌
  infixr 35 ◌∗◌
  pub part_out : (fs : List Frame) (n : ℕ) → is_in n (numbers fs) ≡ true → ⟦ parts_own p s fs ⟧ ⊢ ⟦ part_own p s (n, bytes_of fs n) ⟧ ∗ ⟦ parts_own p s (without fs n) ⟧
  part_out [] n h = let no : ⊥ = clash false h refl in absurd no
  part_out (f ∷ fs) n h =
      let Goal : Bool → Type 1 = λ t. ⟦ parts_own p s (f ∷ fs) ⟧ ⊢ ⟦ part_own p s (n, (if t then f.1 else bytes_of fs n)) ⟧ ∗ ⟦ parts_own p s (if t then fs else f ∷ without fs n) ⟧ in
      by_test (f.0 == n)
      (λ e. subst Goal (sym e) (qed 𝓛 (‵ (parts_own p s (f ∷ fs)) ∷ []) ∵ fsplit ! $ rewrite ! 0 (λ (k : ℕ). ‵ (part_own p s (k, f.1))) (eqb→eq f.0 n (subst T (sym e) tt)) refl $ done !))
      (λ e. subst Goal (sym e) (qed 𝓛 (‵ (parts_own p s (f ∷ fs)) ∷ []) ∵ fsplit ! $ move ! (1 ∷ []) $
      use1 𝓛 (‵ (part_own p s (n, bytes_of fs n)) ⊛ ‵ (parts_own p s (without fs n))) (part_out fs n (or_rest (f.0 == n) (is_in n (numbers fs)) h e)) $ split ! $ frame ! $ move ! (1 ∷ 0 ∷ []) $ fjoin ! $ done !))

  pub part_in : (fs : List Frame) (n : ℕ) (w : List ℕ) → is_in n (numbers fs) ≡ true → ⟦ part_own p s (n, w) ⟧ ∗ ⟦ parts_own p s (without fs n) ⟧ ⊢ ⟦ parts_own p s (with_bytes fs n w) ⟧
  part_in [] n w h = let no : ⊥ = clash false h refl in absurd no
  part_in (f ∷ fs) n w h =
      let Goal : Bool → Type 1 = λ t. ⟦ part_own p s (n, w) ⟧ ∗ ⟦ parts_own p s (if t then fs else f ∷ without fs n) ⟧ ⊢ ⟦ parts_own p s (if t then (f.0, w) ∷ fs else f ∷ with_bytes fs n w) ⟧ in
      by_test (f.0 == n)
      (λ e. subst Goal (sym e) (qed 𝓛 (‵ (part_own p s (n, w)) ∷ ‵ (parts_own p s fs) ∷ []) ∵ rewrite ! 0 (λ (k : ℕ). ‵ (part_own p s (k, w))) (sym (eqb→eq f.0 n (subst T (sym e) tt))) refl $ fjoin ! $ done !))
      (λ e. subst Goal (sym e) (qed 𝓛 (‵ (part_own p s (n, w)) ∷ ‵ (parts_own p s (f ∷ without fs n)) ∷ []) ∵ move ! (1 ∷ []) $ fsplit ! $ move ! (2 ∷ 1 ∷ []) $
      use2 𝓛 (‵ (parts_own p s (with_bytes fs n w))) (part_in fs n w (or_rest (f.0 == n) (is_in n (numbers fs)) h e)) $ move ! (1 ∷ 0 ∷ []) $ fjoin ! $ done !))

  -- the same of parts that nothing was written to
  pub blank_out : (ns : List ℕ) (n : ℕ) → is_in n ns ≡ true → ⟦ blanks_own p s ns ⟧ ⊢ ⟦ blank_own p s n ⟧ ∗ ⟦ blanks_own p s (minus ns n) ⟧
  blank_out [] n h = let no : ⊥ = clash false h refl in absurd no
  blank_out (m ∷ ms) n h =
      let Goal : Bool → Type 1 = λ t. ⟦ blanks_own p s (m ∷ ms) ⟧ ⊢ ⟦ blank_own p s n ⟧ ∗ ⟦ blanks_own p s (if t then ms else m ∷ minus ms n) ⟧ in
      by_test (m == n)
      (λ e. subst Goal (sym e) (qed 𝓛 (‵ (blanks_own p s (m ∷ ms)) ∷ []) ∵ fsplit ! $ rewrite ! 0 (λ (k : ℕ). ‵ (blank_own p s k)) (eqb→eq m n (subst T (sym e) tt)) refl $ done !))
      (λ e. subst Goal (sym e) (qed 𝓛 (‵ (blanks_own p s (m ∷ ms)) ∷ []) ∵ fsplit ! $ move ! (1 ∷ []) $
      use1 𝓛 (‵ (blank_own p s n) ⊛ ‵ (blanks_own p s (minus ms n))) (blank_out ms n (or_rest (m == n) (is_in n ms) h e)) $ split ! $ frame ! $ move ! (1 ∷ 0 ∷ []) $ fjoin ! $ done !))

  pub parts_joined : (fs gs : List Frame) → ⟦ parts_own p s fs ⟧ ∗ ⟦ parts_own p s gs ⟧ ⊢ ⟦ parts_own p s (fs ++ gs) ⟧
  parts_joined [] gs = snd∗ 𝓤 (emp 𝓤) ⟦ parts_own p s gs ⟧
  parts_joined (f ∷ fs) gs =
      qed 𝓛 (‵ (parts_own p s (f ∷ fs)) ∷ ‵ (parts_own p s gs) ∷ []) ∵ fsplit ! $ move ! (1 ∷ 2 ∷ []) $ use2 𝓛 (‵ (parts_own p s (fs ++ gs))) (parts_joined fs gs) $ move ! (1 ∷ 0 ∷ []) $ fjoin ! $ done !

  -- what a `&` lends of one part
  pub part_shown : (κ : Lft) (fs : List Frame) (n : ℕ) → is_in n (numbers fs) ≡ true → ⟦ parts_lent p s fs κ ⟧ ⊢ ⟦ part_lent p s (n, bytes_of fs n) κ ⟧
  part_shown κ [] n h = let no : ⊥ = clash false h refl in absurd no
  part_shown κ (f ∷ fs) n h =
      let Goal : Bool → Type 1 = λ t. ⟦ parts_lent p s (f ∷ fs) κ ⟧ ⊢ ⟦ part_lent p s (n, (if t then f.1 else bytes_of fs n)) κ ⟧ in
      by_test (f.0 == n)
      (λ e. subst Goal (sym e) (qed 𝓛 (‵ (parts_lent p s (f ∷ fs) κ) ∷ []) ∵ fsplit ! $ rewrite ! 0 (λ (k : ℕ). ‵ (part_lent p s (k, f.1) κ)) (eqb→eq f.0 n (subst T (sym e) tt)) refl $ keep ! (0 ∷ []) $ done !))
      (λ e. subst Goal (sym e) (qed 𝓛 (‵ (parts_lent p s (f ∷ fs) κ) ∷ []) ∵ fsplit ! $ drop ! $ by ! (part_shown κ fs n (or_rest (f.0 == n) (is_in n (numbers fs)) h e))))
