-- A page that was handed out stays in its frame while another one is, is pinned or is made.
use Rattle.std.specs.Prelude.{◌≡◌, ◌≢◌, ℕ, ◌&&◌, ◌||◌, Bool, true, false, Result, Ok, Err, OnOk, IfErr, ◌⊎◌}
use Rattle.std.proofs.Common.{sym, ◌∙◌, ap, refl, inl, inr}
use Rattle.std.proofs.lemmas.Bool.{false≢true}
use Rattle.hg_io.specs.declared.device.PageDevice.{Ghosts}
use Rattle.hg_base.specs.Space.{key}
use Rattle.hg_base.specs.declared.PageId.{PageId}
use Rattle.hg_base.specs.declared.pages.PageFault.{PageFault}
use Rattle.hg_clock.specs.Clock.{is_out}
use Rattle.hg_pool.specs.Clocking.{ComesIn}
use Rattle.hg_pool.specs.Lending.{KeepsOut}
use Rattle.hg_pool.specs.Loans.{and-left}
use Rattle.hg_pool.specs.Picture.{frame_at}
use Rattle.hg_pool.specs.Shown.{state_of, in_frame, frame_of, clock_of, current_of, IsWhole, SameFrames, KeepsFrames, IsRefused, StaysIn, Leaves}
use Rattle.hg_pool.specs.declared.parts.Parts.{Parts}

and-right : (s t : Bool) → (s && t) ≡ true → t ≡ true
and-right true t e = e
and-right false t e = absurd (cc)

or-right : (s t : Bool) → t ≡ true → (s || t) ≡ true
or-right true t e = refl
or-right false t e = e

module _ {M T : Type 0} where
  -- such a page is in a frame, and the clock does not give that frame
  pub out-in : (m : Ghosts M) (t : Ghosts T) (a : Parts M T) (q : PageId) → (state_of m t a).of_heap (key q) ≡ true → in_frame a q ≡ true
  out-in m t a q e = and-left (in_frame a q) (frame_at a.store.frames.items (frame_of a q)).lent e

  victim-apart : (m : Ghosts M) (t : Ghosts T) (a : Parts M T) (q : PageId) (f : ℕ) → IsWhole m t a → (state_of m t a).of_heap (key q) ≡ true
      → is_out (clock_of a) f ≡ false → frame_of a q ≢ f
  victim-apart m t a q f w e n s =
      let x = frame_at a.store.frames.items (frame_of a q) in
      false≢true (sym n ∙ ap (is_out (clock_of a)) (sym s) ∙ w.shape.clock.out (frame_of a q)
      ∙ or-right x.pinned x.lent (and-right (in_frame a q) x.lent e))

  pub taken-keeps : (m : Ghosts M) (t : Ghosts T) (a b : Parts M T) (page : PageId) → IsWhole m t a → (state_of m t a).of_heap (key page) ≡ false
      → (in_frame a page ≡ true → SameFrames a b) → (in_frame a page ≡ false → ComesIn (current_of a) (clock_of a) (clock_of b) (frame_of b page))
      → KeepsFrames a b page (frame_of b page) → KeepsOut m t a b
  taken-keeps m t a b page w out same comes keeps q e = each (in_frame a page) refl
    where
      each : (k : Bool) → in_frame a page ≡ k → (in_frame b q ≡ true) × (frame_of b q ≡ frame_of a q)
      each true h = (same h).stay q (out-in m t a q e)
      each false h = keeps.stay q (λ s. false≢true (sym out ∙ ap (state_of m t a).of_heap (sym s) ∙ e)) (out-in m t a q e)
          (victim-apart m t a q (frame_of b page) w e (comes h).takes.victim.eligible.not_out)

  pub refused-keeps : (m : Ghosts M) (t : Ghosts T) (a b : Parts M T) (page : PageId) (fault : PageFault) → IsWhole m t a → IsRefused m t a b page fault → KeepsOut m t a b
  refused-keeps m t a b page fault w r q e = elim r [
    | inl s ↦ s.frames.stay q (out-in m t a q e)
    | inr l ↦ l.frames.stay q (out-in m t a q e) (victim-apart m t a q l.frame w e l.takes.victim.eligible.not_out)
  ]

  pub made-keeps : (m : Ghosts M) (t : Ghosts T) (a b : Parts M T) (page : PageId) → IsWhole m t a → (state_of m t a).of_heap (key page) ≡ false
      → ComesIn (current_of a) (clock_of a) (clock_of b) (frame_of b page) → KeepsFrames a b page (frame_of b page) → KeepsOut m t a b
  made-keeps m t a b page w out comes keeps q e = keeps.stay q (λ s. false≢true (sym out ∙ ap (state_of m t a).of_heap (sym s) ∙ e)) (out-in m t a q e)
      (victim-apart m t a q (frame_of b page) w e comes.takes.victim.eligible.not_out)

  pub same-keeps : (m : Ghosts M) (t : Ghosts T) (a b : Parts M T) → SameFrames a b → KeepsOut m t a b
  same-keeps m t a b same q e = same.stay q (out-in m t a q e)
