-- The parts of one block: no part has two owners, and a block is cut into parts and put together again. Assumes `Logic`.
use mathlib.Core.Path.{◌≡◌, refl, sym, ap, subst, ◌∙◌}
use mathlib.Core.Bool.{true, ◌||◌}
use mathlib.Core.List.{List, [], ◌∷◌, ◌++◌}
use Prim.Native.Nat.{ℕ, zero, suc, ◌+◌, ◌*◌, ◌≤◌, ◌<◌}
use native.Mathlib.Omega.{arith}
use lib.ListN.{length, replicate, length-replicate, length-append}
use seplogic.Ra.Ura.{Ura}
use mir.Syntax.{w8, ty_int, ty_array}
use base.Fraction.{full_share}
use base.Logic.{SProp, ent, sep, emp, never, id⊢, never_e}
use base.Fml.{Fml, ftrue, fsep, feq, froom}
use prog.Model.{Model}
use types.Logic.{Logic, sem}
use types.Kit.{‵, raw, ◌⊛◌, ◌$◌, ◌∵◌, !, qed, by, move, keep, drop, use0, use1, use2, split, fsplit, fjoin, feq_i, rewrite, done}
use contract.Monad.{fact, fact_i}
use denote.RawPtr.{Ptr, block_ptr}
use denote.RawPtr.Room.{past_bytes, past, room_cut, room_glue}
use denote.RawPtr.Bytes.{bytes, bytes_cut, bytes_glue, bytes_apart, bytes_whole, bytes-room}
use Rattle.hg_raw.specs.Frames.{Frame, numbers, is_in, apart, bytes_of, without, minus}
use Rattle.hg_raw.specs.Links.{Sized, zeros, down}
use Rattle.hg_raw.specs.Memory.{part_own, parts_own, blank_own, blanks_own}
use Rattle.hg_raw.proofs.Lists.{by_bool, or_rest, or_right, sized-at, sized-without, numbers-without, bytes-without, in-others, in-both}
use Rattle.hg_raw.proofs.Parts.{by_test, part_out, blank_out}

lt_not : (n k : ℕ) → n < k → n ≡ k → ⊥
lt_not n k lt e = omega (arith, lt, e)

pub replicate-add : {X : Type 0} → (m n : ℕ) (x : X) → replicate (m + n) x ≡ replicate m x ++ replicate n x
replicate-add zero n x = let e : zero + n ≡ n = omega arith in ap (λ (k : ℕ). replicate k x) e
replicate-add (suc m) n x = let e : suc m + n ≡ suc (m + n) = omega arith in ap (λ (k : ℕ). replicate k x) e ∙ ap (λ xs. x ∷ xs) (replicate-add m n x)

-- n is still in one of the two lists where k was taken out of one, and is another
in-either-left : (n k : ℕ) (ns ms : List ℕ) → n < k → (is_in n ns || is_in n ms) ≡ true → (is_in n (minus ns k) || is_in n ms) ≡ true
in-either-left n k ns ms lt h =
    by_bool (is_in n ns)
    (λ t. ap (λ u. u || is_in n ms) (in-others n k ns (lt_not n k lt) t))
    (λ t. or_right (is_in n (minus ns k)) (is_in n ms) (or_rest (is_in n ns) (is_in n ms) h t))

in-either-right : (n k : ℕ) (ns ms : List ℕ) → n < k → (is_in n ns || is_in n ms) ≡ true → (is_in n ns || is_in n (minus ms k)) ≡ true
in-either-right n k ns ms lt h =
    by_bool (is_in n ns)
    (λ t. ap (λ u. u || is_in n (minus ms k)) t)
    (λ t. or_right (is_in n ns) (is_in n (minus ms k)) (in-others n k ms (lt_not n k lt) (or_rest (is_in n ns) (is_in n ms) h t)))

-- the bytes of parts 0 to k - 1
abbrev pub gathered : List Frame → ℕ → List ℕ
gathered fs zero = []
gathered fs (suc k) = gathered fs k ++ bytes_of fs k

gathered-without : (fs : List Frame) (n k : ℕ) → k ≤ n → gathered (without fs n) k ≡ gathered fs k
gathered-without fs n zero le = refl
gathered-without fs n (suc k) le = λ i. gathered-without fs n k (omega (arith, le)) i ++ bytes-without fs k n (lt_not k n (omega (arith, le))) i

pub length-gathered : (s : ℕ) (fs : List Frame) (k : ℕ) → Sized s fs → ((n : ℕ) → n < k → is_in n (numbers fs) ≡ true) → length (gathered fs k) ≡ k * s
length-gathered s fs zero z all = omega arith
length-gathered s fs (suc k) z all =
    let e : k * s + s ≡ suc k * s = omega arith in
    length-append (gathered fs k) (bytes_of fs k) ∙ (λ i. length-gathered s fs k z (λ n lt. all n (omega (arith, lt))) i + sized-at s fs k z (all k (omega arith)) i) ∙ e

module _ {M : Type 1} {𝓤 : Ura M} (𝓛 : Logic 𝓤) (b o s : ℕ) where
  open 𝓛 use {H}

  abbrev ◌⊢◌ : SProp 𝓤 → SProp 𝓤 → Type 1
  P ⊢ Q = ent 𝓤 P Q

  abbrev ◌∗◌ : SProp 𝓤 → SProp 𝓤 → SProp 𝓤
  P ∗ Q = sep 𝓤 P Q

  abbrev ⟦◌⟧ : Fml → SProp 𝓤
  ⟦ P ⟧ = sem 𝓛 P

  infix 26 ◌⊢◌
  infixr 35 ◌∗◌
  abbrev p : Ptr
  p = block_ptr b o

  abbrev rm : ℕ → ℕ → SProp 𝓤
  rm n x = H.room (ty_array (ty_int w8) n) b x

  pub room_of : (f : Frame) → ⟦ part_own p s f ⟧ ⊢ rm (length f.1) (o + f.0 * s)
  room_of f = qed 𝓛 (‵ (part_own p s f) ∷ []) ∵ use1 𝓛 (‵ (fsep (feq ℕ (length f.1) (length f.1)) (bytes full_share f.1 b (o + f.0 * s)))) (bytes_apart 𝓛 full_share (length f.1) f.1 b (o + f.0 * s)) $
      fsplit ! $ drop ! $ by ! (bytes-room 𝓛 f.1 b (o + f.0 * s))

  -- no part has two owners
  pub never_both : Model 𝓤 H → (n : ℕ) (x y : List ℕ) → 0 < length x → 0 < length y → ⟦ part_own p s (n, x) ⟧ ∗ ⟦ part_own p s (n, y) ⟧ ⊢ never 𝓤
  never_both 𝓜 n x y lx ly =
      let at : ℕ = o + n * s in
      qed 𝓛 (‵ (part_own p s (n, x)) ∷ ‵ (part_own p s (n, y)) ∷ []) ∵ use1 𝓛 (raw (rm (length x) at)) (room_of (n, x)) $ move ! (1 ∷ []) $ use1 𝓛 (raw (rm (length y) at)) (room_of (n, y)) $ move ! (1 ∷ 0 ∷ []) $
      by ! (𝓜.room-room (ty_array (ty_int w8) (length x)) (ty_array (ty_int w8) (length y)) b at at at (omega arith, omega arith) (omega arith, omega arith))

  pub parts_apart : Model 𝓤 H → (fs gs : List Frame) → 0 < s → Sized s fs → Sized s gs → ⟦ parts_own p s fs ⟧ ∗ ⟦ parts_own p s gs ⟧ ⊢ fact 𝓤 (apart (numbers fs) (numbers gs) ≡ true)
  parts_apart 𝓜 fs gs pos zf zg =
      by_test (apart (numbers fs) (numbers gs)) (λ e. fact_i 𝓤 (apart (numbers fs) (numbers gs) ≡ true) (⟦ parts_own p s fs ⟧ ∗ ⟦ parts_own p s gs ⟧) e)
      (λ e. let r = in-both (numbers fs) (numbers gs) e in let n : ℕ = r.0 in
      let lx : 0 < length (bytes_of fs n) = subst (λ k. 0 < k) (sym (sized-at s fs n zf r.1)) pos in
      let ly : 0 < length (bytes_of gs n) = subst (λ k. 0 < k) (sym (sized-at s gs n zg r.2)) pos in
      qed 𝓛 (‵ (parts_own p s fs) ∷ ‵ (parts_own p s gs) ∷ []) ∵ use1 𝓛 (‵ (part_own p s (n, bytes_of fs n)) ⊛ ‵ (parts_own p s (without fs n))) (part_out 𝓛 p s fs n r.1) $ split ! $ move ! (2 ∷ []) $
      use1 𝓛 (‵ (part_own p s (n, bytes_of gs n)) ⊛ ‵ (parts_own p s (without gs n))) (part_out 𝓛 p s gs n r.2) $ split ! $ move ! (2 ∷ 0 ∷ []) $
      use2 𝓛 (raw (never 𝓤)) (never_both 𝓜 n (bytes_of fs n) (bytes_of gs n) lx ly) $ keep ! (0 ∷ []) $ by ! (never_e 𝓤 _))

  -- a block of zero bytes is its parts
  pub cut_up : (k : ℕ) → ⟦ bytes full_share (replicate (k * s) 0) b o ⟧ ⊢ ⟦ parts_own p s (zeros s k) ⟧
  cut_up zero = qed 𝓛 (‵ (bytes full_share (replicate (zero * s) 0) b o) ∷ []) ∵ drop ! $ use0 𝓛 (‵ ftrue) (id⊢ 𝓤 (emp 𝓤)) $ done !
  cut_up (suc k) =
      let two : replicate (suc k * s) 0 ≡ replicate (k * s) 0 ++ replicate s 0 = ap (λ (n : ℕ). replicate n 0) (omega arith) ∙ replicate-add (k * s) s 0 in
      qed 𝓛 (‵ (bytes full_share (replicate (suc k * s) 0) b o) ∷ []) ∵ rewrite ! 0 (λ (xs : List ℕ). ‵ (bytes full_share xs b o)) two refl $
      use1 𝓛 (‵ (bytes full_share (replicate (k * s) 0) b o) ⊛ ‵ (bytes full_share (replicate s 0) b (o + length (replicate (k * s) 0)))) (bytes_cut 𝓛 full_share (replicate (k * s) 0) (replicate s 0) b o) $ split ! $
      use1 𝓛 (‵ (parts_own p s (zeros s k))) (cut_up k) $ rewrite ! 1 (λ (n : ℕ). ‵ (bytes full_share (replicate s 0) b (o + n))) (length-replicate (k * s) 0) refl $ move ! (1 ∷ []) $
      feq_i ! ℕ (length (replicate s 0)) (length (replicate s 0)) refl $ fjoin ! $ use1 𝓛 (‵ (part_own p s (k, replicate s 0))) (bytes_whole 𝓛 full_share (length (replicate s 0)) (replicate s 0) b (o + k * s)) $ fjoin ! $ done !

  -- and parts 0 to k - 1 are their bytes, side by side
  pub put_together : (k : ℕ) (fs : List Frame) → Sized s fs → ((n : ℕ) → n < k → is_in n (numbers fs) ≡ true) → ⟦ parts_own p s fs ⟧ ⊢ ⟦ bytes full_share (gathered fs k) b o ⟧
  put_together zero fs z all = qed 𝓛 (‵ (parts_own p s fs) ∷ []) ∵ drop ! $ use0 𝓛 (‵ ftrue) (id⊢ 𝓤 (emp 𝓤)) $ done !
  put_together (suc k) fs z all =
      let h : is_in k (numbers fs) ≡ true = all k (omega arith) in let x : List ℕ = bytes_of fs k in
      let rest : (n : ℕ) → n < k → is_in n (numbers (without fs k)) ≡ true = λ n lt. ap (is_in n) (numbers-without fs k) ∙ in-others n k (numbers fs) (lt_not n k lt) (all n (omega (arith, lt))) in
      let same : gathered (without fs k) k ≡ gathered fs k = gathered-without fs k k (omega arith) in
      let far : k * s ≡ length (gathered fs k) = sym (length-gathered s fs k z (λ n lt. all n (omega (arith, lt)))) in
      qed 𝓛 (‵ (parts_own p s fs) ∷ []) ∵ use1 𝓛 (‵ (part_own p s (k, x)) ⊛ ‵ (parts_own p s (without fs k))) (part_out 𝓛 p s fs k h) $ split ! $
      use1 𝓛 (‵ (fsep (feq ℕ (length x) (length x)) (bytes full_share x b (o + k * s)))) (bytes_apart 𝓛 full_share (length x) x b (o + k * s)) $ fsplit ! $ drop ! $
      rewrite ! 0 (λ (n : ℕ). ‵ (bytes full_share x b (o + n))) far refl $ move ! (1 ∷ []) $
      use1 𝓛 (‵ (bytes full_share (gathered (without fs k) k) b o)) (put_together k (without fs k) (sized-without s fs k z) rest) $
      rewrite ! 0 (λ (xs : List ℕ). ‵ (bytes full_share xs b o)) same refl $ by ! (bytes_glue 𝓛 full_share (gathered fs k) x b o)

  abbrev room : ℕ → ℕ → Fml
  room n x = froom (ty_array (ty_int w8) n) b x

  -- room is cut into room for parts
  pub cut_room : (k : ℕ) → ⟦ room (k * s) o ⟧ ⊢ ⟦ blanks_own p s (down k) ⟧
  cut_room zero = qed 𝓛 (‵ (room (zero * s) o) ∷ []) ∵ drop ! $ use0 𝓛 (‵ ftrue) (id⊢ 𝓤 (emp 𝓤)) $ done !
  cut_room (suc k) =
      let more : suc k * s ≡ k * s + s = omega arith in
      qed 𝓛 (‵ (room (suc k * s) o) ∷ []) ∵ rewrite ! 0 (λ (n : ℕ). ‵ (room n o)) more refl $
      use1 𝓛 (‵ (room (k * s) o) ⊛ ‵ (room s (past (ty_int w8) (k * s) o))) (room_cut 𝓛 (ty_int w8) (k * s) s b o) $ split ! $
      use1 𝓛 (‵ (blanks_own p s (down k))) (cut_room k) $ rewrite ! 1 (λ (x : ℕ). ‵ (room s x)) (past_bytes (k * s) o) refl $ move ! (1 ∷ []) $ fjoin ! $ done !

  -- and what was cut, with the bytes that were written meanwhile, is room again
  pub all_room : (k : ℕ) (ns : List ℕ) (fs : List Frame) → Sized s fs → ((n : ℕ) → n < k → (is_in n ns || is_in n (numbers fs)) ≡ true) → ⟦ blanks_own p s ns ⟧ ∗ ⟦ parts_own p s fs ⟧ ⊢ ⟦ room (k * s) o ⟧
  all_room zero ns fs z all =
      let none : 0 ≡ zero * s = omega arith in
      qed 𝓛 (‵ (blanks_own p s ns) ∷ ‵ (parts_own p s fs) ∷ []) ∵ drop ! $ drop ! $ use0 𝓛 (‵ (room 0 o)) (𝓛.laws.room_nil (ty_int w8) b o) $ rewrite ! 0 (λ (n : ℕ). ‵ (room n o)) none refl $ done !
  all_room (suc k) ns fs z all =
      let more : k * s + s ≡ suc k * s = omega arith in
      let joined : ⟦ room (k * s) o ⟧ ∗ ⟦ room s (o + k * s) ⟧ ⊢ ⟦ room (suc k * s) o ⟧
      = subst (λ (x : ℕ). ⟦ room (k * s) o ⟧ ∗ ⟦ room s x ⟧ ⊢ ⟦ room (suc k * s) o ⟧) (past_bytes (k * s) o) (subst (λ (n : ℕ). ⟦ room (k * s) o ⟧ ∗ ⟦ room s (past (ty_int w8) (k * s) o) ⟧ ⊢ ⟦ room n o ⟧) more (room_glue 𝓛 (ty_int w8) (k * s) s b o)) in
      by_test (is_in k ns)
      (λ h. qed 𝓛 (‵ (blanks_own p s ns) ∷ ‵ (parts_own p s fs) ∷ []) ∵ use1 𝓛 (‵ (blank_own p s k) ⊛ ‵ (blanks_own p s (minus ns k))) (blank_out 𝓛 p s ns k h) $ split ! $ move ! (1 ∷ 2 ∷ []) $
      use2 𝓛 (‵ (room (k * s) o)) (all_room k (minus ns k) fs z (λ n lt. in-either-left n k ns (numbers fs) lt (all n (omega (arith, lt))))) $ by ! joined)
      (λ h. let there : is_in k (numbers fs) ≡ true = or_rest (is_in k ns) (is_in k (numbers fs)) (all k (omega arith)) h in let x : List ℕ = bytes_of fs k in
      let rest : (n : ℕ) → n < k → (is_in n ns || is_in n (numbers (without fs k))) ≡ true = λ n lt. ap (λ (ms : List ℕ). is_in n ns || is_in n ms) (numbers-without fs k) ∙ in-either-right n k ns (numbers fs) lt (all n (omega (arith, lt))) in
      qed 𝓛 (‵ (blanks_own p s ns) ∷ ‵ (parts_own p s fs) ∷ []) ∵ move ! (1 ∷ []) $ use1 𝓛 (‵ (part_own p s (k, x)) ⊛ ‵ (parts_own p s (without fs k))) (part_out 𝓛 p s fs k there) $ split ! $ move ! (2 ∷ 1 ∷ []) $
      use2 𝓛 (‵ (room (k * s) o)) (all_room k ns (without fs k) (sized-without s fs k z) rest) $ move ! (1 ∷ []) $
      use1 𝓛 (‵ (room (length x) (o + k * s))) (room_of (k, x)) $ rewrite ! 0 (λ (n : ℕ). ‵ (room n (o + k * s))) (sized-at s fs k z there) refl $ move ! (1 ∷ 0 ∷ []) $ by ! joined)
