-- `get_mut` lends the bytes of one part, and the `Slots` follows them. Assumes `Logic`.
use Rattle.std.proofs.Common.{◌≡◌, ℕ, ◌+◌, ◌*◌, ◌^◌, ◌<◌, true, List, [], ◌∷◌, ◌++◌, length, take, drop, refl, sym, ap, subst, arith, w64}
use Rattle.std.proofs.Math.Seq.{take-append_seam}
use base.Fraction.{full_share}
use mir.Syntax.{named}
use mir.Val.{Val, vptr}
use seplogic.Ra.Ura.{Ura}
use base.Logic.{SProp, ent, sep, emp, id⊢}
use base.Fml.{GName, Fml, ftrue, fsep, feq, flft}
use prog.Wp.{Env}
use types.Logic.{Logic, sem}
use contract.Monad.{fact, fact_i}
use contract.Running.{tables}
use types.Kit.{‵, raw, ◌⊛◌, some, later, at_ret, ◌$◌, ◌∵◌, !, qed, by, move, keep, use0, use1, use2, split, join, pick, rewrite, fsplit, fsplit3, fjoin, fpack, feq_i, await, group, drop as lets, done}
use types.Part.{whole, sub, agg, look_in}
use types.Run.{stop, fld, load, of_opd, bin, no_more, and_then, first, blocks, exec, returns, enter}
use types.ByLocal.{alloc_all, pass_all, free_all, look_at, get, through, sets, sets_last, is, env}
use types.SemTy.{cells}
use denote.Exit.{yes, no}
use denote.RattleType.{owns}
use denote.Array.{Array}
use denote.Builtin.{u8, usize, RefMutOf}
use denote.Follow.{follows}
use denote.FollowSlice.{Elements, lends_Elements}
use denote.Index.{whole_in, whole_out}
use denote.Memory.{cell_at, part_of, mem}
use denote.Plain.{uint_vals, uint_Tells}
use denote.RawPtr.{Ptr, block_ptr}
use denote.RawPtr.Bytes.{bytes, bytes_apart, bytes_whole}
use denote.Ref.{mut_vals, mut_Tells}
use denote.Signature.{plain, types_at}
use denote.Slice.{MutSlice, slice_val}
use denote.Steps.{nothing, heard}
use denote.Triple.Walked.{Stays, stay_dropped, walk_of, Goes-dropped, Goes-spent_ref}
use Rattle.core.proofs.slots.Bodies.{after}
use Rattle.std.proofs.raw_atomic.Walks.{proved, leaves}
use Rattle.hg_raw.specs.Frames.{numbers, is_in, bytes_of, without, with_bytes, refit}
use Rattle.hg_raw.specs.Lending.{with_part}
use Rattle.hg_raw.specs.Memory.{part_own, parts_own}
use Rattle.hg_raw.specs.declared.slots.Slots.{Slots}
use Rattle.hg_raw.specs.contracts.slots.Slots.get_mut as f
use Rattle.hg_raw.proofs.Lists.{held-in}
use Rattle.hg_raw.proofs.Opens.{Sr, slots_val, slots_made, slots_open}
use Rattle.hg_raw.proofs.Parts.{part_out, part_in}
use Rattle.hg_raw.proofs.slots.Slots.get_mut.Statement.{statement}
use Rattle.hg_raw.proofs.slots.Slots.get_mut.Code as code

abbrev stayed : Stays f.ended.signature.params f.ended.kept
stayed = (stay_dropped (RefMutOf (0 ∷ []) tt (plain (λ _. Sr)) (λ _. tt)) no, (stay_dropped (plain (λ _. usize)) yes, tt))

refit_same : (xs ws : List ℕ) → length ws ≡ length xs → refit xs ws ≡ ws
refit_same xs ws e = subst (λ (n : ℕ). take n (ws ++ drop (length ws) xs) ≡ ws) e (take-append_seam ws (drop (length ws) xs))

module _ {M : Type 1} {𝓤 : Ura M} (𝓛 : Logic 𝓤) (rb ro b o : ℕ) (h : Slots) (n : ℕ) where
  abbrev xs : List ℕ
  xs = bytes_of h.held n

  -- all of the parts but this one
  abbrev Rest : Fml
  Rest = fsep (parts_own (block_ptr b o) h.size (without h.held n)) (cell_at full_share Sr.mir (slots_val b o h.size ∷ []) rb ro)

  back : h.base ≡ block_ptr b o → h.size < 2 ^ 64 → is_in n (numbers h.held) ≡ true → (ws : List ℕ) → length ws ≡ length xs
      → ent 𝓤 (sep 𝓤 (sem 𝓛 (cells (mem u8) ws b (o + n * h.size))) (sem 𝓛 Rest)) (sem 𝓛 ((mem Sr).own_at (with_part h n ws) rb ro))
  unfolding part_of
  back at_b fl there ws e =
      let p : Ptr = block_ptr b o in let new : Slots = with_part h n ws in
      qed 𝓛 (‵ (cells (mem u8) ws b (o + n * h.size)) ∷ ‵ Rest ∷ []) ∵ use1 𝓛 (‵ (bytes full_share ws b (o + n * h.size))) (whole_out 𝓛 u8 ws b (o + n * h.size)) $
      feq_i ! ℕ (length ws) (length ws) refl $ fjoin ! $ use1 𝓛 (‵ (part_own p h.size (n, ws))) (bytes_whole 𝓛 full_share (length ws) ws b (o + n * h.size)) $
      move ! (1 ∷ []) $ fsplit ! $ move ! (2 ∷ 0 ∷ []) $ use2 𝓛 (‵ (parts_own p h.size (with_bytes h.held n ws))) (part_in 𝓛 p h.size h.held n ws there) $
      rewrite ! 0 (λ (us : List ℕ). ‵ (parts_own p h.size (with_bytes h.held n us))) (sym (refit_same xs ws e)) refl $
      slots_made ! new b o at_b fl $ move ! (1 ∷ 0 ∷ []) $ fjoin ! $ fpack ! (List Val) (λ us. fsep (cell_at full_share Sr.mir us rb ro) (Sr.own_val new us)) (slots_val b o h.size ∷ []) $ done !

pub get_mut_spec : {M : Type 1} → statement M
get_mut_spec 𝓤 𝓛 𝓜 𝓡 wired =
    let c = f.clauses 𝓛 𝓜.mem 𝓡.returns in let W = walk_of 𝓛 f.ended stayed c in let 𝓣 = tables 𝓤 𝓛.H 𝓜 𝓡 𝓡.env in
    proved 𝓛 f.ended stayed c 𝓜 𝓡 (Goes-spent_ref 𝓛 1 (0 ∷ []) tt (plain (λ _. Sr)), (Goes-dropped 𝓛 1 (plain (λ _. usize)) yes (λ κs x w. refl), tt))
    f.Key.name code.function (code.unfolded 𝓤 𝓛.H 𝓜 𝓡 wired)
    (λ κs. (mut_vals, (uint_vals w64, tt))) (λ κs. (mut_Tells (named 0) κs.0 Sr, (uint_Tells w64, tt))) (λ κs qs bounds a _ are.
    let rb : ℕ = a.0.ref_ptr.0 in let ro : ℕ = a.0.ref_ptr.1 in let γ : GName = a.0.ghost_name in let h : Slots = a.0.now in let n : ℕ = a.1.0 in let s : ℕ = h.size in
    let y : W.Ghost = ((κs, qs, bounds, a, (mut_vals a.0, (uint_vals w64 n, tt))), tt) in
    let Post : Val → SProp 𝓤 = W.post y in
    let x : List ℕ = bytes_of h.held n in
    let A : Type 0 = length x ≡ s in let B : Type 0 = 0 < s in let C : Type 0 = s < 2 ^ 63 in let D : Type 0 = n * s < 2 ^ 63 in
    qed 𝓛 (((‵ (flft κs.0 qs.0) ⊛ ‵ ftrue) ⊛ ‵ (owns (types_at f.signature.params κs) a y.0.4)) ∷ (raw (fact 𝓤 A) ⊛ (raw (fact 𝓤 B) ⊛ (raw (fact 𝓤 C) ⊛ raw (fact 𝓤 D)))) ∷ []) ∵
    move ! (1 ∷ []) $ split ! $ heard ! A (λ there. split ! $ heard ! B (λ pos. split ! $ heard ! C (λ small. heard ! D (λ near.
    let fm : n * s < 2 ^ 64 = omega (arith, near) in let fl : s < 2 ^ 64 = omega (arith, small) in let at_n : is_in n (numbers h.held) ≡ true = held-in h.held n s there pos in
    split ! $ split ! $ move ! (2 ∷ []) $ fsplit ! $ fsplit3 ! $ keep ! (1 ∷ 2 ∷ 4 ∷ []) $
    enter ! _ _ _ _ _ $ alloc_all ! (λ l. pass_all ! refl ((tt, tt), ((tt, record { fits = are.1.0.1 }), tt)) $ let En : Env 𝓤 𝓛.H = env code.function.locals l in
    slots_open ! tt h rb ro (λ b o at_b _.
    let p : Ptr = block_ptr b o in let at : ℕ = o + n * s in
    -- [the parts; the two words; the open borrow; obs; auth]
    sets ! (of_opd ! (load ! (through ! refl (fld ! refl (stop !))) (look_in ! 1 (sub ! 1 refl (whole !))))) refl (tt, record { fits = fl }) $
    first ! $ blocks ! $
    sets ! (of_opd ! (load ! (through ! refl (fld ! refl (stop !))) (look_in ! 1 (sub ! 0 refl (whole !))))) refl (tt, tt) $
    sets ! (bin ! (get ! refl) (get ! refl) (record { fits = fm })) refl (tt, record { fits = fm }) $
    sets ! (is ! (bin ! (get ! refl) (get ! refl) tt) (ap (vptr b) (omega arith))) refl (tt, tt) $
    sets_last ! (agg ! (and_then ! (get ! refl) (and_then ! (get ! refl) (no_more !)))) refl (tt, (tt, (record { fits = fl }, tt))) $
    exec ! 𝓣.C 𝓣.Λ En (after 2 code.function.body) (at_ret En Post) $
    sets ! (of_opd ! (get ! refl)) refl (tt, (tt, (record { fits = fl }, tt))) $
    use1 𝓛 (‵ (part_own p s (n, x)) ⊛ ‵ (parts_own p s (without h.held n))) (part_out 𝓛 p s h.held n at_n) $ split ! $
    use1 𝓛 (‵ (fsep (feq ℕ (length x) (length x)) (bytes full_share x b at))) (bytes_apart 𝓛 full_share (length x) x b at) $ fsplit ! $ lets ! $ use1 𝓛 (‵ (cells (mem u8) x b at)) (whole_in 𝓛 u8 x b at) $
    -- [the bytes; the others; the two words; the open borrow; obs; auth]
    move ! (1 ∷ 2 ∷ []) $ fjoin ! $ move ! (2 ∷ 3 ∷ 4 ∷ 1 ∷ 0 ∷ []) $ group ! 5 $
    let roomy : length x < 2 ^ 64 = subst (λ k. k < 2 ^ 64) (sym there) fl in let fitting : length x * 1 < 2 ^ 63 = subst (λ k. k * 1 < 2 ^ 63) (sym there) (omega (arith, small)) in
    use1 𝓛 (later (some (λ (γ' : GName). raw (Elements 𝓛 Sr u8 (with_part h n) (named 0) κs.0 qs.0 rb ro b at γ x (roomy, fitting) (sem 𝓛 (Rest 𝓛 rb ro b o h n)) (back 𝓛 rb ro b o h n at_b fl at_n) γ'))))
    (lends_Elements 𝓛 Sr u8 (with_part h n) (named 0) κs.0 qs.0 rb ro b at γ x (roomy, fitting) (sem 𝓛 (Rest 𝓛 rb ro b o h n)) (back 𝓛 rb ro b o h n at_b fl at_n) (Sr.coded.code h) (Sr.coded.code h)) $ await ! tt $ pick ! (λ γ'.
    returns ! (look_at ! 0 refl) $ free_all ! refl $ keep ! (0 ∷ []) $
    let Out : ℕ → Fml = λ k. (MutSlice (named 0) κs.0 u8).own_val (record { ref_ptr = (b, at); ghost_name = γ'; now = x }) (slice_val (b, at) k ∷ []) in
    use1 𝓛 (‵ (Out (length x)) ⊛ (‵ (flft κs.0 qs.0) ⊛ ‵ (follows Sr (Array u8 0) γ γ' (with_part h n)))) (id⊢ 𝓤 _) $ split ! $ move ! (1 ∷ []) $ split ! $ move ! (2 ∷ []) $
    rewrite ! 0 (λ (k : ℕ). ‵ (Out k)) there refl $ nothing ! $ nothing ! $ fjoin ! $ nothing ! $ fjoin ! $ nothing ! $ move ! (3 ∷ 0 ∷ []) $ join ! $
    use0 𝓛 (raw (fact 𝓤 A)) (fact_i 𝓤 A (emp 𝓤) there) $ use0 𝓛 (raw (fact 𝓤 (x ≡ x))) (fact_i 𝓤 (x ≡ x) (emp 𝓤) refl) $ join ! $ move ! (4 ∷ 0 ∷ []) $ join ! $ move ! (1 ∷ 2 ∷ 3 ∷ 0 ∷ []) $
    by ! (leaves 𝓛 f.ended stayed c y (slice_val (b, at) s) (record { ref_ptr = (b, at); ghost_name = γ'; now = x }) (tt, (tt, tt)) (tt, (tt, tt)))))))))))
