-- `get` hands on the `&` to the bytes of one part that a `&` to the `Slots` holds. Assumes `Logic`.
use Rattle.std.proofs.Common.{◌≡◌, ℕ, ◌+◌, ◌*◌, ◌^◌, ◌<◌, true, List, [], ◌∷◌, length, refl, sym, ap, subst, arith, w64}
use mir.Syntax.{named}
use mir.Val.{Val, vptr}
use base.Logic.{SProp, emp}
use base.Fml.{ftrue, flft}
use prog.Wp.{Env}
use contract.Monad.{fact, fact_i}
use contract.Running.{tables}
use types.Kit.{‵, raw, ◌⊛◌, at_ret, ◌$◌, ◌∵◌, !, qed, by, move, keep, use0, use1, split, split3, join, rewrite, fsplit, fjoin, feq_i, flt_i, drop as lets}
use types.Part.{agg}
use types.Run.{stop, fld, load, look, of_opd, bin, no_more, and_then, first, blocks, exec, returns, enter}
use types.ByLocal.{alloc_all, pass_all, free_all, look_at, get, through, sets, sets_last, is, env}
use denote.Exit.{yes}
use denote.RattleType.{owns}
use denote.Builtin.{usize, RefOf}
use denote.Memory.{hidden_shr}
use denote.Opens.{hide}
use denote.Plain.{uint_vals, uint_Tells}
use denote.RawPtr.{Ptr, RawPtr, block_ptr, block_of, count_of, at_block, in_block, InBlock}
use denote.Ref.{shr_vals, shr_Tells}
use denote.Signature.{plain, types_at}
use denote.Slice.{slice_val}
use denote.Steps.{nothing, heard}
use denote.Struct.Lending.{in_block_says}
use denote.Triple.Walked.{Stays, stay_dropped, walk_of, Goes-dropped}
use Rattle.core.proofs.slots.Bodies.{after}
use Rattle.core.proofs.slots.Lent.{word_in, word_out, pointer_in, pointer_out}
use Rattle.std.proofs.raw_atomic.Walks.{proved, leaves}
use Rattle.hg_raw.specs.Frames.{numbers, is_in, bytes_of}
use Rattle.hg_raw.specs.Memory.{part_lent, parts_lent}
use Rattle.hg_raw.specs.declared.slots.Slots.{Slots}
use Rattle.hg_raw.specs.contracts.slots.Slots.get as f
use Rattle.hg_raw.proofs.Lent.{shown}
use Rattle.hg_raw.proofs.Lists.{held-in}
use Rattle.hg_raw.proofs.Opens.{Sr}
use Rattle.hg_raw.proofs.Parts.{part_shown}
use Rattle.hg_raw.proofs.slots.Slots.get.Statement.{statement}
use Rattle.hg_raw.proofs.slots.Slots.get.Code as code

abbrev stayed : Stays f.ended.signature.params f.ended.kept
stayed = (stay_dropped (RefOf (0 ∷ []) tt (plain (λ _. Sr)) (λ _. tt)) yes, (stay_dropped (plain (λ _. usize)) yes, tt))

pub get_spec : {M : Type 1} → statement M
get_spec 𝓤 𝓛 𝓜 𝓡 wired =
    let c = f.clauses 𝓛 𝓜.mem 𝓡.returns in let W = walk_of 𝓛 f.ended stayed c in let 𝓣 = tables 𝓤 𝓛.H 𝓜 𝓡 𝓡.env in
    proved 𝓛 f.ended stayed c 𝓜 𝓡 (Goes-dropped 𝓛 1 (RefOf (0 ∷ []) tt (plain (λ _. Sr)) (λ _. tt)) yes (λ κs x w. refl), (Goes-dropped 𝓛 1 (plain (λ _. usize)) yes (λ κs x w. refl), tt))
    f.Key.name code.function (code.unfolded 𝓤 𝓛.H 𝓜 𝓡 wired)
    (λ κs. (shr_vals, (uint_vals w64, tt))) (λ κs. (shr_Tells (named 0) κs.0 Sr, (uint_Tells w64, tt))) (λ κs qs bounds a _ are.
    let κ = κs.0 in let rb : ℕ = a.0.ref_ptr.0 in let ro : ℕ = a.0.ref_ptr.1 in let h : Slots = a.0.now in let n : ℕ = a.1.0 in let s : ℕ = h.size in
    let y : W.Ghost = ((κs, qs, bounds, a, (shr_vals a.0, (uint_vals w64 n, tt))), tt) in
    let Post : Val → SProp 𝓤 = W.post y in
    let x : List ℕ = bytes_of h.held n in
    let A : Type 0 = length x ≡ s in let B : Type 0 = 0 < s in let C : Type 0 = s < 2 ^ 63 in let D : Type 0 = n * s < 2 ^ 63 in
    qed 𝓛 (((‵ (flft κ qs.0) ⊛ ‵ ftrue) ⊛ ‵ (owns (types_at f.signature.params κs) a y.0.4)) ∷ (raw (fact 𝓤 A) ⊛ (raw (fact 𝓤 B) ⊛ (raw (fact 𝓤 C) ⊛ raw (fact 𝓤 D)))) ∷ []) ∵
    move ! (1 ∷ []) $ split ! $ heard ! A (λ there. split ! $ heard ! B (λ pos. split ! $ heard ! C (λ small. heard ! D (λ near.
    let fm : n * s < 2 ^ 64 = omega (arith, near) in let fl : s < 2 ^ 64 = omega (arith, small) in let at_n : is_in n (numbers h.held) ≡ true = held-in h.held n s there pos in
    let b : ℕ = block_of h.base in let o : ℕ = count_of h.base in let at : ℕ = o + n * s in
    split ! $ split ! $ move ! (2 ∷ []) $ fsplit ! $ fsplit ! $ lets ! $
    use1 𝓛 (‵ (hidden_shr RawPtr κ h.base rb (ro + 0)) ⊛ ‵ (hidden_shr usize κ s rb (ro + 8)) ⊛ ‵ (in_block h.base ftrue) ⊛ ‵ (parts_lent h.base s h.held κ)) (shown 𝓛 κ h rb ro) $
    split3 ! $ move ! (2 ∷ []) $ split ! $ use1 𝓛 (raw (fact 𝓤 (InBlock h.base))) (in_block_says 𝓛 h.base) $ heard ! (InBlock h.base) (λ inb.
    let at_b : h.base ≡ block_ptr b o = at_block h.base inb in
    use1 𝓛 (‵ (part_lent h.base s (n, x) κ)) (part_shown 𝓛 h.base s κ h.held n at_n) $ rewrite ! 0 (λ (p : Ptr). ‵ (part_lent p s (n, x) κ)) at_b refl $ fsplit ! $ lets ! $ fsplit ! $ lets ! $ hide ! $
    keep ! (2 ∷ 4 ∷ 1 ∷ 0 ∷ []) $
    -- [the size; the token; the base; the bytes]
    enter ! _ _ _ _ _ $ alloc_all ! (λ l. pass_all ! refl ((tt, tt), ((tt, record { fits = are.1.0.1 }), tt)) $ let En : Env 𝓤 𝓛.H = env code.function.locals l in
    word_in ! tt s rb (ro + 8) (λ q₁ fn.
    sets ! (of_opd ! (load ! (through ! refl (fld ! refl (stop !))) (look ! 0 refl))) refl (tt, record { fits = fn }) $
    word_out ! tt s rb (ro + 8) fn $ move ! (1 ∷ 0 ∷ []) $
    first ! $ blocks ! $ pointer_in ! tt h.base b o at_b rb (ro + 0) (λ q₂.
    sets ! (of_opd ! (load ! (through ! refl (fld ! refl (stop !))) (look ! 0 refl))) refl (tt, tt) $
    pointer_out ! tt h.base b o at_b rb (ro + 0) $
    sets ! (bin ! (get ! refl) (get ! refl) (record { fits = fm })) refl (tt, record { fits = fm }) $
    sets ! (is ! (bin ! (get ! refl) (get ! refl) tt) (ap (vptr b) (omega arith))) refl (tt, tt) $
    sets_last ! (agg ! (and_then ! (get ! refl) (and_then ! (get ! refl) (no_more !)))) refl (tt, (tt, (record { fits = fl }, tt))) $
    exec ! 𝓣.C 𝓣.Λ En (after 2 code.function.body) (at_ret En Post) $
    sets ! (of_opd ! (get ! refl)) refl (tt, (tt, (record { fits = fl }, tt))) $
    returns ! (look_at ! 0 refl) $ free_all ! refl $
    -- [the token; the bytes]
    nothing ! $ move ! (1 ∷ 0 ∷ []) $ join ! $
    flt_i ! (length x * 1) (2 ^ 63) (subst (λ k. k * 1 < 2 ^ 63) (sym there) (omega (arith, small))) $ flt_i ! (length x) (2 ^ 64) (subst (λ k. k < 2 ^ 64) (sym there) fl) $ fjoin ! $
    feq_i ! (List Val) (slice_val (b, at) s ∷ []) (slice_val (b, at) (length x) ∷ []) (ap (λ (k : ℕ). slice_val (b, at) k ∷ []) (sym there)) $ fjoin ! $ move ! (0 ∷ 2 ∷ []) $ fjoin ! $
    nothing ! $ nothing ! $ fjoin ! $ nothing ! $ fjoin ! $
    use0 𝓛 (raw (fact 𝓤 A)) (fact_i 𝓤 A (emp 𝓤) there) $ use0 𝓛 (raw (fact 𝓤 (x ≡ x))) (fact_i 𝓤 (x ≡ x) (emp 𝓤) refl) $ join ! $ move ! (3 ∷ 1 ∷ 2 ∷ 0 ∷ []) $
    by ! (leaves 𝓛 f.ended stayed c y (slice_val (b, at) s) (record { ref_ptr = (b, at); now = x }) (tt, (tt, tt)) (tt, (tt, tt))))))))))))
