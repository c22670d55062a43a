-- `cut` moves one part to a `Slots` of its own. Assumes `Logic`.
use Rattle.std.proofs.Common.{◌≡◌, ℕ, List, [], ◌∷◌, true, refl, w64}
use mir.Syntax.{named}
use mir.Val.{Val, vptr}
use base.Logic.{emp}
use base.Fml.{ftrue, flft}
use contract.Monad.{fact, fact_i}
use types.Kit.{‵, raw, ◌⊛◌, ◌$◌, ◌∵◌, !, qed, by, move, keep, use0, use1, split, join, fsplit, fsplit3, fjoin, fjoin3, feq_i}
use types.Part.{whole, sub, agg, look_in}
use types.Run.{stop, fld, load, of_opd, no_more, and_then, returns, enter}
use types.ByLocal.{alloc_all, pass_all, free_all, look_at, get, through, sets}
use denote.Exit.{yes}
use denote.RattleType.{owns}
use denote.Builtin.{usize}
use denote.Plain.{uint_vals, uint_Tells}
use denote.RawPtr.{Ptr, block_ptr}
use denote.Ref.{mut_vals, mut_Tells}
use denote.Signature.{plain, types_at}
use denote.Steps.{nothing, heard}
use denote.Triple.Walked.{Stays, stay_dropped, stay_ref, walk_of, Goes-dropped, Goes-ref}
use Rattle.std.proofs.raw_atomic.Walks.{proved, leaves}
use Rattle.hg_raw.specs.Frames.{numbers, is_in, bytes_of, without}
use Rattle.hg_raw.specs.Memory.{part_own, parts_own}
use Rattle.hg_raw.specs.declared.slots.Slots.{Slots}
use Rattle.hg_raw.specs.contracts.slots.Slots.cut as f
use Rattle.hg_raw.proofs.Opens.{Sr, slots_val, slots_made, slots_open, slots_close}
use Rattle.hg_raw.proofs.Parts.{part_out}
use Rattle.hg_raw.proofs.slots.Slots.cut.Statement.{statement}
use Rattle.hg_raw.proofs.slots.Slots.cut.Code as code

abbrev stayed : Stays f.ended.signature.params f.ended.kept
stayed = (stay_ref (0 ∷ []) tt (plain (λ _. Sr)), (stay_dropped (plain (λ _. usize)) yes, tt))

pub cut_spec : {M : Type 1} → statement M
cut_spec 𝓤 𝓛 𝓜 𝓡 wired =
    let c = f.clauses 𝓛 𝓜.mem 𝓡.returns in let W = walk_of 𝓛 f.ended stayed c in
    proved 𝓛 f.ended stayed c 𝓜 𝓡 (Goes-ref 𝓛 1 0 tt (plain (λ _. Sr)), (Goes-dropped 𝓛 1 (plain (λ _. usize)) yes (λ κs x w. refl), tt))
    f.Key.name code.function (code.unfolded 𝓤 𝓛.H 𝓜 𝓡 wired)
    (λ κs. (mut_vals, (uint_vals w64, tt))) (λ κs. (mut_Tells (named 0) κs.0 Sr, (uint_Tells w64, tt))) (λ κs qs bounds a _ are.
    let rb : ℕ = a.0.ref_ptr.0 in let ro : ℕ = a.0.ref_ptr.1 in let h : Slots = a.0.now in let n : ℕ = a.1.0 in
    let y : W.Ghost = ((κs, qs, bounds, a, (mut_vals a.0, (uint_vals w64 n, tt))), tt) in
    let Ok : Type 0 = is_in n (numbers h.held) ≡ true in
    let x : List ℕ = bytes_of h.held n in
    qed 𝓛 (((‵ (flft κs.0 qs.0) ⊛ ‵ ftrue) ⊛ ‵ (owns (types_at f.signature.params κs) a y.0.4)) ∷ raw (fact 𝓤 Ok) ∷ []) ∵
    move ! (1 ∷ []) $ heard ! Ok (λ ok. split ! $ split ! $ move ! (2 ∷ []) $ fsplit ! $ fsplit3 ! $ keep ! (1 ∷ 2 ∷ 4 ∷ []) $
    enter ! _ _ _ _ _ $ alloc_all ! (λ l. pass_all ! refl ((tt, tt), ((tt, record { fits = are.1.0.1 }), tt)) $
    slots_open ! tt h rb ro (λ b o at_b fl.
    let p : Ptr = block_ptr b o in
    use1 𝓛 (‵ (part_own p h.size (n, x)) ⊛ ‵ (parts_own p h.size (without h.held n))) (part_out 𝓛 p h.size h.held n ok) $ split ! $
    -- [the part; the others; the two words; the open borrow; obs; auth]
    sets ! (of_opd ! (load ! (through ! refl (fld ! refl (stop !))) (look_in ! 2 (sub ! 0 refl (whole !))))) refl (tt, tt) $
    sets ! (of_opd ! (load ! (through ! refl (fld ! refl (stop !))) (look_in ! 2 (sub ! 1 refl (whole !))))) refl (tt, record { fits = fl }) $
    sets ! (agg ! (and_then ! (get ! refl) (and_then ! (get ! refl) (no_more !)))) refl (tt, (tt, (record { fits = fl }, tt))) $
    let new : Slots = record { base = h.base; size = h.size; held = without h.held n } in
    let out : Slots = record { base = h.base; size = h.size; held = (n, x) ∷ [] } in
    move ! (1 ∷ 2 ∷ 3 ∷ 4 ∷ 5 ∷ []) $ slots_close ! tt new b o rb ro at_b fl $
    returns ! (look_at ! 0 refl) $ free_all ! refl $
    -- [obs; the borrow; the token; the part]
    feq_i ! (List Val) (vptr rb ro ∷ []) (vptr rb ro ∷ []) refl $ fjoin3 ! $ nothing ! $ nothing ! $ fjoin ! $ move ! (1 ∷ 0 ∷ []) $ fjoin ! $
    -- [the parameters; the token; the part]
    move ! (2 ∷ []) $ nothing ! $ move ! (1 ∷ 0 ∷ []) $ fjoin ! $ slots_made ! out b o at_b fl $
    nothing ! $ move ! (3 ∷ 0 ∷ []) $ join ! $
    use0 𝓛 (raw (fact 𝓤 (new ≡ new))) (fact_i 𝓤 (new ≡ new) (emp 𝓤) refl) $ use0 𝓛 (raw (fact 𝓤 (out ≡ out))) (fact_i 𝓤 (out ≡ out) (emp 𝓤) refl) $ join ! $ move ! (1 ∷ 3 ∷ 2 ∷ 0 ∷ []) $
    by ! (leaves 𝓛 f.ended stayed c y (slots_val b o h.size) out (new, (tt, tt)) (tt, (tt, tt)))))))
