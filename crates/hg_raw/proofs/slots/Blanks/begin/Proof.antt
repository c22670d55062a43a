-- `begin` takes the room of one part out, and stores an array in it. Assumes `Logic`.
use Rattle.std.proofs.Common.{◌≡◌, ℕ, ◌+◌, ◌*◌, ◌^◌, ◌<◌, List, [], ◌∷◌, length, true, refl, ap, arith, lit<, w8, w64}
use mir.Syntax.{named, ty_int, ty_array}
use mir.Val.{Val, WT, has_ty, vint, vptr}
use lib.Dec.{T}
use mathlib.Core.List.{map}
use base.Fraction.{full_share}
use base.Logic.{SProp, emp}
use base.Fml.{fsep, feq, ftrue, flft}
use prog.Wp.{Env}
use contract.Monad.{fact, fact_i}
use contract.Running.{tables}
use types.Kit.{‵, raw, ◌⊛◌, at_ret, ◌$◌, ◌∵◌, !, qed, by, move, keep, use0, use1, use2, split, join, fsplit, fsplit3, fjoin, fjoin3, feq_i, drop as lets}
use types.Part.{whole, sub, agg, look_in}
use types.Run.{init, stop, fld, load, of_opd, bin, no_more, and_then, assigns_last, first, blocks, exec, returns, enter}
use types.ByLocal.{alloc_all, pass_all, free_all, look_at, get, through, sets, is, env}
use denote.Array.{Array, Array-Lawful, Array-Tells, array_vals, array_val}
use denote.Exit.{yes}
use denote.RattleType.{owns}
use denote.Builtin.{u8, usize}
use denote.Memory.{part_at}
use denote.Plain.{uint_vals, uint_Tells, uint_Lawful}
use denote.RawPtr.{Ptr, block_ptr}
use denote.RawPtr.Bytes.{bytes, bytes_apart, bytes_whole}
use denote.Ref.{mut_vals, mut_Tells}
use denote.Signature.{plain, types_at}
use denote.Steps.{nothing, heard}
use denote.Triple.Walked.{Stays, stay_dropped, stay_ref, walk_of, Goes-dropped, Goes-ref}
use borrow.Table.OneValue.{part_in}
use Rattle.core.proofs.slots.Bodies.{after}
use Rattle.std.proofs.raw_atomic.Walks.{proved, leaves}
use Rattle.hg_raw.specs.Frames.{is_in, minus}
use Rattle.hg_raw.specs.Memory.{part_own, blank_own, blanks_own}
use Rattle.hg_raw.specs.declared.slots.Blanks.{Blanks}
use Rattle.hg_raw.specs.declared.slots.Slots.{Slots}
use Rattle.hg_raw.specs.contracts.slots.Blanks.begin as f
use Rattle.hg_raw.proofs.Opens.{Br, slots_val, slots_made, blanks_open, blanks_close, page_lit}
use Rattle.hg_raw.proofs.Parts.{blank_out}
use Rattle.hg_raw.proofs.slots.Blanks.begin.Statement.{statement}
use Rattle.hg_raw.proofs.slots.Blanks.begin.Code as code

abbrev stayed : Stays f.ended.signature.params f.ended.kept
stayed = (stay_ref (0 ∷ []) tt (plain (λ _. Br)), (stay_dropped (plain (λ _. usize)) yes, (stay_dropped (plain (λ _. Array u8 4096)) yes, tt)))

pub begin_spec : {M : Type 1} → statement M
begin_spec 𝓤 𝓛 𝓜 𝓡 wired =
    let c = f.clauses 𝓛 𝓜.mem 𝓡.returns in let W = walk_of 𝓛 f.ended stayed c in let 𝓣 = tables 𝓤 𝓛.H 𝓜 𝓡 𝓡.env in
    proved 𝓛 f.ended stayed c 𝓜 𝓡 (Goes-ref 𝓛 1 0 tt (plain (λ _. Br)), (Goes-dropped 𝓛 1 (plain (λ _. usize)) yes (λ κs x w. refl), (Goes-dropped 𝓛 1 (plain (λ _. Array u8 4096)) yes (λ κs x w. refl), tt)))
    f.Key.name code.function (code.unfolded 𝓤 𝓛.H 𝓜 𝓡 wired)
    (λ κs. (mut_vals, (uint_vals w64, (array_vals (uint_vals w8), tt)))) (λ κs. (mut_Tells (named 0) κs.0 Br, (uint_Tells w64, (Array-Tells u8 (uint_vals w8) (uint_Tells w8) 4096, tt)))) (λ κs qs bounds a _ are.
    let rb : ℕ = a.0.ref_ptr.0 in let ro : ℕ = a.0.ref_ptr.1 in let h : Blanks = a.0.now in let n : ℕ = a.1.0 in let xs : List ℕ = a.1.1.0 in
    let y : W.Ghost = ((κs, qs, bounds, a, (mut_vals a.0, (uint_vals w64 n, (array_vals (uint_vals w8) xs, tt)))), tt) in
    let Post : Val → SProp 𝓤 = W.post y in
    let vy : Val = array_val (map (λ (x : ℕ). vint w8 x) xs) in
    let typed : T (has_ty (ty_array (ty_int w8) 4096) vy) × WT vy = ((Array-Lawful 𝓛 u8 (uint_Lawful 𝓛 w8) 4096).typed xs (vy ∷ []) are.1.1.0).0 in
    let Ok : Type 0 = is_in n h.left ≡ true in let Near : Type 0 = n * 4096 < 2 ^ 63 in
    qed 𝓛 (((‵ (flft κs.0 qs.0) ⊛ ‵ ftrue) ⊛ ‵ (owns (types_at f.signature.params κs) a y.0.4)) ∷ (raw (fact 𝓤 Ok) ⊛ raw (fact 𝓤 Near)) ∷ []) ∵
    move ! (1 ∷ []) $ split ! $ heard ! Ok (λ ok. heard ! Near (λ near. let fm : n * 4096 < 2 ^ 64 = omega (arith, near) in
    split ! $ split ! $ move ! (2 ∷ []) $ fsplit ! $ fsplit3 ! $ move ! (3 ∷ []) $ fsplit ! $ lets ! $ fsplit ! $ keep ! (3 ∷ 4 ∷ 5 ∷ 0 ∷ []) $
    enter ! _ _ _ _ _ $ alloc_all ! (λ l. pass_all ! refl ((tt, tt), ((tt, record { fits = are.1.0.1 }), (typed, tt))) $ let En : Env 𝓤 𝓛.H = env code.function.locals l in
    blanks_open ! tt h rb ro (λ b o at_b.
    let p : Ptr = block_ptr b o in let at : ℕ = o + n * 4096 in
    use1 𝓛 (‵ (blank_own p 4096 n) ⊛ ‵ (blanks_own p 4096 (minus h.left n))) (blank_out 𝓛 p 4096 h.left n ok) $ split ! $
    -- [the room; the others; the word; the open borrow; obs; auth; what the array owns]
    first ! $ blocks ! $
    sets ! (of_opd ! (load ! (through ! refl (fld ! refl (stop !))) (look_in ! 2 (sub ! 0 refl (whole !))))) refl (tt, tt) $
    sets ! (bin ! (get ! refl) page_lit (record { fits = fm })) refl (tt, record { fits = fm }) $
    sets ! (is ! (bin ! (get ! refl) (get ! refl) tt) (ap (vptr b) (omega arith))) refl (tt, tt) $
    assigns_last ! (of_opd ! (get ! refl)) (through ! refl (stop !)) (init ! 0 refl typed) $
    exec ! 𝓣.C 𝓣.Λ En (after 1 code.function.body) (at_ret En Post) $
    sets ! (of_opd ! (load ! (through ! refl (fld ! refl (stop !))) (look_in ! 2 (sub ! 0 refl (whole !))))) refl (tt, tt) $
    sets ! (agg ! (and_then ! (get ! refl) (and_then ! page_lit (no_more !)))) refl (tt, (tt, (record { fits = lit< tt }, tt))) $
    move ! (0 ∷ 6 ∷ []) $ use2 𝓛 (‵ (part_at (Array u8 4096) full_share xs b at)) (part_in 𝓛 (Array u8 4096) refl full_share xs b at vy) $
    use1 𝓛 (‵ (fsep (feq ℕ (length xs) 4096) (bytes full_share xs b at))) (bytes_apart 𝓛 full_share 4096 xs b at) $ fsplit ! $ lets ! $
    feq_i ! ℕ (length xs) (length xs) refl $ fjoin ! $ use1 𝓛 (‵ (part_own p 4096 (n, xs))) (bytes_whole 𝓛 full_share (length xs) xs b at) $
    let new : Blanks = record { base = h.base; left = minus h.left n } in
    let out : Slots = record { base = h.base; size = 4096; held = (n, xs) ∷ [] } in
    move ! (1 ∷ 2 ∷ 3 ∷ 4 ∷ 5 ∷ []) $ blanks_close ! tt new b o rb ro at_b $
    returns ! (look_at ! 0 refl) $ free_all ! refl $
    -- [obs; the borrow; the token; the part]
    feq_i ! (List Val) (vptr rb ro ∷ []) (vptr rb ro ∷ []) refl $ fjoin3 ! $ nothing ! $ nothing ! $ fjoin ! $ nothing ! $ fjoin ! $ move ! (1 ∷ 0 ∷ []) $ fjoin ! $
    -- [the parameters; the token; the part]
    move ! (2 ∷ []) $ nothing ! $ move ! (1 ∷ 0 ∷ []) $ fjoin ! $ slots_made ! out b o at_b (lit< tt) $
    nothing ! $ move ! (3 ∷ 0 ∷ []) $ join ! $
    use0 𝓛 (raw (fact 𝓤 (new ≡ new))) (fact_i 𝓤 (new ≡ new) (emp 𝓤) refl) $ use0 𝓛 (raw (fact 𝓤 (out ≡ out))) (fact_i 𝓤 (out ≡ out) (emp 𝓤) refl) $ join ! $ move ! (1 ∷ 3 ∷ 2 ∷ 0 ∷ []) $
    by ! (leaves 𝓛 f.ended stayed c y (slots_val b o 4096) out (new, (tt, (tt, tt))) (tt, (tt, (tt, tt)))))))))
