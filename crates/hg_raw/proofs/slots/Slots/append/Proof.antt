-- `append` joins the other's parts to its own, and they are apart since both are owned. Assumes `Logic`.
use Rattle.std.proofs.Common.{◌≡◌, ℕ, ◌<◌, true, List, [], ◌∷◌, ◌++◌, refl, sym, ◌∙◌}
use mir.Val.{Val, vunit, vptr}
use base.Logic.{SProp, emp, id⊢}
use base.Fml.{ftrue, flft}
use prog.Wp.{WpFn}
use contract.Monad.{fact, fact_i}
use contract.Running.{tables}
use types.Kit.{‵, raw, ◌⊛◌, prop, ◌$◌, ◌∵◌, !, qed, by, move, keep, use0, use1, use2, split, join, regoal, rewrite, fsplit, fsplit3, fjoin, fjoin3, feq_i}
use types.Run.{of_opd, unit_lit, returns, enter}
use types.ByLocal.{alloc_all, pass_all, free_all, look_at, sets}
use denote.Exit.{yes}
use denote.RattleType.{owns}
use denote.RawPtr.{Ptr, block_ptr}
use denote.Signature.{plain, types_at}
use denote.Steps.{nothing, heard}
use denote.Triple.Entry.{alive}
use denote.Triple.Walked.{Stays, stay_dropped, stay_ref, walk_of, Goes-ref}
use Rattle.core.proofs.alloc.Calls.{Goes-blank}
use Rattle.std.proofs.raw_atomic.Walks.{proved_at, leaves}
use Rattle.hg_raw.specs.Frames.{numbers, apart}
use Rattle.hg_raw.specs.Links.{Sized}
use Rattle.hg_raw.specs.Memory.{parts_own}
use Rattle.hg_raw.specs.declared.slots.Slots.{Slots}
use Rattle.hg_raw.specs.contracts.slots.Slots.append as f
use Rattle.hg_raw.proofs.Blocks.{parts_apart}
use Rattle.hg_raw.proofs.Facts.{learns}
use Rattle.hg_raw.proofs.Opens.{Sr, slots_val, slots_had, slots_open, slots_close}
use Rattle.hg_raw.proofs.Parts.{parts_joined}
use Rattle.hg_raw.proofs.slots.Slots.append.Statement.{statement}
use Rattle.hg_raw.proofs.slots.Slots.append.Code as code

abbrev stayed : Stays f.ended.signature.params f.ended.kept
stayed = (stay_ref (0 ∷ []) tt (plain (λ _. Sr)), (stay_dropped (plain (λ _. Sr)) yes, tt))

pub append_spec : {M : Type 1} → statement M
append_spec 𝓤 𝓛 𝓜 𝓡 wired =
    let c = f.clauses 𝓛 𝓜.mem 𝓡.returns in let W = walk_of 𝓛 f.ended stayed c in let 𝓣 = tables 𝓤 𝓛.H 𝓜 𝓡 𝓡.env in
    proved_at 𝓛 f.ended stayed c 𝓜 𝓡 (Goes-ref 𝓛 1 0 tt (plain (λ _. Sr)), (Goes-blank 𝓛 1 (plain (λ _. Sr)) yes (λ κs x f. tt), tt))
    f.Key.name code.function (code.unfolded 𝓤 𝓛.H 𝓜 𝓡 wired) (λ z are.
    let a = z.0.3 in let vss = z.0.4 in
    let rb : ℕ = a.0.ref_ptr.0 in let ro : ℕ = a.0.ref_ptr.1 in let h : Slots = a.0.now in let d : Slots = a.1.0 in
    let Post : Val → SProp 𝓤 = W.post z in
    let A : Type 0 = d.base ≡ h.base in let B : Type 0 = d.size ≡ h.size in let C : Type 0 = 0 < h.size in let D : Type 0 = Sized h.size h.held in let E : Type 0 = Sized h.size d.held in
    qed 𝓛 ((raw (alive 𝓛 f.signature z.0.0 z.0.1) ⊛ ‵ (owns (types_at f.signature.params z.0.0) a vss)) ∷ (raw (fact 𝓤 A) ⊛ (raw (fact 𝓤 B) ⊛ (raw (fact 𝓤 C) ⊛ (raw (fact 𝓤 D) ⊛ raw (fact 𝓤 E))))) ∷ []) ∵
    move ! (1 ∷ []) $ split ! $ heard ! A (λ same_base. split ! $ heard ! B (λ same_size. split ! $ heard ! C (λ some. split ! $ heard ! D (λ sized. heard ! E (λ other_sized.
    split ! $ use1 𝓛 (‵ (flft z.0.0.0 z.0.1.0) ⊛ ‵ ftrue) (id⊢ 𝓤 _) $ split ! $ move ! (2 ∷ []) $ fsplit ! $ move ! (1 ∷ []) $ fsplit ! $
    slots_had ! d vss.1.0 (λ b' o' at_b' is fl'. move ! (2 ∷ []) $ fsplit3 ! $ keep ! (1 ∷ 2 ∷ 5 ∷ 3 ∷ []) $
    regoal ! (λ (us : List Val). prop (WpFn 𝓤 𝓛.H 𝓣.C 𝓣.Λ code.function us Post)) (λ i. are.0.0 i ++ (is i ++ [])) refl $
    enter ! 𝓣.C 𝓣.Λ code.function (vptr rb ro ∷ slots_val b' o' d.size ∷ []) Post $ alloc_all ! (λ l. pass_all ! refl ((tt, tt), ((tt, (tt, (record { fits = fl' }, tt))), tt)) $
    slots_open ! tt h rb ro (λ b o at_b fl.
    let p : Ptr = block_ptr b o in
    let same_place : block_ptr b' o' ≡ p = sym at_b' ∙ same_base ∙ at_b in
    -- [its parts; the two words; the open borrow; obs; auth; the other's parts]
    move ! (0 ∷ 5 ∷ []) $ rewrite ! 1 (λ (w : Ptr × ℕ). ‵ (parts_own w.0 w.1 d.held)) (λ i. (same_place i, same_size i)) refl $
    learns ! 2 (apart (numbers h.held) (numbers d.held) ≡ true) (parts_apart 𝓛 b o h.size 𝓜 h.held d.held some sized other_sized) (λ far.
    use2 𝓛 (‵ (parts_own p h.size (h.held ++ d.held))) (parts_joined 𝓛 p h.size h.held d.held) $
    let new : Slots = record { base = h.base; size = h.size; held = h.held ++ d.held } in
    sets ! (of_opd ! (unit_lit !)) refl (tt, tt) $
    slots_close ! tt new b o rb ro at_b fl $ returns ! (look_at ! 0 refl) $ free_all ! refl $
    -- [obs; the borrow; the token]
    feq_i ! (List Val) vss.0 (vptr rb ro ∷ []) are.0.0 $ fjoin3 ! $ nothing ! $ nothing ! $ fjoin ! $ move ! (1 ∷ 0 ∷ []) $ fjoin ! $ nothing ! $ move ! (2 ∷ 0 ∷ []) $ join ! $
    feq_i ! (List Val) (vunit ∷ []) (vunit ∷ []) refl $
    use0 𝓛 (raw (fact 𝓤 (apart (numbers h.held) (numbers d.held) ≡ true))) (fact_i 𝓤 (apart (numbers h.held) (numbers d.held) ≡ true) (emp 𝓤) far) $
    use0 𝓛 (raw (fact 𝓤 (new ≡ new))) (fact_i 𝓤 (new ≡ new) (emp 𝓤) refl) $ join ! $ move ! (2 ∷ 3 ∷ 1 ∷ 0 ∷ []) $
    by ! (leaves 𝓛 f.ended stayed c z vunit tt (new, (tt, tt)) (tt, (tt, tt)))))))))))))
