-- `get_mut` lends the bytes of a record, and the page follows them. Assumes `Logic`.
use Rattle.std.proofs.Common.{◌≡◌, ℕ, zero, suc, ◌+◌, ◌-◌, ◌^◌, ◌<◌, ◌≤◌, List, [], ◌∷◌, ◌++◌, length, take, drop, take-append-drop, length-drop, refl, sym, ap, ◌∙◌, arith, lit<, eqb→eq, T, not, eqb, w16, w64, MutBor}
use mir.Syntax.{named}
use mir.Val.{Val, vint, vstruct, of_list}
use base.Logic.{SProp, snd∗, id⊢}
use base.Fml.{Lft, GName, ftrue, flft, fobs, fres}
use base.Stored.{coded_list}
use prog.Wp.{Env}
use types.Match.{live}
use contract.Monad.{fact, fact_use}
use contract.Running.{tables}
use types.Kit.{‵, ◌⊛◌, raw, some, later, at_ret, ◌$◌, ◌∵◌, !, qed, move, keep, drop as lets, split, split3, join, fsplit, fsplit3, fjoin, feq_l, fpick, use0, use1, use2, await, pick, rewrite, suffices, frame, done}
use types.Part.{whole, sub, agg}
use types.Run.{stop, fld, hop, from, addr, bin, lit, of_opd, and_then, no_more, first, branches, skips, exec, returns, returns_within, enter}
use types.ByLocal.{alloc_all, pass_all, free_all, look_at, look_in_at, get, get_in, through, sets, lands_as, env}
use denote.Array.{Array}
use denote.Builtin.{u8, u16, usize}
use denote.Exit.{yes, no}
use denote.Follow.{follows, follows_by}
use denote.FollowSlice.{heres_id}
use denote.Laws.{shows}
use denote.Plain.{uint_vals, uint_Tells}
use denote.RattleType.{RattleType, Valss, flat}
use denote.Signature.{plain, mut_slice_of}
use denote.Slice.{MutSlice, Room, slice_val, mut_slice_vals, mut_slice_Tells}
use denote.Steps.{nothing, peeks, facts, only, heard}
use denote.Struct.Tuple.{Tuple}
use denote.Triple.Call.{calls_at}
use denote.Triple.Clauses.{lasts}
use denote.Triple.Entry.{on_entry}
use denote.Triple.Spec.{triple_of}
use denote.Triple.Table.{framed}
use denote.Triple.Walked.{Stays, stay_dropped, walk_of, ends_at, Goes-dropped, Goes-spent_slice}
use borrow.Table.Elements.{at, at_mul, length-take-le}
use borrow.Rule.Slice.PartMut.{put_mid}
use Rattle.core.proofs.mem.Facts.{says_two}
use Rattle.core.proofs.option.Made.{Some-of, none_of}
use Rattle.core.specs.contracts.option.Option as OP
use Rattle.core.specs.declared.option.Option.TheVariants.{None, Some}
use Rattle.std.proofs.raw_atomic.Walks.{proved}
use Rattle.hg_slot.specs.Slotted.{IsSlotted, IsPlace, IsRecord}
use Rattle.hg_slot.proofs.Lending.{part_lent, lends_part}
use Rattle.hg_slot.proofs.Replacing.{replaced}
use Rattle.hg_slot.specs.contracts.slot.get_mut as f
use Rattle.hg_slot.specs.contracts.find.located as g
use Rattle.hg_slot.proofs.find.located.Met.{met}
use Rattle.hg_slot.proofs.slot.get_mut.Statement.{statement}
use Rattle.hg_slot.proofs.slot.get_mut.Code as code

abbrev stayed : Stays f.ended.signature.params f.ended.kept
stayed = (stay_dropped (mut_slice_of (0 ∷ []) tt (plain (λ _. u8))) no, (stay_dropped (plain (λ _. u16)) yes, tt))

abbrev Lent : Lft → RattleType
Lent κ = MutSlice (named 0) κ u8

abbrev Three : Lft → List RattleType
Three κ = Lent κ ∷ usize ∷ usize ∷ []

not_zero : (m : ℕ) → T (not (eqb m 0)) → 0 < m
not_zero zero t = absurd t
not_zero (suc m) t = omega arith

pub get_mut_spec : {M : Type 1} → statement M
unfolding follows_by
get_mut_spec 𝓤 𝓛 𝓜 𝓡 wired =
    let c = f.clauses 𝓛 𝓜.mem 𝓡.returns in let W = walk_of 𝓛 f.ended stayed c in let 𝓣 = tables 𝓤 𝓛.H 𝓜 𝓡 𝓡.env in
    proved 𝓛 f.ended stayed c 𝓜 𝓡 (Goes-spent_slice 𝓛 1 (0 ∷ []) tt (plain (λ _. u8)), (Goes-dropped 𝓛 1 (plain (λ _. u16)) yes (λ κs x w. refl), tt))
    f.Key.name code.function (code.unfolded 𝓤 𝓛.H 𝓜 𝓡 wired)
    (λ κs. (mut_slice_vals, (uint_vals w16, tt))) (λ κs. (mut_slice_Tells (named 0) κs.0 u8, (uint_Tells w16, tt)))
    (λ κs qs bounds a _ are.
    let κ = κs.0 in let q = qs.0 in let γ : GName = a.0.ghost_name in let xs : List ℕ = a.0.now in let slot : ℕ = a.1.0 in
    let G = triple_of 𝓛 g.signature (g.spec 𝓛 𝓜.mem 𝓡.returns) in
    let z : G.Ghost = ((κs, qs, bounds, a, (mut_slice_vals a.0, (uint_vals w16 slot, tt))), tt) in
    let y : W.Ghost = ((κs, qs, bounds, a, (mut_slice_vals a.0, (uint_vals w16 slot, tt))), tt) in
    let Post : Val → SProp 𝓤 = W.post y in
    let count : length xs < 2 ^ 64 = are.0.0.1.0 in
    fact_use 𝓤 (IsSlotted xs) (snd∗ 𝓤 (on_entry 𝓛 f.signature κs qs a y.0.4) (fact 𝓤 (IsSlotted xs))) (λ slotted.
    qed 𝓛 (raw (G.pre z) ∷ []) ∵ enter ! _ _ _ _ _ $
    alloc_all ! (λ l. pass_all ! refl ((tt, (tt, (record { fits = count }, tt))), ((tt, record { fits = are.1.0.1 }), tt)) $
    let En : Env 𝓤 𝓛.H = env code.function.locals l in
    sets ! (addr ! (from ! (fld ! refl (hop ! (look_in_at ! 1 (sub ! 0 refl (whole !))) (stop !))))) refl (tt, tt) $
    sets ! (agg ! (and_then ! (get ! refl) (and_then ! (get_in ! (fld ! refl (stop !)) (sub ! 1 refl (whole !))) (no_more !)))) refl (tt, (tt, (record { fits = count }, tt))) $
    calls_at ! (framed 𝓤 𝓛.H 𝓜 (tables 𝓤 𝓛.H 𝓜 𝓡 𝓡.env)) G (met 𝓤 𝓛 𝓜 𝓡 (code.calls-hg_slot::find::located 𝓡.env wired)) z
    (and_then ! (get ! refl) (and_then ! (get ! refl) (no_more !))) (λ v.
    use1 𝓛 (later (some (λ (r : MutBor (List ℕ) × ℕ × ℕ). ((‵ (flft κ q) ⊛ ‵ ftrue) ⊛ ‵ ((Tuple (Three κ)).own_val r (v ∷ []))) ⊛
    some (λ (ws : Unit {0} × (Unit {0} × Unit {0})). ‵ (lasts g.ended κs a ws) ⊛ (raw (fact 𝓤 (r.0.ghost_name ≡ γ)) ⊛ (raw (fact 𝓤 (r.0.now ≡ xs)) ⊛ raw (fact 𝓤 (IsPlace xs slot r.1 r.2)))))))) (id⊢ 𝓤 _) $
    await ! tt $ pick ! (λ r. split ! $ split ! $ split ! $ move ! (1 ∷ []) $ lets ! $ move ! (2 ∷ []) $
    pick ! (λ ws. split ! $ lets ! $ split ! $ heard ! _ (λ same. split ! $ heard ! _ (λ kept. heard ! _ (λ place.
    -- [the token; the result]
    move ! (1 ∷ []) $ fpick ! (λ (vss : Valss (Three κ)). fsplit ! $ feq_l ! (λ is. fsplit ! $
    peeks ! (MutSlice (named 0) κ u8) _ (shows 𝓛 (MutSlice (named 0) κ u8)) r.0 vss.0 (λ p₀. move ! (1 ∷ []) $ fsplit ! $
    facts ! usize _ (shows 𝓛 usize) r.1 vss.1.0 (λ p₁. fsplit ! $ facts ! usize _ (shows 𝓛 usize) r.2 vss.1.1.0 (λ p₂. lets ! $
    let b : ℕ = r.0.ref_ptr.0 in let o : ℕ = r.0.ref_ptr.1 in let m : ℕ = r.1 in let e : ℕ = r.2 in
    let me : MutBor (List ℕ) = record { ref_ptr = (b, o); ghost_name = γ; now = xs } in
    let is_me : r.0 ≡ me = λ i. record { ref_ptr = (b, o); ghost_name = same i; now = kept i } in
    let all : Valss (Three κ) → List Val = λ vs. vstruct (of_list (flat (Three κ) vs)) ∷ [] in
    let first_vals : vss ≡ (mut_slice_vals r.0, (vint w64 m ∷ [], (vint w64 e ∷ [], tt))) = λ i. (p₀.0.0 i, (p₁.0 i, (p₂.0 i, tt))) in
    rewrite ! 0 (λ (vs : List Val). ‵ ((MutSlice (named 0) κ u8).own_val r.0 vs)) p₀.0.0 refl $
    rewrite ! 0 (λ (x : MutBor (List ℕ)). ‵ ((MutSlice (named 0) κ u8).own_val x (mut_slice_vals x))) is_me refl $
    lands_as ! (ap only (is ∙ ap all first_vals ∙ ap (λ (x : MutBor (List ℕ)). all (mut_slice_vals x, (vint w64 m ∷ [], (vint w64 e ∷ [], tt)))) is_me)) refl (tt, ((tt, (record { fits = count }, tt)), (record { fits = p₁.1 }, (record { fits = p₂.1 }, tt)))) $
    sets ! (of_opd ! (get_in ! (fld ! refl (stop !)) (sub ! 0 refl (whole !)))) refl (tt, (tt, (record { fits = count }, tt))) $
    sets ! (of_opd ! (get_in ! (fld ! refl (stop !)) (sub ! 1 refl (whole !)))) refl (tt, record { fits = p₁.1 }) $
    sets ! (of_opd ! (get_in ! (fld ! refl (stop !)) (sub ! 2 refl (whole !)))) refl (tt, record { fits = p₂.1 }) $
    sets ! (bin ! (get ! refl) (lit ! tt) tt) refl (tt, tt) $
    first ! $ branches ! (get ! refl)
    (λ t. sets ! (agg ! (and_then ! (lit ! tt) (no_more !))) refl (tt, (record { fits = lit< tt }, tt)) $
    returns_within ! Post refl (look_at ! 0 refl) $ free_all ! refl $ fsplit3 ! $ keep ! (1 ∷ 3 ∷ []) $
    rewrite ! 0 (λ (zs : List ℕ). ‵ (fobs γ ((coded_list u8.coded).code zs))) (heres_id u8 xs) refl $
    use1 𝓛 (‵ (fres γ ((Array u8 0).coded.code xs))) (𝓛.names.obs-res γ ((Array u8 0).coded.code xs)) $ move ! (1 ∷ []) $
    use0 𝓛 (‵ ((OP.the_row (Lent κ)).own_val None (live 0 (of_list []) ∷ []))) (none_of 𝓛 (Lent κ)) $
    suffices ! _ (ends_at 𝓛 f.ended stayed c y (live 0 (of_list [])) None (tt, (tt, tt)) (tt, (tt, tt))) $
    nothing ! $ nothing ! $ fjoin ! $ nothing ! $ fjoin ! $ join ! $ nothing ! $ move ! (2 ∷ 0 ∷ []) $ join ! $ join ! $ frame ! $
    says_two ! (place.none (eqb→eq m 0 t), tt) $ done !)
    (λ t. skips ! $ exec ! 𝓣.C 𝓣.Λ En code.Mir.t-9 (at_ret En Post) $
    let record_there : IsRecord xs slot m (e - m) = place.some (not_zero m t) in
    let k : ℕ = e - m in let p : ℕ = m + o in let lo : m ≤ e = place.order in let fk : k < 2 ^ 64 = omega (arith, p₂.1) in
    let inside : m + k ≤ length xs = omega (arith, record_there.inside, slotted.whole) in
    let front : List ℕ = take m xs in let mid : List ℕ = take k (drop m xs) in let back : List ℕ = drop k (drop m xs) in
    let lf : length front ≡ m = length-take-le m xs (omega arith) in
    let ld : length (drop m xs) ≡ length xs - m = length-drop m xs in
    let lm : length mid ≡ k = length-take-le k (drop m xs) (omega arith) in
    let on : at o 1 (length front) ≡ p = at_mul o 1 (length front) ∙ omega arith in
    let cut : xs ≡ front ++ (mid ++ back) = sym (take-append-drop m xs) ∙ ap (λ (l : List ℕ). front ++ l) (sym (take-append-drop k (drop m xs))) in
    let rm : Room u8 (length mid) = (omega arith, omega (arith, slotted.whole)) in
    let Part : GName → MutBor (List ℕ) = λ δ. record { ref_ptr = (b, p); ghost_name = δ; now = mid } in
    let v' : Val = slice_val (b, p) k in
    sets ! (bin ! (get_in ! (fld ! refl (stop !)) (sub ! 0 refl (whole !))) (get ! refl) tt) refl (tt, tt) $
    sets ! (bin ! (get ! refl) (get ! refl) lo) refl (tt, record { fits = fk }) $
    sets ! (addr ! (through ! refl (stop !))) refl (tt, tt) $
    sets ! (agg ! (and_then ! (get ! refl) (and_then ! (get ! refl) (no_more !)))) refl (tt, (tt, (record { fits = fk }, tt))) $
    sets ! (agg ! (and_then ! (lit ! tt) (and_then ! (get ! refl) (no_more !)))) refl (tt, (record { fits = lit< tt }, ((tt, (record { fits = fk }, tt)), tt))) $
    use2 𝓛 (later (some (part_lent 𝓛 (named 0) κ q b o γ u8 xs front mid back cut p on rm))) (lends_part 𝓛 (named 0) κ q b o γ u8 xs front mid back cut p on rm (mut_slice_vals me)) $ await ! tt $ pick ! (λ δ.
    returns ! (look_at ! 0 refl) $ free_all ! refl $ keep ! (0 ∷ []) $ split3 ! $
    rewrite ! 0 (λ (n : ℕ). ‵ ((Lent κ).own_val (Part δ) (slice_val (b, p) n ∷ []))) lm refl $
    use1 𝓛 (‵ ((OP.the_row (Lent κ)).own_val (Some (Part δ)) (live 1 (of_list (v' ∷ [])) ∷ []))) (Some-of 𝓛 (Lent κ) (Part δ) v') $ move ! (2 ∷ []) $
    rewrite ! 0 (λ (F : List ℕ → List ℕ). ‵ (follows (Array u8 0) (Array u8 0) γ δ F)) (λ i ws. put_mid (record_there.from_is i) (record_there.size_is i) xs ws) refl $ move ! (1 ∷ 2 ∷ 0 ∷ []) $
    suffices ! _ (ends_at 𝓛 f.ended stayed c y (live 1 (of_list (v' ∷ []))) (Some (Part δ)) (tt, (tt, tt)) (tt, (tt, tt))) $
    nothing ! $ nothing ! $ fjoin ! $ nothing ! $ fjoin ! $ join ! $ nothing ! $ move ! (2 ∷ 0 ∷ []) $ join ! $ join ! $ frame ! $
    says_two ! (record_there.shown, λ w h. replaced xs w slot m k slotted record_there (h ∙ lm)) $ done !))))))))))))))))
