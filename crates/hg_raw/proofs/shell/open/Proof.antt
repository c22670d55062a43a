-- `open` cuts the bytes of a vector into parts, and keeps its words. Assumes `Logic`.
use Rattle.std.proofs.Common.{◌≡◌, ℕ, ◌+◌, ◌-◌, ◌*◌, ◌^◌, ◌<◌, ◌≤◌, Bool, List, [], ◌∷◌, ◌++◌, length, replicate, refl, sym, ap, ◌∙◌, arith, lit<, w64}
use base.Fraction.{full_share}
use lib.ListN.{length-replicate}
use mir.Syntax.{w8, ty_int, ty_array}
use mir.Val.{Val, vint, vptr}
use base.Logic.{SProp, emp, id⊢, never}
use base.Fml.{fsep, fex, feq, ftrue, froom}
use prog.Wp.{Env, WpFn}
use contract.Monad.{fact, fact_i}
use contract.Running.{tables}
use types.Kit.{‵, raw, ◌⊛◌, prop, at_ret, ◌$◌, ◌∵◌, !, qed, by, move, keep, use0, use1, use2, split, join, regoal, rewrite, fsplit, fjoin, feq_i, feq_l, flt_i, flt_l, fpack}
use types.Part.{agg}
use types.Run.{lit, of_opd, bin, no_more, and_then, first, blocks, exec, returns, enter}
use types.ByLocal.{alloc_all, pass_all, free_all, look_at, get, sets, sets_last, is, env}
use denote.Exit.{yes}
use denote.RattleType.{owns}
use denote.Builtin.{u8, usize}
use denote.RawPtr.{Ptr, RawPtr, block_ptr, ptr_val, in_block, in_a_block, ◌+ₚ◌}
use denote.RawPtr.Bytes.{bytes, bytes_apart}
use denote.RawPtr.Room.{past, past_bytes, room_cut}
use denote.Signature.{plain, types_at}
use denote.Steps.{nothing, heard}
use denote.Struct.Tuple.{Tuple}
use denote.Triple.Entry.{alive}
use denote.Triple.Walked.{Stays, stay_dropped, walk_of, Goes-dropped}
use Rattle.core.specs.Allocator.{block_with_items}
use Rattle.core.proofs.alloc.Calls.{Goes-blank}
use Rattle.core.proofs.slots.Bodies.{after}
use Rattle.std.proofs.raw_atomic.Walks.{proved_at, leaves}
use Rattle.std_alloc.specs.declared.vec.Vec.{Vec}
use Rattle.std_alloc.specs.Vec.Ownership.{has_block, owns_if}
use Rattle.std_alloc.proofs.Pairs.{pair_of, pair_val}
use Rattle.std_alloc.proofs.VecSteps.Opens.{is_live}
use Rattle.std.specs.declared.alloc.Global.{Global}
use Rattle.std.specs.contracts.impls.GlobalAllocator.TheImpl.{ghosts}
use Rattle.hg_raw.specs.Links.{zeros, down}
use Rattle.hg_raw.specs.Memory.{parts_own, blanks_own, lease_own}
use Rattle.hg_raw.specs.Shells.{ShellSeen, IsShell, words_own, shell_val, left_own}
use Rattle.hg_raw.specs.declared.slots.Slots.{Slots}
use Rattle.hg_raw.specs.declared.slots.Blanks.{Blanks}
use Rattle.hg_raw.specs.contracts.shell.Shell as shell
use Rattle.hg_raw.specs.contracts.shell.Shell.TheInside as inside
use denote.Laws.{Typed}
use Rattle.hg_raw.specs.contracts.shell.open as f
use Rattle.hg_raw.proofs.Blocks.{cut_up, cut_room}
use Rattle.hg_raw.proofs.Opens.{Sr, Br, slots_val, slots_made, blanks_val, blanks_made, page_lit}
use Rattle.hg_raw.proofs.Vectors.{Vr, vec_val, vec_WT, vec_told}
use Rattle.hg_raw.proofs.shell.open.Statement.{statement}
use Rattle.hg_raw.proofs.shell.open.Code as code

abbrev stayed : Stays f.ended.signature.params f.ended.kept
stayed = (stay_dropped (plain (λ _. Vr)) yes, (stay_dropped (plain (λ _. RawPtr)) yes, (stay_dropped (plain (λ _. usize)) yes, tt)))

pub open_spec : {M : Type 1} → statement M
open_spec 𝓤 𝓛 𝓜 𝓡 wired =
    let c = f.clauses 𝓛 𝓜.mem 𝓡.returns in let W = walk_of 𝓛 f.ended stayed c in let 𝓣 = tables 𝓤 𝓛.H 𝓜 𝓡 𝓡.env in
    proved_at 𝓛 f.ended stayed c 𝓜 𝓡 (Goes-blank 𝓛 0 (plain (λ _. Vr)) yes (λ κs x f. tt), (Goes-dropped 𝓛 0 (plain (λ _. RawPtr)) yes (λ κs x w. refl), (Goes-dropped 𝓛 0 (plain (λ _. usize)) yes (λ κs x w. refl), tt)))
    f.Key.name code.function (code.unfolded 𝓤 𝓛.H 𝓜 𝓡 wired) (λ z are.
    let a = z.0.3 in let vss = z.0.4 in
    let v : Vec ℕ Global = a.0 in let p : Ptr = a.1.0 in let N : ℕ = a.1.1.0 in
    let Post : Val → SProp 𝓤 = W.post z in
    let d : ShellSeen = record { base = p; frames = N } in
    let told₀ = vec_told v vss.0 are.0.0 in
    let is_vec : vss.0 ≡ vec_val v.ptr v.len v.cap ∷ [] = told₀.0 in let fl : v.len < 2 ^ 64 = told₀.1 in let fc : v.cap < 2 ^ 64 = told₀.2 in let fN : N < 2 ^ 64 = are.1.1.0.1 in
    let A : Type 0 = p ≡ v.ptr in let B : Type 0 = 0 < v.cap in let C : Type 0 = N < 2 ^ 32 in let D : Type 0 = v.items ≡ replicate (8 * N) 0 in let E : Type 0 = 4104 * N ≤ v.cap in
    let tok = ghosts.dealloc_token v.alloc in
    qed 𝓛 ((raw (alive 𝓛 f.signature z.0.0 z.0.1) ⊛ ‵ (owns (types_at f.signature.params z.0.0) a vss)) ∷ (raw (fact 𝓤 A) ⊛ (raw (fact 𝓤 B) ⊛ (raw (fact 𝓤 C) ⊛ (raw (fact 𝓤 D) ⊛ raw (fact 𝓤 E))))) ∷ []) ∵
    move ! (1 ∷ []) $ split ! $ heard ! A (λ same. split ! $ heard ! B (λ some. split ! $ heard ! C (λ few. split ! $ heard ! D (λ zero. heard ! E (λ roomy.
    split ! $ move ! (1 ∷ []) $ fsplit ! $ fsplit ! $ rewrite ! 0 (λ (us : List Val). ‵ (words_own v us)) is_vec refl $
    -- [the words; what the vector owns; the other parameters; alive]
    move ! (1 ∷ []) $ fsplit ! $ flt_l ! (λ fit. in_a_block ! v.ptr (λ q. in_block q (owns_if (has_block v.cap) (block_with_items tok u8 q v.len v.cap v.items))) (id⊢ 𝓤 (never 𝓤)) (λ b o at_b.
    let q : Ptr = block_ptr b o in let w : Val = vec_val q v.len v.cap in
    let told : vss.0 ≡ w ∷ [] = is_vec ∙ ap (λ (r : Ptr). vec_val r v.len v.cap ∷ []) at_b in
    let at_p : p ≡ q = same ∙ at_b in
    let turned : v.items ≡ replicate (N * 8) 0 = zero ∙ ap (λ (n : ℕ). replicate n 0) (omega arith) in
    rewrite ! 0 (λ (t : Bool). ‵ (owns_if t (block_with_items tok u8 q v.len v.cap v.items))) (is_live v.cap some) refl $ fsplit ! $
    use1 𝓛 (‵ (fsep (feq ℕ (length v.items) v.len) (bytes full_share v.items b o))) (bytes_apart 𝓛 full_share v.len v.items b o) $ fsplit ! $ feq_l ! (λ lens.
    let len : v.len ≡ 8 * N = sym lens ∙ ap (λ (xs : List ℕ). length xs) zero ∙ length-replicate (8 * N) 0 in
    let spare : v.cap - v.len ≡ N * 4096 + (v.cap - 4104 * N) = omega (arith, roomy, len) in
    let far : o + v.len * 1 ≡ o + 8 * N = omega (arith, len) in
    let behind : past (ty_int w8) (N * 4096) (o + 8 * N) ≡ o + 4104 * N * 1 = past_bytes (N * 4096) (o + 8 * N) ∙ omega arith in
    rewrite ! 0 (λ (xs : List ℕ). ‵ (bytes full_share xs b o)) turned refl $ use1 𝓛 (‵ (parts_own q 8 (zeros 8 N))) (cut_up 𝓛 b o 8 N) $ move ! (1 ∷ []) $ fsplit ! $
    rewrite ! 0 (λ (n : ℕ). ‵ (froom (ty_array (ty_int w8) n) b (o + v.len * 1))) spare refl $ rewrite ! 0 (λ (x : ℕ). ‵ (froom (ty_array (ty_int w8) (N * 4096 + (v.cap - 4104 * N))) b x)) far refl $
    use1 𝓛 (‵ (froom (ty_array (ty_int w8) (N * 4096)) b (o + 8 * N)) ⊛ ‵ (froom (ty_array (ty_int w8) (v.cap - 4104 * N)) b (past (ty_int w8) (N * 4096) (o + 8 * N)))) (room_cut 𝓛 (ty_int w8) (N * 4096) (v.cap - 4104 * N) b (o + 8 * N)) $ split ! $
    use1 𝓛 (‵ (blanks_own (block_ptr b (o + 8 * N)) 4096 (down N))) (cut_room 𝓛 b (o + 8 * N) 4096 N) $
    rewrite ! 1 (λ (x : ℕ). ‵ (froom (ty_array (ty_int w8) (v.cap - 4104 * N)) b x)) behind refl $ move ! (1 ∷ 2 ∷ []) $ fjoin ! $
    -- [the spare room and the right to free; the pages; the words of the frames; the vector's words; the other parameters; alive]
    keep ! (2 ∷ 1 ∷ 0 ∷ 3 ∷ 5 ∷ []) $ rewrite ! 3 (λ (r : Ptr). ‵ (words_own v (vec_val r v.len v.cap ∷ []))) at_b refl $
    let f4 : 8 * N < 2 ^ 64 = omega (arith, few) in
    regoal ! (λ (us : List Val). prop (WpFn 𝓤 𝓛.H 𝓣.C 𝓣.Λ code.function us Post)) (λ i. told i ++ ((are.1.0 ∙ ap (λ (r : Ptr). ptr_val r ∷ []) at_p) i ++ (are.1.1.0.0 i ++ []))) refl $
    enter ! 𝓣.C 𝓣.Λ code.function (w ∷ vptr b o ∷ vint w64 N ∷ []) Post $ alloc_all ! (λ l. pass_all ! refl ((tt, vec_WT b o v.len v.cap fl fc), ((tt, tt), ((tt, record { fits = fN }), tt))) $ let En : Env 𝓤 𝓛.H = env code.function.locals l in
    first ! $ blocks ! $
    sets ! (bin ! (lit ! tt) (get ! refl) (record { fits = f4 })) refl (tt, record { fits = f4 }) $
    sets_last ! (is ! (bin ! (get ! refl) (get ! refl) tt) (ap (vptr b) (omega arith))) refl (tt, tt) $
    exec ! 𝓣.C 𝓣.Λ En (after 1 code.function.body) (at_ret En Post) $
    sets ! (of_opd ! (get ! refl)) refl (tt, tt) $
    sets ! (agg ! (and_then ! (get ! refl) (and_then ! (lit ! tt) (no_more !)))) refl (tt, (tt, (record { fits = lit< tt }, tt))) $
    sets ! (agg ! (and_then ! (get ! refl) (and_then ! page_lit (no_more !)))) refl (tt, (tt, (record { fits = lit< tt }, tt))) $
    sets ! (agg ! (and_then ! (get ! refl) (no_more !))) refl (tt, (tt, tt)) $
    sets ! (of_opd ! (get ! refl)) refl (tt, vec_WT b o v.len v.cap fl fc) $
    sets ! (agg ! (and_then ! (get ! refl) (no_more !))) refl (tt, (vec_WT b o v.len v.cap fl fc, tt)) $
    sets ! (agg ! (and_then ! (get ! refl) (and_then ! (get ! refl) (no_more !)))) refl (tt, ((tt, tt), ((vec_WT b o v.len v.cap fl fc, tt), tt))) $
    sets ! (agg ! (and_then ! (get ! refl) (and_then ! (get ! refl) (no_more !)))) refl (tt, ((tt, (record { fits = lit< tt }, tt)), (((tt, tt), ((vec_WT b o v.len v.cap fl fc, tt), tt)), tt))) $
    sets ! (agg ! (and_then ! (get ! refl) (and_then ! (get ! refl) (no_more !)))) refl (tt, ((tt, (record { fits = lit< tt }, tt)), (((tt, (record { fits = lit< tt }, tt)), (((tt, tt), ((vec_WT b o v.len v.cap fl fc, tt), tt)), tt)), tt))) $
    returns ! (look_at ! 0 refl) $ free_all ! refl $
    let d₁ : Slots = record { base = p; size = 8; held = zeros 8 N } in let d₂ : Slots = record { base = p +ₚ (8 * N); size = 4096; held = [] } in let d₃ : Blanks = record { base = p +ₚ (8 * N); left = down N } in
    let u₁ : Val = slots_val b o 8 in let u₂ : Val = slots_val b (o + 8 * N) 4096 in let u₃ : Val = blanks_val b (o + 8 * N) in let sv : Val = shell_val w in
    let at_pages : p +ₚ (8 * N) ≡ block_ptr b (o + 8 * N) = ap (λ (r : Ptr). r +ₚ (8 * N)) at_p in
    slots_made ! d₁ b o at_p (lit< tt) $ move ! (1 ∷ []) $ blanks_made ! d₃ b (o + 8 * N) at_pages $ nothing ! $ slots_made ! d₂ b (o + 8 * N) at_pages (lit< tt) $
    -- [no page; the pages; the words of the frames; the spare room and the right to free; the vector's words; alive]
    move ! (3 ∷ []) $ rewrite ! 0 (λ (r : Ptr). ‵ (lease_own tok r (4104 * N) v.cap)) (sym at_b) refl $ flt_i ! (v.cap * 1) (2 ^ 63) fit $ fjoin ! $ move ! (4 ∷ 0 ∷ []) $ fjoin ! $
    feq_i ! (List Val) (sv ∷ []) (sv ∷ []) refl $ fjoin ! $ fpack ! Val (λ u. fsep (feq (List Val) (sv ∷ []) (shell_val u ∷ [])) (left_own d v u)) w $
    let is_shell : IsShell d v = (sym same, len, roomy, some) in
    fpack ! (IsShell d v) (λ _. fex Val (λ u. fsep (feq (List Val) (sv ∷ []) (shell_val u ∷ [])) (left_own d v u))) is_shell $
    fpack ! (Vec ℕ Global) (λ y. fex (IsShell d y) (λ _. fex Val (λ u. fsep (feq (List Val) (sv ∷ []) (shell_val u ∷ [])) (left_own d y u)))) v $
    nothing ! $ fpack ! (Typed inside.the_row.mir (sv ∷ [])) (λ _. ftrue) ((tt, (vec_WT b o v.len v.cap fl fc, tt)), tt) $ fjoin ! $
    -- [the shell; no page; the pages; the words of the frames; alive]
    move ! (2 ∷ 0 ∷ []) $ use2 𝓛 (‵ ((Tuple (Br ∷ shell.the_row ∷ [])).own_val (d₃, d) (pair_val u₃ sv ∷ []))) (pair_of 𝓛 Br shell.the_row d₃ d u₃ sv) $
    move ! (1 ∷ 0 ∷ []) $ use2 𝓛 (‵ ((Tuple (Sr ∷ Tuple (Br ∷ shell.the_row ∷ []) ∷ [])).own_val (d₂, (d₃, d)) (pair_val u₂ (pair_val u₃ sv) ∷ []))) (pair_of 𝓛 Sr (Tuple (Br ∷ shell.the_row ∷ [])) d₂ (d₃, d) u₂ (pair_val u₃ sv)) $
    move ! (1 ∷ 0 ∷ []) $ use2 𝓛 (‵ ((Tuple (Sr ∷ Tuple (Sr ∷ Tuple (Br ∷ shell.the_row ∷ []) ∷ []) ∷ [])).own_val (d₁, (d₂, (d₃, d))) (pair_val u₁ (pair_val u₂ (pair_val u₃ sv)) ∷ [])))
    (pair_of 𝓛 Sr (Tuple (Sr ∷ Tuple (Br ∷ shell.the_row ∷ []) ∷ [])) d₁ (d₂, (d₃, d)) u₁ (pair_val u₂ (pair_val u₃ sv))) $
    use0 𝓛 (raw (fact 𝓤 (d ≡ d))) (fact_i 𝓤 (d ≡ d) (emp 𝓤) refl) $ use0 𝓛 (raw (fact 𝓤 (d₃ ≡ d₃))) (fact_i 𝓤 (d₃ ≡ d₃) (emp 𝓤) refl) $ join ! $ use0 𝓛 (raw (fact 𝓤 (d₂ ≡ d₂))) (fact_i 𝓤 (d₂ ≡ d₂) (emp 𝓤) refl) $ join ! $
    use0 𝓛 (raw (fact 𝓤 (d₁ ≡ d₁))) (fact_i 𝓤 (d₁ ≡ d₁) (emp 𝓤) refl) $ join ! $
    nothing ! $ nothing ! $ fjoin ! $ nothing ! $ fjoin ! $ nothing ! $ fjoin ! $ move ! (3 ∷ 0 ∷ 2 ∷ 1 ∷ []) $
    by ! (leaves 𝓛 f.ended stayed c z (pair_val u₁ (pair_val u₂ (pair_val u₃ sv))) (d₁, (d₂, (d₃, d))) (tt, (tt, (tt, tt))) (tt, (tt, (tt, tt))))))))))))))
