-- `close` puts the parts together again, as the bytes of the vector whose words it has. Assumes `Logic`.
use Rattle.std.proofs.Common.{◌≡◌, ℕ, ◌+◌, ◌-◌, ◌*◌, ◌||◌, ◌^◌, ◌<◌, Bool, true, List, [], ◌∷◌, ◌++◌, length, refl, sym, ap, ◌∙◌, arith}
use base.Fraction.{full_share}
use mir.Syntax.{w8, ty_int, ty_array}
use mir.Val.{Val, vstruct, of_list}
use base.Logic.{SProp}
use base.Fml.{fsep, flt, froom}
use prog.Wp.{WpFn}
use contract.Monad.{fact}
use contract.Running.{tables}
use types.Kit.{‵, raw, ◌⊛◌, prop, ◌$◌, ◌∵◌, !, qed, by, move, keep, use1, use2, split, regoal, rewrite, fsplit, fjoin, fpick, feq_i, feq_l, flt_i, flt_l, drop as lets}
use types.Part.{whole, sub}
use types.Run.{stop, fld, of_opd, returns, enter}
use types.ByLocal.{alloc_all, pass_all, free_all, look_at, get, get_in, sets}
use denote.Exit.{yes}
use denote.RattleType.{owns}
use denote.Array.{Array}
use denote.Builtin.{u8}
use denote.Laws.{Is, shows}
use denote.Memory.{part_at}
use denote.RawPtr.{Ptr, block_ptr, in_block, ◌+ₚ◌}
use denote.RawPtr.Bytes.{bytes, bytes_whole}
use denote.RawPtr.Room.{past, past_bytes, room_glue}
use denote.Signature.{plain, types_at}
use denote.Steps.{nothing, heard, peeks}
use denote.Triple.Entry.{alive}
use denote.Triple.Walked.{Stays, stay_dropped, walk_of}
use Rattle.core.specs.Allocator.{block_with_items}
use Rattle.core.proofs.alloc.Calls.{Goes-blank}
use Rattle.std.proofs.raw_atomic.Walks.{proved_at, leaves}
use Rattle.std_alloc.specs.declared.vec.Vec.{Vec}
use Rattle.std_alloc.specs.Vec.Ownership.{has_block, owns_if}
use Rattle.std_alloc.proofs.VecSteps.Opens.{is_live}
use Rattle.std.specs.declared.alloc.Global.{Global}
use Rattle.std.specs.contracts.impls.GlobalAllocator.TheImpl.{ghosts}
use Rattle.hg_raw.specs.Frames.{numbers, is_in}
use Rattle.hg_raw.specs.Links.{Sized}
use Rattle.hg_raw.specs.Memory.{parts_own, blanks_own, lease_own}
use Rattle.hg_raw.specs.Shells.{ShellSeen, VecWords, words_own, shell_val}
use Rattle.hg_raw.specs.declared.slots.Slots.{Slots}
use Rattle.hg_raw.specs.declared.slots.Blanks.{Blanks}
use Rattle.hg_raw.specs.contracts.shell.Shell as shell
use Rattle.hg_raw.specs.contracts.shell.Shell.close as f
use Rattle.hg_raw.proofs.Blocks.{gathered, length-gathered, put_together, all_room}
use Rattle.hg_raw.proofs.Opens.{Sr, Br, slots_val, slots_had, blanks_val, blanks_had}
use Rattle.hg_raw.proofs.Vectors.{vec_val, vec_WT, vec_told}
use Rattle.hg_raw.proofs.shell.Shell.close.Statement.{statement}
use Rattle.hg_raw.proofs.shell.Shell.close.Code as code

abbrev stayed : Stays f.ended.signature.params f.ended.kept
stayed = (stay_dropped (plain (λ _. shell.the_row)) yes, (stay_dropped (plain (λ _. Sr)) yes, (stay_dropped (plain (λ _. Sr)) yes, (stay_dropped (plain (λ _. Br)) yes, tt))))

pub close_spec : {M : Type 1} → statement M
close_spec 𝓤 𝓛 𝓜 𝓡 wired =
    let c = f.clauses 𝓛 𝓜.mem 𝓡.returns in let W = walk_of 𝓛 f.ended stayed c in let 𝓣 = tables 𝓤 𝓛.H 𝓜 𝓡 𝓡.env in
    proved_at 𝓛 f.ended stayed c 𝓜 𝓡 (Goes-blank 𝓛 0 (plain (λ _. shell.the_row)) yes (λ κs x f. tt), (Goes-blank 𝓛 0 (plain (λ _. Sr)) yes (λ κs x f. tt), (Goes-blank 𝓛 0 (plain (λ _. Sr)) yes (λ κs x f. tt), (Goes-blank 𝓛 0 (plain (λ _. Br)) yes (λ κs x f. tt), tt))))
    f.Key.name code.function (code.unfolded 𝓤 𝓛.H 𝓜 𝓡 wired) (λ z are.
    let a = z.0.3 in let vss = z.0.4 in
    let d : ShellSeen = a.0 in let ws : Slots = a.1.0 in let ps : Slots = a.1.1.0 in let bs : Blanks = a.1.1.1.0 in let N : ℕ = d.frames in
    let Post : Val → SProp 𝓤 = W.post z in
    let A : Type 0 = ws.base ≡ d.base in let B : Type 0 = ws.size ≡ 8 in let C : Type 0 = Sized 8 ws.held in
    let D : Type 0 = ps.base ≡ d.base +ₚ (8 * N) in let E : Type 0 = ps.size ≡ 4096 in let F : Type 0 = Sized 4096 ps.held in
    let G : Type 0 = bs.base ≡ d.base +ₚ (8 * N) in
    let H : Type 0 = (n : ℕ) → n < N → is_in n (numbers ws.held) ≡ true in let I : Type 0 = (n : ℕ) → n < N → (is_in n bs.left || is_in n (numbers ps.held)) ≡ true in
    qed 𝓛 ((raw (alive 𝓛 f.signature z.0.0 z.0.1) ⊛ ‵ (owns (types_at f.signature.params z.0.0) a vss)) ∷ (raw (fact 𝓤 A) ⊛ (raw (fact 𝓤 B) ⊛ (raw (fact 𝓤 C) ⊛ (raw (fact 𝓤 D) ⊛ (raw (fact 𝓤 E) ⊛ (raw (fact 𝓤 F) ⊛ (raw (fact 𝓤 G) ⊛ (raw (fact 𝓤 H) ⊛ raw (fact 𝓤 I))))))))) ∷ []) ∵
    move ! (1 ∷ []) $ split ! $ heard ! A (λ words_base. split ! $ heard ! B (λ words_size. split ! $ heard ! C (λ words_sized. split ! $ heard ! D (λ pages_base. split ! $ heard ! E (λ pages_size. split ! $ heard ! F (λ pages_sized. split ! $ heard ! G (λ blanks_base. split ! $ heard ! H (λ all_words. heard ! I (λ all_pages.
    split ! $ move ! (1 ∷ []) $ fsplit ! $ fsplit ! $ lets ! $
    fpick ! (λ v. fpick ! (λ is_shell. fpick ! (λ w. fsplit ! $ feq_l ! (λ told₀. fsplit ! $
    let tok = ghosts.dealloc_token v.alloc in
    -- [the vector's words; the spare room and the right to free; the other parameters; alive]
    peeks ! VecWords (Is VecWords) (shows 𝓛 VecWords) (v.ptr, (v.len, (v.cap, (v.alloc, tt)))) (w ∷ []) (λ sh.
    let is_vec = vec_told v (w ∷ []) sh in
    rewrite ! 0 (λ (us : List Val). ‵ (words_own v us)) is_vec.0 refl $ move ! (1 ∷ []) $ fsplit ! $ flt_l ! (λ fit. move ! (2 ∷ []) $ fsplit ! $
    slots_had ! ws vss.1.0 (λ b o at_b is₁ f₁. move ! (1 ∷ []) $ fsplit ! $ slots_had ! ps vss.1.1.0 (λ b' o' at_b' is₂ f₂. move ! (1 ∷ []) $ fsplit ! $
    blanks_had ! bs vss.1.1.1.0 (λ b₃ o₃ at_b₃ is₃. move ! (1 ∷ []) $ lets ! $
    -- [the blank pages; the other pages; the words of the frames; the spare room and the right to free; the vector's words; alive]
    let q : Ptr = block_ptr b o in
    let at_v : v.ptr ≡ q = is_shell.0 ∙ sym words_base ∙ at_b in
    let at_pages : block_ptr b' o' ≡ block_ptr b (o + 8 * N) = sym at_b' ∙ pages_base ∙ ap (λ (r : Ptr). r +ₚ (8 * N)) (sym words_base ∙ at_b) in
    let at_blanks : block_ptr b₃ o₃ ≡ block_ptr b (o + 8 * N) = sym at_b₃ ∙ blanks_base ∙ ap (λ (r : Ptr). r +ₚ (8 * N)) (sym words_base ∙ at_b) in
    let xs : List ℕ = gathered ws.held N in
    let lens : v.len ≡ length xs = let e : 8 * N ≡ N * 8 = omega arith in is_shell.1 ∙ e ∙ sym (length-gathered 8 ws.held N words_sized all_words) in
    let len : v.len ≡ 8 * N = is_shell.1 in let roomy = is_shell.2 in
    let spare : N * 4096 + (v.cap - 4104 * N) ≡ v.cap - v.len = omega (arith, roomy, len) in
    let near : o + 8 * N ≡ o + v.len * 1 = omega (arith, len) in
    let behind : o + 4104 * N * 1 ≡ past (ty_int w8) (N * 4096) (o + 8 * N) = let e : o + 4104 * N * 1 ≡ o + 8 * N + N * 4096 = omega arith in e ∙ sym (past_bytes (N * 4096) (o + 8 * N)) in
    rewrite ! 0 (λ (r : Ptr). ‵ (blanks_own r 4096 bs.left)) at_blanks refl $ rewrite ! 1 (λ (r : Ptr × ℕ). ‵ (parts_own r.0 r.1 ps.held)) (λ i. (at_pages i, pages_size i)) refl $ rewrite ! 2 (λ (n : ℕ). ‵ (parts_own q n ws.held)) words_size refl $
    use2 𝓛 (‵ (froom (ty_array (ty_int w8) (N * 4096)) b (o + 8 * N))) (all_room 𝓛 b (o + 8 * N) 4096 N bs.left ps.held pages_sized all_pages) $
    -- [the room of the pages; the words of the frames; the spare room and the right to free; the vector's words; alive]
    move ! (2 ∷ []) $ rewrite ! 0 (λ (r : Ptr). ‵ (lease_own tok r (4104 * N) v.cap)) at_v refl $ fsplit ! $ rewrite ! 0 (λ (x : ℕ). ‵ (froom (ty_array (ty_int w8) (v.cap - 4104 * N)) b x)) behind refl $ move ! (2 ∷ 0 ∷ []) $
    use2 𝓛 (‵ (froom (ty_array (ty_int w8) (N * 4096 + (v.cap - 4104 * N))) b (o + 8 * N))) (room_glue 𝓛 (ty_int w8) (N * 4096) (v.cap - 4104 * N) b (o + 8 * N)) $
    rewrite ! 0 (λ (n : ℕ). ‵ (froom (ty_array (ty_int w8) n) b (o + 8 * N))) spare refl $ rewrite ! 0 (λ (x : ℕ). ‵ (froom (ty_array (ty_int w8) (v.cap - v.len)) b x)) near refl $ fjoin ! $ move ! (1 ∷ []) $
    use1 𝓛 (‵ (bytes full_share xs b o)) (put_together 𝓛 b o 8 N ws.held words_sized all_words) $
    feq_i ! ℕ (length xs) v.len (sym lens) $ fjoin ! $ use1 𝓛 (‵ (part_at (Array u8 v.len) full_share xs b o)) (bytes_whole 𝓛 full_share v.len xs b o) $ fjoin ! $
    -- [the block; the vector's words; alive]
    rewrite ! 0 (λ (t : Bool). ‵ (owns_if t (block_with_items tok u8 q v.len v.cap xs))) (sym (is_live v.cap is_shell.3)) refl $
    flt_i ! (v.cap * 1) (2 ^ 63) fit $ fjoin ! $
    rewrite ! 0 (λ (r : Ptr). ‵ (fsep (flt (v.cap * 1) (2 ^ 63)) (in_block r (owns_if (has_block v.cap) (block_with_items tok u8 r v.len v.cap xs))))) (sym at_v) refl $
    keep ! (1 ∷ 0 ∷ 2 ∷ []) $ rewrite ! 0 (λ (r : Ptr). ‵ (words_own v (vec_val r v.len v.cap ∷ []))) at_v refl $ fjoin ! $
    let new : Vec ℕ Global = record { ptr = v.ptr; len = v.len; cap = v.cap; alloc = v.alloc; items = xs; ok = (lens, v.ok.1); small = v.small } in
    let u : Val = vec_val q v.len v.cap in
    let told : vss.0 ≡ shell_val u ∷ [] = told₀ ∙ ap (λ (us : List Val). vstruct (of_list (us ++ [])) ∷ []) is_vec.0 ∙ ap (λ (r : Ptr). shell_val (vec_val r v.len v.cap) ∷ []) at_v in
    regoal ! (λ (us : List Val). prop (WpFn 𝓤 𝓛.H 𝓣.C 𝓣.Λ code.function us Post)) (λ i. told i ++ (is₁ i ++ (is₂ i ++ (is₃ i ++ [])))) refl $
    enter ! 𝓣.C 𝓣.Λ code.function (shell_val u ∷ slots_val b o ws.size ∷ slots_val b' o' ps.size ∷ blanks_val b₃ o₃ ∷ []) Post $
    alloc_all ! (λ l. pass_all ! refl ((tt, (vec_WT b o v.len v.cap is_vec.1 is_vec.2, tt)), ((tt, (tt, (record { fits = f₁ }, tt))), ((tt, (tt, (record { fits = f₂ }, tt))), ((tt, (tt, tt)), tt)))) $
    sets ! (of_opd ! (get_in ! (fld ! refl (stop !)) (sub ! 0 refl (whole !)))) refl (tt, vec_WT b o v.len v.cap is_vec.1 is_vec.2) $
    sets ! (of_opd ! (get ! refl)) refl (tt, vec_WT b o v.len v.cap is_vec.1 is_vec.2) $
    returns ! (look_at ! 0 refl) $ free_all ! refl $
    nothing ! $ nothing ! $ nothing ! $ fjoin ! $ nothing ! $ fjoin ! $ nothing ! $ fjoin ! $ nothing ! $ fjoin ! $ move ! (3 ∷ 0 ∷ 2 ∷ 1 ∷ []) $
    by ! (leaves 𝓛 f.ended stayed c z u new (tt, (tt, (tt, (tt, tt)))) (tt, (tt, (tt, (tt, tt)))))))))))))))))))))))))
