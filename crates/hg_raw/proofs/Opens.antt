-- What a `Slots` and a `Blanks` own is taken apart and made, and a `&mut` to one is opened and closed. Assumes `Logic`.
use mathlib.Core.Path.{◌≡◌, refl, sym, ap, ◌∙◌}
use Prim.Native.Nat.{ℕ, ◌<◌, ◌^◌}
use mathlib.Core.List.{List, [], ◌∷◌, ◌++◌}
use seplogic.Ra.Ura.{Ura}
use base.Fraction.{full_share}
use mir.Syntax.{w64, int_big}
use mir.Val.{Val, vint, vptr, vstruct, vcons, vnil, of_list, Fits}
use base.Logic.{id⊢, never, via, guard_i}
use prog.Wp.{Env}
use lib.Dec.{lit<}
use types.Run.{Opd}
use base.Stored.{Gv}
use base.Fml.{Lft, GName, Share, Fml, fsep, flft, fobs, fauth, fbor, fobor}
use types.Logic.{Logic}
use types.Kit.{Goal, Soaks, Step, step, Seq, Item, ‵, ◌$◌, move, drop, rewrite, fsplit, fjoin, fpick, fpack, feq_l, feq_i, flt_l, flt_i}
use types.SemTy.{Body}
use denote.RattleType.{RattleType, Valss}
use denote.Memory.{cell_at, mem}
use denote.RawPtr.{Ptr, block_ptr, ptr_val, in_a_block}
use denote.Steps.{opens, closes, nothing}
use denote.Struct.Struct.{Struct, within}
use denote.Struct.Owning.{Owning, shape}
use Rattle.hg_raw.specs.Memory.{parts_own, slots_own, blanks_own, room_own}
use Rattle.hg_raw.specs.declared.slots.Slots.{Slots}
use Rattle.hg_raw.specs.declared.slots.Blanks.{Blanks}
use Rattle.hg_raw.specs.contracts.slots.Slots as C
use Rattle.hg_raw.specs.contracts.slots.Blanks as D

-- the literal of a page's size
pub page_lit : {M : Type 1} {𝓤 : Ura M} {𝓛 : Logic 𝓤} {K : Type 0} {Γ : List (Item 𝓤)} {E : Env 𝓤 𝓛.H} → Opd K 𝓛 Γ E (int_big w64 4096) (vint w64 4096)
page_lit {𝓤 = 𝓤} = record { go = λ Kt h. via 𝓤 (Kt (vint w64 4096)) h (guard_i 𝓤 (Fits w64 4096) (Kt (vint w64 4096)) (record { fits = lit< tt })) }

abbrev pub words_val : Ptr → ℕ → Val
words_val p n = vstruct (vcons (ptr_val p) (vcons (vint w64 n) vnil))

abbrev pub slots_val : ℕ → ℕ → ℕ → Val
slots_val b o n = words_val (block_ptr b o) n

abbrev pub owning : Owning
owning = C.the_type

abbrev pub Sr : RattleType
Sr = C.the_row

-- the two data fields, as a plain struct
abbrev pub Words : RattleType
Words = Struct (shape owning)

-- the same of a `Blanks`, whose one data field is its base
abbrev pub blanks_val : ℕ → ℕ → Val
blanks_val b o = vstruct (vcons (vptr b o) vnil)

abbrev pub Br : RattleType
Br = D.the_row

abbrev pub Base : RattleType
Base = Struct (shape D.the_type)

abbrev pub rooms : Blanks → ℕ → ℕ → Fml
rooms d b o = blanks_own (block_ptr b o) 4096 d.left

abbrev pub parts : Slots → ℕ → ℕ → Fml
parts d b o = parts_own (block_ptr b o) d.size d.held

module _ {M : Type 1} {𝓤 : Ura M} {𝓛 : Logic 𝓤} {K : Type 0} {Γ : List (Item 𝓤)} {G : Goal 𝓤 𝓛.H} where
  pub slots_had : K → (d : Slots) (vs : List Val)
      → ((b o : ℕ) → d.base ≡ block_ptr b o → vs ≡ slots_val b o d.size ∷ [] → d.size < 2 ^ 64 → Seq K 𝓛 (‵ (parts d b o) ∷ Γ) G)
      → Seq K 𝓛 (‵ (Sr.own_val d vs) ∷ Γ) G
  slots_had t d vs k =
      fsplit t $ fpick t (λ vss. fsplit t $ feq_l t (λ all. fsplit t $ feq_l t (λ e₀. fsplit t $ fsplit t $ feq_l t (λ e₁. flt_l t (λ fn. drop t $
      in_a_block t d.base (λ p. slots_own p d.size d.held) (id⊢ 𝓤 (never 𝓤)) (λ b o e.
      k b o e (all ∙ ((λ i. vstruct (of_list (e₀ i ++ (e₁ i ++ []))) ∷ []) ∙ ap (λ (p : Ptr). words_val p d.size ∷ []) e)) fn))))))

  pub slots_made : K → (d : Slots) (b o : ℕ) → d.base ≡ block_ptr b o → d.size < 2 ^ 64
      → Step K 𝓛 (‵ (Sr.own_val d (slots_val b o d.size ∷ [])) ∷ Γ) G (‵ (parts d b o) ∷ Γ) G
  slots_made t d b o at fn = step (λ s.
      nothing t $ flt_i t d.size (2 ^ 64) fn $ feq_i t (List Val) (vint w64 d.size ∷ []) (vint w64 d.size ∷ []) refl $ fjoin t $ fjoin t $
      feq_i t (List Val) (vptr b o ∷ []) (vptr b o ∷ []) refl $ fjoin t $ feq_i t (List Val) (slots_val b o d.size ∷ []) (slots_val b o d.size ∷ []) refl $ fjoin t $
      fpack t (Valss (shape owning).fields) (within (shape owning) (block_ptr b o, (d.size, tt)) (slots_val b o d.size ∷ [])) (vptr b o ∷ [], (vint w64 d.size ∷ [], tt)) $ fjoin t $
      rewrite t 0 (λ (p : Ptr). ‵ (fsep (Words.own_val (p, (d.size, tt)) (slots_val b o d.size ∷ [])) (slots_own p d.size d.held))) (sym at) refl $ s)

module _ {M : Type 1} {𝓤 : Ura M} {𝓛 : Logic 𝓤} {K : Type 0} {Γ : List (Item 𝓤)} {G : Goal 𝓤 𝓛.H} where
  -- [the parts; the two words; the open borrow; obs; auth]
  pub slots_open : K → Soaks G → {κ : Lft} {q : Share} {γ : GName} (d : Slots) (rb ro : ℕ)
      → ((b o : ℕ) → d.base ≡ block_ptr b o → d.size < 2 ^ 64
      → Seq K 𝓛 (‵ (parts d b o) ∷ ‵ (cell_at full_share Sr.mir (slots_val b o d.size ∷ []) rb ro) ∷ ‵ (fobor κ q (Body (mem Sr) rb ro γ)) ∷ ‵ (fobs γ (Sr.coded.code d)) ∷ ‵ (fauth γ (Sr.coded.code d)) ∷ Γ) G)
      → Seq K 𝓛 (‵ (fobs γ (Sr.coded.code d)) ∷ ‵ (fbor κ (Body (mem Sr) rb ro γ)) ∷ ‵ (flft κ q) ∷ Γ) G
  slots_open t z d rb ro k =
      opens t z Sr {h = d} rb ro (λ vs. move t (1 ∷ []) $ slots_had t d vs (λ b o e is fn.
      rewrite t 1 (λ (ws : List Val). ‵ (cell_at full_share Sr.mir ws rb ro)) is refl $ k b o e fn))

  pub slots_close : K → Soaks G → {κ : Lft} {q : Share} {u v : Gv} {γ : GName} (d : Slots) (b o rb ro : ℕ) → d.base ≡ block_ptr b o → d.size < 2 ^ 64
      → Step K 𝓛 (‵ (fobs γ (Sr.coded.code d)) ∷ ‵ (fbor κ (Body (mem Sr) rb ro γ)) ∷ ‵ (flft κ q) ∷ Γ) G
      (‵ (parts d b o) ∷ ‵ (cell_at full_share Sr.mir (slots_val b o d.size ∷ []) rb ro) ∷ ‵ (fobor κ q (Body (mem Sr) rb ro γ)) ∷ ‵ (fobs γ u) ∷ ‵ (fauth γ v) ∷ Γ) G
  slots_close t z d b o rb ro at fn = step (λ s. slots_made t d b o at fn $ move t (1 ∷ 0 ∷ []) $ closes t z Sr d (slots_val b o d.size ∷ []) rb ro $ s)

module _ {M : Type 1} {𝓤 : Ura M} {𝓛 : Logic 𝓤} {K : Type 0} {Γ : List (Item 𝓤)} {G : Goal 𝓤 𝓛.H} where
  pub blanks_had : K → (d : Blanks) (vs : List Val)
      → ((b o : ℕ) → d.base ≡ block_ptr b o → vs ≡ blanks_val b o ∷ [] → Seq K 𝓛 (‵ (rooms d b o) ∷ Γ) G)
      → Seq K 𝓛 (‵ (Br.own_val d vs) ∷ Γ) G
  blanks_had t d vs k =
      fsplit t $ fpick t (λ vss. fsplit t $ feq_l t (λ all. fsplit t $ feq_l t (λ e₀. drop t $
      in_a_block t d.base (λ p. room_own p d.left) (id⊢ 𝓤 (never 𝓤)) (λ b o e.
      k b o e (all ∙ (λ i. vstruct (of_list (e₀ i ++ [])) ∷ []) ∙ ap (λ (p : Ptr). vstruct (vcons (ptr_val p) vnil) ∷ []) e)))))

  pub blanks_made : K → (d : Blanks) (b o : ℕ) → d.base ≡ block_ptr b o
      → Step K 𝓛 (‵ (Br.own_val d (blanks_val b o ∷ [])) ∷ Γ) G (‵ (rooms d b o) ∷ Γ) G
  blanks_made t d b o at = step (λ s.
      nothing t $ feq_i t (List Val) (vptr b o ∷ []) (vptr b o ∷ []) refl $ fjoin t $ feq_i t (List Val) (blanks_val b o ∷ []) (blanks_val b o ∷ []) refl $ fjoin t $
      fpack t (Valss (shape D.the_type).fields) (within (shape D.the_type) (block_ptr b o, tt) (blanks_val b o ∷ [])) (vptr b o ∷ [], tt) $ fjoin t $
      rewrite t 0 (λ (p : Ptr). ‵ (fsep (Base.own_val (p, tt) (blanks_val b o ∷ [])) (room_own p d.left))) (sym at) refl $ s)

module _ {M : Type 1} {𝓤 : Ura M} {𝓛 : Logic 𝓤} {K : Type 0} {Γ : List (Item 𝓤)} {G : Goal 𝓤 𝓛.H} where
  -- [the rooms; the one word; the open borrow; obs; auth]
  pub blanks_open : K → Soaks G → {κ : Lft} {q : Share} {γ : GName} (d : Blanks) (rb ro : ℕ)
      → ((b o : ℕ) → d.base ≡ block_ptr b o
      → Seq K 𝓛 (‵ (rooms d b o) ∷ ‵ (cell_at full_share Br.mir (blanks_val b o ∷ []) rb ro) ∷ ‵ (fobor κ q (Body (mem Br) rb ro γ)) ∷ ‵ (fobs γ (Br.coded.code d)) ∷ ‵ (fauth γ (Br.coded.code d)) ∷ Γ) G)
      → Seq K 𝓛 (‵ (fobs γ (Br.coded.code d)) ∷ ‵ (fbor κ (Body (mem Br) rb ro γ)) ∷ ‵ (flft κ q) ∷ Γ) G
  blanks_open t z d rb ro k =
      opens t z Br {h = d} rb ro (λ vs. move t (1 ∷ []) $ blanks_had t d vs (λ b o e is.
      rewrite t 1 (λ (ws : List Val). ‵ (cell_at full_share Br.mir ws rb ro)) is refl $ k b o e))

  pub blanks_close : K → Soaks G → {κ : Lft} {q : Share} {u v : Gv} {γ : GName} (d : Blanks) (b o rb ro : ℕ) → d.base ≡ block_ptr b o
      → Step K 𝓛 (‵ (fobs γ (Br.coded.code d)) ∷ ‵ (fbor κ (Body (mem Br) rb ro γ)) ∷ ‵ (flft κ q) ∷ Γ) G
      (‵ (rooms d b o) ∷ ‵ (cell_at full_share Br.mir (blanks_val b o ∷ []) rb ro) ∷ ‵ (fobor κ q (Body (mem Br) rb ro γ)) ∷ ‵ (fobs γ u) ∷ ‵ (fauth γ v) ∷ Γ) G
  blanks_close t z d b o rb ro at = step (λ s. blanks_made t d b o at $ move t (1 ∷ 0 ∷ []) $ closes t z Br d (blanks_val b o ∷ []) rb ro $ s)
