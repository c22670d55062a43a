-- The machine value of a vector of bytes, which its words tell.
use Rattle.std.proofs.Common.{◌≡◌, ℕ, ◌^◌, ◌<◌, List, [], ◌∷◌, ◌++◌, ◌∙◌, w64}
use mir.Val.{Val, vint, vstruct, vcons, vnil, of_list, WT}
use denote.RattleType.{RattleType}
use denote.Builtin.{u8}
use denote.RawPtr.{Ptr, block_ptr, ptr_val}
use denote.Shadow.{shadow}
use Rattle.std_alloc.specs.declared.vec.Vec.{Vec}
use Rattle.std_alloc.specs.contracts.vec.Vec as vec
use Rattle.std_heap.proofs.Handle.{heap_val, heap_Tells}
use Rattle.std.specs.declared.alloc.Global.{Global}
use Rattle.std.specs.contracts.alloc.Global as global
use Rattle.std.specs.contracts.impls.GlobalAllocator.TheImpl.{ghosts}
use Rattle.hg_raw.specs.Shells.{words_own}

abbrev pub Vr : RattleType
Vr = vec.the_row u8 global.the_row ghosts

abbrev pub vec_val : Ptr → ℕ → ℕ → Val
vec_val p n c = vstruct (vcons (ptr_val p) (vcons (vint w64 n) (vcons (vint w64 c) (vcons heap_val vnil))))

pub vec_WT : (b o n c : ℕ) → n < 2 ^ 64 → c < 2 ^ 64 → WT (vec_val (block_ptr b o) n c)
vec_WT b o n c fn fc = (tt, (record { fits = fn }, (record { fits = fc }, (((tt, tt), tt), tt))))

pub vec_told : (v : Vec ℕ Global) (vs : List Val) → shadow (words_own v vs) → (vs ≡ vec_val v.ptr v.len v.cap ∷ []) × (v.len < 2 ^ 64) × (v.cap < 2 ^ 64)
vec_told v vs s =
    (s.1.0 ∙ (λ i. vstruct (of_list (s.1.1.0 i ++ (s.1.1.1.0.0 i ++ (s.1.1.1.1.0.0 i ++ (heap_Tells v.alloc s.0.1.1.1.0 s.1.1.1.1.1.0 i ++ []))))) ∷ []), s.1.1.1.0.1, s.1.1.1.1.0.1)
