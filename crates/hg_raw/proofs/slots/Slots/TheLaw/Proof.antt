-- A `&` to a `Slots` is made where one to the bytes of each of its parts is. Assumes `Logic`.
use mathlib.Core.List.{List, [], ◌∷◌}
use lib.ListN.{length}
use Prim.Native.Nat.{ℕ, ◌*◌}
use seplogic.Ra.Ura.{Ura}
use mir.Syntax.{w8}
use base.Fml.{Lft, ftrue, fbor}
use base.Logic.{sep}
use types.Kit.{‵, raw, ◌⊛◌, later, ◌$◌, !, qed, use2, split, fjoin, updating, await, now, done}
use denote.Steps.{nothing}
use types.Logic.{Logic, sem, lfts}
use denote.Builtin.{u8}
use denote.Array.{Array, Array-row_laws}
use denote.Sharing.{ShrLaws, said}
use denote.SharingLaws.{nothing_shr_laws, said_shr_laws, beside_shr_laws}
use denote.Plain.{uint_row_laws}
use denote.Copied.{uint_Copied}
use denote.Shares.{Shares-Array}
use denote.RawPtr.{Ptr, block_ptr, null_ptr, in_block, ◌+ₚ◌}
use denote.Param.Shared.{copy_shared}
use denote.Struct.Field.{RawPtr-field, usize-field}
use denote.Struct.Laws.{RawPtr-copy, usize-copy}
use denote.Struct.Lending.{in_block_pure, lent_at_shr_laws, Lends, Lends-false, Lends-lies, Lends-nothing, Lends-both, of_Lends}
use Rattle.hg_raw.specs.Frames.{Frame}
use Rattle.hg_raw.specs.Memory.{part_own, parts_own, part_lent, parts_lent, slots_own, slots_lent}
use Rattle.hg_raw.specs.contracts.slots.Slots as C
use Rattle.hg_raw.proofs.slots.Slots.TheLaw.Statement.{statement}

laws : (p : Ptr) (s : ℕ) (fs : List Frame) → ShrLaws (parts_lent p s fs)
laws p s [] = nothing_shr_laws
laws p s (f ∷ fs) = beside_shr_laws (part_lent p s f) (parts_lent p s fs)
    (lent_at_shr_laws (Array u8 (length f.1)) (Array-row_laws u8 (uint_row_laws w8) (length f.1)) (p +ₚ f.0 * s) f.1) (laws p s fs)

module _ {M : Type 1} {𝓤 : Ura M} (𝓛 : Logic 𝓤) (l : Lft) where
  Lends-part : (p : Ptr) (s : ℕ) (f : Frame) → Lends 𝓛 (part_own p s f) (part_lent p s f) l
  Lends-part p s f = Lends-lies 𝓛 (Array u8 (length f.1)) l (p +ₚ f.0 * s) f.1 (Shares-Array 𝓛 u8 tt (length f.1) l ((uint_Copied 𝓛 w8).shares base.Fraction.full_share l) f.1)

  Lends-parts : (p : Ptr) (s : ℕ) (fs : List Frame) → Lends 𝓛 (parts_own p s fs) (parts_lent p s fs) l
  Lends-parts p s [] = Lends-nothing 𝓛 ftrue l
  Lends-parts p s (f ∷ fs) = Lends-both 𝓛 (part_own p s f) (parts_own p s fs) (part_lent p s f) (parts_lent p s fs) l (Lends-part p s f) (Lends-parts p s fs)

  Lends-held : (p : Ptr) (s : ℕ) (fs : List Frame) → Lends 𝓛 (slots_own p s fs) (slots_lent p s fs) l
  Lends-held null_ptr s fs κ ts inc sp = Lends-false 𝓛 (slots_lent null_ptr s fs) l κ ts inc sp
  Lends-held (block_ptr b o) s fs κ ts inc sp =
      let p : Ptr = block_ptr b o in
      qed 𝓛 (‵ (fbor κ (slots_own p s fs)) ∷ raw (lfts 𝓛 ts) ∷ []) {P = 𝓛.H.⇛ (sep 𝓤 (sem 𝓛 (slots_lent p s fs κ)) (lfts 𝓛 ts))} (
      updating ! $ use2 𝓛 (later (‵ (parts_lent p s fs κ) ⊛ raw (lfts 𝓛 ts))) (Lends-parts p s fs κ ts inc sp) $ await ! tt $ split ! $ nothing ! $ fjoin ! $ now ! $ done !)

pub shares : statement
shares = of_Lends C.struct C.the_codes C.the_heap C.the_lent (λ d p. beside_shr_laws (said (in_block d.base ftrue)) (parts_lent d.base d.size d.held) (said_shr_laws (in_block d.base ftrue) (in_block_pure d.base)) (laws d.base d.size d.held))
    (copy_shared RawPtr-field RawPtr-copy, (copy_shared usize-field usize-copy, tt))
    (λ M 𝓤 𝓛 d p. Lends-held 𝓛 (C.the_row).lives d.base d.size d.held)
