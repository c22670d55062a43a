-- What a `&` to a `Slots` shows: its two words, that its base is not null, and a `&` to the bytes of each part. Assumes `Logic`.
use mathlib.Core.List.{[], ◌∷◌}
use Prim.Native.Nat.{ℕ, ◌+◌}
use seplogic.Ra.Ura.{Ura}
use base.Logic.{ent, sep}
use base.Fml.{Lft, ftrue, fhide}
use types.Logic.{Logic, sem}
use types.Kit.{‵, ◌⊛◌, ◌$◌, ◌∵◌, !, qed, move, keep, use1, split, fsplit, done}
use denote.Builtin.{usize}
use denote.Memory.{hidden_shr}
use denote.RawPtr.{RawPtr, in_block}
use denote.Struct.Lending.{lent_out}
use denote.Opens.{unhide}
use Rattle.hg_raw.specs.Memory.{parts_lent}
use Rattle.hg_raw.specs.declared.slots.Slots.{Slots}
use Rattle.hg_raw.specs.contracts.slots.Slots as C
use Rattle.hg_raw.proofs.Opens.{Sr, Words}

module _ {M : Type 1} {𝓤 : Ura M} (𝓛 : Logic 𝓤) (κ : Lft) where
  pub shown : (d : Slots) (b o : ℕ) → ent 𝓤 (sem 𝓛 (hidden_shr Sr κ d b o)) (sep 𝓤 (sem 𝓛 (hidden_shr RawPtr κ d.base b (o + 0))) (sep 𝓤 (sem 𝓛 (hidden_shr usize κ d.size b (o + 8)))
      (sep 𝓤 (sem 𝓛 (in_block d.base ftrue)) (sem 𝓛 (parts_lent d.base d.size d.held κ)))))
  shown d b o = qed 𝓛 (‵ (hidden_shr Sr κ d b o) ∷ []) ∵
      use1 𝓛 (‵ (hidden_shr Words κ (d.base, (d.size, tt)) b o) ⊛ ‵ (fhide (C.the_lent d d.base κ))) (lent_out 𝓛 C.struct C.the_codes C.the_heap C.the_lent κ d b o) $ split ! $
      unhide ! $ fsplit ! $ fsplit ! $ move ! (1 ∷ []) $ fsplit ! $ keep ! (2 ∷ 0 ∷ 4 ∷ []) $ done !
