-- A fact is learned from the first entries of a context, which stay. Assumes `Logic`.
use Rattle.std.proofs.Common.{ℕ, List, take, drop, take-append-drop, subst}
use seplogic.Ra.Ura.{Ura}
use base.Logic.{ent, via, fst∗}
use types.Logic.{Logic}
use types.Kit.{Item, Goal, Seq, ⋆, ⊢++}
use contract.Monad.{fact, fact_use}

module _ {M : Type 1} {𝓤 : Ura M} {𝓛 : Logic 𝓤} {K : Type 0} {Γ : List (Item 𝓤)} {G : Goal 𝓤 𝓛.H} where
  pub learns : K → (n : ℕ) (φ : Type 0) → ent 𝓤 (⋆ 𝓛 (take n Γ)) (fact 𝓤 φ) → (φ → Seq K 𝓛 Γ G) → Seq K 𝓛 Γ G
  learns t n φ shown k = record {
    prf = fact_use 𝓤 φ (via 𝓤 (⋆ 𝓛 (take n Γ)) (subst (λ (Δ : List (Item 𝓤)). ent 𝓤 (⋆ 𝓛 Δ) (⋆ 𝓛 (take n Γ))) (take-append-drop n Γ)
        (via 𝓤 _ (⊢++ 𝓛 (take n Γ) (drop n Γ)) (fst∗ 𝓤 (⋆ 𝓛 (take n Γ)) (⋆ 𝓛 (drop n Γ))))) shown) (λ x. (k x).prf);
  }
