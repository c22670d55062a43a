-- Chains: one turn at a time.
use Rattle.std.proofs.Common.{◌≡◌, ℕ, zero, suc, ◌<◌, true, false, Bool, List, ◌∷◌, ◌++◌, Some, None, length, refl, ap, ◌∙◌, arith, append_assoc, length-append, cond}
use Rattle.std.specs.Prelude.{nat_lt}
use Rattle.std.proofs.lemmas.Bool.{ltb-true, lt-ltb}
use Rattle.hg_model.specs.Tokens.{Token}
use Rattle.hg_parse.specs.Steps.{Answer, got, Turn, Stop, Go, follow, turns, chain}

module _ {S X : Type 0} (turn : S → X → List Token → Turn S X) where
  next_same : (f h : S → X → List Token → Answer S X) (s : S) (x : X) (us : List Token) (b : Bool) → (b ≡ true → f s x us ≡ h s x us)
      → cond b (f s x us) None ≡ cond b (h s x us) None
  next_same f h s x us true same = same refl
  next_same f h s x us false same = refl

  follow_same : (f h : S → X → List Token → Answer S X) (r : Turn S X) (s : S) (x : X) (ts : List Token)
      → ((t : S) (y : X) (us : List Token) → length us < length ts → f t y us ≡ h t y us) → follow f r s x ts ≡ follow h r s x ts
  follow_same f h Stop s x ts same = refl
  follow_same f h (Go None) s x ts same = refl
  follow_same f h (Go (Some g)) s x ts same =
      next_same f h g.state g.value g.rest (nat_lt (length g.rest) (length ts)) (λ e. same g.state g.value g.rest (ltb-true (length g.rest) (length ts) e))

  turns_same : (k j : ℕ) (s : S) (x : X) (ts : List Token) → length ts < k → length ts < j → turns turn k s x ts ≡ turns turn j s x ts
  unfolding turns
  turns_same zero j s x ts h l = absurd (omega arith)
  turns_same (suc k) zero s x ts h l = absurd (omega arith)
  turns_same (suc k) (suc j) s x ts h l =
      follow_same (turns turn k) (turns turn j) (turn s x ts) s x ts (λ t y us m. turns_same k j t y us (omega arith) (omega arith))

  pub chain_step : (s : S) (x : X) (ts : List Token) → chain turn s x ts ≡ follow (chain turn) (turn s x ts) s x ts
  unfolding chain turns
  chain_step s x ts =
      follow_same (turns turn (length ts)) (chain turn) (turn s x ts) s x ts (λ t y us m. turns_same (length ts) (suc (length us)) t y us m (omega arith))

  pub chain_stop : (s : S) (x : X) (ts : List Token) → turn s x ts ≡ Stop → chain turn s x ts ≡ got s x ts
  chain_stop s x ts e = chain_step s x ts ∙ ap (λ r. follow (chain turn) r s x ts) e

  pub chain_fail : (s : S) (x : X) (ts : List Token) → turn s x ts ≡ Go None → chain turn s x ts ≡ None
  chain_fail s x ts e = chain_step s x ts ∙ ap (λ r. follow (chain turn) r s x ts) e

  pub chain_go : (s : S) (x : X) (ts : List Token) (t : S) (y : X) (us : List Token) → turn s x ts ≡ Go (got t y us) → length us < length ts
      → chain turn s x ts ≡ chain turn t y us
  chain_go s x ts t y us e h =
      chain_step s x ts ∙ ap (λ r. follow (chain turn) r s x ts) e ∙ ap (λ b. cond b (chain turn t y us) None) (lt-ltb (length us) (length ts) h)

  -- one more turn behind what a chain has read
  pub one_more : (reads : List Token → Answer S X) (ts us rest : List Token) (op : Token) (s : S) (x : X) (t : S) (y : X)
      → reads (ts ++ op ∷ (us ++ rest)) ≡ chain turn s x (op ∷ (us ++ rest)) → turn s x (op ∷ (us ++ rest)) ≡ Go (got t y rest)
      → reads ((ts ++ op ∷ us) ++ rest) ≡ chain turn t y rest
  one_more reads ts us rest op s x t y before e =
      ap reads (append_assoc ts (op ∷ us) rest) ∙ before ∙ chain_go s x (op ∷ (us ++ rest)) t y rest e (omega (arith, length-append us rest))
