-- What holds of an answer where there is one, by how it was made.
use Rattle.std.proofs.Common.{◌≡◌, ℕ, zero, suc, Bool, cond, true, false, List, [], ◌∷◌, ◌++◌, Option, Some, None, length, refl, sym, ap, ◌∙◌, append_assoc}
use Rattle.std.specs.Prelude.{⊤, nat_lt}
use Rattle.std.specs.Cmp.Lexicographic.{same_text}
use Rattle.hg_model.specs.Tokens.{Token, Word, Digits, Letters, Sign}
use Rattle.hg_parse.specs.Steps.{Answer, and_then, same_token, eats, behind, after, Turn, Stop, Go, follow, turns, chain}

abbrev pub OnOption : {R : Type 0} → Option R → (R → Type 0) → Type 0
OnOption None P = ⊤
OnOption (Some x) P = P x

abbrev pub OnAnswer : {S X : Type 0} → Answer S X → (S → X → List Token → Type 0) → Type 0
OnAnswer None P = ⊤
OnAnswer (Some g) P = P g.state g.value g.rest

abbrev pub OnTurn : {S X : Type 0} → Turn S X → (S → X → List Token → Type 0) → Type 0
OnTurn Stop P = ⊤
OnTurn (Go a) P = OnAnswer a P

pub on_then : {S X Y : Type 0} (P : S → X → List Token → Type 0) (Q : S → Y → List Token → Type 0) (a : Answer S X) (k : S → X → List Token → Answer S Y)
    → OnAnswer a P → ((s : S) (x : X) (us : List Token) → P s x us → OnAnswer (k s x us) Q) → OnAnswer (and_then a k) Q
on_then P Q None k h l = tt
on_then P Q (Some g) k h l = l g.state g.value g.rest h

pub on_each : {S X : Type 0} (P Q : S → X → List Token → Type 0) (a : Answer S X) → OnAnswer a P → ((s : S) (x : X) (us : List Token) → P s x us → Q s x us) → OnAnswer a Q
on_each P Q None h l = tt
on_each P Q (Some g) h l = l g.state g.value g.rest h

pub on_if : {A : Type 0} (P : A → Type 0) (b : Bool) (x y : A) → (b ≡ true → P x) → (b ≡ false → P y) → P (cond b x y)
on_if P true x y h l = h refl
on_if P false x y h l = l refl

pub same_token_is : (t u : Token) → same_token t u ≡ true → t ≡ u
same_token_is (Word v) (Word w) e = ap Word (same_text v w (sym e))
same_token_is (Word v) (Digits w) e = absurd (cc)
same_token_is (Word v) (Letters w) e = absurd (cc)
same_token_is (Word v) (Sign w) e = absurd (cc)
same_token_is (Digits v) u e = absurd (cc)
same_token_is (Letters v) u e = absurd (cc)
same_token_is (Sign v) (Word w) e = absurd (cc)
same_token_is (Sign v) (Digits w) e = absurd (cc)
same_token_is (Sign v) (Letters w) e = absurd (cc)
same_token_is (Sign v) (Sign w) e = ap Sign (same_text v w (sym e))

-- a token that stands first
pub eats_is : (t : Token) (ts : List Token) → eats t ts ≡ true → ts ≡ t ∷ behind ts
eats_is t [] e = absurd (cc)
eats_is t (u ∷ us) e = ap (λ v. v ∷ us) (sym (same_token_is t u e))

pub on_eats : {A : Type 0} (P : A → Type 0) (t : Token) (ts : List Token) (x y : A) → (ts ≡ t ∷ behind ts → P x) → P y → P (cond (eats t ts) x y)
on_eats P t ts x y h l = on_if P (eats t ts) x y (λ e. h (eats_is t ts e)) (λ e. l)

pub on_after : {S X : Type 0} (Q : S → X → List Token → Type 0) (t : Token) (ts : List Token) (k : List Token → Answer S X)
    → (ts ≡ t ∷ behind ts → OnAnswer (k (behind ts)) Q) → OnAnswer (after t ts k) Q
on_after Q t ts k h = on_eats (λ a. OnAnswer a Q) t ts (k (behind ts)) None h tt

module _ {S X : Type 0} (P : S → X → List Token → Type 0) where
  follow_on : (next : S → X → List Token → Answer S X) (r : Turn S X) (s : S) (x : X) (ts : List Token) → P s x ts → OnTurn r P
      → ((t : S) (y : X) (us : List Token) → P t y us → OnAnswer (next t y us) P) → OnAnswer (follow next r s x ts) P
  follow_on next Stop s x ts h l m = h
  follow_on next (Go None) s x ts h l m = tt
  follow_on next (Go (Some g)) s x ts h l m =
      on_if (λ a. OnAnswer a P) (nat_lt (length g.rest) (length ts)) (next g.state g.value g.rest) None (λ e. m g.state g.value g.rest l) (λ e. tt)

  turns_on : (turn : S → X → List Token → Turn S X) → ((s : S) (x : X) (ts : List Token) → P s x ts → OnTurn (turn s x ts) P)
      → (k : ℕ) (s : S) (x : X) (ts : List Token) → P s x ts → OnAnswer (turns turn k s x ts) P
  unfolding turns
  turns_on turn step zero s x ts h = tt
  turns_on turn step (suc k) s x ts h = follow_on (turns turn k) (turn s x ts) s x ts h (step s x ts h) (λ t y us m. turns_on turn step k t y us m)

  pub on_chain : (turn : S → X → List Token → Turn S X) → ((s : S) (x : X) (ts : List Token) → P s x ts → OnTurn (turn s x ts) P)
      → (s : S) (x : X) (ts : List Token) → P s x ts → OnAnswer (chain turn s x ts) P
  unfolding chain
  on_chain turn step s x ts h = turns_on turn step (suc (length ts)) s x ts h

-- parts of a list of tokens
pub joined : {ts us vs : List Token} {t : Token} (f h rest : List Token) → ts ≡ f ++ us → us ≡ t ∷ vs → vs ≡ h ++ rest → ts ≡ (f ++ t ∷ h) ++ rest
joined {t} f h rest e l m = e ∙ ap (λ x. f ++ x) (l ∙ ap (λ x. t ∷ x) m) ∙ sym (append_assoc f (t ∷ h) rest)

pub put_behind : {ts us : List Token} (f h rest : List Token) → ts ≡ f ++ us → us ≡ h ++ rest → ts ≡ (f ++ h) ++ rest
put_behind f h rest e l = e ∙ ap (λ x. f ++ x) l ∙ sym (append_assoc f h rest)

pub put_first : {ts us : List Token} {t : Token} (h rest : List Token) → ts ≡ t ∷ us → us ≡ h ++ rest → ts ≡ (t ∷ h) ++ rest
put_first {t} h rest e l = e ∙ ap (λ x. t ∷ x) l
