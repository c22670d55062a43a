-- Steps of a descent over the tokens of a line: each reads a front of the tokens and gives what it read, or
-- refuses. Our own rule: recursive descent with one token of look-ahead.
use Rattle.std.specs.Prelude.{ℕ, zero, suc, Bool, false, List, [], ◌∷◌, Option, Some, None, length, nat_lt, if◌then◌else◌, ⊤}
use Rattle.hg_model.specs.Grammar.{comma, close_sign}
use Rattle.hg_model.specs.Tables.{same_name}
use Rattle.hg_model.specs.Tokens.{Token, Word, Sign}

-- what was read: the state behind it, a value, and the tokens that are left
pub record Got (S X : Type 0) : Type 0 where
  pub state : S
  pub value : X
  pub rest : List Token

abbrev pub Answer : Type 0 → Type 0 → Type 0
Answer S X = Option (Got S X)

abbrev pub got : {S X : Type 0} → S → X → List Token → Answer S X
got s x ts = Some (record { state = s; value = x; rest = ts })

-- what is read behind an answer
abbrev pub and_then : {S X Y : Type 0} → Answer S X → (S → X → List Token → Answer S Y) → Answer S Y
and_then None k = None
and_then (Some g) k = k g.state g.value g.rest

abbrev pub same_token : Token → Token → Bool
same_token (Word v) (Word w) = same_name v w
same_token (Sign v) (Sign w) = same_name v w
same_token _ _ = false

-- whether the tokens begin with this word or sign
abbrev pub eats : Token → List Token → Bool
eats t [] = false
eats t (u ∷ us) = same_token t u

abbrev pub behind : List Token → List Token
behind [] = []
behind (t ∷ ts) = ts

-- what is read behind a token that must stand there
abbrev pub after : {R : Type 0} → Token → List Token → (List Token → Option R) → Option R
after t ts k = if eats t ts then k (behind ts) else None

-- an answer with `)` behind it
abbrev pub closed : {S X : Type 0} → Answer S X → Answer S X
closed a = and_then a (λ s x ts. after close_sign ts (λ us. got s x us))

-- One turn of a chain: it stops before the tokens, or goes on with what it reads.
pub data Turn (S X : Type 0) : Type 0 where
  Stop : Turn S X
  Go : Answer S X → Turn S X

abbrev pub follow : {S X : Type 0} → (S → X → List Token → Answer S X) → Turn S X → S → X → List Token → Answer S X
follow next Stop s x ts = got s x ts
follow next (Go None) s x ts = None
follow next (Go (Some g)) s x ts = if nat_lt (length g.rest) (length ts) then next g.state g.value g.rest else None

unfoldable pub turns : {S X : Type 0} → (S → X → List Token → Turn S X) → ℕ → S → X → List Token → Answer S X
turns turn zero s x ts = None
turns turn (suc k) s x ts = follow (turns turn k) (turn s x ts) s x ts

-- turns until one stops; each reads a token at least
unfoldable pub chain : {S X : Type 0} → (S → X → List Token → Turn S X) → S → X → List Token → Answer S X
chain turn s x ts = turns turn (suc (length ts)) s x ts

-- items with commas between them
abbrev pub comma_turn : {S : Type 0} → (S → List Token → Answer S ⊤) → S → ⊤ → List Token → Turn S ⊤
comma_turn item s x ts = if eats comma ts then Go (item s (behind ts)) else Stop

abbrev pub commas : {S : Type 0} → (S → List Token → Answer S ⊤) → S → List Token → Answer S ⊤
commas item s ts = and_then (item s ts) (λ t x us. chain (comma_turn item) t x us)
