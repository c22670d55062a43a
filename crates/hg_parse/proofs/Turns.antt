-- Lists with commas, one item at a time, and moves one behind the other.
use Rattle.std.proofs.Common.{◌≡◌, ◌<◌, true, false, List, None, length, sym, ap, ◌∙◌, arith}
use Rattle.std.specs.Prelude.{if◌then◌else◌, ⊤}
use Rattle.hg_model.specs.Grammar.{comma}
use Rattle.hg_model.specs.Tokens.{Token}
use Rattle.hg_parse.proofs.Chains.{chain_go, chain_stop, chain_fail}
use Rattle.hg_parse.proofs.Moving.{stays, goes_far}
use Rattle.hg_parse.specs.AtHand.{GoesOn}
use Rattle.hg_parse.specs.Kept.{used, Fits, Moves}
use Rattle.hg_parse.specs.Steps.{Answer, got, eats, behind, Go, Stop, chain, comma_turn}
use Rattle.hg_parse.specs.declared.input.Input.{Input}
use Rattle.hg_parse.specs.declared.room.Room.{Room}

pub far : (i : Input) (r : Room) (j : Input) (s : Room) (k : Input) (t : Room) → Moves i r j s → Moves j s k t → Moves i r k t
far i r j s k t m n = record {
  goes_on = goes_far i j k m.goes_on n.goes_on;
  room = (let a = m.room in let b = n.room in omega arith);
}

pub eaten_far : (i : Input) (r : Room) (j : Input) (s : Room) (k : Input) → Moves i r j s → GoesOn j k → Moves i r k s
eaten_far i r j s k m g = record {
  goes_on = goes_far i j k m.goes_on g;
  room = (let a = m.room in let b = g.left in omega arith);
}

pub pushed_far : (i : Input) (r : Room) (j : Input) (s t : Room) → Moves i r j s → used t ≡ used s → Moves i r j t
pushed_far i r j s t m e = record { goes_on = m.goes_on; room = (let a = m.room in omega (arith, e)) }

pub still_fits : (i : Input) (r : Room) (j : Input) (s : Room) → Fits i r → Moves i r j s → Fits j s
still_fits i r j s f m = let a = m.room in omega arith

pub moved_nowhere : (i : Input) (r : Room) → Moves i r i r
moved_nowhere i r = record { goes_on = stays i; room = omega arith }

module _ {S : Type 0} (item : S → List Token → Answer S ⊤) where
  pub comma_go : (k l : S) (ts ms us : List Token) → true ≡ eats comma ts → ms ≡ behind ts → item k ms ≡ got l tt us → length us < length ts
      → chain (comma_turn item) k tt ts ≡ chain (comma_turn item) l tt us
  comma_go k l ts ms us b m e h =
      chain_go (comma_turn item) k tt ts l tt us (ap (λ x. if x then Go (item k (behind ts)) else Stop) (sym b) ∙ ap Go (ap (item k) (sym m) ∙ e)) h

  pub comma_fail : (k : S) (ts ms : List Token) → true ≡ eats comma ts → ms ≡ behind ts → item k ms ≡ None → chain (comma_turn item) k tt ts ≡ None
  comma_fail k ts ms b m e = chain_fail (comma_turn item) k tt ts (ap (λ x. if x then Go (item k (behind ts)) else Stop) (sym b) ∙ ap Go (ap (item k) (sym m) ∙ e))

  pub comma_stop : (k : S) (ts : List Token) → false ≡ eats comma ts → chain (comma_turn item) k tt ts ≡ got k tt ts
  comma_stop k ts b = chain_stop (comma_turn item) k tt ts (ap (λ x. if x then Go (item k (behind ts)) else Stop) (sym b))
