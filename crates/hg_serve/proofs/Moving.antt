-- how the moves of an engine add up to turns, lines and scripts
use Rattle.std.proofs.Common.{◌≡◌, Bool, true, false, List, [], ◌∷◌, ◌++◌, refl, sym, ◌∙◌, subst}
use Rattle.hg_machine.specs.Plain.Replies.{ReplyLine}
use Rattle.hg_machine.specs.Plain.Run.{is_pending, dropped}
use Rattle.hg_machine.specs.Plain.State.{State}
use Rattle.hg_model.specs.Script.{Line}
use Rattle.hg_reply.specs.Steps.{Moves, ContinuesSo, DropsCommand, manner}
use Rattle.hg_serve.specs.Asking.{Beginning}
use Rattle.hg_serve.specs.Session.{Answering, Finishing, StopsWork, stopped}
use Rattle.hg_serve.specs.Serving.{Running}
use Rattle.hg_serve.proofs.Running.{SoFar, some-none, some-push, some-ends, runs-line, closes-well}
use Rattle.hg_serve.proofs.Scripts.{runs-push, runs-none}

-- what cannot be true is false
pub at-rest : (p : Bool) (P : Type 0) → (p ≡ true → P) → (P → ⊥) → p ≡ false
at-rest true P back never = absurd (never (back refl))
at-rest false P back never = refl

-- the turns given so far, in the manner of an engine
abbrev pub Giving : Bool → State → List ReplyLine → State → Type 0
Giving tells old replies new = SoFar (manner tells) old replies new

module _ {E : Type 0} (Stands : E → State → Type 0) where
  -- the engine stays as it is
  pub moves-stay : (e : E) (Step : State → List ReplyLine → State → Type 0) (lines : List ReplyLine) → ((s : State) → Stands e s → Step s lines s)
      → Moves Stands e e Step lines
  moves-stay e Step lines same = record { to = λ before stood. (before, stood, same before stood) }

  -- a step that is one of another kind
  pub moves-as : (e0 e1 : E) (P R : State → List ReplyLine → State → Type 0) (rs : List ReplyLine)
      → ((a b : State) → Stands e0 a → P a rs b → R a rs b) → Moves Stands e0 e1 P rs → Moves Stands e0 e1 R rs
  moves-as e0 e1 P R rs one p = record { to = λ before stood. (let m = p.to before stood in (m.0, m.1, one before m.0 stood m.2)) }

  -- one step and another
  pub moves-then : (e0 e1 e2 : E) (P Q R : State → List ReplyLine → State → Type 0) (rs ss ts : List ReplyLine)
      → ((a b c : State) → Stands e1 b → P a rs b → Q b ss c → R a ts c)
      → Moves Stands e0 e1 P rs → Moves Stands e1 e2 Q ss → Moves Stands e0 e2 R ts
  moves-then e0 e1 e2 P Q R rs ss ts both p q = record {
    to = λ before stood.
        let m = p.to before stood in
        let n = q.to m.0 m.1 in
        (n.0, n.1, both before m.0 n.0 m.1 m.2 n.2);
  }

  -- a turn, where the engine is at work
  pub moves-turn : (e0 e1 e2 : E) (tells : Bool) (rs ss : List ReplyLine) (pending : Bool) → pending ≡ true
      → ((s : State) → Stands e1 s → pending ≡ is_pending s) → Moves Stands e0 e1 (Giving tells) rs
      → Moves Stands e1 e2 (ContinuesSo tells) ss → Moves Stands e0 e2 (Giving tells) (rs ++ ss)
  moves-turn e0 e1 e2 tells rs ss pending at_work pends =
      moves-then e0 e1 e2 (Giving tells) (ContinuesSo tells) (Giving tells) rs ss (rs ++ ss)
      (λ a b c stood so_far step. some-push (manner tells) (closes-well tells) a b c rs ss so_far (sym (pends b stood) ∙ at_work) step)

  -- no turn is left
  pub moves-ends : (e0 e1 : E) (tells : Bool) (rs : List ReplyLine) (pending : Bool) → pending ≡ false
      → ((s : State) → Stands e1 s → pending ≡ is_pending s) → Moves Stands e0 e1 (Giving tells) rs → Moves Stands e0 e1 (Finishing tells) rs
  moves-ends e0 e1 tells rs pending idle pends p = record {
    to = λ before stood.
        let m = p.to before stood in
        (m.0, m.1, some-ends (manner tells) (closes-well tells) before m.0 rs m.2 (sym (pends m.0 m.1) ∙ idle));
  }

  pub moves-line : (e0 e1 e2 : E) (tells : Bool) (line : Line) (rs ss : List ReplyLine)
      → Moves Stands e0 e1 (Beginning tells line) rs → Moves Stands e1 e2 (Finishing tells) ss
      → Moves Stands e0 e2 (Answering tells line) (rs ++ ss)
  moves-line e0 e1 e2 tells line rs ss =
      moves-then e0 e1 e2 (Beginning tells line) (Finishing tells) (Answering tells line) rs ss (rs ++ ss)
      (λ a b c stood begins turns. runs-line (manner tells) a b c line rs ss begins turns)

  pub moves-lines : (e0 e1 e2 : E) (tells : Bool) (lines : List Line) (line : Line) (rs ss : List ReplyLine)
      → Moves Stands e0 e1 (Running tells lines) rs → Moves Stands e1 e2 (Answering tells line) ss
      → Moves Stands e0 e2 (Running tells (lines ++ line ∷ [])) (rs ++ ss)
  moves-lines e0 e1 e2 tells lines line rs ss =
      moves-then e0 e1 e2 (Running tells lines) (Answering tells line) (Running tells (lines ++ line ∷ [])) rs ss (rs ++ ss)
      (λ a b c stood. runs-push (manner tells) a b c lines line rs ss)

  pub moves-no_line : (e : E) (tells : Bool) → Moves Stands e e (Running tells []) []
  moves-no_line e tells = moves-stay e (Running tells []) [] (λ s stood. runs-none (manner tells) s)

  pub moves-no_turn : (e : E) (tells : Bool) → Moves Stands e e (Giving tells) []
  moves-no_turn e tells = moves-stay e (Giving tells) [] (λ s stood. some-none (manner tells) s)

  -- ---- a command that is dropped, or none

  pub stops-none : (e : E) (pending : Bool) → pending ≡ false → ((s : State) → Stands e s → pending ≡ is_pending s) → StopsWork Stands e e
  stops-none e pending idle pends = record {
    to = λ before stood. subst (λ s. Stands e s) (sym (stays before (sym (pends before stood) ∙ idle))) stood;
  }
    where
      stays : (s : State) → is_pending s ≡ false → stopped s ≡ s
      stays s idle = rw idle

  pub stops-dropped : (e0 e1 : E) (pending : Bool) → pending ≡ true → ((s : State) → Stands e0 s → pending ≡ is_pending s)
      → DropsCommand Stands e0 e1 → StopsWork Stands e0 e1
  stops-dropped e0 e1 pending at_work pends drops = record {
    to = λ before stood. subst (λ s. Stands e1 s) (sym (drop before (sym (pends before stood) ∙ at_work))) (drops.to before stood);
  }
    where
      drop : (s : State) → is_pending s ≡ true → stopped s ≡ dropped s
      drop s at_work = rw at_work
