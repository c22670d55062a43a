-- Each step of a line keeps what every state of a run is like, over devices that do not tell as well.
use Rattle.std.proofs.Common.{◌≡◌, ◌≤◌, Bool, true, false, List, [], ◌∷◌, Some, None, length, map, refl, sym, ap, ◌∙◌, subst, ◌⊎◌}
use Rattle.std.specs.List.{AllByRecursion}
use Rattle.hg_machine.proofs.Cursors.{all_weaker}
use Rattle.hg_machine.proofs.Steady.{becomes_so, turn_steady}
use Rattle.hg_machine.proofs.StepsSteady.{begins_steady, close_steady}
use Rattle.hg_machine.specs.Plain.Laws.{WantsRows, IsSteady, StepsKeepSteady, ExactStepsKeepSteady, LooseStepsKeepSteady, LooseLinesKeepSteady}
use Rattle.hg_machine.specs.Plain.Loose.{bare_cursor, Alike, without_uniques, Loosely, with_any_rows, finds_damage, misses_doubles, loosely}
use Rattle.hg_machine.specs.Plain.Replies.{ReplyLine, CursorName, device_fault}
use Rattle.hg_machine.specs.Plain.Rounds.{wants_more}
use Rattle.hg_machine.specs.Plain.Run.{Manner, exactly, GivesTurns, RunsLine, RunsLines}
use Rattle.hg_model.specs.Script.{Line}
use Rattle.hg_machine.specs.Plain.State.{State, CursorState, same_cursor, cursor_named}

same_some : {X : Type 0} (a b : X) → Some a ≡ Some b → a ≡ b
same_some a b e = cc

-- ---- cursors without what stands on pages

bare_there : (cursors : List CursorState) (name : CursorName) (c : CursorState) → cursor_named cursors name ≡ Some c
    → cursor_named (map bare_cursor cursors) name ≡ Some (bare_cursor c)
bare_there [] name c is = absurd (none_is_not_some is)
  where
    none_is_not_some : None ≡ Some c → ⊥
    none_is_not_some e = cc
bare_there (x ∷ cs) name c is = go (same_cursor name x.name) refl (λ later. bare_there cs name c later)
  where
    go : (b : Bool) → same_cursor name x.name ≡ b → (cursor_named cs name ≡ Some c → cursor_named (map bare_cursor cs) name ≡ Some (bare_cursor c))
        → cursor_named (map bare_cursor (x ∷ cs)) name ≡ Some (bare_cursor c)
    go true e f =
        let here : x ≡ c = same_some x c (sym (rw e refl) ∙ is) in
        rw e (ap (λ (k : CursorState). Some (bare_cursor k)) here)
    go false e f = rw e (f (sym (rw e refl) ∙ is))

-- the cursor that a bare one comes from
abbrev ComesFrom : List CursorState → CursorName → CursorState → Type 0
ComesFrom cursors name c = (x : CursorState) × (cursor_named cursors name ≡ Some x) × (bare_cursor x ≡ c)

comes_from : (cursors : List CursorState) (name : CursorName) (c : CursorState) → cursor_named (map bare_cursor cursors) name ≡ Some c → ComesFrom cursors name c
comes_from [] name c is = absurd (none_is_not_some is)
  where
    none_is_not_some : None ≡ Some c → ⊥
    none_is_not_some e = cc
comes_from (x ∷ cs) name c is = go (same_cursor name x.name) refl (λ later. comes_from cs name c later)
  where
    behind : same_cursor name x.name ≡ false → ComesFrom cs name c → ComesFrom (x ∷ cs) name c
    behind e more = (more.0, rw e more.1, more.2)

    go : (b : Bool) → same_cursor name x.name ≡ b → (cursor_named (map bare_cursor cs) name ≡ Some c → ComesFrom cs name c) → ComesFrom (x ∷ cs) name c
    go true e f =
        let here : bare_cursor x ≡ c = same_some (bare_cursor x) c (sym (rw e refl) ∙ is) in
        (x, rw e refl, here)
    go false e f = behind e (f (sym (rw e refl) ∙ is))

wants_too : (a b : List CursorState) → map bare_cursor a ≡ map bare_cursor b → (name : CursorName) → WantsRows a name → WantsRows b name
wants_too a b alike name wants =
    let at : cursor_named (map bare_cursor b) name ≡ Some (bare_cursor wants.cursor) =
    ap (λ cs. cursor_named cs name) (sym alike) ∙ bare_there a name wants.cursor wants.is_there in
    let other : ComesFrom b name (bare_cursor wants.cursor) = comes_from b name (bare_cursor wants.cursor) at in
    record {
      cursor = other.0;
      is_there = other.1;
      wants = ap (λ (c : CursorState). wants_more c.wanted) other.2 ∙ wants.wants;
    }

-- ---- states that are alike

alike_steady : (a b : State) → Alike a b → IsSteady a → IsSteady b
alike_steady a b alike steady =
    let cursors : map bare_cursor a.cursors ≡ map bare_cursor b.cursors = ap (λ (s : State). s.cursors) alike in
    let round : a.round ≡ b.round = ap (λ (s : State). s.round) alike in
    let waiting : a.waiting ≡ b.waiting = ap (λ (s : State). s.waiting) alike in
    let mpl : a.mpl ≡ b.mpl = ap (λ (s : State). s.mpl) alike in
    let full : (b.waiting ≡ []) ⊎ (a.mpl ≤ length a.round) = subst (λ ns. (ns ≡ []) ⊎ (a.mpl ≤ length a.round)) waiting steady.full in
    let fuller : (b.waiting ≡ []) ⊎ (a.mpl ≤ length b.round) = subst (λ ns. (b.waiting ≡ []) ⊎ (a.mpl ≤ length ns)) round full in
    record {
      round = all_weaker (WantsRows a.cursors) (WantsRows b.cursors) b.round (wants_too a.cursors b.cursors cursors)
          (subst (AllByRecursion (WantsRows a.cursors)) round steady.round);
      waiting = all_weaker (WantsRows a.cursors) (WantsRows b.cursors) b.waiting (wants_too a.cursors b.cursors cursors)
          (subst (AllByRecursion (WantsRows a.cursors)) waiting steady.waiting);
      full = subst (λ n. (b.waiting ≡ []) ⊎ (n ≤ length b.round)) mpl fuller;
      some_may = subst (λ n. 1 ≤ n) mpl steady.some_may;
    }

loose_steady : (looks : State → Type 0) (step : State → List ReplyLine → State → Type 0) → ((old new : State) (lines : List ReplyLine) → step old lines new → IsSteady old → IsSteady new)
    → (old new : State) (lines : List ReplyLine) → Loosely looks step old lines new → IsSteady old → IsSteady new
loose_steady looks step keeps old new lines (with_any_rows seen alike taken) steady = keeps seen new lines taken (alike_steady old seen alike steady)
loose_steady looks step keeps old new lines (finds_damage seen file page check more looked alike taken said) steady =
    keeps seen new (device_fault file ∷ more) taken (alike_steady old seen alike steady)
loose_steady looks step keeps old new lines (misses_doubles seen after alike taken indexes is) steady =
    let before : IsSteady seen = alike_steady old seen alike steady in
    let plain : IsSteady (without_uniques seen) = record { round = before.round; waiting = before.waiting; full = before.full; some_may = before.some_may } in
    let kept : IsSteady after = keeps (without_uniques seen) after lines taken plain in
    becomes_so IsSteady new _ is (record { round = kept.round; waiting = kept.waiting; full = kept.full; some_may = kept.some_may })

steps_loosely : (m : Manner) → StepsKeepSteady m → StepsKeepSteady (loosely m)
steps_loosely m steps = record {
  begins = λ old new line lines begun steady. loose_steady _ (λ s. m.begins s line) (λ o n ls b k. steps.begins o n line ls b k) old new lines begun steady;
  turns = loose_steady _ m.turn steps.turns;
  closes = loose_steady _ m.closes steps.closes;
}

pub exact_steps_keep_steady : ExactStepsKeepSteady
exact_steps_keep_steady built = record { begins = begins_steady built; turns = turn_steady; closes = close_steady }

pub loose_steps_keep_steady : LooseStepsKeepSteady
loose_steps_keep_steady built = steps_loosely (exactly built) (exact_steps_keep_steady built)

-- ---- whole lines

pub turns_keep : (m : Manner) → StepsKeepSteady m → (old new : State) (turns : List (List ReplyLine)) → GivesTurns m old turns new → IsSteady old → IsSteady new
unfolding GivesTurns
turns_keep m steps old new [] given steady = becomes_so IsSteady new old given steady
turns_keep m steps old new (turn ∷ turns) given steady = turns_keep m steps given.0 new turns given.2 (steps.turns old given.0 turn given.1 steady)

line_keeps : (m : Manner) → StepsKeepSteady m → (old new : State) (line : Line) (lines : List ReplyLine) → RunsLine m old line lines new → IsSteady old → IsSteady new
line_keeps m steps old new line lines runs steady =
    let f = runs.finishes in
    steps.closes f.between new f.last f.close
    (turns_keep m steps runs.between f.between f.turns f.given (steps.begins old runs.between line runs.first runs.begins steady))

pub lines_keep : (m : Manner) → StepsKeepSteady m → (old new : State) (script : List Line) (lines : List ReplyLine) → RunsLines m old script lines new → IsSteady old → IsSteady new
unfolding RunsLines
lines_keep m steps old new [] lines runs steady = becomes_so IsSteady new old runs.1 steady
lines_keep m steps old new (line ∷ script) lines runs steady =
    lines_keep m steps runs.2 new script runs.1 runs.4 (line_keeps m steps old runs.2 line runs.0 runs.3 steady)

pub loose_lines_keep_steady : LooseLinesKeepSteady
loose_lines_keep_steady built = lines_keep (loosely (exactly built)) (loose_steps_keep_steady built)
