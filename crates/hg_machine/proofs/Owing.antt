-- A turn takes from a cursor what it gives, and nothing from the others.
use Rattle.std.proofs.Common.{◌≡◌, ℕ, Bool, true, false, List, [], ◌∷◌, Option, Some, None, refl, sym, ap, ◌∙◌, subst, arith, inl, inr, ◌⊎◌}
use Rattle.std.specs.Cmp.Lexicographic.{same_text}
use Rattle.std.specs.List.{Contains}
use Rattle.std.proofs.lemmas.Bool.{true≢false}
use Rattle.hg_machine.proofs.Cursors.{named_set, named_set_itself, named_without, named_congr, same_congr}
use Rattle.hg_machine.proofs.Turns.{cursors_going_on}
use Rattle.hg_machine.specs.Plain.Owed.{TookOne, TurnsTakeWhatTheyGive}
use Rattle.hg_machine.specs.Plain.Replies.{ReplyLine, CursorName, row}
use Rattle.hg_machine.specs.Plain.Rounds.{closes, one_less}
use Rattle.hg_machine.specs.Plain.State.{State, CursorState, same_cursor, cursor_named, cursor_set, without_cursor}
use Rattle.hg_machine.specs.Plain.Turn.{Turn, gives_row, ends, groups_too_many, reaches_limit, fails, HasTurn, goes_on, counted, done_line}
use Rattle.hg_model.specs.Order.{Pair}

same_some : {X : Type 0} (a b : X) → Some a ≡ Some b → a ≡ b
same_some a b e = cc

abbrev Owed : CursorName → CursorState → CursorState → List ReplyLine → Type 0
Owed name before now lines = (now.left ≡ before.left) ⊎ TookOne name before now lines

pub one_name : (a b : CursorName) → same_cursor a b ≡ true → a ≡ b
one_name None None e = refl
one_name None (Some b) e = absurd (true≢false (sym e))
one_name (Some a) None e = absurd (true≢false (sym e))
one_name (Some a) (Some b) e = ap (λ (w : List ℕ). Some w) (same_text a b (sym e))

-- the cursor with the turn is in another state, and the others are as before
set_owed : (old new : State) (lines : List ReplyLine) (name : CursorName) (others : List CursorName) (c after : CursorState) → cursor_named old.cursors name ≡ Some c
    → after.name ≡ c.name → new ≡ counted (goes_on old name others after) → Owed name c after lines → (n : CursorName) (before now : CursorState)
    → cursor_named old.cursors n ≡ Some before → cursor_named new.cursors n ≡ Some now → Owed n before now lines
set_owed old new lines name others c after is same made owed n before now was there = go (same_cursor name n) refl
  where
    cursors : cursor_named (cursor_set old.cursors name after) n ≡ Some now
    cursors = ap (λ cs. cursor_named cs n) (sym (ap (λ (s : State). s.cursors) made ∙ cursors_going_on old name others after)) ∙ there

    go : (b : Bool) → same_cursor name n ≡ b → Owed n before now lines
    go true e =
        let here : c ≡ before = same_some c before (sym is ∙ (named_congr old.cursors name n e ∙ was)) in
        let at : after ≡ now = same_some after now (sym (named_set_itself old.cursors name c after is same) ∙ (named_congr (cursor_set old.cursors name after) name n e ∙ cursors)) in
        let its : Owed n c after lines = subst (λ (m : CursorName). Owed m c after lines) (one_name name n e) owed in
        subst (λ (x : CursorState). Owed n before x lines) at (subst (λ (x : CursorState). Owed n x after lines) here its)
    go false e =
        let kept : before ≡ now = same_some before now (sym was ∙ (sym (named_set old.cursors name c after is same n e) ∙ cursors)) in
        inl (ap (λ (x : CursorState). x.left) (sym kept))

-- the cursor with the turn is closed
pub closed_named : (cursors : List CursorState) (gone name : CursorName) (now : CursorState) → same_cursor gone name ≡ true → cursor_named (without_cursor cursors gone) name ≡ Some now → ⊥
closed_named [] gone name now e there = cc
closed_named (x ∷ cs) gone name now e there = go (same_cursor gone x.name) refl (λ later. closed_named cs gone name now e later)
  where
    go : (b : Bool) → same_cursor gone x.name ≡ b → (cursor_named (without_cursor cs gone) name ≡ Some now → ⊥) → ⊥
    go true f later = later (sym (rw f refl) ∙ there)
    go false f later =
        let apart : same_cursor name x.name ≡ false = sym (same_congr gone name x.name e) ∙ f in
        later (sym (rw (f, apart) refl) ∙ there)

closing_owed : (old new : State) (lines : List ReplyLine) (name : CursorName) → new ≡ counted (closes old name) → (n : CursorName) (before now : CursorState)
    → cursor_named old.cursors n ≡ Some before → cursor_named new.cursors n ≡ Some now → Owed n before now lines
closing_owed old new lines name made n before now was there = go (same_cursor name n) refl
  where
    cursors : cursor_named (without_cursor old.cursors name) n ≡ Some now
    cursors = ap (λ cs. cursor_named cs n) (sym (ap (λ (s : State). s.cursors) made)) ∙ there

    go : (b : Bool) → same_cursor name n ≡ b → Owed n before now lines
    go true e = absurd (closed_named old.cursors name n now e cursors)
    go false e =
        let kept : before ≡ now = same_some before now (sym was ∙ (sym (named_without old.cursors name n e) ∙ cursors)) in
        inl (ap (λ (x : CursorState). x.left) (sym kept))

turn_owed : TurnsTakeWhatTheyGive
turn_owed old new lines (gives_row name c others pair left held has fine may took holds said is) =
    let after : CursorState = record c { left = left; wanted = one_less c.wanted; held = held } in
    set_owed old new lines name others c (record c { left = left; wanted = one_less c.wanted; held = held }) has.is_there refl is
    (inr (record { pair = pair; may = may; took = took; said = subst (λ ls. Contains ls (row name pair.row)) (sym said) (0, omega arith, refl) }))
turn_owed old new lines (ends name c others held has fine none holds said is) =
    set_owed old new lines name others c (record c { wanted = Some 0; held = held }) has.is_there refl is (inl refl)
turn_owed old new lines (groups_too_many name c others has many said is) = closing_owed old new lines name is
turn_owed old new lines (reaches_limit name c others held has above below need said is) = closing_owed old new lines name is
turn_owed old new lines (fails name c others line has licensed said is) = closing_owed old new lines name is

pub turns_take_what_they_give : TurnsTakeWhatTheyGive
turns_take_what_they_give = turn_owed
