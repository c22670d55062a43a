-- Turns come to an end: each leaves fewer turns.
use Rattle.std.proofs.Common.{◌≡◌, ℕ, suc, zero, ◌+◌, ◌<◌, ◌≤◌, Bool, true, false, List, [], ◌∷◌, ◌++◌, Option, Some, None, length, refl, sym, ap, ◌∙◌, subst, arith}
use Rattle.std.specs.List.{sum_by}
use Rattle.std.specs.List.Sorted.{IsPermutation}
use Rattle.std.proofs.lemmas.List.Sorted.{length_permutation}
use Rattle.std.proofs.lemmas.List.Sums.{sum_by-cons}
use Rattle.std.proofs.lemmas.Bool.{true≢false}
use Rattle.hg_machine.specs.Plain.Laws.{TurnsEnd, turns_wanted, cursor_turns, turns_left}
use Rattle.hg_machine.specs.Plain.Replies.{ReplyLine, CursorName}
use Rattle.hg_machine.specs.Plain.Rounds.{wants_more, one_less, closes}
use Rattle.hg_machine.specs.Plain.State.{State, CursorState, same_cursor, cursor_named, cursor_set, without_cursor}
use Rattle.hg_machine.specs.Plain.Turn.{Turn, gives_row, ends, groups_too_many, reaches_limit, fails, HasTurn, goes_on, counted}
use Rattle.hg_model.specs.Order.{Pair}

-- ---- sums over cursors

pub sum_set : (f : CursorState → ℕ) (cursors : List CursorState) (name : CursorName) (old new : CursorState) → cursor_named cursors name ≡ Some old
    → sum_by f (cursor_set cursors name new) + f old ≡ sum_by f cursors + f new
sum_set f [] name old new is = absurd (some_is_not_none is)
  where
    some_is_not_none : None ≡ Some old → ⊥
    some_is_not_none e = cc
sum_set f (c ∷ cs) name old new is = go (same_cursor name c.name) refl (λ later. sum_set f cs name old new later)
  where
    go : (b : Bool) → same_cursor name c.name ≡ b → (cursor_named cs name ≡ Some old → sum_by f (cursor_set cs name new) + f old ≡ sum_by f cs + f new)
        → sum_by f (cursor_set (c ∷ cs) name new) + f old ≡ sum_by f (c ∷ cs) + f new
    go true e g =
        let at : Some c ≡ Some old = sym (rw e refl) ∙ is in
        let here : c ≡ old = cc in
        let same : f c ≡ f old = ap f here in
        rw e (omega (arith, sum_by-cons f c cs, sum_by-cons f new cs))
    go false e g =
        let later : cursor_named cs name ≡ Some old = sym (rw e refl) ∙ is in
        let others : sum_by f (cursor_set cs name new) + f old ≡ sum_by f cs + f new = g later in
        rw e (omega (arith, sum_by-cons f c cs, sum_by-cons f c (cursor_set cs name new)))

without_le : (f : CursorState → ℕ) (cursors : List CursorState) (name : CursorName) → sum_by f (without_cursor cursors name) ≤ sum_by f cursors
without_le f [] name = omega arith
without_le f (c ∷ cs) name = go (same_cursor name c.name) refl (without_le f cs name)
  where
    go : (b : Bool) → same_cursor name c.name ≡ b → sum_by f (without_cursor cs name) ≤ sum_by f cs → sum_by f (without_cursor (c ∷ cs) name) ≤ sum_by f (c ∷ cs)
    go true e g = rw e (omega (arith, sum_by-cons f c cs))
    go false e g = rw e (omega (arith, sum_by-cons f c cs, sum_by-cons f c (without_cursor cs name)))

pub sum_without : (f : CursorState → ℕ) (cursors : List CursorState) (name : CursorName) (c : CursorState) → cursor_named cursors name ≡ Some c
    → sum_by f (without_cursor cursors name) + f c ≤ sum_by f cursors
sum_without f [] name c is = absurd (some_is_not_none is)
  where
    some_is_not_none : None ≡ Some c → ⊥
    some_is_not_none e = cc
sum_without f (x ∷ cs) name c is = go (same_cursor name x.name) refl (λ later. sum_without f cs name c later)
  where
    go : (b : Bool) → same_cursor name x.name ≡ b → (cursor_named cs name ≡ Some c → sum_by f (without_cursor cs name) + f c ≤ sum_by f cs)
        → sum_by f (without_cursor (x ∷ cs) name) + f c ≤ sum_by f (x ∷ cs)
    go true e g =
        let at : Some x ≡ Some c = sym (rw e refl) ∙ is in
        let here : x ≡ c = cc in
        let same : f x ≡ f c = ap f here in
        let few : sum_by f (without_cursor cs name) ≤ sum_by f cs = without_le f cs name in
        rw e (omega (arith, sum_by-cons f x cs))
    go false e g =
        let later : cursor_named cs name ≡ Some c = sym (rw e refl) ∙ is in
        let others : sum_by f (without_cursor cs name) + f c ≤ sum_by f cs = g later in
        rw e (omega (arith, sum_by-cons f x cs, sum_by-cons f x (without_cursor cs name)))

-- ---- the cursors behind a turn

pub cursors_going_on : (s : State) (name : CursorName) (others : List CursorName) (c : CursorState) → (counted (goes_on s name others c)).cursors ≡ cursor_set s.cursors name c
cursors_going_on s name others c = go (wants_more c.wanted) refl
  where
    go : (b : Bool) → wants_more c.wanted ≡ b → (counted (goes_on s name others c)).cursors ≡ cursor_set s.cursors name c
    go true e = rw e refl
    go false e = rw e refl

-- ---- fewer turns

one_turn_less : (wanted : Option ℕ) (before now : ℕ) → wants_more wanted ≡ true → now < before → turns_wanted (one_less wanted) now < turns_wanted wanted before
one_turn_less None before now wants less = omega arith
one_turn_less (Some zero) before now wants less = absurd (true≢false (sym wants))
one_turn_less (Some (suc n)) before now wants less = omega arith

some_turn : (wanted : Option ℕ) (left : ℕ) → wants_more wanted ≡ true → 0 < turns_wanted wanted left
some_turn None left wants = omega arith
some_turn (Some zero) left wants = absurd (true≢false (sym wants))
some_turn (Some (suc n)) left wants = omega arith

fewer_set : (s : State) (name : CursorName) (others : List CursorName) (old new : CursorState) → cursor_named s.cursors name ≡ Some old → cursor_turns new < cursor_turns old
    → turns_left (counted (goes_on s name others new)) < turns_left s
fewer_set s name others old new is less =
    let sums = sum_set cursor_turns s.cursors name old new is in
    rw (cursors_going_on s name others new) (omega arith)

fewer_without : (s : State) (name : CursorName) (c : CursorState) → cursor_named s.cursors name ≡ Some c → wants_more c.wanted ≡ true → turns_left (counted (closes s name)) < turns_left s
fewer_without s name c is wants =
    let sums = sum_without cursor_turns s.cursors name c is in
    let some = some_turn c.wanted (length c.left) wants in
    omega arith

turn_ends : (old new : State) (lines : List ReplyLine) → Turn old lines new → turns_left new < turns_left old
turn_ends old new lines (gives_row name c others pair left held has fine may taken holds said is) =
    let shorter : suc (length left) ≡ length c.left = length_permutation c.left (pair ∷ left) taken in
    let less : turns_wanted (one_less c.wanted) (length left) < turns_wanted c.wanted (length c.left) = one_turn_less c.wanted (length c.left) (length left) has.wants (omega arith) in
    rw is (fewer_set old name others c (record c { left = left; wanted = one_less c.wanted; held = held }) has.is_there less)
turn_ends old new lines (ends name c others held has fine none holds said is) =
    rw is (fewer_set old name others c (record c { wanted = Some 0; held = held }) has.is_there (some_turn c.wanted (length c.left) has.wants))
turn_ends old new lines (groups_too_many name c others has many said is) = rw is (fewer_without old name c has.is_there has.wants)
turn_ends old new lines (reaches_limit name c others held has above below need said is) = rw is (fewer_without old name c has.is_there has.wants)
turn_ends old new lines (fails name c others line has licensed said is) = rw is (fewer_without old name c has.is_there has.wants)

pub turns_end : TurnsEnd
turns_end = turn_ends
