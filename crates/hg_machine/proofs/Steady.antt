-- What every state of a run is like: whoever is active or waits is open and wants rows, and nobody waits
-- while more may be active.
use Rattle.std.proofs.Common.{◌≡◌, ℕ, suc, zero, ◌+◌, ◌-◌, ◌<◌, ◌≤◌, Bool, true, false, List, [], ◌∷◌, ◌++◌, Option, Some, None, length, length-append, take, drop, refl, sym, ap, ◌∙◌, subst, arith, inl, inr, ⊎_elim, ◌⊎◌, ltb, leb}
use Rattle.std.specs.List.{AllByRecursion}
use Rattle.std.proofs.lemmas.List.{length-take, length-drop}
use Rattle.std.proofs.lemmas.Bool.{true≢false, ltb-true, ltb-false}
use Rattle.hg_machine.proofs.Cursors.{all_append, all_one, all_take, all_drop, all_weaker, others_stay, wants_without, wants_set, wants_set_other, wants_more_open, named_set_itself}
use Rattle.hg_machine.specs.Plain.Laws.{WantsRows, IsSteady}
use Rattle.hg_machine.specs.Plain.Replies.{ReplyLine, CursorName}
use Rattle.hg_machine.specs.Plain.Rounds.{wants_more, one_less, places, joined, leaves, closes, becomes, starts}
use Rattle.hg_machine.specs.Plain.State.{State, CursorState, Task, same_cursor, cursor_named, cursor_set, without_cursor, without_name}
use Rattle.hg_machine.specs.Plain.Turn.{Turn, gives_row, ends, groups_too_many, reaches_limit, fails, HasTurn, goes_on, one_more, counted}

-- ---- the waiting ones join

nothing_dropped : {X : Type 0} (n : ℕ) (xs : List X) → length xs ≤ n → drop n xs ≡ []
nothing_dropped zero [] few = refl
nothing_dropped zero (x ∷ xs) few = absurd (omega arith)
nothing_dropped (suc n) [] few = refl
nothing_dropped (suc n) (x ∷ xs) few = nothing_dropped n xs (omega arith)

full_or_none : (round waiting : List CursorName) (mpl : ℕ)
    → (drop (mpl - length round) waiting ≡ []) ⊎ (mpl ≤ length (round ++ take (mpl - length round) waiting))
full_or_none round waiting mpl = go (ltb (mpl - length round) (length waiting)) refl
  where
    go : (b : Bool) → ltb (mpl - length round) (length waiting) ≡ b
        → (drop (mpl - length round) waiting ≡ []) ⊎ (mpl ≤ length (round ++ take (mpl - length round) waiting))
    go true e = inr (let more : mpl - length round < length waiting = ltb-true _ _ e in simp (length-append, length-take) (omega arith))
    go false e = inl (nothing_dropped (mpl - length round) waiting (let few : length waiting ≤ mpl - length round = ltb-false _ _ e in omega arith))

pub joined_steady : (s : State) → AllByRecursion (WantsRows s.cursors) s.round → AllByRecursion (WantsRows s.cursors) s.waiting → 1 ≤ s.mpl → IsSteady (joined s)
joined_steady s round waiting some_may = record {
  round = all_append (WantsRows s.cursors) s.round (take (places s) s.waiting) round (all_take (WantsRows s.cursors) (places s) s.waiting waiting);
  waiting = all_drop (WantsRows s.cursors) (places s) s.waiting waiting;
  full = full_or_none s.round s.waiting s.mpl;
  some_may = some_may;
}

-- a cursor is closed
pub closes_steady : (s : State) (name : CursorName) → IsSteady s → IsSteady (closes s name)
closes_steady s name steady =
    let P : CursorName → Type 0 = WantsRows s.cursors in
    let Q : CursorName → Type 0 = WantsRows (without_cursor s.cursors name) in
    let stays : (n : CursorName) → P n → same_cursor name n ≡ false → Q n = λ n w other. wants_without s.cursors name n w other in
    joined_steady (record s { cursors = without_cursor s.cursors name; round = without_name s.round name; waiting = without_name s.waiting name })
    (others_stay P Q s.round name stays steady.round) (others_stay P Q s.waiting name stays steady.waiting) steady.some_may

-- a cursor rests
leaves_steady : (s : State) (name : CursorName) (old new : CursorState) → cursor_named s.cursors name ≡ Some old → new.name ≡ old.name → IsSteady s
    → IsSteady (leaves (becomes s name new) name)
leaves_steady s name old new is same steady =
    let P : CursorName → Type 0 = WantsRows s.cursors in
    let Q : CursorName → Type 0 = WantsRows (cursor_set s.cursors name new) in
    let stays : (n : CursorName) → P n → same_cursor name n ≡ false → Q n = λ n w other. wants_set_other s.cursors name old new is same n w other in
    joined_steady (record (becomes s name new) { round = without_name s.round name; waiting = without_name s.waiting name })
    (others_stay P Q s.round name stays steady.round) (others_stay P Q s.waiting name stays steady.waiting) steady.some_may

-- ---- turns

pub task_steady : (s : State) (task : Option Task) → IsSteady s → IsSteady (record s { task = task })
task_steady s task steady = record { round = steady.round; waiting = steady.waiting; full = steady.full; some_may = steady.some_may }

wants_itself : (s : State) (name : CursorName) (old new : CursorState) → cursor_named s.cursors name ≡ Some old → new.name ≡ old.name → wants_more new.wanted ≡ true
    → WantsRows (cursor_set s.cursors name new) name
wants_itself s name old new is same wants = record { cursor = new; is_there = named_set_itself s.cursors name old new is same; wants = wants }

to_back_steady : (s : State) (name : CursorName) (others : List CursorName) (old new : CursorState) → s.round ≡ name ∷ others → cursor_named s.cursors name ≡ Some old
    → new.name ≡ old.name → wants_more new.wanted ≡ true → IsSteady s → IsSteady (record (becomes s name new) { round = others ++ name ∷ [] })
to_back_steady s name others old new front is same wants steady =
    let P : CursorName → Type 0 = WantsRows s.cursors in
    let Q : CursorName → Type 0 = WantsRows (cursor_set s.cursors name new) in
    let stays : (n : CursorName) → P n → Q n = wants_set s.cursors name old new is same wants in
    let turned : AllByRecursion P (name ∷ others) = subst (AllByRecursion P) front steady.round in
    let as_many : length (others ++ name ∷ []) ≡ length s.round = simp length-append (omega (arith, ap length front)) in
    record {
      round = all_append Q others (name ∷ []) (all_weaker P Q others stays turned.1) (all_one Q name (wants_itself s name old new is same wants));
      waiting = all_weaker P Q s.waiting stays steady.waiting;
      full = ⊎_elim (λ none. inl none) (λ many. inr (omega arith)) steady.full;
      some_may = steady.some_may;
    }

going_on_steady : (s : State) (name : CursorName) (others : List CursorName) (old new : CursorState) → s.round ≡ name ∷ others → cursor_named s.cursors name ≡ Some old
    → new.name ≡ old.name → IsSteady s → IsSteady (counted (goes_on s name others new))
going_on_steady s name others old new front is same steady = go (wants_more new.wanted) refl
  where
    go : (b : Bool) → wants_more new.wanted ≡ b → IsSteady (counted (goes_on s name others new))
    go true e =
        let on : IsSteady (record (becomes s name new) { round = others ++ name ∷ [] }) = to_back_steady s name others old new front is same e steady in
        rw e (task_steady (record (becomes s name new) { round = others ++ name ∷ [] }) (one_more s.task) on)
    go false e =
        let off : IsSteady (leaves (becomes s name new) name) = leaves_steady s name old new is same steady in
        rw e (task_steady (leaves (becomes s name new) name) (one_more s.task) off)

closing_steady : (s : State) (name : CursorName) → IsSteady s → IsSteady (counted (closes s name))
closing_steady s name steady = task_steady (closes s name) (one_more s.task) (closes_steady s name steady)

pub becomes_so : (P : State → Type 0) (new made : State) → new ≡ made → P made → P new
becomes_so P new made is p = subst P (sym is) p

pub turn_steady : (old new : State) (lines : List ReplyLine) → Turn old lines new → IsSteady old → IsSteady new
turn_steady old new lines (gives_row name c others pair left held has fine may taken holds said is) steady =
    becomes_so IsSteady new _ is (going_on_steady old name others c (record c { left = left; wanted = one_less c.wanted; held = held }) has.front has.is_there refl steady)
turn_steady old new lines (ends name c others held has fine none holds said is) steady =
    becomes_so IsSteady new _ is (going_on_steady old name others c (record c { wanted = Some 0; held = held }) has.front has.is_there refl steady)
turn_steady old new lines (groups_too_many name c others has many said is) steady = becomes_so IsSteady new _ is (closing_steady old name steady)
turn_steady old new lines (reaches_limit name c others held has above below need said is) steady = becomes_so IsSteady new _ is (closing_steady old name steady)
turn_steady old new lines (fails name c others line has licensed said is) steady = becomes_so IsSteady new _ is (closing_steady old name steady)

-- ---- starting

pub starts_steady : (s : State) (name : CursorName) (old new : CursorState) (wanted : Option ℕ) → cursor_named s.cursors name ≡ Some old → new.name ≡ old.name
    → wants_more wanted ≡ true → IsSteady s → IsSteady (starts s name new wanted)
starts_steady s name old new wanted is same wants steady = go (ltb (length s.round) s.mpl) refl
  where
    set : CursorState
    set = record new { wanted = wanted }

    stays : (n : CursorName) → WantsRows s.cursors n → WantsRows (cursor_set s.cursors name (record new { wanted = wanted })) n
    stays = wants_set s.cursors name old (record new { wanted = wanted }) is same wants

    itself : WantsRows (cursor_set s.cursors name (record new { wanted = wanted })) name
    itself = wants_itself s name old (record new { wanted = wanted }) is same wants

    go : (b : Bool) → ltb (length s.round) s.mpl ≡ b → IsSteady (starts s name new wanted)
    go true e =
        let Q : CursorName → Type 0 = WantsRows (cursor_set s.cursors name (record new { wanted = wanted })) in
        let few : length s.round < s.mpl = ltb-true (length s.round) s.mpl e in
        let none : s.waiting ≡ [] = ⊎_elim (λ p. p) (λ many. absurd (omega arith)) steady.full in
        rw e (record {
          round = all_append Q s.round (name ∷ []) (all_weaker (WantsRows s.cursors) Q s.round stays steady.round) (all_one Q name itself);
          waiting = all_weaker (WantsRows s.cursors) Q s.waiting stays steady.waiting;
          full = inl none;
          some_may = steady.some_may;
        })
    go false e =
        let Q : CursorName → Type 0 = WantsRows (cursor_set s.cursors name (record new { wanted = wanted })) in
        let many : s.mpl ≤ length s.round = ltb-false (length s.round) s.mpl e in
        rw e (record {
          round = all_weaker (WantsRows s.cursors) Q s.round stays steady.round;
          waiting = all_append Q s.waiting (name ∷ []) (all_weaker (WantsRows s.cursors) Q s.waiting stays steady.waiting) (all_one Q name itself);
          full = inr many;
          some_may = steady.some_may;
        })

pub opened_steady : (s : State) (c : CursorState) → IsSteady s → IsSteady (record s { cursors = s.cursors ++ c ∷ [] })
opened_steady s c steady = record {
  round = all_weaker (WantsRows s.cursors) (WantsRows (s.cursors ++ c ∷ [])) s.round (λ n w. wants_more_open s.cursors (c ∷ []) n w) steady.round;
  waiting = all_weaker (WantsRows s.cursors) (WantsRows (s.cursors ++ c ∷ [])) s.waiting (λ n w. wants_more_open s.cursors (c ∷ []) n w) steady.waiting;
  full = steady.full;
  some_may = steady.some_may;
}

pub mpl_steady : (s : State) (n : ℕ) → 1 ≤ n → IsSteady s → IsSteady (joined (record s { mpl = n }))
mpl_steady s n some steady = joined_steady (record s { mpl = n }) steady.round steady.waiting some

-- a cursor of that name is there, when one was opened
pub one_is_named : (cursors : List CursorState) (c : CursorState) → c.name ≡ None → (old : CursorState) × (cursor_named (cursors ++ c ∷ []) None ≡ Some old) × (old.name ≡ None)
one_is_named [] c nameless = (c, rw nameless refl, nameless)
one_is_named (x ∷ cs) c nameless = go (same_cursor None x.name) refl (one_is_named cs c nameless)
  where
    no_name : (name : CursorName) → same_cursor None name ≡ true → name ≡ None
    no_name None e = refl
    no_name (Some n) e = absurd (true≢false (sym e))

    go : (b : Bool) → same_cursor None x.name ≡ b → (old : CursorState) × (cursor_named (cs ++ c ∷ []) None ≡ Some old) × (old.name ≡ None)
        → (old : CursorState) × (cursor_named ((x ∷ cs) ++ c ∷ []) None ≡ Some old) × (old.name ≡ None)
    go true e later = (x, rw e refl, no_name x.name e)
    go false e later = (later.0, rw e later.1, later.2)
