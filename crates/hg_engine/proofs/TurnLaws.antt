-- Turns of the SELECT at work are turns of the plain machine, and its end is the machine's.
use Rattle.std.specs.Prelude.{◌≡◌, ℕ, zero, suc, ◌-◌, ◌≤◌, ◌<◌, Bool, true, false, List, [], ◌∷◌, ◌++◌, length, map, take, drop, Option, Some, None}
use Rattle.std.specs.List.{All, Contains}
use Rattle.std.specs.List.Sorted.{IsPermutation}
use Rattle.std.proofs.Common.{sym, ◌∙◌, ap, subst, refl, arith, inl}
use Rattle.std.proofs.lemmas.Bool.{false≢true}
use Rattle.std.proofs.lemmas.List.{append-nil}
use Rattle.std.proofs.lemmas.List.Elements.{All-from_get_or}
use Rattle.std.proofs.lemmas.List.Sorted.{IsPermutation-sym, Contains-permutation}
use Rattle.hg_base.specs.Space.{Space}
use Rattle.hg_base.specs.Steadiness.{Steady}
use Rattle.hg_base.specs.declared.Check.{Check}
use Rattle.hg_base.specs.declared.File.{File}
use Rattle.hg_base.specs.declared.File.TheVariants.{Main, Temp}
use Rattle.hg_base.specs.declared.PageId.{PageId}
use Rattle.hg_machine.specs.Plain.Licences.{device_failed}
use Rattle.hg_machine.specs.Plain.Loose.{Alike, with_any_rows, finds_damage}
use Rattle.hg_machine.specs.Plain.Refused.{damaged}
use Rattle.hg_machine.specs.Plain.Replies.{ReplyLine, CursorName, row, ended, closed, device_fault}
use Rattle.hg_machine.specs.Plain.Rounds.{joined, places}
use Rattle.hg_machine.specs.Plain.Run.{Closes, select_ends, rests, dropped, turn_given, last_turn_given, goes_on_working}
use Rattle.hg_machine.specs.Plain.State.{State, TableState, Fetches}
use Rattle.hg_machine.specs.Plain.Turn.{Turn, HasTurn, gives_row, ends, fails, counted}
use Rattle.hg_model.specs.Order.{Pair, MayComeNext, stands_before}
use Rattle.hg_model.specs.declared.tables.SortKey.{SortKey}
use Rattle.hg_model.specs.declared.values.Value.{Value}
use Rattle.hg_reply.specs.Steps.{ContinuesSo}
use Rattle.hg_table.specs.Calls.{none_mine, TakesNone}
use Rattle.hg_exec.specs.Planned.{keyless}
use Rattle.hg_engine.specs.Standing.{Left, cursor_with, nothing_left, state_of}
use Rattle.hg_engine.specs.Steps.{MaySee}
use Rattle.hg_engine.specs.declared.open.OpenSelect.{OpenSelect}
use Rattle.hg_engine.proofs.PageLaws.{taken-still}

-- ---- what one call continues with

pub continues-row : (told : Bool) (old seen new : State) (lines : List ReplyLine) → MaySee told old seen → Turn seen lines new → goes_on_working new ≡ true
    → ContinuesSo told old lines new
continues-row true old seen new lines see turn on = turn_given (subst (λ s. Turn s lines new) (see.itself refl) turn) on
continues-row false old seen new lines see turn on = turn_given (with_any_rows seen see.alike turn) on

pub continues-last : (told : Bool) (old seen between new : State) (lines : List ReplyLine) → MaySee told old seen → Turn seen lines between
    → goes_on_working between ≡ false → Closes between [] new → ContinuesSo told old lines new
continues-last true old seen between new lines see turn off close = last_turn_given between (subst (λ s. Turn s lines between) (see.itself refl) turn) off close
continues-last false old seen between new lines see turn off close =
    last_turn_given between (with_any_rows seen see.alike turn) off (with_any_rows between refl close)

pub continues-damaged : (told : Bool) (old between new : State) (file : File) (page : PageId) (check : Check) (more : List ReplyLine) → told ≡ false
    → Turn old (device_fault file ∷ more) between → goes_on_working between ≡ false → Closes between [] new
    → ContinuesSo told old (damaged page check ∷ more) new
continues-damaged true old between new file page check more untold turn off close = absurd (false≢true (sym untold))
continues-damaged false old between new file page check more untold turn off close =
    last_turn_given between (finds_damage old file page check more tt refl turn refl) off (with_any_rows between refl close)

-- ---- nobody waits

take-none : {X : Type 0} (n : ℕ) → ◌≡◌ {A = List X} (take n []) []
take-none zero = refl
take-none (suc n) = refl

drop-none : {X : Type 0} (n : ℕ) → ◌≡◌ {A = List X} (drop n []) []
drop-none zero = refl
drop-none (suc n) = refl

-- where nobody waits, none joins
joined-none : (s : State) → s.waiting ≡ [] → joined s ≡ s
joined-none s e =
    (λ i. record s { round = s.round ++ take (places s) (e i); waiting = drop (places s) (e i) })
    ∙ (λ i. record s { round = s.round ++ take-none {X = CursorName} (places s) i; waiting = drop-none {X = CursorName} (places s) i })
    ∙ (λ i. record s { round = append-nil s.round i; waiting = sym e i })

-- ---- the states of a SELECT

-- the same bounds, with other pairs left
abbrev pub leaves_pairs : Left → List Pair → Left
leaves_pairs left pairs = record { pairs = pairs; floor = left.floor; need = left.need }

module _ (s : Space) (max mpl : ℕ) (marks : List Bool) (w : OpenSelect) (tables : List TableState) where
  abbrev pub at_work : Left → State
  at_work left = state_of s max mpl marks (Some w) tables left

  abbrev pub at_rest : State
  at_rest = state_of s max mpl marks None tables nothing_left

  -- behind its end, when its cursor rests
  abbrev rested : Left → State
  rested left = record at_rest { cursors = record (cursor_with left) { wanted = Some 0 } ∷ []; task = Some (Fetches None) }

  -- and when its cursor was closed
  abbrev shut : State
  shut = record at_rest { task = Some (Fetches None) }

  has-turn : (left : Left) → HasTurn (at_work left) None (cursor_with left) []
  has-turn left = record { turns = refl; front = refl; is_there = refl; wants = refl }

  close-rested : (left : Left) → Closes (rested left) [] at_rest
  close-rested left = select_ends refl refl refl (sym (ap rests (joined-none shut refl)))

  close-shut : Closes shut [] at_rest
  close-shut = select_ends refl refl refl (sym (ap rests (joined-none shut refl)))

  -- no pair stands before one without keys
  before-keyless : (keys : List SortKey) (before values : List Value) → stands_before (record { row = before; keys = keys }) (keyless values) ≡ false
  before-keyless [] before values = refl
  before-keyless (k ∷ ks) before values = refl

  may-come : (left others : List Pair) (values : List Value) → IsPermutation left (keyless values ∷ others) → MayComeNext (keyless values) left
  may-come left others values p = record {
    is_left = Contains-permutation (keyless values ∷ others) left (keyless values) (IsPermutation-sym left (keyless values ∷ others) p) (0, omega arith, refl);
    first = All-from_get_or (λ (other : Pair). stands_before other (keyless values) ≡ false) left (keyless [])
        (λ k h. let o : Pair = Rattle.std.specs.Prelude.slice_index_or left k (keyless []) in before-keyless o.keys o.row values);
  }

  pub turn-row : (left : Left) (others : List Pair) (values : List Value) → IsPermutation left.pairs (keyless values ∷ others)
      → Turn (at_work left) (row None values ∷ []) (at_work (leaves_pairs left others))
  turn-row left others values p =
      gives_row None (cursor_with left) [] (keyless values) others 0 (has-turn left) refl (may-come left.pairs others values p) p (inl (omega arith)) refl refl

  pub turn-end : (left : Left) → left.pairs ≡ [] → Turn (at_work left) (ended None ∷ []) (rested left)
  turn-end left none = ends None (cursor_with left) [] 0 (has-turn left) refl none (inl (omega arith)) refl (sym (ap counted (joined-none (rested left) refl)))

  pub turn-fails : (left : Left) (file : File) → Turn (at_work left) (device_fault file ∷ closed None ∷ []) shut
  turn-fails left file =
      fails None (cursor_with left) [] (device_fault file) (has-turn left) (device_failed file refl) refl (sym (ap counted (joined-none shut refl)))

  -- what stands on no page is the same, whatever is left
  alike-left : (old : Left) (new : List Pair) → Alike (at_work old) (at_work (leaves_pairs old new))
  alike-left old new = refl

  pub see-left : (told : Bool) (left : Left) (chosen : List Pair) → (told ≡ true → chosen ≡ left.pairs) → MaySee told (at_work left) (at_work (leaves_pairs left chosen))
  see-left told left chosen same = record { itself = λ t. ap (λ pairs. at_work (leaves_pairs left pairs)) (same t); alike = refl }

  -- ---- the three ways of one call

  pub call-row : (told : Bool) (left : Left) (chosen others : List Pair) (values : List Value) → (told ≡ true → chosen ≡ left.pairs)
      → IsPermutation chosen (keyless values ∷ others) → ContinuesSo told (at_work left) (row None values ∷ []) (at_work (leaves_pairs left others))
  call-row told left chosen others values same p =
      continues-row told (at_work left) (at_work (leaves_pairs left chosen)) (at_work (leaves_pairs left others)) (row None values ∷ []) (see-left told left chosen same)
      (turn-row (leaves_pairs left chosen) others values p) refl

  pub call-end : (told : Bool) (left : Left) → (told ≡ true → left.pairs ≡ []) → ContinuesSo told (at_work left) (ended None ∷ []) at_rest
  call-end told left none =
      continues-last told (at_work left) (at_work (leaves_pairs left [])) (rested (leaves_pairs left [])) at_rest (ended None ∷ []) (see-left told left [] (λ t. sym (none t)))
      (turn-end (leaves_pairs left []) refl) refl (close-rested (leaves_pairs left []))

  pub call-fails : (told : Bool) (left : Left) (file : File) → ContinuesSo told (at_work left) (device_fault file ∷ closed None ∷ []) at_rest
  call-fails told left file =
      continues-last told (at_work left) (at_work left) shut at_rest (device_fault file ∷ closed None ∷ []) (see-left told left left.pairs (λ t. refl)) (turn-fails left file) refl close-shut

  pub call-damaged : (told : Bool) (left : Left) (page : PageId) (check : Check) → told ≡ false
      → ContinuesSo told (at_work left) (damaged page check ∷ closed None ∷ []) at_rest
  call-damaged told left page check untold =
      continues-damaged told (at_work left) shut at_rest Main page check (closed None ∷ []) untold (turn-fails left Main) refl close-shut

-- a command that is dropped
pub dropped-is : (s : Space) (max mpl : ℕ) (marks : List Bool) (work : Option OpenSelect) (tables : List TableState) (left : Left)
    → dropped (state_of s max mpl marks work tables left) ≡ state_of s max mpl marks None tables nothing_left
dropped-is s max mpl marks None tables left = ap rests (joined-none (state_of s max mpl marks None tables nothing_left) refl)
dropped-is s max mpl marks (Some w) tables left = ap rests (joined-none (shut s max mpl marks w tables) refl)

-- ---- a call that owns no page and took none

pub state-still : (a b : Space) (max mpl : ℕ) (marks : List Bool) (work : Option OpenSelect) (tables : List TableState) (left : Left)
    → Steady none_mine a b → TakesNone a b → state_of b max mpl marks work tables left ≡ state_of a max mpl marks work tables left
state-still a b max mpl marks work tables left steady none = λ i. record (state_of b max mpl marks work tables left) {
  current = steady.current i;
  used = taken-still Main a b steady none i;
  over = taken-still Temp a b steady none i;
  main_limit = steady.limit i Main;
  temp_limit = steady.limit i Temp;
}
