-- Lines of a reply, and what they count.
use Rattle.std.specs.Prelude.{◌≡◌, ℕ, ◌+◌, Bool, true, false, ◌||◌, List, [], ◌∷◌, ◌++◌, None, if◌then◌else◌}
use Rattle.std.proofs.Common.{sym, ◌∙◌, ap, refl, arith}
use Rattle.std.proofs.lemmas.Bool.{false≢true}
use Rattle.std.proofs.lemmas.List.{append-nil}
use Rattle.hg_base.specs.Space.{Space, NoPins}
use Rattle.hg_base.specs.Count.{Rose}
use Rattle.hg_base.specs.Causes.{Later, MainFailed, TempFailed, PinFault}
use Rattle.hg_base.specs.Steadiness.{Mine, Steady}
use Rattle.hg_base.specs.SteadyLaws.{Later_same}
use Rattle.hg_base.specs.declared.Check.{Check}
use Rattle.hg_base.specs.declared.PageId.{PageId}
use Rattle.hg_base.specs.declared.pages.PageFault.{PageFault}
use Rattle.hg_base.specs.declared.pages.PageFault.TheVariants as fault
use Rattle.hg_dml.specs.Putting.{PutFault}
use Rattle.hg_dml.specs.Updating.{UpdateFault}
use Rattle.hg_machine.specs.Plain.Refused.{refusal_line}
use Rattle.hg_machine.specs.Plain.Replies.{ReplyLine, closed, line_text, text_of, has_error, is_error, is_code, code_lines}
use Rattle.hg_model.specs.Refusal.{Refusal, UnknownTable, UnknownColumn, AmbiguousColumn, TypeMismatch, TooWide, NameTaken, TooMany, NotGrouped, DoesNotFit, NullNotAllowed, DuplicateKey, BadNumber, RowTooLong, StampsUsedUp, KeyTooLong}
use Rattle.hg_reply.specs.Steps.{HasLines, Findings, TellOnlyFound}
use Rattle.hg_reply.specs.declared.reply.Reply.{Reply}
use Rattle.hg_engine.specs.Stepping.{CountedIn, IsSameSpace, TurnFault, line_of}

text-one : (line : ReplyLine) → line_text line ≡ text_of (line ∷ [])
unfolding text_of
text-one line = sym (append-nil (line_text line))

error-one : (line : ReplyLine) → is_error line ≡ has_error (line ∷ [])
unfolding has_error
error-one line = elim (is_error line) as (λ b. b ≡ (b || false)) [ true ↦ refl | false ↦ refl ]

-- one line, in a reply that had none
pub tells-one : (old new : Reply) (line : ReplyLine) → old.text.items ≡ [] → old.has_error ≡ false → new.text.items ≡ old.text.items ++ line_text line
    → new.has_error ≡ (old.has_error || is_error line) → HasLines new (line ∷ [])
tells-one old new line empty clean text errors = record {
  text = text ∙ ap (λ t. t ++ line_text line) empty ∙ text-one line;
  errors = errors ∙ ap (λ b. b || is_error line) clean ∙ error-one line;
}

pub tells-none : (reply : Reply) → reply.text.items ≡ [] → reply.has_error ≡ false → HasLines reply []
unfolding text_of has_error
tells-none reply empty clean = record { text = empty; errors = clean }

text-two : (one other : ReplyLine) → line_text one ++ line_text other ≡ text_of (one ∷ other ∷ [])
unfolding text_of
text-two one other = ap (λ t. line_text one ++ t) (sym (append-nil (line_text other)))

error-two : (one other : ReplyLine) → (is_error one || is_error other) ≡ has_error (one ∷ other ∷ [])
unfolding has_error
error-two one other = ap (λ b. is_error one || b) (elim (is_error other) as (λ b. b ≡ (b || false)) [ true ↦ refl | false ↦ refl ])

-- two lines, in a reply that had none
pub tells-two : (old mid new : Reply) (one other : ReplyLine) → old.text.items ≡ [] → old.has_error ≡ false
    → mid.text.items ≡ old.text.items ++ line_text one → mid.has_error ≡ (old.has_error || is_error one)
    → new.text.items ≡ mid.text.items ++ line_text other → new.has_error ≡ (mid.has_error || is_error other) → HasLines new (one ∷ other ∷ [])
tells-two old mid new one other empty clean text errors more worse = record {
  text = more ∙ ap (λ t. t ++ line_text other) (text ∙ ap (λ t. t ++ line_text one) empty) ∙ text-two one other;
  errors = worse ∙ ap (λ b. b || is_error other) (errors ∙ ap (λ b. b || is_error one) clean) ∙ error-two one other;
}

-- ---- spaces

pub same-space : (m : Mine) (a b : Space) → Steady m a b → IsSameSpace a b
same-space m a b s = record { told = s.told; limit = s.limit; device_limit = s.device_limit; pins = s.pins_after; later = s.counts }

pub same-here : (a : Space) → NoPins a → IsSameSpace a a
same-here a pins = record { told = refl; limit = refl; device_limit = refl; pins = pins; later = Later_same a.counts }

-- ---- what lines count

-- how often lines say that each device failed, and that each file is full
pub record HasFaultLines (lines : List ReplyLine) (a b c d : ℕ) : Type 0 where
  pub main : code_lines 17 lines ≡ a
  pub temp : code_lines 18 lines ≡ b
  pub main_full : code_lines 19 lines ≡ c
  pub temp_full : code_lines 20 lines ≡ d

-- a line that says none of these
pub record IsQuiet (line : ReplyLine) : Type 0 where
  pub main : is_code 17 line ≡ false
  pub temp : is_code 18 line ≡ false
  pub main_full : is_code 19 line ≡ false
  pub temp_full : is_code 20 line ≡ false

says-quiet : (line : ReplyLine) → IsQuiet line → HasFaultLines (line ∷ []) 0 0 0 0
unfolding code_lines
says-quiet line q = record {
  main = ap (λ b. (if b then 1 else 0) + 0) q.main;
  temp = ap (λ b. (if b then 1 else 0) + 0) q.temp;
  main_full = ap (λ b. (if b then 1 else 0) + 0) q.main_full;
  temp_full = ap (λ b. (if b then 1 else 0) + 0) q.temp_full;
}

quiet-counted : (a b : Space) (lines : List ReplyLine) → Later a.counts b.counts → HasFaultLines lines 0 0 0 0 → CountedIn a b lines
quiet-counted a b lines later says = record {
  devices = record { main = (let s = says.main in let l = later.main_device in omega (arith, s, l)); temp = (let s = says.temp in let l = later.temp_device in omega (arith, s, l)) };
  full = record { main = (let s = says.main_full in let l = later.main_full in omega (arith, s, l)); temp = (let s = says.temp_full in let l = later.temp_full in omega (arith, s, l)) };
}

pub counted-plain : (a b : Space) (line : ReplyLine) → Later a.counts b.counts → IsQuiet line → CountedIn a b (line ∷ [])
counted-plain a b line later q = quiet-counted a b (line ∷ []) later (says-quiet line q)

pub counted-none : (a : Space) → CountedIn a a []
unfolding code_lines
counted-none a = quiet-counted a a [] (Later_same a.counts) (record { main = refl; temp = refl; main_full = refl; temp_full = refl })

-- the line of a refusal is quiet, and tells of no damage
pub refusal-quiet : (r : Refusal) → IsQuiet (refusal_line r)
refusal-quiet (UnknownTable t) = record { main = refl; temp = refl; main_full = refl; temp_full = refl }
refusal-quiet (UnknownColumn c) = record { main = refl; temp = refl; main_full = refl; temp_full = refl }
refusal-quiet (AmbiguousColumn c) = record { main = refl; temp = refl; main_full = refl; temp_full = refl }
refusal-quiet TypeMismatch = record { main = refl; temp = refl; main_full = refl; temp_full = refl }
refusal-quiet TooWide = record { main = refl; temp = refl; main_full = refl; temp_full = refl }
refusal-quiet (NameTaken n) = record { main = refl; temp = refl; main_full = refl; temp_full = refl }
refusal-quiet (TooMany k) = record { main = refl; temp = refl; main_full = refl; temp_full = refl }
refusal-quiet NotGrouped = record { main = refl; temp = refl; main_full = refl; temp_full = refl }
refusal-quiet (DoesNotFit c) = record { main = refl; temp = refl; main_full = refl; temp_full = refl }
refusal-quiet (NullNotAllowed c) = record { main = refl; temp = refl; main_full = refl; temp_full = refl }
refusal-quiet DuplicateKey = record { main = refl; temp = refl; main_full = refl; temp_full = refl }
refusal-quiet BadNumber = record { main = refl; temp = refl; main_full = refl; temp_full = refl }
refusal-quiet RowTooLong = record { main = refl; temp = refl; main_full = refl; temp_full = refl }
refusal-quiet StampsUsedUp = record { main = refl; temp = refl; main_full = refl; temp_full = refl }
refusal-quiet KeyTooLong = record { main = refl; temp = refl; main_full = refl; temp_full = refl }

refusal-sound : (r : Refusal) → is_code 21 (refusal_line r) ≡ false
refusal-sound (UnknownTable t) = refl
refusal-sound (UnknownColumn c) = refl
refusal-sound (AmbiguousColumn c) = refl
refusal-sound TypeMismatch = refl
refusal-sound TooWide = refl
refusal-sound (NameTaken n) = refl
refusal-sound (TooMany k) = refl
refusal-sound NotGrouped = refl
refusal-sound (DoesNotFit c) = refl
refusal-sound (NullNotAllowed c) = refl
refusal-sound DuplicateKey = refl
refusal-sound BadNumber = refl
refusal-sound RowTooLong = refl
refusal-sound StampsUsedUp = refl
refusal-sound KeyTooLong = refl

-- a line that tells of no damage
pub sound-line : (found : Findings) (line : ReplyLine) → is_code 21 line ≡ false → TellOnlyFound found (line ∷ [])
sound-line found line none = ((λ yes. absurd (false≢true (sym none ∙ yes))), tt)

pub sound-refusal : (found : Findings) (r : Refusal) → TellOnlyFound found (refusal_line r ∷ [])
sound-refusal found r = sound-line found (refusal_line r) (refusal-sound r)

-- ---- the lines of faults

main-says : (more : List ReplyLine) → HasFaultLines more 0 0 0 0 → HasFaultLines (line_of fault.MainFault ∷ more) 1 0 0 0
unfolding code_lines
main-says more q = record { main = ap (λ n. 1 + n) q.main; temp = ap (λ n. 0 + n) q.temp; main_full = ap (λ n. 0 + n) q.main_full; temp_full = ap (λ n. 0 + n) q.temp_full }

temp-says : (more : List ReplyLine) → HasFaultLines more 0 0 0 0 → HasFaultLines (line_of fault.TempFault ∷ more) 0 1 0 0
unfolding code_lines
temp-says more q = record { main = ap (λ n. 0 + n) q.main; temp = ap (λ n. 1 + n) q.temp; main_full = ap (λ n. 0 + n) q.main_full; temp_full = ap (λ n. 0 + n) q.temp_full }

full-says : (more : List ReplyLine) → HasFaultLines more 0 0 0 0 → HasFaultLines (line_of fault.MainFull ∷ more) 0 0 1 0
unfolding code_lines
full-says more q = record { main = ap (λ n. 0 + n) q.main; temp = ap (λ n. 0 + n) q.temp; main_full = ap (λ n. 1 + n) q.main_full; temp_full = ap (λ n. 0 + n) q.temp_full }

temp_full-says : (more : List ReplyLine) → HasFaultLines more 0 0 0 0 → HasFaultLines (line_of fault.TempFull ∷ more) 0 0 0 1
unfolding code_lines
temp_full-says more q = record { main = ap (λ n. 0 + n) q.main; temp = ap (λ n. 0 + n) q.temp; main_full = ap (λ n. 0 + n) q.main_full; temp_full = ap (λ n. 1 + n) q.temp_full }

damaged-says : (page : PageId) (check : Check) (more : List ReplyLine) → HasFaultLines more 0 0 0 0 → HasFaultLines (line_of (fault.Damaged page check) ∷ more) 0 0 0 0
unfolding code_lines
damaged-says page check more q = record { main = ap (λ n. 0 + n) q.main; temp = ap (λ n. 0 + n) q.temp; main_full = ap (λ n. 0 + n) q.main_full; temp_full = ap (λ n. 0 + n) q.temp_full }

main-counted : (a b : Space) (lines : List ReplyLine) → Later a.counts b.counts → MainFailed a.counts b.counts → HasFaultLines lines 1 0 0 0 → CountedIn a b lines
main-counted a b lines later h says = record {
  devices = record { main = (let s = says.main in let l = h.1 in omega (arith, s, l)); temp = (let s = says.temp in let l = later.temp_device in omega (arith, s, l)) };
  full = record { main = (let s = says.main_full in let l = later.main_full in omega (arith, s, l)); temp = (let s = says.temp_full in let l = later.temp_full in omega (arith, s, l)) };
}

temp-counted : (a b : Space) (lines : List ReplyLine) → Later a.counts b.counts → TempFailed a.counts b.counts → HasFaultLines lines 0 1 0 0 → CountedIn a b lines
temp-counted a b lines later h says = record {
  devices = record { main = (let s = says.main in let l = later.main_device in omega (arith, s, l)); temp = (let s = says.temp in let l = h.1 in omega (arith, s, l)) };
  full = record { main = (let s = says.main_full in let l = later.main_full in omega (arith, s, l)); temp = (let s = says.temp_full in let l = later.temp_full in omega (arith, s, l)) };
}

full-counted : (a b : Space) (lines : List ReplyLine) → Later a.counts b.counts → Rose a.counts.main_full b.counts.main_full → HasFaultLines lines 0 0 1 0 → CountedIn a b lines
full-counted a b lines later h says = record {
  devices = record { main = (let s = says.main in let l = later.main_device in omega (arith, s, l)); temp = (let s = says.temp in let l = later.temp_device in omega (arith, s, l)) };
  full = record { main = (let s = says.main_full in omega (arith, s, h)); temp = (let s = says.temp_full in let l = later.temp_full in omega (arith, s, l)) };
}

temp_full-counted : (a b : Space) (lines : List ReplyLine) → Later a.counts b.counts → Rose a.counts.temp_full b.counts.temp_full → HasFaultLines lines 0 0 0 1 → CountedIn a b lines
temp_full-counted a b lines later h says = record {
  devices = record { main = (let s = says.main in let l = later.main_device in omega (arith, s, l)); temp = (let s = says.temp in let l = later.temp_device in omega (arith, s, l)) };
  full = record { main = (let s = says.main_full in let l = later.main_full in omega (arith, s, l)); temp = (let s = says.temp_full in omega (arith, s, h)) };
}

none-says : HasFaultLines [] 0 0 0 0
unfolding code_lines
none-says = record { main = refl; temp = refl; main_full = refl; temp_full = refl }

pub put-counted : (a b : Space) (n : ℕ) (f : PageFault) → Later a.counts b.counts → PutFault a b n f → CountedIn a b (line_of f ∷ [])
put-counted a b n fault.MainFault later h = main-counted a b _ later h (main-says [] none-says)
put-counted a b n fault.TempFault later h = temp-counted a b _ later h (temp-says [] none-says)
put-counted a b n fault.MainFull later h = full-counted a b _ later h.1 (full-says [] none-says)
put-counted a b n fault.TempFull later h = absurd h
put-counted a b n (fault.Damaged page check) later h = quiet-counted a b _ later (damaged-says page check [] none-says)

pub update-counted : (a b : Space) (n : ℕ) (f : PageFault) → Later a.counts b.counts → UpdateFault a b n f → CountedIn a b (line_of f ∷ [])
update-counted a b n fault.MainFault later h = main-counted a b _ later h (main-says [] none-says)
update-counted a b n fault.TempFault later h = temp-counted a b _ later h (temp-says [] none-says)
update-counted a b n fault.MainFull later h = full-counted a b _ later h.1 (full-says [] none-says)
update-counted a b n fault.TempFull later h = temp_full-counted a b _ later h.1 (temp_full-says [] none-says)
update-counted a b n (fault.Damaged page check) later h = quiet-counted a b _ later (damaged-says page check [] none-says)

-- a look that failed, with no line behind its own
pub look-counted : (a b : Space) (f : PageFault) → Later a.counts b.counts → TurnFault a b f → CountedIn a b (line_of f ∷ [])
look-counted a b fault.MainFault later h = main-counted a b _ later h (main-says [] none-says)
look-counted a b fault.TempFault later h = temp-counted a b _ later h (temp-says [] none-says)
look-counted a b fault.MainFull later h = absurd h
look-counted a b fault.TempFull later h = absurd h
look-counted a b (fault.Damaged page check) later h = quiet-counted a b _ later (damaged-says page check [] none-says)

-- the line of a pin that failed tells of no damage
pub pin-sound : (found : Findings) (f : PageFault) → PinFault f → TellOnlyFound found (line_of f ∷ [])
pin-sound found fault.MainFault h = sound-line found (line_of fault.MainFault) refl
pin-sound found fault.TempFault h = sound-line found (line_of fault.TempFault) refl
pin-sound found fault.MainFull h = absurd h
pin-sound found fault.TempFull h = absurd h
pin-sound found (fault.Damaged page check) h = absurd h

closed-says : HasFaultLines (closed None ∷ []) 0 0 0 0
closed-says = says-quiet (closed None) (record { main = refl; temp = refl; main_full = refl; temp_full = refl })

pub turn-counted : (a b : Space) (f : PageFault) → Later a.counts b.counts → TurnFault a b f → CountedIn a b (line_of f ∷ closed None ∷ [])
turn-counted a b fault.MainFault later h = main-counted a b _ later h (main-says _ closed-says)
turn-counted a b fault.TempFault later h = temp-counted a b _ later h (temp-says _ closed-says)
turn-counted a b fault.MainFull later h = absurd h
turn-counted a b fault.TempFull later h = absurd h
turn-counted a b (fault.Damaged page check) later h = quiet-counted a b _ later (damaged-says page check _ closed-says)

pub or-false : (b : Bool) → b ≡ (b || false)
or-false true = refl
or-false false = refl

pub error-of-fault : (f : PageFault) → is_error (line_of f) ≡ true
error-of-fault fault.MainFault = refl
error-of-fault fault.TempFault = refl
error-of-fault fault.MainFull = refl
error-of-fault fault.TempFull = refl
error-of-fault (fault.Damaged page check) = refl
