-- lines are cut at line feeds
use Rattle.std.specs.Prelude.{◌≡◌, ◌≢◌, ℕ, zero, suc, ◌+◌, ◌-◌, ◌<◌, ◌≤◌, ◌==◌, Bool, true, false, List, [], ◌∷◌, ◌++◌, length, take, if◌then◌else◌, ◌↔◌, Result, Ok, Err, IsOk, OnOk}
use Rattle.std.proofs.Common.{refl, sym, ap, ◌∙◌, arith, append_assoc, append-nil, get_or, drop, drop-cons, length-take, length-append}
use Rattle.std.proofs.lemmas.Bool.{false≢true}
use Rattle.std.proofs.lemmas.Bool.Decides.{nat_tests}
use Rattle.std.proofs.lemmas.List.{take_all, take-append-le, take-append-drop}
use Rattle.std.proofs.Math.Seq.{take-append-add}
use Rattle.hg_model.specs.Script.{Line, ended_lines, last_part, whole_lines}
use Rattle.hg_machine.specs.Plain.State.{State}
use Rattle.hg_serve.specs.declared.session.Session.{Session}
use Rattle.hg_serve.specs.Output.{Moment}
use Rattle.hg_serve.specs.Serving.{HasNoFeed, Serves}
use Rattle.hg_serve.proofs.Scripts.{whole_lines-append, last_part-append}

pub no-feed-front : (bytes : List ℕ) (n : ℕ) → ((k : ℕ) → k < n → get_or bytes k 0 ≢ 10) → HasNoFeed (take n bytes)
no-feed-front [] zero none = tt
no-feed-front [] (suc n) none = tt
no-feed-front (b ∷ bs) zero none = tt
no-feed-front (b ∷ bs) (suc n) none = (none 0 (omega arith), no-feed-front bs n (λ k less. none (suc k) (omega arith)))

pub no-feed : (bytes : List ℕ) → ((k : ℕ) → k < length bytes → get_or bytes k 0 ≢ 10) → HasNoFeed bytes
no-feed [] none = tt
no-feed (b ∷ bs) none = (none 0 (omega arith), no-feed bs (λ k less. none (suc k) (omega arith)))

-- bytes are those before one of them, it, and those behind it
pub parts-of : (bytes : List ℕ) (k : ℕ) → k < length bytes → get_or bytes k 0 ≡ 10 → bytes ≡ take k bytes ++ 10 ∷ drop (suc k) bytes
parts-of bytes k less is =
    sym (take-append-drop k bytes) ∙ ap (λ l. take k bytes ++ l) (drop-cons bytes k 0 less ∙ ap (λ b. b ∷ drop (suc k) bytes) is)

ended-none : (part bs : List ℕ) → HasNoFeed bs → ended_lines part bs ≡ []
unfolding ended_lines
ended-none part [] h = refl
ended-none part (b ∷ bs) h =
    let apart : b ≢ 10 = h.0 in
    let other : (b == 10) ≡ false = grind (arith, nat_tests) in
    let line : Line = record { bytes = part; ended = true } in
    ap (λ t. if t then line ∷ ended_lines [] bs else ended_lines (part ++ b ∷ []) bs) other ∙ ended-none (part ++ b ∷ []) bs h.1

last-none : (part bs : List ℕ) → HasNoFeed bs → last_part part bs ≡ part ++ bs
unfolding last_part
last-none part [] h = sym (append-nil part)
last-none part (b ∷ bs) h =
    let apart : b ≢ 10 = h.0 in
    let other : (b == 10) ≡ false = grind (arith, nat_tests) in
    ap (λ t. if t then last_part [] bs else last_part (part ++ b ∷ []) bs) other ∙ last-none (part ++ b ∷ []) bs h.1 ∙ append_assoc part (b ∷ []) bs

pub ok-gives : {T E : Type 0} (r : Result T E) (P Q : Type 0) → (IsOk r ↔ Q) → Q → OnOk r P → P
ok-gives (Ok x) P Q iff q h = h
ok-gives (Err e) P Q iff q h = absurd (false≢true (iff.1 q))

-- what is kept of a line that goes on by these bytes
pub keeps-part : (kept whole bytes : List ℕ) → kept ≡ take 4097 whole → kept ++ take (4097 - length kept) bytes ≡ take 4097 (whole ++ bytes)
keeps-part kept whole bytes is = by-room (4097 - length whole) refl
  where
    by-room : (room : ℕ) → 4097 - length whole ≡ room → kept ++ take (4097 - length kept) bytes ≡ take 4097 (whole ++ bytes)
    by-room zero none =
        let long : 4097 ≤ length whole = omega arith in
        let full : 4097 - length kept ≡ 0 = omega (arith, ap length is, length-take 4097 whole) in
        ap (λ n. kept ++ take n bytes) full ∙ append-nil kept ∙ is ∙ sym (take-append-le 4097 whole bytes long)
    by-room (suc n) some =
        let short : length whole ≤ 4097 = omega arith in
        let all : kept ≡ whole = is ∙ take_all 4097 whole short in
        let room : 4097 - length kept ≡ suc n = ap (λ l. 4097 - length l) all ∙ some in
        let sum : length whole + suc n ≡ 4097 = omega arith in
        ap (λ m. kept ++ take m bytes) room ∙ ap (λ l. l ++ take (suc n) bytes) all ∙ sym (take-append-add whole bytes (suc n)) ∙ ap (λ m. take m (whole ++ bytes)) sum

-- a session goes on by bytes that end no line
pub serves-part : {E : Type 0} (Stands : E → State → Type 0) (tells : Bool) (first now : E) (old new : Moment) (s t : Session) (taken bytes : List ℕ)
    → Serves Stands tells first now old new s taken → HasNoFeed bytes → t.output ≡ s.output
    → ((whole : List ℕ) → s.line.items ≡ take 4097 whole → t.line.items ≡ take 4097 (whole ++ bytes)) → Serves Stands tells first now old new t (taken ++ bytes)
serves-part Stands tells first now old new s t taken bytes serves none output kept = record {
  replies = serves.replies;
  moves = rw (whole_lines-append taken bytes, ended-none (last_part [] taken) bytes none, append-nil (whole_lines taken)) serves.moves;
  passes = rw output serves.passes;
  errors = rw output serves.errors;
  counted = serves.counted;
  said = serves.said;
  part = rw (last_part-append [] taken bytes, last-none (last_part [] taken) bytes none) (kept (last_part [] taken) serves.part);
}

-- bytes of which some are done, and the others begin with a line
pub parts-rest : (taken done front behind rest bytes : List ℕ) → bytes ≡ done ++ rest → rest ≡ front ++ 10 ∷ behind
    → ((taken ++ done) ++ (front ++ 10 ∷ [])) ++ behind ≡ taken ++ bytes
parts-rest taken done front behind rest bytes all is =
    append_assoc (taken ++ done) (front ++ 10 ∷ []) behind ∙ append_assoc taken done ((front ++ 10 ∷ []) ++ behind)
    ∙ ap (λ l. taken ++ (done ++ l)) (append_assoc front (10 ∷ []) behind ∙ sym is) ∙ ap (λ l. taken ++ l) (sym all)

pub parts-done : (done front behind rest bytes : List ℕ) → bytes ≡ done ++ rest → rest ≡ front ++ 10 ∷ behind
    → bytes ≡ (done ++ (front ++ 10 ∷ [])) ++ behind
parts-done done front behind rest bytes all is =
    all ∙ ap (λ l. done ++ l) (is ∙ sym (append_assoc front (10 ∷ []) behind)) ∙ sym (append_assoc done (front ++ 10 ∷ []) behind)

pub parts-last : (taken done rest bytes : List ℕ) → bytes ≡ done ++ rest → (taken ++ done) ++ rest ≡ taken ++ bytes
parts-last taken done rest bytes all = append_assoc taken done rest ∙ ap (λ l. taken ++ l) (sym all)

pub shorter : (front behind rest : List ℕ) → rest ≡ front ++ 10 ∷ behind → length behind < length rest
shorter front behind rest is = omega (arith, ap length is, length-append front (10 ∷ behind))
