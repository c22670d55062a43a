-- The lines of a script.
use Rattle.std.proofs.Common.{◌≡◌, ◌≢◌, ℕ, true, false, List, [], ◌∷◌, ◌++◌, ◌==◌, if◌then◌else◌, refl, sym, ap, ◌∙◌, append_assoc, append-nil, arith}
use Rattle.std.specs.List.{All, flat_map}
use Rattle.std.proofs.lemmas.Bool.Decides.{nat_tests}
use Rattle.std.proofs.lemmas.Grind.{flat_map-append}
use Rattle.std.proofs.lemmas.List.Elements.{All-nil, All-cons, All-append}
use Rattle.hg_model.specs.LineReading as reading
use Rattle.hg_model.specs.LineReading.{ReadAs}
use Rattle.hg_model.specs.Script.{Line, ended_lines, last_part, unended, whole_lines, lines_of, bytes_of_line, text_of_line}
use Rattle.hg_model.specs.ScriptLaws.{LinesMakeScript, HasNoFeed, LinesHaveNoFeed, LinesAreReadOnce}

is_feed : (b : ℕ) → (b == 10) ≡ true → b ≡ 10
is_feed b e = grind (arith, nat_tests)

is_no_feed : (b : ℕ) → (b == 10) ≡ false → b ≢ 10
is_no_feed b e = grind (arith, nat_tests)

whole_and_part : (part bs : List ℕ) → flat_map bytes_of_line (ended_lines part bs) ++ last_part part bs ≡ part ++ bs
unfolding ended_lines last_part
whole_and_part part [] = sym (append-nil part)
whole_and_part part (b ∷ bs) =
    let line : Line = record { bytes = part; ended = true } in
    elim (b == 10) as
    (λ t. (b == 10) ≡ t → flat_map bytes_of_line (if t then line ∷ ended_lines [] bs else ended_lines (part ++ b ∷ []) bs)
    ++ (if t then last_part [] bs else last_part (part ++ b ∷ []) bs) ≡ part ++ b ∷ bs) [
      | true ↦ λ e. append_assoc (part ++ 10 ∷ []) (flat_map bytes_of_line (ended_lines [] bs)) (last_part [] bs)
          ∙ ap (λ l. (part ++ 10 ∷ []) ++ l) (whole_and_part [] bs) ∙ append_assoc part (10 ∷ []) bs ∙ ap (λ n. part ++ n ∷ bs) (sym (is_feed b e))
      | false ↦ λ e. whole_and_part (part ++ b ∷ []) bs ∙ append_assoc part (b ∷ []) bs
    ]
    refl

unended_bytes : (bs : List ℕ) → flat_map bytes_of_line (unended bs) ≡ bs
unended_bytes [] = refl
unended_bytes (b ∷ bs) = append-nil (b ∷ bs)

pub lines_make_script : LinesMakeScript
unfolding lines_of whole_lines
lines_make_script script =
    flat_map-append bytes_of_line (ended_lines [] script) (unended (last_part [] script))
    ∙ ap (λ l. flat_map bytes_of_line (ended_lines [] script) ++ l) (unended_bytes (last_part [] script)) ∙ whole_and_part [] script

abbrev NoFeed : ℕ → Type 0
NoFeed b = b ≢ 10

push_no_feed : (part : List ℕ) (b : ℕ) → All NoFeed part → (b == 10) ≡ false → All NoFeed (part ++ b ∷ [])
push_no_feed part b h e = All-append NoFeed part (b ∷ []) h (All-cons NoFeed b [] (is_no_feed b e) (All-nil NoFeed))

ended_no_feed : (part bs : List ℕ) → All NoFeed part → All HasNoFeed (ended_lines part bs)
unfolding ended_lines
ended_no_feed part [] h = All-nil HasNoFeed
ended_no_feed part (b ∷ bs) h =
    let line : Line = record { bytes = part; ended = true } in
    elim (b == 10) as (λ t. (b == 10) ≡ t → All HasNoFeed (if t then line ∷ ended_lines [] bs else ended_lines (part ++ b ∷ []) bs)) [
      | true ↦ λ e. All-cons HasNoFeed line (ended_lines [] bs) h (ended_no_feed [] bs (All-nil NoFeed))
      | false ↦ λ e. ended_no_feed (part ++ b ∷ []) bs (push_no_feed part b h e)
    ]
    refl

last_no_feed : (part bs : List ℕ) → All NoFeed part → All NoFeed (last_part part bs)
unfolding last_part
last_no_feed part [] h = h
last_no_feed part (b ∷ bs) h =
    elim (b == 10) as (λ t. (b == 10) ≡ t → All NoFeed (if t then last_part [] bs else last_part (part ++ b ∷ []) bs))
    [ true ↦ λ e. last_no_feed [] bs (All-nil NoFeed) | false ↦ λ e. last_no_feed (part ++ b ∷ []) bs (push_no_feed part b h e) ]
    refl

unended_no_feed : (bs : List ℕ) → All NoFeed bs → All HasNoFeed (unended bs)
unended_no_feed [] h = All-nil HasNoFeed
unended_no_feed (b ∷ bs) h = All-cons HasNoFeed (record { bytes = b ∷ bs; ended = false }) [] h (All-nil HasNoFeed)

pub lines_have_no_feed : LinesHaveNoFeed
unfolding lines_of whole_lines
lines_have_no_feed script =
    All-append HasNoFeed (ended_lines [] script) (unended (last_part [] script)) (ended_no_feed [] script (All-nil NoFeed))
    (unended_no_feed (last_part [] script) (last_no_feed [] script (All-nil NoFeed)))

pub lines_are_read_once : LinesAreReadOnce
lines_are_read_once one max line a b (reading.ReadsLine.too_long h) (reading.ReadsLine.too_long k) = refl
lines_are_read_once one max line a b (reading.ReadsLine.too_long h) (reading.ReadsLine.read r k p) = absurd (omega arith)
lines_are_read_once one max line a b (reading.ReadsLine.read r h p) (reading.ReadsLine.too_long k) = absurd (omega arith)
lines_are_read_once one max line a b (reading.ReadsLine.read r h p) (reading.ReadsLine.read q k s) = ap ReadAs (one max (text_of_line line) r q p s)
