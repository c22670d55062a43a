-- A line from its first token on.
use Rattle.std.proofs.Common.{◌≡◌, ℕ, Bool, ◌&&◌, List, Option, sym, ap, ◌∙◌}
use Rattle.std.specs.List.{list_any}
use Rattle.hg_model.specs.Reading.{is_long_name, is_long_text}
use Rattle.hg_model.specs.declared.trees.Count.{Count}
use Rattle.hg_parse.specs.AtHand.{stream, is_whole, tokens, carried, Carried}
use Rattle.hg_parse.specs.Building.{empty_draft}
use Rattle.hg_parse.specs.Judging.{too_many_kept}
use Rattle.hg_parse.specs.Keeping.{Kept, kept_of}
use Rattle.hg_parse.specs.Kept.{keeper}
use Rattle.hg_parse.specs.Rules.{Form, command, is_end}
use Rattle.hg_parse.specs.Statements.{lined}
use Rattle.hg_parse.specs.declared.input.Input.{Input}

abbrev pub at_start : List ℕ → Carried
at_start line = record { whole = is_whole line; long_name = list_any is_long_name (stream line); long_text = list_any is_long_text (stream line) }

pub ends_there : (i : Input) (line : List ℕ) (b r : Bool) → tokens i ≡ stream line → carried i ≡ at_start line → b ≡ (is_end (tokens i) && (carried i).whole) → b ≡ r
    → (is_end (stream line) && is_whole line) ≡ r
ends_there i line b r t e h y = ap (λ l. is_end l && is_whole line) (sym t) ∙ (ap (λ (x : Carried). is_end (tokens i) && x.whole) (sym e) ∙ (sym h ∙ y))

pub kept_there : (i : Input) (line : List ℕ) (k : Kept) (o : Option (Kept × Form)) → tokens i ≡ stream line → carried i ≡ at_start line → k ≡ kept_of empty_draft
    → lined (carried i).whole (command keeper k (tokens i)) ≡ o → lined (is_whole line) (command keeper (kept_of empty_draft) (stream line)) ≡ o
kept_there i line k o t e q h =
    ap (λ l. lined (is_whole line) (command keeper (kept_of empty_draft) l)) (sym t)
    ∙ (ap (λ x. lined (is_whole line) (command keeper x (tokens i))) (sym q) ∙ (ap (λ (x : Carried). lined x.whole (command keeper k (tokens i))) (sym e) ∙ h))

pub many_there : (i j : Input) (line : List ℕ) (f : Form) (k : Kept) (o : Option Count) → carried i ≡ at_start line → j.long_name ≡ (carried i).long_name → j.long_text ≡ (carried i).long_text
    → o ≡ too_many_kept j.long_name j.long_text f k → too_many_kept (list_any is_long_name (stream line)) (list_any is_long_text (stream line)) f k ≡ o
many_there i j line f k o e n t h =
    let a : j.long_name ≡ list_any is_long_name (stream line) = n ∙ ap (λ (x : Carried). x.long_name) e in
    let b : j.long_text ≡ list_any is_long_text (stream line) = t ∙ ap (λ (x : Carried). x.long_text) e in
    ap (λ x. too_many_kept x (list_any is_long_text (stream line)) f k) (sym a) ∙ (ap (λ x. too_many_kept j.long_name x f k) (sym b) ∙ sym h)
