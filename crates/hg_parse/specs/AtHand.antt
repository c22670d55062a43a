-- What the parser has at hand of a line: the piece that was cut off last, and the bytes behind it.
use Rattle.std.specs.Prelude.{Result, Ok, Err, ℕ, zero, suc, ◌+◌, ◌≡◌, ◌≤◌, Bool, true, false, ◌||◌, List, [], ◌∷◌, Option, None, Some, length, if◌then◌else◌}
use Rattle.std.specs.List.{list_any}
use Rattle.std.specs.Option.{is_some}
use Rattle.hg_model.specs.Reading.{is_long_name, is_long_text}
use Rattle.hg_model.specs.Tokens.{Token, Word, Digits, Letters, lower, number_of, is_reserved}
use Rattle.hg_model.specs.Grammar.{plus, minus}
use Rattle.hg_model.specs.declared.trees.Fold.{Fold}
use Rattle.hg_model.specs.declared.trees.Op.{Op}
use Rattle.hg_model.specs.declared.trees.Op.TheVariants.{Add, Sub}
use Rattle.hg_parse.specs.Descent.{fold_of}
use Rattle.hg_parse.specs.Keeping.{Kept}
use Rattle.hg_parse.specs.Steps.{Answer, got, behind, eats}
use Rattle.hg_parse.specs.declared.input.Input.{Input}
use Rattle.hg_parse.specs.declared.places.NameAt.{NameAt}
use Rattle.hg_parse.specs.declared.places.NumberAt.{NumberAt}
use Rattle.hg_parse.specs.declared.input.Syntax.{Syntax}
use Rattle.hg_parse.specs.declared.places.TextAt.{TextAt}
use Rattle.hg_scan.specs.Cutting.{Front, AtEnd, Wrong, Next, front_of, tokens_of, undoubled}
use Rattle.hg_scan.specs.Shown.{token_of}
use Rattle.hg_scan.specs.declared.piece.Kind.{Kind}
use Rattle.hg_scan.specs.declared.piece.Kind.TheVariants as kind

-- the tokens of a line up to its end, or to the place where none can begin
abbrev pub stream_by : Front → (List ℕ → List Token) → List Token
stream_by AtEnd more = []
stream_by Wrong more = []
stream_by (Next t rest) more = t ∷ more rest

unfoldable pub stream_within : ℕ → List ℕ → List Token
stream_within zero line = []
stream_within (suc most) line = stream_by (front_of line) (stream_within most)

unfoldable pub stream : List ℕ → List Token
stream line = stream_within (suc (length line)) line

-- whether a line has tokens up to its end
unfoldable pub is_whole : List ℕ → Bool
is_whole line = is_some (tokens_of line)

abbrev pub from_token : Option Token → List Token → List Token
from_token None ts = []
from_token (Some t) ts = t ∷ ts

abbrev pub behind_token : Option Token → List Token → List Token
behind_token None ts = []
behind_token (Some t) ts = ts

-- the tokens at hand
unfoldable pub tokens : Input → List Token
tokens i = from_token (token_of i.piece) (stream i.scanner.rest.now)

abbrev pub whole_from : Kind → Bool → Bool
whole_from kind.End b = true
whole_from kind.Wrong b = false
whole_from _ b = b

-- what stays the same while a line is read: whether it has tokens up to its end, and whether some name or
-- some text of it is too long
pub record Carried : Type 0 where
  pub whole : Bool
  pub long_name : Bool
  pub long_text : Bool

unfoldable pub carried : Input → Carried
carried i = record {
  whole = whole_from i.piece.kind (is_whole i.scanner.rest.now);
  long_name = i.long_name || list_any is_long_name (behind_token (token_of i.piece) (stream i.scanner.rest.now));
  long_text = i.long_text || list_any is_long_text (behind_token (token_of i.piece) (stream i.scanner.rest.now));
}

abbrev pub text_size : Option Token → ℕ
text_size (Some (Letters t)) = length t
text_size _ = 0

-- how many letters the texts have at most that are not read yet
unfoldable pub left : Input → ℕ
left i = text_size (token_of i.piece) + length i.scanner.rest.now

-- what is behind a token where it was eaten
abbrev pub past : Bool → List Token → List Token
past true ts = behind ts
past false ts = ts

-- Reading goes on: no token more, and what is carried stays.
pub record GoesOn (old new : Input) : Type 0 where
  pub carried : carried new ≡ carried old
  pub tokens : length (tokens new) ≤ length (tokens old)
  pub left : left new ≤ left old

-- the word of a name
abbrev pub word_at : NameAt → List ℕ
word_at n = lower n.piece.bytes.now

-- the number that digits name
abbrev pub number_at : NumberAt → ℕ
number_at n = number_of n.piece.bytes.now

-- the letters of a text
abbrev pub letters_at : TextAt → List ℕ
letters_at t = undoubled t.piece.bytes.now

-- the name, the number, the text that comes next
abbrev pub name_in : List Token → Option (List ℕ)
name_in (Word w ∷ ts) = if is_reserved w then None else Some w
name_in _ = None

abbrev pub digits_in : List Token → Option ℕ
digits_in (Digits ds ∷ ts) = Some (number_of ds)
digits_in _ = None

abbrev pub text_in : List Token → Option (List ℕ)
text_in (Letters t ∷ ts) = Some t
text_in _ = None

-- what a rule gives that keeps nothing, where `k` was kept
abbrev pub told_at : {X Y : Type 0} → Kept → (Y → X) → Result Y Syntax → Input → Answer Kept X
told_at k f (Ok y) i = got k (f y) (tokens i)
told_at k f (Err e) i = None

-- the fold and the sign of a sum that come next
abbrev pub fold_in : List Token → Option Fold
fold_in (Word w ∷ ts) = fold_of w
fold_in _ = None

abbrev pub sum_sign : List Token → Option Op
sum_sign ts = if eats plus ts then Some Add else if eats minus ts then Some Sub else None
