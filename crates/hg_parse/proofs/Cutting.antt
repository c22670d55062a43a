-- What is at hand when a piece is cut off.
use Rattle.std.proofs.Common.{◌≡◌, ◌≤◌, ◌<◌, ◌+◌, ◌||◌, ℕ, zero, suc, Bool, true, false, List, [], ◌∷◌, Option, None, Some, length, refl, sym, ap, ◌∙◌, arith}
use Rattle.std.specs.List.{list_any}
use Rattle.std.specs.Option.{is_some, option_map}
use Rattle.hg_model.specs.Reading.{is_long_name, is_long_text}
use Rattle.hg_model.specs.Tokens.{Token, Word, Digits, Letters, Sign}
use Rattle.hg_parse.specs.AtHand.{stream_by, stream_within, stream, is_whole, from_token, behind_token, tokens, whole_from, Carried, carried, text_size, left, GoesOn}
use Rattle.hg_parse.specs.Steps.{behind}
use Rattle.hg_parse.specs.declared.input.Input.{Input}
use Rattle.hg_scan.specs.Cutting.{Front, AtEnd, Wrong, Next, front_of, tokens_of, tokens_by, tokens_within}
use Rattle.hg_scan.specs.PieceLaws.{text_fits}
use Rattle.hg_scan.specs.Pieces.{token_by}
use Rattle.hg_scan.specs.Shown.{token_of, Cuts}
use Rattle.hg_scan.specs.TokenLaws.{shorter, at_end, wrong, next}
use Rattle.hg_scan.specs.declared.piece.Kind.{Kind}
use Rattle.hg_scan.specs.declared.piece.Kind.TheVariants as kind
use Rattle.hg_scan.specs.declared.piece.Piece.{Piece}

enough_by : (f : Front) (line : List ℕ) (m n : ℕ) → front_of line ≡ f
    → ((rest : List ℕ) → length rest < length line → stream_within m rest ≡ stream_within n rest) → stream_by f (stream_within m) ≡ stream_by f (stream_within n)
enough_by AtEnd line m n e same = refl
enough_by Wrong line m n e same = refl
enough_by (Next t rest) line m n e same = ap (λ ts. t ∷ ts) (same rest (shorter line rest t e))

enough : (m n : ℕ) (line : List ℕ) → length line < m → length line < n → stream_within m line ≡ stream_within n line
unfolding stream_within
enough zero n line lm ln = absurd (omega arith)
enough (suc m) zero line lm ln = absurd (omega arith)
enough (suc m) (suc n) line lm ln = enough_by (front_of line) line m n refl (λ rest l. enough m n rest (omega arith) (omega arith))

all_tokens : (f : Front) (line : List ℕ) → front_of line ≡ f → stream_by f (stream_within (length line)) ≡ stream_by f stream
unfolding stream
all_tokens AtEnd line e = refl
all_tokens Wrong line e = refl
all_tokens (Next t rest) line e = ap (λ ts. t ∷ ts) (enough (length line) (suc (length rest)) rest (shorter line rest t e) (omega arith))

pub by_front : (line : List ℕ) → stream line ≡ stream_by (front_of line) stream
unfolding stream stream_within
by_front line = all_tokens (front_of line) line refl

at_front : (line : List ℕ) (f : Front) → front_of line ≡ f → stream line ≡ stream_by f stream
at_front line f e = by_front line ∙ ap (λ g. stream_by g stream) e

pub cut_tokens : (f : Front) (p : Piece) (old new : List ℕ) → front_of old ≡ f → Cuts f p old new → from_token (token_of p) (stream new) ≡ stream old
cut_tokens AtEnd p old new e h = ap (λ k. from_token (token_by k p.bytes.now) (stream new)) h.0 ∙ sym (at_front old AtEnd e)
cut_tokens Wrong p old new e h = ap (λ k. from_token (token_by k p.bytes.now) (stream new)) h.0 ∙ sym (at_front old Wrong e)
cut_tokens (Next t rest) p old new e h =
    ap (λ o. from_token o (stream new)) h.0 ∙ (ap (λ l. t ∷ stream l) h.1 ∙ sym (at_front old (Next t rest) e))

some_map : {A B : Type 0} (f : A → B) (o : Option A) → is_some (option_map f o) ≡ is_some o
some_map f None = refl
some_map f (Some x) = refl

no_token : (t : Token) → None ≡ Some t → ⊥
no_token t h = cc

token_whole : (k : Kind) (bs : List ℕ) (t : Token) (b : Bool) → token_by k bs ≡ Some t → whole_from k b ≡ b
token_whole kind.End bs t b e = absurd (no_token t e)
token_whole kind.Wrong bs t b e = absurd (no_token t e)
token_whole (kind.Keyword k) bs t b e = refl
token_whole kind.Name bs t b e = refl
token_whole kind.Number bs t b e = refl
token_whole kind.Text bs t b e = refl
token_whole (kind.Sign s) bs t b e = refl

pub cut_whole : (f : Front) (p : Piece) (old new : List ℕ) → front_of old ≡ f → Cuts f p old new → whole_from p.kind (is_whole new) ≡ is_whole old
unfolding is_whole
cut_whole AtEnd p old new e h = ap (λ k. whole_from k (is_whole new)) h.0 ∙ sym (ap is_some (at_end old e))
cut_whole Wrong p old new e h = ap (λ k. whole_from k (is_whole new)) h.0 ∙ sym (ap is_some (wrong old e))
cut_whole (Next t rest) p old new e h =
    token_whole p.kind p.bytes.now t (is_whole new) h.0
    ∙ (ap is_whole h.1 ∙ (sym (some_map (λ ts. t ∷ ts) (tokens_of rest)) ∙ sym (ap is_some (next old rest t e))))

or_false : (b c : Bool) → ((b || false) || c) ≡ (b || c)
or_false true c = refl
or_false false c = refl

any_from : (test : Token → Bool) (o : Option Token) (ts : List Token)
    → (list_any test (from_token o []) || list_any test (behind_token o ts)) ≡ list_any test (from_token o ts)
any_from test None ts = refl
any_from test (Some t) ts = or_false (test t) (list_any test ts)

pub cut_any : (test : Token → Bool) (p : Piece) (old new : List ℕ) → Cuts (front_of old) p old new
    → (list_any test (from_token (token_of p) []) || list_any test (behind_token (token_of p) (stream new))) ≡ list_any test (stream old)
cut_any test p old new h = any_from test (token_of p) (stream new) ∙ ap (list_any test) (cut_tokens (front_of old) p old new refl h)

or_assoc : (a b c : Bool) → ((a || b) || c) ≡ (a || (b || c))
or_assoc true b c = refl
or_assoc false b c = refl

next_left : (t : Token) (rest old : List ℕ) → front_of old ≡ Next t rest → text_size (Some t) + length rest ≤ length old
next_left (Word w) rest old e = let h = shorter old rest (Word w) e in omega arith
next_left (Digits w) rest old e = let h = shorter old rest (Digits w) e in omega arith
next_left (Letters w) rest old e = let h = text_fits old rest w e in omega arith
next_left (Sign w) rest old e = let h = shorter old rest (Sign w) e in omega arith

no_size : (p : Piece) (old new : List ℕ) → token_of p ≡ None → new ≡ old → text_size (token_of p) + length new ≤ length old
no_size p old new e h = rw e (rw h (omega arith))

pub cut_left : (f : Front) (p : Piece) (old new : List ℕ) → front_of old ≡ f → Cuts f p old new → text_size (token_of p) + length new ≤ length old
cut_left AtEnd p old new e h = no_size p old new (ap (λ k. token_by k p.bytes.now) h.0) h.1
cut_left Wrong p old new e h = no_size p old new (ap (λ k. token_by k p.bytes.now) h.0) h.1
cut_left (Next t rest) p old new e h = rw (h.0) (rw (h.1) (next_left t rest old e))

pub first_tokens : (i : Input) (line : List ℕ) → Cuts (front_of line) i.piece line i.scanner.rest.now → tokens i ≡ stream line
unfolding tokens
first_tokens i line h = cut_tokens (front_of line) i.piece line i.scanner.rest.now refl h

pub first_left : (i : Input) (line : List ℕ) → Cuts (front_of line) i.piece line i.scanner.rest.now → left i ≤ length line
unfolding left
first_left i line h = cut_left (front_of line) i.piece line i.scanner.rest.now refl h

abbrev carried_of : Bool → Bool → Bool → Carried
carried_of a b c = record { whole = a; long_name = b; long_text = c }

same_carried : (a b c d e f : Bool) → a ≡ b → c ≡ d → e ≡ f → carried_of a c e ≡ carried_of b d f
same_carried a b c d e f h i j = ap (λ x. carried_of x c e) h ∙ (ap (λ x. carried_of b x e) i ∙ ap (λ x. carried_of b d x) j)

pub first_carried : (i : Input) (line : List ℕ) → Cuts (front_of line) i.piece line i.scanner.rest.now
    → i.long_name ≡ list_any is_long_name (from_token (token_of i.piece) []) → i.long_text ≡ list_any is_long_text (from_token (token_of i.piece) [])
    → carried i ≡ record { whole = is_whole line; long_name = list_any is_long_name (stream line); long_text = list_any is_long_text (stream line) }
unfolding carried
first_carried i line h n t =
    same_carried _ _ _ _ _ _ (cut_whole (front_of line) i.piece line i.scanner.rest.now refl h)
    (ap (λ b. b || list_any is_long_name (behind_token (token_of i.piece) (stream i.scanner.rest.now))) n ∙ cut_any is_long_name i.piece line i.scanner.rest.now h)
    (ap (λ b. b || list_any is_long_text (behind_token (token_of i.piece) (stream i.scanner.rest.now))) t ∙ cut_any is_long_text i.piece line i.scanner.rest.now h)

behind_first : (o : Option Token) (ts : List Token) → 0 < length (from_token o ts) → behind (from_token o ts) ≡ ts
behind_first None ts h = absurd (omega arith)
behind_first (Some t) ts h = refl

first_behind : (o : Option Token) (ts : List Token) → 0 < length (from_token o ts) → behind_token o ts ≡ ts
first_behind None ts h = absurd (omega arith)
first_behind (Some t) ts h = refl

first_whole : (k : Kind) (bs : List ℕ) (ts : List Token) (b : Bool) → 0 < length (from_token (token_by k bs) ts) → whole_from k b ≡ b
first_whole kind.End bs ts b h = absurd (omega arith)
first_whole kind.Wrong bs ts b h = absurd (omega arith)
first_whole (kind.Keyword k) bs ts b h = refl
first_whole kind.Name bs ts b h = refl
first_whole kind.Number bs ts b h = refl
first_whole kind.Text bs ts b h = refl
first_whole (kind.Sign s) bs ts b h = refl

pub next_tokens : (i j : Input) → 0 < length (tokens i) → Cuts (front_of i.scanner.rest.now) j.piece i.scanner.rest.now j.scanner.rest.now → tokens j ≡ behind (tokens i)
unfolding tokens
next_tokens i j h c =
    cut_tokens (front_of i.scanner.rest.now) j.piece i.scanner.rest.now j.scanner.rest.now refl c ∙ sym (behind_first (token_of i.piece) (stream i.scanner.rest.now) h)

behind_shorter : (ts : List Token) → length (behind ts) ≤ length ts
behind_shorter [] = omega arith
behind_shorter (t ∷ ts) = omega arith

next_left_all : (i j : Input) → Cuts (front_of i.scanner.rest.now) j.piece i.scanner.rest.now j.scanner.rest.now → left j ≤ left i
unfolding left
next_left_all i j c = let h = cut_left (front_of i.scanner.rest.now) j.piece i.scanner.rest.now j.scanner.rest.now refl c in omega arith

next_carried : (i j : Input) → 0 < length (tokens i) → Cuts (front_of i.scanner.rest.now) j.piece i.scanner.rest.now j.scanner.rest.now
    → j.long_name ≡ (i.long_name || list_any is_long_name (from_token (token_of j.piece) []))
    → j.long_text ≡ (i.long_text || list_any is_long_text (from_token (token_of j.piece) [])) → carried j ≡ carried i
unfolding tokens carried
next_carried i j h c n t =
    let old = i.scanner.rest.now in
    let new = j.scanner.rest.now in
    same_carried _ _ _ _ _ _
    (cut_whole (front_of old) j.piece old new refl c ∙ sym (first_whole i.piece.kind i.piece.bytes.now (stream old) (is_whole old) h))
    (ap (λ b. b || list_any is_long_name (behind_token (token_of j.piece) (stream new))) n ∙ (or_assoc i.long_name _ _
    ∙ (ap (λ b. i.long_name || b) (cut_any is_long_name j.piece old new c) ∙ ap (λ l. i.long_name || list_any is_long_name l) (sym (first_behind (token_of i.piece) (stream old) h)))))
    (ap (λ b. b || list_any is_long_text (behind_token (token_of j.piece) (stream new))) t ∙ (or_assoc i.long_text _ _
    ∙ (ap (λ b. i.long_text || b) (cut_any is_long_text j.piece old new c) ∙ ap (λ l. i.long_text || list_any is_long_text l) (sym (first_behind (token_of i.piece) (stream old) h)))))

pub next_goes_on : (i j : Input) → 0 < length (tokens i) → Cuts (front_of i.scanner.rest.now) j.piece i.scanner.rest.now j.scanner.rest.now
    → j.long_name ≡ (i.long_name || list_any is_long_name (from_token (token_of j.piece) []))
    → j.long_text ≡ (i.long_text || list_any is_long_text (from_token (token_of j.piece) [])) → GoesOn i j
next_goes_on i j h c n t = record {
  carried = next_carried i j h c n t;
  tokens = rw (next_tokens i j h c) (behind_shorter (tokens i));
  left = next_left_all i j c;
}

pub or_none : (b : Bool) → (b || false) ≡ b
or_none true = refl
or_none false = refl

no_list : (us : List Token) → None ≡ Some us → ⊥
no_list us h = cc

one_list : (ts us : List Token) → Some ts ≡ Some us → ts ≡ us
one_list ts us h = cc

map_same : (t : Token) (o : Option (List Token)) (us vs : List Token) → ((ws : List Token) → o ≡ Some ws → vs ≡ ws) → option_map (λ ws. t ∷ ws) o ≡ Some us → t ∷ vs ≡ us
map_same t None us vs same h = absurd (no_list us h)
map_same t (Some ws) us vs same h = ap (λ l. t ∷ l) (same ws refl) ∙ one_list (t ∷ ws) us h

front_same : (n : ℕ) (f : Front) (us : List Token) → ((rest : List ℕ) (ws : List Token) → tokens_within n rest ≡ Some ws → stream_within n rest ≡ ws)
    → tokens_by f (tokens_within n) ≡ Some us → stream_by f (stream_within n) ≡ us
front_same n AtEnd us same h = one_list [] us h
front_same n Wrong us same h = absurd (no_list us h)
front_same n (Next t rest) us same h = map_same t (tokens_within n rest) us (stream_within n rest) (same rest) h

within_same : (n : ℕ) (line : List ℕ) (us : List Token) → tokens_within n line ≡ Some us → stream_within n line ≡ us
unfolding tokens_within stream_within
within_same zero line us h = absurd (no_list us h)
within_same (suc n) line us h = front_same n (front_of line) us (λ rest ws e. within_same n rest ws e) h

stream_same : (line : List ℕ) (us : List Token) → tokens_of line ≡ Some us → stream line ≡ us
unfolding tokens_of stream
stream_same line us h = within_same (suc (length line)) line us h

none_whole : false ≡ true → ⊥
none_whole h = cc

whole_by : (line : List ℕ) (o : Option (List Token)) → tokens_of line ≡ o → is_some o ≡ true → tokens_of line ≡ Some (stream line)
whole_by line None e h = absurd (none_whole h)
whole_by line (Some us) e h = e ∙ ap Some (sym (stream_same line us e))

-- a line that has tokens up to its end has those
pub whole_tokens : (line : List ℕ) → is_whole line ≡ true → tokens_of line ≡ Some (stream line)
unfolding is_whole
whole_tokens line h = whole_by line (tokens_of line) refl h

broken_by : (line : List ℕ) (o : Option (List Token)) → tokens_of line ≡ o → is_some o ≡ false → tokens_of line ≡ None
broken_by line None e h = e
broken_by line (Some us) e h = absurd (none_whole (sym h))

pub broken_tokens : (line : List ℕ) → is_whole line ≡ false → tokens_of line ≡ None
unfolding is_whole
broken_tokens line h = broken_by line (tokens_of line) refl h
