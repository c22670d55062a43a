-- Which word or sign comes next.
use Rattle.std.proofs.Common.{◌≡◌, ◌<◌, ◌≤◌, ◌+◌, length, Some, arith, inl, inr, ℕ, None, Bool, true, false, List, [], ◌∷◌, refl, sym, ap, ◌∙◌}
use Rattle.std.proofs.lemmas.Bool.{cases_Bool, false_from_ne_true, both_ways}
use Rattle.std.specs.Cmp.Lexicographic.{same_text}
use Rattle.hg_model.specs.Tables.{same_name}
use Rattle.hg_model.specs.Tokens.{Token, Word, Sign, is_reserved, lower, number_of}
use Rattle.hg_parse.proofs.Begins.{apart}
use Rattle.hg_parse.proofs.FoundParts.{same_self}
use Rattle.hg_parse.specs.AtHand.{stream, from_token, tokens, name_in, digits_in, text_in, left}
use Rattle.hg_parse.specs.Descent.{name}
use Rattle.hg_parse.specs.Keeping.{Kept}
use Rattle.hg_parse.specs.Rules.{number}
use Rattle.hg_parse.specs.Steps.{got, eats, behind}
use Rattle.hg_parse.specs.declared.input.Input.{Input}
use Rattle.hg_scan.specs.Cutting.{undoubled}
use Rattle.hg_scan.specs.PieceLaws.{name_facts}
use Rattle.hg_scan.specs.Pieces.{token_by, is_piece}
use Rattle.hg_scan.specs.Words.{word_of, bytes_of}
use Rattle.hg_scan.specs.declared.piece.Kind.{Kind}
use Rattle.hg_scan.specs.declared.piece.Kind.TheVariants as kind
use Rattle.hg_scan.specs.declared.words.Keyword.{Keyword}
use Rattle.hg_scan.specs.declared.words.Keyword.TheVariants as word
use Rattle.hg_scan.specs.declared.words.Sign.{Sign as Mark}

pub reserved : (k : Keyword) → is_reserved (word_of k) ≡ true
unfolding is_reserved
reserved word.All = refl
reserved word.And = refl
reserved word.As = refl
reserved word.Asc = refl
reserved word.Between = refl
reserved word.Bigint = refl
reserved word.By = refl
reserved word.Count = refl
reserved word.Create = refl
reserved word.Cross = refl
reserved word.Delete = refl
reserved word.Desc = refl
reserved word.Distinct = refl
reserved word.Exists = refl
reserved word.From = refl
reserved word.Group = refl
reserved word.Having = refl
reserved word.In = refl
reserved word.Index = refl
reserved word.Inner = refl
reserved word.Insert = refl
reserved word.Int = refl
reserved word.Integer = refl
reserved word.Into = refl
reserved word.Is = refl
reserved word.Join = refl
reserved word.Key = refl
reserved word.Left = refl
reserved word.Max = refl
reserved word.Min = refl
reserved word.Not = refl
reserved word.Null = refl
reserved word.On = refl
reserved word.Or = refl
reserved word.Order = refl
reserved word.Outer = refl
reserved word.Primary = refl
reserved word.Select = refl
reserved word.Set = refl
reserved word.Sum = refl
reserved word.Table = refl
reserved word.Unique = refl
reserved word.Update = refl
reserved word.Values = refl
reserved word.Varchar = refl
reserved word.Where = refl

-- a word that is no reserved word
pub unlike : (w k : List ℕ) → is_reserved w ≡ false → is_reserved k ≡ true → same_name w k ≡ false
unlike w k no_ yes_ = false_from_ne_true (same_name w k) (λ e. both_ways (is_reserved w) no_ (ap is_reserved (same_text w k (sym e)) ∙ yes_))

pub eats_keyword : (i : Input) (w k : Keyword) → i.piece.kind ≡ kind.Keyword k → same_name (word_of w) (word_of k) ≡ eats (Word (word_of w)) (tokens i)
unfolding tokens
eats_keyword i w k e = ap (λ x. eats (Word (word_of w)) (from_token (token_by x i.piece.bytes.now) (stream i.scanner.rest.now))) (sym e)

no_keyword : (w : Keyword) (k : Kind) (d : Bool) (bs : List ℕ) (ts : List Token) → is_piece k d bs ≡ true → ((x : Keyword) → k ≡ kind.Keyword x → ⊥)
    → false ≡ eats (Word (word_of w)) (from_token (token_by k bs) ts)
no_keyword w kind.End d bs ts p h = refl
no_keyword w kind.Wrong d bs ts p h = refl
no_keyword w (kind.Keyword k) d bs ts p h = absurd (h k refl)
no_keyword w kind.Name d bs ts p h = sym (apart (word_of w) _ (reserved w) (name_facts d bs p).1)
no_keyword w kind.Number d bs ts p h = refl
no_keyword w kind.Text d bs ts p h = refl
no_keyword w (kind.Sign s) d bs ts p h = refl

pub eats_no_keyword : (i : Input) (w : Keyword) → is_piece i.piece.kind i.piece.doubled i.piece.bytes.now ≡ true → ((x : Keyword) → i.piece.kind ≡ kind.Keyword x → ⊥)
    → false ≡ eats (Word (word_of w)) (tokens i)
unfolding tokens
eats_no_keyword i w p h = no_keyword w i.piece.kind i.piece.doubled i.piece.bytes.now (stream i.scanner.rest.now) p h

pub eats_sign : (i : Input) (w s : Mark) → i.piece.kind ≡ kind.Sign s → same_name (bytes_of w) (bytes_of s) ≡ eats (Sign (bytes_of w)) (tokens i)
unfolding tokens
eats_sign i w s e = ap (λ x. eats (Sign (bytes_of w)) (from_token (token_by x i.piece.bytes.now) (stream i.scanner.rest.now))) (sym e)

no_sign : (w : List ℕ) (k : Kind) (bs : List ℕ) (ts : List Token) → ((x : Mark) → k ≡ kind.Sign x → ⊥) → false ≡ eats (Sign w) (from_token (token_by k bs) ts)
no_sign w kind.End bs ts h = refl
no_sign w kind.Wrong bs ts h = refl
no_sign w (kind.Keyword k) bs ts h = refl
no_sign w kind.Name bs ts h = refl
no_sign w kind.Number bs ts h = refl
no_sign w kind.Text bs ts h = refl
no_sign w (kind.Sign s) bs ts h = absurd (h s refl)

pub eats_no_sign : (i : Input) (w : List ℕ) → ((x : Mark) → i.piece.kind ≡ kind.Sign x → ⊥) → false ≡ eats (Sign w) (tokens i)
unfolding tokens
eats_no_sign i w h = no_sign w i.piece.kind i.piece.bytes.now (stream i.scanner.rest.now) h

no_soft : (w : List ℕ) (k : Kind) (bs : List ℕ) (ts : List Token) → is_reserved w ≡ false → (k ≡ kind.Name → ⊥) → false ≡ eats (Word w) (from_token (token_by k bs) ts)
no_soft w kind.End bs ts r h = refl
no_soft w kind.Wrong bs ts r h = refl
no_soft w (kind.Keyword k) bs ts r h = sym (unlike w (word_of k) r (reserved k))
no_soft w kind.Name bs ts r h = absurd (h refl)
no_soft w kind.Number bs ts r h = refl
no_soft w kind.Text bs ts r h = refl
no_soft w (kind.Sign s) bs ts r h = refl

pub eats_no_soft : (i : Input) (w : List ℕ) → is_reserved w ≡ false → (i.piece.kind ≡ kind.Name → ⊥) → false ≡ eats (Word w) (tokens i)
unfolding tokens
eats_no_soft i w r h = no_soft w i.piece.kind i.piece.bytes.now (stream i.scanner.rest.now) r h

pub same_back : (a b : List ℕ) → same_name a b ≡ same_name b a
same_back a b = elim (cases_Bool (same_name a b)) [
  | inl e ↦ ap (λ x. same_name x b) (same_text a b (sym e)) ∙ ap (λ x. same_name b x) (sym (same_text a b (sym e)))
  | inr e ↦ e ∙ sym (false_from_ne_true (same_name b a) (λ f. both_ways (same_name a b) e (ap (λ x. same_name x b) (sym (same_text b a (sym f))) ∙ same_self b)))
]

pub eats_soft : (i : Input) (w : List ℕ) → i.piece.kind ≡ kind.Name → same_name (lower i.piece.bytes.now) w ≡ eats (Word w) (tokens i)
unfolding tokens
eats_soft i w e =
    same_back (lower i.piece.bytes.now) w ∙ ap (λ x. eats (Word w) (from_token (token_by x i.piece.bytes.now) (stream i.scanner.rest.now))) (sym e)

name_first : (x : Kept) (w : List ℕ) (ts : List Token) → is_reserved w ≡ false → name x (Word w ∷ ts) ≡ got x w ts
name_first x w ts r = rw r refl

pub finds_name : (i : Input) (x : Kept) → is_piece i.piece.kind i.piece.doubled i.piece.bytes.now ≡ true → i.piece.kind ≡ kind.Name
    → name x (tokens i) ≡ got x (lower i.piece.bytes.now) (behind (tokens i))
unfolding tokens
finds_name i x p e =
    let ts = stream i.scanner.rest.now in
    let bs = i.piece.bytes.now in
    let q : is_piece kind.Name i.piece.doubled bs ≡ true = ap (λ k. is_piece k i.piece.doubled bs) (sym e) ∙ p in
    ap (λ k. name x (from_token (token_by k bs) ts)) e ∙ (name_first x (lower bs) ts (name_facts i.piece.doubled bs q).1
    ∙ ap (λ k. got x (lower bs) (behind (from_token (token_by k bs) ts))) (sym e))

misses_name : (x : Kept) (k : Kind) (bs : List ℕ) (ts : List Token) → (k ≡ kind.Name → ⊥) → name x (from_token (token_by k bs) ts) ≡ None
misses_name x kind.End bs ts h = refl
misses_name x kind.Wrong bs ts h = refl
misses_name x (kind.Keyword k) bs ts h = rw (reserved k) refl
misses_name x kind.Name bs ts h = absurd (h refl)
misses_name x kind.Number bs ts h = refl
misses_name x kind.Text bs ts h = refl
misses_name x (kind.Sign s) bs ts h = refl

pub finds_no_name : (i : Input) (x : Kept) → (i.piece.kind ≡ kind.Name → ⊥) → name x (tokens i) ≡ None
unfolding tokens
finds_no_name i x h = misses_name x i.piece.kind i.piece.bytes.now (stream i.scanner.rest.now) h

pub finds_number : (i : Input) (x : Kept) → i.piece.kind ≡ kind.Number → number x (tokens i) ≡ got x (number_of i.piece.bytes.now) (behind (tokens i))
unfolding tokens
finds_number i x e =
    let ts = stream i.scanner.rest.now in
    let bs = i.piece.bytes.now in
    ap (λ k. number x (from_token (token_by k bs) ts)) e ∙ ap (λ k. got x (number_of bs) (behind (from_token (token_by k bs) ts))) (sym e)

misses_number : (x : Kept) (k : Kind) (bs : List ℕ) (ts : List Token) → (k ≡ kind.Number → ⊥) → number x (from_token (token_by k bs) ts) ≡ None
misses_number x kind.End bs ts h = refl
misses_number x kind.Wrong bs ts h = refl
misses_number x (kind.Keyword k) bs ts h = refl
misses_number x kind.Name bs ts h = refl
misses_number x kind.Number bs ts h = absurd (h refl)
misses_number x kind.Text bs ts h = refl
misses_number x (kind.Sign s) bs ts h = refl

pub finds_no_number : (i : Input) (x : Kept) → (i.piece.kind ≡ kind.Number → ⊥) → number x (tokens i) ≡ None
unfolding tokens
finds_no_number i x h = misses_number x i.piece.kind i.piece.bytes.now (stream i.scanner.rest.now) h

pub has_name : (i : Input) → i.piece.kind ≡ kind.Name → 0 < length (tokens i)
unfolding tokens
has_name i e = rw e (omega arith)

pub has_number : (i : Input) → i.piece.kind ≡ kind.Number → 0 < length (tokens i)
unfolding tokens
has_number i e = rw e (omega arith)

pub has_text : (i : Input) → i.piece.kind ≡ kind.Text → 0 < length (tokens i)
unfolding tokens
has_text i e = rw e (omega arith)

eats_some : (t : Token) (ts : List Token) → eats t ts ≡ true → 0 < length ts
eats_some t [] h = cc
eats_some t (u ∷ us) h = omega arith

pub eaten : (t : Token) (ts : List Token) (b : Bool) → b ≡ eats t ts → b ≡ true → 0 < length ts
eaten t ts b e h = eats_some t ts (sym e ∙ h)

pub behind_less : (ts : List Token) → 0 < length ts → length (behind ts) < length ts
behind_less [] h = absurd (omega arith)
behind_less (t ∷ ts) h = omega arith

no_name_in : (k : Kind) (bs : List ℕ) (ts : List Token) → (k ≡ kind.Name → ⊥) → name_in (from_token (token_by k bs) ts) ≡ None
no_name_in kind.End bs ts h = refl
no_name_in kind.Wrong bs ts h = refl
no_name_in (kind.Keyword k) bs ts h = rw (reserved k) refl
no_name_in kind.Name bs ts h = absurd (h refl)
no_name_in kind.Number bs ts h = refl
no_name_in kind.Text bs ts h = refl
no_name_in (kind.Sign s) bs ts h = refl

pub name_in_no : (i : Input) → (i.piece.kind ≡ kind.Name → ⊥) → name_in (tokens i) ≡ None
unfolding tokens
name_in_no i h = no_name_in i.piece.kind i.piece.bytes.now (stream i.scanner.rest.now) h

no_digits_in : (k : Kind) (bs : List ℕ) (ts : List Token) → (k ≡ kind.Number → ⊥) → digits_in (from_token (token_by k bs) ts) ≡ None
no_digits_in kind.End bs ts h = refl
no_digits_in kind.Wrong bs ts h = refl
no_digits_in (kind.Keyword k) bs ts h = refl
no_digits_in kind.Name bs ts h = refl
no_digits_in kind.Number bs ts h = absurd (h refl)
no_digits_in kind.Text bs ts h = refl
no_digits_in (kind.Sign s) bs ts h = refl

pub digits_in_no : (i : Input) → (i.piece.kind ≡ kind.Number → ⊥) → digits_in (tokens i) ≡ None
unfolding tokens
digits_in_no i h = no_digits_in i.piece.kind i.piece.bytes.now (stream i.scanner.rest.now) h

no_text_in : (k : Kind) (bs : List ℕ) (ts : List Token) → (k ≡ kind.Text → ⊥) → text_in (from_token (token_by k bs) ts) ≡ None
no_text_in kind.End bs ts h = refl
no_text_in kind.Wrong bs ts h = refl
no_text_in (kind.Keyword k) bs ts h = refl
no_text_in kind.Name bs ts h = refl
no_text_in kind.Number bs ts h = refl
no_text_in kind.Text bs ts h = absurd (h refl)
no_text_in (kind.Sign s) bs ts h = refl

pub text_in_no : (i : Input) → (i.piece.kind ≡ kind.Text → ⊥) → text_in (tokens i) ≡ None
unfolding tokens
text_in_no i h = no_text_in i.piece.kind i.piece.bytes.now (stream i.scanner.rest.now) h

name_in_first : (w : List ℕ) (ts : List Token) → is_reserved w ≡ false → name_in (Word w ∷ ts) ≡ Some w
name_in_first w ts r = rw r refl

pub name_in_yes : (i : Input) → is_piece i.piece.kind i.piece.doubled i.piece.bytes.now ≡ true → i.piece.kind ≡ kind.Name → name_in (tokens i) ≡ Some (lower i.piece.bytes.now)
unfolding tokens
name_in_yes i p e =
    let ts = stream i.scanner.rest.now in
    let bs = i.piece.bytes.now in
    let q : is_piece kind.Name i.piece.doubled bs ≡ true = ap (λ k. is_piece k i.piece.doubled bs) (sym e) ∙ p in
    ap (λ k. name_in (from_token (token_by k bs) ts)) e ∙ name_in_first (lower bs) ts (name_facts i.piece.doubled bs q).1

pub digits_in_yes : (i : Input) → i.piece.kind ≡ kind.Number → digits_in (tokens i) ≡ Some (number_of i.piece.bytes.now)
unfolding tokens
digits_in_yes i e = ap (λ k. digits_in (from_token (token_by k i.piece.bytes.now) (stream i.scanner.rest.now))) e

pub text_in_yes : (i : Input) → i.piece.kind ≡ kind.Text → text_in (tokens i) ≡ Some (undoubled i.piece.bytes.now)
unfolding tokens
text_in_yes i e = ap (λ k. text_in (from_token (token_by k i.piece.bytes.now) (stream i.scanner.rest.now))) e

pub text_left : (i j : Input) → i.piece.kind ≡ kind.Text → left j ≤ length i.scanner.rest.now → length (undoubled i.piece.bytes.now) + left j ≤ left i
unfolding left
text_left i j e h = rw e (omega (arith, h))
