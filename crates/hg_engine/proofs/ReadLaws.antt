-- What a line says by being read as a command.
use Rattle.std.specs.Prelude.{◌≡◌, ℕ, ◌≤◌, nat_le, Bool, true, false, List, [], ◌∷◌, ◌++◌, length, ◌&&◌, not, IsTrue, codes, ⊤}
use Rattle.std.specs.List.{list_all, AllByRecursion}
use Rattle.std.proofs.Common.{sym, ◌∙◌, refl, arith, length-append}
use Rattle.std.proofs.lemmas.Bool.{false≢true}
use Rattle.std.proofs.lemmas.Bool.Decides.{nat_tests}
use Rattle.std.proofs.lemmas.List.Folds.{list_all-append}
use Rattle.hg_model.specs.Grammar.{comma, open_sign, close_sign, semicolon, IsLine, bare, ended, IsCommand, create_table, insert, NewColumns, one, more, Tuples, Constants, IsConstant, plain, positive, negative, text, null}
use Rattle.hg_model.specs.LineReading.{ReadsLine, ReadAs, read}
use Rattle.hg_model.specs.Reading.{Reads, Statement, statement, has_bad_number}
use Rattle.hg_model.specs.Script.{Line, text_of_line}
use Rattle.hg_model.specs.Statements.{CommandTree, CreateTable, InsertRows, Pool, TableTree, InsertTree}
use Rattle.hg_model.specs.Tokens.{Token, Word, Digits, Letters, Sign, Spells, at_end, comment, blank, word, number, text as text_token, sign}
use Rattle.hg_model.specs.Value.{is_printable}
use Rattle.hg_model.specs.declared.trees.Literal.{Literal}
use Rattle.hg_model.specs.declared.trees.NewColumn.{NewColumn}
use Rattle.hg_reply.specs.Asked.{IsReadAs}

-- the tokens of a line that is read as a command, and what is known of them
record IsSpelled (max : ℕ) (c : CommandTree) (texts : List ℕ) : Type 0 where
  pub tokens : List Token
  pub bytes : List ℕ
  pub spelled : Spells tokens bytes
  pub stands : IsLine tokens c texts
  pub fine : has_bad_number max c ≡ false

spelled-text : (max : ℕ) (bytes : List ℕ) (c : CommandTree) (texts : List ℕ) → Reads max bytes (Statement c texts) → IsSpelled max c texts
spelled-text max bytes c texts (statement ts command letters spells stands fine few) = record { tokens = ts; bytes = bytes; spelled = spells; stands = stands; fine = fine }

spelled-line : (max : ℕ) (line : Line) (c : CommandTree) (texts : List ℕ) → ReadsLine max line (ReadAs (Statement c texts)) → IsSpelled max c texts
spelled-line max line c texts (read r short reads) = spelled-text max (text_of_line line) c texts reads

spelled : (max : ℕ) (c : CommandTree) (texts : List ℕ) → IsReadAs max c texts → IsSpelled max c texts
spelled max c texts reads = spelled-line max reads.0 c texts reads.1

-- POOL asks for 16 frames at least, and for no more than the pool may have
pub pool-range : (max n : ℕ) (texts : List ℕ) → IsReadAs max (Pool n) texts → (16 ≤ n) × (n ≤ max)
pool-range max n texts reads = by (nat_le 16 n) (nat_le n max) refl refl (spelled max (Pool n) texts reads).fine
  where
    by : (a b : Bool) → nat_le 16 n ≡ a → nat_le n max ≡ b → not (a && b) ≡ false → (16 ≤ n) × (n ≤ max)
    by true true low high e = (grind (arith, nat_tests), grind (arith, nat_tests))
    by true false low high e = absurd (false≢true (sym e))
    by false b low high e = absurd (false≢true (sym e))

-- CREATE TABLE has a column
some-columns : {ts : List Token} {cs : List NewColumn} → NewColumns ts cs → 1 ≤ length cs
some-columns (one c) = omega arith
some-columns (more {cs = before} {c = c} rest last) = omega (arith, length-append before (c ∷ []))

table-columns : {ts : List Token} {t : TableTree} {texts : List ℕ} → IsCommand ts (CreateTable t) texts → 1 ≤ length t.columns
table-columns (create_table name is columns) = some-columns columns

line-columns : {ts : List Token} {t : TableTree} {texts : List ℕ} → IsLine ts (CreateTable t) texts → 1 ≤ length t.columns
line-columns (bare command) = table-columns command
line-columns (ended command) = table-columns command

pub columns-some : (max : ℕ) (t : TableTree) (texts : List ℕ) → IsReadAs max (CreateTable t) texts → 1 ≤ length t.columns
columns-some max t texts reads = let s = spelled max (CreateTable t) texts reads in line-columns s.stands

-- ---- texts have printable bytes alone

abbrev IsShown : List ℕ → Type 0
IsShown bytes = list_all is_printable bytes ≡ true

abbrev ShowsText : Token → Type 0
ShowsText (Word w) = ⊤
ShowsText (Digits ds) = ⊤
ShowsText (Letters t) = IsShown t
ShowsText (Sign s) = ⊤

all-shown : (ts : List Token) (bytes : List ℕ) → Spells ts bytes → AllByRecursion ShowsText ts
all-shown ts bytes at_end = tt
all-shown ts bytes (comment bs) = tt
all-shown ts bytes (blank us b bs is rest) = all-shown ts bs rest
all-shown ts bytes (word us w bs is apart rest) = (tt, all-shown us bs rest)
all-shown ts bytes (number us ds bs is apart rest) = (tt, all-shown us bs rest)
all-shown ts bytes (text_token us t bs is apart rest) = (is, all-shown us bs rest)
all-shown ts bytes (sign us s bs is apart rest) = (tt, all-shown us bs rest)

all-left : (P : Token → Type 0) (xs ys : List Token) → AllByRecursion P (xs ++ ys) → AllByRecursion P xs
all-left P [] ys h = tt
all-left P (x ∷ xs) ys h = (h.0, all-left P xs ys h.1)

all-right : (P : Token → Type 0) (xs ys : List Token) → AllByRecursion P (xs ++ ys) → AllByRecursion P ys
all-right P [] ys h = h
all-right P (x ∷ xs) ys h = all-right P xs ys h.1

both-shown : (x t : List ℕ) → IsShown x → IsShown t → IsShown (x ++ t)
both-shown x t hx ht = list_all-append is_printable x t ∙ (λ i. hx i && ht i)

constant-shown : {x : List ℕ} {ts : List Token} {y : List ℕ} {v : Literal} → IsConstant x ts y v → AllByRecursion ShowsText ts → IsShown x → IsShown y
constant-shown (plain ds) h hx = hx
constant-shown (positive ds) h hx = hx
constant-shown (negative ds) h hx = hx
constant-shown (text {x} t) h hx = both-shown x t hx h.0
constant-shown null h hx = hx

constants-shown : {x : List ℕ} {ts : List Token} {y : List ℕ} {vs : List Literal} → Constants x ts y vs → AllByRecursion ShowsText ts → IsShown x → IsShown y
constants-shown (one c) h hx = constant-shown c h hx
constants-shown (more {ts = hs} {us = bs} first last) h hx =
    constant-shown last (all-right ShowsText hs (comma ∷ bs) h).1 (constants-shown first (all-left ShowsText hs (comma ∷ bs) h) hx)

tuples-shown : {x : List ℕ} {ts : List Token} {y : List ℕ} {vs : List Literal} {es : List ℕ} → Tuples x ts y vs es → AllByRecursion ShowsText ts → IsShown x → IsShown y
tuples-shown (one {ts = hs} c) h hx = constants-shown c (all-left ShowsText hs (close_sign ∷ []) h.1) hx
tuples-shown (more {ts = hs} {us = bs} first last) h hx =
    let behind = (all-right ShowsText hs (comma ∷ open_sign ∷ (bs ++ close_sign ∷ [])) h).1.1 in
    constants-shown last (all-left ShowsText bs (close_sign ∷ []) behind) (tuples-shown first (all-left ShowsText hs (comma ∷ open_sign ∷ (bs ++ close_sign ∷ [])) h) hx)

command-shown : {ts : List Token} {i : InsertTree} {texts : List ℕ} → IsCommand ts (InsertRows i) texts → AllByRecursion ShowsText ts → IsShown texts
command-shown (insert {ts = hs} {us = bs} t name listed tuples) h = tuples-shown tuples (all-right ShowsText hs (Word (codes "values") ∷ bs) h.1.1.1).1 refl

line-shown : {ts : List Token} {i : InsertTree} {texts : List ℕ} → IsLine ts (InsertRows i) texts → AllByRecursion ShowsText ts → IsShown texts
line-shown (bare command) h = command-shown command h
line-shown (ended {ts = hs} command) h = command-shown command (all-left ShowsText hs (semicolon ∷ []) h)

-- the texts of an INSERT have printable bytes alone
pub texts-shown : (max : ℕ) (i : InsertTree) (texts : List ℕ) → IsReadAs max (InsertRows i) texts → IsTrue (list_all is_printable texts)
texts-shown max i texts reads =
    let s = spelled max (InsertRows i) texts reads in line-shown s.stands (all-shown s.tokens s.bytes s.spelled)
