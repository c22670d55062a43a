-- A line is read in one way.
use Rattle.std.proofs.Common.{◌≡◌, ℕ, Bool, cond, true, false, List, [], ◌∷◌, Option, Some, None, refl, sym, ap, ◌∙◌, subst}
use Rattle.std.proofs.lemmas.Bool.{cond-true, cond-false}
use Rattle.hg_model.specs.Grammar.{IsLine}
use Rattle.hg_model.specs.Reading.{Reading, Syntax, BadNumber, has_bad_number, too_many_of, Reads, blank, syntax_error, bad_number, too_many, statement}
use Rattle.hg_model.specs.Statements.{CommandTree}
use Rattle.hg_model.specs.Tokens.{Token, Spells}
use Rattle.hg_model.specs.declared.trees.Count.{Count}
use Rattle.hg_model.specs.Reading.{HasOneReading}
use Rattle.hg_parse.specs.Laws.{OneTree, ReadsByDescent}
use Rattle.hg_parse.specs.Readings.{counted, judged, by_line, by_tokens, reading_of}
use Rattle.hg_parse.specs.Rules.{Line, line_of, command}
use Rattle.hg_parse.proofs.FoundLines.{line_found}
use Rattle.hg_parse.proofs.OnAnswers.{OnOption}
use Rattle.hg_parse.proofs.ReadCommands.{line_read}
use Rattle.hg_scan.specs.Cutting.{tokens_of}
use Rattle.hg_scan.specs.TokenLaws.{spelled}

no_line : (l : Line) → line_of [] ≡ Some l → ⊥
unfolding line_of command
no_line l e = absurd (cc)

-- tokens that are a line
pub line_tokens : (max : ℕ) (ts : List Token) (l : Line) → line_of ts ≡ Some l → by_tokens max (Some ts) ≡ judged max ts l
line_tokens max [] l e = absurd (no_line l e)
line_tokens max (t ∷ ts) l e = ap (by_line max (t ∷ ts)) e

pub has_line : (ts : List Token) (l : Line) → line_of ts ≡ Some l → IsLine ts l.command l.texts
has_line ts l e = subst (λ o. OnOption o (λ l. IsLine ts l.command l.texts)) e (line_read ts)

some_line : (ts : List Token) (c : CommandTree) (x : List ℕ) → line_of ts ≡ Some (record { command = c; texts = x }) → IsLine ts c x
some_line ts c x e = has_line ts (record { command = c; texts = x }) e

pub one_tree : OneTree
one_tree ts c x = (line_found, some_line ts c x)

no_reading : (max : ℕ) (line : List ℕ) (ts : List Token) → ((ts : List Token) (c : CommandTree) (x : List ℕ) → Spells ts line → IsLine ts c x → ⊥) → Spells ts line
    → (m : Option Line) → line_of ts ≡ m → by_line max ts m ≡ Syntax
no_reading max line ts none sp None e = refl
no_reading max line ts none sp (Some l) e = absurd (none ts l.command l.texts sp (has_line ts l e))

syntax_so : (max : ℕ) (line : List ℕ) → (Spells [] line → ⊥) → ((ts : List Token) (c : CommandTree) (x : List ℕ) → Spells ts line → IsLine ts c x → ⊥)
    → (o : Option (List Token)) → tokens_of line ≡ o → by_tokens max o ≡ Syntax
syntax_so max line filled none None e = refl
syntax_so max line filled none (Some []) e = absurd (filled ((spelled [] line).1 e))
syntax_so max line filled none (Some (t ∷ ts)) e = no_reading max line (t ∷ ts) none ((spelled (t ∷ ts) line).1 e) (line_of (t ∷ ts)) refl

line_so : (max : ℕ) (line : List ℕ) (ts : List Token) (c : CommandTree) (x : List ℕ) → Spells ts line → IsLine ts c x
    → by_tokens max (tokens_of line) ≡ judged max ts (record { command = c; texts = x })
line_so max line ts c x sp h = ap (by_tokens max) ((spelled ts line).0 sp) ∙ line_tokens max ts (record { command = c; texts = x }) (line_found h)

-- what a line is read as is a function of the line
pub read_so : (max : ℕ) (line : List ℕ) (a : Reading) → Reads max line a → by_tokens max (tokens_of line) ≡ a
read_so max line a (blank sp) = ap (by_tokens max) ((spelled [] line).0 sp)
read_so max line a (syntax_error filled none) = syntax_so max line filled none (tokens_of line) refl
read_so max line a (bad_number ts c x sp h b) = line_so max line ts c x sp h ∙ cond-true (has_bad_number max c) BadNumber _ b
read_so max line a (too_many ts c x k sp h b m) =
    line_so max line ts c x sp h ∙ cond-false (has_bad_number max c) BadNumber _ b ∙ ap (counted (record { command = c; texts = x })) m
read_so max line a (statement ts c x sp h b m) =
    line_so max line ts c x sp h ∙ cond-false (has_bad_number max c) BadNumber _ b ∙ ap (counted (record { command = c; texts = x })) m

pub one_reading : (max : ℕ) (line : List ℕ) (a b : Reading) → Reads max line a → Reads max line b → a ≡ b
one_reading max line a b h l = sym (read_so max line a h) ∙ read_so max line b l

-- and each line is read so
judged_reads : (max : ℕ) (line : List ℕ) (ts : List Token) (l : Line) → Spells ts line → IsLine ts l.command l.texts → (b : Bool) → has_bad_number max l.command ≡ b
    → (k : Option Count) → too_many_of ts l.command ≡ k → Reads max line (cond b BadNumber (counted l k))
judged_reads max line ts l sp h true b k m = bad_number ts l.command l.texts sp h b
judged_reads max line ts l sp h false b None m = statement ts l.command l.texts sp h b m
judged_reads max line ts l sp h false b (Some k) m = too_many ts l.command l.texts k sp h b m

same_tokens : (line : List ℕ) (ts us : List Token) → Spells ts line → Spells us line → ts ≡ us
same_tokens line ts us h l = let e : Some ts ≡ Some us = sym ((spelled ts line).0 h) ∙ (spelled us line).0 l in cc

line_reads : (max : ℕ) (line : List ℕ) (t : Token) (ts : List Token) → Spells (t ∷ ts) line → (o : Option Line) → line_of (t ∷ ts) ≡ o → Reads max line (by_line max (t ∷ ts) o)
line_reads max line t ts sp None e =
    syntax_error (λ h. let q : [] ≡ t ∷ ts = same_tokens line [] (t ∷ ts) h sp in cc)
    (λ us c x h l. let q : us ≡ t ∷ ts = same_tokens line us (t ∷ ts) h sp in
    let f : line_of us ≡ Some (record { command = c; texts = x }) = line_found l in
    let g : None ≡ Some (record { command = c; texts = x }) = sym e ∙ ap line_of (sym q) ∙ f in cc)
line_reads max line t ts sp (Some l) e =
    judged_reads max line (t ∷ ts) l sp (has_line (t ∷ ts) l e) (has_bad_number max l.command) refl (too_many_of (t ∷ ts) l.command) refl

reads_by : (max : ℕ) (line : List ℕ) (o : Option (List Token)) → tokens_of line ≡ o → Reads max line (by_tokens max o)
reads_by max line None e =
    syntax_error (λ h. let q : None ≡ Some [] = sym e ∙ (spelled [] line).0 h in cc) (λ us c x h l. let q : None ≡ Some us = sym e ∙ (spelled us line).0 h in cc)
reads_by max line (Some []) e = blank ((spelled [] line).1 e)
reads_by max line (Some (t ∷ ts)) e = line_reads max line t ts ((spelled (t ∷ ts) line).1 e) (line_of (t ∷ ts)) refl

pub reads_so : (max : ℕ) (line : List ℕ) → Reads max line (by_tokens max (tokens_of line))
reads_so max line = reads_by max line (tokens_of line) refl

pub has_one_reading : HasOneReading
has_one_reading = one_reading

reads_it : (max : ℕ) (line : List ℕ) (a : Reading) → reading_of max line ≡ a → Reads max line a
reads_it max line a e = subst (λ r. Reads max line r) e (reads_so max line)

pub reads_by_descent : ReadsByDescent
reads_by_descent max line a = (read_so max line a, reads_it max line a)
