-- Each by its tokens and the rules of the grammar.
use Rattle.std.proofs.Common.{◌≡◌, ℕ, refl, sym, subst, ap, ◌∙◌, Bool, true, false, ◌||◌, not, List, [], ◌∷◌, ◌++◌, append-nil, arith}
use Rattle.std.specs.Prelude.{codes, IsTrue, ◌==◌}
use Rattle.std.specs.List.{list_all, list_any}
use Rattle.std.specs.Cmp.{first_so, second_so}
use Rattle.std.proofs.lemmas.List.Folds.{list_all-append}
use Rattle.hg_model.specs.Grammar as grammar
use Rattle.hg_model.specs.Grammar.{IsCommand, IsLine, IsSelect, Head}
use Rattle.hg_model.specs.Name.{is_in_word}
use Rattle.hg_model.specs.Query.{Query}
use Rattle.hg_model.specs.Reading as reading
use Rattle.hg_model.specs.Reading.{Reads, Syntax, BadNumber, Blank, Statement}
use Rattle.hg_model.specs.Statements.{CommandTree, InsertRows, Start, Work}
use Rattle.hg_model.specs.Tables.{same_name}
use Rattle.hg_model.specs.Tokens as tokens
use Rattle.hg_model.specs.Tokens.{Token, Word, Digits, Letters, Sign, Spells, is_word, begins, lower, is_reserved}
use Rattle.hg_model.specs.declared.trees.Literal.TheVariants as literal
use Rattle.hg_worked.specs.Lines.{LinesHold}

-- the words with which a command begins
abbrev begins_command : List ℕ → Bool
begins_command w =
    list_any (same_name w)
    (codes "create" ∷ codes "insert" ∷ codes "update" ∷ codes "delete" ∷ codes "vacuum" ∷ codes "select" ∷ codes "open" ∷ codes "start"
    ∷ codes "work" ∷ codes "fetch" ∷ codes "close" ∷ codes "pool" ∷ codes "mpl" ∷ codes "show" ∷ [])

abbrev is_begun : List Token → Bool
is_begun (Word w ∷ ts) = begins_command w
is_begun (Digits ds ∷ ts) = false
is_begun (Letters t ∷ ts) = false
is_begun (Sign s ∷ ts) = false
is_begun [] = false

begun_more : (ts us : List Token) → is_begun ts ≡ true → is_begun (ts ++ us) ≡ true
begun_more [] us h = absurd cc
begun_more (Word w ∷ ts) us h = h
begun_more (Digits ds ∷ ts) us h = absurd cc
begun_more (Letters t ∷ ts) us h = absurd cc
begun_more (Sign s ∷ ts) us h = absurd cc

begun_head : {hs : List Token} {d : Bool} → Head hs d → is_begun hs ≡ true
begun_head grammar.Head.plain = refl
begun_head grammar.Head.all = refl
begun_head grammar.Head.distinct = refl

begun_select : {ts : List Token} {q : Query} {x : List ℕ} → IsSelect ts q x → is_begun ts ≡ true
begun_select (grammar.IsSelect.select {hs = hs} h o f w g v k) = begun_more hs _ (begun_head h)

begun : {ts : List Token} {c : CommandTree} {x : List ℕ} → IsCommand ts c x → is_begun ts ≡ true
begun (grammar.IsCommand.create_table t is cs) = refl
begun (grammar.IsCommand.create_index i t u is it ns) = refl
begun (grammar.IsCommand.insert t is l vs) = refl
begun (grammar.IsCommand.update t is xs f) = refl
begun (grammar.IsCommand.delete t is f) = refl
begun (grammar.IsCommand.vacuum t is) = refl
begun (grammar.IsCommand.select s) = begun_select s
begun (grammar.IsCommand.open_cursor c is s) = refl
begun (grammar.IsCommand.start c ds is) = refl
begun (grammar.IsCommand.work ds) = refl
begun (grammar.IsCommand.fetch c ds is) = refl
begun (grammar.IsCommand.close c is) = refl
begun (grammar.IsCommand.pool ds) = refl
begun (grammar.IsCommand.mpl ds) = refl
begun grammar.IsCommand.show_memory = refl

begun_line : {ts : List Token} {c : CommandTree} {x : List ℕ} → IsLine ts c x → is_begun ts ≡ true
begun_line (grammar.IsLine.bare c) = begun c
begun_line (grammar.IsLine.ended {ts = ts} c) = begun_more ts _ (begun c)

false_true : false ≡ true → ⊥
false_true e = cc

not_dash : (b c : ℕ) → b ≡ 45 → c ≡ 83 → b ≡ c → ⊥
not_dash b c p q e = omega arith

-- where all bytes are of a word, the word is all of them
whole_word : (w bs line : List ℕ) → list_all is_in_word line ≡ true → w ++ bs ≡ line → IsTrue (not (begins is_in_word bs)) → w ≡ line
whole_word w [] line h e ends = sym (append-nil w) ∙ e
whole_word w (b ∷ bs) line h e ends =
    let all : list_all is_in_word (w ++ b ∷ bs) ≡ true = ap (list_all is_in_word) e ∙ h in
    let tail = second_so (list_all is_in_word w) (list_all is_in_word (b ∷ bs)) (sym (list_all-append is_in_word w (b ∷ bs)) ∙ all) in
    let P : Bool → Type 0 = λ x. IsTrue (not x) in
    absurd (false_true (subst P (first_so (is_in_word b) (list_all is_in_word bs) tail) ends))

first_of_line : (b c : ℕ) (bs cs : List ℕ) → b ∷ bs ≡ c ∷ cs → b ≡ c
first_of_line b c bs cs e = cc

not_blank : (b : ℕ) → b ≡ 83 → IsTrue (b == 32 || b == 9) → ⊥
not_blank b e h = let P : ℕ → Type 0 = λ n. IsTrue (n == 32 || n == 9) in false_true (subst P e h)

not_begun : {ts : List Token} {bs : List ℕ} → Spells ts bs → bs ≡ codes "SELEC" → is_begun ts ≡ false
not_begun tokens.Spells.at_end e = refl
not_begun (tokens.Spells.comment bs) e = refl
not_begun (tokens.Spells.blank ts b bs is s) e = absurd (not_blank b (first_of_line b 83 bs (codes "ELEC") e) is)
not_begun (tokens.Spells.word ts w bs is ends s) e = ap begins_command (ap lower (whole_word w bs (codes "SELEC") refl e ends))
not_begun (tokens.Spells.number ts ds bs is ends s) e = refl
not_begun (tokens.Spells.text ts t bs is ends s) e = refl
not_begun (tokens.Spells.sign ts x bs is ends s) e = refl

not_empty : {ts : List Token} {bs : List ℕ} → Spells ts bs → ts ≡ [] → bs ≡ codes "SELEC" → ⊥
not_empty tokens.Spells.at_end n e = cc
not_empty (tokens.Spells.comment bs) n e = not_dash 45 83 refl refl (first_of_line 45 83 (45 ∷ bs) (codes "ELEC") e)
not_empty (tokens.Spells.blank ts b bs is s) n e = not_blank b (first_of_line b 83 bs (codes "ELEC") e) is
not_empty (tokens.Spells.word ts w bs is ends s) n e = cc
not_empty (tokens.Spells.number ts ds bs is ends s) n e = cc
not_empty (tokens.Spells.text ts t bs is ends s) n e = cc
not_empty (tokens.Spells.sign ts x bs is ends s) n e = cc

no_command : (max : ℕ) → Reads max (codes "SELEC") Syntax
no_command max = reading.Reads.syntax_error (λ s. not_empty s refl refl) (λ ts c x s l. false_true (sym (not_begun s refl) ∙ begun_line l))

pub no_turns : (max : ℕ) → Reads max (codes "WORK 0") BadNumber
no_turns max =
    reading.Reads.bad_number (Word (codes "work") ∷ Digits (codes "0") ∷ []) (Work 0) []
    (tokens.Spells.word _ (codes "WORK") (codes " 0") refl refl (tokens.Spells.blank _ 32 (codes "0") refl (tokens.Spells.number [] (codes "0") [] refl refl tokens.Spells.at_end)))
    (grammar.IsLine.bare (grammar.IsCommand.work (codes "0"))) refl

start : (max : ℕ) → Reads max (codes "START z 1") (Statement (Start (codes "z") 1) [])
unfolding is_reserved
start max =
    reading.Reads.statement (Word (codes "start") ∷ Word (codes "z") ∷ Digits (codes "1") ∷ []) (Start (codes "z") 1) []
    (tokens.Spells.word _ (codes "START") (codes " z 1") refl refl (tokens.Spells.blank _ 32 (codes "z 1") refl (tokens.Spells.word _ (codes "z") (codes " 1") refl refl
    (tokens.Spells.blank _ 32 (codes "1") refl (tokens.Spells.number [] (codes "1") [] refl refl tokens.Spells.at_end)))))
    (grammar.IsLine.bare (grammar.IsCommand.start (codes "z") (codes "1") refl)) refl refl

comment : (max : ℕ) → Reads max (codes " -- it's") Blank
comment max = reading.Reads.blank (tokens.Spells.blank _ 32 (codes "-- it's") refl (tokens.Spells.comment (codes " it's")))

doubled_quote : (max : ℕ)
    → Reads max (codes "insert INTO N values ('it''s');") (Statement (InsertRows (record { table = codes "n"; columns = []; values = (literal.Text (record { at = 0; len = 4 }) ∷ []); ends = (1 ∷ []) })) (codes "it's"))
unfolding is_reserved
doubled_quote max =
    reading.Reads.statement
    (Word (codes "insert") ∷ Word (codes "into") ∷ Word (codes "n") ∷ Word (codes "values") ∷ Sign (40 ∷ []) ∷ Letters (codes "it's") ∷ Sign (41 ∷ []) ∷ Sign (59 ∷ []) ∷ [])
    (InsertRows (record { table = codes "n"; columns = []; values = (literal.Text (record { at = 0; len = 4 }) ∷ []); ends = (1 ∷ []) })) (codes "it's")
    (tokens.Spells.word _ (codes "insert") (codes " INTO N values ('it''s');") refl refl (tokens.Spells.blank _ 32 (codes "INTO N values ('it''s');") refl
    (tokens.Spells.word _ (codes "INTO") (codes " N values ('it''s');") refl refl (tokens.Spells.blank _ 32 (codes "N values ('it''s');") refl
    (tokens.Spells.word _ (codes "N") (codes " values ('it''s');") refl refl (tokens.Spells.blank _ 32 (codes "values ('it''s');") refl
    (tokens.Spells.word _ (codes "values") (codes " ('it''s');") refl refl (tokens.Spells.blank _ 32 (codes "('it''s');") refl
    (tokens.Spells.sign _ (40 ∷ []) (codes "'it''s');") refl refl
    (tokens.Spells.text _ (codes "it's") (codes ");") refl refl
    (tokens.Spells.sign _ (41 ∷ []) (codes ";") refl refl
    (tokens.Spells.sign [] (59 ∷ []) [] refl refl tokens.Spells.at_end))))))))))))
    (grammar.IsLine.ended (grammar.IsCommand.insert (codes "n") refl grammar.Listed.left_out (grammar.Tuples.one (grammar.Constants.one (grammar.IsConstant.text (codes "it's")))))) refl refl

pub lines_hold : (max : ℕ) → LinesHold max
lines_hold max = record { no_command = no_command max; no_turns = no_turns max; start = start max; doubled_quote = doubled_quote max; comment = comment max }
