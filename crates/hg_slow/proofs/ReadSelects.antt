-- The parts of a SELECT, each read behind the one before, and the whole.
use Rattle.std.proofs.Common.{◌≡◌, ℕ, refl, ◌∙◌, Bool, true, false, ◌||◌, List, [], ◌∷◌, length, Option, None, ap}
use Rattle.std.specs.Prelude.{⊤, nat_lt, nat_le}
use Rattle.std.specs.List.{list_all, list_any}
use Rattle.std.specs.Cmp.{first_so, second_so}
use borrow.Author.Tests.{le-leb, ltb-false}
use Rattle.hg_model.specs.Grammar as grammar
use Rattle.hg_model.specs.Grammar.{Read, nothing_read, with_node, next, Clause, IsColumn, IsOutput, Outputs, IsRef, Tables, GroupColumns, Group, Direction, IsKey, Keys, Order, Head, Columns, IsSelect, IsCommand, IsLine}
use Rattle.hg_model.specs.Query.{Query}
use Rattle.hg_model.specs.Reading.{Reads, Reading, Statement, is_long_name, is_long_text, too_many_of, first_count}
use Rattle.hg_model.specs.Reading as reading
use Rattle.hg_model.specs.Statements.{InsertTree, CommandTree, SelectRows, OpenCursor}
use Rattle.hg_model.specs.Tokens.{Token, Word, Digits, Letters, Sign, Spells, lower}
use Rattle.hg_model.specs.Tokens as tokens
use Rattle.hg_model.specs.Value.{is_printable}
use Rattle.hg_model.specs.Width.{is_tree, text_fits}
use Rattle.hg_model.specs.declared.trees.Count.{Count}
use Rattle.hg_model.specs.declared.trees.ColRef.{ColRef}
use Rattle.hg_model.specs.declared.trees.Count.TheVariants as count
use Rattle.hg_model.specs.declared.trees.FromTable.{FromTable}
use Rattle.hg_model.specs.declared.trees.Node.TheVariants as node
use Rattle.hg_model.specs.declared.trees.OrderKey.{OrderKey}
use Rattle.hg_model.specs.declared.trees.Output.{Output}
use Rattle.hg_slow.proofs.ReadTrees.{AllTexts, is_text_token, both_so, front, back, rest, Sound, sound_more, good}
use Rattle.hg_slow.specs.Bound.{IsWellFormed}

-- what was read stays sound
pub record Keeps (r s : Read) : Type 0 where
  pub sound : Sound r → Sound s

same : (r : Read) → Keeps r r
same r = record { sound = λ h. h }

then : {r s t : Read} → Keeps r s → Keeps s t → Keeps r t
then f g = record { sound = λ h. g.sound (f.sound h) }

whole : {r s : Read} {ts : List Token} {n : ℕ} → grammar.Whole r ts s n → AllTexts ts → Keeps r s
whole e p = record { sound = (good e tt p).sound }

clause : {w : List ℕ} {r s : Read} {ts : List Token} {f : Option ℕ} → Clause w r ts s f → AllTexts ts → Keeps r s
clause (grammar.Clause.left_out {r = r}) p = same r
clause (grammar.Clause.given {ts = ts} e) p = whole e (rest _ ts p)

output : {r s : Read} {ts : List Token} {o : Output} → IsOutput r ts s o → AllTexts ts → Keeps r s
output (grammar.IsOutput.plain e) p = whole e p
output (grammar.IsOutput.named {ts = ts} c is e) p = whole e (front ts _ p)

outputs : {r s : Read} {ts : List Token} {os : List Output} → Outputs r ts s os → AllTexts ts → Keeps r s
outputs (grammar.Outputs.one o) p = output o p
outputs (grammar.Outputs.more {ts = ts} {us = us} os o) p = then (outputs os (front ts _ p)) (output o (rest _ us (back ts _ p)))

tables : {r s : Read} {ts : List Token} {fs : List FromTable} → Tables r ts s fs → AllTexts ts → Keeps r s
tables (grammar.Tables.one {r = r} is) p = same r
tables (grammar.Tables.by_comma {ts = ts} fs is) p = tables fs (front ts _ p)
tables (grammar.Tables.by_cross {ts = ts} fs is) p = tables fs (front ts _ p)
tables (grammar.Tables.by_join {ts = ts} {us = us} {vs = vs} fs is e) p =
    then (tables fs (front ts _ p)) (whole e (rest _ vs (back us _ (rest _ _ (back ts _ p)))))
tables (grammar.Tables.by_inner {ts = ts} {us = us} {vs = vs} fs is e) p =
    then (tables fs (front ts _ p)) (whole e (rest _ vs (back us _ (rest _ _ (rest _ _ (back ts _ p))))))

column : (r : Read) (c : ColRef) → Keeps r (with_node r (node.Col c))
column r c = record { sound = sound_more r (node.Col c) refl refl }

group_columns : {r s : Read} {ts : List Token} {ns : List ℕ} → GroupColumns r ts s ns → Keeps r s
group_columns (grammar.GroupColumns.one {r = r} {c = c} is) = column r c
group_columns (grammar.GroupColumns.more {s = s} {c = c} ns is) = then (group_columns ns) (column s c)

group : {r s : Read} {ts : List Token} {ns : List ℕ} → Group r ts s ns → Keeps r s
group (grammar.Group.left_out {r = r}) = same r
group (grammar.Group.given ns) = group_columns ns

key : {r s : Read} {ts : List Token} {k : OrderKey} → IsKey r ts s k → Keeps r s
key (grammar.IsKey.position {r = r} ds d) = same r
key (grammar.IsKey.column {r = r} {c = c} is d) = column r c

keys : {r s : Read} {ts : List Token} {ks : List OrderKey} → Keys r ts s ks → Keeps r s
keys (grammar.Keys.one k) = key k
keys (grammar.Keys.more ks k) = then (keys ks) (key k)

order : {r s : Read} {ts : List Token} {ks : List OrderKey} → Order r ts s ks → Keeps r s
order (grammar.Order.left_out {r = r}) = same r
order (grammar.Order.given ks) = keys ks

columns : {ts : List Token} {s : Read} {b : Bool} {os : List Output} → Columns ts s b os → AllTexts ts → Keeps nothing_read s
columns grammar.Columns.by_star p = same nothing_read
columns (grammar.Columns.by_outputs os) p = outputs os p

nothing_sound : Sound nothing_read
nothing_sound = record { tree = refl; fit = refl }

well_formed : (q : Query) (texts : List ℕ) (s : Read) → q.nodes ≡ s.nodes → texts ≡ s.texts → Sound s → IsWellFormed q texts
well_formed q texts s e f h = record {
  tree = ap is_tree e ∙ h.tree;
  texts_fit = ap (λ ns. list_all (text_fits texts) ns) e ∙ ap (λ x. list_all (text_fits x) s.nodes) f ∙ h.fit;
}

select : {ts : List Token} {q : Query} {texts : List ℕ} → IsSelect ts q texts → AllTexts ts → IsWellFormed q texts
select (grammar.IsSelect.select {hs = hs} {cs = cs} {fs = fs} {ws = ws} {gs = gs} {vs = vs} {f = f} head out from filter grouped having ordered) p =
    let behind_head = back hs _ p in
    let behind_out = rest _ _ (back cs _ behind_head) in
    let behind_from = back fs _ behind_out in
    let behind_filter = back ws _ behind_from in
    let behind_group = back gs _ behind_filter in
    let all = then (columns out (front cs _ behind_head)) (then (tables from (front fs _ behind_out)) (then (clause filter (front ws _ behind_from))
    (then (group grouped) (then (clause having (front vs _ behind_group)) (order ordered))))) in
    well_formed _ _ f refl refl (all.sound nothing_sound)

-- a command that is a SELECT, or opens one
abbrev pub Selects : CommandTree → List ℕ → Type 0
Selects (SelectRows q) x = IsWellFormed q x
Selects (OpenCursor c q) x = IsWellFormed q x
Selects _ x = ⊤

command : {ts : List Token} {c : CommandTree} {x : List ℕ} → IsCommand ts c x → AllTexts ts → Selects c x
command (grammar.IsCommand.create_table t is cs) p = tt
command (grammar.IsCommand.create_index i t u is it ns) p = tt
command (grammar.IsCommand.insert t is l vs) p = tt
command (grammar.IsCommand.update t is xs f) p = tt
command (grammar.IsCommand.delete t is f) p = tt
command (grammar.IsCommand.vacuum t is) p = tt
command (grammar.IsCommand.select s) p = select s p
command (grammar.IsCommand.open_cursor {ts = ts} c is s) p = select s (rest _ ts (rest _ _ (rest _ _ p)))
command (grammar.IsCommand.start c ds is) p = tt
command (grammar.IsCommand.work ds) p = tt
command (grammar.IsCommand.fetch c ds is) p = tt
command (grammar.IsCommand.close c is) p = tt
command (grammar.IsCommand.pool ds) p = tt
command (grammar.IsCommand.mpl ds) p = tt
command grammar.IsCommand.show_memory p = tt

line : {ts : List Token} {c : CommandTree} {x : List ℕ} → IsLine ts c x → AllTexts ts → Selects c x
line (grammar.IsLine.bare c) p = command c p
line (grammar.IsLine.ended {ts = ts} c) p = command c (front ts _ p)

-- the characters of a text that is spelled are printable
abbrev pub is_printed : Token → Bool
is_printed (Letters t) = list_all is_printable t
is_printed (Word w) = true
is_printed (Digits ds) = true
is_printed (Sign s) = true

printed : {ts : List Token} {bs : List ℕ} → Spells ts bs → list_all is_printed ts ≡ true
printed tokens.Spells.at_end = refl
printed (tokens.Spells.comment bs) = refl
printed (tokens.Spells.blank ts b bs is s) = printed s
printed (tokens.Spells.word ts w bs is ends s) = printed s
printed (tokens.Spells.number ts ds bs is ends s) = printed s
printed (tokens.Spells.text ts t bs is ends s) = both_so (list_all is_printable t) (list_all is_printed ts) is (printed s)
printed (tokens.Spells.sign ts x bs is ends s) = printed s

not_so : (s t : Bool) → (s || t) ≡ false → (s ≡ false) × (t ≡ false)
not_so true t h = absurd cc
not_so false t h = (refl, h)

token_fits : (t : Token) → is_printed t ≡ true → is_long_text t ≡ false → is_text_token t ≡ true
token_fits (Letters t) p h = both_so (list_all is_printable t) (nat_le (length t) 255) p (le-leb (length t) 255 (ltb-false 255 (length t) h))
token_fits (Word w) p h = refl
token_fits (Digits ds) p h = refl
token_fits (Sign s) p h = refl

tokens_fit : (ts : List Token) → list_all is_printed ts ≡ true → list_any is_long_text ts ≡ false → list_all is_text_token ts ≡ true
tokens_fit [] p h = refl
tokens_fit (t ∷ ts) p h =
    let short = not_so (is_long_text t) (list_any is_long_text ts) h in
    both_so (is_text_token t) (list_all is_text_token ts) (token_fits t (first_so (is_printed t) (list_all is_printed ts) p) short.0)
    (tokens_fit ts (second_so (is_printed t) (list_all is_printed ts) p) short.1)

none_first : (b : Bool) (k : Count) (more : List (Bool × Count)) → first_count ((b, k) ∷ more) ≡ None → (b ≡ false) × (first_count more ≡ None)
none_first true k more h = absurd cc
none_first false k more h = (refl, h)

-- the counts behind those of names and texts
abbrev later_counts : CommandTree → List (Bool × Count)
later_counts c =
    (nat_lt 16 (reading.columns_in c), count.Columns)
    ∷ (nat_lt 64 (reading.of_insert (λ (i : InsertTree). length i.ends) c), count.Rows)
    ∷ (nat_lt 1024 (reading.of_insert (λ (i : InsertTree). length i.values) c), count.Values)
    ∷ (nat_lt 4 (reading.of_query (λ (q : Query). length q.tables) c), count.TablesInFrom)
    ∷ (nat_lt 16 (reading.of_query (λ (q : Query). length q.outputs) c), count.Outputs)
    ∷ (nat_lt 16 (reading.of_query (λ (q : Query). length q.group) c), count.GroupColumns)
    ∷ (nat_lt 8 (reading.of_query (λ (q : Query). length q.order) c), count.OrderKeys)
    ∷ (nat_lt 96 (reading.nodes_in c), count.Nodes)
    ∷ []

short_texts : (ts : List Token) (c : CommandTree) → too_many_of ts c ≡ None → list_any is_long_text ts ≡ false
short_texts ts c h =
    (none_first (list_any is_long_text ts) count.TextLetters (later_counts c)
    (none_first (list_any is_long_name ts) count.NameLetters ((list_any is_long_text ts, count.TextLetters) ∷ later_counts c) h).1).0

abbrev pub ReadsWell : Reading → Type 0
ReadsWell (Statement c x) = Selects c x
ReadsWell _ = ⊤

pub reads_well : {max : ℕ} {bs : List ℕ} {r : Reading} → Reads max bs r → ReadsWell r
reads_well (reading.Reads.blank s) = tt
reads_well (reading.Reads.syntax_error s n) = tt
reads_well (reading.Reads.bad_number ts c x s l b) = tt
reads_well (reading.Reads.too_many ts c x k s l b m) = tt
reads_well (reading.Reads.statement ts c x s l b m) = line l (record { so = tokens_fit ts (printed s) (short_texts ts c m) })
