-- The parts of a statement, each read behind the one before, and the whole.
use Rattle.std.proofs.Common.{◌≡◌, ℕ, ◌≤◌, refl, arith, Bool, true, List, [], ◌∷◌, ◌++◌, length, length-append, Option}
use Rattle.std.specs.Prelude.{⊤}
use Rattle.std.specs.List.{list_all}
use Rattle.hg_model.specs.Grammar as grammar
use Rattle.hg_model.specs.Grammar.{Read, nothing_read, with_node, Clause, IsOutput, Outputs, Tables, GroupColumns, Group, IsKey, Keys, Order, Columns, Sets, IsSelect, IsCommand, IsLine}
use Rattle.hg_model.specs.Query.{Query}
use Rattle.hg_model.specs.Reading.{Reads, Reading, Statement, too_many_of}
use Rattle.hg_model.specs.Reading as reading
use Rattle.hg_model.specs.Statements.{CommandTree, CreateTable, CreateIndex, InsertRows, UpdateRows, DeleteRows, Vacuum, SelectRows, OpenCursor, Start, Work, Fetch, Close, Pool, Mpl, ShowMemory}
use Rattle.hg_model.specs.Tokens.{Token}
use Rattle.hg_model.specs.Width.{is_tree, text_fits}
use Rattle.hg_model.specs.declared.trees.ColRef.{ColRef}
use Rattle.hg_model.specs.declared.trees.FromTable.{FromTable}
use Rattle.hg_model.specs.declared.trees.Node.{Node}
use Rattle.hg_model.specs.declared.trees.Node.TheVariants as node
use Rattle.hg_model.specs.declared.trees.OrderKey.{OrderKey}
use Rattle.hg_model.specs.declared.trees.Output.{Output}
use Rattle.hg_plan.specs.ReadLaws.{IsReadSelect, IsReadDelete, IsReadUpdate}
use Rattle.hg_plan.proofs.ReadTokens.{Few, few, spelled_fit}
use Rattle.hg_plan.proofs.ReadTrees.{AllTexts, front, back, rest, Sound, sound_more, good}

-- what was read stays sound
record Keeps (r s : Read) : Type 0 where
  pub sound : Sound r → Sound s

same : (r : Read) → Keeps r r
same r = record { sound = λ h. h }

then : {r s t : Read} → Keeps r s → Keeps s t → Keeps r t
then f g = record { sound = λ h. g.sound (f.sound h) }

whole : {r s : Read} {ts : List Token} {n : ℕ} → grammar.Whole r ts s n → AllTexts ts → Keeps r s
whole e p = record { sound = (good e tt p).sound }

clause : {w : List ℕ} {r s : Read} {ts : List Token} {f : Option ℕ} → Clause w r ts s f → AllTexts ts → Keeps r s
clause (grammar.Clause.left_out {r = r}) p = same r
clause (grammar.Clause.given {ts = ts} e) p = whole e (rest _ ts p)

output : {r s : Read} {ts : List Token} {o : Output} → IsOutput r ts s o → AllTexts ts → Keeps r s
output (grammar.IsOutput.plain e) p = whole e p
output (grammar.IsOutput.named {ts = ts} c is e) p = whole e (front ts _ p)

outputs : {r s : Read} {ts : List Token} {os : List Output} → Outputs r ts s os → AllTexts ts → Keeps r s
outputs (grammar.Outputs.one o) p = output o p
outputs (grammar.Outputs.more {ts = ts} {us = us} os o) p = then (outputs os (front ts _ p)) (output o (rest _ us (back ts _ p)))

tables : {r s : Read} {ts : List Token} {fs : List FromTable} → Tables r ts s fs → AllTexts ts → Keeps r s
tables (grammar.Tables.one {r = r} is) p = same r
tables (grammar.Tables.by_comma {ts = ts} fs is) p = tables fs (front ts _ p)
tables (grammar.Tables.by_cross {ts = ts} fs is) p = tables fs (front ts _ p)
tables (grammar.Tables.by_join {ts = ts} {us = us} {vs = vs} fs is e) p =
    then (tables fs (front ts _ p)) (whole e (rest _ vs (back us _ (rest _ _ (back ts _ p)))))
tables (grammar.Tables.by_inner {ts = ts} {us = us} {vs = vs} fs is e) p =
    then (tables fs (front ts _ p)) (whole e (rest _ vs (back us _ (rest _ _ (rest _ _ (back ts _ p))))))

-- FROM names a table
one_more : (fs : List FromTable) (f : FromTable) → 1 ≤ length (fs ++ f ∷ [])
one_more fs f = omega (arith, length-append fs (f ∷ []))

some_tables : {r s : Read} {ts : List Token} {fs : List FromTable} → Tables r ts s fs → 1 ≤ length fs
some_tables (grammar.Tables.one is) = omega arith
some_tables (grammar.Tables.by_comma {fs = fs} xs is) = one_more fs _
some_tables (grammar.Tables.by_cross {fs = fs} xs is) = one_more fs _
some_tables (grammar.Tables.by_join {fs = fs} xs is e) = one_more fs _
some_tables (grammar.Tables.by_inner {fs = fs} xs is e) = one_more fs _

column : (r : Read) (c : ColRef) → Keeps r (with_node r (node.Col c))
column r c = record { sound = sound_more r (node.Col c) refl refl }

group_columns : {r s : Read} {ts : List Token} {ns : List ℕ} → GroupColumns r ts s ns → Keeps r s
group_columns (grammar.GroupColumns.one {r = r} {c = c} is) = column r c
group_columns (grammar.GroupColumns.more {s = s} {c = c} ns is) = then (group_columns ns) (column s c)

group : {r s : Read} {ts : List Token} {ns : List ℕ} → Group r ts s ns → Keeps r s
group (grammar.Group.left_out {r = r}) = same r
group (grammar.Group.given ns) = group_columns ns

key : {r s : Read} {ts : List Token} {k : OrderKey} → IsKey r ts s k → Keeps r s
key (grammar.IsKey.position {r = r} ds d) = same r
key (grammar.IsKey.column {r = r} {c = c} is d) = column r c

keys : {r s : Read} {ts : List Token} {ks : List OrderKey} → Keys r ts s ks → Keeps r s
keys (grammar.Keys.one k) = key k
keys (grammar.Keys.more ks k) = then (keys ks) (key k)

order : {r s : Read} {ts : List Token} {ks : List OrderKey} → Order r ts s ks → Keeps r s
order (grammar.Order.left_out {r = r}) = same r
order (grammar.Order.given ks) = keys ks

columns : {ts : List Token} {s : Read} {b : Bool} {os : List Output} → Columns ts s b os → AllTexts ts → Keeps nothing_read s
columns grammar.Columns.by_star p = same nothing_read
columns (grammar.Columns.by_outputs os) p = outputs os p

nothing_sound : Sound nothing_read
nothing_sound = record { tree = refl; fit = refl }

-- nodes with their texts, as a whole line leaves them
record AreSound (nodes : List Node) (texts : List ℕ) : Type 0 where
  pub tree : is_tree nodes ≡ true
  pub fit : list_all (text_fits texts) nodes ≡ true

read_whole : (r : Read) → Keeps nothing_read r → AreSound r.nodes r.texts
read_whole r k = let s = k.sound nothing_sound in record { tree = s.tree; fit = s.fit }

record Selects (q : Query) (texts : List ℕ) : Type 0 where
  pub sound : AreSound q.nodes texts
  pub tables : 1 ≤ length q.tables

select : {ts : List Token} {q : Query} {texts : List ℕ} → IsSelect ts q texts → AllTexts ts → Selects q texts
select (grammar.IsSelect.select {hs = hs} {cs = cs} {fs = fs} {ws = ws} {gs = gs} {vs = vs} {f = f} head out from filter grouped having ordered) p =
    let behind_head = back hs _ p in
    let behind_out = rest _ _ (back cs _ behind_head) in
    let behind_from = back fs _ behind_out in
    let behind_filter = back ws _ behind_from in
    let behind_group = back gs _ behind_filter in
    let all = then (columns out (front cs _ behind_head)) (then (tables from (front fs _ behind_out)) (then (clause filter (front ws _ behind_from))
    (then (group grouped) (then (clause having (front vs _ behind_group)) (order ordered))))) in
    record { sound = read_whole f all; tables = some_tables from }

sets : {r s : Read} {ts : List Token} {xs : List (List ℕ × ℕ)} → Sets r ts s xs → AllTexts ts → Keeps r s
sets (grammar.Sets.one {ts = ts} c is e) p = whole e (rest _ ts (rest _ _ p))
sets (grammar.Sets.more {ts = ts} {us = us} c xs is e) p = then (sets xs (front ts _ p)) (whole e (rest _ us (rest _ _ (rest _ _ (back ts _ p)))))

-- what the grammar alone gives of a SELECT, of a DELETE and of an UPDATE
abbrev Grows : CommandTree → List ℕ → Type 0
Grows (SelectRows q) x = Selects q x
Grows (DeleteRows d) x = AreSound d.nodes x
Grows (UpdateRows u) x = AreSound u.nodes x
Grows _ x = ⊤

command : {ts : List Token} {c : CommandTree} {x : List ℕ} → IsCommand ts c x → AllTexts ts → Grows c x
command (grammar.IsCommand.create_table t is cs) p = tt
command (grammar.IsCommand.create_index i t u is it ns) p = tt
command (grammar.IsCommand.insert t is l vs) p = tt
command (grammar.IsCommand.update {ts = ts} {us = us} {s = s} t is xs f) p =
    let behind = rest _ _ (rest _ _ (rest _ _ p)) in
    read_whole s (then (sets xs (front ts us behind)) (clause f (back ts us behind)))
command (grammar.IsCommand.delete {ts = ts} {r = r} t is f) p = read_whole r (clause f (rest _ ts (rest _ _ (rest _ _ p))))
command (grammar.IsCommand.vacuum t is) p = tt
command (grammar.IsCommand.select s) p = select s p
command (grammar.IsCommand.open_cursor c is s) p = tt
command (grammar.IsCommand.start c ds is) p = tt
command (grammar.IsCommand.work ds) p = tt
command (grammar.IsCommand.fetch c ds is) p = tt
command (grammar.IsCommand.close c is) p = tt
command (grammar.IsCommand.pool ds) p = tt
command (grammar.IsCommand.mpl ds) p = tt
command grammar.IsCommand.show_memory p = tt

line : {ts : List Token} {c : CommandTree} {x : List ℕ} → IsLine ts c x → AllTexts ts → Grows c x
line (grammar.IsLine.bare c) p = command c p
line (grammar.IsLine.ended {ts = ts} c) p = command c (front ts _ p)

-- and with it the counts
abbrev Fits : CommandTree → List ℕ → Type 0
Fits (SelectRows q) x = IsReadSelect q x
Fits (DeleteRows d) x = IsReadDelete d x
Fits (UpdateRows u) x = IsReadUpdate u x
Fits _ x = ⊤

fits : (ts : List Token) (c : CommandTree) (x : List ℕ) → Few ts c → Grows c x → Fits c x
fits ts (SelectRows q) x f g = record {
  tree = g.sound.tree;
  texts_fit = g.sound.fit;
  some_tables = g.tables;
  few_tables = f.tables;
  few_outputs = f.outputs;
  few_groups = f.groups;
  few_keys = f.keys;
  few_nodes = f.nodes;
}
fits ts (DeleteRows d) x f g = record { tree = g.tree; texts_fit = g.fit; few_nodes = f.nodes }
fits ts (UpdateRows u) x f g = record { tree = g.tree; texts_fit = g.fit; few_nodes = f.nodes; few_sets = f.columns }
fits ts (CreateTable t) x f g = tt
fits ts (CreateIndex i) x f g = tt
fits ts (InsertRows i) x f g = tt
fits ts (Vacuum t) x f g = tt
fits ts (OpenCursor c q) x f g = tt
fits ts (Start c n) x f g = tt
fits ts (Work n) x f g = tt
fits ts (Fetch c n) x f g = tt
fits ts (Close c) x f g = tt
fits ts (Pool n) x f g = tt
fits ts (Mpl n) x f g = tt
fits ts ShowMemory x f g = tt

abbrev ReadsFit : Reading → Type 0
ReadsFit (Statement c x) = Fits c x
ReadsFit _ = ⊤

pub reads_fit : {max : ℕ} {bs : List ℕ} {r : Reading} → Reads max bs r → ReadsFit r
reads_fit (reading.Reads.blank s) = tt
reads_fit (reading.Reads.syntax_error s n) = tt
reads_fit (reading.Reads.bad_number ts c x s l b) = tt
reads_fit (reading.Reads.too_many ts c x k s l b m) = tt
reads_fit (reading.Reads.statement ts c x s l b m) =
    let f = few ts c m in
    fits ts c x f (line l (spelled_fit s f.texts))
