-- What the descent reads is a command and a line of the grammar.
use Rattle.std.proofs.Common.{◌≡◌, ℕ, Bool, true, false, List, [], ◌∷◌, ◌++◌, Option, Some, None, refl, sym, ap, ◌∙◌, subst, append_assoc, append-nil}
use Rattle.std.specs.Prelude.{codes}
use Rattle.std.specs.Cmp.Lexicographic.{same_text}
use Rattle.hg_model.specs.Grammar.{nothing_read, IsName, open_sign, close_sign, star, semicolon, Clause, Tables, Group, Head, all, distinct, plain, Columns, by_star, by_outputs, IsSelect, select, IsUnique, left_out, given, Listed, Tuples, Sets, IsCommand, create_table, create_index, insert, update, delete, vacuum, open_cursor, start, work, fetch, close, pool, mpl, show_memory, IsLine, bare, ended}
use Rattle.hg_model.specs.Statements.{CommandTree}
use Rattle.hg_model.specs.Tables.{same_name}
use Rattle.hg_model.specs.Tokens.{Token, Word, Digits, Letters, Sign, number_of}
use Rattle.hg_model.specs.declared.trees.FromTable.{FromTable}
use Rattle.hg_model.specs.declared.trees.Output.{Output}
use Rattle.hg_parse.specs.Building.{Draft, empty_draft, plain as all_kept}
use Rattle.hg_parse.specs.Descent as d
use Rattle.hg_parse.specs.Rules as r
use Rattle.hg_parse.specs.Steps.{Answer, got, and_then, eats, behind, after, closed, commas}
use Rattle.hg_parse.proofs.OnAnswers.{OnOption, OnAnswer, on_then, on_if, on_eats, on_after, eats_is, joined, put_behind, put_first}
use Rattle.hg_parse.proofs.Read.{Closed, on_closed, Named, name_read}
use Rattle.hg_parse.proofs.ReadParts.{ClauseRead, clause_read, OutputsRead, outputs_read, TablesRead, tables_read, GroupRead, group_read, OrderRead, order_read}
use Rattle.hg_parse.proofs.ReadLines.{NumberRead, number_read, RowsRead, rows_read, NameListRead, name_list_read, ListedRead, listed_read, NewColumnsRead, new_columns_read, SetsRead, sets_read}

-- [ALL | DISTINCT], behind SELECT
pub record QuantifierRead (g : Draft) (ts : List Token) (s : Draft) (x : Bool) (rest : List Token) : Type 0 where
  pub same : s ≡ g
  pub front : List Token
  pub parts : ts ≡ front ++ rest
  pub reads : Head (d.key (codes "select") ∷ front) x

quantifier_read : (g : Draft) (ts : List Token) → OnAnswer (r.quantifier g ts) (QuantifierRead g ts)
quantifier_read g ts =
    let Q : Answer Draft Bool → Type 0 = λ a. OnAnswer a (QuantifierRead g ts) in
    on_eats Q (d.key (codes "all")) ts _ _ (λ e. record { same = refl; front = d.key (codes "all") ∷ []; parts = e; reads = all })
    (on_eats Q (d.key (codes "distinct")) ts _ _ (λ e. record { same = refl; front = d.key (codes "distinct") ∷ []; parts = e; reads = distinct })
    (record { same = refl; front = []; parts = refl; reads = plain }))

pub record ColumnsRead (ts : List Token) (s : Draft) (x : Bool) (rest : List Token) : Type 0 where
  pub same : s ≡ record empty_draft { read = s.read; outputs = s.outputs }
  pub front : List Token
  pub parts : ts ≡ front ++ rest
  pub reads : Columns front s.read x s.outputs

columns_read : (ts : List Token) → OnAnswer (r.columns all_kept empty_draft ts) (ColumnsRead ts)
columns_read ts =
    on_eats (λ a. OnAnswer a (ColumnsRead ts)) star ts _ _
    (λ e. record { same = refl; front = star ∷ []; parts = e; reads = by_star })
    (on_then (OutputsRead empty_draft ts) (ColumnsRead ts) (commas (r.output all_kept) empty_draft ts) (r.no_star all_kept) (outputs_read empty_draft ts refl)
    (λ s x us h. record { same = h.same; front = h.front; parts = h.parts; reads = by_outputs h.reads }))

pub record SelectRead (ts : List Token) (s : Draft) (h : r.Heading) (rest : List Token) : Type 0 where
  pub front : List Token
  pub parts : ts ≡ front ++ rest
  pub reads : IsSelect (d.key (codes "select") ∷ front) (r.query_by h s) s.read.texts

-- what was read in one part stands in the state to the end
query_so : (x st : Bool) (filter having : Option ℕ) (ts : List Token) (outputs : List Output) (tables : List FromTable) (group : List ℕ) (s : Draft)
    → s.outputs ≡ outputs → s.tables ≡ tables → s.group ≡ group
    → IsSelect ts (record { distinct = x; star = st; outputs = outputs; tables = tables; filter = filter; group = group; having = having; order = s.order; nodes = s.read.nodes }) s.read.texts
    → IsSelect ts (r.query_by (record { distinct = x; star = st; filter = filter; having = having }) s) s.read.texts
query_so x st filter having ts outputs tables group s o t g h =
    subst (λ y. IsSelect ts (record { distinct = x; star = st; outputs = y; tables = s.tables; filter = filter; group = s.group; having = having; order = s.order; nodes = s.read.nodes }) s.read.texts) (sym o)
    (subst (λ y. IsSelect ts (record { distinct = x; star = st; outputs = outputs; tables = y; filter = filter; group = s.group; having = having; order = s.order; nodes = s.read.nodes }) s.read.texts) (sym t)
    (subst (λ y. IsSelect ts (record { distinct = x; star = st; outputs = outputs; tables = tables; filter = filter; group = y; having = having; order = s.order; nodes = s.read.nodes }) s.read.texts) (sym g) h))

order_behind : (ts : List Token) (x st : Bool) (filter having : Option ℕ) (s1 s2 s3 s4 s5 : Draft) (hs cs fs ws gs vs : List Token) (us : List Token)
    → Head (d.key (codes "select") ∷ hs) x → Columns cs s1.read st s1.outputs → Tables s1.read fs s2.read s2.tables → Clause (codes "where") s2.read ws s3.read filter
    → Group s3.read gs s4.read s4.group → Clause (codes "having") s4.read vs s5.read having
    → s5.outputs ≡ s1.outputs → s5.tables ≡ s2.tables → s5.group ≡ s4.group → s5.order ≡ []
    → ((os : List Token) (rest : List Token) → us ≡ os ++ rest → ts ≡ (hs ++ (cs ++ d.key (codes "from") ∷ (fs ++ (ws ++ (gs ++ (vs ++ os)))))) ++ rest)
    → OnAnswer (r.behind_having all_kept x st filter s5 having us) (SelectRead ts)
order_behind ts x st filter having s1 s2 s3 s4 s5 hs cs fs ws gs vs us h1 h2 h3 h4 h5 h6 o t g none parts =
    on_then (OrderRead s5 us) (SelectRead ts) (r.order all_kept s5 us) (r.select_end all_kept x st filter having) (order_read s5 us none)
    (λ s6 y rest m. record {
      front = hs ++ (cs ++ d.key (codes "from") ∷ (fs ++ (ws ++ (gs ++ (vs ++ m.front)))));
      parts = parts m.front rest m.parts;
      reads = query_so x st filter having _ s1.outputs s2.tables s4.group s6
          (ap {A = Draft} (λ y. y.outputs) m.same ∙ o) (ap {A = Draft} (λ y. y.tables) m.same ∙ t) (ap {A = Draft} (λ y. y.group) m.same ∙ g)
          (select h1 h2 h3 h4 h5 h6 m.reads);
    })

regroup : (hs cs fs ws gs vs os rest : List Token) (t : Token)
    → hs ++ (cs ++ t ∷ (fs ++ (ws ++ (gs ++ (vs ++ (os ++ rest)))))) ≡ (hs ++ (cs ++ t ∷ (fs ++ (ws ++ (gs ++ (vs ++ os)))))) ++ rest
regroup hs cs fs ws gs vs os rest t = simp append_assoc

all_parts : (hs cs fs ws gs vs : List Token) {ts t1 t2 t3 t4 t5 t6 : List Token} → ts ≡ hs ++ t1 → t1 ≡ cs ++ t2 → t2 ≡ d.key (codes "from") ∷ t3 → t3 ≡ fs ++ t4 → t4 ≡ ws ++ t5 → t5 ≡ gs ++ t6
    → (us : List Token) → t6 ≡ vs ++ us → (os rest : List Token) → us ≡ os ++ rest → ts ≡ (hs ++ (cs ++ d.key (codes "from") ∷ (fs ++ (ws ++ (gs ++ (vs ++ os)))))) ++ rest
all_parts hs cs fs ws gs vs e1 e2 e3 e4 e5 e6 us e7 os rest e8 =
    e1 ∙ ap (λ l. hs ++ l) (e2 ∙ ap (λ l. cs ++ l) (e3 ∙ ap (λ l. d.key (codes "from") ∷ l) (e4 ∙ ap (λ l. fs ++ l) (e5 ∙ ap (λ l. ws ++ l) (e6 ∙ ap (λ l. gs ++ l) (e7 ∙ ap (λ l. vs ++ l) e8))))))
    ∙ regroup hs cs fs ws gs vs os rest (d.key (codes "from"))

pub select_read : (ts : List Token) → OnAnswer (r.select all_kept empty_draft ts) (SelectRead ts)
unfolding r.select
select_read ts =
    on_then (QuantifierRead empty_draft ts) (SelectRead ts) (r.quantifier empty_draft ts) (r.behind_quantifier all_kept) (quantifier_read empty_draft ts)
    (λ s x t1 h1. subst {A = Draft} (λ v. OnAnswer (r.behind_quantifier all_kept v x t1) (SelectRead ts)) (sym h1.same)
    (on_then (ColumnsRead t1) (SelectRead ts) (r.columns all_kept empty_draft t1) (r.behind_columns all_kept x) (columns_read t1)
    (λ s1 st t2 h2. on_after (SelectRead ts) (d.key (codes "from")) t2 (λ us. and_then (r.tables all_kept s1 us) (r.behind_tables all_kept x st))
    (λ e. on_then (TablesRead s1 (behind t2)) (SelectRead ts) (r.tables all_kept s1 (behind t2)) (r.behind_tables all_kept x st)
    (tables_read s1 (behind t2) (ap {A = Draft} (λ y. y.tables) h2.same))
    (λ s2 y t4 h3. on_then (ClauseRead (codes "where") s2 t4) (SelectRead ts) (r.clause all_kept (codes "where") s2 t4) (r.behind_where all_kept x st) (clause_read (codes "where") s2 t4)
    (λ s3 filter t5 h4.
    let empty_group : s3.group ≡ [] = ap {A = Draft} (λ y. y.group) h4.same ∙ ap {A = Draft} (λ y. y.group) h3.same ∙ ap {A = Draft} (λ y. y.group) h2.same in
    on_then (GroupRead s3 t5) (SelectRead ts) (r.group all_kept s3 t5) (r.behind_group all_kept x st filter) (group_read s3 t5 empty_group)
    (λ s4 z t6 h5. on_then (ClauseRead (codes "having") s4 t6) (SelectRead ts) (r.clause all_kept (codes "having") s4 t6) (r.behind_having all_kept x st filter) (clause_read (codes "having") s4 t6)
    (λ s5 having us h6. order_behind ts x st filter having s1 s2 s3 s4 s5 h1.front h2.front h3.front h4.front h5.front h6.front us h1.reads h2.reads h3.reads h4.reads h5.reads h6.reads
    (ap {A = Draft} (λ y. y.outputs) h6.same ∙ ap {A = Draft} (λ y. y.outputs) h5.same ∙ ap {A = Draft} (λ y. y.outputs) h4.same ∙ ap {A = Draft} (λ y. y.outputs) h3.same)
    (ap {A = Draft} (λ y. y.tables) h6.same ∙ ap {A = Draft} (λ y. y.tables) h5.same ∙ ap {A = Draft} (λ y. y.tables) h4.same)
    (ap {A = Draft} (λ y. y.group) h6.same)
    (ap {A = Draft} (λ y. y.order) h6.same ∙ ap {A = Draft} (λ y. y.order) h5.same ∙ ap {A = Draft} (λ y. y.order) h4.same ∙ ap {A = Draft} (λ y. y.order) h3.same ∙ ap {A = Draft} (λ y. y.order) h2.same)
    (all_parts h1.front h2.front h3.front h4.front h5.front h6.front h1.parts h2.parts e h3.parts h4.parts h5.parts us h6.parts)))))))))

-- a front of the tokens is a command
pub record CommandRead (ts : List Token) (s : Draft) (f : r.Form) (rest : List Token) : Type 0 where
  pub front : List Token
  pub parts : ts ≡ front ++ rest
  pub reads : IsCommand front (r.tree_of f s) s.read.texts

-- behind the first word of a command
word_first : (w : List ℕ) (v : List ℕ) (ts us : List Token) → same_name w v ≡ true → ts ≡ us → Word w ∷ ts ≡ Word v ∷ us
word_first w v ts us e l = ap (λ x. Word x ∷ ts) (same_text w v (sym e)) ∙ ap (λ x. Word v ∷ x) l

create_table_read : (ts l : List Token) (e : l ≡ d.key (codes "create") ∷ d.key (codes "table") ∷ ts) → OnAnswer (r.create_table all_kept empty_draft ts) (CommandRead l)
create_table_read ts l e =
    on_then (Named empty_draft ts) (CommandRead l) (d.name empty_draft ts) (r.table_columns all_kept) (name_read empty_draft ts)
    (λ s t us h. subst {A = Draft} (λ v. OnAnswer (r.table_columns all_kept v t us) (CommandRead l)) (sym h.same)
    (on_after (CommandRead l) open_sign us (λ vs. and_then (closed (commas (r.new_column all_kept) empty_draft vs)) (r.table_form all_kept t))
    (λ o. on_then (Closed (NewColumnsRead empty_draft (behind us))) (CommandRead l) (closed (commas (r.new_column all_kept) empty_draft (behind us))) (r.table_form all_kept t)
    (on_closed (NewColumnsRead empty_draft (behind us)) (commas (r.new_column all_kept) empty_draft (behind us)) (new_columns_read empty_draft (behind us) refl))
    (λ s x rest c. record {
      front = d.key (codes "create") ∷ d.key (codes "table") ∷ Word t ∷ open_sign ∷ (c.holds.front ++ close_sign ∷ []);
      parts = e ∙ ap (λ y. d.key (codes "create") ∷ d.key (codes "table") ∷ y) (h.parts ∙ ap (λ y. Word t ∷ y) (o ∙ ap (λ y. open_sign ∷ y) (joined c.holds.front [] rest c.holds.parts c.parts refl)));
      reads = subst (λ x. IsCommand (d.key (codes "create") ∷ d.key (codes "table") ∷ Word t ∷ open_sign ∷ (c.holds.front ++ close_sign ∷ [])) (r.tree_of (r.TableForm t) s) x)
          (sym (ap {A = Draft} (λ y. y.read.texts) c.holds.same)) (create_table t h.name c.holds.reads);
    }))))

create_index_read : (u : Bool) (un : List Token) → IsUnique un u → (ts l : List Token) (e : l ≡ d.key (codes "create") ∷ (un ++ ts)) → OnAnswer (r.create_index all_kept u empty_draft ts) (CommandRead l)
create_index_read u un hu ts l e =
    on_after (CommandRead l) (d.key (codes "index")) ts (λ us. and_then (d.name empty_draft us) (r.index_name all_kept u))
    (λ i. on_then (Named empty_draft (behind ts)) (CommandRead l) (d.name empty_draft (behind ts)) (r.index_name all_kept u) (name_read empty_draft (behind ts))
    (λ s n us h. subst {A = Draft} (λ v. OnAnswer (r.index_name all_kept u v n us) (CommandRead l)) (sym h.same)
    (on_after (CommandRead l) (d.key (codes "on")) us (λ vs. and_then (d.name empty_draft vs) (r.index_table all_kept u n))
    (λ o. on_then (Named empty_draft (behind us)) (CommandRead l) (d.name empty_draft (behind us)) (r.index_table all_kept u n) (name_read empty_draft (behind us))
    (λ s t vs k. subst {A = Draft} (λ v. OnAnswer (r.index_table all_kept u n v t vs) (CommandRead l)) (sym k.same)
    (on_then (NameListRead empty_draft vs) (CommandRead l) (r.name_list all_kept empty_draft vs) (r.index_form all_kept u n t)
    (on_after (NameListRead empty_draft vs) open_sign vs (λ ws. closed (commas (r.name_item all_kept) empty_draft ws)) (λ p. name_list_read empty_draft vs refl p))
    (λ s x rest c. record {
      front = d.key (codes "create") ∷ (un ++ d.key (codes "index") ∷ Word n ∷ d.key (codes "on") ∷ Word t ∷ open_sign ∷ (c.front ++ close_sign ∷ []));
      parts = put_first (un ++ d.key (codes "index") ∷ Word n ∷ d.key (codes "on") ∷ Word t ∷ open_sign ∷ (c.front ++ close_sign ∷ [])) rest e
          (put_behind un (d.key (codes "index") ∷ Word n ∷ d.key (codes "on") ∷ Word t ∷ open_sign ∷ (c.front ++ close_sign ∷ [])) rest refl
          (i ∙ ap (λ y. d.key (codes "index") ∷ y) (h.parts ∙ ap (λ y. Word n ∷ y) (o ∙ ap (λ y. d.key (codes "on") ∷ y) (k.parts ∙ ap (λ y. Word t ∷ y) c.parts)))));
      reads = subst (λ x. IsCommand (d.key (codes "create") ∷ (un ++ d.key (codes "index") ∷ Word n ∷ d.key (codes "on") ∷ Word t ∷ open_sign ∷ (c.front ++ close_sign ∷ []))) (r.tree_of (r.IndexForm u n t) s) x)
          (sym (ap {A = Draft} (λ y. y.read.texts) c.same)) (create_index n t hu h.name k.name c.reads);
    })))))))

create_read : (ts l : List Token) (e : l ≡ d.key (codes "create") ∷ ts) → OnAnswer (r.create all_kept empty_draft ts) (CommandRead l)
create_read ts l e =
    let Q : Answer Draft r.Form → Type 0 = λ a. OnAnswer a (CommandRead l) in
    on_eats Q (d.key (codes "table")) ts _ _ (λ i. create_table_read (behind ts) l (e ∙ ap (λ y. d.key (codes "create") ∷ y) i))
    (on_eats Q (d.key (codes "unique")) ts _ _ (λ i. create_index_read true (d.key (codes "unique") ∷ []) given (behind ts) l (e ∙ ap (λ y. d.key (codes "create") ∷ y) i))
    (create_index_read false [] left_out ts l e))

insert_read : (ts l : List Token) (e : l ≡ d.key (codes "insert") ∷ ts) → OnAnswer (r.insert all_kept empty_draft ts) (CommandRead l)
insert_read ts l e =
    on_after (CommandRead l) (d.key (codes "into")) ts (λ us. and_then (d.name empty_draft us) (r.insert_into all_kept))
    (λ i. on_then (Named empty_draft (behind ts)) (CommandRead l) (d.name empty_draft (behind ts)) (r.insert_into all_kept) (name_read empty_draft (behind ts))
    (λ s t us h. subst {A = Draft} (λ v. OnAnswer (r.insert_into all_kept v t us) (CommandRead l)) (sym h.same)
    (on_then (ListedRead empty_draft us) (CommandRead l) (r.listed all_kept empty_draft us) (r.insert_values all_kept t) (listed_read empty_draft us refl)
    (λ s x vs k. on_after (CommandRead l) (d.key (codes "values")) vs (λ ws. and_then (commas (r.row all_kept) s ws) (r.insert_form all_kept t))
    (λ o. on_then (RowsRead s (behind vs)) (CommandRead l) (commas (r.row all_kept) s (behind vs)) (r.insert_form all_kept t)
    (rows_read s (behind vs) (ap {A = Draft} (λ y. record { values = y.values; ends = y.ends }) k.same))
    (λ z y rest m. record {
      front = d.key (codes "insert") ∷ d.key (codes "into") ∷ Word t ∷ (k.front ++ d.key (codes "values") ∷ m.front);
      parts = e ∙ ap (λ y. d.key (codes "insert") ∷ y) (i ∙ ap (λ y. d.key (codes "into") ∷ y) (h.parts ∙ ap (λ y. Word t ∷ y) (joined k.front m.front rest k.parts o m.parts)));
      reads = insert t h.name
          (subst (λ c. Listed k.front c) (sym (ap {A = Draft} (λ y. y.names) m.same)) k.reads)
          (subst (λ q. Tuples q m.front z.read.texts z.values z.ends) (ap {A = Draft} (λ y. y.read.texts) k.same) m.reads);
    }))))))

update_read : (ts l : List Token) (e : l ≡ d.key (codes "update") ∷ ts) → OnAnswer (r.update all_kept empty_draft ts) (CommandRead l)
update_read ts l e =
    on_then (Named empty_draft ts) (CommandRead l) (d.name empty_draft ts) (r.update_sets all_kept) (name_read empty_draft ts)
    (λ s t us h. subst {A = Draft} (λ v. OnAnswer (r.update_sets all_kept v t us) (CommandRead l)) (sym h.same)
    (on_after (CommandRead l) (d.key (codes "set")) us (λ vs. and_then (commas (r.set_item all_kept) empty_draft vs) (r.update_where all_kept t))
    (λ i. on_then (SetsRead empty_draft (behind us)) (CommandRead l) (commas (r.set_item all_kept) empty_draft (behind us)) (r.update_where all_kept t) (sets_read empty_draft (behind us) refl)
    (λ s x vs k. on_then (ClauseRead (codes "where") s vs) (CommandRead l) (r.clause all_kept (codes "where") s vs) (r.update_form all_kept t) (clause_read (codes "where") s vs)
    (λ z f rest m. record {
      front = d.key (codes "update") ∷ Word t ∷ d.key (codes "set") ∷ (k.front ++ m.front);
      parts = e ∙ ap (λ y. d.key (codes "update") ∷ y) (h.parts ∙ ap (λ y. Word t ∷ y) (i ∙ ap (λ y. d.key (codes "set") ∷ y) (put_behind k.front m.front rest k.parts m.parts)));
      reads = update t h.name (subst (λ c. Sets nothing_read k.front s.read c) (sym (ap {A = Draft} (λ y. y.sets) m.same)) k.reads) m.reads;
    })))))

delete_read : (ts l : List Token) (e : l ≡ d.key (codes "delete") ∷ ts) → OnAnswer (r.delete all_kept empty_draft ts) (CommandRead l)
delete_read ts l e =
    on_after (CommandRead l) (d.key (codes "from")) ts (λ us. and_then (d.name empty_draft us) (r.delete_where all_kept))
    (λ i. on_then (Named empty_draft (behind ts)) (CommandRead l) (d.name empty_draft (behind ts)) (r.delete_where all_kept) (name_read empty_draft (behind ts))
    (λ s t us h. subst {A = Draft} (λ v. OnAnswer (r.delete_where all_kept v t us) (CommandRead l)) (sym h.same)
    (on_then (ClauseRead (codes "where") empty_draft us) (CommandRead l) (r.clause all_kept (codes "where") empty_draft us) (r.delete_form all_kept t) (clause_read (codes "where") empty_draft us)
    (λ z f rest m. record {
      front = d.key (codes "delete") ∷ d.key (codes "from") ∷ Word t ∷ m.front;
      parts = e ∙ ap (λ y. d.key (codes "delete") ∷ y) (i ∙ ap (λ y. d.key (codes "from") ∷ y) (h.parts ∙ ap (λ y. Word t ∷ y) m.parts));
      reads = delete t h.name m.reads;
    }))))

open_read : (ts l : List Token) (e : l ≡ d.key (codes "open") ∷ ts) → OnAnswer (and_then (d.name empty_draft ts) (r.open_for all_kept)) (CommandRead l)
open_read ts l e =
    on_then (Named empty_draft ts) (CommandRead l) (d.name empty_draft ts) (r.open_for all_kept) (name_read empty_draft ts)
    (λ s c us h. subst {A = Draft} (λ v. OnAnswer (r.open_for all_kept v c us) (CommandRead l)) (sym h.same)
    (on_after (CommandRead l) (d.key (codes "for")) us (λ vs. after (d.key (codes "select")) vs (λ ws. and_then (r.select all_kept empty_draft ws) (r.open_form all_kept c)))
    (λ i. on_after (CommandRead l) (d.key (codes "select")) (behind us) (λ ws. and_then (r.select all_kept empty_draft ws) (r.open_form all_kept c))
    (λ k. on_then (SelectRead (behind (behind us))) (CommandRead l) (r.select all_kept empty_draft (behind (behind us))) (r.open_form all_kept c) (select_read (behind (behind us)))
    (λ z g rest m. record {
      front = d.key (codes "open") ∷ Word c ∷ d.key (codes "for") ∷ d.key (codes "select") ∷ m.front;
      parts = e ∙ ap (λ y. d.key (codes "open") ∷ y) (h.parts ∙ ap (λ y. Word c ∷ y) (i ∙ ap (λ y. d.key (codes "for") ∷ y) (k ∙ ap (λ y. d.key (codes "select") ∷ y) m.parts)));
      reads = open_cursor c h.name m.reads;
    })))))

select_command_read : (ts l : List Token) (e : l ≡ d.key (codes "select") ∷ ts) → OnAnswer (and_then (r.select all_kept empty_draft ts) (r.select_form all_kept)) (CommandRead l)
select_command_read ts l e =
    on_then (SelectRead ts) (CommandRead l) (r.select all_kept empty_draft ts) (r.select_form all_kept) (select_read ts)
    (λ z g rest m. record { front = d.key (codes "select") ∷ m.front; parts = put_first m.front rest e m.parts; reads = select m.reads })

-- commands of a name, of a number, of both
name_command : (w : List ℕ) (make : List ℕ → r.Form) → ((c : List ℕ) → IsName c → IsCommand (d.key w ∷ Word c ∷ []) (r.tree_of (make c) empty_draft) [])
    → (ts l : List Token) (e : l ≡ d.key w ∷ ts) → OnAnswer (and_then (d.name empty_draft ts) (r.of_name all_kept make)) (CommandRead l)
name_command w make rule ts l e =
    on_then (Named empty_draft ts) (CommandRead l) (d.name empty_draft ts) (r.of_name all_kept make) (name_read empty_draft ts)
    (λ s c us h. subst {A = Draft} (λ v. CommandRead l v (make c) us) (sym h.same) (record {
      front = d.key w ∷ Word c ∷ [];
      parts = e ∙ ap (λ y. d.key w ∷ y) h.parts;
      reads = rule c h.name;
    }))

number_command : (w : List ℕ) (make : ℕ → r.Form) → ((ds : List ℕ) → IsCommand (d.key w ∷ Digits ds ∷ []) (r.tree_of (make (number_of ds)) empty_draft) [])
    → (ts l : List Token) (e : l ≡ d.key w ∷ ts) → OnAnswer (and_then (r.number empty_draft ts) (r.of_number all_kept make)) (CommandRead l)
number_command w make rule ts l e =
    on_then (NumberRead empty_draft ts) (CommandRead l) (r.number empty_draft ts) (r.of_number all_kept make) (number_read empty_draft ts)
    (λ s n us h. subst {A = Draft} (λ v. CommandRead l v (make n) us) (sym h.same) (subst (λ i. CommandRead l empty_draft (make i) us) (sym h.is) (record {
      front = d.key w ∷ Digits h.digits ∷ [];
      parts = e ∙ ap (λ y. d.key w ∷ y) h.parts;
      reads = rule h.digits;
    })))

both_command : (w : List ℕ) (make : List ℕ → ℕ → r.Form) → ((c ds : List ℕ) → IsName c → IsCommand (d.key w ∷ Word c ∷ Digits ds ∷ []) (r.tree_of (make c (number_of ds)) empty_draft) [])
    → (ts l : List Token) (e : l ≡ d.key w ∷ ts) → OnAnswer (and_then (d.name empty_draft ts) (r.of_both all_kept make)) (CommandRead l)
both_command w make rule ts l e =
    on_then (Named empty_draft ts) (CommandRead l) (d.name empty_draft ts) (r.of_both all_kept make) (name_read empty_draft ts)
    (λ s c us h. subst {A = Draft} (λ v. OnAnswer (r.of_both all_kept make v c us) (CommandRead l)) (sym h.same)
    (on_then (NumberRead empty_draft us) (CommandRead l) (r.number empty_draft us) (r.of_number all_kept (make c)) (number_read empty_draft us)
    (λ z n rest k. subst {A = Draft} (λ v. CommandRead l v (make c n) rest) (sym k.same) (subst (λ i. CommandRead l empty_draft (make c i) rest) (sym k.is) (record {
      front = d.key w ∷ Word c ∷ Digits k.digits ∷ [];
      parts = e ∙ ap (λ y. d.key w ∷ y) (h.parts ∙ ap (λ y. Word c ∷ y) k.parts);
      reads = rule c k.digits h.name;
    })))))

command_read : (ts : List Token) → OnAnswer (r.command all_kept empty_draft ts) (CommandRead ts)
unfolding r.command
command_read [] = tt
command_read (Digits w ∷ ts) = tt
command_read (Letters w ∷ ts) = tt
command_read (Sign w ∷ ts) = tt
command_read (Word w ∷ ts) =
    let l : List Token = Word w ∷ ts in
    let Q : Answer Draft r.Form → Type 0 = λ a. OnAnswer a (CommandRead l) in
    let first : (v : List ℕ) → same_name w v ≡ true → l ≡ Word v ∷ ts = λ v e. word_first w v ts ts e refl in
    on_if Q (same_name w (codes "insert")) _ _ (λ e. insert_read ts l (first (codes "insert") e))
    (λ x1. on_if Q (same_name w (codes "select")) _ _ (λ e. select_command_read ts l (first (codes "select") e))
    (λ x2. on_if Q (same_name w (codes "update")) _ _ (λ e. update_read ts l (first (codes "update") e))
    (λ x3. on_if Q (same_name w (codes "delete")) _ _ (λ e. delete_read ts l (first (codes "delete") e))
    (λ x4. on_if Q (same_name w (codes "create")) _ _ (λ e. create_read ts l (first (codes "create") e))
    (λ x5. on_if Q (same_name w (codes "open")) _ _ (λ e. open_read ts l (first (codes "open") e))
    (λ x6. on_if Q (same_name w (codes "start")) _ _ (λ e. both_command (codes "start") r.StartForm (λ c ds i. start c ds i) ts l (first (codes "start") e))
    (λ x7. on_if Q (same_name w (codes "work")) _ _ (λ e. number_command (codes "work") r.WorkForm (λ ds. work ds) ts l (first (codes "work") e))
    (λ x8. on_if Q (same_name w (codes "fetch")) _ _ (λ e. both_command (codes "fetch") r.FetchForm (λ c ds i. fetch c ds i) ts l (first (codes "fetch") e))
    (λ x9. on_if Q (same_name w (codes "close")) _ _ (λ e. name_command (codes "close") r.CloseForm (λ c i. close c i) ts l (first (codes "close") e))
    (λ y1. on_if Q (same_name w (codes "vacuum")) _ _ (λ e. name_command (codes "vacuum") r.VacuumForm (λ c i. vacuum c i) ts l (first (codes "vacuum") e))
    (λ y2. on_if Q (same_name w (codes "pool")) _ _ (λ e. number_command (codes "pool") r.PoolForm (λ ds. pool ds) ts l (first (codes "pool") e))
    (λ y3. on_if Q (same_name w (codes "mpl")) _ _ (λ e. number_command (codes "mpl") r.MplForm (λ ds. mpl ds) ts l (first (codes "mpl") e))
    (λ y4. on_if Q (same_name w (codes "show")) _ _
    (λ e. on_after (CommandRead l) (d.key (codes "memory")) ts (λ us. got empty_draft r.MemoryForm us)
    (λ i. record { front = d.key (codes "show") ∷ d.key (codes "memory") ∷ []; parts = word_first w (codes "show") ts (d.key (codes "memory") ∷ behind ts) e i; reads = show_memory }))
    (λ y5. tt))))))))))))))

-- the end of a line
no_token : (ts : List Token) → r.is_end ts ≡ true → ts ≡ []
no_token [] e = refl
no_token (t ∷ ts) e = absurd (cc)

pub data LineEnd : List Token → Type 0 where
  no_end : LineEnd []
  semicolon_end : LineEnd (semicolon ∷ [])

line_ends : (ts : List Token) → r.ends_line ts ≡ true → LineEnd ts
line_ends ts h =
    let P : Bool → Type 0 = λ b. b ≡ true → LineEnd ts in
    on_if P (eats semicolon ts) (r.is_end (behind ts)) (r.is_end ts)
    (λ e i. subst (λ l. LineEnd l) (sym (eats_is semicolon ts e ∙ ap (λ l. semicolon ∷ l) (no_token (behind ts) i))) semicolon_end)
    (λ e i. subst (λ l. LineEnd l) (sym (no_token ts i)) no_end) h

ended_so : (ts front rest : List Token) (c : CommandTree) (x : List ℕ) → ts ≡ front ++ rest → LineEnd rest → IsCommand front c x → IsLine ts c x
ended_so ts front rest c x e no_end h = subst (λ l. IsLine l c x) (sym (e ∙ append-nil front)) (bare h)
ended_so ts front rest c x e semicolon_end h = subst (λ l. IsLine l c x) (sym e) (ended h)

abbrev IsLineOf : List Token → r.Line → Type 0
IsLineOf ts l = IsLine ts l.command l.texts

line_end_read : (ts : List Token) (a : Answer Draft r.Form) → OnAnswer a (CommandRead ts) → OnOption (r.line_end a) (IsLineOf ts)
line_end_read ts None h = tt
line_end_read ts (Some g) h =
    on_if (λ o. OnOption o (IsLineOf ts)) (r.ends_line g.rest) _ None
    (λ e. ended_so ts h.front g.rest (r.tree_of g.value g.state) g.state.read.texts h.parts (line_ends g.rest e) h.reads)
    (λ e. tt)

-- what the descent makes of a line is its tree
pub line_read : (ts : List Token) → OnOption (r.line_of ts) (λ l. IsLine ts l.command l.texts)
unfolding r.line_of
line_read ts = line_end_read ts (r.command all_kept empty_draft ts) (command_read ts)
