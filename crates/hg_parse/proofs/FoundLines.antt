-- Each line of the grammar is found.
use Rattle.std.proofs.Common.{◌≡◌, ℕ, zero, suc, Bool, true, false, List, [], ◌∷◌, ◌++◌, Option, Some, refl, sym, ap, ◌∙◌, append_assoc, append-nil}
use Rattle.std.specs.Prelude.{codes}
use Rattle.hg_model.specs.Grammar.{Read, IsName, open_sign, close_sign, comma, star, semicolon, Clause, left_out, given, IsOutput, plain, named, Outputs, one, more, Tables, Group, Order, all, distinct, Columns, by_star, by_outputs, IsSelect, select, Names, IsUnique, IsCommand, create_table, create_index, insert, update, delete, vacuum, open_cursor, start, work, fetch, close, pool, mpl, show_memory, IsLine, bare, ended}
use Rattle.hg_model.specs.Query.{Query}
use Rattle.hg_model.specs.Statements.{CommandTree}
use Rattle.hg_model.specs.Tokens.{Token, Word, Digits, number_of}
use Rattle.hg_model.specs.declared.trees.FromTable.{FromTable}
use Rattle.hg_model.specs.declared.trees.OrderKey.{OrderKey}
use Rattle.hg_model.specs.declared.trees.Output.{Output}
use Rattle.hg_parse.specs.Building.{Draft, empty_draft, plain as all_kept}
use Rattle.hg_parse.specs.Descent as d
use Rattle.hg_parse.specs.Follow.{AfterOr}
use Rattle.hg_parse.specs.Rules as r
use Rattle.hg_parse.specs.Steps.{got, and_then, eats, closed, commas}
use Rattle.hg_parse.proofs.Begins.{NoStar, begins, longer_star}
use Rattle.hg_parse.proofs.Chains.{chain_stop}
use Rattle.hg_parse.proofs.Found.{if_stop}
use Rattle.hg_parse.proofs.FoundParts.{commas_stop, name_got, clause_got, outputs_got, tables_got, group_got, AfterKey, order_got, tuples_got, with_values, name_list_got, with_names, listed_got, new_columns_got, with_columns, sets_got, with_sets}
use Rattle.hg_parse.proofs.Following.{Follows, at_end, at_semicolon, at_order, at_having, at_group, at_where, wider, or_from, follows_or, no_order, no_having, no_group, no_where, follows_tables}

follows_key : {ts : List Token} → Follows zero ts → AfterKey ts
follows_key at_end = record { no_dot = refl; no_asc = refl; no_desc = refl }
follows_key (at_semicolon ts) = record { no_dot = refl; no_asc = refl; no_desc = refl }

follow_order : {q : Read} {ts : List Token} {s : Read} {ks : List OrderKey} → Order q ts s ks → {rest : List Token} → Follows zero rest → Follows (suc zero) (ts ++ rest)
follow_order left_out h = wider h
follow_order (given e) h = at_order _

follow_having : {q : Read} {ts : List Token} {s : Read} {f : Option ℕ} → Clause (codes "having") q ts s f → {rest : List Token} → Follows (suc zero) rest → Follows (suc (suc zero)) (ts ++ rest)
follow_having left_out h = wider h
follow_having (given e) h = at_having _

follow_group : {q : Read} {ts : List Token} {s : Read} {ns : List ℕ} → Group q ts s ns → {rest : List Token} → Follows (suc (suc zero)) rest → Follows (suc (suc (suc zero))) (ts ++ rest)
follow_group left_out h = wider h
follow_group (given e) h = at_group _

follow_where : {q : Read} {ts : List Token} {s : Read} {f : Option ℕ} → Clause (codes "where") q ts s f → {rest : List Token} → Follows (suc (suc (suc zero))) rest
    → Follows (suc (suc (suc (suc zero)))) (ts ++ rest)
follow_where left_out h = wider h
follow_where (given e) h = at_where _

-- outputs begin with no star, and with no ALL and no DISTINCT
output_begins : {q : Read} {ts : List Token} {s : Read} {o : Output} → IsOutput q ts s o → (rest : List Token) → NoStar (ts ++ rest)
output_begins (plain e) rest = begins e rest
output_begins (named {ts} c i e) rest = longer_star ts (d.key (codes "as") ∷ Word c ∷ []) (begins e) rest

outputs_begin : {q : Read} {ts : List Token} {s : Read} {os : List Output} → Outputs q ts s os → (rest : List Token) → NoStar (ts ++ rest)
outputs_begin (one e) rest = output_begins e rest
outputs_begin (more {ts} {us} f e) rest = longer_star ts (comma ∷ us) (outputs_begin f) rest

-- the state of a SELECT
abbrev selecting : Read → List Output → List FromTable → List ℕ → List OrderKey → Draft
selecting q os fs ns ks = record { read = q; outputs = os; tables = fs; group = ns; order = ks; columns = []; names = []; sets = []; values = []; ends = [] }

columns_got : {ts : List Token} {s : Read} {st : Bool} {os : List Output} → Columns ts s st os → (rest : List Token) → AfterOr rest → eats (d.key (codes "as")) rest ≡ false
    → eats comma rest ≡ false → r.columns all_kept empty_draft (ts ++ rest) ≡ got (selecting s os [] [] []) st rest
columns_got by_star rest h l m = refl
columns_got (by_outputs {s} {ts} {os} e) rest h l m =
    if_stop (eats star (ts ++ rest)) _ _ (outputs_begin e rest).no_star
    ∙ ap (λ a. and_then a (r.no_star all_kept)) (outputs_got e empty_draft rest h l ∙ commas_stop (r.output all_kept) (selecting s os [] [] []) rest m)

columns_begin : {ts : List Token} {s : Read} {st : Bool} {os : List Output} → Columns ts s st os → (rest : List Token)
    → (eats (d.key (codes "all")) (ts ++ rest) ≡ false) × (eats (d.key (codes "distinct")) (ts ++ rest) ≡ false)
columns_begin by_star rest = (refl, refl)
columns_begin (by_outputs e) rest = ((outputs_begin e rest).no_all, (outputs_begin e rest).no_distinct)

module _ (x st : Bool) (filter having : Option ℕ) (outputs : List Output) (tables : List FromTable) (group : List ℕ) where
  heading : r.Heading
  heading = record { distinct = x; star = st; filter = filter; having = having }

  having_got : {e : Read} {os : List Token} {f : Read} {order : List OrderKey} → Order e os f order → (rest : List Token) → Follows zero rest
      → r.behind_having all_kept x st filter (selecting e outputs tables group []) having (os ++ rest) ≡ got (selecting f outputs tables group order) heading rest
  unfolding heading
  having_got {e} {os} {f} {order} o rest h =
      ap (λ a. and_then a (r.select_end all_kept x st filter having))
      (order_got o (selecting e outputs tables group []) rest (follows_key h) (follows_tables h).no_comma (no_order h))

  grouped_got : {a e f : Read} {vs os : List Token} {order : List OrderKey} → Clause (codes "having") a vs e having → Order e os f order → (rest : List Token) → Follows zero rest
      → r.behind_group all_kept x st filter (selecting a outputs tables group []) tt (vs ++ (os ++ rest)) ≡ got (selecting f outputs tables group order) heading rest
  grouped_got {a} {e} {f} {vs} {os} {order} v o rest h =
      ap (λ y. and_then y (r.behind_having all_kept x st filter))
      (clause_got v (selecting a outputs tables group []) (os ++ rest) (follows_or (follow_order o h)) (no_having (follow_order o h)))
      ∙ having_got o rest h

  where_got : {c a e f : Read} {gs vs os : List Token} {order : List OrderKey} → Group c gs a group → Clause (codes "having") a vs e having → Order e os f order
      → (rest : List Token) → Follows zero rest
      → r.behind_where all_kept x st (selecting c outputs tables [] []) filter (gs ++ (vs ++ (os ++ rest))) ≡ got (selecting f outputs tables group order) heading rest
  where_got {c} {a} {e} {f} {gs} {vs} {os} {order} g v o rest h =
      let l = follow_having v (follow_order o h) in
      ap (λ y. and_then y (r.behind_group all_kept x st filter))
      (group_got g (selecting c outputs tables [] []) (vs ++ (os ++ rest)) (follows_or l).conjunction.pred.sum.term.no_dot (follows_tables l).no_comma (no_group l))
      ∙ grouped_got v o rest h

  from_got : {b c a e f : Read} {ws gs vs os : List Token} {order : List OrderKey} → Clause (codes "where") b ws c filter → Group c gs a group → Clause (codes "having") a vs e having
      → Order e os f order → (rest : List Token) → Follows zero rest
      → r.behind_tables all_kept x st (selecting b outputs tables [] []) tt (ws ++ (gs ++ (vs ++ (os ++ rest)))) ≡ got (selecting f outputs tables group order) heading rest
  from_got {b} {c} {a} {e} {f} {ws} {gs} {vs} {os} {order} w g v o rest h =
      let l = follow_group g (follow_having v (follow_order o h)) in
      ap (λ y. and_then y (r.behind_where all_kept x st)) (clause_got w (selecting b outputs tables [] []) (gs ++ (vs ++ (os ++ rest))) (follows_or l) (no_where l))
      ∙ where_got g v o rest h

  columns_to_end : {q b c a e f : Read} {fs ws gs vs os : List Token} {order : List OrderKey} → Tables q fs b tables → Clause (codes "where") b ws c filter → Group c gs a group
      → Clause (codes "having") a vs e having → Order e os f order → (rest : List Token) → Follows zero rest
      → r.behind_columns all_kept x (selecting q outputs [] [] []) st (d.key (codes "from") ∷ (fs ++ (ws ++ (gs ++ (vs ++ (os ++ rest))))))
      ≡ got (selecting f outputs tables group order) heading rest
  columns_to_end {q} {b} {c} {a} {e} {f} {fs} {ws} {gs} {vs} {os} {order} t w g v o rest h =
      let l = follow_where w (follow_group g (follow_having v (follow_order o h))) in
      let k = follows_tables l in
      ap (λ y. and_then y (r.behind_tables all_kept x st))
      (tables_got t (selecting q outputs [] [] []) (ws ++ (gs ++ (vs ++ (os ++ rest)))) (follows_or l) k.ref
      ∙ chain_stop (r.tables_turn all_kept) (selecting b outputs tables [] []) tt (ws ++ (gs ++ (vs ++ (os ++ rest))))
      (if_stop _ _ _ k.no_comma ∙ if_stop _ _ _ k.no_cross ∙ if_stop _ _ _ k.no_join ∙ if_stop _ _ _ k.no_inner))
      ∙ from_got w g v o rest h

regroup : (cs fs ws gs vs os rest : List Token) (t : Token)
    → (cs ++ t ∷ (fs ++ (ws ++ (gs ++ (vs ++ os))))) ++ rest ≡ cs ++ t ∷ (fs ++ (ws ++ (gs ++ (vs ++ (os ++ rest)))))
regroup cs fs ws gs vs os rest t = simp append_assoc

abbrev drafted : Query → List ℕ → Draft
drafted q x = record { read = record { nodes = q.nodes; texts = x }; outputs = q.outputs; tables = q.tables; group = q.group; order = q.order; columns = []; names = []; sets = []; values = []; ends = [] }

abbrev headed : Query → r.Heading
headed q = record { distinct = q.distinct; star = q.star; filter = q.filter; having = q.having }

unquantified : (g : Draft) (l : List Token) → eats (d.key (codes "all")) l ≡ false → eats (d.key (codes "distinct")) l ≡ false
    → and_then (r.quantifier g l) (r.behind_quantifier all_kept) ≡ r.behind_quantifier all_kept g false l
unquantified g l e f =
    ap (λ a. and_then a (r.behind_quantifier all_kept)) (if_stop (eats (d.key (codes "all")) l) _ _ e ∙ if_stop (eats (d.key (codes "distinct")) l) _ (got g false l) f)

-- a SELECT, with its first word
pub select_got : {ts : List Token} {q : Query} {x : List ℕ} → IsSelect ts q x → (rest : List Token) → Follows zero rest
    → (us : List Token) × (ts ++ rest ≡ d.key (codes "select") ∷ us) × (r.select all_kept empty_draft us ≡ got (drafted q x) (headed q) rest)
unfolding r.select heading
select_got (select {cs} {fs} {ws} {gs} {vs} {os} {b} {c} {star = st} {outputs} {tables} {filter} {having} {group} {order} plain cols t w g v o) rest h =
    let l : List Token = fs ++ (ws ++ (gs ++ (vs ++ (os ++ rest)))) in
    let k = columns_begin cols (d.key (codes "from") ∷ l) in (
      cs ++ d.key (codes "from") ∷ l,
      ap (λ y. d.key (codes "select") ∷ y) (regroup cs fs ws gs vs os rest (d.key (codes "from"))),
      unquantified empty_draft (cs ++ d.key (codes "from") ∷ l) k.0 k.1
          ∙ ap (λ y. and_then y (r.behind_columns all_kept false)) (columns_got cols (d.key (codes "from") ∷ l) (or_from l) refl refl)
          ∙ columns_to_end false st filter having outputs tables group t w g v o rest h,
    )
select_got (select {cs} {fs} {ws} {gs} {vs} {os} {b} {c} {star = st} {outputs} {tables} {filter} {having} {group} {order} all cols t w g v o) rest h =
    let l : List Token = fs ++ (ws ++ (gs ++ (vs ++ (os ++ rest)))) in (
      d.key (codes "all") ∷ (cs ++ d.key (codes "from") ∷ l),
      ap (λ y. d.key (codes "select") ∷ d.key (codes "all") ∷ y) (regroup cs fs ws gs vs os rest (d.key (codes "from"))),
      ap (λ y. and_then y (r.behind_columns all_kept false)) (columns_got cols (d.key (codes "from") ∷ l) (or_from l) refl refl)
          ∙ columns_to_end false st filter having outputs tables group t w g v o rest h,
    )
select_got (select {cs} {fs} {ws} {gs} {vs} {os} {b} {c} {star = st} {outputs} {tables} {filter} {having} {group} {order} distinct cols t w g v o) rest h =
    let l : List Token = fs ++ (ws ++ (gs ++ (vs ++ (os ++ rest)))) in (
      d.key (codes "distinct") ∷ (cs ++ d.key (codes "from") ∷ l),
      ap (λ y. d.key (codes "select") ∷ d.key (codes "distinct") ∷ y) (regroup cs fs ws gs vs os rest (d.key (codes "from"))),
      ap (λ y. and_then y (r.behind_columns all_kept true)) (columns_got cols (d.key (codes "from") ∷ l) (or_from l) refl refl)
          ∙ columns_to_end true st filter having outputs tables group t w g v o rest h,
    )

-- what the descent makes of a command
pub record Made (ts : List Token) (c : CommandTree) (x : List ℕ) : Type 0 where
  pub state : Draft
  pub form : r.Form
  pub tree : r.tree_of form state ≡ c
  pub texts : state.read.texts ≡ x
  pub is : (rest : List Token) → Follows zero rest → r.command all_kept empty_draft (ts ++ rest) ≡ got state form rest

select_command : (us : List Token) (q : Query) (x : List ℕ) (rest l : List Token) → l ≡ d.key (codes "select") ∷ us → r.select all_kept empty_draft us ≡ got (drafted q x) (headed q) rest
    → r.command all_kept empty_draft l ≡ got (drafted q x) (r.SelectForm (headed q)) rest
unfolding r.command
select_command us q x rest l e f = ap (r.command all_kept empty_draft) e ∙ ap (λ a. and_then a (r.select_form all_kept)) f

three : {k : ℕ} {ts : List Token} → Follows k ts → Follows (suc (suc (suc k))) ts
three h = wider (wider (wider h))

index_behind : (u : Bool) (i t : List ℕ) (ts : List Token) (cs : List (List ℕ)) → IsName i → IsName t → Names ts cs → (rest : List Token)
    → r.create_index all_kept u empty_draft (d.key (codes "index") ∷ Word i ∷ d.key (codes "on") ∷ Word t ∷ open_sign ∷ ((ts ++ close_sign ∷ []) ++ rest))
    ≡ got (with_names empty_draft cs) (r.IndexForm u i t) rest
index_behind u i t ts cs j k e rest =
    ap (λ a. and_then a (r.index_name all_kept u)) (name_got empty_draft i (d.key (codes "on") ∷ Word t ∷ open_sign ∷ ((ts ++ close_sign ∷ []) ++ rest)) j)
    ∙ ap (λ a. and_then a (r.index_table all_kept u i)) (name_got empty_draft t (open_sign ∷ ((ts ++ close_sign ∷ []) ++ rest)) k)
    ∙ ap (λ a. and_then a (r.index_form all_kept u i t)) (name_list_got e empty_draft rest)

index_made : (u : Bool) (i t : List ℕ) {us ts : List Token} (cs : List (List ℕ)) → IsUnique us u → IsName i → IsName t → Names ts cs → (rest : List Token)
    → r.command all_kept empty_draft ((d.key (codes "create") ∷ (us ++ d.key (codes "index") ∷ Word i ∷ d.key (codes "on") ∷ Word t ∷ open_sign ∷ (ts ++ close_sign ∷ []))) ++ rest)
    ≡ got (with_names empty_draft cs) (r.IndexForm u i t) rest
unfolding r.command
index_made u i t {ts} cs left_out j k e rest = index_behind false i t ts cs j k e rest
index_made u i t {ts} cs given j k e rest = index_behind true i t ts cs j k e rest

pub made : {ts : List Token} {c : CommandTree} {x : List ℕ} → IsCommand ts c x → Made ts c x
unfolding r.command
made (create_table {ts} {cs} t i e) = record {
  state = with_columns empty_draft cs;
  form = r.TableForm t;
  tree = refl;
  texts = refl;
  is = λ rest h.
      ap (λ a. and_then a (r.table_columns all_kept)) (name_got empty_draft t (open_sign ∷ ((ts ++ close_sign ∷ []) ++ rest)) i)
      ∙ ap (λ l. and_then (closed (commas (r.new_column all_kept) empty_draft l)) (r.table_form all_kept t)) (append_assoc ts (close_sign ∷ []) rest)
      ∙ ap (λ a. and_then (closed a) (r.table_form all_kept t))
      (new_columns_got e empty_draft (close_sign ∷ rest) (record { no_not = refl; no_primary = refl; no_unique = refl })
      ∙ commas_stop (r.new_column all_kept) (with_columns empty_draft cs) (close_sign ∷ rest) refl);
}
made (create_index {us} {ts} {u} {cs} i t un j k e) = record {
  state = with_names empty_draft cs;
  form = r.IndexForm u i t;
  tree = refl;
  texts = refl;
  is = λ rest h. index_made u i t cs un j k e rest;
}
made (insert {ts} {us} {cs} {x} {vs} {es} t i f e) = record {
  state = with_values (with_names empty_draft cs) x vs es;
  form = r.InsertForm t;
  tree = refl;
  texts = refl;
  is = λ rest h.
      ap (λ a. and_then a (r.insert_into all_kept)) (name_got empty_draft t ((ts ++ d.key (codes "values") ∷ us) ++ rest) i)
      ∙ ap (r.insert_into all_kept empty_draft t) (append_assoc ts (d.key (codes "values") ∷ us) rest)
      ∙ ap (λ a. and_then a (r.insert_values all_kept t)) (listed_got f empty_draft (d.key (codes "values") ∷ (us ++ rest)) refl)
      ∙ ap (λ a. and_then a (r.insert_form all_kept t))
      (tuples_got e (with_names empty_draft cs) rest ∙ commas_stop (r.row all_kept) (with_values (with_names empty_draft cs) x vs es) rest (follows_tables h).no_comma);
}
made (update {ts} {us} {r = q} {s} {xs} {f} t i e w) = record {
  state = with_sets empty_draft s xs;
  form = r.UpdateForm t f;
  tree = refl;
  texts = refl;
  is = λ rest h.
      let l = follow_where w (three h) in
      ap (λ a. and_then a (r.update_sets all_kept)) (name_got empty_draft t (d.key (codes "set") ∷ ((ts ++ us) ++ rest)) i)
      ∙ ap (λ y. r.update_sets all_kept empty_draft t (d.key (codes "set") ∷ y)) (append_assoc ts us rest)
      ∙ ap (λ a. and_then a (r.update_where all_kept t))
      (sets_got e empty_draft (us ++ rest) (follows_or l) ∙ commas_stop (r.set_item all_kept) (with_sets empty_draft q xs) (us ++ rest) (follows_tables l).no_comma)
      ∙ ap (λ a. and_then a (r.update_form all_kept t)) (clause_got w (with_sets empty_draft q xs) rest (follows_or h) (no_where (three h)));
}
made (delete {ts} {r = q} {f} t i w) = record {
  state = record empty_draft { read = q };
  form = r.DeleteForm t f;
  tree = refl;
  texts = refl;
  is = λ rest h.
      ap (λ a. and_then a (r.delete_where all_kept)) (name_got empty_draft t (ts ++ rest) i)
      ∙ ap (λ a. and_then a (r.delete_form all_kept t)) (clause_got w empty_draft rest (follows_or h) (no_where (three h)));
}
made (vacuum t i) = record {
  state = empty_draft;
  form = r.VacuumForm t;
  tree = refl;
  texts = refl;
  is = λ rest h. ap (λ a. and_then a (r.of_name all_kept r.VacuumForm)) (name_got empty_draft t rest i);
}
made (select {ts} {q} {x} e) = record {
  state = drafted q x;
  form = r.SelectForm (headed q);
  tree = refl;
  texts = refl;
  is = λ rest h. let s = select_got e rest h in select_command s.0 q x rest (ts ++ rest) s.1 s.2;
}
made (open_cursor {ts} {q} {x} c i e) = record {
  state = drafted q x;
  form = r.OpenForm c (headed q);
  tree = refl;
  texts = refl;
  is = λ rest h.
      let s = select_got e rest h in
      ap (λ a. and_then a (r.open_for all_kept)) (name_got empty_draft c (d.key (codes "for") ∷ (ts ++ rest)) i)
      ∙ ap (λ y. r.open_for all_kept empty_draft c (d.key (codes "for") ∷ y)) s.1
      ∙ ap (λ a. and_then a (r.open_form all_kept c)) s.2;
}
made (start c ds i) = record {
  state = empty_draft;
  form = r.StartForm c (number_of ds);
  tree = refl;
  texts = refl;
  is = λ rest h. ap (λ a. and_then a (r.of_both all_kept r.StartForm)) (name_got empty_draft c (Digits ds ∷ rest) i);
}
made (work ds) = record { state = empty_draft; form = r.WorkForm (number_of ds); tree = refl; texts = refl; is = λ rest h. refl }
made (fetch c ds i) = record {
  state = empty_draft;
  form = r.FetchForm c (number_of ds);
  tree = refl;
  texts = refl;
  is = λ rest h. ap (λ a. and_then a (r.of_both all_kept r.FetchForm)) (name_got empty_draft c (Digits ds ∷ rest) i);
}
made (close c i) = record {
  state = empty_draft;
  form = r.CloseForm c;
  tree = refl;
  texts = refl;
  is = λ rest h. ap (λ a. and_then a (r.of_name all_kept r.CloseForm)) (name_got empty_draft c rest i);
}
made (pool ds) = record { state = empty_draft; form = r.PoolForm (number_of ds); tree = refl; texts = refl; is = λ rest h. refl }
made (mpl ds) = record { state = empty_draft; form = r.MplForm (number_of ds); tree = refl; texts = refl; is = λ rest h. refl }
made show_memory = record { state = empty_draft; form = r.MemoryForm; tree = refl; texts = refl; is = λ rest h. refl }

-- a line has the tree that the descent finds
pub line_found : {ts : List Token} {c : CommandTree} {x : List ℕ} → IsLine ts c x → r.line_of ts ≡ Some (record { command = c; texts = x })
unfolding r.line_of
line_found {c} {x} (bare {ts} e) =
    let m = made e in
    ap (λ l. r.line_end (r.command all_kept empty_draft l)) (sym (append-nil ts)) ∙ ap r.line_end (m.is [] at_end)
    ∙ ap (λ y. Some (record { command = y; texts = m.state.read.texts })) m.tree ∙ ap (λ y. Some (record { command = c; texts = y })) m.texts
line_found {c} {x} (ended {ts} e) =
    let m = made e in
    ap r.line_end (m.is (semicolon ∷ []) (at_semicolon []))
    ∙ ap (λ y. Some (record { command = y; texts = m.state.read.texts })) m.tree ∙ ap (λ y. Some (record { command = c; texts = y })) m.texts
