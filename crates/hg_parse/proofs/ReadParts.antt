-- What the descent reads is a part of a statement of the grammar.
use Rattle.std.proofs.Common.{◌≡◌, ℕ, Bool, List, [], ◌∷◌, ◌++◌, Option, Some, None, refl, sym, ap, ◌∙◌, subst}
use Rattle.std.specs.Prelude.{codes, ⊤}
use Rattle.hg_model.specs.Grammar.{Read as ReadSoFar, with_node, next, comma, IsColumn, Or, Whole, Clause, left_out, given, IsOutput, plain, named, Outputs, one, more, IsRef, own, alias, alias_as, Tables, by_comma, by_cross, by_join, by_inner, GroupColumns, Group, Direction, ascending, descending, IsKey, position, column, Keys, Order}
use Rattle.hg_model.specs.Tokens.{Token, Word, Digits, Letters, Sign, number_of}
use Rattle.hg_model.specs.declared.trees.ColRef.{ColRef}
use Rattle.hg_model.specs.declared.trees.FromTable.{FromTable}
use Rattle.hg_model.specs.declared.trees.Node.TheVariants as node
use Rattle.hg_model.specs.declared.trees.OrderBy.TheVariants.{Position, Column as ByColumn}
use Rattle.hg_model.specs.declared.trees.OrderKey.{OrderKey}
use Rattle.hg_model.specs.declared.trees.Output.{Output}
use Rattle.hg_parse.specs.Building.{Draft, plain as all_kept}
use Rattle.hg_parse.specs.Descent as d
use Rattle.hg_parse.specs.Rules as r
use Rattle.hg_parse.specs.Steps.{Answer, and_then, behind, Turn, chain, commas, comma_turn}
use Rattle.hg_parse.proofs.Found.{at}
use Rattle.hg_parse.proofs.OnAnswers.{OnAnswer, OnTurn, on_then, on_each, on_if, on_eats, on_after, on_chain, joined, put_behind, put_first}
use Rattle.hg_parse.proofs.Read.{ReadBy, Named, name_read, ColumnRead, column_read, whole_read}

-- items with commas: `Step` is one item, `Steps` are some
module _ {Q A : Type 0} (q_of : Draft → Q) (a_of : Draft → A) (put : Draft → Q → A → Draft) (start : A)
    (put_put : (g : Draft) (q : Q) (a : A) (p : Q) (b : A) → put (put g q a) p b ≡ put g p b)
    (Step : Q → A → List Token → Q → A → Type 0) (Steps : Q → List Token → Q → A → Type 0)
    (first : (q : Q) (ts : List Token) (p : Q) (b : A) → Step q start ts p b → Steps q ts p b)
    (later : (q : Q) (ts : List Token) (p : Q) (a : A) (us : List Token) (o : Q) (b : A) → Steps q ts p a → Step p a us o b → Steps q (ts ++ comma ∷ us) o b) where
  pub record StepRead (g : Draft) (ts : List Token) (s : Draft) (x : ⊤) (rest : List Token) : Type 0 where
    pub same : s ≡ put g (q_of s) (a_of s)
    pub front : List Token
    pub parts : ts ≡ front ++ rest
    pub reads : Step (q_of g) (a_of g) front (q_of s) (a_of s)

  pub record StepsRead (g : Draft) (ts : List Token) (s : Draft) (x : ⊤) (rest : List Token) : Type 0 where
    pub same : s ≡ put g (q_of s) (a_of s)
    pub front : List Token
    pub parts : ts ≡ front ++ rest
    pub reads : Steps (q_of g) front (q_of s) (a_of s)

  pub commas_read : (item : Draft → List Token → Answer Draft ⊤) → ((g : Draft) (ts : List Token) → OnAnswer (item g ts) (StepRead g ts))
      → (g : Draft) (ts : List Token) → a_of g ≡ start → OnAnswer (commas item g ts) (StepsRead g ts)
  commas_read item item_read g ts e =
      on_then (StepRead g ts) (StepsRead g ts) (item g ts) (λ t x us. chain (comma_turn item) t x us) (item_read g ts)
      (λ t x us h. on_chain (StepsRead g ts) (comma_turn item)
      (λ s y vs f. on_eats (λ z. OnTurn z (StepsRead g ts)) comma vs _ _
      (λ c. on_each (StepRead s (behind vs)) (StepsRead g ts) (item s (behind vs)) (item_read s (behind vs))
      (λ u z ws k. record {
        same = k.same ∙ ap (λ v. put v (q_of u) (a_of u)) f.same ∙ put_put g (q_of s) (a_of s) (q_of u) (a_of u);
        front = f.front ++ comma ∷ k.front;
        parts = joined f.front k.front ws f.parts c k.parts;
        reads = later (q_of g) f.front (q_of s) (a_of s) k.front (q_of u) (a_of u) f.reads k.reads;
      })) tt)
      t x us
      (record {
        same = h.same;
        front = h.front;
        parts = h.parts;
        reads = first (q_of g) h.front (q_of t) (a_of t) (subst (λ a. Step (q_of g) a h.front (q_of t) (a_of t)) e h.reads);
      }))

-- one more item of a list
pub data Appends {Q V : Type 0} (R : Q → List Token → Q → V → Type 0) (q : Q) (vs : List V) (ts : List Token) (s : Q) : List V → Type 0 where
  appended : (v : V) → R q ts s v → Appends R q vs ts s (vs ++ v ∷ [])

pub append_at : {Q V : Type 0} (R : Q → List Token → Q → V → Type 0) (q : Q) (vs ws : List V) (ts : List Token) (s : Q) (v : V) → ws ≡ vs → R q ts s v
    → Appends R q vs ts s (ws ++ v ∷ [])
append_at R q vs ws ts s v e h = subst (λ l. Appends R q vs ts s (l ++ v ∷ [])) (sym e) (appended v h)

-- an expression where nothing else changes
pub record ClauseRead (w : List ℕ) (g : Draft) (ts : List Token) (s : Draft) (f : Option ℕ) (rest : List Token) : Type 0 where
  pub same : s ≡ at g s.read
  pub front : List Token
  pub parts : ts ≡ front ++ rest
  pub reads : Clause w g.read front s.read f

pub clause_read : (w : List ℕ) (g : Draft) (ts : List Token) → OnAnswer (r.clause all_kept w g ts) (ClauseRead w g ts)
clause_read w g ts =
    on_eats (λ a. OnAnswer a (ClauseRead w g ts)) (d.key w) ts _ _
    (λ e. on_then (ReadBy Or 32 g (behind ts)) (ClauseRead w g ts) (d.whole all_kept g (behind ts)) (r.given all_kept) (whole_read g (behind ts))
    (λ s n us h. record { same = h.same; front = d.key w ∷ h.front; parts = put_first h.front us e h.parts; reads = given h.reads }))
    (record { same = refl; front = []; parts = refl; reads = left_out })

-- outputs
abbrev pub put_outputs : Draft → ReadSoFar → List Output → Draft
put_outputs g q os = record g { read = q; outputs = os }

abbrev pub OutputStep : ReadSoFar → List Output → List Token → ReadSoFar → List Output → Type 0
OutputStep q os ts s ps = Appends IsOutput q os ts s ps

pub outputs_first : (q : ReadSoFar) (ts : List Token) (p : ReadSoFar) (b : List Output) → OutputStep q [] ts p b → Outputs q ts p b
outputs_first q ts p b (appended v h) = one h

pub outputs_later : (q : ReadSoFar) (ts : List Token) (p : ReadSoFar) (a : List Output) (us : List Token) (o : ReadSoFar) (b : List Output)
    → Outputs q ts p a → OutputStep p a us o b → Outputs q (ts ++ comma ∷ us) o b
outputs_later q ts p a us o b f (appended v h) = more f h

abbrev pub OutputRead : Draft → List Token → Draft → ⊤ → List Token → Type 0
OutputRead = StepRead (λ g. g.read) (λ g. g.outputs) put_outputs [] (λ g q a p b. refl) OutputStep Outputs outputs_first outputs_later

abbrev pub OutputsRead : Draft → List Token → Draft → ⊤ → List Token → Type 0
OutputsRead = StepsRead (λ g. g.read) (λ g. g.outputs) put_outputs [] (λ g q a p b. refl) OutputStep Outputs outputs_first outputs_later

output_read : (g : Draft) (ts : List Token) → OnAnswer (r.output all_kept g ts) (OutputRead g ts)
output_read g ts =
    on_then (ReadBy Or 32 g ts) (OutputRead g ts) (d.whole all_kept g ts) (r.output_name all_kept) (whole_read g ts)
    (λ t n us h. on_eats (λ a. OnAnswer a (OutputRead g ts)) (d.key (codes "as")) us _ _
    (λ e. on_then (Named t (behind us)) (OutputRead g ts) (d.name t (behind us)) (r.named_output all_kept n) (name_read t (behind us))
    (λ s c vs m. let o : Output = record { node = n; name = Some c } in
    subst {A = Draft} (λ s. OutputRead g ts (record s { outputs = s.outputs ++ o ∷ [] }) tt vs) (sym m.same) (record {
      same = ap {A = Draft} (λ y. record y { outputs = t.outputs ++ o ∷ [] }) h.same;
      front = h.front ++ d.key (codes "as") ∷ Word c ∷ [];
      parts = joined h.front (Word c ∷ []) vs h.parts e m.parts;
      reads = append_at IsOutput g.read g.outputs t.outputs (h.front ++ d.key (codes "as") ∷ Word c ∷ []) t.read o (ap (λ y. y.outputs) h.same) (named c m.name h.reads);
    })))
    (let o : Output = record { node = n; name = None } in record {
      same = ap {A = Draft} (λ y. record y { outputs = t.outputs ++ o ∷ [] }) h.same;
      front = h.front;
      parts = h.parts;
      reads = append_at IsOutput g.read g.outputs t.outputs h.front t.read o (ap (λ y. y.outputs) h.same) (plain h.reads);
    }))

pub outputs_read : (g : Draft) (ts : List Token) → g.outputs ≡ [] → OnAnswer (commas (r.output all_kept) g ts) (OutputsRead g ts)
outputs_read = commas_read (λ g. g.read) (λ g. g.outputs) put_outputs [] (λ g q a p b. refl) OutputStep Outputs outputs_first outputs_later (r.output all_kept) output_read

-- tables
pub record RefRead (g : Draft) (ts : List Token) (s : Draft) (f : FromTable) (rest : List Token) : Type 0 where
  pub same : s ≡ g
  pub front : List Token
  pub table : List ℕ
  pub alias : List ℕ
  pub is : f ≡ r.from_table table alias
  pub parts : ts ≡ front ++ rest
  pub reads : IsRef front table alias

ref_read : (g : Draft) (ts : List Token) → OnAnswer (r.ref g ts) (RefRead g ts)
ref_read g ts =
    on_then (Named g ts) (RefRead g ts) (d.name g ts) r.alias (name_read g ts)
    (λ s t us h. on_eats (λ a. OnAnswer a (RefRead g ts)) (d.key (codes "as")) us _ _
    (λ e. on_then (Named s (behind us)) (RefRead g ts) (d.name s (behind us)) (r.aliased t) (name_read s (behind us))
    (λ v a vs m. record {
      same = m.same ∙ h.same;
      front = Word t ∷ Word (codes "as") ∷ Word a ∷ [];
      table = t;
      alias = a;
      is = refl;
      parts = h.parts ∙ ap (λ l. Word t ∷ l) (e ∙ ap (λ l. Word (codes "as") ∷ l) m.parts);
      reads = alias_as t a h.name m.name;
    }))
    (on_if (λ a. OnAnswer a (RefRead g ts)) (r.begins_name us) _ _
    (λ e. on_then (Named s us) (RefRead g ts) (d.name s us) (r.aliased t) (name_read s us)
    (λ v a vs m. record {
      same = m.same ∙ h.same;
      front = Word t ∷ Word a ∷ [];
      table = t;
      alias = a;
      is = refl;
      parts = h.parts ∙ ap (λ l. Word t ∷ l) m.parts;
      reads = alias t a h.name m.name;
    }))
    (λ e. record { same = h.same; front = Word t ∷ []; table = t; alias = t; is = refl; parts = h.parts; reads = own t h.name })))

abbrev pub put_tables : Draft → ReadSoFar → List FromTable → Draft
put_tables g q fs = record g { read = q; tables = fs }

pub record TablesRead (g : Draft) (ts : List Token) (s : Draft) (x : ⊤) (rest : List Token) : Type 0 where
  pub same : s ≡ put_tables g s.read s.tables
  pub front : List Token
  pub parts : ts ≡ front ++ rest
  pub reads : Tables g.read front s.read s.tables

-- a table with no condition
pub record PlainRead (g : Draft) (ts : List Token) (s : Draft) (x : ⊤) (rest : List Token) : Type 0 where
  pub front : List Token
  pub table : List ℕ
  pub alias : List ℕ
  pub same : s ≡ record g { tables = g.tables ++ r.from_table table alias ∷ [] }
  pub parts : ts ≡ front ++ rest
  pub reads : IsRef front table alias

plain_read : (g : Draft) (ts : List Token) → OnAnswer (r.plain_table all_kept g ts) (PlainRead g ts)
plain_read g ts =
    on_then (RefRead g ts) (PlainRead g ts) (r.ref g ts) (r.listed_table all_kept) (ref_read g ts)
    (λ s f us h. record {
      front = h.front;
      table = h.table;
      alias = h.alias;
      same = ap {A = Draft} (λ y. record y { tables = y.tables ++ f ∷ [] }) h.same ∙ ap {A = FromTable} (λ y. record g { tables = g.tables ++ y ∷ [] }) h.is;
      parts = h.parts;
      reads = h.reads;
    })

-- a table with its condition
pub record JoinRead (g : Draft) (ts : List Token) (s : Draft) (x : ⊤) (rest : List Token) : Type 0 where
  pub front : List Token
  pub behind_on : List Token
  pub table : List ℕ
  pub alias : List ℕ
  pub index : ℕ
  pub same : s ≡ put_tables g s.read (g.tables ++ r.joined_table (r.from_table table alias) index ∷ [])
  pub parts : ts ≡ (front ++ d.key (codes "on") ∷ behind_on) ++ rest
  pub ref : IsRef front table alias
  pub reads : Whole g.read behind_on s.read index

join_read : (g : Draft) (ts : List Token) → OnAnswer (r.joined all_kept g ts) (JoinRead g ts)
join_read g ts =
    on_then (RefRead g ts) (JoinRead g ts) (r.ref g ts) (r.on_clause all_kept) (ref_read g ts)
    (λ s f us h. on_after (JoinRead g ts) (d.key (codes "on")) us (λ vs. and_then (d.whole all_kept s vs) (r.join_on all_kept f))
    (λ e. subst (λ v. OnAnswer (and_then (d.whole all_kept v (behind us)) (r.join_on all_kept f)) (JoinRead g ts)) (sym h.same)
    (on_then (ReadBy Or 32 g (behind us)) (JoinRead g ts) (d.whole all_kept g (behind us)) (r.join_on all_kept f) (whole_read g (behind us))
    (λ t n vs m. record {
      front = h.front;
      behind_on = m.front;
      table = h.table;
      alias = h.alias;
      index = n;
      same = ap {A = FromTable} (λ y. record t { tables = t.tables ++ r.joined_table y n ∷ [] }) h.is
          ∙ ap {A = Draft} (λ y. record y { tables = y.tables ++ r.joined_table (r.from_table h.table h.alias) n ∷ [] }) m.same;
      parts = joined h.front m.front vs h.parts e m.parts;
      ref = h.reads;
      reads = m.reads;
    }))))

-- one more table behind others
tables_with : (g : Draft) (ts : List Token) (s : Draft) (us : List Token) → TablesRead g ts s tt us → (t : Draft) (vs : List Token) (fs : List FromTable)
    → t ≡ put_tables s t.read fs → (front : List Token) → ts ≡ front ++ vs → Tables g.read front t.read fs → TablesRead g ts t tt vs
tables_with g ts s us h t vs fs e front p m =
    let q : t.tables ≡ fs = ap (λ y. y.tables) e in
    record {
      same = e ∙ ap (λ y. put_tables y t.read fs) h.same ∙ ap (put_tables g t.read) (sym q);
      front = front;
      parts = p;
      reads = subst (λ y. Tables g.read front t.read y) (sym q) m;
    }

tables_step : (g : Draft) (ts : List Token) (s : Draft) (x : ⊤) (us : List Token) → TablesRead g ts s x us → OnTurn (r.tables_turn all_kept s x us) (TablesRead g ts)
tables_step g ts s x us h =
    let Q : Turn Draft ⊤ → Type 0 = λ a. OnTurn a (TablesRead g ts) in
    let cross : Token = d.key (codes "cross") in
    let join : Token = d.key (codes "join") in
    let inner : Token = d.key (codes "inner") in
    on_eats Q comma us _ _
    (λ e. on_each (PlainRead s (behind us)) (TablesRead g ts) (r.plain_table all_kept s (behind us)) (plain_read s (behind us))
    (λ t y vs m. subst (λ v. TablesRead g ts v tt vs) (sym m.same) (record {
      same = ap {A = Draft} (λ v. record v { tables = s.tables ++ r.from_table m.table m.alias ∷ [] }) h.same;
      front = h.front ++ comma ∷ m.front;
      parts = joined h.front m.front vs h.parts e m.parts;
      reads = by_comma h.reads m.reads;
    })))
    (on_eats Q cross us _ _
    (λ e. on_after (TablesRead g ts) join (behind us) (λ vs. r.plain_table all_kept s vs)
    (λ l. on_each (PlainRead s (behind (behind us))) (TablesRead g ts) (r.plain_table all_kept s (behind (behind us))) (plain_read s (behind (behind us)))
    (λ t y vs m. subst (λ v. TablesRead g ts v tt vs) (sym m.same) (record {
      same = ap {A = Draft} (λ v. record v { tables = s.tables ++ r.from_table m.table m.alias ∷ [] }) h.same;
      front = h.front ++ cross ∷ join ∷ m.front;
      parts = joined h.front (join ∷ m.front) vs h.parts e (put_first m.front vs l m.parts);
      reads = by_cross h.reads m.reads;
    }))))
    (on_eats Q join us _ _
    (λ e. on_each (JoinRead s (behind us)) (TablesRead g ts) (r.joined all_kept s (behind us)) (join_read s (behind us))
    (λ t y vs m. tables_with g ts s us h t vs (s.tables ++ r.joined_table (r.from_table m.table m.alias) m.index ∷ []) m.same
    (h.front ++ join ∷ (m.front ++ d.key (codes "on") ∷ m.behind_on))
    (joined h.front (m.front ++ d.key (codes "on") ∷ m.behind_on) vs h.parts e m.parts)
    (by_join h.reads m.ref m.reads)))
    (on_eats Q inner us _ _
    (λ e. on_after (TablesRead g ts) join (behind us) (λ vs. r.joined all_kept s vs)
    (λ l. on_each (JoinRead s (behind (behind us))) (TablesRead g ts) (r.joined all_kept s (behind (behind us))) (join_read s (behind (behind us)))
    (λ t y vs m. tables_with g ts s us h t vs (s.tables ++ r.joined_table (r.from_table m.table m.alias) m.index ∷ []) m.same
    (h.front ++ inner ∷ join ∷ (m.front ++ d.key (codes "on") ∷ m.behind_on))
    (joined h.front (join ∷ (m.front ++ d.key (codes "on") ∷ m.behind_on)) vs h.parts e (put_first (m.front ++ d.key (codes "on") ∷ m.behind_on) vs l m.parts))
    (by_inner h.reads m.ref m.reads)))) tt)))

pub tables_read : (g : Draft) (ts : List Token) → g.tables ≡ [] → OnAnswer (r.tables all_kept g ts) (TablesRead g ts)
tables_read g ts empty =
    on_then (PlainRead g ts) (TablesRead g ts) (r.plain_table all_kept g ts) (λ t x us. chain (r.tables_turn all_kept) t x us) (plain_read g ts)
    (λ t x us m. on_chain (TablesRead g ts) (r.tables_turn all_kept) (tables_step g ts) t x us
    (subst (λ v. TablesRead g ts v tt us) (sym m.same) (record {
      same = refl;
      front = m.front;
      parts = m.parts;
      reads = subst (λ l. Tables g.read m.front g.read (l ++ r.from_table m.table m.alias ∷ [])) (sym empty) (one m.reads);
    })))

-- grouping columns
abbrev pub put_group : Draft → ReadSoFar → List ℕ → Draft
put_group g q ns = record g { read = q; group = ns }

pub data IsGrouped (q : ReadSoFar) (ts : List Token) : ReadSoFar → ℕ → Type 0 where
  grouped : (c : ColRef) → IsColumn ts c → IsGrouped q ts (with_node q (node.Col c)) (next q)

abbrev pub GroupStep : ReadSoFar → List ℕ → List Token → ReadSoFar → List ℕ → Type 0
GroupStep q os ts s ps = Appends IsGrouped q os ts s ps

group_one : {q : ReadSoFar} {ts : List Token} {p : ReadSoFar} {n : ℕ} → IsGrouped q ts p n → GroupColumns q ts p (n ∷ [])
group_one (grouped c h) = one h

group_more : {q : ReadSoFar} {ts : List Token} {p : ReadSoFar} {ns : List ℕ} {us : List Token} {o : ReadSoFar} {n : ℕ} → GroupColumns q ts p ns → IsGrouped p us o n
    → GroupColumns q (ts ++ comma ∷ us) o (ns ++ n ∷ [])
group_more f (grouped c h) = more f h

pub group_first : (q : ReadSoFar) (ts : List Token) (p : ReadSoFar) (b : List ℕ) → GroupStep q [] ts p b → GroupColumns q ts p b
group_first q ts p b (appended v h) = group_one h

pub group_later : (q : ReadSoFar) (ts : List Token) (p : ReadSoFar) (a : List ℕ) (us : List Token) (o : ReadSoFar) (b : List ℕ)
    → GroupColumns q ts p a → GroupStep p a us o b → GroupColumns q (ts ++ comma ∷ us) o b
group_later q ts p a us o b f (appended v h) = group_more f h

abbrev pub GroupItemRead : Draft → List Token → Draft → ⊤ → List Token → Type 0
GroupItemRead = StepRead (λ g. g.read) (λ g. g.group) put_group [] (λ g q a p b. refl) GroupStep GroupColumns group_first group_later

abbrev pub GroupItemsRead : Draft → List Token → Draft → ⊤ → List Token → Type 0
GroupItemsRead = StepsRead (λ g. g.read) (λ g. g.group) put_group [] (λ g q a p b. refl) GroupStep GroupColumns group_first group_later

group_column_read : (g : Draft) (ts : List Token) → OnAnswer (r.group_column all_kept g ts) (GroupItemRead g ts)
group_column_read g ts =
    on_then (ColumnRead g ts) (GroupItemRead g ts) (d.column g ts) (r.grouped all_kept) (column_read g ts)
    (λ s c us h. subst {A = Draft} (λ v. GroupItemRead g ts (record v { read = with_node v.read (node.Col c); group = v.group ++ next v.read ∷ [] }) tt us) (sym h.same) (record {
      same = refl;
      front = h.front;
      parts = h.parts;
      reads = appended (next g.read) (grouped c h.reads);
    }))

pub record GroupRead (g : Draft) (ts : List Token) (s : Draft) (x : ⊤) (rest : List Token) : Type 0 where
  pub same : s ≡ put_group g s.read s.group
  pub front : List Token
  pub parts : ts ≡ front ++ rest
  pub reads : Group g.read front s.read s.group

pub group_read : (g : Draft) (ts : List Token) → g.group ≡ [] → OnAnswer (r.group all_kept g ts) (GroupRead g ts)
group_read g ts empty =
    on_eats (λ a. OnAnswer a (GroupRead g ts)) (d.key (codes "group")) ts _ _
    (λ e. on_after (GroupRead g ts) (d.key (codes "by")) (behind ts) (λ us. commas (r.group_column all_kept) g us)
    (λ l. on_each (GroupItemsRead g (behind (behind ts))) (GroupRead g ts) (commas (r.group_column all_kept) g (behind (behind ts)))
    (commas_read (λ g. g.read) (λ g. g.group) put_group [] (λ g q a p b. refl) GroupStep GroupColumns group_first group_later (r.group_column all_kept) group_column_read g (behind (behind ts)) empty)
    (λ s x us h. record {
      same = h.same;
      front = d.key (codes "group") ∷ d.key (codes "by") ∷ h.front;
      parts = put_first (d.key (codes "by") ∷ h.front) us e (put_first h.front us l h.parts);
      reads = given h.reads;
    })))
    (record { same = refl; front = []; parts = refl; reads = subst (λ l. Group g.read [] g.read l) (sym empty) left_out })

-- keys of ORDER BY
abbrev pub put_order : Draft → ReadSoFar → List OrderKey → Draft
put_order g q ks = record g { read = q; order = ks }

abbrev pub KeyStep : ReadSoFar → List OrderKey → List Token → ReadSoFar → List OrderKey → Type 0
KeyStep q os ts s ps = Appends IsKey q os ts s ps

pub keys_first : (q : ReadSoFar) (ts : List Token) (p : ReadSoFar) (b : List OrderKey) → KeyStep q [] ts p b → Keys q ts p b
keys_first q ts p b (appended v h) = one h

pub keys_later : (q : ReadSoFar) (ts : List Token) (p : ReadSoFar) (a : List OrderKey) (us : List Token) (o : ReadSoFar) (b : List OrderKey)
    → Keys q ts p a → KeyStep p a us o b → Keys q (ts ++ comma ∷ us) o b
keys_later q ts p a us o b f (appended v h) = more f h

abbrev pub KeyRead : Draft → List Token → Draft → ⊤ → List Token → Type 0
KeyRead = StepRead (λ g. g.read) (λ g. g.order) put_order [] (λ g q a p b. refl) KeyStep Keys keys_first keys_later

abbrev pub KeysRead : Draft → List Token → Draft → ⊤ → List Token → Type 0
KeysRead = StepsRead (λ g. g.read) (λ g. g.order) put_order [] (λ g q a p b. refl) KeyStep Keys keys_first keys_later

pub record DirectionRead (g : Draft) (ts : List Token) (s : Draft) (x : Bool) (rest : List Token) : Type 0 where
  pub same : s ≡ g
  pub front : List Token
  pub parts : ts ≡ front ++ rest
  pub reads : Direction front x

direction_read : (g : Draft) (ts : List Token) → OnAnswer (r.direction g ts) (DirectionRead g ts)
direction_read g ts =
    let Q : Answer Draft Bool → Type 0 = λ a. OnAnswer a (DirectionRead g ts) in
    on_eats Q (d.key (codes "asc")) ts _ _ (λ e. record { same = refl; front = d.key (codes "asc") ∷ []; parts = e; reads = ascending })
    (on_eats Q (d.key (codes "desc")) ts _ _ (λ e. record { same = refl; front = d.key (codes "desc") ∷ []; parts = e; reads = descending })
    (record { same = refl; front = []; parts = refl; reads = left_out }))

column_key_read : (g : Draft) (ts : List Token) → OnAnswer (and_then (d.column g ts) (r.column_key all_kept)) (KeyRead g ts)
column_key_read g ts =
    on_then (ColumnRead g ts) (KeyRead g ts) (d.column g ts) (r.column_key all_kept) (column_read g ts)
    (λ s c us h. subst (λ v. OnAnswer (r.column_key all_kept v c us) (KeyRead g ts)) (sym h.same)
    (let t : Draft = at g (with_node g.read (node.Col c)) in
    on_then (DirectionRead t us) (KeyRead g ts) (r.direction t us) (r.directed all_kept (ByColumn (next g.read))) (direction_read t us)
    (λ u x vs m. let k : OrderKey = record { by = ByColumn (next g.read); descending = x } in
    subst {A = Draft} (λ v. KeyRead g ts (record v { order = v.order ++ k ∷ [] }) tt vs) (sym m.same) (record {
      same = refl;
      front = h.front ++ m.front;
      parts = put_behind h.front m.front vs h.parts m.parts;
      reads = appended k (column h.reads m.reads);
    }))))

order_key_read : (g : Draft) (ts : List Token) → OnAnswer (r.order_key all_kept g ts) (KeyRead g ts)
order_key_read g (Digits ds ∷ ts) =
    on_then (DirectionRead g ts) (KeyRead g (Digits ds ∷ ts)) (r.direction g ts) (r.directed all_kept (Position (number_of ds))) (direction_read g ts)
    (λ u x vs m. let k : OrderKey = record { by = Position (number_of ds); descending = x } in
    subst {A = Draft} (λ v. KeyRead g (Digits ds ∷ ts) (record v { order = v.order ++ k ∷ [] }) tt vs) (sym m.same) (record {
      same = refl;
      front = Digits ds ∷ m.front;
      parts = ap (λ l. Digits ds ∷ l) m.parts;
      reads = appended k (position ds m.reads);
    }))
order_key_read g [] = tt
order_key_read g (Word w ∷ ts) = column_key_read g (Word w ∷ ts)
order_key_read g (Letters w ∷ ts) = tt
order_key_read g (Sign w ∷ ts) = tt

pub record OrderRead (g : Draft) (ts : List Token) (s : Draft) (x : ⊤) (rest : List Token) : Type 0 where
  pub same : s ≡ put_order g s.read s.order
  pub front : List Token
  pub parts : ts ≡ front ++ rest
  pub reads : Order g.read front s.read s.order

pub order_read : (g : Draft) (ts : List Token) → g.order ≡ [] → OnAnswer (r.order all_kept g ts) (OrderRead g ts)
order_read g ts empty =
    on_eats (λ a. OnAnswer a (OrderRead g ts)) (d.key (codes "order")) ts _ _
    (λ e. on_after (OrderRead g ts) (d.key (codes "by")) (behind ts) (λ us. commas (r.order_key all_kept) g us)
    (λ l. on_each (KeysRead g (behind (behind ts))) (OrderRead g ts) (commas (r.order_key all_kept) g (behind (behind ts)))
    (commas_read (λ g. g.read) (λ g. g.order) put_order [] (λ g q a p b. refl) KeyStep Keys keys_first keys_later (r.order_key all_kept) order_key_read g (behind (behind ts)) empty)
    (λ s x us h. record {
      same = h.same;
      front = d.key (codes "order") ∷ d.key (codes "by") ∷ h.front;
      parts = put_first (d.key (codes "by") ∷ h.front) us e (put_first h.front us l h.parts);
      reads = given h.reads;
    })))
    (record { same = refl; front = []; parts = refl; reads = subst (λ l. Order g.read [] g.read l) (sym empty) left_out })
