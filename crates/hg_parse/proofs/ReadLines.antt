-- What the descent reads is a line of the grammar.
use Rattle.std.proofs.Common.{◌≡◌, ℕ, true, false, List, [], ◌∷◌, ◌++◌, length, refl, sym, ap, ◌∙◌, subst, append_assoc, length-append, pos, neg_ℤ}
use Rattle.std.specs.Prelude.{codes, ⊤, ℤ}
use Rattle.std.specs.Cmp.Lexicographic.{same_text}
use Rattle.hg_model.specs.Grammar.{Read as ReadSoFar, IsName, open_sign, close_sign, comma, equals, Or, Whole, left_out, given, one, more, plain, IsConstant, positive, negative, text, null, Constants, Tuples, Names, Listed, IsType, integer, int, varchar, Constraints, none, not_null, primary_key, unique, IsNewColumn, column, NewColumns, Sets}
use Rattle.hg_model.specs.Tables.{same_name}
use Rattle.hg_model.specs.Tokens.{Token, Word, Digits, Letters, Sign, number_of}
use Rattle.hg_model.specs.declared.trees.Literal.{Literal}
use Rattle.hg_model.specs.declared.trees.Literal.TheVariants as literal
use Rattle.hg_model.specs.declared.trees.NewColumn.{NewColumn}
use Rattle.hg_model.specs.declared.trees.SqlType.{SqlType}
use Rattle.hg_model.specs.declared.trees.SqlType.TheVariants.{Varchar}
use Rattle.hg_parse.specs.Building.{Draft, plain as all_kept}
use Rattle.hg_parse.specs.Descent as d
use Rattle.hg_parse.specs.Rules as r
use Rattle.hg_parse.specs.Steps.{Answer, got, and_then, behind, after, closed, Turn, commas}
use Rattle.hg_parse.proofs.OnAnswers.{OnAnswer, OnTurn, on_then, on_each, on_if, on_eats, on_after, on_chain, joined, put_behind, put_first}
use Rattle.hg_parse.proofs.Read.{ReadBy, Closed, on_closed, Named, name_read, whole_read}
use Rattle.hg_parse.proofs.ReadParts.{StepRead, StepsRead, commas_read, Appends, appended, append_at}

-- numbers, with the state as it was
pub record NumberRead (g : Draft) (ts : List Token) (s : Draft) (n : ℕ) (rest : List Token) : Type 0 where
  pub same : s ≡ g
  pub digits : List ℕ
  pub is : n ≡ number_of digits
  pub parts : ts ≡ Digits digits ∷ rest

pub number_read : (g : Draft) (ts : List Token) → OnAnswer (r.number g ts) (NumberRead g ts)
number_read g [] = tt
number_read g (Word w ∷ ts) = tt
number_read g (Digits ds ∷ ts) = record { same = refl; digits = ds; is = refl; parts = refl }
number_read g (Letters w ∷ ts) = tt
number_read g (Sign w ∷ ts) = tt

-- constants
abbrev pub put_values : Draft → List ℕ → List Literal → Draft
put_values g x vs = record g { read = record { nodes = g.read.nodes; texts = x }; values = vs }

abbrev pub ConstantStep : List ℕ → List Literal → List Token → List ℕ → List Literal → Type 0
ConstantStep x vs ts y ws = Appends IsConstant x vs ts y ws

-- constants behind others
pub data Behind (us : List Literal) (x : List ℕ) (ts : List Token) (y : List ℕ) : List Literal → Type 0 where
  behind_them : (vs : List Literal) → Constants x ts y vs → Behind us x ts y (us ++ vs)

pub constants_first : (us : List Literal) (x : List ℕ) (ts : List Token) (y : List ℕ) (b : List Literal) → ConstantStep x us ts y b → Behind us x ts y b
constants_first us x ts y b (appended v h) = behind_them (v ∷ []) (one h)

pub constants_later : (us : List Literal) (x : List ℕ) (ts : List Token) (y : List ℕ) (a : List Literal) (ws : List Token) (z : List ℕ) (b : List Literal)
    → Behind us x ts y a → ConstantStep y a ws z b → Behind us x (ts ++ comma ∷ ws) z b
constants_later us x ts y a ws z b (behind_them vs f) h = behind_more us x ts y vs f ws z b h
  where
    behind_more : (us : List Literal) (x : List ℕ) (ts : List Token) (y : List ℕ) (vs : List Literal) → Constants x ts y vs → (ws : List Token) (z : List ℕ) (b : List Literal)
        → ConstantStep y (us ++ vs) ws z b → Behind us x (ts ++ comma ∷ ws) z b
    behind_more us x ts y vs f ws z b (appended v h) =
        subst (λ l. Behind us x (ts ++ comma ∷ ws) z l) (sym (append_assoc us vs (v ∷ []))) (behind_them (vs ++ v ∷ []) (more f h))

abbrev pub ConstantRead : List Literal → Draft → List Token → Draft → ⊤ → List Token → Type 0
ConstantRead us = StepRead (λ g. g.read.texts) (λ g. g.values) put_values us (λ g q a p b. refl) ConstantStep (Behind us) (constants_first us) (constants_later us)

abbrev pub ConstantsRead : List Literal → Draft → List Token → Draft → ⊤ → List Token → Type 0
ConstantsRead us = StepsRead (λ g. g.read.texts) (λ g. g.values) put_values us (λ g q a p b. refl) ConstantStep (Behind us) (constants_first us) (constants_later us)

signed_read : (us : List Literal) (g : Draft) (w : List ℕ) (ts : List Token) (s : Draft) (n : ℕ) (vs : List Token) → NumberRead g ts s n vs
    → (bytes : List ℕ) → w ≡ bytes → (z : ℕ → ℤ) → ((x : List ℕ) (ds : List ℕ) → IsConstant x (Sign bytes ∷ Digits ds ∷ []) x (literal.Int (z (number_of ds))))
    → ConstantRead us g (Sign w ∷ ts) (record s { values = s.values ++ literal.Int (z n) ∷ [] }) tt vs
signed_read us g w ts s n vs h bytes e z rule =
    subst {A = Draft} (λ v. ConstantRead us g (Sign w ∷ ts) (record v { values = v.values ++ literal.Int (z n) ∷ [] }) tt vs) (sym h.same)
    (subst (λ i. ConstantRead us g (Sign w ∷ ts) (record g { values = g.values ++ literal.Int (z i) ∷ [] }) tt vs) (sym h.is) (record {
      same = refl;
      front = Sign bytes ∷ Digits h.digits ∷ [];
      parts = ap (λ v. Sign v ∷ ts) e ∙ ap (λ l. Sign bytes ∷ l) h.parts;
      reads = appended (literal.Int (z (number_of h.digits))) (rule g.read.texts h.digits);
    }))

constant_read : (us : List Literal) (g : Draft) (ts : List Token) → OnAnswer (r.constant all_kept g ts) (ConstantRead us g ts)
constant_read us g [] = tt
constant_read us g (Word w ∷ ts) =
    on_if (λ a. OnAnswer a (ConstantRead us g (Word w ∷ ts))) (same_name w (codes "null")) _ _
    (λ e. record { same = refl; front = Word (codes "null") ∷ []; parts = ap (λ v. Word v ∷ ts) (same_text w (codes "null") (sym e)); reads = appended _ null })
    (λ e. tt)
constant_read us g (Digits ds ∷ ts) = record { same = refl; front = Digits ds ∷ []; parts = refl; reads = appended _ (plain ds) }
constant_read us g (Letters t ∷ ts) = record { same = refl; front = Letters t ∷ []; parts = refl; reads = appended _ (text t) }
constant_read us g (Sign w ∷ ts) =
    let Q : Answer Draft ⊤ → Type 0 = λ a. OnAnswer a (ConstantRead us g (Sign w ∷ ts)) in
    on_if Q (same_name w (43 ∷ [])) _ _
    (λ e. on_then (NumberRead g ts) (ConstantRead us g (Sign w ∷ ts)) (r.number g ts) (r.positive all_kept) (number_read g ts)
    (λ s n vs h. signed_read us g w ts s n vs h (43 ∷ []) (same_text w (43 ∷ []) (sym e)) (λ i. pos i) (λ x ds. positive ds)))
    (λ x. on_if Q (same_name w (45 ∷ [])) _ _
    (λ e. on_then (NumberRead g ts) (ConstantRead us g (Sign w ∷ ts)) (r.number g ts) (r.negative all_kept) (number_read g ts)
    (λ s n vs h. signed_read us g w ts s n vs h (45 ∷ []) (same_text w (45 ∷ []) (sym e)) (λ i. neg_ℤ (pos i)) (λ x ds. negative ds)))
    (λ e. tt))

-- rows: the values and the ends of rows together
pub record Rows : Type 0 where
  pub values : List Literal
  pub ends : List ℕ

abbrev pub no_rows : Rows
no_rows = record { values = []; ends = [] }

abbrev pub rows_of : Draft → Rows
rows_of g = record { values = g.values; ends = g.ends }

abbrev pub put_rows : Draft → List ℕ → Rows → Draft
put_rows g x a = record g { read = record { nodes = g.read.nodes; texts = x }; values = a.values; ends = a.ends }

pub data RowStep (x : List ℕ) (a : Rows) : List Token → List ℕ → Rows → Type 0 where
  one_row : (ts : List Token) (y : List ℕ) (vs : List Literal) → Constants x ts y vs
      → RowStep x a (open_sign ∷ (ts ++ close_sign ∷ [])) y (record { values = a.values ++ vs; ends = a.ends ++ length (a.values ++ vs) ∷ [] })

abbrev pub TupleRows : List ℕ → List Token → List ℕ → Rows → Type 0
TupleRows x ts y a = Tuples x ts y a.values a.ends

pub rows_first : (x : List ℕ) (ts : List Token) (y : List ℕ) (b : Rows) → RowStep x no_rows ts y b → TupleRows x ts y b
rows_first x ts y b (one_row us z vs h) = one h

pub rows_later : (x : List ℕ) (ts : List Token) (y : List ℕ) (a : Rows) (us : List Token) (z : List ℕ) (b : Rows) → TupleRows x ts y a → RowStep y a us z b
    → TupleRows x (ts ++ comma ∷ us) z b
rows_later x ts y a us z b f (one_row ws v vs h) =
    subst (λ n. Tuples x (ts ++ comma ∷ open_sign ∷ (ws ++ close_sign ∷ [])) v (a.values ++ vs) (a.ends ++ n ∷ [])) (sym (length-append a.values vs)) (more f h)

abbrev pub RowRead : Draft → List Token → Draft → ⊤ → List Token → Type 0
RowRead = StepRead (λ g. g.read.texts) rows_of put_rows no_rows (λ g q a p b. refl) RowStep TupleRows rows_first rows_later

abbrev pub RowsRead : Draft → List Token → Draft → ⊤ → List Token → Type 0
RowsRead = StepsRead (λ g. g.read.texts) rows_of put_rows no_rows (λ g q a p b. refl) RowStep TupleRows rows_first rows_later

row_of : (g : Draft) (ts : List Token) (s : Draft) (vs us rest : List Token) → s ≡ put_values g s.read.texts s.values → Behind g.values g.read.texts us s.read.texts s.values
    → ts ≡ (open_sign ∷ (us ++ close_sign ∷ [])) ++ rest → RowRead g ts (record s { ends = s.ends ++ length s.values ∷ [] }) tt rest
row_of g ts s vs us rest same h p =
    record {
      same = ap {A = Draft} (λ v. record v { ends = v.ends ++ length s.values ∷ [] }) same ∙ ends_so s g same;
      front = open_sign ∷ (us ++ close_sign ∷ []);
      parts = p;
      reads = subst (λ e. RowStep g.read.texts (rows_of g) (open_sign ∷ (us ++ close_sign ∷ [])) s.read.texts (record { values = s.values; ends = e ++ length s.values ∷ [] }))
          (sym (ap {A = Draft} (λ v. v.ends) same)) (step_of g us s.read.texts s.values h);
    }
  where
    step_of : (g : Draft) (us : List Token) (y : List ℕ) (ws : List Literal) → Behind g.values g.read.texts us y ws
        → RowStep g.read.texts (rows_of g) (open_sign ∷ (us ++ close_sign ∷ [])) y (record { values = ws; ends = g.ends ++ length ws ∷ [] })
    step_of g us y ws (behind_them vs f) = one_row us y vs f

    ends_so : (s g : Draft) → s ≡ put_values g s.read.texts s.values
        → put_rows g s.read.texts (record { values = s.values; ends = g.ends ++ length s.values ∷ [] })
        ≡ put_rows g s.read.texts (record { values = s.values; ends = s.ends ++ length s.values ∷ [] })
    ends_so s g e = ap (λ l. put_rows g s.read.texts (record { values = s.values; ends = l ++ length s.values ∷ [] })) (sym (ap {A = Draft} (λ v. v.ends) e))

row_read : (g : Draft) (ts : List Token) → OnAnswer (r.row all_kept g ts) (RowRead g ts)
row_read g ts =
    let us : List Token = behind ts in
    let P : Draft → ⊤ → List Token → Type 0 = ConstantsRead g.values g us in
    on_after (RowRead g ts) open_sign ts (λ us. and_then (closed (commas (r.constant all_kept) g us)) (r.end_row all_kept))
    (λ e. on_then (Closed P) (RowRead g ts) (closed (commas (r.constant all_kept) g us)) (r.end_row all_kept)
    (on_closed P (commas (r.constant all_kept) g us)
    (commas_read (λ g. g.read.texts) (λ g. g.values) put_values g.values (λ g q a p b. refl) ConstantStep (Behind g.values) (constants_first g.values) (constants_later g.values)
    (r.constant all_kept) (constant_read g.values) g us refl))
    (λ s x rest c. row_of g ts s us c.holds.front rest c.holds.same c.holds.reads
    (put_first (c.holds.front ++ close_sign ∷ []) rest e (joined c.holds.front [] rest c.holds.parts c.parts refl))))

pub rows_read : (g : Draft) (ts : List Token) → rows_of g ≡ no_rows → OnAnswer (commas (r.row all_kept) g ts) (RowsRead g ts)
rows_read = commas_read (λ g. g.read.texts) rows_of put_rows no_rows (λ g q a p b. refl) RowStep TupleRows rows_first rows_later (r.row all_kept) row_read

-- lists of names, of new columns
pub data Nothing : Type 0 where
  nothing : Nothing

abbrev pub put_names : Draft → Nothing → List (List ℕ) → Draft
put_names g q cs = record g { names = cs }

pub data NameStep (q : Nothing) (cs : List (List ℕ)) : List Token → Nothing → List (List ℕ) → Type 0 where
  one_name : (c : List ℕ) (p : Nothing) → IsName c → NameStep q cs (Word c ∷ []) p (cs ++ c ∷ [])

abbrev pub NameSteps : Nothing → List Token → Nothing → List (List ℕ) → Type 0
NameSteps q ts p cs = Names ts cs

pub names_first : (q : Nothing) (ts : List Token) (p : Nothing) (b : List (List ℕ)) → NameStep q [] ts p b → NameSteps q ts p b
names_first q ts p b (one_name c o i) = one c i

pub names_later : (q : Nothing) (ts : List Token) (p : Nothing) (a : List (List ℕ)) (us : List Token) (o : Nothing) (b : List (List ℕ)) → NameSteps q ts p a → NameStep p a us o b
    → NameSteps q (ts ++ comma ∷ us) o b
names_later q ts p a us o b f (one_name c z i) = more c i f

abbrev pub NameRead : Draft → List Token → Draft → ⊤ → List Token → Type 0
NameRead = StepRead (λ g. nothing) (λ g. g.names) put_names [] (λ g q a p b. refl) NameStep NameSteps names_first names_later

abbrev pub NamesRead : Draft → List Token → Draft → ⊤ → List Token → Type 0
NamesRead = StepsRead (λ g. nothing) (λ g. g.names) put_names [] (λ g q a p b. refl) NameStep NameSteps names_first names_later

name_item_read : (g : Draft) (ts : List Token) → OnAnswer (r.name_item all_kept g ts) (NameRead g ts)
name_item_read g ts =
    on_then (Named g ts) (NameRead g ts) (d.name g ts) (r.listed_name all_kept) (name_read g ts)
    (λ s c us h. subst {A = Draft} (λ v. NameRead g ts (record v { names = v.names ++ c ∷ [] }) tt us) (sym h.same) (record {
      same = refl;
      front = Word c ∷ [];
      parts = h.parts;
      reads = one_name c nothing h.name;
    }))

names_read : (g : Draft) (ts : List Token) → g.names ≡ [] → OnAnswer (commas (r.name_item all_kept) g ts) (NamesRead g ts)
names_read = commas_read (λ g. nothing) (λ g. g.names) put_names [] (λ g q a p b. refl) NameStep NameSteps names_first names_later (r.name_item all_kept) name_item_read

-- a list of names in parentheses
pub record NameListRead (g : Draft) (ts : List Token) (s : Draft) (x : ⊤) (rest : List Token) : Type 0 where
  pub same : s ≡ put_names g nothing s.names
  pub front : List Token
  pub parts : ts ≡ (open_sign ∷ (front ++ close_sign ∷ [])) ++ rest
  pub reads : Names front s.names

pub name_list_read : (g : Draft) (ts : List Token) → g.names ≡ [] → ts ≡ open_sign ∷ behind ts → OnAnswer (closed (commas (r.name_item all_kept) g (behind ts))) (NameListRead g ts)
name_list_read g ts empty e =
    let us : List Token = behind ts in
    on_each (Closed (NamesRead g us)) (NameListRead g ts) (closed (commas (r.name_item all_kept) g us))
    (on_closed (NamesRead g us) (commas (r.name_item all_kept) g us) (names_read g us empty))
    (λ s x rest c. record {
      same = c.holds.same;
      front = c.holds.front;
      parts = put_first (c.holds.front ++ close_sign ∷ []) rest e (joined c.holds.front [] rest c.holds.parts c.parts refl);
      reads = c.holds.reads;
    })

pub record ListedRead (g : Draft) (ts : List Token) (s : Draft) (x : ⊤) (rest : List Token) : Type 0 where
  pub same : s ≡ put_names g nothing s.names
  pub front : List Token
  pub parts : ts ≡ front ++ rest
  pub reads : Listed front s.names

pub listed_read : (g : Draft) (ts : List Token) → g.names ≡ [] → OnAnswer (r.listed all_kept g ts) (ListedRead g ts)
listed_read g ts empty =
    on_eats (λ a. OnAnswer a (ListedRead g ts)) open_sign ts _ _
    (λ e. on_each (NameListRead g ts) (ListedRead g ts) (closed (commas (r.name_item all_kept) g (behind ts))) (name_list_read g ts empty e)
    (λ s x rest c. record { same = c.same; front = open_sign ∷ (c.front ++ close_sign ∷ []); parts = c.parts; reads = given c.reads }))
    (record { same = refl; front = []; parts = refl; reads = subst (λ l. Listed [] l) (sym empty) left_out })

-- new columns
pub record TypeRead (g : Draft) (ts : List Token) (s : Draft) (ty : SqlType) (rest : List Token) : Type 0 where
  pub same : s ≡ g
  pub front : List Token
  pub parts : ts ≡ front ++ rest
  pub reads : IsType front ty

type_read : (g : Draft) (ts : List Token) → OnAnswer (r.type_of g ts) (TypeRead g ts)
type_read g ts =
    let Q : Answer Draft SqlType → Type 0 = λ a. OnAnswer a (TypeRead g ts) in
    on_eats Q (d.key (codes "integer")) ts _ _ (λ e. record { same = refl; front = d.key (codes "integer") ∷ []; parts = e; reads = integer })
    (on_eats Q (d.key (codes "int")) ts _ _ (λ e. record { same = refl; front = d.key (codes "int") ∷ []; parts = e; reads = int })
    (on_after (TypeRead g ts) (d.key (codes "varchar")) ts (λ us. after open_sign us (λ vs. and_then (r.number g vs) r.varchar))
    (λ e. on_after (TypeRead g ts) open_sign (behind ts) (λ vs. and_then (r.number g vs) r.varchar)
    (λ l. on_then (NumberRead g (behind (behind ts))) (TypeRead g ts) (r.number g (behind (behind ts))) r.varchar (number_read g (behind (behind ts)))
    (λ s n us h. on_after (TypeRead g ts) close_sign us (λ vs. got s (Varchar n) vs)
    (λ c. record {
      same = h.same;
      front = d.key (codes "varchar") ∷ open_sign ∷ Digits h.digits ∷ close_sign ∷ [];
      parts = e ∙ ap (λ y. d.key (codes "varchar") ∷ y) (l ∙ ap (λ y. open_sign ∷ y) (h.parts ∙ ap (λ y. Digits h.digits ∷ y) c));
      reads = subst (λ i. IsType (d.key (codes "varchar") ∷ open_sign ∷ Digits h.digits ∷ close_sign ∷ []) (Varchar i)) (sym h.is) (varchar h.digits);
    }))))))

pub record FlagsRead (g : Draft) (ts : List Token) (s : Draft) (f : r.Flags) (rest : List Token) : Type 0 where
  pub same : s ≡ g
  pub front : List Token
  pub parts : ts ≡ front ++ rest
  pub reads : Constraints front f.not_null f.primary f.unique

constraints_step : (g : Draft) (ts : List Token) (s : Draft) (f : r.Flags) (us : List Token) → FlagsRead g ts s f us → OnTurn (r.constraints_turn s f us) (FlagsRead g ts)
constraints_step g ts s f us h =
    let Q : Turn Draft r.Flags → Type 0 = λ a. OnTurn a (FlagsRead g ts) in
    let A : Answer Draft r.Flags → Type 0 = λ a. OnAnswer a (FlagsRead g ts) in
    on_eats Q (d.key (codes "not")) us _ _
    (λ e. on_if A f.not_null _ _ (λ x. tt)
    (λ x. on_after (FlagsRead g ts) (d.key (codes "null")) (behind us) (λ vs. got s (r.flags true f.primary f.unique) vs)
    (λ l. record {
      same = h.same;
      front = h.front ++ d.key (codes "not") ∷ d.key (codes "null") ∷ [];
      parts = joined h.front (d.key (codes "null") ∷ []) (behind (behind us)) h.parts e l;
      reads = not_null (subst (λ b. Constraints h.front b f.primary f.unique) x h.reads);
    })))
    (on_eats Q (d.key (codes "primary")) us _ _
    (λ e. on_if A f.primary _ _ (λ x. tt)
    (λ x. on_after (FlagsRead g ts) (d.key (codes "key")) (behind us) (λ vs. got s (r.flags f.not_null true f.unique) vs)
    (λ l. record {
      same = h.same;
      front = h.front ++ d.key (codes "primary") ∷ d.key (codes "key") ∷ [];
      parts = joined h.front (d.key (codes "key") ∷ []) (behind (behind us)) h.parts e l;
      reads = primary_key (subst (λ b. Constraints h.front f.not_null b f.unique) x h.reads);
    })))
    (on_eats Q (d.key (codes "unique")) us _ _
    (λ e. on_if A f.unique _ _ (λ x. tt)
    (λ x. record {
      same = h.same;
      front = h.front ++ d.key (codes "unique") ∷ [];
      parts = joined h.front [] (behind us) h.parts e refl;
      reads = unique (subst (λ b. Constraints h.front f.not_null f.primary b) x h.reads);
    })) tt))

constraints_read : (g : Draft) (ts : List Token) → OnAnswer (r.constraints g ts) (FlagsRead g ts)
constraints_read g ts =
    on_chain (FlagsRead g ts) r.constraints_turn (constraints_step g ts) g (r.flags false false false) ts (record { same = refl; front = []; parts = refl; reads = none })

abbrev pub put_columns : Draft → Nothing → List NewColumn → Draft
put_columns g q cs = record g { columns = cs }

abbrev pub IsOneColumn : Nothing → List Token → Nothing → NewColumn → Type 0
IsOneColumn q ts p c = IsNewColumn ts c

abbrev pub ColumnStep : Nothing → List NewColumn → List Token → Nothing → List NewColumn → Type 0
ColumnStep q os ts s ps = Appends IsOneColumn q os ts s ps

abbrev pub ColumnSteps : Nothing → List Token → Nothing → List NewColumn → Type 0
ColumnSteps q ts p cs = NewColumns ts cs

pub columns_first : (q : Nothing) (ts : List Token) (p : Nothing) (b : List NewColumn) → ColumnStep q [] ts p b → ColumnSteps q ts p b
columns_first q ts p b (appended v h) = one h

pub columns_later : (q : Nothing) (ts : List Token) (p : Nothing) (a : List NewColumn) (us : List Token) (o : Nothing) (b : List NewColumn) → ColumnSteps q ts p a → ColumnStep p a us o b
    → ColumnSteps q (ts ++ comma ∷ us) o b
columns_later q ts p a us o b f (appended v h) = more f h

abbrev pub NewColumnRead : Draft → List Token → Draft → ⊤ → List Token → Type 0
NewColumnRead = StepRead (λ g. nothing) (λ g. g.columns) put_columns [] (λ g q a p b. refl) ColumnStep ColumnSteps columns_first columns_later

abbrev pub NewColumnsRead : Draft → List Token → Draft → ⊤ → List Token → Type 0
NewColumnsRead = StepsRead (λ g. nothing) (λ g. g.columns) put_columns [] (λ g q a p b. refl) ColumnStep ColumnSteps columns_first columns_later

new_column_read : (g : Draft) (ts : List Token) → OnAnswer (r.new_column all_kept g ts) (NewColumnRead g ts)
new_column_read g ts =
    on_then (Named g ts) (NewColumnRead g ts) (d.name g ts) (r.named_column all_kept) (name_read g ts)
    (λ s c us h. on_then (TypeRead s us) (NewColumnRead g ts) (r.type_of s us) (r.typed all_kept c) (type_read s us)
    (λ t ty vs m. on_then (FlagsRead t vs) (NewColumnRead g ts) (r.constraints t vs) (r.constrained all_kept c ty) (constraints_read t vs)
    (λ u f ws n. let k : NewColumn = r.new_column_of c ty f in
    subst {A = Draft} (λ v. NewColumnRead g ts (record v { columns = v.columns ++ k ∷ [] }) tt ws) (sym (n.same ∙ m.same ∙ h.same)) (record {
      same = refl;
      front = Word c ∷ (m.front ++ n.front);
      parts = put_first (m.front ++ n.front) ws h.parts (put_behind m.front n.front ws m.parts n.parts);
      reads = appended k (column c h.name m.reads n.reads);
    }))))

pub new_columns_read : (g : Draft) (ts : List Token) → g.columns ≡ [] → OnAnswer (commas (r.new_column all_kept) g ts) (NewColumnsRead g ts)
new_columns_read = commas_read (λ g. nothing) (λ g. g.columns) put_columns [] (λ g q a p b. refl) ColumnStep ColumnSteps columns_first columns_later (r.new_column all_kept) new_column_read

-- what UPDATE sets
abbrev pub put_sets : Draft → ReadSoFar → List (List ℕ × ℕ) → Draft
put_sets g q xs = record g { read = q; sets = xs }

pub data IsSet (q : ReadSoFar) : List Token → ReadSoFar → List ℕ × ℕ → Type 0 where
  sets_name : (c : List ℕ) (ts : List Token) (s : ReadSoFar) (n : ℕ) → IsName c → Whole q ts s n → IsSet q (Word c ∷ equals ∷ ts) s (c, n)

abbrev pub SetStep : ReadSoFar → List (List ℕ × ℕ) → List Token → ReadSoFar → List (List ℕ × ℕ) → Type 0
SetStep q os ts s ps = Appends IsSet q os ts s ps

set_one : {q : ReadSoFar} {ts : List Token} {s : ReadSoFar} {v : List ℕ × ℕ} → IsSet q ts s v → Sets q ts s (v ∷ [])
set_one (sets_name c ts s n i e) = one c i e

set_more : {q : ReadSoFar} {ts : List Token} {s : ReadSoFar} {xs : List (List ℕ × ℕ)} {us : List Token} {t : ReadSoFar} {v : List ℕ × ℕ} → Sets q ts s xs → IsSet s us t v
    → Sets q (ts ++ comma ∷ us) t (xs ++ v ∷ [])
set_more f (sets_name c ts s n i e) = more c f i e

pub sets_first : (q : ReadSoFar) (ts : List Token) (p : ReadSoFar) (b : List (List ℕ × ℕ)) → SetStep q [] ts p b → Sets q ts p b
sets_first q ts p b (appended v h) = set_one h

pub sets_later : (q : ReadSoFar) (ts : List Token) (p : ReadSoFar) (a : List (List ℕ × ℕ)) (us : List Token) (o : ReadSoFar) (b : List (List ℕ × ℕ))
    → Sets q ts p a → SetStep p a us o b → Sets q (ts ++ comma ∷ us) o b
sets_later q ts p a us o b f (appended v h) = set_more f h

abbrev pub SetRead : Draft → List Token → Draft → ⊤ → List Token → Type 0
SetRead = StepRead (λ g. g.read) (λ g. g.sets) put_sets [] (λ g q a p b. refl) SetStep Sets sets_first sets_later

abbrev pub SetsRead : Draft → List Token → Draft → ⊤ → List Token → Type 0
SetsRead = StepsRead (λ g. g.read) (λ g. g.sets) put_sets [] (λ g q a p b. refl) SetStep Sets sets_first sets_later

set_item_read : (g : Draft) (ts : List Token) → OnAnswer (r.set_item all_kept g ts) (SetRead g ts)
set_item_read g ts =
    on_then (Named g ts) (SetRead g ts) (d.name g ts) (r.set_target all_kept) (name_read g ts)
    (λ s c us h. on_after (SetRead g ts) equals us (λ vs. and_then (d.whole all_kept s vs) (r.set_to all_kept c))
    (λ e. subst {A = Draft} (λ v. OnAnswer (and_then (d.whole all_kept v (behind us)) (r.set_to all_kept c)) (SetRead g ts)) (sym h.same)
    (on_then (ReadBy Or 32 g (behind us)) (SetRead g ts) (d.whole all_kept g (behind us)) (r.set_to all_kept c) (whole_read g (behind us))
    (λ t n vs m. let x : List ℕ × ℕ = (c, n) in record {
      same = ap {A = Draft} (λ v. record v { sets = t.sets ++ x ∷ [] }) m.same;
      front = Word c ∷ equals ∷ m.front;
      parts = put_first (equals ∷ m.front) vs h.parts (put_first m.front vs e m.parts);
      reads = append_at IsSet g.read g.sets t.sets (Word c ∷ equals ∷ m.front) t.read x (ap {A = Draft} (λ y. y.sets) m.same) (sets_name c m.front t.read n h.name m.reads);
    }))))

pub sets_read : (g : Draft) (ts : List Token) → g.sets ≡ [] → OnAnswer (commas (r.set_item all_kept) g ts) (SetsRead g ts)
sets_read = commas_read (λ g. g.read) (λ g. g.sets) put_sets [] (λ g q a p b. refl) SetStep Sets sets_first sets_later (r.set_item all_kept) set_item_read
