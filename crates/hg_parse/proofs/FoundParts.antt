-- Each part of a statement is found.
use Rattle.std.proofs.Common.{◌≡◌, ℕ, suc, Bool, true, false, not, List, [], ◌∷◌, ◌++◌, Option, None, length, refl, ap, ◌∙◌, append_assoc, length-append}
use Rattle.std.specs.Prelude.{codes, ⊤, nat_eq}
use Rattle.std.proofs.lemmas.Bool.{eq-eqb, and_from}
use Rattle.hg_model.specs.Grammar.{Read, with_node, next, IsName, open_sign, close_sign, comma, dot, equals, IsColumn, bare, dotted, Whole, Clause, left_out, given, IsOutput, plain, named, Outputs, one, more, IsRef, own, alias, alias_as, Tables, by_comma, by_cross, by_join, by_inner, GroupColumns, Group, Direction, ascending, descending, IsKey, position, column, Keys, Order, IsConstant, positive, negative, text, null, Constants, Tuples, Names, Listed, IsType, integer, int, varchar, Constraints, none, not_null, primary_key, unique, IsNewColumn, NewColumns, Sets}
use Rattle.hg_model.specs.Tables.{same_name}
use Rattle.hg_model.specs.Tokens.{Token, Word, is_reserved, number_of}
use Rattle.hg_model.specs.declared.trees.ColRef.{ColRef}
use Rattle.hg_model.specs.declared.trees.FromTable.{FromTable}
use Rattle.hg_model.specs.declared.trees.Literal.{Literal}
use Rattle.hg_model.specs.declared.trees.NewColumn.{NewColumn}
use Rattle.hg_model.specs.declared.trees.Node.TheVariants as node
use Rattle.hg_model.specs.declared.trees.OrderBy.TheVariants.{Position, Column as ByColumn}
use Rattle.hg_model.specs.declared.trees.OrderKey.{OrderKey}
use Rattle.hg_model.specs.declared.trees.Output.{Output}
use Rattle.hg_model.specs.declared.trees.SqlType.{SqlType}
use Rattle.hg_parse.specs.Building.{Draft, plain as all_kept}
use Rattle.hg_parse.specs.Descent as d
use Rattle.hg_parse.specs.Follow.{AfterOr}
use Rattle.hg_parse.specs.Rules as r
use Rattle.hg_parse.specs.Steps.{Answer, got, and_then, eats, closed, Go, chain, commas, comma_turn}
use Rattle.hg_parse.proofs.Begins.{apart}
use Rattle.hg_parse.proofs.Chains.{chain_stop, one_more}
use Rattle.hg_parse.proofs.Found.{at, found, or_got, if_stop, if_go, follow_comma}
use Rattle.hg_parse.proofs.Following.{or_as, or_cross, or_join, or_inner, AfterRef, ref_on, ref_cross, ref_join, ref_inner, ref_comma}

pub same_self : (w : List ℕ) → same_name w w ≡ true
same_self [] = refl
same_self (b ∷ bs) = and_from (nat_eq b b) (same_name bs bs) (eq-eqb b b refl) (same_self bs)

inside_more : (k : ℕ) (g : Draft) (ts : List Token) → d.inside all_kept (suc k) g ts ≡ d.disjunction all_kept k (d.inside all_kept k) g ts
unfolding d.inside
inside_more k g ts = refl

-- an expression with no parenthesis open
pub whole_got : {q : Read} {ts : List Token} {s : Read} {n : ℕ} → Whole q ts s n → (g : Draft) (rest : List Token) → AfterOr rest
    → d.whole all_kept (at g q) (ts ++ rest) ≡ got (at g s) n rest
whole_got {q} {ts} {s} {n} e g rest h = inside_more 32 (at g q) (ts ++ rest) ∙ or_got 32 g q ts s n rest (found e) h

-- items with commas
module _ {S : Type 0} (item : S → List Token → Answer S ⊤) where
  pub commas_one : (s : S) (ts : List Token) (t : S) (rest : List Token) → item s ts ≡ got t tt rest → commas item s ts ≡ chain (comma_turn item) t tt rest
  commas_one s ts t rest e = ap (λ a. and_then a (λ t x us. chain (comma_turn item) t x us)) e

  pub commas_more : (s : S) (ts us rest : List Token) (t u : S) → commas item s (ts ++ comma ∷ (us ++ rest)) ≡ chain (comma_turn item) t tt (comma ∷ (us ++ rest))
      → item t (us ++ rest) ≡ got u tt rest → commas item s ((ts ++ comma ∷ us) ++ rest) ≡ chain (comma_turn item) u tt rest
  commas_more s ts us rest t u f e = one_more (comma_turn item) (commas item s) ts us rest comma t tt u tt f (ap Go e)

  pub commas_stop : (s : S) (rest : List Token) → eats comma rest ≡ false → chain (comma_turn item) s tt rest ≡ got s tt rest
  commas_stop s rest h = chain_stop (comma_turn item) s tt rest (if_stop _ _ _ h)

as_is_reserved : is_reserved (codes "as") ≡ true
unfolding is_reserved
as_is_reserved = refl

-- names and columns
module _ {S : Type 0} where
  pub name_got : (s : S) (c : List ℕ) (ts : List Token) → IsName c → d.name s (Word c ∷ ts) ≡ got s c ts
  name_got s c ts h = if_stop (is_reserved c) None (got s c ts) h

  pub column_got : {ts : List Token} {c : ColRef} → IsColumn ts c → (s : S) (rest : List Token) → eats dot rest ≡ false → d.column s (ts ++ rest) ≡ got s c rest
  column_got (bare c i) s rest h = ap (λ a. and_then a d.column_of) (name_got s c rest i) ∙ if_stop (eats dot rest) _ (got s (d.named c) rest) h
  column_got (dotted t c i j) s rest h =
      ap (λ a. and_then a d.column_of) (name_got s t (dot ∷ Word c ∷ rest) i)
      ∙ ap (λ a. and_then a (λ s x us. got s (d.named_of t x) us)) (name_got s c rest j)

  -- ref
  pub ref_got : {ts : List Token} {t a : List ℕ} → IsRef ts t a → (s : S) (rest : List Token) → AfterRef rest → r.ref s (ts ++ rest) ≡ got s (r.from_table t a) rest
  ref_got (own t i) s rest h = ap (λ a. and_then a r.alias) (name_got s t rest i) ∙ if_stop (eats (d.key (codes "as")) rest) _ _ h.no_as ∙ if_stop (r.begins_name rest) _ _ h.no_name
  ref_got (alias t a i j) s rest h =
      ap (λ x. and_then x r.alias) (name_got s t (Word a ∷ rest) i)
      ∙ if_stop (same_name (codes "as") a) _ _ (apart (codes "as") a as_is_reserved j)
      ∙ if_go (not (is_reserved a)) _ _ (ap not j)
      ∙ ap (λ x. and_then x (r.aliased t)) (name_got s a rest j)
  ref_got (alias_as t a i j) s rest h =
      ap (λ x. and_then x r.alias) (name_got s t (Word (codes "as") ∷ Word a ∷ rest) i) ∙ ap (λ x. and_then x (r.aliased t)) (name_got s a rest j)

  -- [ASC | DESC]
  pub direction_got : {ts : List Token} {x : Bool} → Direction ts x → (s : S) (rest : List Token) → eats (d.key (codes "asc")) rest ≡ false
      → eats (d.key (codes "desc")) rest ≡ false → r.direction s (ts ++ rest) ≡ got s x rest
  direction_got left_out s rest h l = if_stop (eats (d.key (codes "asc")) rest) _ _ h ∙ if_stop (eats (d.key (codes "desc")) rest) _ _ l
  direction_got ascending s rest h l = refl
  direction_got descending s rest h l = refl

  -- type and constraints
  pub type_got : {ts : List Token} {ty : SqlType} → IsType ts ty → (s : S) (rest : List Token) → r.type_of s (ts ++ rest) ≡ got s ty rest
  type_got integer s rest = refl
  type_got int s rest = refl
  type_got (varchar ds) s rest = refl

  constraints_more : (s : S) (ts us rest : List Token) (op : Token) (f h : r.Flags) → r.constraints s (ts ++ op ∷ (us ++ rest)) ≡ chain r.constraints_turn s f (op ∷ (us ++ rest))
      → r.constraints_turn s f (op ∷ (us ++ rest)) ≡ Go (got s h rest) → r.constraints s ((ts ++ op ∷ us) ++ rest) ≡ chain r.constraints_turn s h rest
  constraints_more s ts us rest op f h before e = one_more r.constraints_turn (r.constraints s) ts us rest op s f s h before e

  pub constraints_got : {ts : List Token} {n p u : Bool} → Constraints ts n p u → (s : S) (rest : List Token)
      → r.constraints s (ts ++ rest) ≡ chain r.constraints_turn s (r.flags n p u) rest
  constraints_got none s rest = refl
  constraints_got (not_null {ts} {p} {u} c) s rest =
      constraints_more s ts (d.key (codes "null") ∷ []) rest (d.key (codes "not")) (r.flags false p u) (r.flags true p u) (constraints_got c s _) refl
  constraints_got (primary_key {ts} {n} {u} c) s rest =
      constraints_more s ts (d.key (codes "key") ∷ []) rest (d.key (codes "primary")) (r.flags n false u) (r.flags n true u) (constraints_got c s _) refl
  constraints_got (unique {ts} {n} {p} c) s rest = constraints_more s ts [] rest (d.key (codes "unique")) (r.flags n p false) (r.flags n p true) (constraints_got c s _) refl

-- [WORD or]
pub clause_got : {w : List ℕ} {q : Read} {ts : List Token} {s : Read} {f : Option ℕ} → Clause w q ts s f → (g : Draft) (rest : List Token) → AfterOr rest
    → eats (d.key w) rest ≡ false → r.clause all_kept w (at g q) (ts ++ rest) ≡ got (at g s) f rest
clause_got left_out g rest h l = if_stop _ _ _ l
clause_got {w} (given {ts} e) g rest h l =
    if_go (same_name w w) _ _ (same_self w) ∙ ap (λ a. and_then a (r.given all_kept)) (whole_got e g rest h)

-- outputs
abbrev pub with_outputs : Draft → Read → List Output → Draft
with_outputs g q os = record g { read = q; outputs = os }

pub output_got : {q : Read} {ts : List Token} {s : Read} {o : Output} → IsOutput q ts s o → (g : Draft) (os : List Output) (rest : List Token) → AfterOr rest
    → eats (d.key (codes "as")) rest ≡ false → r.output all_kept (with_outputs g q os) (ts ++ rest) ≡ got (with_outputs g s (os ++ o ∷ [])) tt rest
output_got (plain e) g os rest h l = ap (λ a. and_then a (r.output_name all_kept)) (whole_got e (record g { outputs = os }) rest h) ∙ if_stop _ _ _ l
output_got (named {r = q} {s} {ts} {n} c i e) g os rest h l =
    ap (r.output all_kept (with_outputs g q os)) (append_assoc ts (d.key (codes "as") ∷ Word c ∷ []) rest)
    ∙ ap (λ a. and_then a (r.output_name all_kept)) (whole_got e (record g { outputs = os }) (d.key (codes "as") ∷ Word c ∷ rest) (or_as (Word c ∷ rest)))
    ∙ ap (λ a. and_then a (r.named_output all_kept n)) (name_got (with_outputs g s os) c rest i)

pub outputs_got : {q : Read} {ts : List Token} {s : Read} {os : List Output} → Outputs q ts s os → (g : Draft) (rest : List Token) → AfterOr rest
    → eats (d.key (codes "as")) rest ≡ false
    → commas (r.output all_kept) (with_outputs g q []) (ts ++ rest) ≡ chain (comma_turn (r.output all_kept)) (with_outputs g s os) tt rest
outputs_got (one {r = q} {s} {ts} {o} e) g rest h l = commas_one (r.output all_kept) (with_outputs g q []) (ts ++ rest) (with_outputs g s (o ∷ [])) rest (output_got e g [] rest h l)
outputs_got (more {r = q} {s} {t} {ts} {us} {o} {os} f e) g rest h l =
    commas_more (r.output all_kept) (with_outputs g q []) ts us rest (with_outputs g s os) (with_outputs g t (os ++ o ∷ []))
    (outputs_got f g (comma ∷ (us ++ rest)) (follow_comma _) refl) (output_got e g os rest h l)

-- tables
abbrev pub with_tables : Draft → Read → List FromTable → Draft
with_tables g q fs = record g { read = q; tables = fs }

plain_got : {ts : List Token} {t a : List ℕ} → IsRef ts t a → (g : Draft) (rest : List Token) → AfterRef rest
    → r.plain_table all_kept g (ts ++ rest) ≡ got (record g { tables = g.tables ++ r.from_table t a ∷ [] }) tt rest
plain_got e g rest h = ap (λ x. and_then x (r.listed_table all_kept)) (ref_got e g rest h)

joined_got : {us : List Token} {t a : List ℕ} {s : Read} {vs : List Token} {u : Read} {n : ℕ} → IsRef us t a → Whole s vs u n → (g : Draft) (rest : List Token) → AfterOr rest
    → r.joined all_kept (at g s) ((us ++ d.key (codes "on") ∷ vs) ++ rest) ≡ got (at (record g { tables = g.tables ++ r.joined_table (r.from_table t a) n ∷ [] }) u) tt rest
joined_got {us} {t} {a} {s} {vs} {u} {n} f e g rest h =
    ap (r.joined all_kept (at g s)) (append_assoc us (d.key (codes "on") ∷ vs) rest)
    ∙ ap (λ x. and_then x (r.on_clause all_kept)) (ref_got f (at g s) (d.key (codes "on") ∷ (vs ++ rest)) (ref_on _))
    ∙ ap (λ x. and_then x (r.join_on all_kept (r.from_table t a))) (whole_got e g rest h)

pub tables_got : {q : Read} {ts : List Token} {s : Read} {fs : List FromTable} → Tables q ts s fs → (g : Draft) (rest : List Token) → AfterOr rest → AfterRef rest
    → r.tables all_kept (with_tables g q []) (ts ++ rest) ≡ chain (r.tables_turn all_kept) (with_tables g s fs) tt rest
tables_got (one {r = q} {ts} {t} {a} e) g rest h l = ap (λ x. and_then x (λ t x us. chain (r.tables_turn all_kept) t x us)) (plain_got e (with_tables g q []) rest l)
tables_got (by_comma {r = q} {s} {ts} {us} {fs} {t} {a} f e) g rest h l =
    one_more (r.tables_turn all_kept) (r.tables all_kept (with_tables g q [])) ts us rest comma (with_tables g s fs) tt (with_tables g s (fs ++ r.from_table t a ∷ [])) tt
    (tables_got f g (comma ∷ (us ++ rest)) (follow_comma _) (ref_comma _)) (ap Go (plain_got e (with_tables g s fs) rest l))
tables_got (by_cross {r = q} {s} {ts} {us} {fs} {t} {a} f e) g rest h l =
    one_more (r.tables_turn all_kept) (r.tables all_kept (with_tables g q [])) ts (d.key (codes "join") ∷ us) rest (d.key (codes "cross")) (with_tables g s fs) tt (with_tables g s (fs ++ r.from_table t a ∷ [])) tt
    (tables_got f g (d.key (codes "cross") ∷ d.key (codes "join") ∷ (us ++ rest)) (or_cross _) (ref_cross _)) (ap Go (plain_got e (with_tables g s fs) rest l))
tables_got (by_join {r = q} {s} {u} {ts} {us} {vs} {fs} {t} {a} {n} f e w) g rest h l =
    one_more (r.tables_turn all_kept) (r.tables all_kept (with_tables g q [])) ts (us ++ d.key (codes "on") ∷ vs) rest (d.key (codes "join")) (with_tables g s fs) tt (with_tables g u (fs ++ r.joined_table (r.from_table t a) n ∷ [])) tt
    (tables_got f g (d.key (codes "join") ∷ ((us ++ d.key (codes "on") ∷ vs) ++ rest)) (or_join _) (ref_join _)) (ap Go (joined_got e w (with_tables g s fs) rest h))
tables_got (by_inner {r = q} {s} {u} {ts} {us} {vs} {fs} {t} {a} {n} f e w) g rest h l =
    one_more (r.tables_turn all_kept) (r.tables all_kept (with_tables g q [])) ts (d.key (codes "join") ∷ (us ++ d.key (codes "on") ∷ vs)) rest (d.key (codes "inner")) (with_tables g s fs) tt (with_tables g u (fs ++ r.joined_table (r.from_table t a) n ∷ [])) tt
    (tables_got f g (d.key (codes "inner") ∷ d.key (codes "join") ∷ ((us ++ d.key (codes "on") ∷ vs) ++ rest)) (or_inner _) (ref_inner _)) (ap Go (joined_got e w (with_tables g s fs) rest h))

-- grouping columns
abbrev pub with_group : Draft → Read → List ℕ → Draft
with_group g q ns = record g { read = q; group = ns }

group_column_got : {ts : List Token} {c : ColRef} → IsColumn ts c → (g : Draft) (q : Read) (ns : List ℕ) (rest : List Token) → eats dot rest ≡ false
    → r.group_column all_kept (with_group g q ns) (ts ++ rest) ≡ got (with_group g (with_node q (node.Col c)) (ns ++ next q ∷ [])) tt rest
group_column_got e g q ns rest h = ap (λ x. and_then x (r.grouped all_kept)) (column_got e (with_group g q ns) rest h)

group_columns_got : {q : Read} {ts : List Token} {s : Read} {ns : List ℕ} → GroupColumns q ts s ns → (g : Draft) (rest : List Token) → eats dot rest ≡ false
    → commas (r.group_column all_kept) (with_group g q []) (ts ++ rest) ≡ chain (comma_turn (r.group_column all_kept)) (with_group g s ns) tt rest
group_columns_got (one {r = q} {ts} {c} e) g rest h =
    commas_one (r.group_column all_kept) (with_group g q []) (ts ++ rest) (with_group g (with_node q (node.Col c)) (next q ∷ [])) rest (group_column_got e g q [] rest h)
group_columns_got (more {r = q} {s} {ts} {us} {ns} {c} f e) g rest h =
    commas_more (r.group_column all_kept) (with_group g q []) ts us rest (with_group g s ns) (with_group g (with_node s (node.Col c)) (ns ++ next s ∷ []))
    (group_columns_got f g (comma ∷ (us ++ rest)) refl) (group_column_got e g s ns rest h)

pub group_got : {q : Read} {ts : List Token} {s : Read} {ns : List ℕ} → Group q ts s ns → (g : Draft) (rest : List Token) → eats dot rest ≡ false → eats comma rest ≡ false
    → eats (d.key (codes "group")) rest ≡ false → r.group all_kept (with_group g q []) (ts ++ rest) ≡ got (with_group g s ns) tt rest
group_got left_out g rest h l m = if_stop _ _ _ m
group_got (given {r = q} {s} {ts} {ns} e) g rest h l m = group_columns_got e g rest h ∙ commas_stop (r.group_column all_kept) (with_group g s ns) rest l

-- keys of ORDER BY
abbrev pub with_order : Draft → Read → List OrderKey → Draft
with_order g q ks = record g { read = q; order = ks }

pub record AfterKey (ts : List Token) : Type 0 where
  pub no_dot : eats dot ts ≡ false
  pub no_asc : eats (d.key (codes "asc")) ts ≡ false
  pub no_desc : eats (d.key (codes "desc")) ts ≡ false

order_key_column : {ts : List Token} {c : ColRef} → IsColumn ts c → (g : Draft) (us : List Token)
    → r.order_key all_kept g (ts ++ us) ≡ and_then (d.column g (ts ++ us)) (r.column_key all_kept)
order_key_column (bare c i) g us = refl
order_key_column (dotted t c i j) g us = refl

direction_no_dot : {ts : List Token} {x : Bool} → Direction ts x → (rest : List Token) → eats dot rest ≡ false → eats dot (ts ++ rest) ≡ false
direction_no_dot left_out rest h = h
direction_no_dot ascending rest h = refl
direction_no_dot descending rest h = refl

order_key_got : {q : Read} {ts : List Token} {s : Read} {k : OrderKey} → IsKey q ts s k → (g : Draft) (ks : List OrderKey) (rest : List Token) → AfterKey rest
    → r.order_key all_kept (with_order g q ks) (ts ++ rest) ≡ got (with_order g s (ks ++ k ∷ [])) tt rest
order_key_got (position {r = q} ds {ts} {d = x} e) g ks rest h =
    ap (λ a. and_then a (r.directed all_kept (Position (number_of ds)))) (direction_got e (with_order g q ks) rest h.no_asc h.no_desc)
order_key_got (column {r = q} {ts} {us} {c} {d = x} e f) g ks rest h =
    ap (r.order_key all_kept (with_order g q ks)) (append_assoc ts us rest)
    ∙ order_key_column e (with_order g q ks) (us ++ rest)
    ∙ ap (λ a. and_then a (r.column_key all_kept)) (column_got e (with_order g q ks) (us ++ rest) (direction_no_dot f rest h.no_dot))
    ∙ ap (λ a. and_then a (r.directed all_kept (ByColumn (next q)))) (direction_got f (with_order g (with_node q (node.Col c)) ks) rest h.no_asc h.no_desc)

key_comma : (ts : List Token) → AfterKey (comma ∷ ts)
key_comma ts = record { no_dot = refl; no_asc = refl; no_desc = refl }

keys_got : {q : Read} {ts : List Token} {s : Read} {ks : List OrderKey} → Keys q ts s ks → (g : Draft) (rest : List Token) → AfterKey rest
    → commas (r.order_key all_kept) (with_order g q []) (ts ++ rest) ≡ chain (comma_turn (r.order_key all_kept)) (with_order g s ks) tt rest
keys_got (one {r = q} {s} {ts} {k} e) g rest h = commas_one (r.order_key all_kept) (with_order g q []) (ts ++ rest) (with_order g s (k ∷ [])) rest (order_key_got e g [] rest h)
keys_got (more {r = q} {s} {t} {ts} {us} {ks} {k} f e) g rest h =
    commas_more (r.order_key all_kept) (with_order g q []) ts us rest (with_order g s ks) (with_order g t (ks ++ k ∷ []))
    (keys_got f g (comma ∷ (us ++ rest)) (key_comma _)) (order_key_got e g ks rest h)

pub order_got : {q : Read} {ts : List Token} {s : Read} {ks : List OrderKey} → Order q ts s ks → (g : Draft) (rest : List Token) → AfterKey rest → eats comma rest ≡ false
    → eats (d.key (codes "order")) rest ≡ false → r.order all_kept (with_order g q []) (ts ++ rest) ≡ got (with_order g s ks) tt rest
order_got left_out g rest h l m = if_stop _ _ _ m
order_got (given {r = q} {s} {ts} {ks} e) g rest h l m = keys_got e g rest h ∙ commas_stop (r.order_key all_kept) (with_order g s ks) rest l

-- constants and rows
abbrev pub with_values : Draft → List ℕ → List Literal → List ℕ → Draft
with_values g x vs es = record g { read = record { nodes = g.read.nodes; texts = x }; values = vs; ends = es }

constant_got : {x : List ℕ} {ts : List Token} {y : List ℕ} {v : Literal} → IsConstant x ts y v → (g : Draft) (vs : List Literal) (es : List ℕ) (rest : List Token)
    → r.constant all_kept (with_values g x vs es) (ts ++ rest) ≡ got (with_values g y (vs ++ v ∷ []) es) tt rest
constant_got (plain ds) g vs es rest = refl
constant_got (positive ds) g vs es rest = refl
constant_got (negative ds) g vs es rest = refl
constant_got (text t) g vs es rest = refl
constant_got null g vs es rest = refl

constants_got : {x : List ℕ} {ts : List Token} {y : List ℕ} {vs : List Literal} → Constants x ts y vs → (g : Draft) (us : List Literal) (es : List ℕ) (rest : List Token)
    → commas (r.constant all_kept) (with_values g x us es) (ts ++ rest) ≡ chain (comma_turn (r.constant all_kept)) (with_values g y (us ++ vs) es) tt rest
constants_got (one {x} {y} {ts} {v} e) g us es rest =
    commas_one (r.constant all_kept) (with_values g x us es) (ts ++ rest) (with_values g y (us ++ v ∷ []) es) rest (constant_got e g us es rest)
constants_got (more {x} {y} {z} {ts} {us = ws} {vs} {v} f e) g us es rest =
    commas_more (r.constant all_kept) (with_values g x us es) ts ws rest (with_values g y (us ++ vs) es) (with_values g z ((us ++ vs) ++ v ∷ []) es)
    (constants_got f g us es (comma ∷ (ws ++ rest))) (constant_got e g (us ++ vs) es rest)
    ∙ ap (λ l. chain (comma_turn (r.constant all_kept)) (with_values g z l es) tt rest) (append_assoc us vs (v ∷ []))

row_got : {x : List ℕ} {ts : List Token} {y : List ℕ} {vs : List Literal} → Constants x ts y vs → (g : Draft) (us : List Literal) (es : List ℕ) (rest : List Token)
    → r.row all_kept (with_values g x us es) (open_sign ∷ ((ts ++ close_sign ∷ []) ++ rest)) ≡ got (with_values g y (us ++ vs) (es ++ length (us ++ vs) ∷ [])) tt rest
row_got {x} {ts} {y} {vs} e g us es rest =
    ap (λ l. and_then (closed (commas (r.constant all_kept) (with_values g x us es) l)) (r.end_row all_kept)) (append_assoc ts (close_sign ∷ []) rest)
    ∙ ap (λ a. and_then (closed a) (r.end_row all_kept))
    (constants_got e g us es (close_sign ∷ rest) ∙ commas_stop (r.constant all_kept) (with_values g y (us ++ vs) es) (close_sign ∷ rest) refl)

pub tuples_got : {x : List ℕ} {ts : List Token} {y : List ℕ} {vs : List Literal} {es : List ℕ} → Tuples x ts y vs es → (g : Draft) (rest : List Token)
    → commas (r.row all_kept) (with_values g x [] []) (ts ++ rest) ≡ chain (comma_turn (r.row all_kept)) (with_values g y vs es) tt rest
tuples_got (one {x} {y} {ts} {vs} e) g rest =
    commas_one (r.row all_kept) (with_values g x [] []) ((open_sign ∷ (ts ++ close_sign ∷ [])) ++ rest) (with_values g y vs (length vs ∷ [])) rest (row_got e g [] [] rest)
tuples_got (more {x} {y} {z} {ts} {us} {vs} {ws} {es} f e) g rest =
    commas_more (r.row all_kept) (with_values g x [] []) ts (open_sign ∷ (us ++ close_sign ∷ [])) rest (with_values g y vs es) (with_values g z (vs ++ ws) (es ++ length (vs ++ ws) ∷ []))
    (tuples_got f g (comma ∷ open_sign ∷ ((us ++ close_sign ∷ []) ++ rest))) (row_got e g vs es rest)
    ∙ ap (λ n. chain (comma_turn (r.row all_kept)) (with_values g z (vs ++ ws) (es ++ n ∷ [])) tt rest) (length-append vs ws)

-- lists of names
abbrev pub with_names : Draft → List (List ℕ) → Draft
with_names g cs = record g { names = cs }

name_item_got : (c : List ℕ) → IsName c → (g : Draft) (cs : List (List ℕ)) (rest : List Token)
    → r.name_item all_kept (with_names g cs) (Word c ∷ rest) ≡ got (with_names g (cs ++ c ∷ [])) tt rest
name_item_got c i g cs rest = ap (λ a. and_then a (r.listed_name all_kept)) (name_got (with_names g cs) c rest i)

names_got : {ts : List Token} {cs : List (List ℕ)} → Names ts cs → (g : Draft) (rest : List Token)
    → commas (r.name_item all_kept) (with_names g []) (ts ++ rest) ≡ chain (comma_turn (r.name_item all_kept)) (with_names g cs) tt rest
names_got (one c i) g rest = commas_one (r.name_item all_kept) (with_names g []) (Word c ∷ rest) (with_names g (c ∷ [])) rest (name_item_got c i g [] rest)
names_got (more {ts} {cs} c i f) g rest =
    commas_more (r.name_item all_kept) (with_names g []) ts (Word c ∷ []) rest (with_names g cs) (with_names g (cs ++ c ∷ []))
    (names_got f g (comma ∷ Word c ∷ rest)) (name_item_got c i g cs rest)

pub name_list_got : {ts : List Token} {cs : List (List ℕ)} → Names ts cs → (g : Draft) (rest : List Token)
    → closed (commas (r.name_item all_kept) (with_names g []) ((ts ++ close_sign ∷ []) ++ rest)) ≡ got (with_names g cs) tt rest
name_list_got {ts} {cs} f g rest =
    ap (λ l. closed (commas (r.name_item all_kept) (with_names g []) l)) (append_assoc ts (close_sign ∷ []) rest)
    ∙ ap closed (names_got f g (close_sign ∷ rest) ∙ commas_stop (r.name_item all_kept) (with_names g cs) (close_sign ∷ rest) refl)

pub listed_got : {ts : List Token} {cs : List (List ℕ)} → Listed ts cs → (g : Draft) (rest : List Token) → eats open_sign rest ≡ false
    → r.listed all_kept (with_names g []) (ts ++ rest) ≡ got (with_names g cs) tt rest
listed_got left_out g rest h = if_stop _ _ _ h
listed_got (given f) g rest h = name_list_got f g rest

-- columns of a new table
abbrev pub with_columns : Draft → List NewColumn → Draft
with_columns g cs = record g { columns = cs }

pub record AfterColumn (ts : List Token) : Type 0 where
  pub no_not : eats (d.key (codes "not")) ts ≡ false
  pub no_primary : eats (d.key (codes "primary")) ts ≡ false
  pub no_unique : eats (d.key (codes "unique")) ts ≡ false

constraints_stop : {S : Type 0} (s : S) (f : r.Flags) (rest : List Token) → AfterColumn rest → chain r.constraints_turn s f rest ≡ got s f rest
constraints_stop s f rest h = chain_stop r.constraints_turn s f rest (if_stop _ _ _ h.no_not ∙ if_stop _ _ _ h.no_primary ∙ if_stop _ _ _ h.no_unique)

new_column_got : {ts : List Token} {c : NewColumn} → IsNewColumn ts c → (g : Draft) (cs : List NewColumn) (rest : List Token) → AfterColumn rest
    → r.new_column all_kept (with_columns g cs) (ts ++ rest) ≡ got (with_columns g (cs ++ c ∷ [])) tt rest
new_column_got (column {ts} {us} {ty} {n} {p} {u} c i e f) g cs rest h =
    ap (λ a. and_then a (r.named_column all_kept)) (name_got (with_columns g cs) c ((ts ++ us) ++ rest) i)
    ∙ ap (r.named_column all_kept (with_columns g cs) c) (append_assoc ts us rest)
    ∙ ap (λ a. and_then a (r.typed all_kept c)) (type_got e (with_columns g cs) (us ++ rest))
    ∙ ap (λ a. and_then a (r.constrained all_kept c ty)) (constraints_got f (with_columns g cs) rest ∙ constraints_stop (with_columns g cs) (r.flags n p u) rest h)

pub new_columns_got : {ts : List Token} {cs : List NewColumn} → NewColumns ts cs → (g : Draft) (rest : List Token) → AfterColumn rest
    → commas (r.new_column all_kept) (with_columns g []) (ts ++ rest) ≡ chain (comma_turn (r.new_column all_kept)) (with_columns g cs) tt rest
new_columns_got (one {ts} {c} e) g rest h = commas_one (r.new_column all_kept) (with_columns g []) (ts ++ rest) (with_columns g (c ∷ [])) rest (new_column_got e g [] rest h)
new_columns_got (more {ts} {us} {cs} {c} f e) g rest h =
    commas_more (r.new_column all_kept) (with_columns g []) ts us rest (with_columns g cs) (with_columns g (cs ++ c ∷ []))
    (new_columns_got f g (comma ∷ (us ++ rest)) (record { no_not = refl; no_primary = refl; no_unique = refl })) (new_column_got e g cs rest h)

-- what UPDATE sets
abbrev pub with_sets : Draft → Read → List (List ℕ × ℕ) → Draft
with_sets g q xs = record g { read = q; sets = xs }

set_item_got : {q : Read} {ts : List Token} {s : Read} {n : ℕ} (c : List ℕ) → IsName c → Whole q ts s n → (g : Draft) (xs : List (List ℕ × ℕ)) (rest : List Token) → AfterOr rest
    → r.set_item all_kept (with_sets g q xs) (Word c ∷ equals ∷ (ts ++ rest)) ≡ got (with_sets g s (xs ++ (c, n) ∷ [])) tt rest
set_item_got {q} {ts} {s} {n} c i e g xs rest h =
    ap (λ a. and_then a (r.set_target all_kept)) (name_got (with_sets g q xs) c (equals ∷ (ts ++ rest)) i)
    ∙ ap (λ a. and_then a (r.set_to all_kept c)) (whole_got e (record g { sets = xs }) rest h)

pub sets_got : {q : Read} {ts : List Token} {s : Read} {xs : List (List ℕ × ℕ)} → Sets q ts s xs → (g : Draft) (rest : List Token) → AfterOr rest
    → commas (r.set_item all_kept) (with_sets g q []) (ts ++ rest) ≡ chain (comma_turn (r.set_item all_kept)) (with_sets g s xs) tt rest
sets_got (one {r = q} {s} {ts} {n} c i e) g rest h =
    commas_one (r.set_item all_kept) (with_sets g q []) (Word c ∷ equals ∷ (ts ++ rest)) (with_sets g s ((c, n) ∷ [])) rest (set_item_got c i e g [] rest h)
sets_got (more {r = q} {s} {t} {ts} {us} {xs} {n} c f i e) g rest h =
    commas_more (r.set_item all_kept) (with_sets g q []) ts (Word c ∷ equals ∷ us) rest (with_sets g s xs) (with_sets g t (xs ++ (c, n) ∷ []))
    (sets_got f g (comma ∷ Word c ∷ equals ∷ (us ++ rest)) (follow_comma _)) (set_item_got c i e g xs rest h)
