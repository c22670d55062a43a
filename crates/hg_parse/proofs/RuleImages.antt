-- What the descent over a statement keeps is what is kept of what it makes of the whole.
use Rattle.std.proofs.Common.{◌≡◌, ℕ, lit≤, Bool, true, false, ◌||◌, List, [], ◌∷◌, ◌++◌, Some, None, length, refl, ap, ◌∙◌, pos, neg_ℤ}
use Rattle.std.specs.Prelude.{codes}
use Rattle.std.specs.List.{list_any}
use Rattle.std.specs.Option.{option_map}
use Rattle.hg_model.specs.Grammar.{open_sign, close_sign, comma, star, equals}
use Rattle.hg_model.specs.Reading.{is_long_literal, is_bad_type, is_bad_key}
use Rattle.hg_model.specs.Tables.{same_name}
use Rattle.hg_model.specs.Tokens.{Token, Word, Digits, Letters, Sign, number_of}
use Rattle.hg_model.specs.declared.trees.FromTable.{FromTable}
use Rattle.hg_model.specs.declared.trees.Literal.{Literal}
use Rattle.hg_model.specs.declared.trees.Literal.TheVariants as literal
use Rattle.hg_model.specs.declared.trees.NewColumn.{NewColumn}
use Rattle.hg_model.specs.declared.trees.Node.TheVariants as node
use Rattle.hg_model.specs.declared.trees.OrderBy.{OrderBy}
use Rattle.hg_model.specs.declared.trees.OrderBy.TheVariants.{Position, Column as ByColumn}
use Rattle.hg_model.specs.declared.trees.OrderKey.{OrderKey}
use Rattle.hg_model.specs.declared.trees.Output.{Output}
use Rattle.hg_model.specs.declared.trees.SqlType.TheVariants.{Varchar}
use Rattle.hg_parse.specs.Building.{Draft, empty_draft, plain, text_at}
use Rattle.hg_parse.specs.Descent as d
use Rattle.hg_parse.specs.Keeping.{cap, cap_wide, front, pushed, wide_front, short_output, short_table, short_key, short_new_column, short_name, short_set, short_literal, kept_of, keeping, image, cap_heading, cap_form}
use Rattle.hg_parse.specs.Laws.{KeepsFronts}
use Rattle.hg_parse.specs.Rules as r
use Rattle.hg_parse.specs.Steps.{got, and_then, eats, behind, Go, chain}
use Rattle.hg_parse.proofs.Images.{same_value, then_image, if_image, turn_if_image, after_image, closed_image, chain_image, commas_image, name_image, column_image, cap_cap, whole_image}
use Rattle.hg_parse.proofs.Keeps.{push_front, push_wide, any_more, or_false, node_kept}

-- one more item
output_kept : (g : Draft) (o p : Output) → short_output p ≡ short_output o → keeping.output (kept_of g) p ≡ kept_of (plain.output g o)
output_kept g o p e =
    ap (λ x. record (kept_of g) { outputs = pushed 16 (front 16 short_output g.outputs) x }) e
    ∙ ap (λ f. record (kept_of g) { outputs = f }) (push_front short_output 16 g.outputs o (lit≤ tt))

table_kept : (g : Draft) (t u : FromTable) → short_table u ≡ short_table t → keeping.table (kept_of g) u ≡ kept_of (plain.table g t)
table_kept g t u e =
    ap (λ x. record (kept_of g) { tables = pushed 4 (front 4 short_table g.tables) x }) e
    ∙ ap (λ f. record (kept_of g) { tables = f }) (push_front short_table 4 g.tables t (lit≤ tt))

group_kept : (g : Draft) (n : ℕ) → keeping.group (kept_of g) (cap n) ≡ kept_of (plain.group g n)
group_kept g n =
    ap (λ x. record (kept_of g) { group = pushed 16 (front 16 cap g.group) x }) (cap_cap n)
    ∙ ap (λ f. record (kept_of g) { group = f }) (push_front cap 16 g.group n (lit≤ tt))

key_kept : (g : Draft) (k l : OrderKey) → short_key l ≡ short_key k → is_bad_key l.by ≡ is_bad_key k.by → keeping.key (kept_of g) l ≡ kept_of (plain.key g k)
key_kept g k l e b =
    let bad : List OrderKey → Bool = λ ks. list_any (λ (k : OrderKey). is_bad_key k.by) ks in
    ap (λ x. record (kept_of g) { order = pushed 8 (front 8 short_key g.order) x; bad_key = bad g.order || is_bad_key l.by }) e
    ∙ ap (λ c. record (kept_of g) { order = pushed 8 (front 8 short_key g.order) (short_key k); bad_key = bad g.order || c }) b
    ∙ ap (λ f. record (kept_of g) { order = f; bad_key = bad g.order || is_bad_key k.by }) (push_front short_key 8 g.order k (lit≤ tt))
    ∙ ap (λ c. record (kept_of g) { order = front 8 short_key (g.order ++ k ∷ []); bad_key = c }) (any_more (λ (k : OrderKey). is_bad_key k.by) g.order k)

column_kept : (g : Draft) (c : NewColumn) → keeping.column (kept_of g) c ≡ kept_of (plain.column g c)
column_kept g c =
    let bad : List NewColumn → Bool = λ cs. list_any (λ (c : NewColumn). is_bad_type c.column.ty) cs in
    ap (λ f. record (kept_of g) { columns = f; bad_type = bad g.columns || is_bad_type c.column.ty }) (push_front short_new_column 16 g.columns c (lit≤ tt))
    ∙ ap (λ b. record (kept_of g) { columns = front 16 short_new_column (g.columns ++ c ∷ []); bad_type = b }) (any_more (λ (c : NewColumn). is_bad_type c.column.ty) g.columns c)

name_kept : (g : Draft) (w : List ℕ) → keeping.name (kept_of g) w ≡ kept_of (plain.name g w)
name_kept g w = ap (λ f. record (kept_of g) { names = f }) (push_front short_name 16 g.names w (lit≤ tt))

set_kept : (g : Draft) (w : List ℕ) (n : ℕ) → keeping.set (kept_of g) w (cap n) ≡ kept_of (plain.set g w n)
set_kept g w n =
    ap (λ i. record (kept_of g) { sets = pushed 16 (front 16 short_set g.sets) (short_name w, i) }) (cap_cap n)
    ∙ ap (λ f. record (kept_of g) { sets = f }) (push_front short_set 16 g.sets (w, n) (lit≤ tt))

value_kept : (g : Draft) (v : Literal) → keeping.value (kept_of g) v ≡ kept_of (plain.value g v)
value_kept g v =
    ap (λ f. record (kept_of g) { values = f; bad_value = list_any is_long_literal g.values || is_long_literal v }) (push_wide short_literal 1024 g.values v (lit≤ tt))
    ∙ ap (λ b. record (kept_of g) { values = wide_front 1024 short_literal (g.values ++ v ∷ []); bad_value = b }) (any_more is_long_literal g.values v)

text_value_kept : (g : Draft) (t : List ℕ) → keeping.text_value (kept_of g) t ≡ kept_of (plain.text_value g t)
text_value_kept g t =
    ap (λ f. record (kept_of g) { texts = g.read.texts ++ t; values = f }) (push_wide short_literal 1024 g.values (text_at g.read t) (lit≤ tt))
    ∙ ap (λ b. record (kept_of g) { texts = g.read.texts ++ t; values = wide_front 1024 short_literal (g.values ++ text_at g.read t ∷ []); bad_value = b })
    (or_false (list_any is_long_literal g.values) ∙ any_more is_long_literal g.values (text_at g.read t))

row_kept : (g : Draft) → keeping.row (kept_of g) ≡ kept_of (plain.row g)
row_kept g = ap (λ f. record (kept_of g) { ends = f }) (push_front cap_wide 64 g.ends (length g.values) (lit≤ tt))

-- ref, direction, quantifier, number, type and constraints do not look at the state
ref_image : (s : Draft) (ts : List Token) → r.ref (kept_of s) ts ≡ image same_value (r.ref s ts)
ref_image s ts =
    then_image same_value same_value _ _ r.alias r.alias (name_image s ts)
    (λ t w us. if_image same_value (eats (d.key (codes "as")) us) _ _ _ _
    (then_image same_value same_value _ _ (r.aliased w) (r.aliased w) (name_image t (behind us)) (λ v a vs. refl))
    (if_image same_value (r.begins_name us) _ _ _ _ (then_image same_value same_value _ _ (r.aliased w) (r.aliased w) (name_image t us) (λ v a vs. refl)) refl))

direction_image : (s : Draft) (ts : List Token) → r.direction (kept_of s) ts ≡ image same_value (r.direction s ts)
direction_image s ts =
    if_image same_value (eats (d.key (codes "asc")) ts) (got s false (behind ts)) _ (got (kept_of s) false (behind ts)) _ refl
    (if_image same_value (eats (d.key (codes "desc")) ts) (got s true (behind ts)) (got s false ts) (got (kept_of s) true (behind ts)) (got (kept_of s) false ts) refl refl)

quantifier_image : (s : Draft) (ts : List Token) → r.quantifier (kept_of s) ts ≡ image same_value (r.quantifier s ts)
quantifier_image s ts =
    if_image same_value (eats (d.key (codes "all")) ts) (got s false (behind ts)) _ (got (kept_of s) false (behind ts)) _ refl
    (if_image same_value (eats (d.key (codes "distinct")) ts) (got s true (behind ts)) (got s false ts) (got (kept_of s) true (behind ts)) (got (kept_of s) false ts) refl refl)

number_image : (s : Draft) (ts : List Token) → r.number (kept_of s) ts ≡ image same_value (r.number s ts)
number_image s [] = refl
number_image s (Word w ∷ ts) = refl
number_image s (Digits w ∷ ts) = refl
number_image s (Letters w ∷ ts) = refl
number_image s (Sign w ∷ ts) = refl

type_image : (s : Draft) (ts : List Token) → r.type_of (kept_of s) ts ≡ image same_value (r.type_of s ts)
type_image s ts =
    if_image same_value (eats (d.key (codes "integer")) ts) _ _ _ _ refl
    (if_image same_value (eats (d.key (codes "int")) ts) _ _ _ _ refl
    (after_image same_value (d.key (codes "varchar")) ts _ _ (λ us. after_image same_value open_sign us _ _
    (λ vs. then_image same_value same_value _ _ r.varchar r.varchar (number_image s vs) (λ t n ws. after_image same_value close_sign ws (λ xs. got t (Varchar n) xs) (λ xs. got (kept_of t) (Varchar n) xs) (λ xs. refl))))))

constraints_image : (s : Draft) (ts : List Token) → r.constraints (kept_of s) ts ≡ image same_value (r.constraints s ts)
constraints_image s ts =
    chain_image same_value r.constraints_turn r.constraints_turn
    (λ v f us. turn_if_image same_value (eats (d.key (codes "not")) us) _ _ _ _
    (ap Go (if_image same_value f.not_null _ _ _ _ refl (after_image same_value (d.key (codes "null")) (behind us) (λ vs. got v (r.flags true f.primary f.unique) vs) (λ vs. got (kept_of v) (r.flags true f.primary f.unique) vs) (λ vs. refl))))
    (turn_if_image same_value (eats (d.key (codes "primary")) us) _ _ _ _
    (ap Go (if_image same_value f.primary _ _ _ _ refl (after_image same_value (d.key (codes "key")) (behind us) (λ vs. got v (r.flags f.not_null true f.unique) vs) (λ vs. got (kept_of v) (r.flags f.not_null true f.unique) vs) (λ vs. refl))))
    (turn_if_image same_value (eats (d.key (codes "unique")) us) _ _ _ _ (ap Go (if_image same_value f.unique _ _ _ _ refl refl)) refl)))
    s (r.flags false false false) ts

clause_image : (w : List ℕ) (s : Draft) (ts : List Token) → r.clause keeping w (kept_of s) ts ≡ image (option_map cap) (r.clause plain w s ts)
clause_image w s ts =
    if_image (option_map cap) (eats (d.key w) ts) _ _ _ _
    (then_image cap (option_map cap) _ _ (r.given plain) (r.given keeping) (whole_image s (behind ts)) (λ t n us. refl)) refl

output_image : (s : Draft) (ts : List Token) → r.output keeping (kept_of s) ts ≡ image same_value (r.output plain s ts)
output_image s ts =
    then_image cap same_value _ _ (r.output_name plain) (r.output_name keeping) (whole_image s ts)
    (λ t n us. if_image same_value (eats (d.key (codes "as")) us) _ _ _ _
    (then_image same_value same_value _ _ (r.named_output plain n) (r.named_output keeping (cap n)) (name_image t (behind us))
    (λ v c vs. ap (λ k. got k tt vs) (output_kept v (record { node = n; name = Some c }) (record { node = cap n; name = Some c }) (ap (λ i. record { node = i; name = Some (short_name c) }) (cap_cap n)))))
    (ap (λ k. got k tt us) (output_kept t (record { node = n; name = None }) (record { node = cap n; name = None }) (ap (λ i. record { node = i; name = None }) (cap_cap n)))))

plain_table_image : (s : Draft) (ts : List Token) → r.plain_table keeping (kept_of s) ts ≡ image same_value (r.plain_table plain s ts)
plain_table_image s ts =
    then_image same_value same_value _ _ (r.listed_table plain) (r.listed_table keeping) (ref_image s ts) (λ t f us. ap (λ k. got k tt us) (table_kept t f f refl))

joined_image : (s : Draft) (ts : List Token) → r.joined keeping (kept_of s) ts ≡ image same_value (r.joined plain s ts)
joined_image s ts =
    then_image same_value same_value _ _ (r.on_clause plain) (r.on_clause keeping) (ref_image s ts)
    (λ t f us. after_image same_value (d.key (codes "on")) us _ _
    (λ vs. then_image cap same_value _ _ (r.join_on plain f) (r.join_on keeping f) (whole_image t vs)
    (λ u n ws. ap (λ k. got k tt ws) (table_kept u (r.joined_table f n) (r.joined_table f (cap n))
    (ap (λ i. record { table = short_name f.table; alias = short_name f.alias; on = Some i }) (cap_cap n))))))

tables_image : (s : Draft) (ts : List Token) → r.tables keeping (kept_of s) ts ≡ image same_value (r.tables plain s ts)
tables_image s ts =
    then_image same_value same_value _ _ (λ t x us. chain (r.tables_turn plain) t x us) (λ t x us. chain (r.tables_turn keeping) t x us) (plain_table_image s ts)
    (λ t x us. chain_image same_value (r.tables_turn plain) (r.tables_turn keeping)
    (λ v y vs. turn_if_image same_value (eats comma vs) _ _ _ _ (ap Go (plain_table_image v (behind vs)))
    (turn_if_image same_value (eats (d.key (codes "cross")) vs) _ _ _ _ (ap Go (after_image same_value (d.key (codes "join")) (behind vs) _ _ (λ ws. plain_table_image v ws)))
    (turn_if_image same_value (eats (d.key (codes "join")) vs) _ _ _ _ (ap Go (joined_image v (behind vs)))
    (turn_if_image same_value (eats (d.key (codes "inner")) vs) _ _ _ _ (ap Go (after_image same_value (d.key (codes "join")) (behind vs) _ _ (λ ws. joined_image v ws))) refl)))) t x us)

group_column_image : (s : Draft) (ts : List Token) → r.group_column keeping (kept_of s) ts ≡ image same_value (r.group_column plain s ts)
group_column_image s ts =
    then_image same_value same_value _ _ (r.grouped plain) (r.grouped keeping) (column_image s ts)
    (λ t c us. ap (λ k. got (keeping.group k (cap (length t.read.nodes))) tt us) (node_kept t (node.Col c) (node.Col c) refl refl)
    ∙ ap (λ k. got k tt us) (group_kept (plain.node t (node.Col c)) (length t.read.nodes)))

group_image : (s : Draft) (ts : List Token) → r.group keeping (kept_of s) ts ≡ image same_value (r.group plain s ts)
group_image s ts =
    if_image same_value (eats (d.key (codes "group")) ts) _ _ _ _
    (after_image same_value (d.key (codes "by")) (behind ts) _ _ (λ us. commas_image (r.group_column plain) (r.group_column keeping) group_column_image s us)) refl

key_by_image : (s : Draft) (b c : OrderBy) (ts : List Token) → ((x : Bool) → short_key (record { by = c; descending = x }) ≡ short_key (record { by = b; descending = x })) → is_bad_key c ≡ is_bad_key b
    → r.key_by keeping (kept_of s) c ts ≡ image same_value (r.key_by plain s b ts)
key_by_image s b c ts e l =
    then_image same_value same_value _ _ (r.directed plain b) (r.directed keeping c) (direction_image s ts)
    (λ t x us. ap (λ k. got k tt us) (key_kept t (record { by = b; descending = x }) (record { by = c; descending = x }) (e x) l))

column_key_image : (s : Draft) (ts : List Token) → and_then (d.column (kept_of s) ts) (r.column_key keeping) ≡ image same_value (and_then (d.column s ts) (r.column_key plain))
column_key_image s ts =
    then_image same_value same_value _ _ (r.column_key plain) (r.column_key keeping) (column_image s ts)
    (λ t c us. ap (λ k. r.key_by keeping k (ByColumn (cap (length t.read.nodes))) us) (node_kept t (node.Col c) (node.Col c) refl refl)
    ∙ key_by_image (plain.node t (node.Col c)) (ByColumn (length t.read.nodes)) (ByColumn (cap (length t.read.nodes))) us
    (λ x. ap (λ i. record { by = ByColumn i; descending = x }) (cap_cap (length t.read.nodes))) refl)

order_key_image : (s : Draft) (ts : List Token) → r.order_key keeping (kept_of s) ts ≡ image same_value (r.order_key plain s ts)
order_key_image s (Digits ds ∷ ts) = key_by_image s (Position (number_of ds)) (Position (number_of ds)) ts (λ x. refl) refl
order_key_image s [] = refl
order_key_image s (Word w ∷ ts) = column_key_image s (Word w ∷ ts)
order_key_image s (Letters w ∷ ts) = refl
order_key_image s (Sign w ∷ ts) = refl

order_image : (s : Draft) (ts : List Token) → r.order keeping (kept_of s) ts ≡ image same_value (r.order plain s ts)
order_image s ts =
    if_image same_value (eats (d.key (codes "order")) ts) _ _ _ _
    (after_image same_value (d.key (codes "by")) (behind ts) _ _ (λ us. commas_image (r.order_key plain) (r.order_key keeping) order_key_image s us)) refl

columns_image : (s : Draft) (ts : List Token) → r.columns keeping (kept_of s) ts ≡ image same_value (r.columns plain s ts)
columns_image s ts =
    if_image same_value (eats star ts) (got s true (behind ts)) _ (got (kept_of s) true (behind ts)) _ refl
    (then_image same_value same_value _ _ (r.no_star plain) (r.no_star keeping) (commas_image (r.output plain) (r.output keeping) output_image s ts) (λ t x us. refl))

select_image : (s : Draft) (ts : List Token) → r.select keeping (kept_of s) ts ≡ image cap_heading (r.select plain s ts)
unfolding r.select
select_image s ts =
    then_image same_value cap_heading _ _ (r.behind_quantifier plain) (r.behind_quantifier keeping) (quantifier_image s ts)
    (λ t x us. then_image same_value cap_heading _ _ (r.behind_columns plain x) (r.behind_columns keeping x) (columns_image t us)
    (λ t st us. after_image cap_heading (d.key (codes "from")) us _ _
    (λ vs. then_image same_value cap_heading _ _ (r.behind_tables plain x st) (r.behind_tables keeping x st) (tables_image t vs)
    (λ t y us. then_image (option_map cap) cap_heading _ _ (r.behind_where plain x st) (r.behind_where keeping x st) (clause_image (codes "where") t us)
    (λ t f us. then_image same_value cap_heading _ _ (r.behind_group plain x st f) (r.behind_group keeping x st (option_map cap f)) (group_image t us)
    (λ t y us. then_image (option_map cap) cap_heading _ _ (r.behind_having plain x st f) (r.behind_having keeping x st (option_map cap f)) (clause_image (codes "having") t us)
    (λ t h us. then_image same_value cap_heading _ _ (r.select_end plain x st f h) (r.select_end keeping x st (option_map cap f) (option_map cap h)) (order_image t us)
    (λ t y us. refl))))))))

-- constants and rows
constant_image : (s : Draft) (ts : List Token) → r.constant keeping (kept_of s) ts ≡ image same_value (r.constant plain s ts)
constant_image s [] = refl
constant_image s (Word w ∷ ts) = if_image same_value (same_name w (codes "null")) _ _ _ _ (ap (λ k. got k tt ts) (value_kept s literal.Null)) refl
constant_image s (Digits ds ∷ ts) = ap (λ k. got k tt ts) (value_kept s (literal.Int (pos (number_of ds))))
constant_image s (Letters t ∷ ts) = ap (λ k. got k tt ts) (text_value_kept s t)
constant_image s (Sign w ∷ ts) =
    if_image same_value (same_name w (43 ∷ [])) _ _ _ _
    (then_image same_value same_value _ _ (r.positive plain) (r.positive keeping) (number_image s ts) (λ t n us. ap (λ k. got k tt us) (value_kept t (literal.Int (pos n)))))
    (if_image same_value (same_name w (45 ∷ [])) _ _ _ _
    (then_image same_value same_value _ _ (r.negative plain) (r.negative keeping) (number_image s ts) (λ t n us. ap (λ k. got k tt us) (value_kept t (literal.Int (neg_ℤ (pos n)))))) refl)

row_image : (s : Draft) (ts : List Token) → r.row keeping (kept_of s) ts ≡ image same_value (r.row plain s ts)
row_image s ts =
    after_image same_value open_sign ts _ _
    (λ us. then_image same_value same_value _ _ (r.end_row plain) (r.end_row keeping) (closed_image same_value _ _ (commas_image (r.constant plain) (r.constant keeping) constant_image s us))
    (λ t x vs. ap (λ k. got k tt vs) (row_kept t)))

name_item_image : (s : Draft) (ts : List Token) → r.name_item keeping (kept_of s) ts ≡ image same_value (r.name_item plain s ts)
name_item_image s ts = then_image same_value same_value _ _ (r.listed_name plain) (r.listed_name keeping) (name_image s ts) (λ t w us. ap (λ k. got k tt us) (name_kept t w))

listed_image : (s : Draft) (ts : List Token) → r.listed keeping (kept_of s) ts ≡ image same_value (r.listed plain s ts)
listed_image s ts =
    if_image same_value (eats open_sign ts) _ _ _ _ (closed_image same_value _ _ (commas_image (r.name_item plain) (r.name_item keeping) name_item_image s (behind ts))) refl

name_list_image : (s : Draft) (ts : List Token) → r.name_list keeping (kept_of s) ts ≡ image same_value (r.name_list plain s ts)
name_list_image s ts = after_image same_value open_sign ts _ _ (λ us. closed_image same_value _ _ (commas_image (r.name_item plain) (r.name_item keeping) name_item_image s us))

new_column_image : (s : Draft) (ts : List Token) → r.new_column keeping (kept_of s) ts ≡ image same_value (r.new_column plain s ts)
new_column_image s ts =
    then_image same_value same_value _ _ (r.named_column plain) (r.named_column keeping) (name_image s ts)
    (λ t c us. then_image same_value same_value _ _ (r.typed plain c) (r.typed keeping c) (type_image t us)
    (λ t ty us. then_image same_value same_value _ _ (r.constrained plain c ty) (r.constrained keeping c ty) (constraints_image t us)
    (λ t f us. ap (λ k. got k tt us) (column_kept t (r.new_column_of c ty f)))))

set_item_image : (s : Draft) (ts : List Token) → r.set_item keeping (kept_of s) ts ≡ image same_value (r.set_item plain s ts)
set_item_image s ts =
    then_image same_value same_value _ _ (r.set_target plain) (r.set_target keeping) (name_image s ts)
    (λ t c us. after_image same_value equals us _ _
    (λ vs. then_image cap same_value _ _ (r.set_to plain c) (r.set_to keeping c) (whole_image t vs) (λ u n ws. ap (λ k. got k tt ws) (set_kept u c n))))

-- commands
create_table_image : (s : Draft) (ts : List Token) → r.create_table keeping (kept_of s) ts ≡ image cap_form (r.create_table plain s ts)
create_table_image s ts =
    then_image same_value cap_form _ _ (r.table_columns plain) (r.table_columns keeping) (name_image s ts)
    (λ t w us. after_image cap_form open_sign us _ _
    (λ vs. then_image same_value cap_form _ _ (r.table_form plain w) (r.table_form keeping w) (closed_image same_value _ _ (commas_image (r.new_column plain) (r.new_column keeping) new_column_image t vs))
    (λ u x ws. refl)))

create_index_image : (u : Bool) (s : Draft) (ts : List Token) → r.create_index keeping u (kept_of s) ts ≡ image cap_form (r.create_index plain u s ts)
create_index_image u s ts =
    after_image cap_form (d.key (codes "index")) ts _ _
    (λ us. then_image same_value cap_form _ _ (r.index_name plain u) (r.index_name keeping u) (name_image s us)
    (λ t i us. after_image cap_form (d.key (codes "on")) us _ _
    (λ vs. then_image same_value cap_form _ _ (r.index_table plain u i) (r.index_table keeping u i) (name_image t vs)
    (λ v w ws. then_image same_value cap_form _ _ (r.index_form plain u i w) (r.index_form keeping u i w) (name_list_image v ws) (λ x y xs. refl)))))

create_image : (s : Draft) (ts : List Token) → r.create keeping (kept_of s) ts ≡ image cap_form (r.create plain s ts)
create_image s ts =
    if_image cap_form (eats (d.key (codes "table")) ts) _ _ _ _ (create_table_image s (behind ts))
    (if_image cap_form (eats (d.key (codes "unique")) ts) _ _ _ _ (create_index_image true s (behind ts)) (create_index_image false s ts))

insert_image : (s : Draft) (ts : List Token) → r.insert keeping (kept_of s) ts ≡ image cap_form (r.insert plain s ts)
insert_image s ts =
    after_image cap_form (d.key (codes "into")) ts _ _
    (λ us. then_image same_value cap_form _ _ (r.insert_into plain) (r.insert_into keeping) (name_image s us)
    (λ t w us. then_image same_value cap_form _ _ (r.insert_values plain w) (r.insert_values keeping w) (listed_image t us)
    (λ u x vs. after_image cap_form (d.key (codes "values")) vs _ _
    (λ ws. then_image same_value cap_form _ _ (r.insert_form plain w) (r.insert_form keeping w) (commas_image (r.row plain) (r.row keeping) row_image u ws) (λ v y xs. refl)))))

update_image : (s : Draft) (ts : List Token) → r.update keeping (kept_of s) ts ≡ image cap_form (r.update plain s ts)
update_image s ts =
    then_image same_value cap_form _ _ (r.update_sets plain) (r.update_sets keeping) (name_image s ts)
    (λ t w us. after_image cap_form (d.key (codes "set")) us _ _
    (λ vs. then_image same_value cap_form _ _ (r.update_where plain w) (r.update_where keeping w) (commas_image (r.set_item plain) (r.set_item keeping) set_item_image t vs)
    (λ u x ws. then_image (option_map cap) cap_form _ _ (r.update_form plain w) (r.update_form keeping w) (clause_image (codes "where") u ws) (λ v f xs. refl))))

delete_image : (s : Draft) (ts : List Token) → r.delete keeping (kept_of s) ts ≡ image cap_form (r.delete plain s ts)
delete_image s ts =
    after_image cap_form (d.key (codes "from")) ts _ _
    (λ us. then_image same_value cap_form _ _ (r.delete_where plain) (r.delete_where keeping) (name_image s us)
    (λ t w vs. then_image (option_map cap) cap_form _ _ (r.delete_form plain w) (r.delete_form keeping w) (clause_image (codes "where") t vs) (λ v f xs. refl)))

open_image : (s : Draft) (ts : List Token) → and_then (d.name (kept_of s) ts) (r.open_for keeping) ≡ image cap_form (and_then (d.name s ts) (r.open_for plain))
open_image s ts =
    then_image same_value cap_form _ _ (r.open_for plain) (r.open_for keeping) (name_image s ts)
    (λ t c us. after_image cap_form (d.key (codes "for")) us _ _ (λ vs. after_image cap_form (d.key (codes "select")) vs _ _
    (λ ws. then_image cap_heading cap_form _ _ (r.open_form plain c) (r.open_form keeping c) (select_image t ws) (λ u h xs. refl))))

named_image : (make : List ℕ → r.Form) → ((c : List ℕ) → make c ≡ cap_form (make c)) → (s : Draft) (ts : List Token)
    → and_then (d.name (kept_of s) ts) (r.of_name keeping make) ≡ image cap_form (and_then (d.name s ts) (r.of_name plain make))
named_image make e s ts = then_image same_value cap_form _ _ (r.of_name plain make) (r.of_name keeping make) (name_image s ts) (λ t c us. ap (λ f. got (kept_of t) f us) (e c))

numbered_image : (make : ℕ → r.Form) → ((n : ℕ) → make n ≡ cap_form (make n)) → (s : Draft) (ts : List Token)
    → and_then (r.number (kept_of s) ts) (r.of_number keeping make) ≡ image cap_form (and_then (r.number s ts) (r.of_number plain make))
numbered_image make e s ts = then_image same_value cap_form _ _ (r.of_number plain make) (r.of_number keeping make) (number_image s ts) (λ t n us. ap (λ f. got (kept_of t) f us) (e n))

both_image : (make : List ℕ → ℕ → r.Form) → ((c : List ℕ) (n : ℕ) → make c n ≡ cap_form (make c n)) → (s : Draft) (ts : List Token)
    → and_then (d.name (kept_of s) ts) (r.of_both keeping make) ≡ image cap_form (and_then (d.name s ts) (r.of_both plain make))
both_image make e s ts =
    then_image same_value cap_form _ _ (r.of_both plain make) (r.of_both keeping make) (name_image s ts) (λ t c us. numbered_image (make c) (e c) t us)

pub command_image : (s : Draft) (ts : List Token) → r.command keeping (kept_of s) ts ≡ image cap_form (r.command plain s ts)
unfolding r.command
command_image s [] = refl
command_image s (Digits w ∷ ts) = refl
command_image s (Letters w ∷ ts) = refl
command_image s (Sign w ∷ ts) = refl
command_image s (Word w ∷ ts) =
    if_image cap_form (same_name w (codes "insert")) _ _ _ _ (insert_image s ts)
    (if_image cap_form (same_name w (codes "select")) _ _ _ _ (then_image cap_heading cap_form _ _ (r.select_form plain) (r.select_form keeping) (select_image s ts) (λ t h us. refl))
    (if_image cap_form (same_name w (codes "update")) _ _ _ _ (update_image s ts)
    (if_image cap_form (same_name w (codes "delete")) _ _ _ _ (delete_image s ts)
    (if_image cap_form (same_name w (codes "create")) _ _ _ _ (create_image s ts)
    (if_image cap_form (same_name w (codes "open")) _ _ _ _ (open_image s ts)
    (if_image cap_form (same_name w (codes "start")) _ _ _ _ (both_image r.StartForm (λ c n. refl) s ts)
    (if_image cap_form (same_name w (codes "work")) _ _ _ _ (numbered_image r.WorkForm (λ n. refl) s ts)
    (if_image cap_form (same_name w (codes "fetch")) _ _ _ _ (both_image r.FetchForm (λ c n. refl) s ts)
    (if_image cap_form (same_name w (codes "close")) _ _ _ _ (named_image r.CloseForm (λ c. refl) s ts)
    (if_image cap_form (same_name w (codes "vacuum")) _ _ _ _ (named_image r.VacuumForm (λ c. refl) s ts)
    (if_image cap_form (same_name w (codes "pool")) _ _ _ _ (numbered_image r.PoolForm (λ n. refl) s ts)
    (if_image cap_form (same_name w (codes "mpl")) _ _ _ _ (numbered_image r.MplForm (λ n. refl) s ts)
    (if_image cap_form (same_name w (codes "show")) _ _ _ _ (after_image cap_form (d.key (codes "memory")) ts (λ us. got s r.MemoryForm us) (λ us. got (kept_of s) r.MemoryForm us) (λ us. refl)) refl)))))))))))))

pub keeps_fronts : KeepsFronts
keeps_fronts ts = command_image empty_draft ts
