-- Things that stand in a line many times: each rule of the grammar with `more`, so many times.
use Rattle.std.proofs.Common.{◌≡◌, ◌+◌, ℕ, zero, suc, refl, subst, append_assoc, append-nil, sym, false, List, [], ◌∷◌, ◌++◌, length, None, pos, replicate}
use Rattle.std.specs.Prelude.{codes}
use Rattle.hg_model.specs.Grammar as grammar
use Rattle.hg_model.specs.Grammar.{Expression, Sum, Read, with_node, next, comma, open_sign, close_sign, plus, Names, Tables, Outputs, GroupColumns, Keys, Constants, Tuples}
use Rattle.hg_model.specs.Tokens.{Token, Word, Digits, is_reserved}
use Rattle.hg_model.specs.declared.trees.FromTable.{FromTable}
use Rattle.hg_model.specs.declared.trees.Literal.{Literal}
use Rattle.hg_model.specs.declared.trees.Literal.TheVariants as literal
use Rattle.hg_model.specs.declared.trees.Node.TheVariants as node
use Rattle.hg_model.specs.declared.trees.Op.TheVariants.{Add}
use Rattle.hg_model.specs.declared.trees.OrderBy.TheVariants.{Position}
use Rattle.hg_model.specs.declared.trees.OrderKey.{OrderKey}
use Rattle.hg_model.specs.declared.trees.Output.{Output}
use Rattle.hg_worked.proofs.Sentences.{number_node, column_node, whole_number}
use Rattle.hg_worked.proofs.Spelling.{commas}

-- some tokens behind others so many times
abbrev pub behind : ℕ → List Token → List Token → List Token
behind zero us ts = ts
behind (suc n) us ts = behind n us (ts ++ us)

-- an item behind others so many times
abbrev pub pushed : {X : Type 0} → ℕ → X → List X → List X
pushed zero x xs = xs
pushed (suc n) x xs = pushed n x (xs ++ x ∷ [])

name_a : is_reserved (codes "a") ≡ false
unfolding is_reserved
name_a = refl

abbrev pub one_name : List Token
one_name = comma ∷ Word (codes "a") ∷ []

pub names : (n : ℕ) {ts : List Token} {cs : List (List ℕ)} → Names ts cs → Names (behind n one_name ts) (pushed n (codes "a") cs)
names zero d = d
names (suc n) d = names n (grammar.Names.more (codes "a") name_a d)

abbrev pub table_a : FromTable
table_a = record { table = codes "a"; alias = codes "a"; on = None }

pub tables : (n : ℕ) {r s : Read} {ts : List Token} {fs : List FromTable} → Tables r ts s fs → Tables r (behind n one_name ts) s (pushed n table_a fs)
tables zero d = d
tables (suc n) d = tables n (grammar.Tables.by_comma d (grammar.IsRef.own (codes "a") name_a))

-- columns of GROUP BY
abbrev pub with_columns : ℕ → Read → Read
with_columns zero r = r
with_columns (suc n) r = with_columns n (with_node r (column_node (codes "a")))

abbrev pub columns_numbered : ℕ → Read → List ℕ → List ℕ
columns_numbered zero r ns = ns
columns_numbered (suc n) r ns = columns_numbered n (with_node r (column_node (codes "a"))) (ns ++ next r ∷ [])

pub groups : (n : ℕ) {r s : Read} {ts : List Token} {ns : List ℕ} → GroupColumns r ts s ns
    → GroupColumns r (behind n one_name ts) (with_columns n s) (columns_numbered n s ns)
groups zero d = d
groups (suc n) d = groups n (grammar.GroupColumns.more d (grammar.IsColumn.bare (codes "a") name_a))

abbrev pub one_number : List Token
one_number = comma ∷ Digits (codes "1") ∷ []

abbrev pub first_key : OrderKey
first_key = record { by = Position 1; descending = false }

pub keys : (n : ℕ) {r s : Read} {ts : List Token} {ks : List OrderKey} → Keys r ts s ks → Keys r (behind n one_number ts) s (pushed n first_key ks)
keys zero d = d
keys (suc n) d = keys n (grammar.Keys.more d (grammar.IsKey.position (codes "1") grammar.Direction.left_out))

-- outputs, each a number
abbrev pub with_numbers : ℕ → Read → Read
with_numbers zero r = r
with_numbers (suc n) r = with_numbers n (with_node r (number_node (codes "1")))

abbrev pub numbers_put : ℕ → Read → List Output → List Output
numbers_put zero r os = os
numbers_put (suc n) r os = numbers_put n (with_node r (number_node (codes "1"))) (os ++ record { node = next r; name = None } ∷ [])

pub outputs : (n : ℕ) {r s : Read} {ts : List Token} {os : List Output} → Outputs r ts s os
    → Outputs r (behind n one_number ts) (with_numbers n s) (numbers_put n s os)
outputs zero d = d
outputs (suc n) {s = s} d = outputs n (grammar.Outputs.more d (grammar.IsOutput.plain (whole_number s (codes "1"))))

-- numbers that are added
abbrev pub one_more : List Token
one_more = plus ∷ Digits (codes "1") ∷ []

abbrev pub added : Read → ℕ → Read
added s m = with_node (with_node s (number_node (codes "1"))) (node.Arith Add m (next s))

abbrev pub last_sum : ℕ → Read → ℕ → ℕ
last_sum zero s m = m
last_sum (suc n) s m = last_sum n (added s m) (next (with_node s (number_node (codes "1"))))

abbrev pub sums_read : ℕ → Read → ℕ → Read
sums_read zero s m = s
sums_read (suc n) s m = sums_read n (added s m) (next (with_node s (number_node (codes "1"))))

pub sums : (n : ℕ) {d : ℕ} {r s : Read} {ts : List Token} {m : ℕ} → Expression Sum d r ts s m
    → Expression Sum d r (behind n one_more ts) (sums_read n s m) (last_sum n s m)
sums zero e = e
sums (suc n) {d = d} {s = s} e =
    sums n (grammar.Expression.sum_plus e (grammar.Expression.term_one (grammar.Expression.factor_prim (grammar.Expression.prim_number {d = d} {r = s} (codes "1")))))

-- rows of one number
abbrev pub one_row : List Token
one_row = comma ∷ open_sign ∷ Digits (codes "1") ∷ close_sign ∷ []

abbrev pub one : Literal
one = literal.Int (pos 1)

abbrev pub rows_end : ℕ → List Literal → List ℕ → List ℕ
rows_end zero vs es = es
rows_end (suc n) vs es = rows_end n (vs ++ one ∷ []) (es ++ (length vs + 1) ∷ [])

pub rows : (n : ℕ) {x y : List ℕ} {ts : List Token} {vs : List Literal} {es : List ℕ} → Tuples x ts y vs es
    → Tuples x (behind n one_row ts) y (pushed n one vs) (rows_end n vs es)
rows zero d = d
rows (suc n) d = rows n (grammar.Tuples.more d (grammar.Constants.one (grammar.IsConstant.plain (codes "1"))))

-- numbers of one row
pub constants : (n : ℕ) {x y : List ℕ} {ts : List Token} {vs : List Literal} → Constants x ts y vs → Constants x (ts ++ commas n []) y (vs ++ replicate n one)
constants zero {x} {y} {ts} {vs} d =
    let P : List Token → Type 0 = λ l. Constants x l y (vs ++ []) in
    let Q : List Literal → Type 0 = λ l. Constants x ts y l in
    subst P (sym (append-nil ts)) (subst Q (sym (append-nil vs)) d)
constants (suc n) {x} {y} {ts} {vs} d =
    let P : List Token → Type 0 = λ l. Constants x l y (vs ++ replicate (suc n) one) in
    let Q : List Literal → Type 0 = λ l. Constants x ((ts ++ one_number) ++ commas n []) y l in
    subst P (append_assoc ts one_number (commas n [])) (subst Q (append_assoc vs (one ∷ []) (replicate n one))
    (constants n (grammar.Constants.more d (grammar.IsConstant.plain (codes "1")))))
