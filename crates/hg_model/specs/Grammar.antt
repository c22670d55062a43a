-- Which tree a list of tokens stands for: one case for each rule of the grammar. SQL-92 in part; the
-- grammar is our own rule.
use Rattle.std.specs.Prelude.{◌≡◌, ℕ, suc, Bool, true, false, List, [], ◌∷◌, ◌++◌, Option, Some, None, length, ◌+◌, pos, neg_ℤ, codes}
use Rattle.hg_model.specs.Query.{Query}
use Rattle.hg_model.specs.Statements.{CommandTree, CreateTable, CreateIndex, InsertRows, UpdateRows, DeleteRows, Vacuum, SelectRows, OpenCursor, Start, Work, Fetch, Close, Pool, Mpl, ShowMemory}
use Rattle.hg_model.specs.Tokens.{Token, Word, Digits, Letters, Sign, is_reserved, number_of}
use Rattle.hg_model.specs.declared.trees.Cmp.{Cmp}
use Rattle.hg_model.specs.declared.trees.Cmp.TheVariants as cmp
use Rattle.hg_model.specs.declared.trees.ColRef.{ColRef}
use Rattle.hg_model.specs.declared.trees.Fold.{Fold}
use Rattle.hg_model.specs.declared.trees.Fold.TheVariants as of
use Rattle.hg_model.specs.declared.trees.FromTable.{FromTable}
use Rattle.hg_model.specs.declared.trees.Literal.{Literal}
use Rattle.hg_model.specs.declared.trees.Literal.TheVariants as literal
use Rattle.hg_model.specs.declared.trees.NewColumn.{NewColumn}
use Rattle.hg_model.specs.declared.trees.Node.{Node}
use Rattle.hg_model.specs.declared.trees.Node.TheVariants as node
use Rattle.hg_model.specs.declared.trees.Op.TheVariants.{Add, Sub, Mul}
use Rattle.hg_model.specs.declared.trees.OrderBy.TheVariants.{Position, Column as ByColumn}
use Rattle.hg_model.specs.declared.trees.OrderKey.{OrderKey}
use Rattle.hg_model.specs.declared.trees.Output.{Output}
use Rattle.hg_model.specs.declared.trees.SqlType.{SqlType}
use Rattle.hg_model.specs.declared.trees.SqlType.TheVariants.{Integer, Varchar}

-- what was read so far: the nodes, and the texts one behind the other
pub record Read : Type 0 where
  pub nodes : List Node
  pub texts : List ℕ

abbrev pub nothing_read : Read
nothing_read = record { nodes = []; texts = [] }

-- one more node
abbrev pub with_node : Read → Node → Read
with_node r n = record { nodes = r.nodes ++ n ∷ []; texts = r.texts }

abbrev pub next : Read → ℕ
next r = length r.nodes

-- a name is a word that is not reserved
abbrev pub IsName : List ℕ → Type 0
IsName w = is_reserved w ≡ false

abbrev pub open_sign : Token
open_sign = Sign (40 ∷ [])

abbrev pub close_sign : Token
close_sign = Sign (41 ∷ [])

abbrev pub comma : Token
comma = Sign (44 ∷ [])

abbrev pub dot : Token
dot = Sign (46 ∷ [])

abbrev pub semicolon : Token
semicolon = Sign (59 ∷ [])

abbrev pub star : Token
star = Sign (42 ∷ [])

abbrev pub plus : Token
plus = Sign (43 ∷ [])

abbrev pub minus : Token
minus = Sign (45 ∷ [])

abbrev pub equals : Token
equals = Sign (61 ∷ [])

-- col = name ["." name]
pub data IsColumn : List Token → ColRef → Type 0 where
  bare : (c : List ℕ) → IsName c → IsColumn (Word c ∷ []) (record { table = None; name = c })
  dotted : (t c : List ℕ) → IsName t → IsName c → IsColumn (Word t ∷ dot ∷ Word c ∷ []) (record { table = Some t; name = c })

-- cmp = "=" | "<>" | "!=" | "<" | "<=" | ">" | ">="
pub data IsCmp : Token → Cmp → Type 0 where
  eq : IsCmp (Sign (61 ∷ [])) cmp.Eq
  ne : IsCmp (Sign (60 ∷ 62 ∷ [])) cmp.Ne
  ne_bang : IsCmp (Sign (33 ∷ 61 ∷ [])) cmp.Ne
  lt : IsCmp (Sign (60 ∷ [])) cmp.Lt
  le : IsCmp (Sign (60 ∷ 61 ∷ [])) cmp.Le
  gt : IsCmp (Sign (62 ∷ [])) cmp.Gt
  ge : IsCmp (Sign (62 ∷ 61 ∷ [])) cmp.Ge

-- COUNT, SUM, MIN and MAX with an operand
pub data IsFold : Token → Fold → Type 0 where
  count : IsFold (Word (codes "count")) of.Count
  sum : IsFold (Word (codes "sum")) of.Sum
  min : IsFold (Word (codes "min")) of.Min
  max : IsFold (Word (codes "max")) of.Max

-- the rules of an expression, the loosest first
pub data Rule : Type 0 where
  Or : Rule
  And : Rule
  Not : Rule
  Pred : Rule
  Sum : Rule
  Term : Rule
  Factor : Rule
  Prim : Rule
  Items : ℕ → Rule

-- `Expression rule d before tokens after n`: where `before` was read, the tokens are what the rule says,
-- `after` was then read, and the whole is node n. Parentheses may still nest d deep. Chains group from
-- the left. A comparison stands right behind its right operand.
pub data Expression : Rule → ℕ → Read → List Token → Read → ℕ → Type 0 where
  -- or = and {OR and}
  or_one : {d : ℕ} {r s : Read} {ts : List Token} {n : ℕ} → Expression And d r ts s n → Expression Or d r ts s n
  or_more : {d : ℕ} {r s t : Read} {ts us : List Token} {m n : ℕ} → Expression Or d r ts s m → Expression And d s us t n
      → Expression Or d r (ts ++ Word (codes "or") ∷ us) (with_node t (node.Either m n)) (next t)
  -- and = not {AND not}
  and_one : {d : ℕ} {r s : Read} {ts : List Token} {n : ℕ} → Expression Not d r ts s n → Expression And d r ts s n
  and_more : {d : ℕ} {r s t : Read} {ts us : List Token} {m n : ℕ} → Expression And d r ts s m → Expression Not d s us t n
      → Expression And d r (ts ++ Word (codes "and") ∷ us) (with_node t (node.Both m n)) (next t)
  -- not = [NOT] pred
  not_none : {d : ℕ} {r s : Read} {ts : List Token} {n : ℕ} → Expression Pred d r ts s n → Expression Not d r ts s n
  not_one : {d : ℕ} {r s : Read} {ts : List Token} {n : ℕ} → Expression Pred d r ts s n
      → Expression Not d r (Word (codes "not") ∷ ts) (with_node s (node.Not n)) (next s)
  -- pred = sum [cmp sum | IS [NOT] NULL | [NOT] BETWEEN sum AND sum | [NOT] IN "(" sum {"," sum} ")"]
  pred_sum : {d : ℕ} {r s : Read} {ts : List Token} {n : ℕ} → Expression Sum d r ts s n → Expression Pred d r ts s n
  pred_cmp : {d : ℕ} {r s t : Read} {ts us : List Token} {m n : ℕ} {c : Token} {o : Cmp} → Expression Sum d r ts s m → IsCmp c o → Expression Sum d s us t n
      → Expression Pred d r (ts ++ c ∷ us) (with_node t (node.Compare o m n)) (next t)
  pred_null : {d : ℕ} {r s : Read} {ts : List Token} {n : ℕ} → Expression Sum d r ts s n
      → Expression Pred d r (ts ++ Word (codes "is") ∷ Word (codes "null") ∷ []) (with_node s (node.IsNull n)) (next s)
  pred_not_null : {d : ℕ} {r s : Read} {ts : List Token} {n : ℕ} → Expression Sum d r ts s n
      → Expression Pred d r (ts ++ Word (codes "is") ∷ Word (codes "not") ∷ Word (codes "null") ∷ []) (with_node s (node.NotNull n)) (next s)
  pred_between : {d : ℕ} {r s t u : Read} {ts us vs : List Token} {m a b : ℕ} → Expression Sum d r ts s m → Expression Sum d s us t a
      → Expression Sum d (with_node t (node.Compare cmp.Ge m a)) vs u b
      → Expression Pred d r (ts ++ Word (codes "between") ∷ (us ++ Word (codes "and") ∷ vs))
      (with_node (with_node u (node.Compare cmp.Le m b)) (node.Both (next t) (next u))) (next u + 1)
  pred_not_between : {d : ℕ} {r s t u : Read} {ts us vs : List Token} {m a b : ℕ} → Expression Sum d r ts s m → Expression Sum d s us t a
      → Expression Sum d (with_node t (node.Compare cmp.Ge m a)) vs u b
      → Expression Pred d r (ts ++ Word (codes "not") ∷ Word (codes "between") ∷ (us ++ Word (codes "and") ∷ vs))
      (with_node (with_node (with_node u (node.Compare cmp.Le m b)) (node.Both (next t) (next u))) (node.Not (next u + 1))) (next u + 2)
  pred_in : {d : ℕ} {r s t : Read} {ts us : List Token} {m n : ℕ} → Expression Sum d r ts s m → Expression (Items m) d s us t n
      → Expression Pred d r (ts ++ Word (codes "in") ∷ open_sign ∷ (us ++ close_sign ∷ [])) t n
  pred_not_in : {d : ℕ} {r s t : Read} {ts us : List Token} {m n : ℕ} → Expression Sum d r ts s m → Expression (Items m) d s us t n
      → Expression Pred d r (ts ++ Word (codes "not") ∷ Word (codes "in") ∷ open_sign ∷ (us ++ close_sign ∷ [])) (with_node t (node.Not n)) (next t)
  -- sum = term {("+" | "-") term}
  sum_one : {d : ℕ} {r s : Read} {ts : List Token} {n : ℕ} → Expression Term d r ts s n → Expression Sum d r ts s n
  sum_plus : {d : ℕ} {r s t : Read} {ts us : List Token} {m n : ℕ} → Expression Sum d r ts s m → Expression Term d s us t n
      → Expression Sum d r (ts ++ plus ∷ us) (with_node t (node.Arith Add m n)) (next t)
  sum_minus : {d : ℕ} {r s t : Read} {ts us : List Token} {m n : ℕ} → Expression Sum d r ts s m → Expression Term d s us t n
      → Expression Sum d r (ts ++ minus ∷ us) (with_node t (node.Arith Sub m n)) (next t)
  -- term = factor {"*" factor}
  term_one : {d : ℕ} {r s : Read} {ts : List Token} {n : ℕ} → Expression Factor d r ts s n → Expression Term d r ts s n
  term_times : {d : ℕ} {r s t : Read} {ts us : List Token} {m n : ℕ} → Expression Term d r ts s m → Expression Factor d s us t n
      → Expression Term d r (ts ++ star ∷ us) (with_node t (node.Arith Mul m n)) (next t)
  -- factor = ["+" | "-"] prim; unary plus makes no node
  factor_prim : {d : ℕ} {r s : Read} {ts : List Token} {n : ℕ} → Expression Prim d r ts s n → Expression Factor d r ts s n
  factor_plus : {d : ℕ} {r s : Read} {ts : List Token} {n : ℕ} → Expression Prim d r ts s n → Expression Factor d r (plus ∷ ts) s n
  factor_minus : {d : ℕ} {r s : Read} {ts : List Token} {n : ℕ} → Expression Prim d r ts s n
      → Expression Factor d r (minus ∷ ts) (with_node s (node.Neg n)) (next s)
  -- prim = number | text | NULL | col | agg | "(" or ")"
  prim_number : {d : ℕ} {r : Read} (ds : List ℕ) → Expression Prim d r (Digits ds ∷ []) (with_node r (node.Lit (literal.Int (pos (number_of ds))))) (next r)
  prim_text : {d : ℕ} {r : Read} (t : List ℕ)
      → Expression Prim d r (Letters t ∷ []) (record { nodes = r.nodes ++ node.Lit (literal.Text (record { at = length r.texts; len = length t })) ∷ []; texts = r.texts ++ t }) (next r)
  prim_null : {d : ℕ} {r : Read} → Expression Prim d r (Word (codes "null") ∷ []) (with_node r (node.Lit literal.Null)) (next r)
  prim_column : {d : ℕ} {r : Read} {ts : List Token} {c : ColRef} → IsColumn ts c → Expression Prim d r ts (with_node r (node.Col c)) (next r)
  prim_nested : {d : ℕ} {r s : Read} {ts : List Token} {n : ℕ} → Expression Or d r ts s n → Expression Prim (suc d) r (open_sign ∷ (ts ++ close_sign ∷ [])) s n
  -- agg = COUNT "(" "*" ")" | (COUNT | SUM | MIN | MAX) "(" or ")"
  agg_rows : {d : ℕ} {r : Read}
      → Expression Prim (suc d) r (Word (codes "count") ∷ open_sign ∷ star ∷ close_sign ∷ []) (with_node r (node.Aggregate of.CountRows None)) (next r)
  agg_one : {d : ℕ} {r s : Read} {ts : List Token} {n : ℕ} {w : Token} {f : Fold} → IsFold w f → Expression Or d r ts s n
      → Expression Prim (suc d) r (w ∷ open_sign ∷ (ts ++ close_sign ∷ [])) (with_node s (node.Aggregate f (Some n))) (next s)
  -- the items of IN behind the left operand m: an equality each, joined by OR
  items_one : {d : ℕ} {r s : Read} {ts : List Token} {m n : ℕ} → Expression Sum d r ts s n
      → Expression (Items m) d r ts (with_node s (node.Compare cmp.Eq m n)) (next s)
  items_more : {d : ℕ} {r s t : Read} {ts us : List Token} {m k n : ℕ} → Expression (Items m) d r ts s k → Expression Sum d s us t n
      → Expression (Items m) d r (ts ++ comma ∷ us) (with_node (with_node t (node.Compare cmp.Eq m n)) (node.Either k (next t))) (next t + 1)

-- or, with no parenthesis open: 32 may nest
abbrev pub Whole : Read → List Token → Read → ℕ → Type 0
Whole r ts s n = Expression Or 32 r ts s n

-- [WORD or], as of WHERE and HAVING
pub data Clause (w : List ℕ) : Read → List Token → Read → Option ℕ → Type 0 where
  left_out : {r : Read} → Clause w r [] r None
  given : {r s : Read} {ts : List Token} {n : ℕ} → Whole r ts s n → Clause w r (Word w ∷ ts) s (Some n)

-- output = or [AS name]
pub data IsOutput : Read → List Token → Read → Output → Type 0 where
  plain : {r s : Read} {ts : List Token} {n : ℕ} → Whole r ts s n → IsOutput r ts s (record { node = n; name = None })
  named : {r s : Read} {ts : List Token} {n : ℕ} (c : List ℕ) → IsName c → Whole r ts s n
      → IsOutput r (ts ++ Word (codes "as") ∷ Word c ∷ []) s (record { node = n; name = Some c })

-- output {"," output}
pub data Outputs : Read → List Token → Read → List Output → Type 0 where
  one : {r s : Read} {ts : List Token} {o : Output} → IsOutput r ts s o → Outputs r ts s (o ∷ [])
  more : {r s t : Read} {ts us : List Token} {o : Output} {os : List Output} → Outputs r ts s os → IsOutput s us t o
      → Outputs r (ts ++ comma ∷ us) t (os ++ o ∷ [])

-- ref = name [[AS] name]; without an alias the table's own name is it
pub data IsRef : List Token → List ℕ → List ℕ → Type 0 where
  own : (t : List ℕ) → IsName t → IsRef (Word t ∷ []) t t
  alias : (t a : List ℕ) → IsName t → IsName a → IsRef (Word t ∷ Word a ∷ []) t a
  alias_as : (t a : List ℕ) → IsName t → IsName a → IsRef (Word t ∷ Word (codes "as") ∷ Word a ∷ []) t a

-- ref {"," ref | CROSS JOIN ref | [INNER] JOIN ref ON or}
pub data Tables : Read → List Token → Read → List FromTable → Type 0 where
  one : {r : Read} {ts : List Token} {t a : List ℕ} → IsRef ts t a → Tables r ts r (record { table = t; alias = a; on = None } ∷ [])
  by_comma : {r s : Read} {ts us : List Token} {fs : List FromTable} {t a : List ℕ} → Tables r ts s fs → IsRef us t a
      → Tables r (ts ++ comma ∷ us) s (fs ++ record { table = t; alias = a; on = None } ∷ [])
  by_cross : {r s : Read} {ts us : List Token} {fs : List FromTable} {t a : List ℕ} → Tables r ts s fs → IsRef us t a
      → Tables r (ts ++ Word (codes "cross") ∷ Word (codes "join") ∷ us) s (fs ++ record { table = t; alias = a; on = None } ∷ [])
  by_join : {r s u : Read} {ts us vs : List Token} {fs : List FromTable} {t a : List ℕ} {n : ℕ} → Tables r ts s fs → IsRef us t a → Whole s vs u n
      → Tables r (ts ++ Word (codes "join") ∷ (us ++ Word (codes "on") ∷ vs)) u (fs ++ record { table = t; alias = a; on = Some n } ∷ [])
  by_inner : {r s u : Read} {ts us vs : List Token} {fs : List FromTable} {t a : List ℕ} {n : ℕ} → Tables r ts s fs → IsRef us t a → Whole s vs u n
      → Tables r (ts ++ Word (codes "inner") ∷ Word (codes "join") ∷ (us ++ Word (codes "on") ∷ vs)) u (fs ++ record { table = t; alias = a; on = Some n } ∷ [])

-- col {"," col}, each a node
pub data GroupColumns : Read → List Token → Read → List ℕ → Type 0 where
  one : {r : Read} {ts : List Token} {c : ColRef} → IsColumn ts c → GroupColumns r ts (with_node r (node.Col c)) (next r ∷ [])
  more : {r s : Read} {ts us : List Token} {ns : List ℕ} {c : ColRef} → GroupColumns r ts s ns → IsColumn us c
      → GroupColumns r (ts ++ comma ∷ us) (with_node s (node.Col c)) (ns ++ next s ∷ [])

-- [GROUP BY col {"," col}]
pub data Group : Read → List Token → Read → List ℕ → Type 0 where
  left_out : {r : Read} → Group r [] r []
  given : {r s : Read} {ts : List Token} {ns : List ℕ} → GroupColumns r ts s ns → Group r (Word (codes "group") ∷ Word (codes "by") ∷ ts) s ns

-- [ASC | DESC]
pub data Direction : List Token → Bool → Type 0 where
  left_out : Direction [] false
  ascending : Direction (Word (codes "asc") ∷ []) false
  descending : Direction (Word (codes "desc") ∷ []) true

-- key = (number | col) [ASC | DESC]
pub data IsKey : Read → List Token → Read → OrderKey → Type 0 where
  position : {r : Read} (ds : List ℕ) {ts : List Token} {d : Bool} → Direction ts d
      → IsKey r (Digits ds ∷ ts) r (record { by = Position (number_of ds); descending = d })
  column : {r : Read} {ts us : List Token} {c : ColRef} {d : Bool} → IsColumn ts c → Direction us d
      → IsKey r (ts ++ us) (with_node r (node.Col c)) (record { by = ByColumn (next r); descending = d })

pub data Keys : Read → List Token → Read → List OrderKey → Type 0 where
  one : {r s : Read} {ts : List Token} {k : OrderKey} → IsKey r ts s k → Keys r ts s (k ∷ [])
  more : {r s t : Read} {ts us : List Token} {ks : List OrderKey} {k : OrderKey} → Keys r ts s ks → IsKey s us t k
      → Keys r (ts ++ comma ∷ us) t (ks ++ k ∷ [])

-- [ORDER BY key {"," key}]
pub data Order : Read → List Token → Read → List OrderKey → Type 0 where
  left_out : {r : Read} → Order r [] r []
  given : {r s : Read} {ts : List Token} {ks : List OrderKey} → Keys r ts s ks → Order r (Word (codes "order") ∷ Word (codes "by") ∷ ts) s ks

-- SELECT [ALL | DISTINCT]
pub data Head : List Token → Bool → Type 0 where
  plain : Head (Word (codes "select") ∷ []) false
  all : Head (Word (codes "select") ∷ Word (codes "all") ∷ []) false
  distinct : Head (Word (codes "select") ∷ Word (codes "distinct") ∷ []) true

-- "*" | output {"," output}
pub data Columns : List Token → Read → Bool → List Output → Type 0 where
  by_star : Columns (star ∷ []) nothing_read true []
  by_outputs : {s : Read} {ts : List Token} {os : List Output} → Outputs nothing_read ts s os → Columns ts s false os

-- select, with its texts
pub data IsSelect : List Token → Query → List ℕ → Type 0 where
  select : {hs cs fs ws gs vs os : List Token} {a b c d e f : Read} {distinct star : Bool} {outputs : List Output} {tables : List FromTable}
      {filter having : Option ℕ} {group : List ℕ} {order : List OrderKey}
      → Head hs distinct → Columns cs a star outputs → Tables a fs b tables → Clause (codes "where") b ws c filter → Group c gs d group
      → Clause (codes "having") d vs e having → Order e os f order
      → IsSelect (hs ++ (cs ++ Word (codes "from") ∷ (fs ++ (ws ++ (gs ++ (vs ++ os))))))
      (record { distinct = distinct; star = star; outputs = outputs; tables = tables; filter = filter; group = group; having = having; order = order; nodes = f.nodes })
      f.texts

-- const = ["+" | "-"] number | text | NULL
pub data IsConstant : List ℕ → List Token → List ℕ → Literal → Type 0 where
  plain : {x : List ℕ} (ds : List ℕ) → IsConstant x (Digits ds ∷ []) x (literal.Int (pos (number_of ds)))
  positive : {x : List ℕ} (ds : List ℕ) → IsConstant x (plus ∷ Digits ds ∷ []) x (literal.Int (pos (number_of ds)))
  negative : {x : List ℕ} (ds : List ℕ) → IsConstant x (minus ∷ Digits ds ∷ []) x (literal.Int (neg_ℤ (pos (number_of ds))))
  text : {x : List ℕ} (t : List ℕ) → IsConstant x (Letters t ∷ []) (x ++ t) (literal.Text (record { at = length x; len = length t }))
  null : {x : List ℕ} → IsConstant x (Word (codes "null") ∷ []) x literal.Null

-- const {"," const}
pub data Constants : List ℕ → List Token → List ℕ → List Literal → Type 0 where
  one : {x y : List ℕ} {ts : List Token} {v : Literal} → IsConstant x ts y v → Constants x ts y (v ∷ [])
  more : {x y z : List ℕ} {ts us : List Token} {vs : List Literal} {v : Literal} → Constants x ts y vs → IsConstant y us z v
      → Constants x (ts ++ comma ∷ us) z (vs ++ v ∷ [])

-- tuple {"," tuple}: all values one behind the other, and the place behind each tuple's last
pub data Tuples : List ℕ → List Token → List ℕ → List Literal → List ℕ → Type 0 where
  one : {x y : List ℕ} {ts : List Token} {vs : List Literal} → Constants x ts y vs
      → Tuples x (open_sign ∷ (ts ++ close_sign ∷ [])) y vs (length vs ∷ [])
  more : {x y z : List ℕ} {ts us : List Token} {vs ws : List Literal} {es : List ℕ} → Tuples x ts y vs es → Constants y us z ws
      → Tuples x (ts ++ comma ∷ open_sign ∷ (us ++ close_sign ∷ [])) z (vs ++ ws) (es ++ (length vs + length ws) ∷ [])

-- name {"," name}
pub data Names : List Token → List (List ℕ) → Type 0 where
  one : (c : List ℕ) → IsName c → Names (Word c ∷ []) (c ∷ [])
  more : {ts : List Token} {cs : List (List ℕ)} (c : List ℕ) → IsName c → Names ts cs → Names (ts ++ comma ∷ Word c ∷ []) (cs ++ c ∷ [])

-- ["(" name {"," name} ")"]
pub data Listed : List Token → List (List ℕ) → Type 0 where
  left_out : Listed [] []
  given : {ts : List Token} {cs : List (List ℕ)} → Names ts cs → Listed (open_sign ∷ (ts ++ close_sign ∷ [])) cs

-- INTEGER | INT | VARCHAR "(" number ")"
pub data IsType : List Token → SqlType → Type 0 where
  integer : IsType (Word (codes "integer") ∷ []) Integer
  int : IsType (Word (codes "int") ∷ []) Integer
  varchar : (ds : List ℕ) → IsType (Word (codes "varchar") ∷ open_sign ∷ Digits ds ∷ close_sign ∷ []) (Varchar (number_of ds))

-- {NOT NULL | PRIMARY KEY | UNIQUE}, each at most once: whether each has been given
pub data Constraints : List Token → Bool → Bool → Bool → Type 0 where
  none : Constraints [] false false false
  not_null : {ts : List Token} {p u : Bool} → Constraints ts false p u → Constraints (ts ++ Word (codes "not") ∷ Word (codes "null") ∷ []) true p u
  primary_key : {ts : List Token} {n u : Bool} → Constraints ts n false u → Constraints (ts ++ Word (codes "primary") ∷ Word (codes "key") ∷ []) n true u
  unique : {ts : List Token} {n p : Bool} → Constraints ts n p false → Constraints (ts ++ Word (codes "unique") ∷ []) n p true

-- column = name type constraints
pub data IsNewColumn : List Token → NewColumn → Type 0 where
  column : {ts us : List Token} {ty : SqlType} {n p u : Bool} (c : List ℕ) → IsName c → IsType ts ty → Constraints us n p u
      → IsNewColumn (Word c ∷ (ts ++ us)) (record { column = record { name = c; ty = ty; not_null = n }; primary = p; unique = u })

pub data NewColumns : List Token → List NewColumn → Type 0 where
  one : {ts : List Token} {c : NewColumn} → IsNewColumn ts c → NewColumns ts (c ∷ [])
  more : {ts us : List Token} {cs : List NewColumn} {c : NewColumn} → NewColumns ts cs → IsNewColumn us c → NewColumns (ts ++ comma ∷ us) (cs ++ c ∷ [])

-- name "=" or {"," name "=" or}
pub data Sets : Read → List Token → Read → List (List ℕ × ℕ) → Type 0 where
  one : {r s : Read} {ts : List Token} {n : ℕ} (c : List ℕ) → IsName c → Whole r ts s n → Sets r (Word c ∷ equals ∷ ts) s ((c, n) ∷ [])
  more : {r s t : Read} {ts us : List Token} {xs : List (List ℕ × ℕ)} {n : ℕ} (c : List ℕ) → Sets r ts s xs → IsName c → Whole s us t n
      → Sets r (ts ++ comma ∷ Word c ∷ equals ∷ us) t (xs ++ (c, n) ∷ [])

-- [UNIQUE] of CREATE INDEX
pub data IsUnique : List Token → Bool → Type 0 where
  left_out : IsUnique [] false
  given : IsUnique (Word (codes "unique") ∷ []) true

-- command, with its texts
pub data IsCommand : List Token → CommandTree → List ℕ → Type 0 where
  create_table : {ts : List Token} {cs : List NewColumn} (t : List ℕ) → IsName t → NewColumns ts cs
      → IsCommand (Word (codes "create") ∷ Word (codes "table") ∷ Word t ∷ open_sign ∷ (ts ++ close_sign ∷ [])) (CreateTable (record { name = t; columns = cs })) []
  create_index : {us ts : List Token} {u : Bool} {cs : List (List ℕ)} (i t : List ℕ) → IsUnique us u → IsName i → IsName t → Names ts cs
      → IsCommand (Word (codes "create") ∷ (us ++ Word (codes "index") ∷ Word i ∷ Word (codes "on") ∷ Word t ∷ open_sign ∷ (ts ++ close_sign ∷ [])))
      (CreateIndex (record { name = i; table = t; unique = u; columns = cs })) []
  insert : {ts us : List Token} {cs : List (List ℕ)} {x : List ℕ} {vs : List Literal} {es : List ℕ} (t : List ℕ) → IsName t → Listed ts cs → Tuples [] us x vs es
      → IsCommand (Word (codes "insert") ∷ Word (codes "into") ∷ Word t ∷ (ts ++ Word (codes "values") ∷ us))
      (InsertRows (record { table = t; columns = cs; values = vs; ends = es })) x
  update : {ts us : List Token} {r s : Read} {xs : List (List ℕ × ℕ)} {f : Option ℕ} (t : List ℕ) → IsName t → Sets nothing_read ts r xs → Clause (codes "where") r us s f
      → IsCommand (Word (codes "update") ∷ Word t ∷ Word (codes "set") ∷ (ts ++ us)) (UpdateRows (record { table = t; sets = xs; filter = f; nodes = s.nodes })) s.texts
  delete : {ts : List Token} {r : Read} {f : Option ℕ} (t : List ℕ) → IsName t → Clause (codes "where") nothing_read ts r f
      → IsCommand (Word (codes "delete") ∷ Word (codes "from") ∷ Word t ∷ ts) (DeleteRows (record { table = t; filter = f; nodes = r.nodes })) r.texts
  vacuum : (t : List ℕ) → IsName t → IsCommand (Word (codes "vacuum") ∷ Word t ∷ []) (Vacuum t) []
  select : {ts : List Token} {q : Query} {x : List ℕ} → IsSelect ts q x → IsCommand ts (SelectRows q) x
  open_cursor : {ts : List Token} {q : Query} {x : List ℕ} (c : List ℕ) → IsName c → IsSelect ts q x
      → IsCommand (Word (codes "open") ∷ Word c ∷ Word (codes "for") ∷ ts) (OpenCursor c q) x
  start : (c ds : List ℕ) → IsName c → IsCommand (Word (codes "start") ∷ Word c ∷ Digits ds ∷ []) (Start c (number_of ds)) []
  work : (ds : List ℕ) → IsCommand (Word (codes "work") ∷ Digits ds ∷ []) (Work (number_of ds)) []
  fetch : (c ds : List ℕ) → IsName c → IsCommand (Word (codes "fetch") ∷ Word c ∷ Digits ds ∷ []) (Fetch c (number_of ds)) []
  close : (c : List ℕ) → IsName c → IsCommand (Word (codes "close") ∷ Word c ∷ []) (Close c) []
  pool : (ds : List ℕ) → IsCommand (Word (codes "pool") ∷ Digits ds ∷ []) (Pool (number_of ds)) []
  mpl : (ds : List ℕ) → IsCommand (Word (codes "mpl") ∷ Digits ds ∷ []) (Mpl (number_of ds)) []
  show_memory : IsCommand (Word (codes "show") ∷ Word (codes "memory") ∷ []) ShowMemory []

-- line = command [";"]
pub data IsLine : List Token → CommandTree → List ℕ → Type 0 where
  bare : {ts : List Token} {c : CommandTree} {x : List ℕ} → IsCommand ts c x → IsLine ts c x
  ended : {ts : List Token} {c : CommandTree} {x : List ℕ} → IsCommand ts c x → IsLine (ts ++ semicolon ∷ []) c x
