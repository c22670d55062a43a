-- Rows of a table, and what a condition without aggregates says of them.
use Rattle.std.specs.Prelude.{◌≡◌, ℕ, ℤ, pos, negsuc, suc, ◌<◌, ◌^◌, ◌&&◌, ◌||◌, nat_abs, nat_lt, Bool, true, false, List, [], ◌∷◌, ◌+◌, length, drop, Option, Some, slice_get, slice_index_or, unwrap_or}
use Rattle.std.specs.List.{list_any}
use Rattle.std.specs.Cmp.{first_so, second_so}
use Rattle.std.proofs.Common.{sym, ◌∙◌, ap, refl, arith, lt_of_lt_of_le}
use Rattle.std.proofs.lemmas.Bool.{false≢true}
use Rattle.std.proofs.lemmas.List.{drop_more}
use Rattle.std.proofs.lemmas.Option.{slice_get-get_or}
use borrow.Author.Tests.{ltb-true, lt-ltb}
use Rattle.hg_model.specs.Evaluation.{values_of}
use Rattle.hg_model.specs.SelectMeaning.{is_aggregate, leaves_of, row_leaf, node_values}
use Rattle.hg_model.specs.Tables.{fits_columns, fits_integer, fits_type, is_allowed}
use Rattle.hg_model.specs.Width.{is_small, is_small_row}
use Rattle.hg_model.specs.declared.trees.Column.{Column}
use Rattle.hg_model.specs.declared.trees.Node.{Node}
use Rattle.hg_model.specs.declared.trees.Node.TheVariants as node
use Rattle.hg_model.specs.declared.trees.SqlType.{SqlType}
use Rattle.hg_model.specs.declared.trees.SqlType.TheVariants.{Integer, Varchar}
use Rattle.hg_model.specs.declared.values.Value.{Value}
use Rattle.hg_model.specs.declared.values.Value.TheVariants.{Null, Int, Text}
use Rattle.hg_expr.specs.Over.{leaf_at, values_over}

both-none : (a b : Bool) → b ≡ false → (a && b) ≡ false
both-none true b h = h
both-none false b h = refl

-- a row of another length does not fit
pub unlike-lengths : (cs : List Column) (row : List Value) → (length cs ≡ length row → ⊥) → fits_columns cs row ≡ false
unlike-lengths [] [] h = absurd (h refl)
unlike-lengths [] (v ∷ vs) h = refl
unlike-lengths (c ∷ cs) [] h = refl
unlike-lengths (c ∷ cs) (v ∷ vs) h =
    both-none (fits_type c.ty v) (is_allowed c v && fits_columns cs vs) (both-none (is_allowed c v) (fits_columns cs vs) (unlike-lengths cs vs (λ e. h (ap suc e))))

-- a row that fits has small numbers
small-number : (x : ℤ) → fits_integer x ≡ true → nat_lt (nat_abs x) (2 ^ 32) ≡ true
small-number (pos n) h = lt-ltb n (2 ^ 32) (lt_of_lt_of_le (ltb-true n (2 ^ 31) h) (omega arith))
small-number (negsuc n) h = lt-ltb (suc n) (2 ^ 32) (let below = ltb-true n (2 ^ 31) h in omega arith)

small-value : (ty : SqlType) (v : Value) → fits_type ty v ≡ true → is_small v ≡ true
small-value ty Null h = refl
small-value ty (Text t) h = refl
small-value Integer (Int x) h = small-number x h
small-value (Varchar n) (Int x) h = absurd (false≢true h)

pub small-row : (columns : List Column) (row : List Value) → fits_columns columns row ≡ true → is_small_row row ≡ true
small-row [] [] h = refl
small-row [] (v ∷ row) h = absurd (false≢true h)
small-row (c ∷ cs) [] h = absurd (false≢true h)
small-row (c ∷ cs) (v ∷ row) h =
    ap (λ b. b && is_small_row row) (small-value c.ty v (first_so (fits_type c.ty v) (is_allowed c v && fits_columns cs row) h))
    ∙ small-row cs row (second_so (is_allowed c v) (fits_columns cs row) (second_so (fits_type c.ty v) (is_allowed c v && fits_columns cs row) h))

-- where there is no aggregate, the nodes stand for what the definitions say
one-leaf : (row : List Value) (n : Node) (s : ℕ) → is_aggregate n ≡ false → leaf_at row n s ≡ row_leaf row n s
one-leaf row (node.Lit l) s h = refl
one-leaf row (node.Col c) s h = refl
one-leaf row (node.Neg a) s h = refl
one-leaf row (node.Arith o a b) s h = refl
one-leaf row (node.Compare o a b) s h = refl
one-leaf row (node.Both a b) s h = refl
one-leaf row (node.Either a b) s h = refl
one-leaf row (node.Not a) s h = refl
one-leaf row (node.IsNull a) s h = refl
one-leaf row (node.NotNull a) s h = refl
one-leaf row (node.Aggregate f a) s h = absurd (false≢true (sym h))

either-first : (a b : Bool) → (a || b) ≡ false → a ≡ false
either-first true b h = h
either-first false b h = refl

either-second : (a b : Bool) → (a || b) ≡ false → b ≡ false
either-second true b h = absurd (false≢true (sym h))
either-second false b h = h

same-leaves : (row : List Value) (nodes : List Node) (slots : List ℕ) → list_any is_aggregate nodes ≡ false
    → leaves_of (leaf_at row) nodes slots ≡ leaves_of (row_leaf row) nodes slots
same-leaves row [] slots h = refl
same-leaves row (n ∷ ns) [] h = refl
same-leaves row (n ∷ ns) (s ∷ ss) h =
    ap (λ v. v ∷ leaves_of (leaf_at row) ns ss) (one-leaf row n s (either-first (is_aggregate n) (list_any is_aggregate ns) h))
    ∙ ap (λ vs. row_leaf row n s ∷ vs) (same-leaves row ns ss (either-second (is_aggregate n) (list_any is_aggregate ns) h))

pub same-values : (texts slots : List ℕ) (nodes : List Node) (row : List Value) → list_any is_aggregate nodes ≡ false
    → values_over texts slots nodes row ≡ node_values texts slots nodes row
unfolding values_over
same-values texts slots nodes row h = ap (λ vs. values_of vs texts nodes) (same-leaves row nodes slots h)

-- a row that fits from one column on
and-in-two : (a b r : Bool) → (a && (b && r)) ≡ ((a && b) && r)
and-in-two true b r = refl
and-in-two false b r = refl

some-one : {X : Type 0} (a b : X) → Some a ≡ Some b → a ≡ b
some-one {X} a b e = ap (λ (o : Option X). unwrap_or o a) e

pub fits-more : (columns : List Column) (row : List Value) (k : ℕ) (c : Column) (v : Value) → k < length columns → k < length row
    → c ≡ slice_index_or columns k c → slice_get row k ≡ Some v
    → fits_columns (drop k columns) (drop k row) ≡ ((fits_type c.ty v && is_allowed c v) && fits_columns (drop (k + 1) columns) (drop (k + 1) row))
fits-more columns row k c v in_columns in_row is at =
    let here : v ≡ slice_index_or row k v = some-one v (slice_index_or row k v) (sym at ∙ slice_get-get_or row k v in_row) in
    ap (λ cs. fits_columns cs (drop k row)) (drop_more columns k c in_columns ∙ ap (λ x. x ∷ drop (k + 1) columns) (sym is))
    ∙ ap (fits_columns (c ∷ drop (k + 1) columns)) (drop_more row k v in_row ∙ ap (λ x. x ∷ drop (k + 1) row) (sym here))
    ∙ and-in-two (fits_type c.ty v) (is_allowed c v) (fits_columns (drop (k + 1) columns) (drop (k + 1) row))
