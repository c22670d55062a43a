-- Keys of rows, column after column.
use Rattle.std.specs.Prelude.{◌≡◌, ℕ, ◌+◌, ◌<◌, ◌≤◌, List, [], ◌∷◌, ◌++◌, length, drop, Some, slice_get, slice_index_or}
use Rattle.std.specs.List.{AllByRecursion}
use Rattle.std.proofs.Common.{sym, ◌∙◌, ap, subst, arith, append_assoc, append-nil, length-append, drop_of_length-le}
use Rattle.std.proofs.lemmas.List.{drop_more}
use Rattle.std.proofs.lemmas.Option.{get_or_from_slice_get}
use Rattle.hg_model.specs.Evaluation.{value_at}
use Rattle.hg_model.specs.declared.values.Value.{Value}
use Rattle.hg_model.specs.declared.values.Value.TheVariants.{Null}
use Rattle.hg_value.specs.Keys.{index_key}
use Rattle.hg_value.specs.Laws.{IsIndexed}
use Rattle.hg_value.specs.Looks.{chosen}
use Rattle.hg_index.specs.Entering.{row_key, MayBeEntered}

-- The keys of the columns before the one at this place were put, and those from there on may be.
pub record IsKeyedUpTo (columns : List ℕ) (row : List Value) (at : ℕ) (key : List ℕ) : Type 0 where
  pub there : AllByRecursion (λ k. k < length row) (drop at columns)
  pub indexed : AllByRecursion IsIndexed (chosen row (drop at columns))
  pub whole : key ++ row_key (drop at columns) row ≡ row_key columns row
  pub short : length (row_key columns row) ≤ 512

pub keyed_none : (columns : List ℕ) (row : List Value) (key : List ℕ) → MayBeEntered columns row → key ≡ [] → IsKeyedUpTo columns row 0 key
keyed_none columns row key m e = record {
  there = m.there;
  indexed = m.indexed;
  whole = ap (λ k. k ++ row_key columns row) e;
  short = m.short;
}

-- the column at this place
pub record IsColumn (columns : List ℕ) (row : List Value) (at : ℕ) (key : List ℕ) (v : Value) : Type 0 where
  pub indexed : IsIndexed v
  pub rest_there : AllByRecursion (λ k. k < length row) (drop (at + 1) columns)
  pub rest_indexed : AllByRecursion IsIndexed (chosen row (drop (at + 1) columns))
  pub whole : key ++ (index_key v ++ row_key (drop (at + 1) columns) row) ≡ row_key columns row
  pub short : length (row_key columns row) ≤ 512

here : (columns : List ℕ) (at : ℕ) → at < length columns → drop at columns ≡ slice_index_or columns at 0 ∷ drop (at + 1) columns
here columns at h = drop_more columns at 0 h

pub keyed_there : (columns : List ℕ) (row : List Value) (at : ℕ) (key : List ℕ) → at < length columns → IsKeyedUpTo columns row at key → slice_index_or columns at 0 < length row
keyed_there columns row at key l k = (subst (AllByRecursion (λ j. j < length row)) (here columns at l) k.there).0

pub keyed_column : (columns : List ℕ) (row : List Value) (at : ℕ) (key : List ℕ) (v : Value) → at < length columns → IsKeyedUpTo columns row at key
    → slice_get row (slice_index_or columns at 0) ≡ Some v → IsColumn columns row at key v
keyed_column columns row at key v l k g =
    let e : value_at row (slice_index_or columns at 0) ≡ v = get_or_from_slice_get row (slice_index_or columns at 0) v Null g in
    let t = subst (AllByRecursion (λ j. j < length row)) (here columns at l) k.there in
    let i = subst (λ c. AllByRecursion IsIndexed (chosen row c)) (here columns at l) k.indexed in
    record {
      indexed = subst IsIndexed e i.0;
      rest_there = t.1;
      rest_indexed = i.1;
      whole = ap (λ w. key ++ (index_key w ++ row_key (drop (at + 1) columns) row)) (sym e) ∙ ap (λ c. key ++ row_key c row) (sym (here columns at l)) ∙ k.whole;
      short = k.short;
    }

-- the key of the column has room
pub column_fits : (columns : List ℕ) (row : List Value) (at : ℕ) (key : List ℕ) (v : Value) → IsColumn columns row at key v → length key + length (index_key v) ≤ 512
column_fits columns row at key v c =
    let rest = row_key (drop (at + 1) columns) row in
    let a = length-append key (index_key v ++ rest) in
    let b = length-append (index_key v) rest in
    let d = ap length c.whole in
    let e = c.short in
    omega arith

pub keyed_more : (columns : List ℕ) (row : List Value) (at : ℕ) (key now : List ℕ) (v : Value) → IsColumn columns row at key v → now ≡ key ++ index_key v
    → IsKeyedUpTo columns row (at + 1) now
keyed_more columns row at key now v c e = record {
  there = c.rest_there;
  indexed = c.rest_indexed;
  whole = ap (λ k. k ++ row_key (drop (at + 1) columns) row) e ∙ append_assoc key (index_key v) (row_key (drop (at + 1) columns) row) ∙ c.whole;
  short = c.short;
}

pub keyed_all : (columns : List ℕ) (row : List Value) (at : ℕ) (key : List ℕ) → length columns ≤ at → IsKeyedUpTo columns row at key → key ≡ row_key columns row
keyed_all columns row at key l k =
    sym (append-nil key) ∙ ap (λ c. key ++ row_key c row) (sym (drop_of_length-le columns {i = at} l)) ∙ k.whole
