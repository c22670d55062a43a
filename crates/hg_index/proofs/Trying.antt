-- Rows of two short values, as tests have them.
use Rattle.std.specs.Prelude.{◌≡◌, ℕ, ◌*◌, ◌<◌, ◌≤◌, zero, suc, List, [], ◌∷◌, ◌++◌, length}
use Rattle.std.specs.List.{AllByRecursion}
use Rattle.std.proofs.Common.{sym, subst, refl, arith, length-append}
use Rattle.hg_model.specs.Evaluation.{value_at}
use Rattle.hg_model.specs.declared.values.Value.{Value}
use Rattle.hg_value.specs.Keys.{index_key, index_key_length}
use Rattle.hg_value.specs.Laws.{IsIndexed, IndexKeysAreAsLong}
use Rattle.hg_value.specs.Looks.{chosen}
use Rattle.hg_index.specs.Entering.{row_key, MayBeEntered}

-- a value whose key is short
pub record IsShort (v : Value) : Type 0 where
  pub indexed : IsIndexed v
  pub short : index_key_length v ≤ 5

at_two : (v w : Value) (k : ℕ) → IsShort v → IsShort w → k < 2 → IsShort (value_at (v ∷ w ∷ []) k)
at_two v w zero h g l = h
at_two v w (suc zero) h g l = g
at_two v w (suc (suc k)) h g l = absurd (omega arith)

indexed_two : (v w : Value) (columns : List ℕ) → IsShort v → IsShort w → AllByRecursion (λ k. k < 2) columns → AllByRecursion IsIndexed (chosen (v ∷ w ∷ []) columns)
indexed_two v w [] h g l = tt
indexed_two v w (k ∷ columns) h g l = ((at_two v w k h g l.0).indexed, indexed_two v w columns h g l.1)

short_two : IndexKeysAreAsLong → (v w : Value) (columns : List ℕ) → IsShort v → IsShort w → AllByRecursion (λ k. k < 2) columns
    → length (row_key columns (v ∷ w ∷ [])) ≤ 5 * length columns
short_two long v w [] h g l = omega arith
short_two long v w (k ∷ columns) h g l =
    let row : List Value = v ∷ w ∷ [] in
    let a = length-append (index_key (value_at row k)) (row_key columns row) in
    let b = long (value_at row k) in
    let c = (at_two v w k h g l.0).short in
    let r = short_two long v w columns h g l.1 in
    let e : length (row_key (k ∷ columns) row) ≡ length (index_key (value_at row k) ++ row_key columns row) = refl in
    omega arith

pub pair_enters : IndexKeysAreAsLong → (v w : Value) (row : List Value) → row ≡ v ∷ w ∷ [] → IsShort v → IsShort w
    → (columns : List ℕ) → AllByRecursion (λ k. k < 2) columns → length columns ≤ 2 → MayBeEntered columns row
pair_enters long v w row e h g columns l few = subst (MayBeEntered columns) (sym e) (record {
  there = l;
  indexed = indexed_two v w columns h g l;
  short = let s = short_two long v w columns h g l in omega arith;
})
