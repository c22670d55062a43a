-- The columns of FROM by the positions of their tables, and places in a row of the cross product.
use Rattle.std.specs.Prelude.{◌≡◌, ℕ, zero, suc, ◌+◌, ◌-◌, ◌<◌, ◌≤◌, ◌&&◌, Bool, true, false, List, [], ◌∷◌, ◌++◌, length, map, nat_le, not, slice_index, slice_index_or, ⊤, if◌then◌else◌}
use Rattle.std.specs.List.{AllByRecursion, flat_map, position_or_len, range_with_len}
use Rattle.std.proofs.Common.{◌∙◌, ap, subst, refl, arith}
use Rattle.std.proofs.lemmas.Bool.{false≢true}
use Rattle.std.proofs.lemmas.Bool.Decides.{nat_tests}
use Rattle.std.proofs.lemmas.List.{get_or_append_left, get_or-append-add}
use Rattle.hg_bind.specs.BoundSelect.{sum_before, widths_of}
use Rattle.hg_bind.specs.Laws.{HasColumn, HaveColumns}
use Rattle.hg_expr.specs.Laws.{AreOnePlaces, IsOnePlace}
use Rattle.hg_model.specs.Conditions.{are_there, table_at}
use Rattle.hg_model.specs.Evaluation.{value_at}
use Rattle.hg_model.specs.Scope.{columns_from, columns_of, scope_from}
use Rattle.hg_model.specs.Tables.{Table, table_named}
use Rattle.hg_model.specs.declared.tables.FromColumn.{FromColumn}
use Rattle.hg_model.specs.declared.trees.Column.{Column}
use Rattle.hg_model.specs.declared.trees.FromTable.{FromTable}
use Rattle.hg_model.specs.declared.trees.Node.{Node}
use Rattle.hg_model.specs.declared.trees.Node.TheVariants as node
use Rattle.hg_model.specs.declared.values.Value.{Value}
use Rattle.hg_model.specs.declared.values.Value.TheVariants.{Null}
use Rattle.hg_exec.specs.Meaning.{choices}
use Rattle.hg_plan.specs.Planning.{AreOfTables, IsOfTable}

-- ---- the table of a column of FROM

here : (t : ℕ) (alias : List ℕ) (place : ℕ) (cs : List Column) (rest : List FromColumn) (p : ℕ) → p < length cs → table_at (columns_from t alias place cs ++ rest) p ≡ t
here t alias place [] rest p lt = absurd (omega arith)
here t alias place (c ∷ cs) rest zero lt = refl
here t alias place (c ∷ cs) rest (suc p) lt = here t alias (suc place) cs rest p (omega arith)

behind : (t : ℕ) (alias : List ℕ) (place : ℕ) (cs : List Column) (rest : List FromColumn) (p more : ℕ) → p ≡ length cs + more
    → table_at (columns_from t alias place cs ++ rest) p ≡ table_at rest more
behind t alias place [] rest p more e = let same : p ≡ more = omega arith in ap (table_at rest) same
behind t alias place (c ∷ cs) rest zero more e = absurd (omega arith)
behind t alias place (c ∷ cs) rest (suc p) more e = behind t alias (suc place) cs rest p more (omega arith)

pub table-of : (ts : List Table) (k : ℕ) (froms : List FromTable) (t c p : ℕ) → t < length (widths_of ts froms) → c < slice_index (widths_of ts froms) t
    → p ≡ sum_before (widths_of ts froms) t + c → table_at (scope_from ts k froms) p ≡ k + t
table-of ts k [] t c p lt inside e = absurd (omega arith)
table-of ts k (f ∷ fs) zero c p lt inside e =
    let same : k ≡ k + 0 = omega arith in
    here k f.alias 0 (columns_of (table_named ts f.table)) (scope_from ts (suc k) fs) p (omega arith) ∙ same
table-of ts k (f ∷ fs) (suc t) c p lt inside e =
    let same : suc k + t ≡ k + suc t = omega arith in
    behind k f.alias 0 (columns_of (table_named ts f.table)) (scope_from ts (suc k) fs) p (sum_before (widths_of ts fs) t + c) (omega arith)
    ∙ table-of ts (suc k) fs t c (sum_before (widths_of ts fs) t + c) (omega arith) inside refl ∙ same

below-columns : (n t : ℕ) (alias : List ℕ) (place : ℕ) (cs : List Column) (rest : List FromColumn) → t < n → ((p : ℕ) → table_at rest p < n)
    → (p : ℕ) → table_at (columns_from t alias place cs ++ rest) p < n
below-columns n t alias place [] rest lt more p = more p
below-columns n t alias place (c ∷ cs) rest lt more zero = lt
below-columns n t alias place (c ∷ cs) rest lt more (suc p) = below-columns n t alias (suc place) cs rest lt more p

-- each column is of a table of FROM
pub tables-below : (ts : List Table) (k n : ℕ) (froms : List FromTable) → 0 < n → k + length froms ≤ n → (p : ℕ) → table_at (scope_from ts k froms) p < n
tables-below ts k n [] some few p = some
tables-below ts k n (f ∷ fs) some few p =
    below-columns n k f.alias 0 (columns_of (table_named ts f.table)) (scope_from ts (suc k) fs) (omega arith) (tables-below ts (suc k) n fs some (omega arith)) p

both-so : (a b : Bool) → a ≡ true → b ≡ true → (a && b) ≡ true
both-so true b h k = k
both-so false b h k = absurd (false≢true h)

-- so all are there at the last one
pub there-at-last : (scope : List FromColumn) (n : ℕ) → ((p : ℕ) → table_at scope p < n) → (ps : List ℕ) → are_there scope ps (n - 1) ≡ true
there-at-last scope n below [] = refl
there-at-last scope n below (p ∷ ps) =
    let one = below p in
    let so : nat_le (table_at scope p) (n - 1) ≡ true = grind (arith, nat_tests) in
    both-so (nat_le (table_at scope p) (n - 1)) (are_there scope ps (n - 1)) so (there-at-last scope n below ps)

pub first-within : (p : ℕ → Bool) (a n m : ℕ) → m < n → p (a + m) ≡ true → position_or_len p (range_with_len a n) < n
first-within p a zero m lt h = absurd (omega arith)
first-within p a (suc n) zero lt h = by (p a) (let same : a ≡ a + 0 = omega arith in ap p same ∙ h)
  where
    by : (b : Bool) → b ≡ true → (if not b then 1 + position_or_len p (range_with_len (a + 1) n) else 0) < suc n
    by true e = omega arith
    by false e = absurd (false≢true e)
first-within p a (suc n) (suc m) lt h =
    by (p a) (first-within p (a + 1) n m (omega arith) (let same : a + 1 + m ≡ a + suc m = omega arith in ap p same ∙ h))
  where
    by : (b : Bool) → position_or_len p (range_with_len (a + 1) n) < n → (if not b then 1 + position_or_len p (range_with_len (a + 1) n) else 0) < suc n
    by true more = omega arith
    by false more = omega arith

-- ---- places of nodes

module _ (scope : List FromColumn) (widths : List ℕ) (at : ℕ × ℕ → ℕ)
    (is-at : (place : ℕ × ℕ) → place.0 < length widths → place.1 < slice_index widths place.0 → at place ≡ sum_before widths place.0 + place.1)
    (table-is : (t c p : ℕ) → t < length widths → c < slice_index widths t → p ≡ sum_before widths t + c → table_at scope p ≡ t) where
  of-table : (n : Node) (place : ℕ × ℕ) → HasColumn widths n place → IsOfTable scope n (at place) place
  of-table (node.Col c) place h = table-is place.0 place.1 (at place) h.0 h.1 (is-at place h.0 h.1)
  of-table _ place h = tt

  pub of-tables : (ns : List Node) (places : List (ℕ × ℕ)) → HaveColumns widths ns places → AreOfTables scope ns (map at places) places
  of-tables [] [] h = tt
  of-tables [] (p ∷ ps) h = absurd h
  of-tables (n ∷ ns) [] h = absurd h
  of-tables (n ∷ ns) (p ∷ ps) h = (of-table n p h.0, of-tables ns ps h.1)

  -- one row of each table, of these widths
  module _ (rows : List (List Value)) (wide : map length rows ≡ widths) (few : length widths ≤ 4) (narrow : (t : ℕ) → slice_index widths t ≤ 16) where
    value-in : (rows : List (List Value)) (t c p : ℕ) → t < length (map length rows) → c < slice_index (map length rows) t → p ≡ sum_before (map length rows) t + c
        → value_at (flat_map (λ row. row) rows) p ≡ value_at (slice_index_or rows t []) c
    value-in [] t c p lt inside e = absurd (omega arith)
    value-in (row ∷ rows) zero c p lt inside e =
        let same : p ≡ c = omega arith in
        ap (value_at (row ++ flat_map (λ row. row) rows)) same ∙ get_or_append_left row (flat_map (λ row. row) rows) Null c inside
    value-in (row ∷ rows) (suc t) c p lt inside e =
        let same : p ≡ length row + (sum_before (map length rows) t + c) = omega arith in
        ap (value_at (row ++ flat_map (λ row. row) rows)) same
        ∙ get_or-append-add row (flat_map (λ row. row) rows) (sum_before (map length rows) t + c) Null
        ∙ value-in rows t c (sum_before (map length rows) t + c) (omega arith) inside refl

    value-is : (t c p : ℕ) → t < length widths → c < slice_index widths t → p ≡ sum_before widths t + c
        → value_at (flat_map (λ row. row) rows) p ≡ value_at (slice_index_or rows t []) c
    value-is =
        subst (λ ws. (t c p : ℕ) → t < length ws → c < slice_index ws t → p ≡ sum_before ws t + c → value_at (flat_map (λ row. row) rows) p ≡ value_at (slice_index_or rows t []) c)
        wide (value-in rows)

    one-place : (n : Node) (place : ℕ × ℕ) → HasColumn widths n place → IsOnePlace scope rows n (at place) place
    one-place (node.Col c) place h =
        let most = narrow place.0 in
        record {
          table = let lt = h.0 in omega arith;
          column = let lt = h.1 in omega arith;
          same_table = table-is place.0 place.1 (at place) h.0 h.1 (is-at place h.0 h.1);
          same_value = value-is place.0 place.1 (at place) h.0 h.1 (is-at place h.0 h.1);
        }
    one-place (node.Aggregate f a) place h = λ first. let second : place.1 ≡ 255 = ap (λ (p : ℕ × ℕ). p.1) h in omega arith
    one-place _ place h = tt

    pub one-places : (ns : List Node) (places : List (ℕ × ℕ)) → HaveColumns widths ns places → AreOnePlaces scope rows ns (map at places) places
    one-places [] [] h = tt
    one-places [] (p ∷ ps) h = absurd h
    one-places (n ∷ ns) [] h = absurd h
    one-places (n ∷ ns) (p ∷ ps) h = (one-place n p h.0, one-places ns ps h.1)

-- ---- one row of each table

abbrev pub AreWide : List (List (List Value)) → List ℕ → Type 0
AreWide [] [] = ⊤
AreWide [] (w ∷ ws) = ⊥
AreWide (rows ∷ more) [] = ⊥
AreWide (rows ∷ more) (w ∷ ws) = AllByRecursion (λ row. length row ≡ w) rows × AreWide more ws

beside : (w : ℕ) (ws : List ℕ) (row : List Value) → length row ≡ w → (inner outer : List (List (List Value))) → AllByRecursion (λ rest. map length rest ≡ ws) inner
    → AllByRecursion (λ rows. map length rows ≡ w ∷ ws) outer → AllByRecursion (λ rows. map length rows ≡ w ∷ ws) (map (λ rest. row ∷ rest) inner ++ outer)
beside w ws row e [] outer h k = k
beside w ws row e (rest ∷ inner) outer h k = (ap (λ n. n ∷ map length rest) e ∙ ap (λ ns. w ∷ ns) h.0, beside w ws row e inner outer h.1 k)

all-beside : (w : ℕ) (ws : List ℕ) (inner : List (List (List Value))) → AllByRecursion (λ rest. map length rest ≡ ws) inner → (rows : List (List Value))
    → AllByRecursion (λ row. length row ≡ w) rows → AllByRecursion (λ chosen. map length chosen ≡ w ∷ ws) (flat_map (λ row. map (λ rest. row ∷ rest) inner) rows)
all-beside w ws inner h [] e = tt
all-beside w ws inner h (row ∷ rows) e = beside w ws row e.0 inner (flat_map (λ row. map (λ rest. row ∷ rest) inner) rows) h (all-beside w ws inner h rows e.1)

pub choices-wide : (tables : List (List (List Value))) (ws : List ℕ) → AreWide tables ws → AllByRecursion (λ chosen. map length chosen ≡ ws) (choices tables)
choices-wide [] [] h = (refl, tt)
choices-wide [] (w ∷ ws) h = absurd h
choices-wide (rows ∷ more) [] h = absurd h
choices-wide (rows ∷ more) (w ∷ ws) h = all-beside w ws (choices more) (choices-wide more ws h.1) rows h.0
