-- Rows against which nothing stands fit their columns, and can be stored.
use Rattle.std.specs.Prelude.{◌≡◌, ℕ, ℤ, pos, negsuc, zero, suc, ◌+◌, ◌<◌, ◌≤◌, ◌&&◌, ◌||◌, not, Bool, true, false, List, [], ◌∷◌, ◌++◌, length, map, take, drop, Option, Some, None, slice_get, FitsSigned, nat_le, nat_lt, slice_index_or, ⊤, if◌then◌else◌}
use Rattle.std.specs.Int.{w128}
use Rattle.std.specs.List.{AllByRecursion, list_any, list_all}
use Rattle.std.proofs.Common.{sym, ◌∙◌, ap, subst, refl, arith, length-append, length-take}
use Rattle.std.proofs.lemmas.Bool.Decides.{nat_tests}
use Rattle.std.proofs.lemmas.Bool.{false≢true}
use Rattle.std.proofs.lemmas.List.{length-map}
use Rattle.std.proofs.lemmas.Option.{none-some}
use Rattle.hg_model.specs.Changes.{first_column, null_cause, fit_cause, long_cause, row_length, tuples_from}
use Rattle.hg_model.specs.Evaluation.{value_at, literal_value}
use Rattle.hg_model.specs.NullLogic.{is_null}
use Rattle.hg_model.specs.Refusal.{Refusal, NullNotAllowed, DoesNotFit, RowTooLong}
use Rattle.hg_model.specs.Tables.{fits_columns, fits_integer, fits_type, is_allowed}
use Rattle.hg_model.specs.Value.{is_printable}
use Rattle.hg_model.specs.declared.trees.Column.{Column}
use Rattle.hg_model.specs.declared.trees.Literal.{Literal}
use Rattle.hg_model.specs.declared.trees.Literal.TheVariants as literal
use Rattle.hg_model.specs.declared.trees.SqlType.{SqlType}
use Rattle.hg_model.specs.declared.trees.SqlType.TheVariants.{Integer, Varchar}
use Rattle.hg_model.specs.declared.values.Value.{Value}
use Rattle.hg_model.specs.declared.values.Value.TheVariants.{Null, Int, Text}
use Rattle.hg_value.specs.Coding.{coding, coded, IsHeld, IsStorable, HasRoom}
use Rattle.hg_value.specs.Laws.{RowsAreAsLong}
use Rattle.hg_dml.specs.Fitting.{IsSmallType, AreSmall, AreReady}
use Rattle.hg_dml.specs.Rows.{rows_cause}
use Rattle.hg_dml.specs.Steps.{FitRows, IsShort}
use Rattle.hg_dml.specs.Tuples.{constant_value, value_in, row_from, rows_from}
use Rattle.hg_dml.proofs.FirstCauses.{none-of}

or-left : (a b : Bool) → (a || b) ≡ false → a ≡ false
or-left true b h = h
or-left false b h = refl

or-right : (a b : Bool) → (a || b) ≡ false → b ≡ false
or-right true b h = absurd (false≢true (sym h))
or-right false b h = h

under-left : (a b c : Bool) → (a && (b || c)) ≡ false → (a && b) ≡ false
under-left true b c h = or-left b c h
under-left false b c h = refl

under-right : (a b c : Bool) → (a && (b || c)) ≡ false → (a && c) ≡ false
under-right true b c h = or-right b c h
under-right false b c h = refl

both-hold : (a b : Bool) → a ≡ true → b ≡ true → (a && b) ≡ true
both-hold a b x y = ap (λ t. t && b) x ∙ y

not-false : (a : Bool) → not a ≡ false → a ≡ true
not-false true h = refl
not-false false h = absurd (false≢true (sym h))

not-true : (a : Bool) → a ≡ false → not a ≡ true
not-true true h = absurd (false≢true (sym h))
not-true false h = refl

none-at : (t : ℕ → Column → Bool) (cause : List ℕ → Refusal) (k : ℕ) (c : Column) (cs : List Column) → first_column t cause k (c ∷ cs) ≡ None
    → (t k c ≡ false) × (first_column t cause (suc k) cs ≡ None)
none-at t cause k c cs h = parts (t k c) (cause c.name) (first_column t cause (suc k) cs) h
  where
    parts : (b : Bool) (r : Refusal) (o : Option Refusal) → (if b then Some r else o) ≡ None → (b ≡ false) × (o ≡ None)
    parts true r o h = absurd (none-some r (sym h))
    parts false r o h = (refl, h)

-- a cause that stands against no column, by a test that holds less often
none-fewer : (t u : ℕ → Column → Bool) (cause : List ℕ → Refusal) (k : ℕ) (columns : List Column) → ((j : ℕ) (c : Column) → t j c ≡ false → u j c ≡ false)
    → first_column t cause k columns ≡ None → first_column u cause k columns ≡ None
none-fewer t u cause k [] less h = refl
none-fewer t u cause k (c ∷ cs) less h =
    let parts = none-at t cause k c cs h in
    ap (λ b. if b then Some (cause c.name) else first_column u cause (suc k) cs) (less k c parts.0) ∙ none-fewer t u cause (suc k) cs less parts.1

abbrev null_in : List Value → ℕ → Column → Bool
null_in row k c = c.not_null && is_null (value_at row k)

abbrev misfit_in : List Value → ℕ → Column → Bool
misfit_in row k c = not (fits_type c.ty (value_at row k))

-- of a row, from one column on
fits-from : (row : List Value) (columns : List Column) (k : ℕ) (vs : List Value) → ((i : ℕ) → value_at row (k + i) ≡ value_at vs i) → length vs ≡ length columns
    → first_column (null_in row) NullNotAllowed k columns ≡ None → first_column (misfit_in row) DoesNotFit k columns ≡ None → fits_columns columns vs ≡ true
fits-from row [] k [] at long n f = refl
fits-from row [] k (v ∷ vs) at long n f = absurd (omega arith)
fits-from row (c ∷ cs) k [] at long n f = absurd (omega arith)
fits-from row (c ∷ cs) k (v ∷ vs) at long n f =
    let nulls = none-at (null_in row) NullNotAllowed k c cs n in
    let fits = none-at (misfit_in row) DoesNotFit k c cs f in
    let here : value_at row k ≡ v = ap (value_at row) (let e : k ≡ k + 0 = omega arith in e) ∙ at 0 in
    let one : fits_type c.ty v ≡ true = not-false (fits_type c.ty v) (ap (λ w. not (fits_type c.ty w)) (sym here) ∙ fits.0) in
    let two : is_allowed c v ≡ true = not-true (c.not_null && is_null v) (ap (λ w. c.not_null && is_null w) (sym here) ∙ nulls.0) in
    let rest : fits_columns cs vs ≡ true =
    fits-from row cs (suc k) vs (λ i. ap (value_at row) (let e : suc k + i ≡ k + suc i = omega arith in e) ∙ at (suc i)) (let l : length vs ≡ length cs = omega arith in l) nulls.1 fits.1 in
    both-hold (fits_type c.ty v) (is_allowed c v && fits_columns cs vs) one (both-hold (is_allowed c v) (fits_columns cs vs) two rest)

pub fit-rows : (columns : List Column) (rows : List (List Value)) → AllByRecursion (λ row. length row ≡ length columns) rows
    → null_cause columns rows ≡ None → fit_cause columns rows ≡ None → FitRows columns rows
fit-rows columns [] long n f = tt
fit-rows columns (r ∷ rs) long n f = (
  fits-from r columns 0 r (λ i. ap (value_at r) (let e : 0 + i ≡ i = omega arith in e)) long.0
      (none-fewer (λ k (c : Column). c.not_null && (is_null (value_at r k) || list_any (λ row. is_null (value_at row k)) rs)) (null_in r) NullNotAllowed 0 columns
      (λ j c h. under-left c.not_null (is_null (value_at r j)) (list_any (λ row. is_null (value_at row j)) rs) h) n)
      (none-fewer (λ k (c : Column). not (fits_type c.ty (value_at r k)) || list_any (λ row. not (fits_type c.ty (value_at row k))) rs) (misfit_in r) DoesNotFit 0 columns
      (λ j c h. or-left (not (fits_type c.ty (value_at r j))) (list_any (λ row. not (fits_type c.ty (value_at row j))) rs) h) f),
  fit-rows columns rs long.1
      (none-fewer (λ k (c : Column). c.not_null && (is_null (value_at r k) || list_any (λ row. is_null (value_at row k)) rs))
      (λ k (c : Column). c.not_null && list_any (λ row. is_null (value_at row k)) rs) NullNotAllowed 0 columns
      (λ j c h. under-right c.not_null (is_null (value_at r j)) (list_any (λ row. is_null (value_at row j)) rs) h) n)
      (none-fewer (λ k (c : Column). not (fits_type c.ty (value_at r k)) || list_any (λ row. not (fits_type c.ty (value_at row k))) rs)
      (λ k (c : Column). list_any (λ row. not (fits_type c.ty (value_at row k))) rs) DoesNotFit 0 columns
      (λ j c h. or-right (not (fits_type c.ty (value_at r j))) (list_any (λ row. not (fits_type c.ty (value_at row j))) rs) h) f),
)

-- texts of printable characters
abbrev pub IsPrintable : Value → Type 0
IsPrintable Null = ⊤
IsPrintable (Int x) = ⊤
IsPrintable (Text t) = list_all is_printable t ≡ true

and-left : (a b : Bool) → (a && b) ≡ true → a ≡ true
and-left true b h = refl
and-left false b h = absurd (false≢true h)

and-right : (a b : Bool) → (a && b) ≡ true → b ≡ true
and-right true b h = h
and-right false b h = absurd (false≢true h)

all-dropped : (p : ℕ → Bool) (n : ℕ) (xs : List ℕ) → list_all p xs ≡ true → list_all p (drop n xs) ≡ true
all-dropped p zero xs h = h
all-dropped p (suc n) [] h = refl
all-dropped p (suc n) (x ∷ xs) h = all-dropped p n xs (and-right (p x) (list_all p xs) h)

all-taken : (p : ℕ → Bool) (n : ℕ) (xs : List ℕ) → list_all p xs ≡ true → list_all p (take n xs) ≡ true
all-taken p zero xs h = refl
all-taken p (suc n) [] h = refl
all-taken p (suc n) (x ∷ xs) h =
    both-hold (p x) (list_all p (take n xs)) (and-left (p x) (list_all p xs) h) (all-taken p n xs (and-right (p x) (list_all p xs) h))

printable-literal : (texts : List ℕ) (l : Literal) → list_all is_printable texts ≡ true → IsPrintable (literal_value texts l)
printable-literal texts literal.Null h = tt
printable-literal texts (literal.Int x) h = tt
printable-literal texts (literal.Text s) h = all-taken is_printable s.len (drop s.at texts) (all-dropped is_printable s.at texts h)

printable-constant : (texts : List ℕ) (o : Option Literal) → list_all is_printable texts ≡ true → IsPrintable (constant_value texts o)
printable-constant texts None h = tt
printable-constant texts (Some l) h = printable-literal texts l h

printable-value : (texts : List ℕ) (tuple : List Literal) (s : Option ℕ) → list_all is_printable texts ≡ true → IsPrintable (value_in texts tuple s)
printable-value texts tuple None h = tt
printable-value texts tuple (Some k) h = printable-constant texts (slice_get tuple k) h

narrow-held : (x : ℤ) → fits_integer x ≡ true → FitsSigned w128 x
narrow-held (pos n) h = record { sfits = grind (arith, nat_tests) }
narrow-held (negsuc n) h = record { sfits = grind (arith, nat_tests) }

short-text : (n : ℕ) (t : List ℕ) → nat_le (length t) n ≡ true → n < 256 → nat_le (length t) 255 ≡ true
short-text n t h l = grind (arith, nat_tests)

held-one : (ty : SqlType) (v : Value) → fits_type ty v ≡ true → IsSmallType ty → IsPrintable v → IsHeld v
held-one ty Null fit small print = tt
held-one Integer (Int x) fit small print = narrow-held x fit
held-one Integer (Text t) fit small print = absurd (false≢true fit)
held-one (Varchar n) (Int x) fit small print = absurd (false≢true fit)
held-one (Varchar n) (Text t) fit small print =
    both-hold (list_all is_printable t) (nat_le (length t) 255) print (short-text n t fit small)

held-row : (columns : List Column) (row : List Value) → AreSmall columns → fits_columns columns row ≡ true → AllByRecursion IsPrintable row → AllByRecursion IsHeld row
held-row [] [] small fit print = tt
held-row [] (v ∷ vs) small fit print = absurd (false≢true fit)
held-row (c ∷ cs) [] small fit print = tt
held-row (c ∷ cs) (v ∷ vs) small fit print =
    let rest = and-right (fits_type c.ty v) (is_allowed c v && fits_columns cs vs) fit in (
      held-one c.ty v (and-left (fits_type c.ty v) (is_allowed c v && fits_columns cs vs) fit) small.0 print.0,
      held-row cs vs small.1 (and-right (is_allowed c v) (fits_columns cs vs) rest) print.1,
    )

all-map : {X Y : Type 0} (P : Y → Type 0) (f : X → Y) (xs : List X) → ((x : X) → P (f x)) → AllByRecursion P (map f xs)
all-map P f [] h = tt
all-map P f (x ∷ xs) h = (h x, all-map P f xs h)

-- one row: it is storable where it fits and is short
short-one : RowsAreAsLong → (columns : List Column) (row : List Value) → AreSmall columns → length columns ≤ 16 → length row ≡ length columns → fits_columns columns row ≡ true
    → AllByRecursion IsPrintable row → nat_lt 1000 (row_length row) ≡ false → IsShort row
short-one long columns row small few as_long fit print h =
    let bytes : length (coded row) ≡ row_length row = long row in
    let short : row_length row ≤ 1000 = grind (arith, nat_tests) in
    record {
      storable = record { few = omega arith; held = held-row columns row small fit print; short = omega arith };
      short = omega arith;
    }

by-long : (b : Bool) → (if b then Some RowTooLong else None) ≡ None → b ≡ false
by-long true h = absurd (none-some RowTooLong (sym h))
by-long false h = refl

short-rows : RowsAreAsLong → (columns : List Column) (rows : List (List Value)) → AreSmall columns → length columns ≤ 16
    → AllByRecursion (λ row. length row ≡ length columns) rows → FitRows columns rows → AllByRecursion (λ row. AllByRecursion IsPrintable row) rows
    → list_any (λ row. nat_lt 1000 (row_length row)) rows ≡ false → AllByRecursion IsShort rows
short-rows long columns [] small few as_long fit print h = tt
short-rows long columns (r ∷ rs) small few as_long fit print h = (
  short-one long columns r small few as_long.0 fit.0 print.0 (or-left (nat_lt 1000 (row_length r)) (list_any (λ row. nat_lt 1000 (row_length row)) rs) h),
  short-rows long columns rs small few as_long.1 fit.1 print.1 (or-right (nat_lt 1000 (row_length r)) (list_any (λ row. nat_lt 1000 (row_length row)) rs) h),
)

pub ready : RowsAreAsLong → (columns : List Column) (texts : List ℕ) (sources : List (Option ℕ)) (values : List Literal) (ends : List ℕ) → AreSmall columns → length columns ≤ 16
    → length sources ≡ length columns → list_all is_printable texts ≡ true → rows_cause columns (rows_from texts sources values ends) ≡ None
    → AreReady columns (rows_from texts sources values ends)
ready long columns texts sources values ends small few as_long print none =
    let rows = rows_from texts sources values ends in
    let first = none-of (null_cause columns rows) _ none in
    let second = none-of (fit_cause columns rows) _ first.1 in
    let third = none-of (long_cause rows) _ second.1 in
    let lengths : AllByRecursion (λ row. length row ≡ length columns) rows =
    all-map (λ (row : List Value). length row ≡ length columns) (row_from texts sources) (tuples_from 0 ends values) (λ tuple. length-map sources (value_in texts tuple) ∙ as_long) in
    let fit : FitRows columns rows = fit-rows columns rows lengths first.0 second.0 in
    let printable : AllByRecursion (λ row. AllByRecursion IsPrintable row) rows =
    all-map (λ (row : List Value). AllByRecursion IsPrintable row) (row_from texts sources) (tuples_from 0 ends values)
    (λ tuple. all-map IsPrintable (value_in texts tuple) sources (λ s. printable-value texts tuple s print)) in
    record {
      no_cause = none;
      fit = fit;
      short = short-rows long columns rows small few lengths fit printable (by-long (list_any (λ row. nat_lt 1000 (row_length row)) rows) third.0);
    }

-- a value of a row that is filled: it is held, and there is room for it behind those before it
pub held-at : {X : Type 0} (f : X → Value) (xs : List X) (i : ℕ) (d : X) → i < length xs → AllByRecursion IsHeld (map f xs) → IsHeld (f (slice_index_or xs i d))
held-at f [] i d h held = absurd (omega arith)
held-at f (y ∷ ys) zero d h held = held.0
held-at f (y ∷ ys) (suc i) d h held = held-at f ys i d (omega arith) held.1

coded-front : {X : Type 0} (f : X → Value) (xs : List X) (i : ℕ) (d : X) → i < length xs
    → length (coded (map f (take i xs))) + length (coding (f (slice_index_or xs i d))) ≤ length (coded (map f xs))
coded-front f [] i d h = absurd (omega arith)
coded-front f (y ∷ ys) zero d h = omega (arith, length-append (coding (f y)) (coded (map f ys)))
coded-front f (y ∷ ys) (suc i) d h =
    let before = coded-front f ys i d (omega arith) in
    omega (arith, length-append (coding (f y)) (coded (map f ys)), length-append (coding (f y)) (coded (map f (take i ys))))

room-at : {X : Type 0} (f : X → Value) (xs : List X) (i : ℕ) (d : X) → i < length xs → IsStorable (map f xs) → HasRoom (map f (take i xs)) (f (slice_index_or xs i d))
room-at f xs i d h s = record {
  place = let few = s.few in omega (arith, length-map xs f, length-map (take i xs) f, length-take i xs);
  bytes = let front = coded-front f xs i d h in let short = s.short in omega arith;
}

pub room-so : {X : Type 0} (f : X → Value) (xs : List X) (i : ℕ) (d : X) (row : List Value) (v : Value) → i < length xs → row ≡ map f (take i xs) → v ≡ f (slice_index_or xs i d)
    → IsStorable (map f xs) → HasRoom row v
room-so f xs i d row v h is here s =
    subst (λ r. HasRoom r v) (sym is) (subst (HasRoom (map f (take i xs))) (sym here) (room-at f xs i d h s))

-- what holds of the first of some holds of one more
pub all-more : {X : Type 0} (P : X → Type 0) (xs : List X) (i : ℕ) (x : X) → i < length xs → x ≡ slice_index_or xs i x → AllByRecursion P (take i xs) → P x
    → AllByRecursion P (take (i + 1) xs)
all-more P [] i x h is all here = absurd (omega arith)
all-more P (y ∷ ys) zero x h is all here = (subst P is here, tt)
all-more P (y ∷ ys) (suc i) x h is all here =
    let s : suc (i + 1) ≡ suc i + 1 = omega arith in
    subst (λ j. AllByRecursion P (take j (y ∷ ys))) s (all.0, all-more P ys i x (omega arith) is all.1 here)

-- the first of some rows, where the others follow
pub next-of : {X : Type 0} (xs : List X) (i : ℕ) (x : X) (rest : List X) → drop i xs ≡ x ∷ rest
    → (drop (i + 1) xs ≡ rest) × (take (i + 1) xs ≡ take i xs ++ x ∷ []) × (i < length xs)
next-of [] zero x rest e = absurd (let l : 0 ≡ suc (length rest) = ap length e in omega arith)
next-of [] (suc i) x rest e = absurd (let l : 0 ≡ suc (length rest) = ap length e in omega arith)
next-of (y ∷ ys) zero x rest e = (ap (drop 1) e, ap (λ z. take 1 z) e, omega arith)
next-of (y ∷ ys) (suc i) x rest e =
    let n = next-of ys i x rest e in
    let s : suc i + 1 ≡ suc (i + 1) = omega arith in
    (ap (λ j. drop j (y ∷ ys)) s ∙ n.0, ap (λ j. take j (y ∷ ys)) s ∙ ap (λ z. y ∷ z) n.1, (let l = n.2 in omega arith))

pub all-of : {X : Type 0} (P : X → Type 0) (xs : List X) (i : ℕ) (x : X) (rest : List X) → drop i xs ≡ x ∷ rest → AllByRecursion P xs → P x
all-of P [] zero x rest e h = absurd (let l : 0 ≡ suc (length rest) = ap length e in omega arith)
all-of P [] (suc i) x rest e h = absurd (let l : 0 ≡ suc (length rest) = ap length e in omega arith)
all-of P (y ∷ ys) zero x rest e h = subst P (ap (λ l. slice_index_or l 0 y) e) h.0
all-of P (y ∷ ys) (suc i) x rest e h = all-of P ys i x rest e h.1

pub all-done : {X : Type 0} (xs : List X) (i : ℕ) → drop i xs ≡ [] → take i xs ≡ xs
all-done [] zero e = refl
all-done [] (suc i) e = refl
all-done (x ∷ xs) zero e = absurd (let l : suc (length xs) ≡ 0 = ap length e in omega arith)
all-done (x ∷ xs) (suc i) e = ap (λ l. x ∷ l) (all-done xs i e)
