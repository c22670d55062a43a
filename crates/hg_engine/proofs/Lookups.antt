-- Tables by their names: what is found in a catalog is found in a state with the same tables, whatever rows
-- they have.
use Rattle.std.specs.Prelude.{◌≡◌, ℕ, zero, suc, ◌+◌, ◌<◌, ◌≤◌, nat_lt, Bool, true, false, List, [], ◌∷◌, Option, Some, None, is_some, map, length, option_map, slice_get, slice_set, position, if◌then◌else◌, not, unwrap_or}
use Rattle.std.specs.List.{position_or_len, AllByRecursion}
use Rattle.std.proofs.Common.{sym, ◌∙◌, ap, subst, refl, arith, cond}
use Rattle.std.proofs.lemmas.Bool.{false≢true}
use Rattle.std.proofs.lemmas.Bool.Decides.{nat_tests}
use Rattle.std.proofs.lemmas.Option.{none-some}
use Rattle.hg_bind.specs.Bound.{table_of, tables_of}
use Rattle.hg_catalog.specs.Contents.{Contents, CatalogTable, table_number, with_pages}
use Rattle.hg_machine.specs.Plain.State.{TableState, is_table, rows_set, versions_set, versions_in, has_rows}
use Rattle.hg_model.specs.Scope.{columns_of}
use Rattle.hg_model.specs.Tables.{Table, table_named, same_name}
use Rattle.hg_model.specs.declared.values.Value.{Value}
use Rattle.hg_base.specs.declared.Table.{Table as Ends}
use Rattle.hg_engine.specs.Standing.{rowless}

-- the first element that passes stands at k
abbrev pub FirstAt : {X : Type 0} → (X → Bool) → List X → ℕ → Type 0
FirstAt p [] k = ⊥
FirstAt p (x ∷ xs) zero = p x ≡ true
FirstAt p (x ∷ xs) (suc k) = (p x ≡ false) × FirstAt p xs k

pub first-mapped : {X Y : Type 0} (f : X → Y) (p : Y → Bool) (xs : List X) (k : ℕ) → FirstAt (λ x. p (f x)) xs k → FirstAt p (map f xs) k
first-mapped f p [] k h = absurd h
first-mapped f p (x ∷ xs) zero h = h
first-mapped f p (x ∷ xs) (suc k) h = (h.0, first-mapped f p xs k h.1)

pub first-unmapped : {X Y : Type 0} (f : X → Y) (p : Y → Bool) (xs : List X) (k : ℕ) → FirstAt p (map f xs) k → FirstAt (λ x. p (f x)) xs k
first-unmapped f p [] k h = absurd h
first-unmapped f p (x ∷ xs) zero h = h
first-unmapped f p (x ∷ xs) (suc k) h = (h.0, first-unmapped f p xs k h.1)

least-first : {X : Type 0} (p : X → Bool) (xs : List X) → position_or_len p xs < length xs → FirstAt p xs (position_or_len p xs)
least-first p [] h = absurd (omega arith)
least-first p (x ∷ xs) h = by (p x) refl (least-first p xs)
  where
    by : (b : Bool) → p x ≡ b → (position_or_len p xs < length xs → FirstAt p xs (position_or_len p xs)) → FirstAt p (x ∷ xs) (position_or_len p (x ∷ xs))
    by true e rest = subst (FirstAt p (x ∷ xs)) (sym (ap (λ b. cond (not b) (1 + position_or_len p xs) 0) e)) e
    by false e rest =
        let is : position_or_len p (x ∷ xs) ≡ suc (position_or_len p xs) = ap (λ b. cond (not b) (1 + position_or_len p xs) 0) e ∙ omega arith in
        let inside : position_or_len p xs < length xs = omega arith in
        subst (FirstAt p (x ∷ xs)) (sym is) (e, rest inside)

pub position-first : {X : Type 0} (p : X → Bool) (xs : List X) (k : ℕ) → position p xs ≡ Some k → FirstAt p xs k
position-first p xs k e = by (nat_lt (position_or_len p xs) (length xs)) refl e
  where
    by : (b : Bool) → nat_lt (position_or_len p xs) (length xs) ≡ b → cond b (Some (position_or_len p xs)) None ≡ Some k → FirstAt p xs k
    by true t e = let same : position_or_len p xs ≡ k = cc in subst (FirstAt p xs) same (least-first p xs (grind (arith, nat_tests)))
    by false t e = absurd (none-some k e)

pub first-holds : {X : Type 0} (p : X → Bool) (xs : List X) (k : ℕ) (x : X) → FirstAt p xs k → slice_get xs k ≡ Some x → p x ≡ true
first-holds p [] k x h at = absurd h
first-holds p (y ∷ ys) zero x h at = let same : y ≡ x = cc in subst (λ w. p w ≡ true) same h
first-holds p (y ∷ ys) (suc k) x h at = first-holds p ys k x h.1 at

-- where no number is, none passes
least-none : {X : Type 0} (p : X → Bool) (xs : List X) → length xs ≤ position_or_len p xs → AllByRecursion (λ x. p x ≡ false) xs
least-none p [] h = tt
least-none p (x ∷ xs) h = by (p x) refl (least-none p xs)
  where
    by : (b : Bool) → p x ≡ b → (length xs ≤ position_or_len p xs → AllByRecursion (λ y. p y ≡ false) xs) → (p x ≡ false) × AllByRecursion (λ y. p y ≡ false) xs
    by true e rest =
        let is : position_or_len p (x ∷ xs) ≡ 0 = ap (λ b. cond (not b) (1 + position_or_len p xs) 0) e in absurd (omega arith)
    by false e rest =
        let is : position_or_len p (x ∷ xs) ≡ suc (position_or_len p xs) = ap (λ b. cond (not b) (1 + position_or_len p xs) 0) e ∙ omega arith in
        (e, rest (omega arith))

pub position-none : {X : Type 0} (p : X → Bool) (xs : List X) → position p xs ≡ None → AllByRecursion (λ x. p x ≡ false) xs
position-none p xs e = by (nat_lt (position_or_len p xs) (length xs)) refl e
  where
    by : (b : Bool) → nat_lt (position_or_len p xs) (length xs) ≡ b → cond b (Some (position_or_len p xs)) None ≡ None → AllByRecursion (λ x. p x ≡ false) xs
    by true t e = absurd (none-some (position_or_len p xs) (sym e))
    by false t e = least-none p xs (grind (arith, nat_tests))

none-named : (cs : List CatalogTable) (name : List ℕ) → AllByRecursion (λ (c : CatalogTable). same_name c.name name ≡ false) cs → table_named (map table_of cs) name ≡ None
none-named [] name h = refl
none-named (c ∷ cs) name h = ap (λ b. if b then Some (table_of c) else table_named (map table_of cs) name) h.0 ∙ none-named cs name h.1

-- no number, no table
pub number-none : (c : Contents) (name : List ℕ) → table_number c name ≡ None → table_named (tables_of c) name ≡ None
number-none c name e = none-named c.tables name (position-none (λ (t : CatalogTable). same_name t.name name) c.tables e)

-- the table that a number names
first-entry : (cs : List CatalogTable) (name : List ℕ) (k : ℕ) (c : CatalogTable) → FirstAt (λ (d : CatalogTable). same_name d.name name) cs k → slice_get cs k ≡ Some c
    → table_named (map table_of cs) name ≡ Some (table_of c)
first-entry [] name k c h at = absurd h
first-entry (d ∷ ds) name zero c h at = ap (λ b. if b then Some (table_of d) else table_named (map table_of ds) name) h ∙ ap (λ (x : CatalogTable). Some (table_of x)) (let same : d ≡ c = cc in same)
first-entry (d ∷ ds) name (suc k) c h at = ap (λ b. if b then Some (table_of d) else table_named (map table_of ds) name) h.0 ∙ first-entry ds name k c h.1 at

pub number-entry : (c : Contents) (name : List ℕ) (k : ℕ) (e : CatalogTable) → table_number c name ≡ Some k → slice_get c.tables k ≡ Some e
    → table_named (tables_of c) name ≡ Some (table_of e)
number-entry c name k e number at = first-entry c.tables name k e (position-first (λ (d : CatalogTable). same_name d.name name) c.tables k number) at

-- what is told of an element, and what it is
pub mapped-some : {X Y : Type 0} (f : X → Y) (o : Option X) (y : Y) → option_map f o ≡ Some y → (x : X) × (o ≡ Some x) × (f x ≡ y)
mapped-some f None y h = absurd (none-some y h)
mapped-some f (Some x) y h = (x, refl, ap (λ o. unwrap_or o (f x)) h)

pub mapped-one : {X Y : Type 0} (f : X → Y) (o : Option X) (x : X) (y : Y) → o ≡ Some x → option_map f o ≡ Some y → y ≡ f x
mapped-one f o x y is h = ap (λ p. unwrap_or p y) (sym h ∙ ap (option_map f) is)

pub no-one : {X : Type 0} (o : Option X) → is_some o ≡ false → o ≡ None
no-one None h = refl
no-one (Some x) h = absurd (false≢true (sym h))

-- the table of the number that a catalog gives is the first of its name in the state too
pub number-first : (c : Contents) (tables : List TableState) (name : List ℕ) (k : ℕ) → map rowless tables ≡ map table_of c.tables
    → table_number c name ≡ Some k → FirstAt (is_table name) tables k
number-first c tables name k shape e =
    let has : Table → Bool = λ t. same_name t.name name in
    first-unmapped rowless has tables k
    (subst (λ l. FirstAt has l k) (sym shape)
    (first-mapped table_of has c.tables k (position-first (λ (t : CatalogTable). same_name t.name name) c.tables k e)))

-- ---- a table of other rows or versions

pub rows-set : (tables : List TableState) (name : List ℕ) (k : ℕ) (t : TableState) (rows : List (List Value)) → FirstAt (is_table name) tables k
    → slice_get tables k ≡ Some t → rows_set tables name rows ≡ slice_set tables k (has_rows rows t)
rows-set [] name k t rows h at = absurd h
rows-set (u ∷ us) name zero t rows h at = ap (λ b. if b then has_rows rows u ∷ us else u ∷ rows_set us name rows) h ∙ ap (λ (w : TableState). has_rows rows w ∷ us) (let same : u ≡ t = cc in same)
rows-set (u ∷ us) name (suc k) t rows h at = ap (λ b. if b then has_rows rows u ∷ us else u ∷ rows_set us name rows) h.0 ∙ ap (λ ws. u ∷ ws) (rows-set us name k t rows h.1 at)

pub versions-set : (tables : List TableState) (name : List ℕ) (k : ℕ) (t : TableState) (n : ℕ) → FirstAt (is_table name) tables k
    → slice_get tables k ≡ Some t → versions_set tables name n ≡ slice_set tables k (record { table = t.table; versions = n })
versions-set [] name k t n h at = absurd h
versions-set (u ∷ us) name zero t n h at =
    ap (λ b. if b then (record { table = u.table; versions = n }) ∷ us else u ∷ versions_set us name n) h ∙ ap (λ (w : TableState). (record { table = w.table; versions = n }) ∷ us) (let same : u ≡ t = cc in same)
versions-set (u ∷ us) name (suc k) t n h at =
    ap (λ b. if b then (record { table = u.table; versions = n }) ∷ us else u ∷ versions_set us name n) h.0 ∙ ap (λ ws. u ∷ ws) (versions-set us name k t n h.1 at)

pub versions-in : (tables : List TableState) (name : List ℕ) (k : ℕ) (t : TableState) → FirstAt (is_table name) tables k
    → slice_get tables k ≡ Some t → versions_in tables name ≡ t.versions
versions-in [] name k t h at = absurd h
versions-in (u ∷ us) name zero t h at = ap (λ b. if b then u.versions else versions_in us name) h ∙ ap (λ (w : TableState). w.versions) (let same : u ≡ t = cc in same)
versions-in (u ∷ us) name (suc k) t h at = ap (λ b. if b then u.versions else versions_in us name) h.0 ∙ versions-in us name k t h.1 at

-- a list with one table changed has the table of that name at the same place
pub first-set : (tables : List TableState) (name : List ℕ) (k : ℕ) (t : TableState) → FirstAt (is_table name) tables k → is_table name t ≡ true
    → FirstAt (is_table name) (slice_set tables k t) k
first-set [] name k t h is = absurd h
first-set (u ∷ us) name zero t h is = is
first-set (u ∷ us) name (suc k) t h is = (h.0, first-set us name k t h.1 is)

pub first-is : (tables : List TableState) (name : List ℕ) (k : ℕ) (t : TableState) → FirstAt (is_table name) tables k → slice_get tables k ≡ Some t → is_table name t ≡ true
first-is [] name k t h at = absurd h
first-is (u ∷ us) name zero t h at = let same : u ≡ t = cc in subst (λ w. is_table name w ≡ true) same h
first-is (u ∷ us) name (suc k) t h at = first-is us name k t h.1 at

pub set-set : {X : Type 0} (xs : List X) (k : ℕ) (x y : X) → slice_set (slice_set xs k x) k y ≡ slice_set xs k y
set-set [] k x y = refl
set-set (z ∷ zs) zero x y = refl
set-set (z ∷ zs) (suc k) x y = ap (λ l. z ∷ l) (set-set zs k x y)

pub get-set-here : {X : Type 0} (xs : List X) (k : ℕ) (x : X) → k < length xs → slice_get (slice_set xs k x) k ≡ Some x
get-set-here [] k x h = absurd (omega arith)
get-set-here (y ∷ ys) zero x h = refl
get-set-here (y ∷ ys) (suc k) x h = get-set-here ys k x (omega arith)

-- a catalog with other pages for one table
pub pages-set : (tables : List CatalogTable) (k : ℕ) (c : CatalogTable) (ends : Ends) → slice_get tables k ≡ Some c
    → with_pages tables k ends ≡ slice_set tables k (record { name = c.name; columns = c.columns; pages = ends })
pages-set [] k c ends at = absurd (none-some c at)
pages-set (d ∷ ds) zero c ends at = ap (λ (x : CatalogTable). (record { name = x.name; columns = x.columns; pages = ends }) ∷ ds) (let same : d ≡ c = cc in same)
pages-set (d ∷ ds) (suc k) c ends at = ap (λ l. d ∷ l) (pages-set ds k c ends at)

-- and a list whose element at k looks as before
pub map-set : {X Y : Type 0} (f : X → Y) (xs : List X) (k : ℕ) (x y : X) → slice_get xs k ≡ Some x → f y ≡ f x → map f (slice_set xs k y) ≡ map f xs
map-set f [] k x y at same = refl
map-set f (z ∷ zs) zero x y at same = let is : z ≡ x = cc in ap (λ w. w ∷ map f zs) (same ∙ ap f (sym is))
map-set f (z ∷ zs) (suc k) x y at same = ap (λ l. f z ∷ l) (map-set f zs k x y at same)

-- ---- by name, with rows or without

abbrev pub bare_rows : Table → Table
bare_rows t = record { name = t.name; columns = t.columns; rows = [] }

abbrev pub tables_in : List TableState → List Table
tables_in ts = map (λ (t : TableState). t.table) ts

pub named-bare : (ts : List TableState) (name : List ℕ) → option_map bare_rows (table_named (tables_in ts) name) ≡ table_named (map rowless ts) name
named-bare [] name = refl
named-bare (t ∷ ts) name = by (same_name t.table.name name) (named-bare ts name)
  where
    by : (b : Bool) → option_map bare_rows (table_named (tables_in ts) name) ≡ table_named (map rowless ts) name
        → option_map bare_rows (if b then Some t.table else table_named (tables_in ts) name) ≡ (if b then Some (rowless t) else table_named (map rowless ts) name)
    by true rest = refl
    by false rest = rest

columns-bare : (o : Option Table) → columns_of (option_map bare_rows o) ≡ columns_of o
columns-bare None = refl
columns-bare (Some t) = refl

some-bare : (o : Option Table) → is_some (option_map bare_rows o) ≡ is_some o
some-bare None = refl
some-bare (Some t) = refl

module _ (c : Contents) (tables : List TableState) (shape : map rowless tables ≡ map table_of c.tables) (name : List ℕ) where
  pub columns-same : columns_of (table_named (tables_in tables) name) ≡ columns_of (table_named (tables_of c) name)
  columns-same = sym (columns-bare (table_named (tables_in tables) name)) ∙ ap columns_of (named-bare tables name) ∙ ap (λ l. columns_of (table_named l name)) shape

  pub some-same : is_some (table_named (tables_in tables) name) ≡ is_some (table_named (tables_of c) name)
  some-same = sym (some-bare (table_named (tables_in tables) name)) ∙ ap is_some (named-bare tables name) ∙ ap (λ l. is_some (table_named l name)) shape

-- the table that a name finds
pub named-first : (ts : List TableState) (name : List ℕ) (k : ℕ) (t : TableState) → FirstAt (is_table name) ts k → slice_get ts k ≡ Some t
    → table_named (tables_in ts) name ≡ Some t.table
named-first [] name k t h at = absurd h
named-first (u ∷ us) name zero t h at = ap (λ b. if b then Some u.table else table_named (tables_in us) name) h ∙ ap (λ (w : TableState). Some w.table) (let same : u ≡ t = cc in same)
named-first (u ∷ us) name (suc k) t h at = ap (λ b. if b then Some u.table else table_named (tables_in us) name) h.0 ∙ named-first us name k t h.1 at
