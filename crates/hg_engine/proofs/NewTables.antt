-- A table that nothing stands against may be put into the catalog.
use Rattle.std.specs.Prelude.{◌≡◌, ℕ, zero, suc, ◌≤◌, ◌<◌, nat_le, nat_eq, Bool, true, false, List, [], ◌∷◌, ◌++◌, length, map, Option, Some, None, is_some, not, ◌&&◌, ◌||◌, option_map, if◌then◌else◌}
use Rattle.std.specs.List.{list_any, AllByRecursion}
use Rattle.std.proofs.Common.{sym, ◌∙◌, ap, refl, arith}
use Rattle.std.proofs.lemmas.Bool.{false≢true}
use Rattle.std.proofs.lemmas.Bool.Decides.{nat_tests}
use Rattle.std.proofs.lemmas.List.Folds.{list_any-append}
use Rattle.std.proofs.lemmas.Option.{none-some}
use Rattle.hg_bind.specs.Bound.{table_of, tables_of, indexes_of}
use Rattle.hg_catalog.specs.Contents.{Contents, CatalogTable, IsNewTable, table_number, are_different_names}
use Rattle.hg_model.specs.Binding.{cause_if, repeated_name, repeated_from}
use Rattle.hg_model.specs.Creation.{create_table_refusal, created_column}
use Rattle.hg_model.specs.Refusal.{Refusal, NameTaken, first_cause}
use Rattle.hg_model.specs.Statements.{TableTree}
use Rattle.hg_model.specs.Tables.{table_named, same_name}
use Rattle.hg_model.specs.declared.trees.Column.{Column}
use Rattle.hg_model.specs.declared.trees.NewColumn.{NewColumn}
use Rattle.hg_engine.proofs.Lookups.{FirstAt, position-first}

-- where there is no first cause there is none
pub first-none : (o : Option Refusal) (os : List (Option Refusal)) → first_cause (o ∷ os) ≡ None → (o ≡ None) × (first_cause os ≡ None)
unfolding first_cause
first-none None os h = (refl, h)
first-none (Some r) os h = absurd (none-some r (sym h))

pub cause-off : (b : Bool) (r : Refusal) → cause_if b r ≡ None → b ≡ false
cause-off true r h = absurd (none-some r (sym h))
cause-off false r h = refl

-- what stands against no table that is made
pub record IsFree (c : Contents) (t : TableTree) : Type 0 where
  pub unknown : is_some (table_named (tables_of c) t.name) ≡ false
  pub different : repeated_name (map (λ (n : NewColumn). n.column.name) t.columns) ≡ None
  pub few : nat_le 64 (length (tables_of c)) ≡ false

pub is-free : (c : Contents) (t : TableTree) → create_table_refusal (tables_of c) (indexes_of c) t ≡ None → IsFree c t
unfolding create_table_refusal
is-free c t none =
    let one = first-none _ _ none in
    let two = first-none _ _ one.1 in
    let three = first-none _ _ two.1 in
    let four = first-none _ _ three.1 in
    record { unknown = cause-off _ _ one.0; different = two.0; few = cause-off _ _ four.0 }

length-tables : (ts : List CatalogTable) → length (map table_of ts) ≡ length ts
length-tables [] = refl
length-tables (t ∷ ts) = ap suc (length-tables ts)

pub free-few : (c : Contents) (t : TableTree) → IsFree c t → length c.tables < 64
free-few c t h = let l = length-tables c.tables in let f = h.few in grind (arith, nat_tests)

-- a number is that of a table
there-named : (ts : List CatalogTable) (name : List ℕ) (k : ℕ) → FirstAt (λ (t : CatalogTable). same_name t.name name) ts k → is_some (table_named (map table_of ts) name) ≡ true
there-named [] name k h = absurd h
there-named (t ∷ ts) name zero h = ap (λ b. is_some (if b then Some (table_of t) else table_named (map table_of ts) name)) h
there-named (t ∷ ts) name (suc k) h = ap (λ b. is_some (if b then Some (table_of t) else table_named (map table_of ts) name)) h.0 ∙ there-named ts name k h.1

pub number-named : (c : Contents) (name : List ℕ) (k : ℕ) → table_number c name ≡ Some k → is_some (table_named (tables_of c) name) ≡ true
number-named c name k e = there-named c.tables name k (position-first (λ (t : CatalogTable). same_name t.name name) c.tables k e)

pub free-number : (c : Contents) (name : List ℕ) → is_some (table_named (tables_of c) name) ≡ false → table_number c name ≡ None
free-number c name none = by (table_number c name) refl
  where
    by : (o : Option ℕ) → table_number c name ≡ o → o ≡ None
    by None e = refl
    by (Some k) e = absurd (false≢true (sym none ∙ number-named c name k e))

-- ---- names that stand once

nat-sym : (a b : ℕ) → nat_eq a b ≡ nat_eq b a
nat-sym a b = grind (arith, nat_tests)

same-sym : (a b : List ℕ) → same_name a b ≡ same_name b a
same-sym [] [] = refl
same-sym [] (y ∷ ys) = refl
same-sym (x ∷ xs) [] = refl
same-sym (x ∷ xs) (y ∷ ys) = λ i. nat-sym x y i && same-sym xs ys i

or-none : (a b : Bool) → (a || b) ≡ false → (a ≡ false) × (b ≡ false)
or-none true b h = absurd (false≢true (sym h))
or-none false b h = (refl, h)

-- none of these is that name
none-is : (n : List ℕ) (ns : List (List ℕ)) → AllByRecursion (λ m. same_name m n ≡ false) ns → list_any (same_name n) ns ≡ false
none-is n [] h = refl
none-is n (m ∷ ms) h = (λ i. (same-sym n m ∙ h.0) i || none-is n ms h.1 i)

map-all : (P Q : List ℕ → Type 0) (ns : List (List ℕ)) → ((m : List ℕ) → P m → Q m) → AllByRecursion P ns → AllByRecursion Q ns
map-all P Q [] f h = tt
map-all P Q (n ∷ ns) f h = (f n h.0, map-all P Q ns f h.1)

if-none : (b : Bool) (r : Refusal) (o : Option Refusal) → (if b then Some r else o) ≡ None → (b ≡ false) × (o ≡ None)
if-none true r o h = absurd (none-some r (sym h))
if-none false r o h = (refl, h)

none-repeated : (seen ns : List (List ℕ)) → repeated_from seen ns ≡ None
    → AllByRecursion (λ m. list_any (same_name m) seen ≡ false) ns × (are_different_names ns ≡ true)
none-repeated seen [] h = (tt, refl)
none-repeated seen (n ∷ ns) h =
    let here = if-none (list_any (same_name n) seen) (NameTaken n) (repeated_from (seen ++ n ∷ []) ns) h in
    let rest = none-repeated (seen ++ n ∷ []) ns here.1 in
    let before = map-all (λ m. list_any (same_name m) (seen ++ n ∷ []) ≡ false) (λ m. list_any (same_name m) seen ≡ false) ns
    (λ m e. (or-none (list_any (same_name m) seen) (same_name m n || false) (sym (list_any-append (same_name m) seen (n ∷ [])) ∙ e)).0) rest.0 in
    let apart = map-all (λ m. list_any (same_name m) (seen ++ n ∷ []) ≡ false) (λ m. same_name m n ≡ false) ns
    (λ m e. (or-none (same_name m n) false (or-none (list_any (same_name m) seen) (same_name m n || false) (sym (list_any-append (same_name m) seen (n ∷ [])) ∙ e)).1).0) rest.0 in
    ((here.0, before), (λ i. not (none-is n ns apart i) && rest.1 i))

names-made : (cs : List NewColumn) → map (λ (c : Column). c.name) (map created_column cs) ≡ map (λ (n : NewColumn). n.column.name) cs
names-made [] = refl
names-made (c ∷ cs) = ap (λ l. c.column.name ∷ l) (names-made cs)

length-made : (cs : List NewColumn) → length (map created_column cs) ≡ length cs
length-made [] = refl
length-made (c ∷ cs) = ap suc (length-made cs)

pub new-table : (c : Contents) (t : TableTree) → IsFree c t → 1 ≤ length t.columns → length t.columns ≤ 16 → IsNewTable (map created_column t.columns)
new-table c t h some few = record {
  some_columns = let l = length-made t.columns in omega (arith, l, some);
  few_columns = let l = length-made t.columns in omega (arith, l, few);
  different = ap are_different_names (names-made t.columns) ∙ (none-repeated [] (map (λ (n : NewColumn). n.column.name) t.columns) h.different).1;
}

-- an answer that is the error of no refusal
pub none-mapped : {X Y : Type 0} (f : X → Y) (o : Option X) → option_map f o ≡ None → o ≡ None
none-mapped f None h = refl
none-mapped f (Some x) h = absurd (none-some (f x) (sym h))

pub some-mapped : {X Y : Type 0} (f : X → Y) (o : Option X) (y : Y) → option_map f o ≡ Some y → (x : X) × (o ≡ Some x) × (f x ≡ y)
some-mapped f None y h = absurd (none-some y h)
some-mapped f (Some x) y h = (x, refl, Rattle.hg_engine.proofs.StandLaws.some-one (f x) y h)
