-- The two lists that callers see, and the map and the vector behind them.
use Rattle.std.proofs.Common.{◌≡◌, ℕ, zero, suc, ◌+◌, ◌<◌, arith, Bool, List, [], ◌∷◌, Some, None, map, refl, sym, ap, ◌∙◌, length, cond, not, ltb}
use Rattle.std.specs.Prelude.{option_map, slice_set, slice_get, slice_index_or}
use Rattle.std.specs.List.{position, position_or_len}
use Rattle.std.specs.Map.{keys_of, values_of}
use Rattle.std.specs.Cmp.Lexicographic.{nat_list_eq_equiv}
use Rattle.std.proofs.lemmas.List.{length-map}
use Rattle.indexmap.specs.Layout.{set_value_at}
use Rattle.hg_base.specs.declared.Index.{Index}
use Rattle.hg_base.specs.declared.Table.{Table as TableData}
use Rattle.hg_model.specs.Tables.{same_name}
use Rattle.hg_catalog.specs.Contents.{CatalogTable, table_of_entry, index_of_entry, with_pages, with_index}
use Rattle.hg_catalog.specs.declared.entries.TableEntry.{TableEntry}
use Rattle.hg_catalog.specs.declared.entries.IndexEntry.{IndexEntry}

abbrev is_named : List ℕ → CatalogTable → Bool
is_named name t = same_name t.name name

first_of_name : (name : List ℕ) (es : List (List ℕ × TableEntry)) → position_or_len (is_named name) (map table_of_entry es) ≡ position_or_len (same_name name) (keys_of es)
first_of_name name [] = refl
first_of_name name (e ∷ es) =
    ap (λ b. cond (not b) (1 + position_or_len (is_named name) (map table_of_entry es)) 0) (nat_list_eq_equiv.symm e.0 name)
    ∙ ap (λ n. cond (not (same_name name e.0)) (1 + n) 0) (first_of_name name es)

lengths : (es : List (List ℕ × TableEntry)) → length (map table_of_entry es) ≡ length (keys_of es)
lengths es = length-map es table_of_entry ∙ sym (length-map es (λ (e : List ℕ × TableEntry). e.0))

-- a name stands at the same place among the keys and among the tables
pub position_of_name : (name : List ℕ) (es : List (List ℕ × TableEntry)) → position (same_name name) (keys_of es) ≡ position (is_named name) (map table_of_entry es)
position_of_name name es =
    sym (ap (λ n. cond (ltb n (length (map table_of_entry es))) (Some n) None) (first_of_name name es)
    ∙ ap (λ m. cond (ltb (position_or_len (same_name name) (keys_of es)) m) (Some (position_or_len (same_name name) (keys_of es))) None) (lengths es))

-- what stands at a number
pub table_at : {X : Type 0} (seen : CatalogTable → X) (of : TableEntry → X) → ((n : List ℕ) (v : TableEntry) → seen (table_of_entry (n, v)) ≡ of v)
    → (es : List (List ℕ × TableEntry)) (t : ℕ) (v : TableEntry) → slice_get (values_of es) t ≡ Some v
    → option_map seen (slice_get (map table_of_entry es) t) ≡ Some (of v)
table_at seen of same [] t v is = absurd cc
table_at seen of same (e ∷ es) zero v is =
    let here : e.1 ≡ v = cc in
    ap Some (same e.0 e.1 ∙ ap of here)
table_at seen of same (e ∷ es) (suc t) v is = table_at seen of same es t v is

pub pages_written : (es : List (List ℕ × TableEntry)) (t : ℕ) (v : TableEntry) (d : TableData) → slice_get (values_of es) t ≡ Some v
    → map table_of_entry (set_value_at es t (record { columns = v.columns; pages = d })) ≡ with_pages (map table_of_entry es) t d
pages_written [] t v d is = absurd cc
pages_written (e ∷ es) zero v d is =
    let here : e.1 ≡ v = cc in
    ap (λ (w : TableEntry). record { name = e.0; columns = w.columns.items; pages = d } ∷ map table_of_entry es) (sym here)
pages_written (e ∷ es) (suc t) v d is = ap (λ l. table_of_entry e ∷ l) (pages_written es t v d is)

pub index_written : (xs : List IndexEntry) (i : ℕ) (x : IndexEntry) (new : Index) → slice_get xs i ≡ Some x
    → map index_of_entry (slice_set xs i (record { name = x.name; table = x.table; index = new })) ≡ with_index (map index_of_entry xs) i new
index_written [] i x new is = absurd cc
index_written (y ∷ ys) zero x new is =
    let here : y ≡ x = cc in
    ap (λ (z : IndexEntry). record { name = z.name; table = z.table; index = new } ∷ map index_of_entry ys) (sym here)
index_written (y ∷ ys) (suc i) x new is = ap (λ l. index_of_entry y ∷ l) (index_written ys i x new is)

-- an item that is its own place's item stands there
pub item_at : {X : Type 0} (xs : List X) (i : ℕ) (x : X) → i < length xs → x ≡ slice_index_or xs i x → slice_get xs i ≡ Some x
item_at [] i x h e = absurd (omega arith)
item_at (y ∷ ys) zero x h e = ap Some (sym e)
item_at (y ∷ ys) (suc i) x h e = item_at ys i x (omega arith) e
