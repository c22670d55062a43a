use Rattle.std.proofs.Common.{◌≡◌, ◌<◌, [], ◌∷◌, ◌++◌, None, length, ℕ, ◌+◌, List, refl, sym, ap, ◌∙◌, subst, arith, map}
use Rattle.hg_catalog.specs.Contents.{Contents, IsSound, CatalogIndex, table_number, table_of_entry, index_of_entry}
use Rattle.std.proofs.Common.{if◌then◌else◌, false, length-append}
use Rattle.std.specs.Cmp.Lexicographic.{nat_list_eq_equiv}
use Rattle.std.specs.List.{list_any}
use Rattle.std.proofs.lemmas.List.{map-append}
use Rattle.indexmap.specs.IndexMap.{insert_entry}
use Rattle.hg_model.specs.Tables.{same_name}
use Rattle.hg_catalog.specs.Contents.{IsNewTable}
use Rattle.hg_catalog.specs.declared.entries.TableEntry.{TableEntry}
use Rattle.hg_catalog.proofs.Soundness.{has, no_table, neither_first, neither_second, sound_with_table}
use Rattle.hg_catalog.proofs.catalog.Catalog.add_table.Goals as goal

-- a new name goes last
goes_last : (es : List (List ℕ × TableEntry)) (name : List ℕ) (v : TableEntry) → list_any (has name) (map table_of_entry es) ≡ false
    → insert_entry same_name es name v ≡ es ++ (name, v) ∷ []
goes_last [] name v none = refl
goes_last (e ∷ es) name v none =
    let other : same_name name e.0 ≡ false = nat_list_eq_equiv.symm name e.0 ∙ neither_first (same_name e.0 name) _ none in
    ap (λ b. if b then (e.0, v) ∷ es else e ∷ insert_entry same_name es name v) other
    ∙ ap (λ l. e ∷ l) (goes_last es name v (neither_second (same_name e.0 name) _ none))

module _ (v : Contents) (es new : List (List ℕ × TableEntry)) (xs : List CatalogIndex) (name : List ℕ) (x : TableEntry)
    (view : record { tables = map table_of_entry es; indexes = xs } ≡ v) (inserted : new ≡ insert_entry same_name es name x) (free : table_number v name ≡ None) where
  free_here : table_number (record { tables = map table_of_entry es; indexes = xs }) name ≡ None
  free_here = ap (λ (w : Contents). table_number w name) view ∙ free

  listed : map table_of_entry new ≡ map table_of_entry es ++ table_of_entry (name, x) ∷ []
  listed = ap (map table_of_entry) (inserted ∙ goes_last es name x (no_table name (map table_of_entry es) free_here)) ∙ map-append table_of_entry es ((name, x) ∷ [])

  longer : length new ≡ length es + 1
  longer = ap length (inserted ∙ goes_last es name x (no_table name (map table_of_entry es) free_here)) ∙ length-append es ((name, x) ∷ [])

  added : ◌≡◌ {A = Contents} (record { tables = map table_of_entry new; indexes = xs }) (record { tables = v.tables ++ table_of_entry (name, x) ∷ []; indexes = v.indexes })
  added = ap (λ l. record { tables = l; indexes = xs }) listed ∙ ap (λ (w : Contents). record { tables = w.tables ++ table_of_entry (name, x) ∷ []; indexes = w.indexes }) view

  sound_after : IsSound (record { tables = map table_of_entry es; indexes = xs }) → length v.tables < 64 → IsNewTable x.columns.items
      → IsSound (record { tables = map table_of_entry new; indexes = xs })
  sound_after s few columns =
      let few_here : length (map table_of_entry es) < 64 = subst (λ (w : Contents). length w.tables < 64) (sym view) few in
      subst (λ l. IsSound (record { tables = l; indexes = xs })) (sym listed)
      (sound_with_table (map table_of_entry es) xs (table_of_entry (name, x)) s few_here free_here columns)

pub invariant_of-self : goal.invariant_of-self
invariant_of-self c =
    let x : TableEntry = record { columns = c.args.columns; pages = record { first = None; last = None } } in
    let inserted : c.insert.new.self.entries ≡ insert_entry same_name c.self.inside.tables.entries c.args.name x = c.in-Ok.ensures.entries in (
      sound_after c.args.self.now c.self.inside.tables.entries c.insert.new.self.entries (map index_of_entry c.self.inside.indexes.items) c.args.name x
          c.self.view_is inserted c.requires.free c.self.invariant.0 c.requires.few c.requires.columns,
      omega (
        arith,
        c.self.invariant.1,
        c.in-Ok.ensures.spare,
        longer c.args.self.now c.self.inside.tables.entries c.insert.new.self.entries (map index_of_entry c.self.inside.indexes.items) c.args.name x c.self.view_is inserted c.requires.free,
      ),
      c.self.invariant.2,
    )

pub returns-clause-change : goal.returns-clause-change
returns-clause-change c =
    added c.args.self.now c.self.inside.tables.entries c.insert.new.self.entries (map index_of_entry c.self.inside.indexes.items) c.args.name
    (record { columns = c.args.columns; pages = record { first = None; last = None } }) c.self.view_is c.in-Ok.ensures.entries c.requires.free

pub returns-clause-sound : goal.returns-clause-sound
returns-clause-sound c =
    sound_after c.args.self.now c.self.inside.tables.entries c.insert.new.self.entries (map index_of_entry c.self.inside.indexes.items) c.args.name
    (record { columns = c.args.columns; pages = record { first = None; last = None } }) c.self.view_is c.in-Ok.ensures.entries c.requires.free
    c.self.invariant.0 c.requires.few c.requires.columns
