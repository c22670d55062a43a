use Rattle.std.proofs.Common.{◌≡◌, ◌<◌, Some, length, ℕ, List, sym, ap, ◌∙◌, subst, arith, map}
use Rattle.hg_catalog.specs.Contents.{Contents, IsSound, CatalogTable, CatalogIndex, with_index, table_of_entry, index_of_entry}
use Rattle.std.specs.Prelude.{IfSome, option_map, slice_get, slice_set, slice_index_or}
use Rattle.std.proofs.lemmas.List.{length-map}
use Rattle.std.proofs.lemmas.Option.{slice_get-map}
use Rattle.hg_base.specs.declared.Index.{Index}
use Rattle.hg_catalog.specs.declared.entries.IndexEntry.{IndexEntry}
use Rattle.hg_catalog.proofs.Listing.{index_written, item_at}
use Rattle.hg_catalog.proofs.Soundness.{index_length_stays, sound_with_index}
use Rattle.hg_catalog.proofs.catalog.Catalog.set_index.Goals as goal

abbrev Stays : Index → CatalogIndex → Type 0
Stays x old = (x.columns ≡ old.index.columns) × (x.unique ≡ old.index.unique)

stands : (v : Contents) (ts : List CatalogTable) (xs : List IndexEntry) (i : ℕ) (x : IndexEntry)
    → record { tables = ts; indexes = map index_of_entry xs } ≡ v → i < length v.indexes → x ≡ slice_index_or xs i x → slice_get xs i ≡ Some x
stands v ts xs i x e h is =
    let below : i < length (map index_of_entry xs) = subst (λ (w : Contents). i < length w.indexes) (sym e) h in
    item_at xs i x (omega (arith, length-map xs index_of_entry)) is

sound_after : (v : Contents) (ts : List CatalogTable) (xs : List IndexEntry) (i : ℕ) (x : IndexEntry) (new : Index)
    → record { tables = ts; indexes = map index_of_entry xs } ≡ v → slice_get xs i ≡ Some x
    → IfSome (slice_get v.indexes i) (Stays new)
    → IsSound (record { tables = ts; indexes = map index_of_entry xs })
    → IsSound (record { tables = ts; indexes = map index_of_entry (slice_set xs i (record { name = x.name; table = x.table; index = new })) })
sound_after v ts xs i x new e at same s =
    let old : slice_get (map index_of_entry xs) i ≡ Some (index_of_entry x) = slice_get-map index_of_entry xs i ∙ ap (option_map index_of_entry) at in
    let here : IfSome (slice_get (map index_of_entry xs) i) (Stays new) = subst (λ (w : Contents). IfSome (slice_get w.indexes i) (Stays new)) (sym e) same in
    let stays : Stays new (index_of_entry x) = subst (λ o. IfSome o (Stays new)) old here in
    subst (λ l. IsSound (record { tables = ts; indexes = l })) (sym (index_written xs i x new at))
    (sound_with_index ts (map index_of_entry xs) i (index_of_entry x) new s old stays.0)

pub invariant_of-self : goal.invariant_of-self
invariant_of-self c = (
  sound_after c.args.self.now (map table_of_entry c.self.inside.tables.entries) c.self.inside.indexes.items c.args.i c.index_mut.result.now c.args.x c.self.view_is
      (stands c.args.self.now (map table_of_entry c.self.inside.tables.entries) c.self.inside.indexes.items c.args.i c.index_mut.result.now c.self.view_is c.requires.there c.index_mut.ensures.value)
      c.requires.same c.self.invariant.0,
  c.self.invariant.1,
  c.self.invariant.2,
)

pub returns-clause-change : goal.returns-clause-change
returns-clause-change c =
    ap (λ l. record { tables = map table_of_entry c.self.inside.tables.entries; indexes = l })
    (index_written c.self.inside.indexes.items c.args.i c.index_mut.result.now c.args.x
    (stands c.args.self.now (map table_of_entry c.self.inside.tables.entries) c.self.inside.indexes.items c.args.i c.index_mut.result.now c.self.view_is c.requires.there c.index_mut.ensures.value))
    ∙ ap (λ (v : Contents). record { tables = v.tables; indexes = with_index v.indexes c.args.i c.args.x }) c.self.view_is

pub returns-clause-sound : goal.returns-clause-sound
returns-clause-sound c =
    sound_after c.args.self.now (map table_of_entry c.self.inside.tables.entries) c.self.inside.indexes.items c.args.i c.index_mut.result.now c.args.x c.self.view_is
    (stands c.args.self.now (map table_of_entry c.self.inside.tables.entries) c.self.inside.indexes.items c.args.i c.index_mut.result.now c.self.view_is c.requires.there c.index_mut.ensures.value)
    c.requires.same c.self.invariant.0

pub returns-clause-count : goal.returns-clause-count
returns-clause-count c = ap (λ (v : Contents). length v.indexes) (returns-clause-change c) ∙ index_length_stays c.args.self.now.indexes c.args.i c.args.x
