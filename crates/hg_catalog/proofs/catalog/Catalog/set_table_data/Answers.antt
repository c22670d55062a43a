use Rattle.std.proofs.Common.{◌≡◌, length, ℕ, List, sym, ap, ◌∙◌, subst, arith, map}
use Rattle.hg_catalog.specs.Contents.{Contents, IsSound, CatalogIndex, with_pages, table_of_entry, index_of_entry}
use Rattle.hg_base.specs.declared.Table.{Table as TableData}
use Rattle.indexmap.specs.Layout.{set_value_at, length-set_value_at}
use Rattle.hg_catalog.specs.declared.entries.TableEntry.{TableEntry}
use Rattle.hg_catalog.proofs.Listing.{pages_written}
use Rattle.hg_catalog.proofs.Soundness.{length_stays, sound_with_pages}
use Rattle.hg_catalog.proofs.catalog.Catalog.set_table_data.Goals as goal

sound_after : (es : List (List ℕ × TableEntry)) (xs : List CatalogIndex) (t : ℕ) (v : TableEntry) (d : TableData)
    → map table_of_entry (set_value_at es t (record { columns = v.columns; pages = d })) ≡ with_pages (map table_of_entry es) t d
    → IsSound (record { tables = map table_of_entry es; indexes = xs })
    → IsSound (record { tables = map table_of_entry (set_value_at es t (record { columns = v.columns; pages = d })); indexes = xs })
sound_after es xs t v d written s =
    subst (λ l. IsSound (record { tables = l; indexes = xs })) (sym written) (sound_with_pages (map table_of_entry es) xs t d s)

pub invariant_of-self : goal.invariant_of-self
invariant_of-self c = (
  sound_after c.self.inside.tables.entries (map index_of_entry c.self.inside.indexes.items) c.args.t c.index_mut.result.now c.args.d
      (pages_written c.self.inside.tables.entries c.args.t c.index_mut.result.now c.args.d c.index_mut.ensures.value) c.self.invariant.0,
  omega (arith, length-set_value_at c.self.inside.tables.entries c.args.t (record { columns = c.index_mut.result.now.columns; pages = c.args.d }), c.self.invariant.1),
  c.self.invariant.2,
)

pub returns-clause-change : goal.returns-clause-change
returns-clause-change c =
    ap (λ ts. record { tables = ts; indexes = map index_of_entry c.self.inside.indexes.items })
    (pages_written c.self.inside.tables.entries c.args.t c.index_mut.result.now c.args.d c.index_mut.ensures.value)
    ∙ ap (λ (v : Contents). record { tables = with_pages v.tables c.args.t c.args.d; indexes = v.indexes }) c.self.view_is

pub returns-clause-sound : goal.returns-clause-sound
returns-clause-sound c =
    sound_after c.self.inside.tables.entries (map index_of_entry c.self.inside.indexes.items) c.args.t c.index_mut.result.now c.args.d
    (pages_written c.self.inside.tables.entries c.args.t c.index_mut.result.now c.args.d c.index_mut.ensures.value) c.self.invariant.0

pub returns-clause-count : goal.returns-clause-count
returns-clause-count c = ap (λ (v : Contents). length v.tables) (returns-clause-change c) ∙ length_stays c.args.self.now.tables c.args.t c.args.d
