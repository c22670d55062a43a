use Rattle.std.proofs.Common.{◌≡◌, ◌<◌, [], ◌∷◌, ◌++◌, false, List, length, sym, ap, ◌∙◌, subst, arith, map}
use Rattle.std.proofs.lemmas.List.{map-append}
use Rattle.hg_catalog.specs.Contents.{Contents, IsSound, CatalogTable, IsNewIndex, has_index_name, table_of_entry, index_of_entry}
use Rattle.hg_catalog.specs.declared.entries.IndexEntry.{IndexEntry}
use Rattle.hg_catalog.proofs.Soundness.{sound_with_new_index}
use Rattle.hg_catalog.proofs.catalog.Catalog.add_index.Goals as goal

sound_after : (v : Contents) (ts : List CatalogTable) (xs new : List IndexEntry) (x : IndexEntry) → record { tables = ts; indexes = map index_of_entry xs } ≡ v
    → new ≡ xs ++ x ∷ [] → IsSound (record { tables = ts; indexes = map index_of_entry xs }) → length v.indexes < 64
    → has_index_name x.name v.indexes ≡ false → IsNewIndex v x.table x.index.columns.items
    → IsSound (record { tables = ts; indexes = map index_of_entry new })
sound_after v ts xs new x view pushed s few free fits =
    let few_here : length (map index_of_entry xs) < 64 = subst (λ (w : Contents). length w.indexes < 64) (sym view) few in
    let free_here : has_index_name x.name (map index_of_entry xs) ≡ false = subst (λ (w : Contents). has_index_name x.name w.indexes ≡ false) (sym view) free in
    let fits_here = subst (λ (w : Contents). IsNewIndex w x.table x.index.columns.items) (sym view) fits in
    subst (λ l. IsSound (record { tables = ts; indexes = l })) (sym (ap (map index_of_entry) pushed ∙ map-append index_of_entry xs (x ∷ [])))
    (sound_with_new_index ts (map index_of_entry xs) (index_of_entry x) s few_here free_here fits_here)

pub invariant_of-self : goal.invariant_of-self
invariant_of-self c = (
  sound_after c.args.self.now (map table_of_entry c.self.inside.tables.entries) c.self.inside.indexes.items c.push_reserved.new.self.items
      (record { name = c.args.name; table = c.args.table; index = c.args.index }) c.self.view_is c.push_reserved.ensures.items c.self.invariant.0
      c.requires.few c.requires.free c.requires.fits,
  c.self.invariant.1,
  omega (arith, c.self.invariant.2, c.push_reserved.ensures.capacity),
)

pub returns-clause-sound : goal.returns-clause-sound
returns-clause-sound c =
    sound_after c.args.self.now (map table_of_entry c.self.inside.tables.entries) c.self.inside.indexes.items c.push_reserved.new.self.items
    (record { name = c.args.name; table = c.args.table; index = c.args.index }) c.self.view_is c.push_reserved.ensures.items c.self.invariant.0
    c.requires.few c.requires.free c.requires.fits
