-- What the calls that take the parts of a statement say becomes what the bound statement says.
use Rattle.std.specs.Prelude.{◌≡◌, ℕ, suc, ◌-◌, ◌*◌, ◌^◌, ◌<◌, ◌≤◌, Bool, true, false, List, [], ◌∷◌, ◌++◌, length, map, not, Option, Some, None, slice_get, if◌then◌else◌}
use Rattle.std.specs.List.{AllByRecursion, filter, count_by, list_any}
use Rattle.std.specs.List.Sorted.{IsPermutation}
use Rattle.std.proofs.Common.{sym, ◌∙◌, ap, subst, refl, arith}
use Rattle.std.proofs.lemmas.List.{length-map}
use Rattle.std.proofs.lemmas.List.Sorted.{IsPermutation-refl}
use Rattle.std.proofs.lemmas.List.Sums.{length-filter}
use Rattle.std.proofs.lemmas.Option.{none-some, slice_get_within}
use Rattle.hg_base.specs.Space.{Space, taken_in}
use Rattle.hg_base.specs.TakenLaws.{taken_below-le}
use Rattle.hg_base.specs.declared.File.TheVariants.{Main}
use Rattle.hg_bind.specs.Bound.{table_of, tables_of, numbers_of, row_places, IsTable, IsPlacedUpdate, IsPlacedDelete}
use Rattle.hg_bind.specs.declared.delete.BoundDelete.{BoundDelete}
use Rattle.hg_bind.specs.declared.insert.BoundInsert.{BoundInsert}
use Rattle.hg_bind.specs.declared.update.BoundUpdate.{BoundUpdate}
use Rattle.hg_catalog.specs.Contents.{Contents, CatalogTable}
use Rattle.hg_model.specs.Binding.{cause_if}
use Rattle.hg_model.specs.ChangeBinding.{update_refusal, delete_refusal, change_positions, table_scope}
use Rattle.hg_model.specs.Changes.{Made, Refused, unless, insert_change, update_change, delete_change, new_row, tuples_from}
use Rattle.hg_model.specs.Refusal.{Refusal, first_cause}
use Rattle.hg_model.specs.SelectMeaning.{is_aggregate}
use Rattle.hg_model.specs.Statements.{UpdateTree, DeleteTree}
use Rattle.hg_model.specs.Tables.{Table}
use Rattle.hg_model.specs.Width.{IsSound}
use Rattle.hg_model.specs.declared.tables.FromColumn.{FromColumn}
use Rattle.hg_model.specs.declared.trees.Column.{Column}
use Rattle.hg_model.specs.declared.trees.Literal.{Literal}
use Rattle.hg_model.specs.declared.trees.Node.{Node}
use Rattle.hg_model.specs.declared.values.Value.{Value}
use Rattle.hg_table.specs.Chains.{IsChain}
use Rattle.hg_table.specs.SeenLaws.{seen_rows-later}
use Rattle.hg_table.specs.Seen.{seen_rows}
use Rattle.hg_dml.specs.Bound.{with_these, insert_of, update_of, delete_of, Changes, Removes, IsAgainst, IsRefused}
use Rattle.hg_dml.specs.Deleting.{Concerns, Deletes}
use Rattle.hg_dml.specs.Filtering.{IsFilter, row_passes}
use Rattle.hg_dml.specs.Inserting.{IsCause, OnFault, OnRefused, PutsAll, PutsPart}
use Rattle.hg_dml.specs.Putting.{Grows}
use Rattle.hg_dml.specs.Rows.{rows_of_tuples, rows_cause}
use Rattle.hg_dml.specs.Steps.{FitRows}
use Rattle.hg_dml.specs.Updating.{row_set, UpdatesTable, UpdatesTableSome, UpdateIsRefused}
use Rattle.hg_dml.specs.declared.insertion.ChangeError.{ChangeError}
use Rattle.hg_dml.specs.declared.insertion.ChangeError.TheVariants as error

-- ---- what binding says

-- the number is that of a table of the catalog
pub inside : (c : Contents) (name : List ℕ) (number : ℕ) → IsTable (tables_of c) name number → number < length c.tables
inside c name number is = let w = slice_get_within (tables_of c) number is.table is.there in omega (arith, length-map c.tables table_of)

first-none : (o : Option Refusal) (os : List (Option Refusal)) → first_cause (o ∷ os) ≡ None → (o ≡ None) × (first_cause os ≡ None)
unfolding first_cause
first-none None os h = (refl, h)
first-none (Some r) os h = absurd (none-some r (sym h))

cause-off : (b : Bool) (r : Refusal) → cause_if b r ≡ None → b ≡ false
cause-off true r h = absurd (none-some r (sym h))
cause-off false r h = refl

-- as many columns as there are nodes
as-many : (scope : List FromColumn) (nodes : List Node) (places : List (ℕ × ℕ))
    → places ≡ row_places (change_positions scope nodes) → length (numbers_of places) ≡ length nodes
as-many scope nodes places are =
    ap (λ l. length (numbers_of l)) are ∙ length-map (row_places (change_positions scope nodes)) (λ p. p.1)
    ∙ length-map (change_positions scope nodes) (λ k. (255, k)) ∙ length-map nodes _

no-aggregate : (tables : List Table) (u : UpdateTree) → update_refusal tables u ≡ None → list_any is_aggregate u.nodes ≡ false
unfolding update_refusal
no-aggregate tables u none =
    let one = first-none _ _ none in
    let two = first-none _ _ one.1 in
    let three = first-none _ _ two.1 in
    let four = first-none _ _ three.1 in
    let five = first-none _ _ four.1 in
    cause-off _ _ five.0

no-aggregate-removed : (tables : List Table) (d : DeleteTree) → delete_refusal tables d ≡ None → list_any is_aggregate d.nodes ≡ false
unfolding delete_refusal
no-aggregate-removed tables d none =
    let one = first-none _ _ none in
    let two = first-none _ _ one.1 in
    let three = first-none _ _ two.1 in
    let four = first-none _ _ three.1 in
    cause-off _ _ four.0

-- its nodes may be evaluated over rows of its table
pub update-filter : (tables : List Table) (u : UpdateTree) (texts : List ℕ) (table : ℕ) (targets : List ℕ) (places : List (ℕ × ℕ)) → IsPlacedUpdate tables u table targets places
    → IsSound texts u.nodes → IsFilter texts (numbers_of places) u.nodes
update-filter tables u texts table targets places placed sound = record {
  sound = sound;
  each = as-many (table_scope tables u.table) u.nodes places placed.places_are;
  no_aggregate = no-aggregate tables u placed.unrefused;
}

pub delete-filter : (tables : List Table) (d : DeleteTree) (texts : List ℕ) (table : ℕ) (places : List (ℕ × ℕ)) → IsPlacedDelete tables d table places
    → IsSound texts d.nodes → IsFilter texts (numbers_of places) d.nodes
delete-filter tables d texts table places placed sound = record {
  sound = sound;
  each = as-many (table_scope tables d.table) d.nodes places placed.places_are;
  no_aggregate = no-aggregate-removed tables d placed.unrefused;
}

-- the same where its parts lie
pub filter-there : (texts positions : List ℕ) (nodes : List Node) (xs : List ℕ) (ns : List Node) → xs ≡ positions → ns ≡ nodes → IsFilter texts positions nodes → IsFilter texts xs ns
filter-there texts positions nodes xs ns xs_are ns_are is = subst (λ l. IsFilter texts l ns) (sym xs_are) (subst (λ l. IsFilter texts positions l) (sym ns_are) is)

-- so many rows can be counted by four bytes
pub countable : (s : Space) (n : ℕ) → n ≤ taken_in s Main * 128 → s.limit Main < 2 ^ 25 → n < 2 ^ 32
countable s n few pages = let l = taken_below-le s.taken Main (s.limit Main) in omega (arith, few, pages, l)

-- ---- rows that all go

all-go : (columns : List Column) (goes : List Value → Bool) (rows : List (List Value)) → AllByRecursion (Concerns columns goes) rows → filter goes rows ≡ rows
all-go columns goes [] each = refl
all-go columns goes (row ∷ rows) each =
    ap (λ b. if b then row ∷ filter goes rows else filter goes rows) each.0.passes ∙ ap (λ l. row ∷ l) (all-go columns goes rows each.1)

all-fit : (columns : List Column) (goes : List Value → Bool) (rows : List (List Value)) → AllByRecursion (Concerns columns goes) rows → FitRows columns rows
all-fit columns goes [] each = tt
all-fit columns goes (row ∷ rows) each = (each.0.fits, all-fit columns goes rows each.1)

-- ---- INSERT

length-tuples : (from : ℕ) (ends : List ℕ) (values : List Literal) → length (tuples_from from ends values) ≡ length ends
length-tuples from [] values = refl
length-tuples from (e ∷ es) values = ap suc (length-tuples e es values)

module _ (texts : List ℕ) (b : BoundInsert) (t : CatalogTable) where
  abbrev added : List (List Value)
  added = rows_of_tuples texts t.columns b.targets.items b.insert.values.items b.insert.ends.items

  count-added : length added ≡ length b.insert.ends.items
  count-added = length-map (tuples_from 0 b.insert.ends.items b.insert.values.items) (new_row texts (length t.columns) b.targets.items) ∙ length-tuples 0 b.insert.ends.items b.insert.values.items

  insert-is : (rows : List (List Value)) → insert_of texts b (with_these t rows) ≡ unless (rows_cause t.columns added) (Made (rows ++ added) (length added))
  unfolding insert_change
  insert-is rows = refl

  insert-makes : (rows : List (List Value)) (n : ℕ) → rows_cause t.columns added ≡ None → n ≡ length b.insert.ends.items → insert_of texts b (with_these t rows) ≡ Made (rows ++ added) n
  insert-makes rows n none count =
      insert-is rows ∙ ap (λ o. unless o (Made (rows ++ added) (length added))) none ∙ ap (Made (rows ++ added)) (count-added ∙ sym count)

  pub insert-against : (code : ℕ) (column : Option ℕ) → IsCause texts b.targets.items b.insert.values.items b.insert.ends.items code column t → IsAgainst (insert_of texts b) t code column
  insert-against code column is = record {
    refusal = is.refusal;
    told = is.told;
    any = λ rows. insert-is rows ∙ ap (λ o. unless o (Made (rows ++ added) (length added))) is.first;
  }

  pub inserted : (s e : Space) (old new : Contents) (c : ℕ → Bool) (stamp n : ℕ) (pages : List ℕ) → IsChain s t.pages pages → n ≡ length b.insert.ends.items
      → PutsAll s e old new b.table stamp texts b.targets.items b.insert.values.items b.insert.ends.items t → Changes s e old new b.table (insert_of texts b) t c stamp pages n
  inserted s e old new c stamp n pages chain count all =
      let put = all.puts pages chain in record {
        after = all.after;
        moves = all.moves;
        now = put.now;
        grows = subst (Grows s e all.after pages put.now) (count-added ∙ sym count) put.grows;
        counts = all.counts;
        rows = record {
          read = [];
          fit = tt;
          made = added;
          is = insert-makes [] n all.no_cause count;
          shows = λ versions over.
              let more = put.joined versions over in
              let was : List (List Value) = seen_rows c (stamp - 1) versions in (
                more.0,
                more.1,
                record {
                  rows = was ++ added;
                  is = insert-makes was n all.no_cause count;
                  seen = λ marks later agree shown from past.
                      subst (λ l. IsPermutation (seen_rows marks later more.0) (l ++ added)) (seen_rows-later c marks (stamp - 1) later versions agree (omega (arith, from)) past) (more.2.seen marks later shown from);
                  unseen = λ marks other agree missed past. more.2.unseen marks other missed;
                  past = more.2.past;
                },
              );
        };
      }

-- ---- UPDATE

module _ (texts : List ℕ) (b : BoundUpdate) (t : CatalogTable) where
  abbrev goes : List Value → Bool
  goes = row_passes texts (numbers_of b.places.items) b.update.nodes.items b.update.filter

  abbrev sets : List Value → List Value
  sets = row_set texts (numbers_of b.places.items) b.update.nodes.items b.targets.items b.update.sets.items

  abbrev changed : List (List Value) → List (List Value)
  changed rows = map (λ row. if goes row then sets row else row) rows

  update-is : (rows : List (List Value))
      → update_of texts b (with_these t rows) ≡ unless (rows_cause t.columns (map sets (filter goes rows))) (Made (changed rows) (length (map sets (filter goes rows))))
  unfolding update_change
  update-is rows = refl

  -- of the rows that go alone it can be said
  update-of : (rows gone : List (List Value)) → filter goes rows ≡ gone
      → update_of texts b (with_these t rows) ≡ unless (rows_cause t.columns (map sets gone)) (Made (changed rows) (length gone))
  update-of rows gone are =
      update-is rows ∙ ap (λ l. unless (rows_cause t.columns (map sets l)) (Made (changed rows) (length (map sets l)))) are
      ∙ ap (λ n. unless (rows_cause t.columns (map sets gone)) (Made (changed rows) n)) (length-map gone sets)

  update-makes : (rows gone : List (List Value)) (n : ℕ) → filter goes rows ≡ gone → rows_cause t.columns (map sets gone) ≡ None → n ≡ length gone
      → update_of texts b (with_these t rows) ≡ Made (changed rows) n
  update-makes rows gone n are none many = update-of rows gone are ∙ ap (λ o. unless o (Made (changed rows) (length gone))) none ∙ ap (Made (changed rows)) (sym many)

  update-refuses : (rows gone : List (List Value)) (r : Refusal) → filter goes rows ≡ gone → rows_cause t.columns (map sets gone) ≡ Some r
      → update_of texts b (with_these t rows) ≡ Refused r
  update-refuses rows gone r are some = update-of rows gone are ∙ ap (λ o. unless o (Made (changed rows) (length gone))) some

  module _ (s e : Space) (c : ℕ → Bool) (stamp : ℕ) (pages : List ℕ) where
    pub updated : (old new : Contents) (n : ℕ) → UpdatesTable s e old new b.table pages c stamp goes sets n t → Changes s e old new b.table (update_of texts b) t c stamp pages n
    updated old new n all =
        let u = all.updates in record {
          after = all.after;
          moves = all.moves;
          now = u.now;
          grows = u.grows;
          counts = u.counts;
          rows = record {
            read = u.gone;
            fit = all-fit t.columns goes u.gone u.concerned.each;
            made = changed u.gone;
            is = update-makes u.gone u.gone n (all-go t.columns goes u.gone u.concerned.each) u.no_cause u.many;
            shows = λ versions over.
                let more = u.updated versions over in
                let was : List (List Value) = seen_rows c (stamp - 1) versions in (
                  more.0,
                  more.1,
                  record {
                    rows = changed was;
                    is = update-makes was u.gone n (sym (u.concerned.all versions over)) u.no_cause u.many;
                    seen = more.2.seen;
                    unseen = more.2.unseen;
                    past = more.2.past;
                  },
                );
          };
        }

    pub update-refused : (code : ℕ) (column : Option ℕ) → UpdateIsRefused s e t.pages pages t.columns c (stamp - 1) stamp goes sets code column
        → IsRefused s e (update_of texts b) t c stamp pages code column
    update-refused code column is = record {
      refusal = is.refusal;
      told = is.told;
      read = is.gone;
      fit = all-fit t.columns goes is.gone is.concerned.each;
      is = update-refuses is.gone is.gone is.refusal (all-go t.columns goes is.gone is.concerned.each) is.first;
      grows = is.grows;
      counts = is.counts;
      first = λ versions over. update-refuses (seen_rows c (stamp - 1) versions) is.gone is.refusal (sym (is.concerned.all versions over)) is.first;
      hidden = is.hidden;
    }

-- ---- DELETE

module _ (texts : List ℕ) (b : BoundDelete) (t : CatalogTable) where
  abbrev leaves : List Value → Bool
  leaves = row_passes texts (numbers_of b.places.items) b.delete.nodes.items b.delete.filter

  abbrev left : List (List Value) → List (List Value)
  left rows = filter (λ row. not (leaves row)) rows

  delete-is : (rows : List (List Value)) → delete_of texts b (with_these t rows) ≡ Made (left rows) (count_by leaves rows)
  unfolding delete_change
  delete-is rows = refl

  delete-makes : (rows gone : List (List Value)) (n : ℕ) → filter leaves rows ≡ gone → n ≡ length gone → delete_of texts b (with_these t rows) ≡ Made (left rows) n
  delete-makes rows gone n are many = delete-is rows ∙ ap (Made (left rows)) (sym (length-filter leaves rows) ∙ ap length are ∙ sym many)

  pub removed : (s e : Space) (c : ℕ → Bool) (stamp n : ℕ) (pages : List ℕ) → Deletes s e t.pages pages t.columns c (stamp - 1) stamp leaves n
      → Removes s e (delete_of texts b) t c stamp pages n
  removed s e c stamp n pages d = record {
    within = d.within;
    counts = d.counts;
    rows = record {
      read = d.gone;
      fit = all-fit t.columns leaves d.gone d.concerned.each;
      made = left d.gone;
      is = delete-makes d.gone d.gone n (all-go t.columns leaves d.gone d.concerned.each) d.many;
      shows = λ versions over.
          let now = d.deleted versions over in
          let was : List (List Value) = seen_rows c (stamp - 1) versions in (
            now.0,
            now.1,
            record {
              rows = left was;
              is = delete-makes was d.gone n (sym (d.concerned.all versions over)) d.many;
              seen = λ marks later agree shown from past.
                  subst (IsPermutation (seen_rows marks later now.0)) (now.2.seen marks later agree shown from past) (IsPermutation-refl (seen_rows marks later now.0));
              unseen = now.2.hidden.unseen;
              past = now.2.hidden.past;
            },
          );
    };
  }

-- ---- the parts of a statement, where they lie

module _ (texts : List ℕ) (b : BoundInsert) (bytes targets : List ℕ) (values : List Literal) (ends : List ℕ)
    (bytes_are : bytes ≡ texts) (targets_are : targets ≡ b.targets.items) (values_are : values ≡ b.insert.values.items) (ends_are : ends ≡ b.insert.ends.items) where
  -- what holds of the parts holds of the statement
  of-insert : (P : List ℕ → List ℕ → List Literal → List ℕ → Type 0) → P bytes targets values ends → P texts b.targets.items b.insert.values.items b.insert.ends.items
  of-insert P h =
      subst (λ xs. P texts b.targets.items b.insert.values.items xs) ends_are
      (subst (λ xs. P texts b.targets.items xs ends) values_are (subst (λ xs. P texts xs values ends) targets_are (subst (λ xs. P xs targets values ends) bytes_are h)))

  pub insert-done : (s e : Space) (old new : Contents) (c : ℕ → Bool) (stamp n : ℕ) (t : CatalogTable) (pages : List ℕ) → IsChain s t.pages pages → n ≡ length ends
      → PutsAll s e old new b.table stamp bytes targets values ends t → Changes s e old new b.table (insert_of texts b) t c stamp pages n
  insert-done s e old new c stamp n t pages chain count all =
      inserted texts b t s e old new c stamp n pages chain (count ∙ ap length ends_are) (of-insert (λ ts xs vs es. PutsAll s e old new b.table stamp ts xs vs es t) all)

  pub insert-refused : (tables : List CatalogTable) (x : ChangeError)
      → OnRefused (λ code column. (t : CatalogTable) → slice_get tables b.table ≡ Some t → IsCause bytes targets values ends code column t) x
      → OnRefused (λ code column. (t : CatalogTable) → slice_get tables b.table ≡ Some t → IsAgainst (insert_of texts b) t code column) x
  insert-refused tables (error.Refused code column) h = λ t at. insert-against texts b t code column (of-insert (λ ts xs vs es. IsCause ts xs vs es code column t) (h t at))
  insert-refused tables (error.Fault f) h = tt

  pub insert-failed : (s e : Space) (old new : Contents) (stamp : ℕ) (x : ChangeError)
      → OnFault (λ f. (t : CatalogTable) → slice_get old.tables b.table ≡ Some t → PutsPart s e old new b.table stamp bytes targets values ends f t) x
      → OnFault (λ f. (t : CatalogTable) → slice_get old.tables b.table ≡ Some t
      → PutsPart s e old new b.table stamp texts b.targets.items b.insert.values.items b.insert.ends.items f t) x
  insert-failed s e old new stamp (error.Refused code column) h = tt
  insert-failed s e old new stamp (error.Fault f) h = λ t at. of-insert (λ ts xs vs es. PutsPart s e old new b.table stamp ts xs vs es f t) (h t at)

module _ (texts : List ℕ) (b : BoundUpdate) (positions targets : List ℕ) (nodes : List Node) (items : List (List ℕ × ℕ))
    (positions_are : positions ≡ numbers_of b.places.items) (nodes_are : nodes ≡ b.update.nodes.items)
    (targets_are : targets ≡ b.targets.items) (items_are : items ≡ b.update.sets.items) where
  -- what holds of the parts holds of the statement
  of-update : (P : List ℕ → List Node → List ℕ → List (List ℕ × ℕ) → Type 0) → P positions nodes targets items
      → P (numbers_of b.places.items) b.update.nodes.items b.targets.items b.update.sets.items
  of-update P h =
      subst (λ xs. P (numbers_of b.places.items) b.update.nodes.items b.targets.items xs) items_are
      (subst (λ xs. P (numbers_of b.places.items) b.update.nodes.items xs items) targets_are
      (subst (λ xs. P (numbers_of b.places.items) xs targets items) nodes_are (subst (λ xs. P xs nodes targets items) positions_are h)))

  pub update-done : (s e : Space) (old new : Contents) (c : ℕ → Bool) (stamp n : ℕ) (t : CatalogTable) (pages : List ℕ)
      → UpdatesTable s e old new b.table pages c stamp (row_passes texts positions nodes b.update.filter) (row_set texts positions nodes targets items) n t
      → Changes s e old new b.table (update_of texts b) t c stamp pages n
  update-done s e old new c stamp n t pages all =
      updated texts b t s e c stamp pages old new n
      (of-update (λ xs ns ts is. UpdatesTable s e old new b.table pages c stamp (row_passes texts xs ns b.update.filter) (row_set texts xs ns ts is) n t) all)

  pub update-against : (s e : Space) (tables : List CatalogTable) (c : ℕ → Bool) (stamp : ℕ) (x : ChangeError)
      → OnRefused (λ code column. (t : CatalogTable) → slice_get tables b.table ≡ Some t → (pages : List ℕ) → IsChain s t.pages pages
      → UpdateIsRefused s e t.pages pages t.columns c (stamp - 1) stamp (row_passes texts positions nodes b.update.filter) (row_set texts positions nodes targets items) code column) x
      → OnRefused (λ code column. (t : CatalogTable) → slice_get tables b.table ≡ Some t → (pages : List ℕ) → IsChain s t.pages pages
      → IsRefused s e (update_of texts b) t c stamp pages code column) x
  update-against s e tables c stamp (error.Refused code column) h = λ t at pages chain.
      update-refused texts b t s e c stamp pages code column
      (of-update (λ xs ns ts is. UpdateIsRefused s e t.pages pages t.columns c (stamp - 1) stamp (row_passes texts xs ns b.update.filter) (row_set texts xs ns ts is) code column) (h t at pages chain))
  update-against s e tables c stamp (error.Fault f) h = tt

  pub update-failed : (s e : Space) (old new : Contents) (c : ℕ → Bool) (stamp : ℕ) (x : ChangeError)
      → OnFault (λ f. (t : CatalogTable) → slice_get old.tables b.table ≡ Some t → (pages : List ℕ) → IsChain s t.pages pages
      → UpdatesTableSome s e old new b.table pages c stamp (row_passes texts positions nodes b.update.filter) f t) x
      → OnFault (λ f. (t : CatalogTable) → slice_get old.tables b.table ≡ Some t → (pages : List ℕ) → IsChain s t.pages pages
      → UpdatesTableSome s e old new b.table pages c stamp (row_passes texts (numbers_of b.places.items) b.update.nodes.items b.update.filter) f t) x
  update-failed s e old new c stamp (error.Refused code column) h = tt
  update-failed s e old new c stamp (error.Fault f) h = λ t at pages chain.
      of-update (λ xs ns ts is. UpdatesTableSome s e old new b.table pages c stamp (row_passes texts xs ns b.update.filter) f t) (h t at pages chain)

pub delete-done : (texts : List ℕ) (b : BoundDelete) (positions : List ℕ) (nodes : List Node) → positions ≡ numbers_of b.places.items → nodes ≡ b.delete.nodes.items
    → (s e : Space) (c : ℕ → Bool) (stamp n : ℕ) (t : CatalogTable) (pages : List ℕ)
    → Deletes s e t.pages pages t.columns c (stamp - 1) stamp (row_passes texts positions nodes b.delete.filter) n → Removes s e (delete_of texts b) t c stamp pages n
delete-done texts b positions nodes positions_are nodes_are s e c stamp n t pages d =
    removed texts b t s e c stamp n pages
    (subst (λ ns. Deletes s e t.pages pages t.columns c (stamp - 1) stamp (row_passes texts (numbers_of b.places.items) ns b.delete.filter) n) nodes_are
    (subst (λ xs. Deletes s e t.pages pages t.columns c (stamp - 1) stamp (row_passes texts xs nodes b.delete.filter) n) positions_are d))
