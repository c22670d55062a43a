use Rattle.std.proofs.Common.{◌≡◌, ◌-◌, [], ◌∷◌, ◌||◌, ◌∙◌, ◌<◌, ◌^◌, ℕ, Option, List, Some, refl, sym, ap, subst, slice_get}
use Rattle.hg_base.specs.SteadyLaws.{Later_same}
use Rattle.hg_base.specs.declared.pages.PageFault.{PageFault}
use Rattle.hg_bind.specs.Bound.{error_of, tables_of}
use Rattle.hg_catalog.specs.Contents.{Contents, CatalogTable}
use Rattle.hg_dml.specs.Filtering.{row_passes}
use Rattle.hg_dml.specs.Rows.{Tells}
use Rattle.hg_dml.specs.Updating.{row_set, UpdatesTable, UpdatesTableSome, UpdateIsRefused}
use Rattle.hg_machine.specs.Plain.Refused.{refusal_line}
use Rattle.hg_machine.specs.Plain.Replies.{rows}
use Rattle.hg_model.specs.Refusal.{StampsUsedUp}
use Rattle.hg_model.specs.declared.trees.Column.{Column}
use Rattle.hg_reply.specs.Asked.{update_at}
use Rattle.hg_table.specs.Chains.{IsChain}
use Rattle.hg_table.specs.Marks.{committed, last, Draws}
use Rattle.hg_engine.specs.Stepping.{line_of}
use Rattle.hg_engine.proofs.ChangeLaws.{stands-at, stands-over, at-fault, at-refused}
use Rattle.hg_engine.proofs.Lookups.{mapped-some}
use Rattle.hg_engine.proofs.UpdateLaws.{update-misfit, update-late, update-done, update-against, update-faulted, updated-same, refused-same, refused-one, some-same-space, some-counted, some-found, is-filter, read-update, here-at}
use Rattle.hg_engine.proofs.NewTables.{some-mapped}
use Rattle.hg_engine.proofs.StandLaws.{some-one}
use Rattle.hg_engine.proofs.Saying.{tells-one, counted-plain, refusal-quiet, sound-refusal, sound-line, error-of-fault}
use Rattle.hg_engine.proofs.tables.Tables.update.Goals as goal

pub returns-in-Err-clause-step : goal.returns-in-Err-clause-step
returns-in-Err-clause-step g c =
    let a = g.S.Pages.state c.args.space.now in
    let old = c.args.self.now in
    let u = update_at c.args.update.now in
    let p = c.place_items.ensures in
    let r = some-mapped error_of _ _ (c.in-Err.ensures {u = tt}).err in (
      refusal_line r.0 ∷ [],
      tells-one c.args.reply.now c.say_refusal.new.reply (refusal_line r.0) c.requires.empty c.requires.no_error (c.say_refusal.ensures.text r.0 r.2) c.say_refusal.ensures.errors,
      counted-plain a a (refusal_line r.0) (Later_same a.counts) (refusal-quiet r.0),
      update-misfit a old c.place_items.new.self u c.args.texts.now c.requires.idle p.open p.max p.mpl p.catalog p.stamps r.0 r.1,
      sound-refusal _ r.0,
    )

pub returns-in_default-clause-step : goal.returns-in_default-clause-step
returns-in_default-clause-step g c =
    let a = g.S.Pages.state c.args.space.now in
    let old = c.args.self.now in
    let u = update_at c.args.update.now in
    let drawn = (c.in_default.ensures {u = tt}).drawn in
    let p = c.place_items.ensures in
    let e = c.draw.ensures in (
      refusal_line StampsUsedUp ∷ [],
      tells-one c.args.reply.now c.say.new.self (refusal_line StampsUsedUp) c.requires.empty c.requires.no_error c.say.ensures.text c.say.ensures.errors,
      counted-plain a a (refusal_line StampsUsedUp) (Later_same a.counts) (refusal-quiet StampsUsedUp),
      update-late a old c.draw.new.self u c.args.texts.now c.requires.idle (e.open ∙ p.open) (e.max ∙ p.max) (e.mpl ∙ p.mpl) (e.catalog ∙ p.catalog) (drawn.1 ∙ p.stamps)
          (c.in-Ok.ensures {u = tt}).stands (ap last (sym p.stamps) ∙ drawn.0),
      sound-refusal _ StampsUsedUp,
    )

pub update_rows-requires-clause-stands : goal.update_rows-requires-clause-stands
update_rows-requires-clause-stands g c =
    let a = g.S.Pages.state c.args.space.now in
    let old = c.args.self.now in
    stands-over a old.catalog c.draw.new.self.catalog c.in-Ok.table (c.draw.ensures.catalog ∙ c.place_items.ensures.catalog) (stands-at a old c.in-Ok.table c.requires.stands.0 c.requires.stands.1)

pub update_rows-requires-clause-filter : goal.update_rows-requires-clause-filter
update_rows-requires-clause-filter g c =
    let old = c.args.self.now in
    let u = update_at c.args.update.now in
    let placed = c.in-Ok.ensures {u = tt} in
    is-filter (tables_of old.catalog) u c.args.texts.now c.as_slice.result.now (read-update c.read_updates_fit.ensures old.max u c.args.texts.now c.requires.read) placed.stands
    (c.as_slice.ensures.value ∙ ap (λ t. t.items) c.draw.ensures.columns ∙ placed.columns)

pub update_rows-requires-clause-numbers : goal.update_rows-requires-clause-numbers
update_rows-requires-clause-numbers g c = c.requires.stands.1.few_temp

pub returns-in-Ok-update_rows-clause-step : goal.returns-in-Ok-update_rows-clause-step
returns-in-Ok-update_rows-clause-step g c =
    let a = g.S.Pages.state c.args.space.now in
    let b = g.S.Pages.state c.update_rows.new.space in
    let old = c.args.self.now in
    let now = c.update_rows.new.catalog in
    let u = update_at c.args.update.now in
    let texts = c.args.texts.now in
    let columns = c.as_slice.result.now in
    let targets = c.as_slice-2.result.now in
    let k = c.in-Ok.table in
    let s = c.in-Some.stamp.0 in
    let p = c.place_items.ensures in
    let e = c.draw.ensures in
    let mid = c.draw.new.self.stamps in
    let placed = c.in-Ok.ensures {u = tt} in
    let drawn = (c.in-Some.ensures {u = tt}).drawn in
    let done = c.in-Ok-update_rows.ensures {u = tt} in
    let n = c.in-Ok-update_rows.count in
    let goes = row_passes texts columns u.nodes u.filter in
    let sets = row_set texts columns u.nodes targets u.sets in
    let P : Contents → Type 0 = λ cat. (t : CatalogTable) → slice_get cat.tables k ≡ Some t → (pages : List ℕ) → IsChain a t.pages pages
    → UpdatesTable a b cat now k pages (committed mid) s goes sets n t in
    let updates = subst P (e.catalog ∙ p.catalog) done.ok in
    let line = rows n in (
      line ∷ [],
      tells-one c.args.reply.now c.say-in-Ok-update_rows.new.self line c.requires.empty c.requires.no_error c.say-in-Ok-update_rows.ensures.text c.say-in-Ok-update_rows.ensures.errors,
      counted-plain a b line (updated-same a b old u goes (committed mid) k s c.requires.stands.0 c.requires.stands.1 placed.inside now sets n updates).later (record { main = refl; temp = refl; main_full = refl; temp_full = refl }),
      update-done a b old _ u texts columns targets k s mid c.requires.idle (e.open ∙ p.open) (e.max ∙ p.max) (e.mpl ∙ p.mpl) placed.number placed.inside placed.stands
          (c.as_slice.ensures.value ∙ ap (λ t. t.items) e.columns ∙ placed.columns) (c.as_slice-2.ensures.value ∙ ap (λ t. t.items) e.targets ∙ placed.targets)
          (subst (λ m. Draws m mid s) p.stamps drawn.0) (subst (λ m. last m < 2 ^ 20) p.stamps drawn.1) n updates done.committed,
      sound-line _ line refl,
    )

pub returns-in-Ok-update_rows-clause-same : goal.returns-in-Ok-update_rows-clause-same
returns-in-Ok-update_rows-clause-same g c =
    let a = g.S.Pages.state c.args.space.now in
    let b = g.S.Pages.state c.update_rows.new.space in
    let u = update_at c.args.update.now in
    let now = c.update_rows.new.catalog in
    let k = c.in-Ok.table in
    let s = c.in-Some.stamp.0 in
    let mid = c.draw.new.self.stamps in
    let n = c.in-Ok-update_rows.count in
    let goes = row_passes c.args.texts.now c.as_slice.result.now u.nodes u.filter in
    let sets = row_set c.args.texts.now c.as_slice.result.now u.nodes c.as_slice-2.result.now u.sets in
    let P : Contents → Type 0 = λ cat. (t : CatalogTable) → slice_get cat.tables k ≡ Some t → (pages : List ℕ) → IsChain a t.pages pages
    → UpdatesTable a b cat now k pages (committed mid) s goes sets n t in
    updated-same a b c.args.self.now u goes (committed mid) k s c.requires.stands.0 c.requires.stands.1 (c.in-Ok.ensures {u = tt}).inside now sets n
    (subst P (c.draw.ensures.catalog ∙ c.place_items.ensures.catalog) (c.in-Ok-update_rows.ensures {u = tt}).ok)

pub returns-in-Err-Fault-clause-step : goal.returns-in-Err-Fault-clause-step
returns-in-Err-Fault-clause-step g c =
    let a = g.S.Pages.state c.args.space.now in
    let b = g.S.Pages.state c.update_rows.new.space in
    let old = c.args.self.now in
    let now = c.update_rows.new.catalog in
    let u = update_at c.args.update.now in
    let texts = c.args.texts.now in
    let columns = c.as_slice.result.now in
    let targets = c.as_slice-2.result.now in
    let k = c.in-Ok.table in
    let s = c.in-Some.stamp.0 in
    let p = c.place_items.ensures in
    let e = c.draw.ensures in
    let mid = c.draw.new.self.stamps in
    let placed = c.in-Ok.ensures {u = tt} in
    let drawn = (c.in-Some.ensures {u = tt}).drawn in
    let failed = c.in-Err-Fault.ensures {u = tt} in
    let f = c.in-Err-Fault.fault in
    let goes = row_passes texts columns u.nodes u.filter in
    let F : PageFault → Type 0 = λ fault. (t : CatalogTable) → slice_get c.draw.new.self.catalog.tables k ≡ Some t → (pages : List ℕ) → IsChain a t.pages pages
    → UpdatesTableSome a b c.draw.new.self.catalog now k pages (committed mid) s goes fault t in
    let P : Contents → Type 0 = λ cat. (t : CatalogTable) → slice_get cat.tables k ≡ Some t → (pages : List ℕ) → IsChain a t.pages pages
    → UpdatesTableSome a b cat now k pages (committed mid) s goes f t in
    let updates = subst P (e.catalog ∙ p.catalog) (at-fault c.in-Err-Fault.field-0 f F c.in-Err-Fault.field-0-is failed.fault) in (
      line_of f ∷ [],
      tells-one c.args.reply.now c.say_fault.new.reply (line_of f) c.requires.empty c.requires.no_error c.say_fault.ensures.text
          (c.say_fault.ensures.errors ∙ ap (λ b. c.args.reply.now.has_error || b) (sym (error-of-fault f))),
      some-counted a b old u goes (committed mid) k s c.requires.stands.0 c.requires.stands.1 placed.inside now f updates,
      update-faulted a b old _ u texts columns targets k s mid c.requires.idle (e.open ∙ p.open) (e.max ∙ p.max) (e.mpl ∙ p.mpl) placed.number placed.inside placed.stands
          (c.as_slice.ensures.value ∙ ap (λ t. t.items) e.columns ∙ placed.columns) (c.as_slice-2.ensures.value ∙ ap (λ t. t.items) e.targets ∙ placed.targets)
          (subst (λ m. Draws m mid s) p.stamps drawn.0) (subst (λ m. last m < 2 ^ 20) p.stamps drawn.1) f updates failed.uncommitted,
      some-found a b old u goes (committed mid) k s c.requires.stands.0 c.requires.stands.1 placed.inside now f updates placed.number,
    )

pub returns-in-Err-Fault-clause-same : goal.returns-in-Err-Fault-clause-same
returns-in-Err-Fault-clause-same g c =
    let a = g.S.Pages.state c.args.space.now in
    let b = g.S.Pages.state c.update_rows.new.space in
    let now = c.update_rows.new.catalog in
    let u = update_at c.args.update.now in
    let k = c.in-Ok.table in
    let s = c.in-Some.stamp.0 in
    let mid = c.draw.new.self.stamps in
    let f = c.in-Err-Fault.fault in
    let goes = row_passes c.args.texts.now c.as_slice.result.now u.nodes u.filter in
    let F : PageFault → Type 0 = λ fault. (t : CatalogTable) → slice_get c.draw.new.self.catalog.tables k ≡ Some t → (pages : List ℕ) → IsChain a t.pages pages
    → UpdatesTableSome a b c.draw.new.self.catalog now k pages (committed mid) s goes fault t in
    let P : Contents → Type 0 = λ cat. (t : CatalogTable) → slice_get cat.tables k ≡ Some t → (pages : List ℕ) → IsChain a t.pages pages
    → UpdatesTableSome a b cat now k pages (committed mid) s goes f t in
    some-same-space a b c.args.self.now u goes (committed mid) k s c.requires.stands.0 c.requires.stands.1 (c.in-Ok.ensures {u = tt}).inside now f
    (subst P (c.draw.ensures.catalog ∙ c.place_items.ensures.catalog) (at-fault c.in-Err-Fault.field-0 f F c.in-Err-Fault.field-0-is (c.in-Err-Fault.ensures {u = tt}).fault))

pub say_cause-requires-clause-known : goal.say_cause-requires-clause-known
say_cause-requires-clause-known g c =
    let a = g.S.Pages.state c.args.space.now in
    let b = g.S.Pages.state c.update_rows.new.space in
    let old = c.args.self.now in
    let u = update_at c.args.update.now in
    let k = c.in-Ok.table in
    let s = c.in-Some.stamp.0 in
    let mid = c.draw.new.self.stamps in
    let goes = row_passes c.args.texts.now c.as_slice.result.now u.nodes u.filter in
    let sets = row_set c.args.texts.now c.as_slice.result.now u.nodes c.as_slice-2.result.now u.sets in
    let failed = c.in-Err-Refused.ensures {u = tt} in
    let Same : ℕ → Option ℕ → Type 0 = λ code column. c.update_rows.new.catalog ≡ c.draw.new.self.catalog in
    let R : ℕ → Option ℕ → Type 0 = λ code column. (t : CatalogTable) → slice_get c.draw.new.self.catalog.tables k ≡ Some t → (pages : List ℕ) → IsChain a t.pages pages
    → UpdateIsRefused a b t.pages pages t.columns (committed mid) (s - 1) s goes sets code column in
    let P : Contents → Type 0 = λ cat. (t : CatalogTable) → slice_get cat.tables k ≡ Some t → (pages : List ℕ) → IsChain a t.pages pages
    → UpdateIsRefused a b t.pages pages t.columns (committed mid) (s - 1) s goes sets c.in-Err-Refused.code c.in-Err-Refused.column in
    let catalog = c.draw.ensures.catalog ∙ c.place_items.ensures.catalog in
    let same = at-refused c.in-Err-Refused.field-0 c.in-Err-Refused.code c.in-Err-Refused.column Same c.in-Err-Refused.field-0-is failed.unmoved in
    let refuses = subst P catalog (at-refused c.in-Err-Refused.field-0 c.in-Err-Refused.code c.in-Err-Refused.column R c.in-Err-Refused.field-0-is failed.refused) in
    let inside = (c.in-Ok.ensures {u = tt}).inside in
    let one = refused-one a b old u goes (committed mid) k s c.requires.stands.0 c.requires.stands.1 inside sets c.in-Err-Refused.code c.in-Err-Refused.column refuses in
    let at = here-at a b old u goes (committed mid) k s c.requires.stands.0 c.requires.stands.1 inside in
    let e = mapped-some (λ (x : CatalogTable). x.columns) _ _ c.columns.ensures.value in
    let there = ap (λ (x : Contents). slice_get x.tables k) (sym (same ∙ catalog)) ∙ e.1 in
    let T : List Column → Type 0 = λ cols. Tells cols c.in-Err-Refused.code c.in-Err-Refused.column one.0 in
    (one.0, subst T (ap (λ (x : CatalogTable). x.columns) (some-one at.entry e.0 (sym at.at_entry ∙ there)) ∙ e.2 ∙ sym c.as_slice-in-Err-Refused.ensures.value) one.1)

pub returns-in-Err-Refused-clause-step : goal.returns-in-Err-Refused-clause-step
returns-in-Err-Refused-clause-step g c =
    let a = g.S.Pages.state c.args.space.now in
    let b = g.S.Pages.state c.update_rows.new.space in
    let old = c.args.self.now in
    let u = update_at c.args.update.now in
    let texts = c.args.texts.now in
    let columns = c.as_slice.result.now in
    let targets = c.as_slice-2.result.now in
    let k = c.in-Ok.table in
    let s = c.in-Some.stamp.0 in
    let p = c.place_items.ensures in
    let d = c.draw.ensures in
    let mid = c.draw.new.self.stamps in
    let placed = c.in-Ok.ensures {u = tt} in
    let drawn = (c.in-Some.ensures {u = tt}).drawn in
    let goes = row_passes texts columns u.nodes u.filter in
    let sets = row_set texts columns u.nodes targets u.sets in
    let failed = c.in-Err-Refused.ensures {u = tt} in
    let Same : ℕ → Option ℕ → Type 0 = λ code column. c.update_rows.new.catalog ≡ c.draw.new.self.catalog in
    let R : ℕ → Option ℕ → Type 0 = λ code column. (t : CatalogTable) → slice_get c.draw.new.self.catalog.tables k ≡ Some t → (pages : List ℕ) → IsChain a t.pages pages
    → UpdateIsRefused a b t.pages pages t.columns (committed mid) (s - 1) s goes sets code column in
    let P : Contents → Type 0 = λ cat. (t : CatalogTable) → slice_get cat.tables k ≡ Some t → (pages : List ℕ) → IsChain a t.pages pages
    → UpdateIsRefused a b t.pages pages t.columns (committed mid) (s - 1) s goes sets c.in-Err-Refused.code c.in-Err-Refused.column in
    let catalog = d.catalog ∙ p.catalog in
    let same = at-refused c.in-Err-Refused.field-0 c.in-Err-Refused.code c.in-Err-Refused.column Same c.in-Err-Refused.field-0-is failed.unmoved in
    let refuses = subst P catalog (at-refused c.in-Err-Refused.field-0 c.in-Err-Refused.code c.in-Err-Refused.column R c.in-Err-Refused.field-0-is failed.refused) in
    let one = refused-one a b old u goes (committed mid) k s c.requires.stands.0 c.requires.stands.1 placed.inside sets c.in-Err-Refused.code c.in-Err-Refused.column refuses in
    let at = here-at a b old u goes (committed mid) k s c.requires.stands.0 c.requires.stands.1 placed.inside in
    let e = mapped-some (λ (x : CatalogTable). x.columns) _ _ c.columns.ensures.value in
    let there = ap (λ (x : Contents). slice_get x.tables k) (sym (same ∙ catalog)) ∙ e.1 in
    let T : List Column → Type 0 = λ cols. Tells cols c.in-Err-Refused.code c.in-Err-Refused.column one.0 in
    let told = subst T (ap (λ (x : CatalogTable). x.columns) (some-one at.entry e.0 (sym at.at_entry ∙ there)) ∙ e.2 ∙ sym c.as_slice-in-Err-Refused.ensures.value) one.1 in
    let r = one.0 in (
      refusal_line r ∷ [],
      tells-one c.args.reply.now c.say_cause.new.reply (refusal_line r) c.requires.empty c.requires.no_error (c.say_cause.ensures.text r told) c.say_cause.ensures.errors,
      counted-plain a b (refusal_line r) (refused-same a b old u goes (committed mid) k s c.requires.stands.0 c.requires.stands.1 placed.inside sets c.in-Err-Refused.code c.in-Err-Refused.column refuses).later (refusal-quiet r),
      update-against a b old _ u texts columns targets k s mid c.requires.idle (d.open ∙ p.open) (d.max ∙ p.max) (d.mpl ∙ p.mpl) placed.number placed.inside placed.stands
          (c.as_slice.ensures.value ∙ ap (λ t. t.items) d.columns ∙ placed.columns) (c.as_slice-2.ensures.value ∙ ap (λ t. t.items) d.targets ∙ placed.targets)
          (subst (λ m. Draws m mid s) p.stamps drawn.0) (subst (λ m. last m < 2 ^ 20) p.stamps drawn.1) c.in-Err-Refused.code c.in-Err-Refused.column (refusal_line r) (same ∙ catalog) failed.uncommitted
          refuses one.2,
      sound-refusal _ r,
    )

pub returns-in-Err-Refused-clause-same : goal.returns-in-Err-Refused-clause-same
returns-in-Err-Refused-clause-same g c =
    let a = g.S.Pages.state c.args.space.now in
    let b = g.S.Pages.state c.update_rows.new.space in
    let u = update_at c.args.update.now in
    let k = c.in-Ok.table in
    let s = c.in-Some.stamp.0 in
    let mid = c.draw.new.self.stamps in
    let goes = row_passes c.args.texts.now c.as_slice.result.now u.nodes u.filter in
    let sets = row_set c.args.texts.now c.as_slice.result.now u.nodes c.as_slice-2.result.now u.sets in
    let R : ℕ → Option ℕ → Type 0 = λ code column. (t : CatalogTable) → slice_get c.draw.new.self.catalog.tables k ≡ Some t → (pages : List ℕ) → IsChain a t.pages pages
    → UpdateIsRefused a b t.pages pages t.columns (committed mid) (s - 1) s goes sets code column in
    let P : Contents → Type 0 = λ cat. (t : CatalogTable) → slice_get cat.tables k ≡ Some t → (pages : List ℕ) → IsChain a t.pages pages
    → UpdateIsRefused a b t.pages pages t.columns (committed mid) (s - 1) s goes sets c.in-Err-Refused.code c.in-Err-Refused.column in
    refused-same a b c.args.self.now u goes (committed mid) k s c.requires.stands.0 c.requires.stands.1 (c.in-Ok.ensures {u = tt}).inside sets c.in-Err-Refused.code c.in-Err-Refused.column
    (subst P (c.draw.ensures.catalog ∙ c.place_items.ensures.catalog)
    (at-refused c.in-Err-Refused.field-0 c.in-Err-Refused.code c.in-Err-Refused.column R c.in-Err-Refused.field-0-is (c.in-Err-Refused.ensures {u = tt}).refused))
