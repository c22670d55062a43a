use Rattle.std.proofs.Common.{◌≡◌, ◌-◌, [], ◌∷◌, ◌||◌, ◌∙◌, ◌<◌, ◌^◌, ℕ, List, Some, refl, sym, ap, subst, slice_get}
use Rattle.hg_base.specs.SteadyLaws.{Later_same}
use Rattle.hg_bind.specs.Bound.{error_of, tables_of}
use Rattle.hg_catalog.specs.Contents.{Contents, CatalogTable}
use Rattle.hg_dml.specs.Deleting.{Deletes, DeletesSome}
use Rattle.hg_dml.specs.Filtering.{row_passes}
use Rattle.hg_machine.specs.Plain.Refused.{refusal_line}
use Rattle.hg_machine.specs.Plain.Replies.{rows}
use Rattle.hg_model.specs.Refusal.{StampsUsedUp}
use Rattle.hg_reply.specs.Asked.{delete_at}
use Rattle.hg_table.specs.Chains.{IsChain}
use Rattle.hg_table.specs.Marks.{committed, last, Draws}
use Rattle.hg_engine.specs.Stepping.{line_of}
use Rattle.hg_engine.proofs.ChangeLaws.{stands-at, stands-over}
use Rattle.hg_engine.proofs.DeleteLaws.{delete-misfit, delete-late, delete-done, delete-faulted, deleted-same, some-same-space, some-counted, some-found, is-filter, read-delete}
use Rattle.hg_engine.proofs.NewTables.{some-mapped}
use Rattle.hg_engine.proofs.Saying.{tells-one, counted-plain, refusal-quiet, sound-refusal, sound-line, error-of-fault}
use Rattle.hg_engine.proofs.tables.Tables.delete.Goals as goal

pub returns-in-Err-clause-step : goal.returns-in-Err-clause-step
returns-in-Err-clause-step g c =
    let a = g.S.Pages.state c.args.space.now in
    let old = c.args.self.now in
    let d = delete_at c.args.delete.now in
    let p = c.place_where.ensures in
    let r = some-mapped error_of _ _ (c.in-Err.ensures {u = tt}).err in (
      refusal_line r.0 ∷ [],
      tells-one c.args.reply.now c.say_refusal.new.reply (refusal_line r.0) c.requires.empty c.requires.no_error (c.say_refusal.ensures.text r.0 r.2) c.say_refusal.ensures.errors,
      counted-plain a a (refusal_line r.0) (Later_same a.counts) (refusal-quiet r.0),
      delete-misfit a old c.place_where.new.self d c.args.texts.now c.requires.idle p.open p.max p.mpl p.catalog p.stamps r.0 r.1,
      sound-refusal _ r.0,
    )

pub returns-in_default-clause-step : goal.returns-in_default-clause-step
returns-in_default-clause-step g c =
    let a = g.S.Pages.state c.args.space.now in
    let old = c.args.self.now in
    let d = delete_at c.args.delete.now in
    let drawn = (c.in_default.ensures {u = tt}).drawn in
    let p = c.place_where.ensures in
    let e = c.draw.ensures in (
      refusal_line StampsUsedUp ∷ [],
      tells-one c.args.reply.now c.say.new.self (refusal_line StampsUsedUp) c.requires.empty c.requires.no_error c.say.ensures.text c.say.ensures.errors,
      counted-plain a a (refusal_line StampsUsedUp) (Later_same a.counts) (refusal-quiet StampsUsedUp),
      delete-late a old c.draw.new.self d c.args.texts.now c.requires.idle (e.open ∙ p.open) (e.max ∙ p.max) (e.mpl ∙ p.mpl) (e.catalog ∙ p.catalog) (drawn.1 ∙ p.stamps)
          (c.in-Ok.ensures {u = tt}).stands (ap last (sym p.stamps) ∙ drawn.0),
      sound-refusal _ StampsUsedUp,
    )

pub delete_rows-requires-clause-stands : goal.delete_rows-requires-clause-stands
delete_rows-requires-clause-stands g c =
    let a = g.S.Pages.state c.args.space.now in
    let old = c.args.self.now in
    stands-over a old.catalog c.draw.new.self.catalog c.in-Ok.table (c.draw.ensures.catalog ∙ c.place_where.ensures.catalog) (stands-at a old c.in-Ok.table c.requires.stands.0 c.requires.stands.1)

pub delete_rows-requires-clause-filter : goal.delete_rows-requires-clause-filter
delete_rows-requires-clause-filter g c =
    let old = c.args.self.now in
    let d = delete_at c.args.delete.now in
    let placed = c.in-Ok.ensures {u = tt} in
    is-filter (tables_of old.catalog) d c.args.texts.now c.as_slice.result.now (read-delete c.read_deletes_fit.ensures old.max d c.args.texts.now c.requires.read) placed.stands
    (c.as_slice.ensures.value ∙ ap (λ t. t.items) c.draw.ensures.columns ∙ placed.columns)

pub returns-in-Ok-delete_rows-clause-step : goal.returns-in-Ok-delete_rows-clause-step
returns-in-Ok-delete_rows-clause-step g c =
    let a = g.S.Pages.state c.args.space.now in
    let b = g.S.Pages.state c.delete_rows.new.space in
    let old = c.args.self.now in
    let d = delete_at c.args.delete.now in
    let texts = c.args.texts.now in
    let columns = c.as_slice.result.now in
    let k = c.in-Ok.table in
    let s = c.in-Some.stamp.0 in
    let p = c.place_where.ensures in
    let e = c.draw.ensures in
    let mid = c.draw.new.self.stamps in
    let placed = c.in-Ok.ensures {u = tt} in
    let drawn = (c.in-Some.ensures {u = tt}).drawn in
    let done = c.in-Ok-delete_rows.ensures {u = tt} in
    let n = c.in-Ok-delete_rows.count in
    let goes = row_passes texts columns d.nodes d.filter in
    let P : Contents → Type 0 = λ cat. (t : CatalogTable) → slice_get cat.tables k ≡ Some t → (pages : List ℕ) → IsChain a t.pages pages
    → Deletes a b t.pages pages t.columns (committed mid) (s - 1) s goes n in
    let deletes = subst P (e.catalog ∙ p.catalog) done.ok in
    let line = rows n in (
      line ∷ [],
      tells-one c.args.reply.now c.say-in-Ok-delete_rows.new.self line c.requires.empty c.requires.no_error c.say-in-Ok-delete_rows.ensures.text c.say-in-Ok-delete_rows.ensures.errors,
      counted-plain a b line (deleted-same a b old d goes (committed mid) k s c.requires.stands.0 c.requires.stands.1 placed.inside n deletes).later (record { main = refl; temp = refl; main_full = refl; temp_full = refl }),
      delete-done a b old _ d texts columns k s mid c.requires.idle (e.open ∙ p.open) (e.max ∙ p.max) (e.mpl ∙ p.mpl) (e.catalog ∙ p.catalog) placed.number placed.inside placed.stands
          (c.as_slice.ensures.value ∙ ap (λ t. t.items) e.columns ∙ placed.columns)
          (subst (λ m. Draws m mid s) p.stamps drawn.0) (subst (λ m. last m < 2 ^ 20) p.stamps drawn.1) n deletes done.committed,
      sound-line _ line refl,
    )

pub returns-in-Ok-delete_rows-clause-same : goal.returns-in-Ok-delete_rows-clause-same
returns-in-Ok-delete_rows-clause-same g c =
    let a = g.S.Pages.state c.args.space.now in
    let b = g.S.Pages.state c.delete_rows.new.space in
    let d = delete_at c.args.delete.now in
    let k = c.in-Ok.table in
    let s = c.in-Some.stamp.0 in
    let mid = c.draw.new.self.stamps in
    let goes = row_passes c.args.texts.now c.as_slice.result.now d.nodes d.filter in
    let P : Contents → Type 0 = λ cat. (t : CatalogTable) → slice_get cat.tables k ≡ Some t → (pages : List ℕ) → IsChain a t.pages pages
    → Deletes a b t.pages pages t.columns (committed mid) (s - 1) s goes c.in-Ok-delete_rows.count in
    deleted-same a b c.args.self.now d goes (committed mid) k s c.requires.stands.0 c.requires.stands.1 (c.in-Ok.ensures {u = tt}).inside c.in-Ok-delete_rows.count
    (subst P (c.draw.ensures.catalog ∙ c.place_where.ensures.catalog) (c.in-Ok-delete_rows.ensures {u = tt}).ok)

pub returns-in-Err-delete_rows-clause-step : goal.returns-in-Err-delete_rows-clause-step
returns-in-Err-delete_rows-clause-step g c =
    let a = g.S.Pages.state c.args.space.now in
    let b = g.S.Pages.state c.delete_rows.new.space in
    let old = c.args.self.now in
    let d = delete_at c.args.delete.now in
    let texts = c.args.texts.now in
    let columns = c.as_slice.result.now in
    let k = c.in-Ok.table in
    let s = c.in-Some.stamp.0 in
    let p = c.place_where.ensures in
    let e = c.draw.ensures in
    let mid = c.draw.new.self.stamps in
    let placed = c.in-Ok.ensures {u = tt} in
    let drawn = (c.in-Some.ensures {u = tt}).drawn in
    let failed = c.in-Err-delete_rows.ensures {u = tt} in
    let f = c.in-Err-delete_rows.fault in
    let goes = row_passes texts columns d.nodes d.filter in
    let P : Contents → Type 0 = λ cat. (t : CatalogTable) → slice_get cat.tables k ≡ Some t → (pages : List ℕ) → IsChain a t.pages pages
    → DeletesSome a b t.pages pages t.columns (committed mid) (s - 1) s f in
    let deletes = subst P (e.catalog ∙ p.catalog) failed.fault in (
      line_of f ∷ [],
      tells-one c.args.reply.now c.say_fault.new.reply (line_of f) c.requires.empty c.requires.no_error c.say_fault.ensures.text
          (c.say_fault.ensures.errors ∙ ap (λ b. c.args.reply.now.has_error || b) (sym (error-of-fault f))),
      some-counted a b old d goes (committed mid) k s c.requires.stands.0 c.requires.stands.1 placed.inside f deletes,
      delete-faulted a b old _ d texts columns k s mid c.requires.idle (e.open ∙ p.open) (e.max ∙ p.max) (e.mpl ∙ p.mpl) (e.catalog ∙ p.catalog) placed.number placed.inside placed.stands
          (c.as_slice.ensures.value ∙ ap (λ t. t.items) e.columns ∙ placed.columns)
          (subst (λ m. Draws m mid s) p.stamps drawn.0) (subst (λ m. last m < 2 ^ 20) p.stamps drawn.1) f deletes failed.uncommitted,
      some-found a b old d goes (committed mid) k s c.requires.stands.0 c.requires.stands.1 placed.inside f deletes placed.number,
    )

pub returns-in-Err-delete_rows-clause-same : goal.returns-in-Err-delete_rows-clause-same
returns-in-Err-delete_rows-clause-same g c =
    let a = g.S.Pages.state c.args.space.now in
    let b = g.S.Pages.state c.delete_rows.new.space in
    let d = delete_at c.args.delete.now in
    let k = c.in-Ok.table in
    let s = c.in-Some.stamp.0 in
    let mid = c.draw.new.self.stamps in
    let f = c.in-Err-delete_rows.fault in
    let goes = row_passes c.args.texts.now c.as_slice.result.now d.nodes d.filter in
    let P : Contents → Type 0 = λ cat. (t : CatalogTable) → slice_get cat.tables k ≡ Some t → (pages : List ℕ) → IsChain a t.pages pages
    → DeletesSome a b t.pages pages t.columns (committed mid) (s - 1) s f in
    some-same-space a b c.args.self.now d goes (committed mid) k s c.requires.stands.0 c.requires.stands.1 (c.in-Ok.ensures {u = tt}).inside f
    (subst P (c.draw.ensures.catalog ∙ c.place_where.ensures.catalog) (c.in-Err-delete_rows.ensures {u = tt}).fault)
