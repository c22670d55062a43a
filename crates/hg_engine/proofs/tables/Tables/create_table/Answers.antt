use Rattle.std.proofs.Common.{[], ◌∷◌, ◌++◌, ◌≤◌, length, refl, sym, subst, ap, ◌∙◌, rules}
use Rattle.hg_base.specs.SteadyLaws.{Later_same}
use Rattle.hg_bind.specs.Bound.{error_of}
use Rattle.hg_catalog.specs.Contents.{IsNewTable, table_number}
use Rattle.hg_machine.specs.Plain.Refused.{refusal_line}
use Rattle.hg_machine.specs.Plain.Replies.{created}
use Rattle.hg_reply.specs.Asked.{table_at}
use Rattle.hg_table.specs.TableLaws.{no_pages}
use Rattle.hg_engine.proofs.CreateLaws.{create-refused, create-made}
use Rattle.hg_engine.proofs.NewTables.{is-free, free-few, free-number, new-table, none-mapped, some-mapped}
use Rattle.hg_engine.proofs.Saying.{tells-one, counted-plain, sound-line, refusal-quiet, sound-refusal}
use Rattle.hg_engine.proofs.tables.Tables.create_table.Goals as goal

pub returns-in-Some-clause-step : goal.returns-in-Some-clause-step
returns-in-Some-clause-step c =
    let r = some-mapped error_of _ _ (sym c.refuse_columns.ensures ∙ c.in-Some.is) in (
      refusal_line r.0 ∷ [],
      tells-one c.args.reply.now c.say_refusal.new.reply (refusal_line r.0) c.requires.empty c.requires.no_error (c.say_refusal.ensures.text r.0 r.2) c.say_refusal.ensures.errors,
      (λ s. counted-plain s s (refusal_line r.0) (Later_same s.counts) (refusal-quiet r.0)),
      (λ s texts. create-refused s c.args.self.now (table_at c.args.table.now) texts r.0 r.1),
      sound-refusal _ r.0,
    )

pub add_table-requires-clause-few : goal.add_table-requires-clause-few
add_table-requires-clause-few c =
    free-few c.args.self.now.catalog (table_at c.args.table.now)
    (is-free c.args.self.now.catalog (table_at c.args.table.now) (none-mapped error_of _ (sym c.refuse_columns.ensures ∙ c.in_default.is)))

pub add_table-requires-clause-free : goal.add_table-requires-clause-free
add_table-requires-clause-free c =
    let free = is-free c.args.self.now.catalog (table_at c.args.table.now) (none-mapped error_of _ (sym c.refuse_columns.ensures ∙ c.in_default.is)) in
    ap (λ n. table_number c.args.self.now.catalog n) c.copy.ensures ∙ free-number c.args.self.now.catalog c.args.table.now.name.now free.unknown

pub add_table-requires-clause-columns : goal.add_table-requires-clause-columns
add_table-requires-clause-columns c =
    let free = is-free c.args.self.now.catalog (table_at c.args.table.now) (none-mapped error_of _ (sym c.refuse_columns.ensures ∙ c.in_default.is)) in
    let few : length c.args.table.now.columns.now ≤ 16 = search rules in
    subst IsNewTable (sym c.made_columns.ensures) (new-table c.args.self.now.catalog (table_at c.args.table.now) free c.requires.some_columns few)

pub returns-clause-step : goal.returns-clause-step
returns-clause-step c =
    let none = none-mapped error_of _ (sym c.refuse_columns.ensures ∙ c.in_default.is) in
    let old = c.args.self.now.catalog in (
      created ∷ [],
      tells-one c.args.reply.now c.say.new.self created c.requires.empty c.requires.no_error c.say.ensures.text c.say.ensures.errors,
      (λ s. counted-plain s s created (Later_same s.counts) (record { main = refl; temp = refl; main_full = refl; temp_full = refl })),
      (λ s texts. create-made s c.args.self.now (table_at c.args.table.now) texts (record c.args.self.now { catalog = c.add_table.new.self }) none c.requires.plain c.requires.idle
          (c.add_table.ensures.change ∙ (λ i. record old { tables = old.tables ++ record { name = c.copy.ensures i; columns = c.made_columns.ensures i; pages = no_pages } ∷ [] }))
          refl refl refl refl),
      sound-line _ created refl,
    )
