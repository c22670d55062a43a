use Rattle.std.proofs.Common.{Some, map, [], ◌∷◌, ◌≡◌, ◌∙◌, refl, ap, subst, sym}
use Rattle.hg_base.specs.SteadyLaws.{Later_same}
use Rattle.hg_bind.specs.Bound.{error_of, tables_of}
use Rattle.hg_bind.specs.BoundSelect.{AreTables, IsBoundSelect}
use Rattle.hg_exec.specs.Planned.{IsReady}
use Rattle.hg_machine.specs.Plain.Refused.{refusal_line}
use Rattle.hg_model.specs.Binding.{select_refusal}
use Rattle.hg_model.specs.Query.{query_of}
use Rattle.hg_plan.specs.declared.plan.TableLoop.{TableLoop}
use Rattle.hg_reply.specs.Asked.{query_at}
use Rattle.hg_engine.proofs.Lookups.{mapped-some}
use Rattle.hg_engine.proofs.Saying.{tells-one, tells-none, counted-plain, counted-none, refusal-quiet, sound-refusal}
use Rattle.hg_engine.specs.Work.{BeginsOwed, BeginsWork}
use Rattle.hg_engine.specs.declared.open.OpenSelect.{OpenSelect}
use Rattle.hg_engine.proofs.SelectLaws.{is-ready, read-apart, read-fits, select-begun, select-refused}
use Rattle.hg_engine.proofs.tables.Tables.select.Goals as goal

pub returns-in-Err-clause-step : goal.returns-in-Err-clause-step
returns-in-Err-clause-step g c =
    let a = g.S.Pages.state c.args.space.now in
    let old = c.args.self.now in
    let q = query_at c.args.select.now in
    let r = mapped-some error_of _ _ (c.in-Err.ensures {u = tt}).err in
    let cause : select_refusal (tables_of old.catalog) q ≡ Some r.0 = ap (select_refusal (tables_of old.catalog)) (sym c.hold.ensures.query) ∙ r.1 in (
      refusal_line r.0 ∷ [],
      tells-one c.args.reply.now c.say_refusal.new.reply (refusal_line r.0) c.requires.empty c.requires.no_error (c.say_refusal.ensures.text r.0 r.2) c.say_refusal.ensures.errors,
      counted-plain a a (refusal_line r.0) (Later_same a.counts) (refusal-quiet r.0),
      select-refused a old q c.args.texts.now c.requires.idle _ refl refl refl refl r.0 c.requires.idle cause,
      sound-refusal _ r.0,
    )

pub returns-clause-step : goal.returns-clause-step
returns-clause-step g c =
    let a = g.S.Pages.state c.args.space.now in
    let old = c.args.self.now in
    let texts = c.args.texts.now in
    let q = query_at c.args.select.now in
    let w = c.place.new.self in
    let t = c.in_default.ensures {u = tt} in
    let bound : IsBoundSelect (tables_of old.catalog) q (query_of w.select) w.tables.items w.places.items =
    subst (λ x. IsBoundSelect (tables_of old.catalog) x (query_of w.select) w.tables.items w.places.items) c.hold.ensures.query t.ok in
    let placed = is-ready old.catalog q (query_of w.select) texts w.tables.items w.places.items w.plan c.requires.plain
    (read-fits c.read_selects_fit.ensures old.max q texts c.requires.read) (read-apart c.read_keys_stand_apart.ensures.alone old.max q texts c.requires.read) bound t.plan in
    let ready = subst (λ (x : OpenSelect). IsReady old.catalog q (query_of x.select) texts x.tables.items x.places.items x.plan) (sym c.begin.ensures.rest) placed in (
      [],
      tells-none c.args.reply.now c.requires.empty c.requires.no_error,
      counted-none a,
      select-begun a old q texts c.requires.idle _ refl refl refl refl refl t.sound c.planned_may_run.ensures c.planned_means_the_same.ensures ready
          (ap (λ (x : OpenSelect). x.texts.bytes) c.begin.ensures.rest ∙ ap (λ x. x.bytes) t.texts ∙ c.hold.ensures.texts)
          (subst (λ n. BeginsOwed a n c.begin.new.self.loops) c.last.ensures.value c.begin.ensures.owed)
          (subst (λ n. BeginsWork a n c.begin.new.self.loops) c.last.ensures.value c.begin.ensures.work),
      tt,
    )

pub returns-clause-plan : goal.returns-clause-plan
returns-clause-plan g c =
    let old = c.args.self.now in
    let q = query_at c.args.select.now in
    let w = c.place.new.self in
    let t = c.in_default.ensures {u = tt} in
    let bound : IsBoundSelect (tables_of old.catalog) q (query_of w.select) w.tables.items w.places.items =
    subst (λ x. IsBoundSelect (tables_of old.catalog) x (query_of w.select) w.tables.items w.places.items) c.hold.ensures.query t.ok in
    λ yes. subst (AreTables (tables_of old.catalog) q.tables)
    (sym t.plan.tables_are ∙ ap (λ (x : OpenSelect). map (λ (l : TableLoop). l.table) x.plan.loops.items) (sym c.begin.ensures.rest)) bound.tables_are
