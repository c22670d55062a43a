use Rattle.std.specs.Prelude.{Some}
use Rattle.std.proofs.Common.{◌≡◌, ◌∙◌, true, List, take, map, sym, subst, ap, refl, arith}
use Rattle.std.proofs.lemmas.List.{drop_all}
use Rattle.hg_base.specs.SteadyLaws.{HasCause_behind}
use Rattle.hg_base.specs.declared.Table.{Table}
use Rattle.hg_model.specs.Changes.{tuples_from}
use Rattle.hg_model.specs.Tables.{fits_columns}
use Rattle.hg_model.specs.declared.values.Value.{Value}
use Rattle.hg_dml.specs.Putting.{Puts, PutsSome}
use Rattle.hg_dml.specs.Steps.{OneMore}
use Rattle.hg_dml.specs.Tuples.{row_from, rows_from}
use Rattle.hg_dml.proofs.FirstCauses.{rows-step}
use Rattle.hg_dml.proofs.Fits.{next-of, all-of, all-done}
use Rattle.hg_dml.proofs.PutLaws.{PutSoFar, put-next, put-told, puts-failed, length-first}
use Rattle.hg_dml.proofs.putting.put_rows.Goals as goal

pub loop-end-preserved : goal.loop-end-preserved
loop-end-preserved g c =
    let a = g.S.Pages.state c.args.space.now in
    let b = g.S.Pages.state c.loop-end.space in
    let d = g.S.Pages.state c.put_one.new.space in
    let old = g.D.TableCalls.ends c.args.table.now in
    let mid = g.D.TableCalls.ends c.loop-end.table in
    let new = g.D.TableCalls.ends c.put_one.new.table in
    let rows = rows_from c.args.texts.now c.args.sources.now c.args.values.now c.args.ends.now in
    let i = c.loop-end.end-index in
    let tuple = c.tuple_between-tuple.result.now in
    let row : List Value = row_from c.args.texts.now c.args.sources.now tuple in
    let behind = rows-step c.args.texts.now c.args.sources.now c.args.values.now c.args.ends.now c.loop-end.from i tuple _ c.loop-end-test.true c.tuple_between-tuple.ensures refl
    rows c.loop-end.invariant.left in
    let next = next-of rows i row _ behind in
    let put = (c.in-Ok.ensures {u = tt}).ok in
    let one : OneMore b d mid new put.0 c.args.stamp.0 put.1 row = subst (OneMore b d mid new put.0 c.args.stamp.0 put.1) c.fill.ensures put.2 in
    record {
      left = sym next.0;
      put = subst (PutSoFar a d old new c.args.stamp.0 rows) (sym next.1)
          (put-next a b d old mid new c.args.stamp.0 put.1 rows (take i rows) row put.0 c.requires.whole
          (λ columns fit. all-of (λ (r : List Value). fits_columns columns r ≡ true) rows i row _ behind fit) c.loop-end.invariant.put one (c.in-Ok.ensures {u = tt}).cause);
    }

pub returns-in-Err-clause-err : goal.returns-in-Err-clause-err
returns-in-Err-clause-err g c = λ pages columns chain fit.
    let a = g.S.Pages.state c.args.space.now in
    let b = g.S.Pages.state c.loop-end.space in
    let d = g.S.Pages.state c.put_one.new.space in
    let old = g.D.TableCalls.ends c.args.table.now in
    let mid = g.D.TableCalls.ends c.loop-end.table in
    let rows = rows_from c.args.texts.now c.args.sources.now c.args.values.now c.args.ends.now in
    let i = c.loop-end.end-index in
    let tuple = c.tuple_between-tuple.result.now in
    let row : List Value = row_from c.args.texts.now c.args.sources.now tuple in
    let behind = rows-step c.args.texts.now c.args.sources.now c.args.values.now c.args.ends.now c.loop-end.from i tuple _ c.loop-end-test.true c.tuple_between-tuple.ensures refl
    rows c.loop-end.invariant.left in
    let next = next-of rows i row _ behind in
    let failed = c.in-Err.ensures {u = tt} in
    subst (λ (t : Table). PutsSome a d old t pages c.args.stamp.0 columns rows c.in-Err.fault) (sym failed.err)
    (puts-failed a b d old mid pages c.args.stamp.0 columns (take i rows) rows c.in-Err.fault
    (c.loop-end.invariant.put.puts pages columns chain fit) (length-first rows i next.2)
    failed.err_steady failed.err_taken failed.fault failed.page failed.cause)

pub returns-clause-ok : goal.returns-clause-ok
returns-clause-ok g c = λ pages columns chain fit.
    let a = g.S.Pages.state c.args.space.now in
    let b = g.S.Pages.state c.loop-end.space in
    let old = g.D.TableCalls.ends c.args.table.now in
    let new = g.D.TableCalls.ends c.loop-end.table in
    let rows = rows_from c.args.texts.now c.args.sources.now c.args.values.now c.args.ends.now in
    let i = c.loop-end.end-index in
    let none = sym c.loop-end.invariant.left
    ∙ ap (λ es. map (row_from c.args.texts.now c.args.sources.now) (tuples_from c.loop-end.from es c.args.values.now)) (drop_all i c.args.ends.now (omega arith)) in
    subst (λ rs. Puts a b old new pages c.args.stamp.0 columns rs) (all-done rows i none) (c.loop-end.invariant.put.puts pages columns chain fit)

pub returns-in-Err-clause-cause : goal.returns-in-Err-clause-cause
returns-in-Err-clause-cause g c =
    let a = g.S.Pages.state c.args.space.now in
    let b = g.S.Pages.state c.loop-end.space in
    let d = g.S.Pages.state c.put_one.new.space in
    let rows = rows_from c.args.texts.now c.args.sources.now c.args.values.now c.args.ends.now in
    let told = put-told a b (g.D.TableCalls.ends c.args.table.now) (g.D.TableCalls.ends c.loop-end.table) c.args.stamp.0 rows (take c.loop-end.end-index rows) c.requires.whole c.loop-end.invariant.put in
    HasCause_behind a b d (Some c.in-Err.fault) told c.loop-end.invariant.put.cause (c.in-Err.ensures {u = tt}).cause

pub returns-clause-cause : goal.returns-clause-cause
returns-clause-cause g c = c.loop-end.invariant.put.cause
