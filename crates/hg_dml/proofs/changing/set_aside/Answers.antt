use Rattle.std.proofs.Common.{sym, ◌∙◌, subst, ap, inr, length, ◌≤◌, List, ℕ}
use Rattle.hg_run.specs.Calls.{append_mine}
use Rattle.hg_table.specs.Places.{killed}
use Rattle.hg_table.specs.Versions.{IsTable}
use Rattle.hg_dml.proofs.AsideLaws.{coded-some, version-stays, none-temp, puts-aside}
use Rattle.hg_dml.proofs.changing.set_aside.Goals as goal

pub append-requires-clause-some : goal.append-requires-clause-some
append-requires-clause-some g c = subst (λ (l : List ℕ). 1 ≤ length l) (sym c.bytes.ensures.bytes) (coded-some c.args.made.now c.requires.some)

pub kill-requires-clause-there : goal.kill-requires-clause-there
kill-requires-clause-there g c = λ told.
    let steady = (c.in-Ok.ensures {u = tt}).steady in
    let was = c.requires.there (sym steady.told ∙ told) in
    (was.0, version-stays (append_mine c.args.run.now c.append.new.self) (g.S.Pages.state c.args.space.now) (g.S.Pages.state c.append.new.space) c.args.table was.0 c.args.place steady (none-temp c.args.run.now c.append.new.self) was.1)

pub returns-in-Ok-kill-clause-ok : goal.returns-in-Ok-kill-clause-ok
returns-in-Ok-kill-clause-ok g c =
    let put = c.in-Ok.ensures {u = tt} in
    let died = c.in-Ok-kill.ensures {u = tt} in
    record {
      mid = g.S.Pages.state c.append.new.space;
      aside = puts-aside (g.S.Pages.state c.args.space.now) (g.S.Pages.state c.append.new.space) c.args.run.now c.append.new.self c.args.made.now c.bytes.result.now c.bytes.ensures.bytes put.ok c.bytes.ensures.storable put.steady put.cause;
      dies = record { kills = λ k pages versions t. subst (λ x. IsTable (g.S.Pages.state c.kill.new.space) x k pages (killed c.args.place c.args.stamp.0 versions)) died.same (died.ok k pages versions t); chain = died.chain; steady = died.steady; taken = died.takes_none.taken; of_heap = λ q. ap (λ f. f q) died.heaps; cause = died.cause };
    }

pub returns-in-Err-kill-clause-err : goal.returns-in-Err-kill-clause-err
returns-in-Err-kill-clause-err g c =
    let put = c.in-Ok.ensures {u = tt} in
    let died = c.in-Err-kill.ensures in
    inr (record {
      mid = g.S.Pages.state c.append.new.space;
      aside = puts-aside (g.S.Pages.state c.args.space.now) (g.S.Pages.state c.append.new.space) c.args.run.now c.append.new.self c.args.made.now c.bytes.result.now c.bytes.ensures.bytes put.ok c.bytes.ensures.storable put.steady put.cause;
      steady = died.err_steady;
      taken = died.takes_none;
      cause = died.cause;
      fails = died.fault;
      named = died.page;
    })
