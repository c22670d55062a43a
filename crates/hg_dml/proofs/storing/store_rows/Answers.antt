use Rattle.std.proofs.Common.{sym, subst, arith}
use Rattle.hg_base.specs.declared.Table.{Table}
use Rattle.hg_dml.specs.UpdateSteps.{StoresSome}
use Rattle.hg_dml.proofs.StoreLaws.{stored-none, stored-way, stored-chain, stored-table, stored-next, stored-stops, stored-all, no-page}
use Rattle.hg_dml.proofs.storing.store_rows.Goals as goal

pub returns-in_default-clause-ok : goal.returns-in_default-clause-ok
returns-in_default-clause-ok g c = λ temp rows aside can count. no-page (g.S.Pages.state c.args.space.now) c.args.columns.now c.args.data.now c.args.stamp.0 c.args.run.now temp rows c.requires.out c.in_default.is aside

pub loop-turn-init : goal.loop-turn-init
loop-turn-init g c = λ temp rows aside can. stored-none (g.S.Pages.state c.args.space.now) c.args.columns.now c.args.data.now c.args.stamp.0 c.args.run.now c.start-at.result temp rows c.requires.out c.start-at.ensures aside

pub store_one-requires-clause-out : goal.store_one-requires-clause-out
store_one-requires-clause-out g c = (c.loop-turn.invariant c.requires.aside.0 c.requires.aside.1 c.requires.aside.2 c.requires.aside.3).pins

pub store_one-requires-clause-way : goal.store_one-requires-clause-way
store_one-requires-clause-way g c = stored-way (g.S.Pages.state c.args.space.now) (g.S.Pages.state c.loop-turn.space) c.args.columns.now c.args.data.now c.loop-turn.data c.args.stamp.0 c.args.run.now c.loop-turn.at c.loop-turn._turn c.requires.aside.0 c.requires.aside.1 (c.loop-turn.invariant c.requires.aside.0 c.requires.aside.1 c.requires.aside.2 c.requires.aside.3)

pub store_one-requires-clause-chain : goal.store_one-requires-clause-chain
store_one-requires-clause-chain g c = stored-chain (g.S.Pages.state c.args.space.now) (g.S.Pages.state c.loop-turn.space) c.args.columns.now c.args.data.now c.loop-turn.data c.args.stamp.0 c.args.run.now c.loop-turn.at c.loop-turn._turn c.requires.aside.0 c.requires.aside.1 (c.loop-turn.invariant c.requires.aside.0 c.requires.aside.1 c.requires.aside.2 c.requires.aside.3) c.requires.whole

pub store_one-requires-clause-whole : goal.store_one-requires-clause-whole
store_one-requires-clause-whole g c = stored-table (g.S.Pages.state c.args.space.now) (g.S.Pages.state c.loop-turn.space) c.args.columns.now c.args.data.now c.loop-turn.data c.args.stamp.0 c.args.run.now c.loop-turn.at c.loop-turn._turn c.requires.aside.0 c.requires.aside.1 (c.loop-turn.invariant c.requires.aside.0 c.requires.aside.1 c.requires.aside.2 c.requires.aside.3) c.requires.whole

pub returns-in-Err-clause-err : goal.returns-in-Err-clause-err
returns-in-Err-clause-err g c = λ temp rows aside can count.
    let failed = c.in-Err.ensures {u = tt} in
    subst (λ (t : Table). StoresSome (g.S.Pages.state c.args.space.now) (g.S.Pages.state c.store_one.new.space) c.args.columns.now c.args.data.now t c.args.stamp.0 c.args.run.now temp rows c.in-Err.fault) (sym failed.same)
    (stored-stops (g.S.Pages.state c.args.space.now) (g.S.Pages.state c.loop-turn.space) c.args.columns.now c.args.data.now c.loop-turn.data c.args.stamp.0 c.args.run.now c.loop-turn.at c.loop-turn._turn temp rows (c.loop-turn.invariant temp rows aside can) (g.S.Pages.state c.store_one.new.space) c.store_one.new.at c.in-Some.first c.in-Err.fault c.requires.whole can
    (omega (arith, count, c.loop-turn-test.true)) c.in-Some.is failed.err)

pub loop-turn-preserved : goal.loop-turn-preserved
loop-turn-preserved g c = λ temp rows aside can.
    stored-next (g.S.Pages.state c.args.space.now) (g.S.Pages.state c.loop-turn.space) c.args.columns.now c.args.data.now c.loop-turn.data c.args.stamp.0 c.args.run.now c.loop-turn.at c.loop-turn._turn temp rows (c.loop-turn.invariant temp rows aside can) (g.S.Pages.state c.store_one.new.space) c.store_one.new.at c.store_one.new.data can (c.in-Ok.ensures {u = tt}).ok

pub returns-clause-ok : goal.returns-clause-ok
returns-clause-ok g c = λ temp rows aside can count.
    stored-all (g.S.Pages.state c.args.space.now) (g.S.Pages.state c.loop-turn.space) c.args.columns.now c.args.data.now c.loop-turn.data c.args.stamp.0 c.args.run.now c.loop-turn.at c.loop-turn._turn temp rows (c.loop-turn.invariant temp rows aside can) c.args.count count c.loop-turn.auto._turn-end c.loop-turn-test.false
