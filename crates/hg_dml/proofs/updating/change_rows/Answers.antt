use Rattle.std.specs.Prelude.{◌-◌}
use Rattle.hg_table.specs.Marks.{committed}
use Rattle.hg_dml.specs.Making.{goes_by, made_by}
use Rattle.hg_dml.proofs.UpdateLaws.{run-there, all-updated, all-refused, all-failed}
use Rattle.hg_dml.proofs.updating.change_rows.Goals as goal

pub end_run-requires-clause-chain : goal.end_run-requires-clause-chain
end_run-requires-clause-chain g c = run-there (g.S.Pages.state c.args.space.now) (g.S.Pages.state c.change_aside-result.new.space) (g.S.Pages.state c.change_aside-result.new.space) c.args.data.now c.change_aside-result.new.data c.args.change.now.columns.now (committed c.args.stamps.now) (c.args.stamp.0 - 1) c.args.stamp.0 (goes_by c.args.change.now) (made_by c.args.change.now) c.change_aside-result.new.run c.change_aside-result.result c.change_aside-result.ensures.ok c.change_aside-result.ensures.refused c.change_aside-result.ensures.fault

pub returns-clause-ok : goal.returns-clause-ok
returns-clause-ok g c = all-updated (g.S.Pages.state c.args.space.now) (g.S.Pages.state c.change_aside-result.new.space) (g.S.Pages.state c.end_run.new.space) c.args.data.now c.change_aside-result.new.data c.args.change.now.columns.now (committed c.args.stamps.now) (c.args.stamp.0 - 1) c.args.stamp.0 (goes_by c.args.change.now) (made_by c.args.change.now) c.change_aside-result.new.run c.end_run.ensures c.change_aside-result.result c.change_aside-result.ensures.ok

pub returns-clause-refused : goal.returns-clause-refused
returns-clause-refused g c = all-refused (g.S.Pages.state c.args.space.now) (g.S.Pages.state c.change_aside-result.new.space) (g.S.Pages.state c.end_run.new.space) c.args.data.now c.change_aside-result.new.data c.args.change.now.columns.now (committed c.args.stamps.now) (c.args.stamp.0 - 1) c.args.stamp.0 (goes_by c.args.change.now) (made_by c.args.change.now) c.change_aside-result.new.run c.end_run.ensures c.change_aside-result.result c.change_aside-result.ensures.refused

pub returns-clause-fault : goal.returns-clause-fault
returns-clause-fault g c = all-failed (g.S.Pages.state c.args.space.now) (g.S.Pages.state c.change_aside-result.new.space) (g.S.Pages.state c.end_run.new.space) c.args.data.now c.change_aside-result.new.data c.args.change.now.columns.now (committed c.args.stamps.now) (c.args.stamp.0 - 1) c.args.stamp.0 (goes_by c.args.change.now) (made_by c.args.change.now) c.change_aside-result.new.run c.end_run.ensures c.change_aside-result.result c.change_aside-result.ensures.fault
