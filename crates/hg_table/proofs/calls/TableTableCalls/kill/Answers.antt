use Rattle.std.proofs.lemmas.Result.{on_ok_weaker}
use Rattle.hg_table.proofs.Lifting.{version_sound}
use Rattle.hg_table.proofs.Killing.{killed_table, kept_chain}
use Rattle.hg_table.proofs.calls.TableTableCalls.kill.Goals as goal

pub kill-requires-clause-sound : goal.kill-requires-clause-sound
kill-requires-clause-sound g c = λ told.
    let h = c.requires.there told in
    let v = version_sound (g.S.Pages.state c.args.space.now) c.args.self.now h.0 c.args.at c.requires.out h.1 in
    (h.0, v.0, v.1)

pub returns-clause-ok : goal.returns-clause-ok
returns-clause-ok g c =
    on_ok_weaker c.kill.result
    (λ h columns pages versions table.
    killed_table (g.S.Pages.state c.args.space.now) (g.S.Pages.state c.kill.new.space) c.args.self.now columns pages versions c.args.at c.args.died.0
    c.requires.stamp c.requires.there h table)
    c.kill.ensures.ok

pub returns-clause-chain : goal.returns-clause-chain
returns-clause-chain g c = λ pages chain.
    kept_chain (g.S.Pages.state c.args.space.now) (g.S.Pages.state c.kill.new.space) c.args.self.now pages c.args.at.page _ c.kill.result c.kill.ensures.ok c.kill.ensures.err chain
