use Rattle.std.specs.Prelude.{◌≡◌, IfSome}
use Rattle.hg_table.specs.Marks.{committed}
use Rattle.hg_table.specs.Places.{sees}
use Rattle.std.proofs.lemmas.Result.{IfOk-weaker}
use Rattle.hg_table.proofs.Lifting.{page_sound, of_table}
use Rattle.hg_table.proofs.calls.TableTableCalls.read.Goals as goal

pub read-requires-clause-sound : goal.read-requires-clause-sound
read-requires-clause-sound g c = λ told. page_sound (g.S.Pages.state c.args.space.now) c.args.self.now c.args.columns c.args.at c.requires.no_pins (c.requires.page told)

pub returns-clause-seen : goal.returns-clause-seen
returns-clause-seen g c =
    IfOk-weaker c.read.result _ _
    (λ seen known. of_table (g.S.Pages.state c.args.space.now) c.args.self.now c.args.columns c.args.at
    (λ v. seen ≡ sees (committed c.args.stamps.now) c.args.snapshot.0 v) c.requires.no_pins c.requires.page known)
    c.read.ensures.seen

pub returns-clause-row : goal.returns-clause-row
returns-clause-row g c = λ e. of_table (g.S.Pages.state c.args.space.now) c.args.self.now c.args.columns c.args.at
    (λ v. IfSome v (λ w. c.read.new.out ≡ w.row)) c.requires.no_pins c.requires.page (c.read.ensures.row e)
