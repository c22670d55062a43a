use Rattle.std.specs.Prelude.{◌≡◌, Some, option_map}
use Rattle.hg_base.specs.declared.Stamp.{Stamp}
use Rattle.std.proofs.lemmas.Result.{IfOk-weaker}
use Rattle.hg_table.proofs.Lifting.{version_sound, of_version}
use Rattle.hg_table.proofs.calls.TableTableCalls.version.Goals as goal

pub version-requires-clause-sound : goal.version-requires-clause-sound
version-requires-clause-sound g c = λ told. version_sound (g.S.Pages.state c.args.space.now) c.args.self.now c.args.columns c.args.at c.requires.no_pins (c.requires.there told)

pub returns-clause-found : goal.returns-clause-found
returns-clause-found g c =
    IfOk-weaker c.version.result _ _
    (λ stamps known. of_version (g.S.Pages.state c.args.space.now) c.args.self.now c.args.columns c.args.at
    (λ v. v ≡ Some (record { born = stamps.0.0; died = option_map (λ (s : Stamp). s.0) stamps.1; row = c.version.new.out })) c.requires.no_pins c.requires.there known)
    c.version.ensures.found
