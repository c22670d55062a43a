use Rattle.std.proofs.Common.{◌∙◌}
use Rattle.hg_raw.proofs.Regions.{is-home, not-below, within, length-home}
use Rattle.hg_raw.proofs.region.Region.is_home.Goals as goal

pub index-requires : goal.index-requires
index-requires c = within c.self.inside c.self.invariant c.args.f.0 c.if-f-self.true

pub returns-then-f-self : goal.returns-then-f-self
returns-then-f-self c = record {
  home = c.index.ensures ∙ is-home c.self.inside c.self.invariant c.args.self.now c.self.view_is c.args.f.0 c.index.result.now c.if-f-self.true;
  frames = length-home c.self.inside c.args.self.now c.self.view_is;
}

pub returns-else-f-self : goal.returns-else-f-self
returns-else-f-self c = record {
  home = not-below c.self.inside c.args.self.now c.self.view_is c.args.f.0 c.if-f-self.false;
  frames = length-home c.self.inside c.args.self.now c.self.view_is;
}
