use Rattle.std.proofs.Common.{◌∙◌}
use Rattle.hg_btree.proofs.look.lead.Goals as goal

pub returns-clause-leads : goal.returns-clause-leads
returns-clause-leads c = record {
  leaf = λ link es h. c.in_ok-level.ensures.level ∙ h.level_is;
  inner = λ l link es h p. (c.in_ok-level.ensures.level ∙ h.level_is, (c.in_ok-onward.onward.at, c.in_ok-onward.ensures.leads l link es h));
}
