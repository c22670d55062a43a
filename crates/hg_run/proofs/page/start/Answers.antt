use Rattle.std.specs.Prelude.{replicate}
use Rattle.std.proofs.Common.{◌∙◌, ap}
use Rattle.hg_run.proofs.Pages.{started, started_clean}
use Rattle.hg_run.proofs.page.start.Goals as goal

pub returns-clause-page : goal.returns-clause-page
returns-clause-page c = started c.fill.new.self c.put_u16.new.b (c.fill.ensures.len ∙ c.requires) c.put_u16.ensures

pub returns-clause-clean : goal.returns-clause-clean
returns-clause-clean c = started_clean c.fill.new.self c.put_u16.new.b (c.fill.ensures.after (λ y same. same) ∙ ap (λ n. replicate n 0) c.requires) c.put_u16.ensures
