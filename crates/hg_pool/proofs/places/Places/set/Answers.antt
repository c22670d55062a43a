use Rattle.std.proofs.Common.{sym, ap}
use Rattle.hg_pool.specs.Keeping.{with_place_in}
use Rattle.hg_pool.proofs.places.Places.set.Goals as goal

pub returns-in-Main : goal.returns-in-Main
returns-in-Main c = ap (λ f. with_place_in c.args.self.now f c.args.page.no c.args.frame) (sym c.in-Main.is)

pub returns-in-Temp : goal.returns-in-Temp
returns-in-Temp c = ap (λ f. with_place_in c.args.self.now f c.args.page.no c.args.frame) (sym c.in-Temp.is)
