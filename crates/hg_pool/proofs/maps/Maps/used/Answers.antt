use Rattle.std.proofs.Common.{sym, ap, ◌∙◌}
use Rattle.hg_base.specs.Space.{taken_below}
use Rattle.hg_space.specs.Shown.{pages_of}
use Rattle.hg_pool.specs.Picture.{taken_at, limit_of}
use Rattle.hg_pool.proofs.Counting.{count-main, count-temp}
use Rattle.hg_pool.proofs.maps.Maps.used.Goals as goal

pub returns-in-Main : goal.returns-in-Main
returns-in-Main c =
    let m = c.args.self.now in
    c.used.ensures.count ∙ count-main (pages_of m.main) (pages_of m.temp) (pages_of m.main).limit
    ∙ ap (λ f. taken_below (taken_at m) f (limit_of m f)) (sym c.in-Main.is)

pub returns-in-Temp : goal.returns-in-Temp
returns-in-Temp c =
    let m = c.args.self.now in
    c.used-in-Temp.ensures.count ∙ count-temp (pages_of m.main) (pages_of m.temp) (pages_of m.temp).limit
    ∙ ap (λ f. taken_below (taken_at m) f (limit_of m f)) (sym c.in-Temp.is)
