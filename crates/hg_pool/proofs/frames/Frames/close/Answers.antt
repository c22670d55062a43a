use Rattle.std.proofs.Common.{◌<◌, ◌||◌, ◌∙◌, sym, ap, not, arith}
use Rattle.hg_raw.specs.Frames.{RegionSeen, is_in, numbers}
use Rattle.hg_pool.proofs.InFrames.{away-is}
use Rattle.hg_pool.proofs.frames.Frames.close.Goals as goal

pub free-requires : goal.free-requires
free-requires c = λ n l.
    let i = c.self.inside in
    let below : n < i.region.region.frames = (let e = ap (λ (r : RegionSeen). r.region.frames) c.give_back.ensures.home in omega (arith, l, e)) in
    let home = i in
    c.give_back.ensures.are_home n
    ∙ ap (λ b. b || is_in n (numbers i.out.frames)) (c.self.invariant.home n below ∙ ap not (sym (away-is i c.args.self c.self.view_is n) ∙ c.requires n))
