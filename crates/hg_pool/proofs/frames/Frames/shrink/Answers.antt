use Rattle.std.proofs.Common.{◌∙◌, refl, sym, arith}
use Rattle.hg_pool.specs.declared.frames.Frames.TheInside.{Inside}
use Rattle.hg_pool.proofs.InFrames.{count-is}
use Rattle.hg_pool.proofs.Moves.{shrinks, resized, resized-is}
use Rattle.hg_pool.proofs.frames.Frames.shrink.Goals as goal

pub invariant_of-self : goal.invariant_of-self
invariant_of-self c =
    let i = c.self.inside in
    let v = c.args.self.now in
    let e : Inside = record { region = i.region; out = i.out; marks = c.truncate.new.self } in
    let n = c.args.count in
    resized-is i e v n c.self.view_is c.self.invariant
    (shrinks i e v n c.self.view_is refl refl c.truncate.ensures.items (sym e.marks.ok.0 ∙ (let a = c.truncate.ensures.len in let b = count-is i v c.self.view_is in let d = i.marks.ok.0 in let l = c.requires.smaller in omega (arith, a, b, d, l))) c.truncate.ensures.capacity c.requires.free)
    (let b = count-is i v c.self.view_is in let l = c.requires.smaller in let k = c.self.invariant.inside in omega (arith, b, l, k))

pub returns : goal.returns
returns c =
    let i = c.self.inside in
    let v = c.args.self.now in
    let e : Inside = record { region = i.region; out = i.out; marks = c.truncate.new.self } in
    let n = c.args.count in
    resized i e v n c.self.view_is c.self.invariant
    (shrinks i e v n c.self.view_is refl refl c.truncate.ensures.items (sym e.marks.ok.0 ∙ (let a = c.truncate.ensures.len in let b = count-is i v c.self.view_is in let d = i.marks.ok.0 in let l = c.requires.smaller in omega (arith, a, b, d, l))) c.truncate.ensures.capacity c.requires.free)
