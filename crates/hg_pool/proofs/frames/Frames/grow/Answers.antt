use Rattle.std.proofs.Common.{◌≡◌, ◌≤◌, ◌-◌, ℕ, ◌++◌, ◌∙◌, refl, ap, length, replicate, vec_capacity, arith}
use Rattle.std.proofs.lemmas.List.{length-replicate}
use Rattle.std.proofs.Common.{length-append}
use Rattle.hg_pool.specs.Seen.{no_mark}
use Rattle.hg_pool.specs.declared.frames.Mark.{Mark}
use Rattle.hg_pool.specs.declared.frames.Frames.TheInside.{Inside}
use Rattle.hg_pool.proofs.InFrames.{count-is, max-is}
use Rattle.hg_pool.proofs.Moves.{Fits_to, grows, resized, resized-is}
use Rattle.hg_pool.proofs.frames.Frames.grow.Goals as goal

pub widen-requires-clause-wider : goal.widen-requires-clause-wider
widen-requires-clause-wider c = let b = count-is c.self.inside c.args.self.now c.self.view_is in let l = c.requires.wider in omega (arith, b, l)

pub widen-requires-clause-room : goal.widen-requires-clause-room
widen-requires-clause-room c = let m = max-is c.self.inside c.args.self.now c.self.view_is in let l = c.requires.room in let r = c.self.invariant.room in omega (arith, m, l, r)

fits : (i : Inside) (e : Inside) (n : ℕ) → e.region ≡ i.region → e.out ≡ i.out → e.marks.items ≡ i.marks.items ++ replicate (n - length i.marks.items) no_mark → length i.marks.items ≤ n → vec_capacity e.marks ≡ vec_capacity i.marks → Fits_to i e n
fits i e n er eo em wider cap =
    let more = length-append i.marks.items (replicate (n - length i.marks.items) no_mark) in
    let k = length-replicate {A = Mark} (n - length i.marks.items) no_mark in
    grows i e n (n - length i.marks.items) er eo em (ap length em ∙ (omega (arith, more, k, wider))) wider cap

pub invariant_of-self : goal.invariant_of-self
invariant_of-self c =
    let i = c.self.inside in
    let v = c.args.self.now in
    let e : Inside = record { region = i.region; out = i.out; marks = c.widen.new.marks } in
    let n = c.args.count in
    let wider : length i.marks.items ≤ n = (let b = count-is i v c.self.view_is in let l = c.requires.wider in omega (arith, b, l)) in
    resized-is i e v n c.self.view_is c.self.invariant (fits i e n refl refl c.widen.ensures.more wider c.widen.ensures.capacity)
    (let m = max-is i v c.self.view_is in let l = c.requires.room in omega (arith, m, l))

pub returns : goal.returns
returns c =
    let i = c.self.inside in
    let v = c.args.self.now in
    let e : Inside = record { region = i.region; out = i.out; marks = c.widen.new.marks } in
    let n = c.args.count in
    let wider : length i.marks.items ≤ n = (let b = count-is i v c.self.view_is in let l = c.requires.wider in omega (arith, b, l)) in
    resized i e v n c.self.view_is c.self.invariant (fits i e n refl refl c.widen.ensures.more wider c.widen.ensures.capacity)
