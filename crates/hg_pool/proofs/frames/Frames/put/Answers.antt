use Rattle.std.specs.Vec.{with_item}
use Rattle.hg_pool.specs.declared.frames.Frames.TheInside.{Inside}
use Rattle.std.proofs.Common.{◌||◌}
use Rattle.hg_raw.specs.Frames.{is_home, given_back}
use Rattle.hg_pool.proofs.Moves.{or-true, one-is}
use Rattle.std.proofs.Common.{◌≡◌, ℕ, ◌∙◌, sym, ap, refl, List, [], ◌∷◌, true, false, arith}
use Rattle.hg_raw.specs.Frames.{numbers, is_in, bytes_of, home_bytes}
use Rattle.hg_pool.specs.Seen.{FramesSeen}
use Rattle.hg_pool.proofs.InFrames.{there-is}
use Rattle.hg_pool.proofs.Moves.{Knows, mark-at-here, come-back}
use Rattle.hg_pool.proofs.frames.Frames.put.Goals as goal

pub give_back-requires : goal.give_back-requires
give_back-requires c = c.requires.region ∙ sym (ap (λ (w : FramesSeen). w.region) c.self.view_is)

pub index_mut-mark-requires : goal.index_mut-mark-requires
index_mut-mark-requires c = let l = there-is c.self.inside c.args.self.now c.self.view_is c.args.at c.requires.there in let e = c.self.inside.marks.ok.0 in omega (arith, l, e)

pub invariant_of-self : goal.invariant_of-self
invariant_of-self c =
    let i = c.self.inside in
    let v = c.args.self.now in
    let y = c.index_mut-mark.result.now in
    let k : Knows i v c.args.at y = record {
      view = c.self.view_is;
      is = c.self.invariant;
      there = c.requires.there;
      mark = mark-at-here i.marks.items c.args.at y (there-is i v c.self.view_is c.args.at c.requires.there) c.index_mut-mark.ensures.value;
    } in
    let b : List ℕ = bytes_of c.args.chain.frames c.args.at in
    let just : c.args.chain.frames ≡ (c.args.at, b) ∷ [] = c.requires.just in
    let has : is_in c.args.at (numbers c.args.chain.frames) ≡ true = ap (λ fs. is_in c.args.at (numbers fs)) just ∙ one-is c.args.at in
    let er : c.give_back.new.self ≡ given_back i.region ((c.args.at, b) ∷ []) = c.give_back.ensures.home ∙ ap (given_back i.region) just in
    let home : is_home c.give_back.new.self c.args.at ≡ true = c.give_back.ensures.are_home c.args.at ∙ ap (λ t. is_home i.region c.args.at || t) has ∙ or-true (is_home i.region c.args.at) in
    let bytes : home_bytes c.give_back.new.self c.args.at ≡ b = c.give_back.ensures.bytes c.args.at has in
    (come-back i _ v c.args.at y k c.requires.lent b (c.give_back.ensures.sized c.args.at has) er refl home bytes refl refl).is

pub returns-clause-after : goal.returns-clause-after
returns-clause-after c =
    let i = c.self.inside in
    let v = c.args.self.now in
    let y = c.index_mut-mark.result.now in
    let e : Inside = record { region = c.give_back.new.self; out = c.self.inside.out; marks = with_item i.marks c.args.at (record y { lent = false }) } in
    let k : Knows i v c.args.at y = record {
      view = c.self.view_is;
      is = c.self.invariant;
      there = c.requires.there;
      mark = mark-at-here i.marks.items c.args.at y (there-is i v c.self.view_is c.args.at c.requires.there) c.index_mut-mark.ensures.value;
    } in
    let b : List ℕ = bytes_of c.args.chain.frames c.args.at in
    let just : c.args.chain.frames ≡ (c.args.at, b) ∷ [] = c.requires.just in
    let has : is_in c.args.at (numbers c.args.chain.frames) ≡ true = ap (λ fs. is_in c.args.at (numbers fs)) just ∙ one-is c.args.at in
    let er : c.give_back.new.self ≡ given_back i.region ((c.args.at, b) ∷ []) = c.give_back.ensures.home ∙ ap (given_back i.region) just in
    let home : is_home c.give_back.new.self c.args.at ≡ true = c.give_back.ensures.are_home c.args.at ∙ ap (λ t. is_home i.region c.args.at || t) has ∙ or-true (is_home i.region c.args.at) in
    let bytes : home_bytes c.give_back.new.self c.args.at ≡ b = c.give_back.ensures.bytes c.args.at has in
    (come-back i e v c.args.at y k c.requires.lent b (c.give_back.ensures.sized c.args.at has) er refl home bytes refl refl).view
