use Rattle.std.specs.Vec.{with_item}
use Rattle.hg_pool.specs.declared.frames.Frames.TheInside.{Inside}
use Rattle.std.proofs.Common.{ℕ, ◌∙◌, sym, ap, refl, length, List, [], ◌∷◌, true, arith}
use Rattle.hg_pool.specs.Seen.{FramesSeen}
use Rattle.hg_pool.proofs.InFrames.{there-is, below-word, home-is, home-bytes-is}
use Rattle.hg_pool.proofs.Moves.{Knows, mark-at-here, lent-out}
use Rattle.hg_pool.proofs.frames.Frames.lend.Goals as goal

pub overflow_cast-at : goal.overflow_cast-at
overflow_cast-at c = record { fits = below-word c.self.inside c.args.self.now c.self.view_is c.self.invariant c.args.at c.requires.there }

pub take-one-requires : goal.take-one-requires
take-one-requires c = home-is c.self.inside c.args.self.now c.self.view_is c.self.invariant c.args.at c.requires.there c.requires.free

pub index_mut-mark-requires : goal.index_mut-mark-requires
index_mut-mark-requires c = let l = there-is c.self.inside c.args.self.now c.self.view_is c.args.at c.requires.there in let e = c.self.inside.marks.ok.0 in omega (arith, l, e)

pub returns-clause-chain : goal.returns-clause-chain
returns-clause-chain c =
    let i = c.self.inside in
    let v = c.args.self.now in
    c.take-one.ensures.chain ∙ (λ j. record {
      region = (ap (λ (w : FramesSeen). w.region) c.self.view_is) j;
      frames = (c.args.at, sym (home-bytes-is i v c.self.view_is c.self.invariant c.args.at c.requires.there c.requires.free) j) ∷ [];
    })

pub returns-clause-whole : goal.returns-clause-whole
returns-clause-whole c =
    ap (λ (b : List ℕ). length b) (home-bytes-is c.self.inside c.args.self.now c.self.view_is c.self.invariant c.args.at c.requires.there c.requires.free) ∙ c.take-one.ensures.len

pub invariant_of-self : goal.invariant_of-self
invariant_of-self c =
    let i = c.self.inside in
    let v = c.args.self.now in
    let y = c.index_mut-mark.result.now in
    let k : Knows i v c.args.at y = record {
      view = c.self.view_is;
      is = c.self.invariant;
      there = c.requires.there;
      mark = mark-at-here i.marks.items c.args.at y (there-is i v c.self.view_is c.args.at c.requires.there) c.index_mut-mark.ensures.value;
    } in
    (lent-out i _ v c.args.at y k c.requires.free c.take-one.ensures.out refl refl refl).is

pub returns-clause-after : goal.returns-clause-after
returns-clause-after c =
    let i = c.self.inside in
    let v = c.args.self.now in
    let y = c.index_mut-mark.result.now in
    let e : Inside = record { region = c.take-one.new.self; out = c.self.inside.out; marks = with_item i.marks c.args.at (record y { lent = true }) } in
    let k : Knows i v c.args.at y = record {
      view = c.self.view_is;
      is = c.self.invariant;
      there = c.requires.there;
      mark = mark-at-here i.marks.items c.args.at y (there-is i v c.self.view_is c.args.at c.requires.there) c.index_mut-mark.ensures.value;
    } in
    (lent-out i e v c.args.at y k c.requires.free c.take-one.ensures.out refl refl refl).view
