use Rattle.std.specs.Vec.{with_item}
use Rattle.hg_pool.specs.declared.frames.Frames.TheInside.{Inside}
use Rattle.std.proofs.Common.{◌||◌, if◌then◌else◌}
use Rattle.std.proofs.Common.{ℕ, ◌∙◌, sym, ap, refl, List, true, arith}
use Rattle.hg_raw.specs.Frames.{ChainSeen, numbers, is_in, bytes_of, home_bytes}
use Rattle.hg_pool.proofs.InFrames.{there-is, below-word, home-is}
use Rattle.hg_pool.proofs.Moves.{Knows, Joins, mark-at-here, held}
use Rattle.hg_pool.proofs.frames.Frames.hold.Goals as goal

pub overflow_cast-at : goal.overflow_cast-at
overflow_cast-at c = record { fits = below-word c.self.inside c.args.self.now c.self.view_is c.self.invariant c.args.at c.requires.there }

pub take-one-requires : goal.take-one-requires
take-one-requires c = home-is c.self.inside c.args.self.now c.self.view_is c.self.invariant c.args.at c.requires.there c.requires.free

pub join-requires : goal.join-requires
join-requires c = ap (λ (s : ChainSeen). s.region) c.take-one.ensures.chain ∙ sym c.self.invariant.same

pub index_mut-mark-requires : goal.index_mut-mark-requires
index_mut-mark-requires c = let l = there-is c.self.inside c.args.self.now c.self.view_is c.args.at c.requires.there in let e = c.self.inside.marks.ok.0 in omega (arith, l, e)

pub invariant_of-self : goal.invariant_of-self
invariant_of-self c =
    let i = c.self.inside in
    let v = c.args.self.now in
    let y = c.index_mut-mark.result.now in
    let k : Knows i v c.args.at y = record {
      view = c.self.view_is;
      is = c.self.invariant;
      there = c.requires.there;
      mark = mark-at-here i.marks.items c.args.at y (there-is i v c.self.view_is c.args.at c.requires.there) c.index_mut-mark.ensures.value;
    } in
    let one = c.take-one.ensures.chain in
    let b : List ℕ = home_bytes i.region c.args.at in
    let joins : Joins i.out c.join.new.self c.args.at b = record {
      region = ap (λ (s : ChainSeen). s.region) c.join.ensures.frames;
      has = λ j. c.join.ensures.has j ∙ ap (λ (s : ChainSeen). is_in j (numbers i.out.frames) || is_in j (numbers s.frames)) one;
      bytes = λ j. c.join.ensures.bytes j ∙ ap (λ (s : ChainSeen). if is_in j (numbers i.out.frames) then bytes_of i.out.frames j else bytes_of s.frames j) one;
    } in
    (held i _ v c.args.at y k c.requires.free b refl c.take-one.ensures.len c.take-one.ensures.out joins refl refl).is

pub returns : goal.returns
returns c =
    let i = c.self.inside in
    let v = c.args.self.now in
    let y = c.index_mut-mark.result.now in
    let e : Inside = record { region = c.take-one.new.self; out = c.join.new.self; marks = with_item i.marks c.args.at (record y { pinned = true }) } in
    let k : Knows i v c.args.at y = record {
      view = c.self.view_is;
      is = c.self.invariant;
      there = c.requires.there;
      mark = mark-at-here i.marks.items c.args.at y (there-is i v c.self.view_is c.args.at c.requires.there) c.index_mut-mark.ensures.value;
    } in
    let one = c.take-one.ensures.chain in
    let b : List ℕ = home_bytes i.region c.args.at in
    let joins : Joins i.out c.join.new.self c.args.at b = record {
      region = ap (λ (s : ChainSeen). s.region) c.join.ensures.frames;
      has = λ j. c.join.ensures.has j ∙ ap (λ (s : ChainSeen). is_in j (numbers i.out.frames) || is_in j (numbers s.frames)) one;
      bytes = λ j. c.join.ensures.bytes j ∙ ap (λ (s : ChainSeen). if is_in j (numbers i.out.frames) then bytes_of i.out.frames j else bytes_of s.frames j) one;
    } in
    (held i e v c.args.at y k c.requires.free b refl c.take-one.ensures.len c.take-one.ensures.out joins refl refl).view
