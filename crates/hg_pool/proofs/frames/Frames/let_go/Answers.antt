use Rattle.std.specs.Vec.{with_item}
use Rattle.hg_pool.specs.declared.frames.Frames.TheInside.{Inside}
use Rattle.std.proofs.Common.{◌||◌}
use Rattle.hg_raw.specs.Frames.{is_home, given_back}
use Rattle.hg_pool.proofs.Moves.{or-true}
use Rattle.std.proofs.Common.{◌≡◌, ℕ, ◌∙◌, ap, refl, List, [], ◌∷◌, true, false, arith}
use Rattle.hg_raw.specs.Frames.{ChainSeen, bytes_of, home_bytes}
use Rattle.hg_pool.proofs.InFrames.{there-is, below-word, has-is}
use Rattle.hg_pool.proofs.Moves.{Knows, Splits, mark-at-here, let-home}
use Rattle.hg_pool.proofs.frames.Frames.let_go.Goals as goal

pub overflow_cast-at : goal.overflow_cast-at
overflow_cast-at c = record { fits = below-word c.self.inside c.args.self.now c.self.view_is c.self.invariant c.args.at c.requires.there }

pub split-one-requires : goal.split-one-requires
split-one-requires c = has-is c.self.inside c.args.self.now c.self.view_is c.self.invariant c.args.at c.requires.pinned

pub give_back-requires : goal.give_back-requires
give_back-requires c = ap (λ (s : ChainSeen). s.region) c.split-one.ensures.one ∙ c.self.invariant.same

pub index_mut-mark-requires : goal.index_mut-mark-requires
index_mut-mark-requires c = let l = there-is c.self.inside c.args.self.now c.self.view_is c.args.at c.requires.there in let e = c.self.inside.marks.ok.0 in omega (arith, l, e)

pub invariant_of-self : goal.invariant_of-self
invariant_of-self c =
    let i = c.self.inside in
    let v = c.args.self.now in
    let y = c.index_mut-mark.result.now in
    let k : Knows i v c.args.at y = record {
      view = c.self.view_is;
      is = c.self.invariant;
      there = c.requires.there;
      mark = mark-at-here i.marks.items c.args.at y (there-is i v c.self.view_is c.args.at c.requires.there) c.index_mut-mark.ensures.value;
    } in
    let one = c.split-one.ensures.one in
    let b : List ℕ = bytes_of i.out.frames c.args.at in
    let splits : Splits i.out c.split-one.new.self c.args.at = record {
      region = ap (λ (s : ChainSeen). s.region) c.split-one.ensures.others;
      has = c.split-one.ensures.has_others;
      bytes = c.split-one.ensures.bytes;
    } in
    let er : c.give_back.new.self ≡ given_back i.region ((c.args.at, b) ∷ []) = c.give_back.ensures.home ∙ ap (λ (s : ChainSeen). given_back i.region s.frames) one in
    let home : is_home c.give_back.new.self c.args.at ≡ true = c.give_back.ensures.are_home c.args.at ∙ ap (λ t. is_home i.region c.args.at || t) c.split-one.ensures.has_one.0 ∙ or-true (is_home i.region c.args.at) in
    let bytes : home_bytes c.give_back.new.self c.args.at ≡ b = c.give_back.ensures.bytes c.args.at c.split-one.ensures.has_one.0 ∙ c.split-one.ensures.has_one.1 in
    (let-home i _ v c.args.at y k c.requires.pinned b refl splits er home bytes refl refl).is

pub returns : goal.returns
returns c =
    let i = c.self.inside in
    let v = c.args.self.now in
    let y = c.index_mut-mark.result.now in
    let e : Inside = record { region = c.give_back.new.self; out = c.split-one.new.self; marks = with_item i.marks c.args.at (record y { pinned = false }) } in
    let k : Knows i v c.args.at y = record {
      view = c.self.view_is;
      is = c.self.invariant;
      there = c.requires.there;
      mark = mark-at-here i.marks.items c.args.at y (there-is i v c.self.view_is c.args.at c.requires.there) c.index_mut-mark.ensures.value;
    } in
    let one = c.split-one.ensures.one in
    let b : List ℕ = bytes_of i.out.frames c.args.at in
    let splits : Splits i.out c.split-one.new.self c.args.at = record {
      region = ap (λ (s : ChainSeen). s.region) c.split-one.ensures.others;
      has = c.split-one.ensures.has_others;
      bytes = c.split-one.ensures.bytes;
    } in
    let er : c.give_back.new.self ≡ given_back i.region ((c.args.at, b) ∷ []) = c.give_back.ensures.home ∙ ap (λ (s : ChainSeen). given_back i.region s.frames) one in
    let home : is_home c.give_back.new.self c.args.at ≡ true = c.give_back.ensures.are_home c.args.at ∙ ap (λ t. is_home i.region c.args.at || t) c.split-one.ensures.has_one.0 ∙ or-true (is_home i.region c.args.at) in
    let bytes : home_bytes c.give_back.new.self c.args.at ≡ b = c.give_back.ensures.bytes c.args.at c.split-one.ensures.has_one.0 ∙ c.split-one.ensures.has_one.1 in
    (let-home i e v c.args.at y k c.requires.pinned b refl splits er home bytes refl refl).view
