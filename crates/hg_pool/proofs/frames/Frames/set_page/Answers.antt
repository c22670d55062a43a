use Rattle.std.proofs.Common.{Bool}
use Rattle.hg_pool.specs.Keeping.{set_item}
use Rattle.hg_pool.proofs.Moves.{m-dirty}
use Rattle.std.specs.Vec.{with_item}
use Rattle.hg_pool.specs.declared.frames.Frames.TheInside.{Inside}
use Rattle.std.proofs.Common.{◌∙◌, ap, refl, arith}
use Rattle.hg_pool.specs.Picture.{frame_at}
use Rattle.hg_pool.proofs.InFrames.{there-is}
use Rattle.hg_pool.proofs.Moves.{Knows, mark-at-here, noted}
use Rattle.hg_pool.proofs.frames.Frames.set_page.Goals as goal

pub index_mut-mark-requires : goal.index_mut-mark-requires
index_mut-mark-requires c = let l = there-is c.self.inside c.args.self.now c.self.view_is c.args.at c.requires in let e = c.self.inside.marks.ok.0 in omega (arith, l, e)

pub invariant_of-self : goal.invariant_of-self
invariant_of-self c =
    let i = c.self.inside in
    let v = c.args.self.now in
    let y = c.index_mut-mark.result.now in
    let k : Knows i v c.args.at y = record {
      view = c.self.view_is;
      is = c.self.invariant;
      there = c.requires;
      mark = mark-at-here i.marks.items c.args.at y (there-is i v c.self.view_is c.args.at c.requires) c.index_mut-mark.ensures.value;
    } in
    (noted i _ v c.args.at y k (record y { page = c.args.page }) refl refl refl refl refl refl).is

pub returns : goal.returns
returns c =
    let i = c.self.inside in
    let v = c.args.self.now in
    let y = c.index_mut-mark.result.now in
    let e : Inside = record { region = c.self.inside.region; out = c.self.inside.out; marks = with_item i.marks c.args.at (record y { page = c.args.page }) } in
    let k : Knows i v c.args.at y = record {
      view = c.self.view_is;
      is = c.self.invariant;
      there = c.requires;
      mark = mark-at-here i.marks.items c.args.at y (there-is i v c.self.view_is c.args.at c.requires) c.index_mut-mark.ensures.value;
    } in
    (noted i e v c.args.at y k (record y { page = c.args.page }) refl refl refl refl refl refl).view ∙ ap (λ (d : Bool). set_item v c.args.at (record (frame_at v.items c.args.at) { page = c.args.page; dirty = d })) (m-dirty i e v c.args.at y k)
