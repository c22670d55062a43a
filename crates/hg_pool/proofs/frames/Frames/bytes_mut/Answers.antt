use Rattle.std.specs.Vec.{with_item}
use Rattle.hg_raw.specs.Frames.{with_page}
use Rattle.hg_pool.specs.declared.frames.Frames.TheInside.{Inside}
use Rattle.hg_base.specs.Lending.{refit}
use Rattle.hg_raw.proofs.CallerLemmas.{numbers-with_page, bytes-with, bytes-with_page-other}
use Rattle.hg_pool.specs.Keeping.{set_item}
use Rattle.hg_pool.proofs.Moves.{length-refit}
use Rattle.std.proofs.Common.{ℕ, ◌∙◌, sym, ap, refl, length, List, true, arith}
use Rattle.hg_raw.specs.Frames.{is_in, bytes_of}
use Rattle.hg_pool.specs.Picture.{frame_at}
use Rattle.hg_pool.proofs.InFrames.{there-is, below-word, has-is, out-bytes-is}
use Rattle.hg_pool.proofs.Moves.{Knows, mark-at-here, rewritten}
use Rattle.hg_pool.proofs.frames.Frames.bytes_mut.Goals as goal

pub index_mut-mark-requires : goal.index_mut-mark-requires
index_mut-mark-requires c = let l = there-is c.self.inside c.args.self.now c.self.view_is c.args.at c.requires.there in let e = c.self.inside.marks.ok.0 in omega (arith, l, e)

pub overflow_cast-at : goal.overflow_cast-at
overflow_cast-at c = record { fits = below-word c.self.inside c.args.self.now c.self.view_is c.self.invariant c.args.at c.requires.there }

pub page_mut-requires : goal.page_mut-requires
page_mut-requires c = has-is c.self.inside c.args.self.now c.self.view_is c.self.invariant c.args.at c.requires.pinned

pub invariant_of-self-lent : goal.invariant_of-self-lent
invariant_of-self-lent c w =
    let i = c.self.inside in
    let v = c.args.self.now in
    let y = c.index_mut-mark.result.now in
    let k : Knows i v c.args.at y = record {
      view = c.self.view_is;
      is = c.self.invariant;
      there = c.requires.there;
      mark = mark-at-here i.marks.items c.args.at y (there-is i v c.self.view_is c.args.at c.requires.there) c.index_mut-mark.ensures.value;
    } in
    let has = has-is i v c.self.view_is c.self.invariant c.args.at c.requires.pinned in
    let b : List ℕ = refit (bytes_of i.out.frames c.args.at) w in
    (rewritten i _ v c.args.at y k c.requires.pinned b (length-refit (bytes_of i.out.frames c.args.at) w ∙ sym (ap length c.page_mut.ensures.bytes) ∙ c.page_mut.ensures.len) refl refl
    (λ j. ap (is_in j) (numbers-with_page i.out c.args.at w)) (λ j d. bytes-with_page-other i.out j c.args.at w d) (bytes-with i.out.frames c.args.at b has) refl refl).is

pub returns : goal.returns
returns c =
    let i = c.self.inside in
    let v = c.args.self.now in
    let y = c.index_mut-mark.result.now in
    let k : Knows i v c.args.at y = record {
      view = c.self.view_is;
      is = c.self.invariant;
      there = c.requires.there;
      mark = mark-at-here i.marks.items c.args.at y (there-is i v c.self.view_is c.args.at c.requires.there) c.index_mut-mark.ensures.value;
    } in
    let has = has-is i v c.self.view_is c.self.invariant c.args.at c.requires.pinned in
    let held = out-bytes-is i v c.self.view_is c.self.invariant c.args.at c.requires.there c.requires.pinned in (
      (
        refl,
        λ w.
            let b : List ℕ = refit (bytes_of i.out.frames c.args.at) w in
            let e : Inside = record { region = i.region; out = with_page i.out c.args.at w; marks = with_item i.marks c.args.at (record y { dirty = true }) } in
            (rewritten i e v c.args.at y k c.requires.pinned b (length-refit (bytes_of i.out.frames c.args.at) w ∙ sym (ap length c.page_mut.ensures.bytes) ∙ c.page_mut.ensures.len) refl refl
            (λ j. ap (is_in j) (numbers-with_page i.out c.args.at w)) (λ j d. bytes-with_page-other i.out j c.args.at w d) (bytes-with i.out.frames c.args.at b has) refl refl).view
            ∙ ap (λ (x : List ℕ). set_item v c.args.at (record (frame_at v.items c.args.at) { bytes = refit x w; dirty = true })) (sym held),
      ),
      record {
        lends = tt;
        value = c.page_mut.ensures.bytes ∙ sym held;
        whole = c.page_mut.ensures.len;
      },
    )
