use Rattle.std.proofs.Common.{ℕ, List, length, slice_set, ◌∙◌, ap}
use Rattle.std.proofs.Math.ListN.{length-set}
use Rattle.hg_raw.proofs.CallerLemmas.{bytes-with_page, bytes-with_page-other, numbers-with_page}
use Rattle.hg_raw.proofs.tests.put.Goals as goal

pub returns-clause-written : goal.returns-clause-written
returns-clause-written c =
    let w : List ℕ = slice_set c.page_mut-page.result.now c.args.i c.args.byte in
    bytes-with_page c.args.chain.now c.args.f.0 w c.requires.has (length-set c.page_mut-page.result.now c.args.i c.args.byte ∙ ap (λ (b : List ℕ). length b) c.page_mut-page.ensures.bytes)
    ∙ ap (λ (b : List ℕ). slice_set b c.args.i c.args.byte) c.page_mut-page.ensures.bytes

pub returns-clause-others : goal.returns-clause-others
returns-clause-others c = λ k ne. bytes-with_page-other c.args.chain.now k c.args.f.0 (slice_set c.page_mut-page.result.now c.args.i c.args.byte) ne

pub returns-clause-same_frames : goal.returns-clause-same_frames
returns-clause-same_frames c = numbers-with_page c.args.chain.now c.args.f.0 (slice_set c.page_mut-page.result.now c.args.i c.args.byte)
