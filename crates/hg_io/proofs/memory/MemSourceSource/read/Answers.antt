use Rattle.std.proofs.Common.{◌≡◌, Some, ap, ◌∙◌, drop, take}
use Rattle.hg_io.proofs.Fronts.{reads_front, nothing_left}
use Rattle.hg_io.proofs.memory.MemSourceSource.read.Goals as goal

pub returns-clause-bytes : goal.returns-clause-bytes
returns-clause-bytes c =
    let rest_is : c.split_at.result.1.now ≡ drop c.args.self.now.at c.args.self.now.bytes.items =
    c.split_at.ensures.back ∙ ap (drop c.args.self.now.at) c.as_slice.ensures.value
    in
    let n = c.copy_front-taken.result in (
      ap Some (reads_front _ _ _ _ (c.copy_front-taken.ensures.copied ∙ ap (take n) rest_is)),
      λ none some. nothing_left _ _ _ _ (c.copy_front-taken.ensures.count ∙ (cc (rest_is, c.copy_front-taken.auto.to))) none some,
    )
