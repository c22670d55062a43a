use Rattle.std.specs.Prelude.{ℕ, ◌+◌, ◌-◌}
use Rattle.std.proofs.Common.{ap, refl}
use borrow.Rule.Slice.PartMut.{put_mid}
use Rattle.hg_btree.proofs.Splitting.{upper_taken}
use Rattle.hg_btree.proofs.split.take_upper.Goals as goal

pub returns : goal.returns
returns c = λ sl sk done todo h f k.
    let end : ℕ = c.number_at-end.result in
    let free : ℕ = 16 + (end - c.args.from) in
    upper_taken c.args.inner c.args.source.now c.start.new.page (put_mid 16 (free - 16) c.start.new.page c.copy_from_slice.new.self) c.set_head.new.page sl sk c.args.level c.args.link
    c.args.from end free c.args.count (free - 16) done todo h f c.number_at-end.ensures.value refl refl c.start.ensures
    (ap (put_mid 16 (free - 16) c.start.new.page) c.copy_from_slice.ensures.after) k c.set_head.ensures
