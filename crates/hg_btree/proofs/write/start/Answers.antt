use Rattle.std.specs.Prelude.{ℕ, List, replicate, slice_set}
use Rattle.std.proofs.Common.{◌∙◌, ap, refl, arith}
use Rattle.hg_btree.proofs.Writing.{started}
use Rattle.hg_btree.proofs.write.start.Goals as goal

pub returns : goal.returns
returns c =
    let a : List ℕ = c.clear.new.bytes in
    let b : List ℕ = slice_set a 0 c.kind_byte.result in
    started c.args.inner a b (slice_set b 1 c.args.level) c.put_u32.new.b c.set_head.new.page c.kind_byte.result c.args.level c.args.link c.link_place.result
    (c.clear.ensures ∙ ap (λ n. replicate n 0) c.requires) refl refl c.kind_byte.ensures c.link_place.ensures (omega arith) c.put_u32.ensures c.set_head.ensures
