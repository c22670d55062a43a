use Rattle.std.proofs.Common.{◌+◌, ◌∙◌, ap, map, drop, get_or}
use Rattle.hg_model.specs.ChangeBinding.{kind_of_column}
use Rattle.hg_model.specs.Types as model
use Rattle.hg_bind.specs.Bound.{numbers_of}
use Rattle.hg_bind.specs.Kinds.{shown}
use Rattle.hg_bind.proofs.NodeKinds.{kind_more}
use Rattle.hg_bind.proofs.nodes.list_kinds.Goals as goal

pub loop-place-preserved : goal.loop-place-preserved
loop-place-preserved c =
    let made =
    c.kind_of-kind.ensures
    ∙ ap (λ k. model.kind_of k c.index-nodes-place.result (map shown c.as_slice.result.now)) c.kind_of_column-leaf.ensures
    ∙ ap (λ l. model.kind_of (kind_of_column c.args.columns.now (get_or c.args.places.now c.loop-place.place (0, 0)).1) c.index-nodes-place.result (map shown l)) c.as_slice.ensures.value in
    record {
      count = c.push.ensures.len ∙ ap (λ n. n + 1) c.loop-place.invariant.count;
      rest =
          ap (λ l. model.kinds_from (map (kind_of_column c.args.columns.now) (numbers_of c.args.places.now)) (drop (c.loop-place.place + 1) c.args.nodes.now) (map shown l)) c.push.ensures.items
          ∙ kind_more c.args.columns.now c.args.places.now c.args.nodes.now c.loop-place.kinds.items c.loop-place.place (0, 0) c.index-nodes-place.result c.kind_of-kind.result
          c.loop-place-test.true c.requires.each c.loop-place.invariant.count c.index-nodes-place.is made
          ∙ c.loop-place.invariant.rest;
    }
