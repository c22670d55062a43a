use Rattle.std.proofs.Common.{sym, ◌∙◌, ap, arith, map}
use Rattle.std.specs.Prelude.{option_map}
use Rattle.std.proofs.lemmas.List.{drop_all}
use Rattle.hg_model.specs.ChangeBinding.{node_name_cause}
use Rattle.hg_model.specs.Refusal.{first_cause}
use Rattle.hg_model.specs.Scope.{columns_from}
use Rattle.hg_bind.specs.Bound.{error_of}
use Rattle.hg_bind.proofs.NameCauses.{cause_at, no_cause_at, cause_none}
use Rattle.hg_bind.proofs.Naming.{places_more}
use Rattle.hg_bind.proofs.nodes.place_nodes.Goals as goal

pub returns-in-Err-clause-err : goal.returns-in-Err-clause-err
returns-in-Err-clause-err c =
    ap (option_map error_of) (sym c.loop-node.invariant.cause)
    ∙ cause_at (node_name_cause (columns_from 0 c.args.table.now 0 c.args.columns.now)) c.args.nodes.now c.loop-node.node-index c.node-item.result c.loop-node-test.true c.node-item.is
    c.in-Err.error c.in-Err.ensures.err

pub loop-node-preserved : goal.loop-node-preserved
loop-node-preserved c = record {
  places = c.push.ensures.items ∙ places_more (columns_from 0 c.args.table.now 0 c.args.columns.now) c.args.nodes.now c.loop-node.node-index c.node-item.result c.in-Ok.place c.loop-node.places.items
      c.loop-node-test.true c.node-item.is c.loop-node.invariant.places c.in-Ok.ensures.place;
  cause = no_cause_at (node_name_cause (columns_from 0 c.args.table.now 0 c.args.columns.now)) c.args.nodes.now c.loop-node.node-index c.node-item.result c.loop-node-test.true c.node-item.is
      c.in-Ok.ensures.ok ∙ c.loop-node.invariant.cause;
}

pub returns-clause-ok : goal.returns-clause-ok
returns-clause-ok c =
    sym c.loop-node.invariant.cause
    ∙ ap (λ l. first_cause (map (node_name_cause (columns_from 0 c.args.table.now 0 c.args.columns.now)) l)) (drop_all c.loop-node.node-index c.args.nodes.now (omega arith))
    ∙ cause_none
