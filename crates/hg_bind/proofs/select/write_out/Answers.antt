use Rattle.std.proofs.Common.{◌≤◌, ◌++◌, sym, ◌∙◌, ap, subst, length, map, if◌then◌else◌}
use Rattle.hg_model.specs.Query.{Query, query_of}
use Rattle.hg_bind.specs.BoundSelect.{column_node, settled}
use Rattle.hg_bind.proofs.Settling.{settled_count, written_star}
use Rattle.hg_bind.proofs.select.write_out.Goals as goal

pub write_star-requires-clause-room : goal.write_star-requires-clause-room
write_star-requires-clause-room c =
    subst (λ n. n ≤ 96) (sym (ap length c.settle_nodes.ensures ∙ settled_count c.args.select.now.nodes.items c.args.named.now)) c.requires.few

pub returns-then-select : goal.returns-then-select
returns-then-select c =
    written_star (query_of c.args.select.now) c.args.scope.now c.args.named.now c.args.keys.items c.write_star.new.nodes.items c.settle_nodes.new.nodes.items c.write_star.new.outputs.items
    c.if-select.true c.settle_nodes.ensures c.write_star.ensures.nodes c.write_star.ensures.outputs
