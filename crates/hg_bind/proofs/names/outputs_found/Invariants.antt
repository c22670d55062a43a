use Rattle.std.proofs.Common.{◌≡◌, drop, map}
use Rattle.std.specs.List.{filter}
use Rattle.hg_model.specs.Binding as binding
use Rattle.hg_model.specs.Query.{query_of}
use Rattle.hg_model.specs.Scope as scopes
use Rattle.hg_model.specs.declared.trees.Output.{Output}
use Rattle.hg_bind.specs.Selecting as selecting
use Rattle.hg_bind.specs.declared.names.Found.TheVariants as found
use Rattle.hg_bind.proofs.names.outputs_found.Given as goal

abbrev pub invariant-loop-output : goal.invariant-loop-output
invariant-loop-output l =
    selecting.found_in l.found (map (λ (o : Output). scopes.column_place l.positions l.nodes o.node) (filter (scopes.finds_output l.scope l.positions l.nodes l.column) (drop l.output-index l.outputs)))
    ≡ selecting.found_in found.Nothing (map (λ (o : Output). scopes.column_place l.positions l.nodes o.node) (filter (scopes.finds_output l.scope l.positions l.nodes l.column) l.outputs))
