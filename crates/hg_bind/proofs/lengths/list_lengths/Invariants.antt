use Rattle.std.proofs.Common.{◌≡◌, [], drop, map, length}
use Rattle.hg_model.specs.Binding as binding
use Rattle.hg_model.specs.Types as types
use Rattle.hg_model.specs.declared.trees.Column.{Column}
use Rattle.hg_bind.specs.Kinds.{shown}
use Rattle.hg_bind.proofs.lengths.list_lengths.Given as goal

abbrev pub invariant-loop-place : goal.invariant-loop-place
invariant-loop-place l = record {
  count : length l.lengths.items ≡ l.place;
  rest : types.lengths_from (map shown l.kinds) (map (binding.type_at (λ (c : Column). types.type_length c.ty) 0 l.scope) l.positions) (drop l.place l.nodes) l.lengths.items
      ≡ types.lengths_from (map shown l.kinds) (map (binding.type_at (λ (c : Column). types.type_length c.ty) 0 l.scope) l.positions) l.nodes [];
}
