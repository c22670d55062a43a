use Rattle.std.proofs.Common.{sym, ap, ◌∙◌}
use Rattle.hg_model.specs.Types as types
use Rattle.hg_model.specs.declared.tables.FromColumn.{FromColumn}
use Rattle.hg_model.specs.declared.trees.Column.{Column}
use Rattle.hg_bind.proofs.ScopeColumns.{type_there, type_outside}
use Rattle.hg_bind.proofs.lengths.length_of_place.Goals as goal

pub returns-in-Some : goal.returns-in-Some
returns-in-Some c =
    c.type_length.ensures.value
    ∙ ap (λ (x : FromColumn). types.type_length x.column.ty) c.column.view_is
    ∙ sym (type_there (λ (x : Column). types.type_length x.ty) 0 c.args.scope.now c.args.place c.in-Some.column.now c.in-Some.ensures.lookup.3.0 c.in-Some.ensures.lookup.1)

pub returns-in-None : goal.returns-in-None
returns-in-None c = sym (type_outside (λ (x : Column). types.type_length x.ty) 0 c.args.scope.now c.args.place c.in-None.ensures.lookup.3)
