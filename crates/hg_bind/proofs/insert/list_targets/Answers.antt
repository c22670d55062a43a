use Rattle.std.proofs.Common.{◌≡◌, ◌<◌, ℕ, List, [], ◌∷◌, None, length, arith}
use Rattle.hg_model.specs.ChangeBinding.{columns_cause}
use Rattle.hg_model.specs.Refusal.{first_cause}
use Rattle.hg_model.specs.declared.trees.Column.{Column}
use Rattle.hg_bind.proofs.NameCauses.{cause_none}
use Rattle.hg_bind.proofs.insert.list_targets.Goals as goal

no_names : (cs : List Column) (names : List (List ℕ)) → length names < 1 → first_cause (columns_cause cs [] names) ≡ None
no_names cs [] h = cause_none
no_names cs (n ∷ ns) h = absurd (omega arith)

pub returns-in-empty-clause-ok : goal.returns-in-empty-clause-ok
returns-in-empty-clause-ok c = no_names c.args.columns.now c.args.names.now c.in-empty.len_below
