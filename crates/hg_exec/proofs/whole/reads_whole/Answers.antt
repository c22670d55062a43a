use Rattle.std.specs.Prelude.{◌≡◌, ℕ, List, length}
use Rattle.std.specs.Bool.{OnTrue}
use Rattle.std.proofs.Common.{sym, ◌∙◌, ap, subst}
use Rattle.hg_model.specs.declared.values.Value.{Value}
use Rattle.hg_value.specs.Looks.{chosen}
use Rattle.hg_exec.specs.Standing.{entry}
use Rattle.hg_exec.proofs.Lookups.{entry-columns}
use Rattle.hg_exec.proofs.Taking.{all-named}
use Rattle.hg_exec.proofs.whole.reads_whole.Goals as goal

pub returns-clause-all : goal.returns-clause-all
returns-clause-all c =
    let cs = (entry c.args.catalog.now.tables c.args.of.now.table).columns in
    let is = entry-columns c.args.catalog.now.tables c.args.of.now.table _ c.columns-columns.ensures.value in
    let count : length cs ≡ c.len.result = ap (λ xs. length xs) is ∙ sym c.len.ensures.value in
    all-named c.are_all.result c.args.of.now.columns.items cs c.len.result count
    (subst (λ (ks : List ℕ). OnTrue c.are_all.result ((row : List Value) → length row ≡ c.len.result → chosen row ks ≡ row)) c.as_slice.ensures.value c.are_all.ensures)
