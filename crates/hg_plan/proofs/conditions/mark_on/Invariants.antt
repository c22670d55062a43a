use Rattle.std.proofs.Common.{◌≡◌, ℕ, Bool, ◌&&◌, length, drop}
use Rattle.std.specs.Prelude.{IsTrue, nat_lt}
use Rattle.std.specs.List.{list_all}
use Rattle.hg_model.specs.SelectMeaning.{on_conditions}
use Rattle.hg_plan.specs.Testing as testing
use Rattle.hg_plan.proofs.conditions.mark_on.Given as goal

abbrev pub invariant-loop-table : goal.invariant-loop-table
invariant-loop-table l = record {
  room : length l.marks ≡ length l.fn.marks;
  inside : IsTrue (list_all (λ n. nat_lt n (length l.fn.marks)) (on_conditions (drop l.table-index l.tables)));
  same : (p : ℕ → Bool) → list_all p (on_conditions (drop l.table-index l.tables)) && list_all p (testing.marked l.marks)
      ≡ list_all p (on_conditions l.tables) && list_all p (testing.marked l.fn.marks);
}
