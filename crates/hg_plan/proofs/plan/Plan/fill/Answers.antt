use Rattle.std.proofs.Common.{◌≤◌, ◌+◌, ℕ, List, ap, length, arith}
use Rattle.std.proofs.lemmas.List.{length-map}
use Rattle.hg_model.specs.Query.{query_of}
use Rattle.hg_plan.specs.declared.plan.TableLoop.{TableLoop}
use Rattle.hg_plan.proofs.Tested.{all_tested}
use Rattle.hg_plan.proofs.plan.Plan.fill.Goals as goal

pub returns : goal.returns
returns c =
    let q = query_of c.args.select.now in
    let found = c.find_conditions-conditions in
    let ls = c.put_loops.new.loops.items in
    let few : 0 + length ls ≤ length q.tables =
    omega (arith, length-map ls (λ (l : TableLoop). l.table), ap (λ (xs : List ℕ). length xs) c.put_loops.ensures.tables_are, c.requires.each) in
    record {
      slots = c.find_slots.ensures;
      tables_are = c.put_loops.ensures.tables_are;
      named = c.put_loops.ensures.named;
      tested = λ scope positions are.
          all_tested scope positions q c.args.places.now.items found.result.marks found.result.latest.items found.ensures.marked found.ensures.latest are 0 ls few c.put_loops.ensures.tests;
    }
