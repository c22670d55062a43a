use Rattle.std.proofs.Common.{◌≡◌, length, drop, IsTrue}
use Rattle.std.specs.List.{list_all}
use Rattle.hg_model.specs.Evaluation as evaluation
use Rattle.hg_model.specs.Width.{AllBelow, text_fits}
use Rattle.hg_slow.proofs.evaluate.values_of.Given as goal

abbrev pub invariant-loop-k : goal.invariant-loop-k
invariant-loop-k l = record {
  count : length l.done.items ≡ l.k;
  rest : evaluation.values_from l.leaves l.texts (drop l.k l.nodes) l.done.items ≡ evaluation.values_of l.leaves l.texts l.nodes;
  below : AllBelow l.leaves l.texts (drop l.k l.nodes) l.done.items;
  text : IsTrue (list_all (text_fits l.texts) (drop l.k l.nodes));
}
