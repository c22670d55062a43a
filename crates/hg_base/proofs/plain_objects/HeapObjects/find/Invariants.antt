use Rattle.std.proofs.Common.{◌≡◌, ◌+◌, ◌*◌, ◌≤◌, take, drop, length, sum_by, option_map}
use Rattle.hg_base.specs.PlainObjects.{found_in}
use Rattle.hg_base.proofs.plain_objects.HeapObjects.find.Given as goal

abbrev pub invariant-loop-page : goal.invariant-loop-page
invariant-loop-page l = record {
  before : l.before ≡ sum_by length (take l.page l.self.layout.items);
  few : l.before ≤ 252 * l.page;
  found : found_in l.self.first l.a.word l.self.layout.items
      ≡ option_map (λ k. l.before + k) (found_in (l.self.first + l.page) l.a.word (drop l.page l.self.layout.items));
}
