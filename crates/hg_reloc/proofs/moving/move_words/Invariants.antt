use Rattle.std.proofs.Common.{◌≡◌, ◌+◌, ◌-◌, ◌*◌, ◌++◌, length, take, drop}
use Rattle.hg_reloc.specs.Blocks.{moved_words}
use Rattle.hg_reloc.proofs.moving.move_words.Given as goal

abbrev pub invariant-loop-k : goal.invariant-loop-k
invariant-loop-k l = record {
  rest : take l.at l.fn.page ++ moved_words l.map l.count (drop l.at l.fn.page) ≡ take (l.at + 8 * l.k) l.page ++ moved_words l.map (l.count - l.k) (drop (l.at + 8 * l.k) l.page);
  long : length l.page ≡ length l.fn.page;
}
