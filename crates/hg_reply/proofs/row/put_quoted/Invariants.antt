use Rattle.std.proofs.Common.{◌≡◌, ◌++◌, ◌+◌, ◌*◌, ◌≤◌, take}
use Rattle.std.specs.List.{flat_map}
use Rattle.arrayvec.specs.ArrayVec.{array_vec_len}
use Rattle.hg_machine.specs.Plain.Replies.{doubled}
use Rattle.hg_reply.proofs.row.put_quoted.Given as goal

abbrev pub invariant-loop-byte : goal.invariant-loop-byte
invariant-loop-byte l = record {
  text : l.out.items ≡ l.initial.out.items ++ flat_map doubled (take l.byte-index l.text);
  short : array_vec_len l.out ≤ array_vec_len l.initial.out + 2 * l.byte-index;
}
