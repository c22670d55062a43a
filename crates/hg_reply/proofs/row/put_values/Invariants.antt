use Rattle.std.proofs.Common.{◌≡◌, ◌++◌, ◌+◌, ◌*◌, ◌≤◌, length, take}
use Rattle.arrayvec.specs.ArrayVec.{array_vec_len}
use Rattle.hg_machine.specs.Plain.Replies.{row_text}
use Rattle.hg_value.specs.Coding.{coded}
use Rattle.hg_reply.proofs.row.put_values.Given as goal

abbrev pub invariant-loop-place : goal.invariant-loop-place
invariant-loop-place l = record {
  text : l.out.items ≡ l.fn.out.items ++ row_text (take l.place l.row);
  short : array_vec_len l.out ≤ array_vec_len l.fn.out + 3 * length (coded (take l.place l.row)) + 41 * l.place;
}
