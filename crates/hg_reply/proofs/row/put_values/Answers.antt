use Rattle.std.proofs.Common.{◌++◌, ap, ◌∙◌, sym, append_assoc, arith}
use Rattle.hg_machine.specs.Plain.Replies.{next_text}
use Rattle.hg_value.specs.Looks.{value_of}
use Rattle.hg_reply.proofs.RowText.{row_text_more, length_coded_more, coded_within}
use Rattle.hg_reply.proofs.row.put_values.Goals as goal

pub put_value-requires : goal.put_value-requires
put_value-requires c = record {
  room = omega (arith, c.requires.room, c.len-count.ensures.storable.short, coded_within c.args.row.now 0 _ c.look.ensures.value);
}

pub put_next_value-requires : goal.put_next_value-requires
put_next_value-requires c = record {
  room = omega (
    arith,
    c.requires.room,
    c.len-count.ensures.storable.short,
    c.len-count.ensures.storable.few,
    c.len-count.ensures.count,
    c.loop-place.invariant.short,
    coded_within c.args.row.now c.loop-place.place _ c.look-in-loop-place.ensures.value,
  );
}

pub loop-place-preserved : goal.loop-place-preserved
loop-place-preserved c =
    let vs = c.args.row.now in
    let at = c.look-in-loop-place.ensures.value in
    let old = c.args.out.now.items in
    record {
      text = c.put_next_value.ensures.text ∙ ap (λ bs. bs ++ next_text (value_of c.look-in-loop-place.result)) c.loop-place.invariant.text
          ∙ append_assoc old _ _ ∙ ap (λ bs. old ++ bs) (sym (row_text_more vs c.loop-place.place (value_of c.look-in-loop-place.result) (omega arith) at));
      short = omega (arith, c.put_next_value.ensures.short, c.loop-place.invariant.short, length_coded_more vs c.loop-place.place _ at);
    }
