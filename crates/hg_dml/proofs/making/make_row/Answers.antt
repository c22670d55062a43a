use Rattle.std.proofs.Common.{◌≡◌, sym, ◌∙◌, ap, arith, drop, ◌+◌, length, List}
use Rattle.std.specs.Prelude.{slice_index_or, nat_lt, ◌<◌, ◌||◌}
use Rattle.hg_model.specs.SelectMeaning.{node_values}
use Rattle.hg_model.specs.declared.values.Value.{Value}
use Rattle.hg_value.specs.Looks.{value_of}
use Rattle.hg_dml.specs.Making.{made_by, breaks_null, breaks_type, noted_row}
use Rattle.hg_dml.specs.declared.making.Change.{Change}
use Rattle.hg_dml.proofs.MakingLaws.{length-picked, value-here, noted-step, noted-end, held-short, room-so-far, row-so-far, bytes-so-far, bytes-done, row-done}
use Rattle.hg_dml.proofs.making.make_row.Goals as goal

abbrev of_row : Change → List Value → List Value
of_row change row = made_by change row

pub new_value-value-requires-clause-fits : goal.new_value-value-requires-clause-fits
new_value-value-requires-clause-fits c =
    c.rows_fit.ensures.small c.args.change.now.filter.nodes.now c.args.change.now.filter.columns.now c.args.row.now c.requires.change.filter.each c.requires.small
    ((c.rows_fit.ensures.none c.args.change.now.filter.nodes.now c.requires.change.filter.no_aggregate).0 (length c.args.row.now) c.args.change.now.filter.columns.now)

pub coded_length-bytes-requires : goal.coded_length-bytes-requires
coded_length-bytes-requires c = omega (arith, held-short (value_of c.new_value-value.result) c.new_value-value.ensures.held)

pub push_short-requires-clause-room : goal.push_short-requires-clause-room
push_short-requires-clause-room c = λ few.
    room-so-far c.codings_tell.ensures.value c.codings_tell.ensures.row (of_row c.args.change.now c.args.row.now) c.loop-place.made (value_of c.new_value-value.result) c.loop-place.place c.loop-place.bytes
    c.coded_length-bytes.result (omega (arith, c.requires.change.few, c.loop-place-test.true)) c.loop-place.invariant.bytes c.coded_length-bytes.ensures c.loop-place.invariant.row few

pub loop-place-preserved : goal.loop-place-preserved
loop-place-preserved c =
    let change = c.args.change.now in
    let row = c.args.row.now in
    let made = of_row change row in
    let k = c.loop-place.place in
    let values = node_values change.filter.texts.now change.filter.columns.now change.filter.nodes.now row in
    let long : length change.nodes.now ≡ length row = c.requires.change.as_long ∙ sym c.requires.as_long in
    let h = c.loop-place-test.true in
    let v : Value = value_of c.new_value-value.result in
    let here : v ≡ slice_index_or made k v =
    value-here change.filter.texts.now change.filter.columns.now change.filter.nodes.now change.nodes.now row k _ v c.requires.change.filter.no_aggregate
    (omega (arith, h, c.requires.as_long)) long c.new_value-value.ensures.value in
    let in_made : k < length made = omega (arith, length-picked values change.nodes.now row long, h, c.requires.as_long) in
    record {
      null = ap (λ o. noted_row breaks_null o (k + 1) (drop (k + 1) change.columns.now) (drop (k + 1) made)) (c.note.ensures.null)
          ∙ noted-step breaks_null c.loop-place.causes.null k change.columns.now made c.index-change-place.result v h in_made here ∙ c.loop-place.invariant.null;
      misfit = ap (λ o. noted_row breaks_type o (k + 1) (drop (k + 1) change.columns.now) (drop (k + 1) made)) (c.note.ensures.misfit)
          ∙ noted-step breaks_type c.loop-place.causes.misfit k change.columns.now made c.index-change-place.result v h in_made here ∙ c.loop-place.invariant.misfit;
      long = c.note.ensures.long ∙ c.loop-place.invariant.long;
      bytes = bytes-so-far made v k c.loop-place.bytes c.coded_length-bytes.result in_made here c.loop-place.invariant.bytes c.coded_length-bytes.ensures;
      small = omega (arith, held-short v c.new_value-value.ensures.held, c.coded_length-bytes.ensures, c.loop-place.invariant.small);
      row = row-so-far made c.loop-place.made c.push_short.new.made v k c.loop-place.bytes c.coded_length-bytes.result in_made here c.loop-place.invariant.row c.push_short.ensures;
    }

pub returns-clause-causes : goal.returns-clause-causes
returns-clause-causes c =
    let change = c.args.change.now in
    let made = of_row change c.args.row.now in
    let k = c.loop-place.place in
    let long = length-picked (node_values change.filter.texts.now change.filter.columns.now change.filter.nodes.now c.args.row.now) change.nodes.now c.args.row.now (c.requires.change.as_long ∙ sym c.requires.as_long) in
    record {
      null = c.note_length.ensures.null ∙ sym (noted-end breaks_null c.loop-place.causes.null k change.columns.now (drop k made) (omega (arith, c.loop-place-test.false))) ∙ c.loop-place.invariant.null;
      misfit = c.note_length.ensures.misfit ∙ sym (noted-end breaks_type c.loop-place.causes.misfit k change.columns.now (drop k made) (omega (arith, c.loop-place-test.false))) ∙ c.loop-place.invariant.misfit;
      long = c.note_length.ensures.long ∙ ap (λ l. l || nat_lt 1000 c.loop-place.bytes) c.loop-place.invariant.long
          ∙ ap (λ n. c.args.causes.now.long || nat_lt 1000 n) (bytes-done made k c.loop-place.bytes (omega (arith, long, c.requires.as_long, c.loop-place-test.false)) c.loop-place.invariant.bytes);
    }

pub returns-clause-made : goal.returns-clause-made
returns-clause-made c = λ short.
    let change = c.args.change.now in
    let made = of_row change c.args.row.now in
    let long = length-picked (node_values change.filter.texts.now change.filter.columns.now change.filter.nodes.now c.args.row.now) change.nodes.now c.args.row.now (c.requires.change.as_long ∙ sym c.requires.as_long) in
    row-done made c.loop-place.made c.loop-place.place c.loop-place.bytes c.loop-place.causes.long (omega (arith, long, c.requires.as_long, c.loop-place-test.false)) c.loop-place.invariant.row
    (sym c.note_length.ensures.long ∙ short)
