use Rattle.std.proofs.Common.{[], ap, length, arith}
use Rattle.hg_serve.proofs.Telling.{on_err, breaks-more}
use Rattle.hg_serve.proofs.output.Output.put.Goals as goal

pub returns-in_err-make_room-clause-part : goal.returns-in_err-make_room-clause-part
returns-in_err-make_room-clause-part g c =
    on_err c.from_residual.result (breaks-more _ _ c.args.self.now.bytes.items [] c.args.reply.now.text.items (c.in_err-make_room.ensures {u = tt}).part)

pub returns-in_err-make_room-clause-few : goal.returns-in_err-make_room-clause-few
returns-in_err-make_room-clause-few g c = omega (arith, c.make_room.ensures.few, c.as_slice-text.ensures.fits, ap length c.as_slice-text.ensures.value)

pub returns-clause-few : goal.returns-clause-few
returns-clause-few g c = omega (arith, c.make_room.ensures.few, c.as_slice-text.ensures.fits, ap length c.as_slice-text.ensures.value)
