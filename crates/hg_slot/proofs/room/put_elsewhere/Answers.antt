use Rattle.std.proofs.Common.{ap, ◌+◌, length, rules}
use Rattle.hg_slot.proofs.Placing.{put_there}
use Rattle.hg_slot.proofs.room.put_elsewhere.Goals as goal

pub returns : goal.returns
returns c = put_there c.args.page.now c.make_room.new.page c.place.new.page c.args.front.now c.args.rest.now c.first_empty-slot.result
    _ c.requires.slotted c.requires.no_gap c.first_empty-slot.ensures (c.if-not-fits.ensures.0 (search rules))
    (ap (λ n. n + (length c.args.front.now + length c.args.rest.now)) c.head_with.ensures) c.make_room.ensures c.place.ensures
