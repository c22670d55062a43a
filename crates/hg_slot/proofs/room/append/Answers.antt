use Rattle.hg_slot.proofs.Placing.{appended}
use Rattle.hg_slot.proofs.room.append.Goals as goal

pub returns : goal.returns
returns c = appended c.args.page.now c.place.new.page c.args.front.now c.args.rest.now c.number_at-slot.result
    c.requires.usable c.number_at-slot.ensures.value c.requires.gap c.place.ensures
