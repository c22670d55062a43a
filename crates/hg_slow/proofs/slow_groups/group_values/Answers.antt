use Rattle.hg_slow.specs.SlowPlaces.{setting}
use Rattle.hg_model.proofs.Leaves.{group_fits, group_below}
use Rattle.hg_slow.proofs.slow_groups.group_values.Goals as goal

pub group_leaves-requires-clause-fits : goal.group_leaves-requires-clause-fits
group_leaves-requires-clause-fits c =
    group_fits (setting c.args.select.now c.args.texts.now c.args.places.now) c.args.rows.now c.requires.sound c.requires.small c.requires.few

pub values_of-requires-clause-below : goal.values_of-requires-clause-below
values_of-requires-clause-below c =
    let h = group_below (setting c.args.select.now c.args.texts.now c.args.places.now) c.args.rows.now c.requires.sound c.requires.small c.requires.few in
    rw (c.deref.ensures.value, c.in_ok-leaves.ensures, c.as_slice.ensures.value) h
