use Rattle.hg_pool.specs.Disks.{Disks, disk_of}
use Rattle.hg_pool.specs.declared.parts.Parts.{Parts}
use Rattle.hg_pool.proofs.NewPool.{new-sound, new-shown, new-no_pins, new-none_in}
use Rattle.hg_pool.proofs.pool.Pool.new.Goals as goal

pub invariant_of-result : goal.invariant_of-result
invariant_of-result g c =
    let d : Disks = record { main = disk_of g.M.PageDevice c.args.main; temp = disk_of g.T.PageDevice c.args.temp } in
    new-sound c.args.config.now d c.in-Ok.store c.requires c.in-Ok.ensures

pub returns-in-Ok-clause-start : goal.returns-in-Ok-clause-start
returns-in-Ok-clause-start g c =
    let d : Disks = record { main = disk_of g.M.PageDevice c.args.main; temp = disk_of g.T.PageDevice c.args.temp } in
    new-shown c.args.config.now d c.in-Ok.store c.in-Ok.ensures

pub returns-in-Ok-clause-no_pins : goal.returns-in-Ok-clause-no_pins
returns-in-Ok-clause-no_pins g c =
    let d : Disks = record { main = disk_of g.M.PageDevice c.args.main; temp = disk_of g.T.PageDevice c.args.temp } in
    new-no_pins c.args.config.now d _ (new-shown c.args.config.now d c.in-Ok.store c.in-Ok.ensures)

pub returns-in-Ok-clause-none_in : goal.returns-in-Ok-clause-none_in
returns-in-Ok-clause-none_in g c =
    let s : Parts g.row.M.Denot g.row.T.Denot = record { devices = record { main = c.args.main; temp = c.args.temp }; store = c.in-Ok.store } in
    new-none_in c.args.config.now s c.in-Ok.ensures
