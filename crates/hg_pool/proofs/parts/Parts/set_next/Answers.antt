use Rattle.hg_pool.specs.Disks.{Disks, disks_in}
use Rattle.hg_pool.specs.declared.store.Store.{Store}
use Rattle.hg_pool.proofs.Calling.{links-on}
use Rattle.std.proofs.Common.{refl}
use Rattle.hg_pool.specs.declared.parts.Parts.{Parts}
use Rattle.hg_pool.proofs.Staying.{frames-stay}
use Rattle.hg_pool.proofs.parts.Parts.set_next.Goals as goal

pub returns-clause-whole : goal.returns-clause-whole
returns-clause-whole g c =
    let s : Store = c.args.self.now.store in
    let d : Disks = disks_in g.M.PageDevice g.T.PageDevice c.args.self.now.devices in
    (links-on d s c.set_next.new.self c.args.page c.args.next c.requires.whole c.set_next.ensures).whole

pub returns-clause-after : goal.returns-clause-after
returns-clause-after g c =
    let s : Store = c.args.self.now.store in
    let d : Disks = disks_in g.M.PageDevice g.T.PageDevice c.args.self.now.devices in
    (links-on d s c.set_next.new.self c.args.page c.args.next c.requires.whole c.set_next.ensures).after

pub returns-clause-frames : goal.returns-clause-frames
returns-clause-frames g c =
    let a : Parts g.row.M.Denot g.row.T.Denot = c.args.self.now in
    frames-stay a (record a { store = record a.store { maps = c.set_next.new.self } }) refl refl
