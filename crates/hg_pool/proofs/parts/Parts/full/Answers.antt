use Rattle.std.proofs.Common.{refl}
use Rattle.hg_pool.specs.Disks.{Disks, disks_in}
use Rattle.hg_pool.specs.Picture.{counts_of}
use Rattle.hg_pool.specs.declared.store.Store.{Store}
use Rattle.hg_pool.specs.declared.parts.Parts.{Parts}
use Rattle.hg_pool.proofs.Staying.{frames-stay}
use Rattle.hg_pool.proofs.parts.Parts.full.Goals as goal

pub returns-in-Main-clause-same : goal.returns-in-Main-clause-same
returns-in-Main-clause-same g c =
    let s : Store = c.args.self.now.store in
    let d : Disks = disks_in g.M.PageDevice g.T.PageDevice c.args.self.now.devices in
    record { counts = counts_of d (record s { answers = c.count.new.self }); after = refl }

pub returns-in-Temp-clause-same : goal.returns-in-Temp-clause-same
returns-in-Temp-clause-same g c =
    let s : Store = c.args.self.now.store in
    let d : Disks = disks_in g.M.PageDevice g.T.PageDevice c.args.self.now.devices in
    record { counts = counts_of d (record s { answers = c.count-in-Temp.new.self }); after = refl }

pub returns-in-Main-clause-frames : goal.returns-in-Main-clause-frames
returns-in-Main-clause-frames g c =
    let a : Parts g.row.M.Denot g.row.T.Denot = c.args.self.now in
    frames-stay a (record a { store = record a.store { answers = c.count.new.self } }) refl refl

pub returns-in-Temp-clause-frames : goal.returns-in-Temp-clause-frames
returns-in-Temp-clause-frames g c =
    let a : Parts g.row.M.Denot g.row.T.Denot = c.args.self.now in
    frames-stay a (record a { store = record a.store { answers = c.count-in-Temp.new.self } }) refl refl
