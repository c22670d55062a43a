use Rattle.std.proofs.Common.{ap, arith, ◌∙◌}
use Rattle.hg_base.specs.Space.{Space}
use Rattle.hg_base.specs.declared.File.TheVariants.{Main}
use Rattle.hg_pool.specs.Disks.{disk_of}
use Rattle.hg_pool.specs.Shown.{state_of}
use Rattle.hg_engine.proofs.FirstPage.{opened}
use Rattle.hg_engine.proofs.engine.Engine.new.Goals as goal

pub take_first-requires-clause-unused : goal.take_first-requires-clause-unused
take_first-requires-clause-unused g c q = ap (λ (s : Space). s.taken q) (c.in-Ok-new.ensures {u = tt}).start

pub take_first-requires-clause-room : goal.take_first-requires-clause-room
take_first-requires-clause-room g c =
    let limit = ap (λ (s : Space). s.limit Main) (c.in-Ok-new.ensures {u = tt}).start in let least = c.requires.main_least in omega (arith, limit, least)

pub returns-clause-start : goal.returns-clause-start
returns-clause-start g c =
    let a = state_of g.M.PageDevice g.T.PageDevice c.in-Ok-new.pool in
    let b = state_of g.M.PageDevice g.T.PageDevice c.take_first.new.pool in
    let made = c.in-Ok.ensures {u = tt} in
    opened a b c.in-Ok.tables c.args.config.now (record { main = disk_of g.M.PageDevice c.args.main; temp = disk_of g.T.PageDevice c.args.temp }) c.take_first.ensures.taken (c.in-Ok-new.ensures {u = tt}).start c.requires.some_request
    (let least = c.requires.main_least in omega (arith, least)) (let most = c.requires.temp_most in omega (arith, most)) made.catalog made.stamps made.idle made.max made.mpl

pub returns-clause-tells : goal.returns-clause-tells
returns-clause-tells g c = c.take_first.ensures.taken.told ∙ ap (λ (s : Space). s.told) (c.in-Ok-new.ensures {u = tt}).start

pub invariant_of-result : goal.invariant_of-result
invariant_of-result g c =
    let a = state_of g.M.PageDevice g.T.PageDevice c.in-Ok-new.pool in
    let b = state_of g.M.PageDevice g.T.PageDevice c.take_first.new.pool in
    let made = c.in-Ok.ensures {u = tt} in (
      _,
      opened a b c.in-Ok.tables c.args.config.now (record { main = disk_of g.M.PageDevice c.args.main; temp = disk_of g.T.PageDevice c.args.temp }) c.take_first.ensures.taken (c.in-Ok-new.ensures {u = tt}).start c.requires.some_request
          (let least = c.requires.main_least in omega (arith, least)) (let most = c.requires.temp_most in omega (arith, most)) made.catalog made.stamps made.idle made.max made.mpl,
    )
