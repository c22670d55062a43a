use Rattle.std.proofs.Common.{◌∙◌}
use Rattle.hg_pool.specs.Shown.{state_of}
use Rattle.hg_engine.proofs.FirstPage.{takes-first, not-full, made-pinned}
use Rattle.hg_engine.proofs.first.take_first.Goals as goal

pub unpin-requires : goal.unpin-requires
unpin-requires g c =
    made-pinned (state_of g.M.PageDevice g.T.PageDevice c.args.pool.now) (state_of g.M.PageDevice g.T.PageDevice c.fresh.new.self) c.in-Ok.pin.page (c.in-Ok.ensures {u = tt}).ok

pub returns : goal.returns
returns g c =
    let none = c.fresh.ensures.unused c.requires.unused in
    record {
      taken = takes-first (state_of g.M.PageDevice g.T.PageDevice c.args.pool.now) (state_of g.M.PageDevice g.T.PageDevice c.fresh.new.self)
          (state_of g.M.PageDevice g.T.PageDevice c.unpin.new.self) c.in-Ok.pin.page c.requires.out (c.in-Ok.ensures {u = tt}).ok c.unpin.ensures.after;
      calls_none = record { main = c.unpin.ensures.calls_none.main ∙ none.main_same; temp = c.unpin.ensures.calls_none.temp ∙ none.temp_same };
    }

pub unreachable-requires : goal.unreachable-requires
unreachable-requires g c =
    not-full (state_of g.M.PageDevice g.T.PageDevice c.args.pool.now) c.in-Err.field-0
    c.requires.unused c.requires.room ((c.in-Err.ensures {u = tt}).unused c.requires.unused).only_full (c.in-Err.ensures {u = tt}).fault
