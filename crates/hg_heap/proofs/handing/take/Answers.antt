use Rattle.hg_heap.proofs.Turns.{takes-of}
use Rattle.hg_heap.proofs.handing.take.Goals as goal

pub returns-clause-ok : goal.returns-clause-ok
returns-clause-ok g c =
    takes-of g.M.PageDevice g.T.PageDevice c.args.pool.now c.take_page.new.self c.args.no c.take_page.result c.take_page.ensures.ok c.take_page.ensures.chain c.take_page.ensures.in_frame
    c.take_page.ensures.keeps_out c.take_page.ensures.stock c.take_page.ensures.cause c.take_page.ensures.calls_none c.take_page.ensures.keeps_counts c.take_page.ensures.asked
