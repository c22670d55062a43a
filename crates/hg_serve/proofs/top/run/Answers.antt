use Rattle.std.proofs.Common.{sym, ◌∙◌, ap, min}
use Rattle.hg_serve.specs.declared.statuses.Status.TheVariants as status
use Rattle.hg_engine.specs.Shown.{IsEngineOf}
use Rattle.hg_serve.proofs.Outcomes.{ends-over}
use Rattle.hg_serve.proofs.top.run.Goals as goal

pub returns-clause-clean : goal.returns-clause-clean
returns-clause-clean g c = λ is.
    let opened = c.in-Ok-new.ensures {u = tt} in
    let main_pages = c.min.ensures ∙ ap (λ n. min n 65536) c.limit.ensures in
    let temp_pages = c.min-2.ensures ∙ ap (λ n. min n 1048576) c.limit-2.ensures in
    ends-over (IsEngineOf g.M.PageDevice g.T.PageDevice) c.read_and_answer-status.new.engine _ _ _ _ opened.tells
    (λ i. record { max = 256; pool = 128; mpl = 4; main_pages = main_pages i; temp_pages = temp_pages i }) status.Clean _ _ _ _ _ _ _ _ _ _
    (λ i. record { main = g.M.PageDevice.faults (opened.main i); temp = g.T.PageDevice.faults (opened.temp i); main_pages = g.M.PageDevice.pages (opened.main i); temp_pages = g.T.PageDevice.pages (opened.temp i) })
    (λ i. record { main = g.M.PageDevice.faults (sym c.close-main.ensures.main i); temp = g.T.PageDevice.faults (sym c.close-main.ensures.temp i); main_pages = g.M.PageDevice.pages (sym c.close-main.ensures.main i); temp_pages = g.T.PageDevice.pages (sym c.close-main.ensures.temp i) })
    (rw is at (c.read_and_answer-status.ensures.ends _ opened.start))

pub returns-clause-errors : goal.returns-clause-errors
returns-clause-errors g c = λ is.
    let opened = c.in-Ok-new.ensures {u = tt} in
    let main_pages = c.min.ensures ∙ ap (λ n. min n 65536) c.limit.ensures in
    let temp_pages = c.min-2.ensures ∙ ap (λ n. min n 1048576) c.limit-2.ensures in
    ends-over (IsEngineOf g.M.PageDevice g.T.PageDevice) c.read_and_answer-status.new.engine _ _ _ _ opened.tells
    (λ i. record { max = 256; pool = 128; mpl = 4; main_pages = main_pages i; temp_pages = temp_pages i }) status.Errors _ _ _ _ _ _ _ _ _ _
    (λ i. record { main = g.M.PageDevice.faults (opened.main i); temp = g.T.PageDevice.faults (opened.temp i); main_pages = g.M.PageDevice.pages (opened.main i); temp_pages = g.T.PageDevice.pages (opened.temp i) })
    (λ i. record { main = g.M.PageDevice.faults (sym c.close-main.ensures.main i); temp = g.T.PageDevice.faults (sym c.close-main.ensures.temp i); main_pages = g.M.PageDevice.pages (sym c.close-main.ensures.main i); temp_pages = g.T.PageDevice.pages (sym c.close-main.ensures.temp i) })
    (rw is at (c.read_and_answer-status.ensures.ends _ opened.start))

pub returns-clause-source_fault_answers : goal.returns-clause-source_fault_answers
returns-clause-source_fault_answers g c = λ is.
    let opened = c.in-Ok-new.ensures {u = tt} in
    let main_pages = c.min.ensures ∙ ap (λ n. min n 65536) c.limit.ensures in
    let temp_pages = c.min-2.ensures ∙ ap (λ n. min n 1048576) c.limit-2.ensures in
    ends-over (IsEngineOf g.M.PageDevice g.T.PageDevice) c.read_and_answer-status.new.engine _ _ _ _ opened.tells
    (λ i. record { max = 256; pool = 128; mpl = 4; main_pages = main_pages i; temp_pages = temp_pages i }) status.SourceFault _ _ _ _ _ _ _ _ _ _
    (λ i. record { main = g.M.PageDevice.faults (opened.main i); temp = g.T.PageDevice.faults (opened.temp i); main_pages = g.M.PageDevice.pages (opened.main i); temp_pages = g.T.PageDevice.pages (opened.temp i) })
    (λ i. record { main = g.M.PageDevice.faults (sym c.close-main.ensures.main i); temp = g.T.PageDevice.faults (sym c.close-main.ensures.temp i); main_pages = g.M.PageDevice.pages (sym c.close-main.ensures.main i); temp_pages = g.T.PageDevice.pages (sym c.close-main.ensures.temp i) })
    (rw is at (c.read_and_answer-status.ensures.ends _ opened.start))

pub returns-clause-sink_fault_answers : goal.returns-clause-sink_fault_answers
returns-clause-sink_fault_answers g c = λ is.
    let opened = c.in-Ok-new.ensures {u = tt} in
    let main_pages = c.min.ensures ∙ ap (λ n. min n 65536) c.limit.ensures in
    let temp_pages = c.min-2.ensures ∙ ap (λ n. min n 1048576) c.limit-2.ensures in
    ends-over (IsEngineOf g.M.PageDevice g.T.PageDevice) c.read_and_answer-status.new.engine _ _ _ _ opened.tells
    (λ i. record { max = 256; pool = 128; mpl = 4; main_pages = main_pages i; temp_pages = temp_pages i }) status.SinkFault _ _ _ _ _ _ _ _ _ _
    (λ i. record { main = g.M.PageDevice.faults (opened.main i); temp = g.T.PageDevice.faults (opened.temp i); main_pages = g.M.PageDevice.pages (opened.main i); temp_pages = g.T.PageDevice.pages (opened.temp i) })
    (λ i. record { main = g.M.PageDevice.faults (sym c.close-main.ensures.main i); temp = g.T.PageDevice.faults (sym c.close-main.ensures.temp i); main_pages = g.M.PageDevice.pages (sym c.close-main.ensures.main i); temp_pages = g.T.PageDevice.pages (sym c.close-main.ensures.temp i) })
    (rw is at (c.read_and_answer-status.ensures.ends _ opened.start))

pub returns-clause-too_long : goal.returns-clause-too_long
returns-clause-too_long g c = λ is.
    let opened = c.in-Ok-new.ensures {u = tt} in
    let main_pages = c.min.ensures ∙ ap (λ n. min n 65536) c.limit.ensures in
    let temp_pages = c.min-2.ensures ∙ ap (λ n. min n 1048576) c.limit-2.ensures in
    ends-over (IsEngineOf g.M.PageDevice g.T.PageDevice) c.read_and_answer-status.new.engine _ _ _ _ opened.tells
    (λ i. record { max = 256; pool = 128; mpl = 4; main_pages = main_pages i; temp_pages = temp_pages i }) status.TooLong _ _ _ _ _ _ _ _ _ _
    (λ i. record { main = g.M.PageDevice.faults (opened.main i); temp = g.T.PageDevice.faults (opened.temp i); main_pages = g.M.PageDevice.pages (opened.main i); temp_pages = g.T.PageDevice.pages (opened.temp i) })
    (λ i. record { main = g.M.PageDevice.faults (sym c.close-main.ensures.main i); temp = g.T.PageDevice.faults (sym c.close-main.ensures.temp i); main_pages = g.M.PageDevice.pages (sym c.close-main.ensures.main i); temp_pages = g.T.PageDevice.pages (sym c.close-main.ensures.temp i) })
    (rw is at (c.read_and_answer-status.ensures.ends _ opened.start))
