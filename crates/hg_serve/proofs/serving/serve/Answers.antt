use Rattle.hg_serve.proofs.Endings.{comes-at-limit, never-usage, never-no_memory}
use Rattle.hg_serve.proofs.serving.serve.Goals as goal

pub returns-clause-clean : goal.returns-clause-clean
returns-clause-clean g c = λ is first stood. rw is at (c.read_and_answer.ensures.ends first stood)

pub returns-clause-errors : goal.returns-clause-errors
returns-clause-errors g c = λ is first stood. rw is at (c.read_and_answer.ensures.ends first stood)

pub returns-clause-source_fault_answers : goal.returns-clause-source_fault_answers
returns-clause-source_fault_answers g c = λ is first stood. rw is at (c.read_and_answer.ensures.ends first stood)

pub returns-clause-sink_fault_answers : goal.returns-clause-sink_fault_answers
returns-clause-sink_fault_answers g c = λ is first stood. rw is at (c.read_and_answer.ensures.ends first stood)

pub returns-clause-too_long : goal.returns-clause-too_long
returns-clause-too_long g c = λ is first stood. rw is at (c.read_and_answer.ensures.ends first stood)

pub returns-clause-too_long_always : goal.returns-clause-too_long_always
returns-clause-too_long_always g c =
    let bytes = c.read_and_answer.ensures.bytes in comes-at-limit _ _ bytes.0 c.read_and_answer.result bytes.1 bytes.2

pub returns-clause-no_usage : goal.returns-clause-no_usage
returns-clause-no_usage g c = let bytes = c.read_and_answer.ensures.bytes in never-usage _ c.read_and_answer.result bytes.1

pub returns-clause-no_memory : goal.returns-clause-no_memory
returns-clause-no_memory g c = let bytes = c.read_and_answer.ensures.bytes in never-no_memory _ c.read_and_answer.result bytes.1
