use Rattle.hg_serve.proofs.Telling.{passes-none, passes-flushed}
use Rattle.hg_serve.proofs.output.Output.make_room.Goals as goal

pub returns-then-len-bytes-le-BUFFER_BYTES-clause-ok : goal.returns-then-len-bytes-le-BUFFER_BYTES-clause-ok
returns-then-len-bytes-le-BUFFER_BYTES-clause-ok g c = passes-none _ _

pub returns-clause-ok : goal.returns-clause-ok
returns-clause-ok g c =
    let flushed = c.in_ok-flush.ensures {u = tt} in
    passes-flushed _ _ _ _ flushed.ok flushed.empty
