use Rattle.std.proofs.Common.{◌<◌, [], ◌++◌, refl, sym, ◌∙◌, arith, length-append}
use Rattle.hg_model.specs.Script.{lines_of}
use Rattle.hg_serve.specs.Ending.{outside}
use Rattle.hg_serve.proofs.Telling.{fell-none, fell-then}
use Rattle.hg_serve.proofs.ServeLemmas.{serves-start, serves-flushed, serves-by, halts-by, closes-by}
use Rattle.hg_serve.proofs.Closing.{breaks-serves}
use Rattle.hg_serve.proofs.Endings.{took-none, took-more, took-same, took-end, breaks-off, closes, closes-so_many, closes-stops, source-breaks, limit-comes}
use Rattle.hg_serve.proofs.serving.read_and_answer.Goals as goal

pub loop-taken-init : goal.loop-taken-init
loop-taken-init g c = record {
  served = (
    [],
    took-none _ (omega (arith, g.met.S.Source.given_ends c.args.source.now)),
    refl,
    serves-start _ _ c.args.engine.now _ _ c.new-session.ensures.empty c.new-session.ensures.errors c.new-session.ensures.line,
  );
  idle = c.requires.idle;
  within = omega arith;
  tells_same = refl;
  later = fell-none _;
  source_same = refl;
  sink_same = refl;
}

-- the sink failed before a read

pub returns-in-Err-clause-ends : goal.returns-in-Err-clause-ends
returns-in-Err-clause-ends g c = λ first stood.
    let served = c.loop-taken.invariant.served in
    breaks-off _ _ _ _ first _ _ _ _ _ _ _ _ _ _ served.0 stood (took-same _ _ _ served.0 served.1 refl refl) (omega (arith, served.2, c.loop-taken.invariant.within))
    (breaks-serves _ _ c.args.engine.now _ _ _ _ _ _ c.loop-taken.session served.0 served.3 (c.in-Err.ensures {u = tt}).part (c.in-Err.ensures {u = tt}).few)

pub returns-in-Err-clause-bytes : goal.returns-in-Err-clause-bytes
returns-in-Err-clause-bytes g c =
    let served = c.loop-taken.invariant.served in
    (served.0, omega (arith, served.2, c.loop-taken.invariant.within), took-same _ _ _ served.0 served.1 refl refl)

-- the source failed

pub returns-in-Err-read_some-clause-ends : goal.returns-in-Err-read_some-clause-ends
returns-in-Err-read_some-clause-ends g c = λ first stood.
    let served = c.loop-taken.invariant.served in
    let flushed = c.in_default.ensures {u = tt} in
    let failed = c.in-Err-read_some.ensures {u = tt} in
    source-breaks _ _ _ _ first _ _ _ _ _ _ _ _ _ _ served.0 stood (took-same _ _ _ served.0 served.1 failed.bytes failed.given_stays) c.flush.new.self
    (serves-flushed _ _ c.args.engine.now _ _ _ _ _ _ c.loop-taken.session c.flush.new.self served.0 served.3 flushed.line flushed.ok flushed.empty flushed.errors) flushed.empty
    (omega (arith, served.2, c.loop-taken-test.true))

pub returns-in-Err-read_some-clause-bytes : goal.returns-in-Err-read_some-clause-bytes
returns-in-Err-read_some-clause-bytes g c =
    let served = c.loop-taken.invariant.served in
    let failed = c.in-Err-read_some.ensures {u = tt} in
    (served.0, omega (arith, served.2, c.loop-taken-test.true), took-same _ _ _ served.0 served.1 failed.bytes failed.given_stays)

-- the end of the script

pub returns-then-count-eq0-clause-ends : goal.returns-then-count-eq0-clause-ends
returns-then-count-eq0-clause-ends g c = λ first stood.
    let served = c.loop-taken.invariant.served in
    let flushed = c.in_default.ensures {u = tt} in
    let read = c.in-Ok.ensures {u = tt} in
    let some : 0 < c.min-room.result = omega (arith, c.loop-taken-test.true, c.min-room.ensures) in
    let serves =
    serves-flushed _ _ c.args.engine.now _ _ _ _ _ _ c.loop-taken.session c.flush.new.self served.0 served.3 flushed.line flushed.ok flushed.empty flushed.errors
    in
    closes _ _ _ _ first _ _ _ _ _ _ _ _ _ _ served.0 stood
    (took-end _ (outside (g.S.Source.left c.loop-taken.source) (g.S.Source.given c.loop-taken.source) (g.K.Sink.written c.loop-taken.sink) (g.E.Machine.faults c.loop-taken.engine)) _
    served.0 _ c.in-Ok.count served.1 read.bytes.0 c.if-count-eq0.true read.given (omega (arith, g.met.S.Source.given_ends c.loop-taken.source)))
    c.end.result (omega (arith, served.2, c.loop-taken-test.true)) (read.bytes.1 c.if-count-eq0.true some)
    ((closes-by _ _ _ c.loop-taken.invariant.tells_same _ _ _ _ _ _ (c.end.ensures.closes c.args.engine.now _ served.0 (serves-by _ _ _ (sym c.loop-taken.invariant.tells_same) _ _ _ _ _ _ serves))))

pub returns-then-count-eq0-clause-bytes : goal.returns-then-count-eq0-clause-bytes
returns-then-count-eq0-clause-bytes g c =
    let served = c.loop-taken.invariant.served in
    let flushed = c.in_default.ensures {u = tt} in
    let read = c.in-Ok.ensures {u = tt} in
    let serves =
    serves-flushed _ _ c.args.engine.now _ _ _ _ _ _ c.loop-taken.session c.flush.new.self served.0 served.3 flushed.line flushed.ok flushed.empty flushed.errors
    in (
      served.0,
      closes-so_many _ _ c.args.engine.now _ _ _ (lines_of served.0) _ c.end.result (omega (arith, served.2, c.loop-taken-test.true))
          (closes-by _ _ _ c.loop-taken.invariant.tells_same _ _ _ _ _ _ (c.end.ensures.closes c.args.engine.now _ served.0 (serves-by _ _ _ (sym c.loop-taken.invariant.tells_same) _ _ _ _ _ _ serves))),
      took-end _ (outside (g.S.Source.left c.loop-taken.source) (g.S.Source.given c.loop-taken.source) (g.K.Sink.written c.loop-taken.sink) (g.E.Machine.faults c.loop-taken.engine)) _
          served.0 _ c.in-Ok.count served.1 read.bytes.0 c.if-count-eq0.true read.given (omega (arith, g.met.S.Source.given_ends c.loop-taken.source)),
    )

pub returns-then-count-eq0-clause-source_fault : goal.returns-then-count-eq0-clause-source_fault
returns-then-count-eq0-clause-source_fault g c = λ is.
    let served = c.loop-taken.invariant.served in
    let flushed = c.in_default.ensures {u = tt} in
    let serves =
    serves-flushed _ _ c.args.engine.now _ _ _ _ _ _ c.loop-taken.session c.flush.new.self served.0 served.3 flushed.line flushed.ok flushed.empty flushed.errors
    in
    let closed = c.end.ensures.closes c.args.engine.now _ served.0 (serves-by _ _ _ (sym c.loop-taken.invariant.tells_same) _ _ _ _ _ _ serves) in
    absurd (rw is at closed)

-- the sink failed within a line

pub returns-in-Err-feed-clause-ends : goal.returns-in-Err-feed-clause-ends
returns-in-Err-feed-clause-ends g c = λ first stood.
    let served = c.loop-taken.invariant.served in
    let flushed = c.in_default.ensures {u = tt} in
    let read = c.in-Ok.ensures {u = tt} in
    let bytes = c.split_at.result.0.now in
    let serves =
    serves-flushed _ _ c.args.engine.now _ _ _ _ _ _ c.loop-taken.session c.flush.new.self served.0 served.3 flushed.line flushed.ok flushed.empty flushed.errors
    in
    breaks-off _ _ _ _ first _ _ _ _ _ _ _ _ _ _ (served.0 ++ bytes) stood
    (took-more _ (outside (g.S.Source.left c.loop-taken.source) (g.S.Source.given c.loop-taken.source) (g.K.Sink.written c.loop-taken.sink) (g.E.Machine.faults c.loop-taken.engine)) _
    served.0 bytes c.in-Ok.count served.1 (rw c.split_at.ensures.front read.bytes.0) c.split_at.ensures.front_len read.given)
    (omega (arith, length-append served.0 bytes, served.2, c.split_at.ensures.front_len, c.loop-taken-test.true, c.min-room.ensures, read.bound))
    ((halts-by _ _ _ c.loop-taken.invariant.tells_same _ _ _ _ _ ((c.in-Err-feed.ensures {u = tt}).part c.args.engine.now _ served.0 (serves-by _ _ _ (sym c.loop-taken.invariant.tells_same) _ _ _ _ _ _ serves))))

pub returns-in-Err-feed-clause-bytes : goal.returns-in-Err-feed-clause-bytes
returns-in-Err-feed-clause-bytes g c =
    let served = c.loop-taken.invariant.served in
    let read = c.in-Ok.ensures {u = tt} in
    let bytes = c.split_at.result.0.now in (
      served.0 ++ bytes,
      omega (arith, length-append served.0 bytes, served.2, c.split_at.ensures.front_len, c.loop-taken-test.true, c.min-room.ensures, read.bound),
      took-more _ (outside (g.S.Source.left c.loop-taken.source) (g.S.Source.given c.loop-taken.source) (g.K.Sink.written c.loop-taken.sink) (g.E.Machine.faults c.loop-taken.engine)) _
          served.0 bytes c.in-Ok.count served.1 (rw c.split_at.ensures.front read.bytes.0) c.split_at.ensures.front_len read.given,
    )

pub loop-taken-preserved : goal.loop-taken-preserved
loop-taken-preserved g c =
    let so_far = c.loop-taken.invariant in
    let served = so_far.served in
    let flushed = c.in_default.ensures {u = tt} in
    let read = c.in-Ok.ensures {u = tt} in
    let fed = c.in_default-feed.ensures {u = tt} in
    let bytes = c.split_at.result.0.now in
    let serves =
    serves-flushed _ _ c.args.engine.now _ _ _ _ _ _ c.loop-taken.session c.flush.new.self served.0 served.3 flushed.line flushed.ok flushed.empty flushed.errors
    in
    record {
      served = (
        served.0 ++ bytes,
        took-more _
            (outside (g.S.Source.left c.loop-taken.source) (g.S.Source.given c.loop-taken.source) (g.K.Sink.written c.loop-taken.sink) (g.E.Machine.faults c.loop-taken.engine)) _
            served.0 bytes c.in-Ok.count served.1 (rw c.split_at.ensures.front read.bytes.0) c.split_at.ensures.front_len read.given,
        omega (arith, length-append served.0 bytes, served.2, c.split_at.ensures.front_len),
        serves-by _ _ _ so_far.tells_same _ _ _ _ _ _ (fed.ok c.args.engine.now _ served.0 (serves-by _ _ _ (sym so_far.tells_same) _ _ _ _ _ _ serves)),
      );
      idle = c.feed.ensures.idle;
      within = omega (arith, c.loop-taken-test.true, c.min-room.ensures, read.bound);
      tells_same = c.feed.ensures.tells_stay ∙ so_far.tells_same;
      later = fell-then _ _ _ so_far.later c.feed.ensures.later;
      source_same = read.cause.stays ∙ so_far.source_same;
      sink_same = fed.cause.stays ∙ flushed.cause.stays ∙ so_far.sink_same;
    }

-- the limit

pub returns-in-Ok-flush-clause-ends : goal.returns-in-Ok-flush-clause-ends
returns-in-Ok-flush-clause-ends g c = λ first stood.
    let served = c.loop-taken.invariant.served in
    let flushed = c.in-Ok-flush.ensures {u = tt} in
    limit-comes _ _ _ _ first _ _ _ _ _ _ _ _ _ _ served.0 stood (took-same _ _ _ served.0 served.1 refl refl) c.flush-2.new.self
    (serves-flushed _ _ c.args.engine.now _ _ _ _ _ _ c.loop-taken.session c.flush-2.new.self served.0 served.3 flushed.line flushed.ok flushed.empty flushed.errors) flushed.empty
    (omega (arith, served.2, c.loop-taken-test.false, c.loop-taken.invariant.within))

pub returns-in-Ok-flush-clause-bytes : goal.returns-in-Ok-flush-clause-bytes
returns-in-Ok-flush-clause-bytes g c =
    let served = c.loop-taken.invariant.served in (
      served.0,
      omega (arith, served.2, c.loop-taken-test.false, c.loop-taken.invariant.within),
      took-same _ _ _ served.0 served.1 refl refl,
    )

pub returns-in-Err-flush-clause-ends : goal.returns-in-Err-flush-clause-ends
returns-in-Err-flush-clause-ends g c = λ first stood.
    let served = c.loop-taken.invariant.served in
    breaks-off _ _ _ _ first _ _ _ _ _ _ _ _ _ _ served.0 stood (took-same _ _ _ served.0 served.1 refl refl) (omega (arith, served.2, c.loop-taken.invariant.within))
    (breaks-serves _ _ c.args.engine.now _ _ _ _ _ _ c.loop-taken.session served.0 served.3 (c.in-Err-flush.ensures {u = tt}).part (c.in-Err-flush.ensures {u = tt}).few)

pub returns-in-Err-flush-clause-bytes : goal.returns-in-Err-flush-clause-bytes
returns-in-Err-flush-clause-bytes g c =
    let served = c.loop-taken.invariant.served in
    (served.0, omega (arith, served.2, c.loop-taken.invariant.within), took-same _ _ _ served.0 served.1 refl refl)

-- nothing more was run where the sink failed

pub returns-in-Err-clause-stops : goal.returns-in-Err-clause-stops
returns-in-Err-clause-stops g c = λ is.
    let served = c.loop-taken.invariant.served in
    let failed = c.in-Err.ensures {u = tt} in
    (breaks-serves _ _ c.args.engine.now _ _ _ _ _ _ c.loop-taken.session served.0 served.3 failed.part failed.few).breaks.stops

pub returns-in-Err-flush-clause-stops : goal.returns-in-Err-flush-clause-stops
returns-in-Err-flush-clause-stops g c = λ is.
    let served = c.loop-taken.invariant.served in
    let failed = c.in-Err-flush.ensures {u = tt} in
    (breaks-serves _ _ c.args.engine.now _ _ _ _ _ _ c.loop-taken.session served.0 served.3 failed.part failed.few).breaks.stops

pub returns-then-count-eq0-clause-stops : goal.returns-then-count-eq0-clause-stops
returns-then-count-eq0-clause-stops g c = λ is.
    let served = c.loop-taken.invariant.served in
    let flushed = c.in_default.ensures {u = tt} in
    let serves =
    serves-flushed _ _ c.args.engine.now _ _ _ _ _ _ c.loop-taken.session c.flush.new.self served.0 served.3 flushed.line flushed.ok flushed.empty flushed.errors
    in
    closes-stops _ _ c.args.engine.now _ _ _ (lines_of served.0) c.end.result (closes-by _ _ _ c.loop-taken.invariant.tells_same _ _ _ _ _ _ (c.end.ensures.closes c.args.engine.now _ served.0 (serves-by _ _ _ (sym c.loop-taken.invariant.tells_same) _ _ _ _ _ _ serves))) is

pub returns-in-Err-feed-clause-stops : goal.returns-in-Err-feed-clause-stops
returns-in-Err-feed-clause-stops g c = λ is.
    let served = c.loop-taken.invariant.served in
    let flushed = c.in_default.ensures {u = tt} in
    let serves =
    serves-flushed _ _ c.args.engine.now _ _ _ _ _ _ c.loop-taken.session c.flush.new.self served.0 served.3 flushed.line flushed.ok flushed.empty flushed.errors
    in
    (halts-by _ _ _ c.loop-taken.invariant.tells_same _ _ _ _ _ ((c.in-Err-feed.ensures {u = tt}).part c.args.engine.now _ served.0 (serves-by _ _ _ (sym c.loop-taken.invariant.tells_same) _ _ _ _ _ _ serves))).breaks.stops
