use Rattle.std.proofs.Common.{◌++◌, ◌∷◌, [], refl, sym, ◌∙◌, append_assoc, append-nil}
use Rattle.hg_serve.proofs.Telling.{fell-none, fell-then}
use Rattle.hg_serve.proofs.Feeds.{serves-part, parts-rest, parts-done, parts-last, shorter}
use Rattle.hg_serve.proofs.ServeLemmas.{halts-later, serves-as, halts-as, serves-by, halts-by}
use Rattle.hg_serve.proofs.session.Session.feed.Goals as goal

pub loop-front-init : goal.loop-front-init
loop-front-init g c = record {
  done = [];
  parts = refl;
  idle = c.requires.idle;
  serves = λ first w taken serves. serves-as _ _ first _ w _ _ _ _ (sym (append-nil taken)) serves;
  tells_same = refl;
  later = fell-none _;
  sink_same = refl;
}

pub returns-in-Err-clause-part : goal.returns-in-Err-clause-part
returns-in-Err-clause-part g c = λ first w taken serves.
    let so_far = c.loop-front.invariant in
    let line = c.in-Some.front.now ++ 10 ∷ [] in
    let cut = (c.in-Some.ensures {u = tt}).cut in
    halts-as _ _ first _ w _ _ _
    (parts-rest taken so_far.done c.in-Some.front.now c.in-Some.behind.now c.loop-front.rest.now c.args.bytes.now so_far.parts cut.0)
    (halts-later _ _ first _ w _ ((taken ++ so_far.done) ++ line) c.in-Some.behind.now
    (halts-by _ _ _ so_far.tells_same first _ w _ _
    ((c.in-Err.ensures {u = tt}).part first w (taken ++ so_far.done) (serves-by _ _ _ (sym so_far.tells_same) first _ w _ _ _ (so_far.serves first w taken serves)))))

pub returns-in-Err-clause-later : goal.returns-in-Err-clause-later
returns-in-Err-clause-later g c = fell-then _ _ _ c.loop-front.invariant.later c.take_line.ensures.later

pub loop-front-smaller : goal.loop-front-smaller
loop-front-smaller g c = shorter c.in-Some.front.now c.in-Some.behind.now c.loop-front.rest.now ((c.in-Some.ensures {u = tt}).cut).0

pub loop-front-preserved : goal.loop-front-preserved
loop-front-preserved g c =
    let so_far = c.loop-front.invariant in
    let line = c.in-Some.front.now ++ 10 ∷ [] in
    let cut = (c.in-Some.ensures {u = tt}).cut in
    let fed = c.in_default-take_line.ensures {u = tt} in
    record {
      done = so_far.done ++ line;
      parts = parts-done so_far.done c.in-Some.front.now c.in-Some.behind.now c.loop-front.rest.now c.args.bytes.now so_far.parts cut.0;
      idle = c.take_line.ensures.idle;
      serves = λ first w taken serves.
          serves-as _ _ first _ w _ _ _ _ (append_assoc taken so_far.done line)
          (serves-by _ _ _ so_far.tells_same first _ w _ _ _
          (fed.ok first w (taken ++ so_far.done) (serves-by _ _ _ (sym so_far.tells_same) first _ w _ _ _ (so_far.serves first w taken serves))));
      tells_same = c.take_line.ensures.tells_stay ∙ so_far.tells_same;
      later = fell-then _ _ _ so_far.later c.take_line.ensures.later;
      sink_same = fed.cause.stays ∙ so_far.sink_same;
    }

pub returns-clause-ok : goal.returns-clause-ok
returns-clause-ok g c = λ first w taken serves.
    let so_far = c.loop-front.invariant in
    serves-as _ _ first _ w _ _ _ _ (parts-last taken so_far.done c.loop-front.rest.now c.args.bytes.now so_far.parts)
    (serves-part _ _ first _ w _ c.loop-front.self c.keep.new.self (taken ++ so_far.done) c.loop-front.rest.now (so_far.serves first w taken serves)
    (c.in_default.ensures {u = tt}).none c.keep.ensures.output c.keep.ensures.line)
