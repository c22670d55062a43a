use Rattle.std.proofs.Common.{◌++◌, ◌∷◌, [], refl, append_assoc}
use Rattle.hg_serve.proofs.Feeds.{serves-part}
use Rattle.hg_serve.proofs.ServeLemmas.{serves-line, halts-line, serves-as, halts-as}
use Rattle.hg_serve.proofs.session.Session.take_line.Goals as goal

pub returns-in-Err-clause-part : goal.returns-in-Err-clause-part
returns-in-Err-clause-part g c = λ first w taken serves.
    let front = c.args.front.now in
    let kept = serves-part _ _ first _ w _ c.args.self.now c.keep.new.self taken front serves c.requires.no_feed c.keep.ensures.output c.keep.ensures.line in
    halts-as _ _ first _ w _ _ _ (append_assoc taken front (10 ∷ []))
    (halts-line _ _ first _ _ w _ _ c.keep.new.self c.answer_line.new.self (taken ++ front) 10 kept refl
    ((c.in-Err.ensures {u = tt}).part _ kept.part))

pub returns-clause-ok : goal.returns-clause-ok
returns-clause-ok g c = λ first w taken serves.
    let front = c.args.front.now in
    let kept = serves-part _ _ first _ w _ c.args.self.now c.keep.new.self taken front serves c.requires.no_feed c.keep.ensures.output c.keep.ensures.line in
    serves-as _ _ first _ w _ _ _ _ (append_assoc taken front (10 ∷ []))
    (serves-line _ _ first _ _ w _ _ c.keep.new.self _ (taken ++ front) 10 kept refl
    ((c.in_default.ensures {u = tt}).ok _ kept.part) c.clear.ensures)
