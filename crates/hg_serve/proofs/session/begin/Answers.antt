use Rattle.std.proofs.Common.{[], ◌∷◌, refl, sym, ap, ◌∙◌, subst}
use Rattle.std.specs.Prelude.{Ok, Err}
use Rattle.hg_base.specs.declared.File.TheVariants.{Main, Temp}
use Rattle.hg_machine.specs.Plain.Refused.{line_too_long}
use Rattle.hg_machine.specs.Plain.Replies.{line_text, is_error}
use Rattle.hg_model.specs.LineReading.{ReadsLine, ReadAs, read}
use Rattle.hg_model.specs.Reading.{Blank, Statement}
use Rattle.hg_model.specs.Script.{Line}
use Rattle.hg_parse.specs.Kept.{kept}
use Rattle.hg_parse.specs.Statements.{reading_in, tree_in}
use Rattle.hg_serve.specs.Asking.{refusal_of}
use Rattle.hg_serve.proofs.Beginnings.{begins-long, begins-blank, begins-refused, begins-read, all-kept, reads-text, refusal-no_fault}
use Rattle.hg_serve.proofs.LineLemmas.{long-whole}
use Rattle.hg_serve.proofs.Moving.{moves-stay, moves-as}
use Rattle.hg_serve.proofs.Telling.{says-one, says-none}
use Rattle.hg_serve.proofs.session.begin.Goals as goal

pub returns-then-line-gt-LINE_LIMIT-clause-step : goal.returns-then-line-gt-LINE_LIMIT-clause-step
returns-then-line-gt-LINE_LIMIT-clause-step g c = λ whole is. (
  line_too_long ∷ [],
  says-one _ _ line_too_long c.say_alone.ensures.text c.say_alone.ensures.errors refl refl,
  moves-stay _ _ _ (line_too_long ∷ []) (λ s stood. begins-long _ _ s (long-whole _ _ is c.if-line-gt-LINE_LIMIT.true)),
)

pub returns-in-Ok-None-clause-step : goal.returns-in-Ok-None-clause-step
returns-in-Ok-None-clause-step g c = λ whole is.
    let k = kept c.parse_into.new.out in
    let reads = (c.parse_into.ensures.reads Blank).1 (ap (λ r. reading_in r k) (c.in-Ok-None.is ∙ ap Ok c.in-Ok-None.field-0-is)) in
    let all =
    all-kept c.args.line.now whole c.args.ended c.max.result Blank is c.if-line-gt-LINE_LIMIT.false (reads-text _ _ _ Blank c.text.ensures.text reads)
    in (
      [],
      says-none _ _ c.clear.ensures.text c.clear.ensures.errors,
      moves-stay _ _ _ []
          (λ s stood. begins-blank _ _ s c.max.result (g.met.E.Machine.framed c.args.engine.now s stood ∙ sym c.max.ensures) all.0 all.1),
    )

pub returns-in-Err-clause-step : goal.returns-in-Err-clause-step
returns-in-Err-clause-step g c = λ whole is.
    let k = kept c.parse_into.new.out in
    let e = c.in-Err.error in
    let reads = (c.parse_into.ensures.reads (reading_in (Err e) k)).1 (ap (λ r. reading_in r k) c.in-Err.is) in
    let all =
    all-kept c.args.line.now whole c.args.ended c.max.result (reading_in (Err e) k) is c.if-line-gt-LINE_LIMIT.false (reads-text _ _ _ _ c.text.ensures.text reads)
    in (
      refusal_of e ∷ [],
      says-one _ _ (refusal_of e) (c.say_alone-in-Err.ensures.text ∙ ap line_text c.refusal.ensures.line)
          (c.say_alone-in-Err.ensures.errors ∙ ap is_error c.refusal.ensures.line) (refusal-no_fault Main e) (refusal-no_fault Temp e),
      moves-stay _ _ _ (refusal_of e ∷ [])
          (λ s stood. begins-refused _ _ s c.max.result k e (g.met.E.Machine.framed c.args.engine.now s stood ∙ sym c.max.ensures) all.0 all.1),
    )

pub ask-requires-clause-read : goal.ask-requires-clause-read
ask-requires-clause-read g c =
    let k = kept c.parse_into.new.out in
    let st = c.in-Ok-Some.statement in
    let r = Statement (tree_in st k) k.texts in
    let line : Line = record { bytes = c.args.line.now; ended = c.args.ended } in
    let reads = (c.parse_into.ensures.reads r).1 (ap (λ x. reading_in x k) (c.in-Ok-Some.is ∙ ap Ok c.in-Ok-Some.field-0-is)) in (
      line,
      subst (λ n. ReadsLine n line (ReadAs r)) c.max.ensures (read r c.if-line-gt-LINE_LIMIT.false (reads-text _ _ _ r c.text.ensures.text reads)),
    )

pub returns-in-Ok-Some-clause-step : goal.returns-in-Ok-Some-clause-step
returns-in-Ok-Some-clause-step g c = λ whole is.
    let k = kept c.parse_into.new.out in
    let st = c.in-Ok-Some.statement in
    let r = Statement (tree_in st k) k.texts in
    let step = c.ask.ensures.step in
    let reads = (c.parse_into.ensures.reads r).1 (ap (λ x. reading_in x k) (c.in-Ok-Some.is ∙ ap Ok c.in-Ok-Some.field-0-is)) in
    let all =
    all-kept c.args.line.now whole c.args.ended c.max.result r is c.if-line-gt-LINE_LIMIT.false (reads-text _ _ _ r c.text.ensures.text reads)
    in (
      step.0,
      step.1,
      moves-as _ _ _ _ _ step.0
          (λ a b stood begins. begins-read _ _ _ _ a b step.0 c.max.result (g.met.E.Machine.framed c.args.engine.now a stood ∙ sym c.max.ensures) all.0 all.1 begins)
          step.2,
    )
