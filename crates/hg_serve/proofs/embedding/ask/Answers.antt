use Rattle.std.proofs.Common.{false, sym, ◌∙◌, ap, subst}
use Rattle.std.specs.Prelude.{Ok}
use Rattle.hg_model.specs.LineReading.{ReadsLine, ReadAs, read}
use Rattle.hg_model.specs.Reading.{Statement}
use Rattle.hg_model.specs.Script.{Line}
use Rattle.hg_model.specs.Statements.{command_tree}
use Rattle.hg_parse.specs.Parsing.{reading_given}
use Rattle.hg_serve.proofs.embedding.ask.Goals as goal

pub command-next-requires-clause-read : goal.command-next-requires-clause-read
command-next-requires-clause-read c =
    let p = c.in-Ok-Some.parsed in
    let r = Statement (command_tree p.command) p.texts.bytes in
    let line : Line = record { bytes = c.args.line.now; ended = false } in
    let reads = (c.parse.ensures.reads r).1 (ap reading_given (c.in-Ok-Some.is ∙ ap Ok c.in-Ok-Some.field-0-is)) in
    (line, subst (λ n. ReadsLine n line (ReadAs r)) c.max.ensures (read r c.requires.short reads))
