-- How a line begins, and how it is refused.
use Rattle.std.specs.Prelude.{Bool, List}
use Rattle.hg_machine.specs.Plain.Refused.{syntax_error, bad_number, too_many_line}
use Rattle.hg_machine.specs.Plain.Replies.{ReplyLine}
use Rattle.hg_machine.specs.Plain.State.{State}
use Rattle.hg_model.specs.Script.{Line}
use Rattle.hg_parse.specs.declared.statement.ParseError.{ParseError}
use Rattle.hg_parse.specs.declared.statement.ParseError.TheVariants as error
use Rattle.hg_reply.specs.Steps.{manner}

-- the line that refuses what is no command
abbrev pub refusal_of : ParseError → ReplyLine
refusal_of error.Syntax = syntax_error
refusal_of error.BadNumber = bad_number
refusal_of (error.TooMany kind) = too_many_line kind

-- the line begins
abbrev pub Beginning : Bool → Line → State → List ReplyLine → State → Type 0
Beginning tells line old lines new = (manner tells).begins old line lines new
