-- What an answer of the parser says that a line is read as.
use Rattle.std.specs.Prelude.{Option, Some, None, Result, Ok, Err}
use Rattle.hg_model.specs.Reading.{Reading, Blank, Syntax, BadNumber, TooMany, Statement}
use Rattle.hg_model.specs.Statements.{command_tree}
use Rattle.hg_model.specs.declared.trees.Parsed.{Parsed}
use Rattle.hg_parse.specs.declared.statement.ParseError.{ParseError}
use Rattle.hg_parse.specs.declared.statement.ParseError.TheVariants as error

abbrev pub reading_given : Result (Option Parsed) ParseError → Reading
reading_given (Ok None) = Blank
reading_given (Ok (Some p)) = Statement (command_tree p.command) p.texts.bytes
reading_given (Err error.Syntax) = Syntax
reading_given (Err error.BadNumber) = BadNumber
reading_given (Err (error.TooMany c)) = TooMany c
