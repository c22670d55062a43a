use Rattle.hg_parse.proofs.Cutting.{first_tokens, first_left, first_carried}
use Rattle.hg_parse.proofs.input.Input.new.Goals as goal

pub returns-clause-tokens : goal.returns-clause-tokens
returns-clause-tokens c = first_tokens _ c.args.line.now (rw (c.new-scanner.ensures) at c.next_token-piece.ensures)

pub returns-clause-left : goal.returns-clause-left
returns-clause-left c = first_left _ c.args.line.now (rw (c.new-scanner.ensures) at c.next_token-piece.ensures)

pub returns-clause-carried : goal.returns-clause-carried
returns-clause-carried c = first_carried _ c.args.line.now (rw (c.new-scanner.ensures) at c.next_token-piece.ensures) c.has_long_name.ensures c.has_long_text.ensures
