use Rattle.std.proofs.Common.{rules}
use Rattle.hg_parse.proofs.Cutting.{next_tokens, next_goes_on, first_left}
use Rattle.hg_parse.proofs.input.Input.advance.Goals as goal

pub returns-clause-tokens : goal.returns-clause-tokens
returns-clause-tokens c = next_tokens c.args.self.now _ c.requires c.next_token-self.ensures

pub returns-clause-goes_on : goal.returns-clause-goes_on
returns-clause-goes_on c = next_goes_on c.args.self.now _ c.requires c.next_token-self.ensures (search rules) (search rules)

pub returns-clause-left : goal.returns-clause-left
returns-clause-left c = first_left _ c.args.self.now.scanner.rest.now c.next_token-self.ensures
