use Rattle.hg_pool.proofs.Leaving.{none-same, none-put, out-there}
use Rattle.hg_pool.proofs.tests.taken_byte.Goals as goal

pub returns-in_err-chain-clause-none_out : goal.returns-in_err-chain-clause-none_out
returns-in_err-chain-clause-none_out c = none-same _ _ c.requires.none_out c.in_err-chain.ensures.err

pub put_page-requires-clause-out : goal.put_page-requires-clause-out
put_page-requires-clause-out c = out-there _ _ _ _ c.in_ok-chain.ensures.ok

pub returns-clause-none_out : goal.returns-clause-none_out
returns-clause-none_out c = none-put _ _ _ _ _ _ c.requires.none_out c.in_ok-chain.ensures.ok c.put_page.ensures.after
