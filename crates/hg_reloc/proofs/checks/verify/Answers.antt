use Rattle.hg_reloc.proofs.Exact.{exact_right}
use Rattle.hg_reloc.proofs.Accepting.{takes_page}
use Rattle.hg_reloc.proofs.checks.verify.Goals as goal

pub returns-clause-stands : goal.returns-clause-stands
returns-clause-stands c a roots objects frame p =
    (exact_right c.args.page.now c.args.max c.check_page.result c.check_page.ensures).1 (takes_page c.args.max c.args.page.now a roots objects frame p)
