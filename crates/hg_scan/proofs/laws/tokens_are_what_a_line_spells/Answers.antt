use Rattle.hg_scan.specs.PieceLaws as pieces
use Rattle.hg_scan.specs.TokenLaws as proved
use Rattle.hg_scan.proofs.laws.tokens_are_what_a_line_spells.Goals as goal

pub returns-clause-spelled : goal.returns-clause-spelled
returns-clause-spelled c = proved.spelled

pub returns-clause-at_end : goal.returns-clause-at_end
returns-clause-at_end c = proved.at_end

pub returns-clause-wrong : goal.returns-clause-wrong
returns-clause-wrong c = proved.wrong

pub returns-clause-next : goal.returns-clause-next
returns-clause-next c = proved.next

pub returns-clause-shorter : goal.returns-clause-shorter
returns-clause-shorter c = proved.shorter

pub returns-clause-texts_fit : goal.returns-clause-texts_fit
returns-clause-texts_fit c = pieces.text_fits
