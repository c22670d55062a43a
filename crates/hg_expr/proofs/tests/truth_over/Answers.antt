use Rattle.std.proofs.Common.{refl, ap}
use Rattle.hg_model.specs.Types.{binary_digits, digits_within}
use Rattle.hg_model.specs.Width.{is_small_row}
use Rattle.hg_expr.proofs.TableRows.{plain_row_fits}
use Rattle.hg_expr.proofs.tests.truth_over.Goals as goal

pub truth-requires-clause-sound : goal.truth-requires-clause-sound
unfolding binary_digits digits_within
truth-requires-clause-sound c = record { tree = refl; narrow = refl; texts_fit = refl }

pub truth-requires-clause-fits : goal.truth-requires-clause-fits
truth-requires-clause-fits c = plain_row_fits _ _ _ refl (ap is_small_row c.requires) refl
