use Rattle.hg_model.specs.Query.{query_of}
use Rattle.hg_slow.specs.SlowTables as slow_tables
use Rattle.hg_slow.proofs.Answering.{test_shows}
use Rattle.std.proofs.Common.{sym, ◌∙◌}
use Rattle.hg_slow.proofs.answerable.is_answerable.Goals as goal

pub returns-clause-answerable : goal.returns-clause-answerable
returns-clause-answerable c = λ h. test_shows (query_of c.args.select.now) c.args.texts.now (slow_tables.tables_of c.args.tables.now.items) (sym c.passes.ensures ∙ h)
