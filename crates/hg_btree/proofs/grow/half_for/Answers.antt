use Rattle.std.specs.Ordering.{is_lt}
use Rattle.std.proofs.Common.{sym, ◌∙◌, ap}
use Rattle.std.proofs.lemmas.Bool.{false≢true}
use Rattle.hg_btree.proofs.Orders.{below-is}
use Rattle.hg_btree.proofs.grow.half_for.Goals as goal

pub returns-in-Less-clause-high : goal.returns-in-Less-clause-high
returns-in-Less-clause-high c = λ n m h.
    absurd (false≢true (sym h ∙ below-is (record { key = c.args.key.now; place = c.args.place; child = n }) (record { key = c.args.bound.now; place = c.args.at; child = m })
    ∙ ap is_lt (sym c.in-Less.ensures)))

pub returns-in-Equal-clause-low : goal.returns-in-Equal-clause-low
returns-in-Equal-clause-low c = λ n m h.
    absurd (false≢true (ap is_lt c.in-Equal.ensures ∙ sym (below-is (record { key = c.args.key.now; place = c.args.place; child = n }) (record { key = c.args.bound.now; place = c.args.at; child = m })) ∙ h))

pub returns-in-Greater-clause-low : goal.returns-in-Greater-clause-low
returns-in-Greater-clause-low c = λ n m h.
    absurd (false≢true (ap is_lt c.in-Greater.ensures ∙ sym (below-is (record { key = c.args.key.now; place = c.args.place; child = n }) (record { key = c.args.bound.now; place = c.args.at; child = m })) ∙ h))
