use Rattle.std.specs.Prelude.{Some}
use Rattle.hg_base.specs.Space.{Space}
use Rattle.hg_trials.specs.Alone.{none_comes}
use Rattle.hg_trials.proofs.tree_trials.put.Goals as goal

pub returns : goal.returns
returns g c =
    let a : Space = g.S.Pages.state c.args.space.now in
    let b : Space = g.S.Pages.state c.insert.new.space in
    let grown = c.insert.ensures.line c.requires.ready.pages c.requires.ready.line in
    record {
      ready = c.insert.ensures.ready c.requires.ready;
      none_lent = none_comes c.args.tree.file a b (Some c.args.tree.top) grown.now grown.line grown.steady c.requires.none_lent;
    }
