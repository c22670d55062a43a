use Rattle.std.proofs.Common.{◌∙◌, ap}
use Rattle.hg_base.specs.Space.{key as page_key}
use Rattle.hg_btree.specs.Rewriting.{written}
use Rattle.hg_btree.proofs.commit.put_three.Goals as goal

pub returns : goal.returns
returns g c =
    c.put_back-3.ensures
    ∙ ap (λ s. written s (page_key (g.S.Pages.pin_page (c.args.pins.0))) c.args.first.now)
    (c.put_back-2.ensures ∙ ap (λ s. written s (page_key (g.S.Pages.pin_page (c.args.pins.1))) c.args.second.now) c.put_back.ensures)
