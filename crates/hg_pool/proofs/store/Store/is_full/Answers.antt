use Rattle.std.proofs.Common.{◌≡◌, sym, ◌∙◌}
use Rattle.std.proofs.lemmas.Bool.{eq-eqb, eqb-true}
use Rattle.hg_pool.specs.Picture.{taken_at, limit_of}
use Rattle.hg_pool.proofs.Counting.{all-counted, counted-all}
use Rattle.hg_pool.proofs.store.Store.is_full.Goals as goal

pub returns : goal.returns
returns c =
    let m = c.args.self.now.maps in
    let limit : c.limit.result ≡ limit_of m c.args.file = c.limit.ensures in (
      λ t. counted-all (taken_at m) c.args.file (limit_of m c.args.file) (sym c.used.ensures ∙ eqb-true c.used.result c.limit.result t ∙ limit),
      λ all. eq-eqb c.used.result c.limit.result (c.used.ensures ∙ all-counted (taken_at m) c.args.file (limit_of m c.args.file) all ∙ sym limit),
    )
