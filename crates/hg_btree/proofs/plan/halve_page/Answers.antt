use Rattle.std.specs.Prelude.{false, true}
use Rattle.std.proofs.Common.{sym, subst}
use Rattle.hg_btree.specs.Nodes.{IsNode}
use Rattle.hg_btree.proofs.plan.halve_page.Goals as goal

pub returns-in-Ok-clause-level : goal.returns-in-Ok-clause-level
returns-in-Ok-clause-level g c = λ bytes told.
    let e = c.in_ok-copy_of.ensures.bytes bytes told in
    record {
      leaf = λ link own h. (c.in-Ok.ensures.leaf link own (subst (λ p. IsNode false p 0 link own) (sym e) h)).0;
      inner = λ n first items l h. (c.in-Ok.ensures.inner n first items (subst (λ p. IsNode true p n first items) (sym e) h) l).0;
    }
