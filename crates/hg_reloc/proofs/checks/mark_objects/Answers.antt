use Rattle.std.proofs.Common.{◌∙◌, sym, subst}
use Rattle.hg_reloc.proofs.Checking.{IsWalking, walk_start, walk_grid, end_at}
use Rattle.hg_reloc.proofs.checks.mark_objects.Goals as goal

pub loop-at-init : goal.loop-at-init
loop-at-init c =
    subst (λ marks. IsWalking c.args.page.now marks 64 c.get_u16-end.result) (sym c.requires.none)
    (walk_start c.args.page.now c.get_u16-end.result c.requires.head (c.get_u16-end.ensures.value ∙ end_at c.args.page.now))

pub look_at-requires-clause-grid : goal.look_at-requires-clause-grid
look_at-requires-clause-grid c = walk_grid c.args.page.now c.loop-at.begins c.loop-at.at c.get_u16-end.result c.loop-at.invariant
