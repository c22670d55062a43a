use Rattle.std.proofs.Common.{sym, subst, arith}
use Rattle.hg_reloc.proofs.Rewriting.{IsMoving, start, next, on, grows, finish}
use Rattle.hg_reloc.proofs.Pages.{moves_pages}
use Rattle.hg_reloc.proofs.moving.rewrite.Goals as goal

pub loop-at-init : goal.loop-at-init
loop-at-init c =
    subst (IsMoving c.args.map.now c.args.page.now c.move_words.new.page 64) (sym c.get_u16-end.ensures.value)
    (start c.args.map.now c.args.page.now c.move_words.new.page c.requires c.move_words.ensures.moved)

pub move_object-at-requires-clause-begins : goal.move_object-at-requires-clause-begins
move_object-at-requires-clause-begins c = next c.args.map.now c.args.page.now c.loop-at.page c.loop-at.at c.get_u16-end.result c.loop-at.invariant c.loop-at-test.true

pub overflow_add-at : goal.overflow_add-at
overflow_add-at c =
    omega (
      arith,
      grows c.args.map.now c.args.page.now c.loop-at.page c.move_object-at.new.page c.loop-at.at c.get_u16-end.result c.move_object-at.result
          c.loop-at.invariant c.loop-at-test.true c.move_object-at.ensures.moved c.move_object-at.ensures.same_length,
    )

pub loop-at-smaller : goal.loop-at-smaller
loop-at-smaller c =
    omega (
      arith,
      grows c.args.map.now c.args.page.now c.loop-at.page c.move_object-at.new.page c.loop-at.at c.get_u16-end.result c.move_object-at.result
          c.loop-at.invariant c.loop-at-test.true c.move_object-at.ensures.moved c.move_object-at.ensures.same_length,
    )

pub loop-at-preserved : goal.loop-at-preserved
loop-at-preserved c =
    on c.args.map.now c.args.page.now c.loop-at.page c.move_object-at.new.page c.loop-at.at c.get_u16-end.result c.move_object-at.result
    c.loop-at.invariant c.loop-at-test.true c.move_object-at.ensures.moved c.move_object-at.ensures.same_length

pub returns-clause-moved : goal.returns-clause-moved
returns-clause-moved c = finish c.args.map.now c.args.page.now c.loop-at.page c.loop-at.at c.get_u16-end.result c.loop-at.invariant c.loop-at-test.false

pub returns-clause-stands : goal.returns-clause-stands
returns-clause-stands c =
    moves_pages c.args.map.now c.args.page.now c.loop-at.page
    (finish c.args.map.now c.args.page.now c.loop-at.page c.loop-at.at c.get_u16-end.result c.loop-at.invariant c.loop-at-test.false)
