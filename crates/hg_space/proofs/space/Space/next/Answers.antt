use Rattle.std.proofs.Common.{arith, ap, length}
use Rattle.std.proofs.lemmas.List.{get_or_read}
use Rattle.hg_space.proofs.KeptLemmas.{page-within, linked-answer, unlinked-answer}
use Rattle.hg_space.proofs.space.Space.next.Goals as goal

pub is_set-requires : goal.is_set-requires
is_set-requires c = omega (arith, page-within _ _ c.args.no c.self.view_is c.requires.used, ap length c.deref.ensures.value, c.self.invariant.0.linked_room)

pub index-requires : goal.index-requires
index-requires c = omega (arith, page-within _ _ c.args.no c.self.view_is c.requires.used)

pub returns-then-is_set : goal.returns-then-is_set
returns-then-is_set c =
    linked-answer _ _ _ c.args.no _ _ c.self.view_is c.deref.ensures.value c.requires.used c.is_set.ensures c.if-is_set.true
    (get_or_read c.self.inside.links.items c.args.no _ (omega (arith, page-within _ _ c.args.no c.self.view_is c.requires.used)) c.index.ensures 0)

pub returns-else-is_set : goal.returns-else-is_set
returns-else-is_set c = unlinked-answer _ _ _ c.args.no _ c.self.view_is c.deref.ensures.value c.requires.used c.is_set.ensures c.if-is_set.false
