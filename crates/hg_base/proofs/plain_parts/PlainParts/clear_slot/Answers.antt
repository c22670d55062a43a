use Rattle.std.proofs.Common.{◌∙◌, ap, None}
use Rattle.hg_base.specs.Space.{at}
use Rattle.hg_base.specs.Plain.{owner_of, is_key}
use Rattle.hg_base.specs.PlainSpaces.{state_of, counts_of, owners_of}
use Rattle.hg_base.proofs.PlainHeaps.{list-gone, owners-put}
use Rattle.hg_base.proofs.PlainSteps.{owner-none}
use Rattle.std.proofs.Common.{refl}
use Rattle.hg_base.proofs.plain_parts.PlainParts.clear_slot.Goals as goal

pub returns-clause-state : goal.returns-clause-state
returns-clause-state c =
    list-gone c.args.self.now.slots.items c.args.page c.args.self.now.pins c.empty.result (counts_of c.args.self.now) (state_of c.args.self.now).heaps c.requires.0 c.empty.ensures c.requires.1

pub returns-clause-owners : goal.returns-clause-owners
returns-clause-owners c =
    owners-put c.args.self.now.slots.items c.args.page c.empty.result c.requires.0
    ∙ ap (λ x. at (owners_of c.args.self.now) c.args.page (owner_of c.args.page x)) c.empty.ensures
    ∙ ap (λ x. at (owners_of c.args.self.now) c.args.page x) (owner-none (is_key c.args.page) None refl)
