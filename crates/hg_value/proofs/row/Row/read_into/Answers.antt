use Rattle.std.proofs.Common.{◌≡◌, [], ◌++◌, sym, ap, ◌∙◌, subst, refl}
use Rattle.hg_value.specs.Coding.{coded, IsRowOf}
use Rattle.hg_value.proofs.Reading.{IsRead, is_read}
use Rattle.hg_value.proofs.row.Row.read_into.Goals as goal
use Rattle.hg_value.proofs.row.Row.read_into.Goals.{After-put}

all_bytes : (c : After-put) → c.put.new.self ≡ c.args.bytes.now
all_bytes c =
    let none : c.self.inside.bytes ≡ [] = c.self.invariant.spelled ∙ ap coded (c.self.view_is ∙ c.clear.ensures) in
    c.put.ensures ∙ ap (λ bs. bs ++ c.args.bytes.now) none

whole : (c : After-put) → IsRead c.args.n c.put.new.self c.read_ends.new.ends
whole c =
    subst (λ bs. IsRead c.args.n bs c.read_ends.new.ends) (sym (all_bytes c))
    (is_read c.args.n c.args.bytes.now c.read_ends.new.ends (c.if-not-read_ends.ensures).found)

pub invariant_of-self-2 : goal.invariant_of-self-2
invariant_of-self-2 c = (whole c).parts

pub returns-clause-sound : goal.returns-clause-sound
returns-clause-sound c = subst (IsRowOf _ c.args.n) (all_bytes c) (whole c).row

pub returns-clause-complete : goal.returns-clause-complete
returns-clause-complete c vs w = (refl, (whole c).only vs (subst (IsRowOf vs c.args.n) (sym (all_bytes c)) w))
