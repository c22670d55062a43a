use Rattle.std.proofs.Common.{◌≡◌, ◌+◌, [], ◌∷◌, ◌++◌, length, refl, sym, ap, ◌∙◌, subst, arith, append_assoc, length-append}
use Rattle.hg_model.specs.declared.values.Value.{Value}
use Rattle.hg_value.specs.Coding.{coding, IsHeld, HasRoom}
use Rattle.hg_value.proofs.Rows.{Pushes, pushing, room_is, room_means}
use Rattle.hg_value.proofs.row.Row.append.Goals as goal
use Rattle.hg_value.proofs.row.Row.append.Goals.{After-push}

pub returns-then-len-eq-MAX_VALUES-clause-room : goal.returns-then-len-eq-MAX_VALUES-clause-room
returns-then-len-eq-MAX_VALUES-clause-room c v held is = (
  (λ t. absurd cc),
  (λ r.
      let h = room_means c.self.inside.ends c.self.inside.bytes c.args.self.now v c.self.invariant c.self.view_is r in
      let e = c.then-len-eq-MAX_VALUES.either in
      absurd (omega (arith, h.0, h.1, c.len.ensures.value, c.len-2.ensures.value, ap length is, length-append c.args.front.now c.args.rest.now))),
)

has_room : (c : After-push) (v : Value) → c.args.front.now ++ c.args.rest.now ≡ coding v → HasRoom c.args.self.now v
has_room c v is =
    let e = c.if-len-eq-MAX_VALUES.false in
    room_is c.self.inside.ends c.self.inside.bytes c.args.self.now v c.self.invariant c.self.view_is
    (omega (arith, c.len-2.ensures.value, c.len-2.ensures.fits))
    (omega (arith, c.len.ensures.value, ap length is, length-append c.args.front.now c.args.rest.now))

pushes : (c : After-push) (v : Value) → IsHeld v → c.args.front.now ++ c.args.rest.now ≡ coding v
    → Pushes c.self.inside.ends c.self.inside.bytes c.push.new.self c.put-2.new.self v
pushes c v held is =
    pushing c.self.inside.ends c.self.inside.bytes c.push.new.self c.put-2.new.self v
    (c.len.result + length c.args.front.now + length c.args.rest.now) c.self.invariant held
    (subst (λ vs. HasRoom vs v) (sym c.self.view_is) (has_room c v is))
    (c.put-2.ensures ∙ ap (λ b. b ++ c.args.rest.now) c.put.ensures ∙ append_assoc c.self.inside.bytes c.args.front.now c.args.rest.now
    ∙ ap (λ b. c.self.inside.bytes ++ b) is)
    c.push.ensures
    (omega (arith, c.len.ensures.value, ap length is, length-append c.args.front.now c.args.rest.now))

pub invariant_of-self : goal.invariant_of-self
invariant_of-self c = (pushes c c.requires.spells.value c.requires.spells.held c.requires.spells.is).parts

pub returns-clause-ok : goal.returns-clause-ok
returns-clause-ok c v held is = (pushes c v held is).shown ∙ ap (λ vs. vs ++ v ∷ []) c.self.view_is

pub returns-clause-room : goal.returns-clause-room
returns-clause-room c v held is = ((λ t. has_room c v is), (λ r. refl))
