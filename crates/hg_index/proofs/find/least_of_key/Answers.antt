use Rattle.std.specs.Prelude.{◌≡◌, Some}
use Rattle.std.proofs.Common.{sym, subst, rules}
use Rattle.std.proofs.lemmas.Bool.{false≢true}
use Rattle.hg_base.specs.Space.{Space}
use Rattle.hg_base.specs.Causes.{HasCause}
use Rattle.hg_btree.specs.Nodes.{IsFirst}
use Rattle.hg_index.specs.Walks.{FindsNumber, entry_at}
use Rattle.hg_index.proofs.Walking.{key_none, key_found, key_other, first_proper, first_from_low}
use Rattle.hg_index.proofs.Looking.{damage_cause}
use Rattle.hg_index.proofs.find.least_of_key.Goals as goal

pub returns-in_default-clause-found : goal.returns-in_default-clause-found
returns-in_default-clause-found g c = λ es pages leaves h places.
    key_none es c.args.key.now c.args.low
    (subst (λ o. IsFirst es (entry_at c.args.key.now c.args.low) o c.seek.new.out.items) c.in_default.is (c.in_ok-number.ensures.first es pages leaves h))

pub returns-then-ne-clause-found : goal.returns-then-ne-clause-found
returns-then-ne-clause-found g c = λ es pages leaves h places.
    key_other es c.args.key.now c.args.low c.in-Some.number c.seek.new.out.items h.ascending
    (subst (λ o. IsFirst es (entry_at c.args.key.now c.args.low) o c.seek.new.out.items) c.in-Some.is (c.in_ok-number.ensures.first es pages leaves h))
    (let d : c.seek.new.out.items ≡ c.args.key.now → ⊥ = search rules in d)

pub returns-in-Ok-clause-found : goal.returns-in-Ok-clause-found
returns-in-Ok-clause-found g c = λ es pages leaves h places.
    subst (λ n. FindsNumber (λ k. k ≡ c.args.key.now) c.args.low es (Some n)) (sym c.in-Ok.ensures.number)
    (key_found es c.args.key.now c.args.low c.in-Some.number c.seek.new.out.items h.ascending
    (subst (λ o. IsFirst es (entry_at c.args.key.now c.args.low) o c.seek.new.out.items) c.in-Some.is (c.in_ok-number.ensures.first es pages leaves h))
    (let e : c.seek.new.out.items ≡ c.args.key.now = search rules in e))

pub returns-in-Err-clause-cause : goal.returns-in-Err-clause-cause
returns-in-Err-clause-cause g c =
    let a : Space = g.S.Pages.state c.args.space.now in
    let b : Space = g.S.Pages.state c.seek.new.space in
    let t = entry_at c.args.key.now c.args.low in
    let e : c.seek.new.out.items ≡ c.args.key.now = search rules in
    subst (λ f. HasCause a b (Some f)) (sym c.damaged.ensures)
    (damage_cause a b _ c.in-Err.check c.in_ok-number.ensures.cause
    (λ told.
    let h = c.requires.there told in
    let f = subst (λ o. IsFirst h.es t o c.seek.new.out.items) c.in-Some.is (c.in_ok-number.ensures.first h.es h.pages h.leaves h.tree) in
    false≢true (c.in-Err.ensures.known (first_from_low h.es c.args.key.now c.args.low c.in-Some.number c.seek.new.out.items f e)
    (first_proper h.es t c.in-Some.number c.seek.new.out.items h.places f))))
