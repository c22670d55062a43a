use Rattle.std.proofs.Common.{◌≡◌, ◌<◌, true, sym, subst}
use Rattle.hg_raw.specs.Frames.{ChainSeen, numbers, is_in}
use Rattle.hg_raw.specs.Links.{from, behind, first_of}
use Rattle.hg_raw.proofs.Chains.{word-there, next-is, rest-is, is-below}
use Rattle.hg_raw.proofs.chain.Chain.next.Goals as goal

pub get_half-requires-clause-there : goal.get_half-requires-clause-there
get_half-requires-clause-there c = word-there c.self.inside c.self.invariant c.args.at (subst (λ (v : ChainSeen). is_in c.args.at (numbers v.frames) ≡ true) (sym c.self.view_is) c.requires)

pub returns-clause-next : goal.returns-clause-next
returns-clause-next c =
    let P : ChainSeen → Type 0 = λ v. c.get_half.result ≡ first_of (behind c.args.at (numbers v.frames)) in
    let h : is_in c.args.at (numbers c.self.inside.pages.held) ≡ true = subst (λ (v : ChainSeen). is_in c.args.at (numbers v.frames) ≡ true) (sym c.self.view_is) c.requires in
    subst P c.self.view_is (next-is c.self.inside c.self.invariant c.args.at c.get_half.result h c.get_half.type_inv c.get_half.ensures)

pub returns-clause-rest : goal.returns-clause-rest
returns-clause-rest c =
    let P : ChainSeen → Type 0 = λ v. from c.get_half.result (numbers v.frames) ≡ behind c.args.at (numbers v.frames) in
    let h : is_in c.args.at (numbers c.self.inside.pages.held) ≡ true = subst (λ (v : ChainSeen). is_in c.args.at (numbers v.frames) ≡ true) (sym c.self.view_is) c.requires in
    subst P c.self.view_is (rest-is c.self.inside c.self.invariant c.args.at c.get_half.result h (next-is c.self.inside c.self.invariant c.args.at c.get_half.result h c.get_half.type_inv c.get_half.ensures))

pub returns-clause-below : goal.returns-clause-below
returns-clause-below c =
    let h : is_in c.args.at (numbers c.self.inside.pages.held) ≡ true = subst (λ (v : ChainSeen). is_in c.args.at (numbers v.frames) ≡ true) (sym c.self.view_is) c.requires in
    subst (λ (v : ChainSeen). c.args.at < v.region.frames) c.self.view_is (is-below c.self.inside c.self.invariant c.args.at h)
