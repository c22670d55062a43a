use Rattle.std.specs.Prelude.{◌≡◌, ℕ, List, length, min, max}
use Rattle.std.proofs.Common.{◌∙◌, ap, arith}
use Rattle.hg_gov.specs.Rounds.{GovernorState, joined}
use Rattle.hg_gov.proofs.Queues.{facts_of, kept_of, join_facts, joins}
use Rattle.hg_gov.proofs.Governor.set_mpl.Goals as goal

pub invariant_of-self : goal.invariant_of-self
invariant_of-self c =
    let i = c.self.inside in
    let q : List ℕ = i.queue.items in
    let f = facts_of q i.active i.ledger.held i.most i.current i.mpl c.self.invariant in
    let e : c.max-self-inside.result ≡ max i.active (min c.args.n (length q)) = (let m = c.max-self-inside.ensures in let n = c.min.ensures in let l = c.len.ensures.value in omega arith) in
    kept_of q q i.active c.max-self-inside.result i.ledger.held i.most i.current i.mpl c.args.n c.self.invariant c.requires.some c.requires.few
    (join_facts q i.active c.max-self-inside.result c.args.n f.once f.small f.few e)

pub returns-clause-state : goal.returns-clause-state
returns-clause-state c =
    let i = c.self.inside in
    let q : List ℕ = i.queue.items in
    let e : c.max-self-inside.result ≡ max i.active (min c.args.n (length q)) = (let m = c.max-self-inside.ensures in let n = c.min.ensures in let l = c.len.ensures.value in omega arith) in
    joins q i.active i.ledger.held i.most i.current c.args.n c.max-self-inside.result c.self.invariant.few e
    ∙ ap (λ (s : GovernorState). joined (record s { mpl = c.args.n })) c.self.view_is

pub returns-clause-sound : goal.returns-clause-sound
returns-clause-sound c = (invariant_of-self c).sound
