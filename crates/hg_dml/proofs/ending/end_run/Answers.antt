use Rattle.std.specs.Prelude.{ℕ, ◌+◌}
use Rattle.std.proofs.Common.{sym, subst, arith}
use Rattle.hg_base.specs.Space.{Space, key_in}
use Rattle.hg_base.specs.declared.File.TheVariants.{Temp}
use Rattle.hg_dml.proofs.EndingLaws.{EndingSoFar, ending-none, next-of-run, ending-more, ended-none, ended-few}
use Rattle.hg_dml.proofs.ending.end_run.Goals as goal

pub loop-turn-init : goal.loop-turn-init
loop-turn-init g c = λ pages chain. ending-none (g.S.Pages.state c.args.space.now) c.args.run pages c.requires.out chain

pub next-next-requires : goal.next-next-requires
next-next-requires g c =
    let a : Space = g.S.Pages.state c.args.space.now in
    let b : Space = g.S.Pages.state c.loop-turn.space in
    (next-of-run a b c.requires.chain.0 c.in-Some.no c.loop-turn._turn (subst (λ n. EndingSoFar a b c.requires.chain.0 n c.loop-turn._turn) c.in-Some.is (c.loop-turn.invariant c.requires.chain.0 c.requires.chain.1))).taken

pub release-requires-clause-taken : goal.release-requires-clause-taken
release-requires-clause-taken g c =
    let a : Space = g.S.Pages.state c.args.space.now in
    let b : Space = g.S.Pages.state c.loop-turn.space in
    (next-of-run a b c.requires.chain.0 c.in-Some.no c.loop-turn._turn (subst (λ n. EndingSoFar a b c.requires.chain.0 n c.loop-turn._turn) c.in-Some.is (c.loop-turn.invariant c.requires.chain.0 c.requires.chain.1))).taken

pub release-requires-clause-no_heap : goal.release-requires-clause-no_heap
release-requires-clause-no_heap g c =
    let a : Space = g.S.Pages.state c.args.space.now in
    let b : Space = g.S.Pages.state c.loop-turn.space in
    (next-of-run a b c.requires.chain.0 c.in-Some.no c.loop-turn._turn (subst (λ n. EndingSoFar a b c.requires.chain.0 n c.loop-turn._turn) c.in-Some.is (c.loop-turn.invariant c.requires.chain.0 c.requires.chain.1))).no_heap

pub release-requires-clause-not_pinned : goal.release-requires-clause-not_pinned
release-requires-clause-not_pinned g c =
    (c.loop-turn.invariant c.requires.chain.0 c.requires.chain.1).releases.steady.pins_after.not_pinned (key_in Temp c.in-Some.no)

pub loop-turn-preserved : goal.loop-turn-preserved
loop-turn-preserved g c = λ pages chain.
    let a : Space = g.S.Pages.state c.args.space.now in
    let b : Space = g.S.Pages.state c.loop-turn.space in
    let d : Space = g.S.Pages.state c.release.new.self in
    let x : ℕ = c.in-Some.no in
    let h = subst (λ n. EndingSoFar a b pages n c.loop-turn._turn) c.in-Some.is (c.loop-turn.invariant pages chain) in
    subst (λ n. EndingSoFar a d pages n (c.loop-turn._turn + 1)) (sym c.next-next.ensures)
    (subst (λ s. EndingSoFar a s pages (b.next (key_in Temp x)) (c.loop-turn._turn + 1)) (sym c.release.ensures) (ending-more a b pages x c.loop-turn._turn h))

pub returns-in_default : goal.returns-in_default
returns-in_default g c = λ pages chain.
    let a : Space = g.S.Pages.state c.args.space.now in
    let b : Space = g.S.Pages.state c.loop-turn.space in
    ended-none a b pages c.loop-turn._turn (subst (λ n. EndingSoFar a b pages n c.loop-turn._turn) c.in_default.is (c.loop-turn.invariant pages chain))

pub returns : goal.returns
returns g c = λ pages chain.
    let a : Space = g.S.Pages.state c.args.space.now in
    let b : Space = g.S.Pages.state c.loop-turn.space in
    ended-few a b c.args.run pages c.loop-turn.next c.loop-turn._turn chain (let n = c.taken-turn-end.ensures.count in omega arith) (c.loop-turn.invariant pages chain)
