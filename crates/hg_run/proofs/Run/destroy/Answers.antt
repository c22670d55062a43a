use Rattle.std.specs.Prelude.{◌≡◌, ℕ, ◌+◌}
use Rattle.std.proofs.Common.{sym, ◌∙◌, ap, subst, arith}
use Rattle.hg_base.specs.Space.{Space, key, key_in, without_page}
use Rattle.hg_base.specs.declared.File.TheVariants.{Temp}
use Rattle.hg_run.specs.Steps.{Releases}
use Rattle.hg_run.proofs.Ending.{releases_none, first_of, releases_more, ends_none, ends_few}
use Rattle.hg_run.proofs.Run.destroy.Goals as goal

pub loop-turn-init : goal.loop-turn-init
loop-turn-init g c = record {
  releases = λ pages l. releases_none (g.S.Pages.state c.args.space.now) c.args.self pages c.requires.out l;
}

pub next-next-requires : goal.next-next-requires
next-next-requires g c =
    let a : Space = g.S.Pages.state c.args.space.now in
    let b : Space = g.S.Pages.state c.loop-turn.space in
    let r = subst (λ n. Releases a b c.requires.chain.0 n c.loop-turn._turn) c.in-Some.is (c.loop-turn.invariant.releases c.requires.chain.0 c.requires.chain.1) in
    ap (λ p. b.taken (key p)) c.temp_page-page.ensures ∙ (first_of b r.rest c.in-Some.no r.line).taken

pub release-requires-clause-taken : goal.release-requires-clause-taken
release-requires-clause-taken g c =
    let a : Space = g.S.Pages.state c.args.space.now in
    let b : Space = g.S.Pages.state c.loop-turn.space in
    let r = subst (λ n. Releases a b c.requires.chain.0 n c.loop-turn._turn) c.in-Some.is (c.loop-turn.invariant.releases c.requires.chain.0 c.requires.chain.1) in
    ap (λ p. b.taken (key p)) c.temp_page-page.ensures ∙ (first_of b r.rest c.in-Some.no r.line).taken

pub release-requires-clause-no_heap : goal.release-requires-clause-no_heap
release-requires-clause-no_heap g c =
    let a : Space = g.S.Pages.state c.args.space.now in
    let b : Space = g.S.Pages.state c.loop-turn.space in
    let r = subst (λ n. Releases a b c.requires.chain.0 n c.loop-turn._turn) c.in-Some.is (c.loop-turn.invariant.releases c.requires.chain.0 c.requires.chain.1) in
    ap (λ p. b.of_heap (key p)) c.temp_page-page.ensures ∙ (first_of b r.rest c.in-Some.no r.line).no_heap

pub loop-turn-preserved : goal.loop-turn-preserved
loop-turn-preserved g c =
    let a : Space = g.S.Pages.state c.args.space.now in
    let b : Space = g.S.Pages.state c.loop-turn.space in
    let d : Space = g.S.Pages.state c.release.new.self in
    let x : ℕ = c.in-Some.no in
    let ke : key c.temp_page-page.result ≡ key_in Temp x = ap key c.temp_page-page.ensures in
    record {
      releases = λ pages l.
          let r = subst (λ n. Releases a b pages n c.loop-turn._turn) c.in-Some.is (c.loop-turn.invariant.releases pages l) in
          subst (λ n. Releases a d pages n (c.loop-turn._turn + 1)) (sym (c.next-next.ensures ∙ ap b.next ke))
          (subst (λ s. Releases a s pages (b.next (key_in Temp x)) (c.loop-turn._turn + 1)) (sym (c.release.ensures ∙ ap (without_page b) ke))
          (releases_more a b pages x c.loop-turn._turn r));
    }

pub returns-in_default : goal.returns-in_default
returns-in_default g c = λ pages l.
    let a : Space = g.S.Pages.state c.args.space.now in
    let b : Space = g.S.Pages.state c.loop-turn.space in
    ends_none a b pages c.loop-turn._turn
    (subst (λ n. Releases a b pages n c.loop-turn._turn) c.in_default.is (c.loop-turn.invariant.releases pages l))

pub returns : goal.returns
returns g c = λ pages l.
    let a : Space = g.S.Pages.state c.args.space.now in
    let b : Space = g.S.Pages.state c.loop-turn.space in
    ends_few a b c.args.self pages c.loop-turn.next c.loop-turn._turn l
    (let n = c.taken-turn-end.ensures.count in omega arith) (c.loop-turn.invariant.releases pages l)
