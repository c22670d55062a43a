use Rattle.std.specs.Prelude.{Some, ℕ}
use Rattle.std.proofs.Common.{sym, ◌∙◌, ap, subst, refl}
use Rattle.hg_base.specs.Space.{Space, key, with_next}
use Rattle.hg_run.specs.declared.Run.{Run}
use Rattle.hg_run.specs.Steps.{AddsRecord}
use Rattle.hg_run.proofs.Growing.{last_taken, last_no_heap, chain_last, adds_first, adds_next}
use Rattle.hg_run.proofs.write.add_page.Goals as goal
use Rattle.hg_run.proofs.write.add_page.Goals.{in-Some, in-None}

pub set_next-requires-clause-taken : goal.set_next-requires-clause-taken
set_next-requires-clause-taken g c =
    let a : Space = g.S.Pages.state c.args.space.now in
    let b : Space = g.S.Pages.state c.new_page.new.space in
    ap (λ p. b.taken (key p)) c.temp_page.ensures
    ∙ last_taken a b c.args.bytes.now c.in_ok-no.no c.in-Some.last c.in_ok-no.ensures.made
    (chain_last a c.args.run.now c.requires.chain.0 c.in-Some.last c.requires.chain.1 c.in-Some.is)

pub set_next-requires-clause-no_heap : goal.set_next-requires-clause-no_heap
set_next-requires-clause-no_heap g c =
    let a : Space = g.S.Pages.state c.args.space.now in
    let b : Space = g.S.Pages.state c.new_page.new.space in
    ap (λ p. b.of_heap (key p)) c.temp_page.ensures
    ∙ last_no_heap a b c.args.bytes.now c.in_ok-no.no c.in-Some.last c.in_ok-no.ensures.made
    (chain_last a c.args.run.now c.requires.chain.0 c.in-Some.last c.requires.chain.1 c.in-Some.is)

pub returns-clause-made : goal.returns-clause-made
returns-clause-made g c =
    let x : ℕ = c.in_ok-no.no in
    let t : Run = c.args.run.now in
    let now : Run = record { first = c.match-run.run.first; last = Some x; records = c.match-run.run.records } in (
      x,
      elim c.match-run.branch [
        | in-Some w ↦
            let a : Space = g.S.Pages.state c.args.space.now in
            let m : Space = g.S.Pages.state c.new_page.new.space in
            adds_next a m (g.S.Pages.state c.match-run.space) t now c.args.bytes.now x w.in-Some.last
            c.in_ok-no.ensures.made
            (chain_last a t c.requires.chain.0 w.in-Some.last c.requires.chain.1 w.in-Some.is) w.in-Some.is
            (ap (λ s. g.S.Pages.state s) w.space-is ∙ w.set_next.ensures ∙ ap (λ p. with_next m (key p) (Some x)) w.temp_page.ensures)
            (ap (λ (u : Run). u.first) w.run-is) refl
        | in-None w ↦
            let a : Space = g.S.Pages.state c.args.space.now in
            subst (λ s. AddsRecord a s t now c.args.bytes.now x)
            (sym (ap (λ s. g.S.Pages.state s) w.space-is))
            (adds_first a (g.S.Pages.state c.new_page.new.space) t now c.args.bytes.now x
            c.in_ok-no.ensures.made w.in-None.is (ap (λ (u : Run). u.first) w.run-is) refl)
      ],
    )
