use Rattle.std.specs.Prelude.{ℕ, ◌+◌, ◌-◌, ◌^◌, min, List}
use Rattle.std.proofs.Common.{sym, ◌∙◌, ap, subst, refl}
use Rattle.hg_base.specs.Space.{Space}
use Rattle.hg_run.specs.declared.Run.{Run}
use Rattle.hg_run.specs.Calls.{Appends}
use Rattle.hg_run.specs.Steps.{PutsLast}
use Rattle.hg_run.proofs.Filling.{looks_last, looked_chain, needs_page, adds_appends, last_appends}
use Rattle.hg_run.proofs.Run.append.Goals as goal
use Rattle.hg_run.proofs.Run.append.Goals.{then-not-branch+in_ok-add_page, else-not-branch}

pub add_page-requires-clause-chain : goal.add_page-requires-clause-chain
add_page-requires-clause-chain g c =
    let a : Space = g.S.Pages.state c.args.space.now in
    let m : Space = g.S.Pages.state c.put_last.new.space in
    let run : Run = c.args.self.now in
    let put = subst (PutsLast a m run.last c.args.bytes.now) c.if-not-branch.true c.in_ok-put_last.ensures.put in
    (c.requires.chain.0, looked_chain a m run c.requires.chain.0 (looks_last a m run.last c.args.bytes.now put) c.requires.chain.1)

pub returns-in_err-add_page-clause-full : goal.returns-in_err-add_page-clause-full
returns-in_err-add_page-clause-full g c = λ e rs pages h.
    let a : Space = g.S.Pages.state c.args.space.now in
    let m : Space = g.S.Pages.state c.put_last.new.space in
    let run : Run = c.args.self.now in
    needs_page a m run c.args.bytes.now rs pages (subst (PutsLast a m run.last c.args.bytes.now) c.if-not-branch.true c.in_ok-put_last.ensures.put) h

pub returns-clause-ok : goal.returns-clause-ok
returns-clause-ok g c = λ pages chain.
    let a : Space = g.S.Pages.state c.args.space.now in
    let old : Run = c.args.self.now in
    let new : Run = record { first = c.if-not-branch.self.first; last = c.if-not-branch.self.last; records = c.saturating_add-self.result } in
    let r : List ℕ = c.args.bytes.now in
    elim c.if-not-branch.branch [
      | then-not-branch+in_ok-add_page w ↦
          let m : Space = g.S.Pages.state c.put_last.new.space in
          let b : Space = g.S.Pages.state w.add_page.new.space in
          let put = subst (PutsLast a m old.last r) w.if-not-branch.true c.in_ok-put_last.ensures.put in
          let h = w.in_ok-add_page.ensures.made in
          subst (λ s. Appends a (g.S.Pages.state s) old new pages r) (sym w.space-is)
          (adds_appends a m b old w.add_page.new.run new h.0 r pages put h.1
          (ap (λ (u : Run). u.first) w.self-is) (ap (λ (u : Run). u.last) w.self-is) c.requires.numbers
          (c.saturating_add-self.ensures ∙ ap (λ n. min (n + 1) (2 ^ 64 - 1)) (ap (λ (u : Run). u.records) w.self-is ∙ w.add_page.ensures.records)) chain)
      | else-not-branch w ↦
          let b : Space = g.S.Pages.state c.put_last.new.space in
          subst (λ s. Appends a (g.S.Pages.state s) old new pages r) (sym w.space-is)
          (last_appends a b old new old.last r pages refl
          (subst (PutsLast a b old.last r) w.if-not-branch.false c.in_ok-put_last.ensures.put)
          (ap (λ (u : Run). u.first) w.self-is) (ap (λ (u : Run). u.last) w.self-is) c.requires.numbers
          (c.saturating_add-self.ensures ∙ ap (λ (u : Run). min (u.records + 1) (2 ^ 64 - 1)) w.self-is) chain)
    ]

pub returns-clause-counted : goal.returns-clause-counted
returns-clause-counted g c = elim c.if-not-branch.branch [
  | then-not-branch+in_ok-add_page w ↦
      c.saturating_add-self.ensures ∙ ap (λ n. min (n + 1) (2 ^ 64 - 1)) (ap (λ (u : Run). u.records) w.self-is ∙ w.add_page.ensures.records)
  | else-not-branch w ↦ c.saturating_add-self.ensures ∙ ap (λ (u : Run). min (u.records + 1) (2 ^ 64 - 1)) w.self-is
]
