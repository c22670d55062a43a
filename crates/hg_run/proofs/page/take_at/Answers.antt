use Rattle.std.specs.Prelude.{◌≡◌, ℕ, ◌+◌, ◌-◌, ◌++◌, ◌∷◌, [], true, nat_eq, length, take, drop}
use Rattle.std.proofs.lemmas.Bool.Decides.{nat_tests}
use Rattle.hg_run.specs.Format.{spelling}
use Rattle.std.proofs.Common.{sym, ◌∙◌, ap, arith}
use Rattle.hg_run.proofs.Pages.{at_end, before_end, there, length-spelling-one, spelling-none, no_rest}
use Rattle.hg_run.proofs.page.take_at.Goals as goal

pub returns-then-at-end-clause-next : goal.returns-then-at-end-clause-next
returns-then-at-end-clause-next c = λ done todo h.
    at_end c.args.page.now c.args.at done todo h (let a = c.if-at-end.true in let e = c.in_ok-end.ensures.end in omega arith)

pub returns-then-at-end-2-clause-wrong : goal.returns-then-at-end-2-clause-wrong
returns-then-at-end-2-clause-wrong c = (
  c.in_ok-end.ensures.kind,
  λ done todo h.
      before_end c.args.page.now c.args.at done todo h (let a = c.if-at-end-2.true in let e = c.in_ok-end.ensures.end in omega arith),
)

pub returns-clause-next : goal.returns-clause-next
returns-clause-next c = λ done todo h.
    let e = c.in_ok-end.ensures.end in
    let a = c.in_ok-after.ensures.after in
    let more = c.if-at-end.false in
    let inside = c.if-at-end-2.false in
    let t = there c.args.page.now c.args.at done todo h (omega arith) in
    let out = c.try_extend_from_slice.new.self.items in
    let size : c.in_ok-after.after - (c.args.at + 2) ≡ length t.r = (let s = t.size in omega arith) in
    let text : out ≡ t.r =
    c.in-Ok.ensures.ok ∙ ap (λ l. l ++ take (c.in_ok-after.after - (c.args.at + 2)) (drop (c.args.at + 2) c.args.page.now)) c.clear.ensures
    ∙ ap (λ n. take n (drop (c.args.at + 2) c.args.page.now)) size ∙ t.text in
    record {
      rest = t.rest;
      next = t.next ∙ ap (λ l. l ∷ t.rest) (sym text);
      after_is = let l = length-spelling-one done t.r in let k = ap (λ x. length (spelling (done ++ x ∷ []))) text in let p = h.place in let s = t.size in omega arith;
      none_left = λ z. no_rest t.rest (let i = t.inside in let q = same c.in_ok-after.after c.in_ok-end.end z in let s = t.size in omega arith);
      last_is = λ z. equal c.in_ok-after.after c.in_ok-end.end (let i = t.inside in let n = ap length (ap spelling z ∙ spelling-none) in let s = t.size in omega arith);
    }
  where
    same : (m n : ℕ) → nat_eq m n ≡ true → m ≡ n
    same m n z = grind (arith, nat_tests)

    equal : (m n : ℕ) → m ≡ n → nat_eq m n ≡ true
    equal m n z = grind (arith, nat_tests)
