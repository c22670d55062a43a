use Rattle.std.specs.Prelude.{◌≡◌, ◌≤◌, ℕ, ◌+◌, suc, List, Option, Some}
use Rattle.std.proofs.Common.{◌∙◌, sym, ap, subst, arith}
use Rattle.hg_base.specs.Lines.{AreApart}
use Rattle.hg_base.specs.Space.{Space, IsSame, with_counts}
use Rattle.hg_pool.specs.Shown.{state_of}
use Rattle.hg_pool.specs.declared.parts.Parts.{Parts}
use Rattle.hg_heap.specs.Handing.{Taking, TakesPage, HandsOut, AreOut, out_of, all_back, contents}
use Rattle.hg_heap.specs.Resting.{IsAtRest, pages_from, page_behind, temp_key}
use Rattle.hg_heap.proofs.Outs.{out-kept}
use Rattle.hg_heap.proofs.Walking.{all-walk, apart-front}
use Rattle.hg_heap.proofs.Turns.{first-out, next-rests, next-room, taking-more, back-same, rests-front, cause-moved}
use Rattle.hg_heap.proofs.handing.take_pages.Goals as goal

pub loop-taken-init : goal.loop-taken-init
loop-taken-init g c =
    let a : Parts g.row.M.Denot g.row.T.Denot = c.args.pool.now in
    let s : Space = state_of g.M.PageDevice g.T.PageDevice a in
    first-out g.M.PageDevice g.T.PageDevice a c.take.new.pool c.args.first c.in_ok-chain.chain
    (all-walk (IsAtRest s) s.next c.args.first c.args.count 0 c.requires.rests.each c.requires.some) c.in_ok-chain.ensures.ok

pub page_behind-no-requires : goal.page_behind-no-requires
page_behind-no-requires g c = ap (λ (v : Space). v.taken (temp_key c.loop-taken.no)) c.loop-taken.invariant.hands.state ∙ c.loop-taken.invariant.taken

pub take-requires-in-loop-taken-clause-rest : goal.take-requires-in-loop-taken-clause-rest
take-requires-in-loop-taken-clause-rest g c =
    let b : Parts g.row.M.Denot g.row.T.Denot = c.loop-taken.pool in
    subst (IsAtRest (state_of g.M.PageDevice g.T.PageDevice b)) (sym c.page_behind-no.ensures)
    (next-rests g.M.PageDevice g.T.PageDevice c.args.pool.now b c.args.first c.loop-taken.no c.loop-taken.taken c.args.count c.loop-taken.chain c.loop-taken.invariant c.requires.rests c.loop-taken-test.true)

pub take-requires-in-loop-taken-clause-few : goal.take-requires-in-loop-taken-clause-few
take-requires-in-loop-taken-clause-few g c =
    next-room g.M.PageDevice g.T.PageDevice c.args.pool.now c.loop-taken.pool c.args.first c.loop-taken.no c.loop-taken.taken c.args.count c.loop-taken.chain c.loop-taken.invariant c.requires.room c.loop-taken-test.true

pub put_pages-requires-clause-apart : goal.put_pages-requires-clause-apart
put_pages-requires-clause-apart g c =
    let next : ℕ → Option ℕ = (state_of g.M.PageDevice g.T.PageDevice c.args.pool.now).next in
    let e = ap (λ (v : Space). v.next) c.in-Err.ensures.err.after ∙ ap (λ (v : Space). v.next) c.loop-taken.invariant.hands.state in
    subst (λ n. AreApart (pages_from n c.args.first c.loop-taken.taken)) (sym e)
    (apart-front next c.args.first c.args.count c.loop-taken.taken c.requires.rests.apart (let t = c.loop-taken-test.true in omega (arith, t)))

pub put_pages-requires-clause-out : goal.put_pages-requires-clause-out
put_pages-requires-clause-out g c =
    let b : Parts g.row.M.Denot g.row.T.Denot = c.loop-taken.pool in
    let y : Parts g.row.M.Denot g.row.T.Denot = c.take-in-loop-taken.new.pool in
    let next : ℕ → Option ℕ = (state_of g.M.PageDevice g.T.PageDevice c.args.pool.now).next in
    let e = ap (λ (v : Space). v.next) c.in-Err.ensures.err.after ∙ ap (λ (v : Space). v.next) c.loop-taken.invariant.hands.state in
    subst (λ n. AreOut g.M.PageDevice g.T.PageDevice y (pages_from n c.args.first c.loop-taken.taken) c.loop-taken.chain.frames) (sym e)
    (out-kept g.M.PageDevice g.T.PageDevice b y (pages_from next c.args.first c.loop-taken.taken) c.loop-taken.chain.frames c.loop-taken.invariant.hands.each
    (λ q h. ap (λ (v : Space). v.taken q) c.in-Err.ensures.err.after ∙ h) (λ q h. ap (λ (v : Space). v.of_heap q) c.in-Err.ensures.err.after ∙ h) c.in-Err.ensures.keeps)

restored : goal.returns-in-Err-clause-err
restored g c =
    let a : Parts g.row.M.Denot g.row.T.Denot = c.args.pool.now in
    let y : Parts g.row.M.Denot g.row.T.Denot = c.take-in-loop-taken.new.pool in
    let z : Parts g.row.M.Denot g.row.T.Denot = c.put_pages.new.pool in
    let s : Space = state_of g.M.PageDevice g.T.PageDevice a in
    let pages : List ℕ = pages_from s.next c.args.first c.loop-taken.taken in
    let e = ap (λ (v : Space). v.next) c.in-Err.ensures.err.after ∙ ap (λ (v : Space). v.next) c.loop-taken.invariant.hands.state in
    let k : IsSame (out_of s pages) (state_of g.M.PageDevice g.T.PageDevice y) = record {
      counts = c.in-Err.ensures.err.counts;
      after = c.in-Err.ensures.err.after ∙ ap (λ v. with_counts v c.in-Err.ensures.err.counts) c.loop-taken.invariant.hands.state;
    } in
    let l : c.loop-taken.taken ≤ c.args.count = (let t = c.loop-taken-test.true in omega (arith, t)) in
    record {
      counts = (state_of g.M.PageDevice g.T.PageDevice y).counts;
      after = back-same g.M.PageDevice g.T.PageDevice a y z pages (contents c.loop-taken.chain.frames) (rests-front s s.next c.args.first c.args.count c.loop-taken.taken c.requires.rests l)
          c.loop-taken.invariant.hands.had k
          (c.put_pages.ensures.state ∙ ap (λ n. all_back (state_of g.M.PageDevice g.T.PageDevice y) (pages_from n c.args.first c.loop-taken.taken) (contents c.loop-taken.chain.frames)) e);
    }

pub returns-in-Err-clause-err : goal.returns-in-Err-clause-err
returns-in-Err-clause-err g c = restored g c

pub returns-in-Err-clause-cause : goal.returns-in-Err-clause-cause
unfolding restored
returns-in-Err-clause-cause g c =
    let state = state_of g.M.PageDevice g.T.PageDevice in
    cause-moved (state c.args.pool.now) (state c.loop-taken.pool) (state c.take-in-loop-taken.new.pool) (state c.put_pages.new.pool) (Some c.in-Err.fault) c.in-Err.ensures.cause
    (ap (λ (v : Space). v.counts) c.loop-taken.invariant.hands.state) (ap (λ (v : Space). v.told) c.loop-taken.invariant.hands.state) (ap (λ (v : Space). v.counts) (restored g c).after)

pub loop-taken-preserved : goal.loop-taken-preserved
loop-taken-preserved g c =
    let a : Parts g.row.M.Denot g.row.T.Denot = c.args.pool.now in
    let b : Parts g.row.M.Denot g.row.T.Denot = c.loop-taken.pool in
    let z : Parts g.row.M.Denot g.row.T.Denot = c.take-in-loop-taken.new.pool in
    let n : ℕ = page_behind (state_of g.M.PageDevice g.T.PageDevice b).next c.loop-taken.no in
    let e : c.page_behind-no.result ≡ n = c.page_behind-no.ensures in
    let k : TakesPage g.M.PageDevice g.T.PageDevice b z n c.in-Ok.one = subst (λ q. TakesPage g.M.PageDevice g.T.PageDevice b z q c.in-Ok.one) e c.in-Ok.ensures.ok in
    let r = taking-more g.M.PageDevice g.T.PageDevice a b z c.args.first c.loop-taken.no c.loop-taken.taken c.args.count c.loop-taken.chain c.join.new.self c.in-Ok.one
    c.loop-taken.invariant c.requires.rests c.loop-taken-test.true k c.join.ensures.frames c.join.ensures.distinct in
    let up : suc c.loop-taken.taken ≡ c.loop-taken.taken + 1 = omega arith in
    subst (λ q. Taking g.M.PageDevice g.T.PageDevice a z c.args.first q (c.loop-taken.taken + 1) c.join.new.self) (sym e)
    (subst (λ q. Taking g.M.PageDevice g.T.PageDevice a z c.args.first n q c.join.new.self) up r)

pub returns-clause-ok : goal.returns-clause-ok
returns-clause-ok g c =
    let a : Parts g.row.M.Denot g.row.T.Denot = c.args.pool.now in
    let e : c.loop-taken.taken ≡ c.args.count = (let t = c.loop-taken-test.false in let l = c.loop-taken.auto.taken in let s = c.requires.some in omega (arith, t, l, s)) in
    subst (λ q. HandsOut g.M.PageDevice g.T.PageDevice a c.loop-taken.pool (pages_from (state_of g.M.PageDevice g.T.PageDevice a).next c.args.first q) c.loop-taken.chain) e c.loop-taken.invariant.hands
