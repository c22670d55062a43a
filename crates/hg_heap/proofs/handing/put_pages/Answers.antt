use Rattle.std.specs.Prelude.{◌≡◌, ℕ, ◌+◌, ◌-◌, suc, List}
use Rattle.std.proofs.Common.{◌∙◌, sym, ap, subst, arith}
use Rattle.hg_base.specs.Space.{Space}
use Rattle.hg_pool.specs.Shown.{state_of}
use Rattle.hg_pool.specs.declared.parts.Parts.{Parts}
use Rattle.hg_heap.specs.Handing.{Putting, contents}
use Rattle.hg_heap.specs.Resting.{page_behind, pages_from, temp_key}
use Rattle.hg_heap.proofs.Turns.{putting-starts, putting-out, putting-more, putting-ends}
use Rattle.hg_heap.proofs.handing.put_pages.Goals as goal

pub loop-turn-init : goal.loop-turn-init
loop-turn-init g c =
    let a : Parts g.row.M.Denot g.row.T.Denot = c.args.pool.now in
    let pages : List ℕ = pages_from (state_of g.M.PageDevice g.T.PageDevice a).next c.args.first c.args.count in
    let e : c.args.count ≡ suc (c.args.count - 1) = (let s = c.requires.some in omega (arith, s)) in
    subst (λ k. Putting g.M.PageDevice g.T.PageDevice a a pages (contents c.args.chain.frames) c.args.first k c.args.chain) e
    (putting-starts g.M.PageDevice g.T.PageDevice a c.args.first c.args.count c.args.chain c.requires.apart c.requires.out c.requires.region)

pub page_behind-no-requires : goal.page_behind-no-requires
page_behind-no-requires g c =
    let a : Parts g.row.M.Denot g.row.T.Denot = c.args.pool.now in
    let o = putting-out g.M.PageDevice g.T.PageDevice a c.loop-turn.pool _ _ c.loop-turn.no (c.args.count - c.loop-turn._turn) c.loop-turn.chain c.loop-turn.invariant in
    ap (λ (v : Space). v.taken (temp_key c.loop-turn.no)) c.put.ensures.state ∙ o.1.taken

pub loop-turn-preserved : goal.loop-turn-preserved
loop-turn-preserved g c =
    let a : Parts g.row.M.Denot g.row.T.Denot = c.args.pool.now in
    let z : Parts g.row.M.Denot g.row.T.Denot = c.put.new.pool in
    let pages : List ℕ = pages_from (state_of g.M.PageDevice g.T.PageDevice a).next c.args.first c.args.count in
    let e : c.args.count - c.loop-turn._turn ≡ suc (c.args.count - (c.loop-turn._turn + 1)) = (let t = c.loop-turn-test.true in omega (arith, t)) in
    let n : ℕ = page_behind (state_of g.M.PageDevice g.T.PageDevice z).next c.loop-turn.no in
    let r = putting-more g.M.PageDevice g.T.PageDevice a c.loop-turn.pool z pages (contents c.args.chain.frames) c.loop-turn.no (c.args.count - c.loop-turn._turn) c.frame_of.result.0
    c.loop-turn.chain c.split-one.new.self c.split-one.result c.loop-turn.invariant c.frame_of.ensures.value c.split-one.ensures.one c.split-one.ensures.others c.put.ensures in
    subst (λ q. Putting g.M.PageDevice g.T.PageDevice a z pages (contents c.args.chain.frames) q (suc (c.args.count - (c.loop-turn._turn + 1))) c.split-one.new.self) (sym c.page_behind-no.ensures)
    (subst (λ k. Putting g.M.PageDevice g.T.PageDevice a z pages (contents c.args.chain.frames) n k c.split-one.new.self) e r)

pub returns : goal.returns
returns g c =
    let a : Parts g.row.M.Denot g.row.T.Denot = c.args.pool.now in
    let pages : List ℕ = pages_from (state_of g.M.PageDevice g.T.PageDevice a).next c.args.first c.args.count in
    let e : suc (c.args.count - c.loop-turn._turn) ≡ 1 = (let t = c.loop-turn-test.false in omega (arith, t)) in
    putting-ends g.M.PageDevice g.T.PageDevice a c.loop-turn.pool c.put-2.new.pool pages (contents c.args.chain.frames) c.loop-turn.no c.loop-turn.chain
    (subst (λ k. Putting g.M.PageDevice g.T.PageDevice a c.loop-turn.pool pages (contents c.args.chain.frames) c.loop-turn.no k c.loop-turn.chain) e c.loop-turn.invariant) c.put-2.ensures
