use Rattle.std.specs.Prelude.{◌≡◌, ◌<◌, ◌||◌, ℕ, ◌+◌, ◌-◌, suc, false, List, Option}
use Rattle.std.proofs.Common.{◌∙◌, sym, subst, arith}
use Rattle.hg_pool.specs.Shown.{state_of}
use Rattle.hg_pool.specs.declared.parts.Parts.{Parts}
use Rattle.hg_heap.specs.Resting.{pages_from}
use Rattle.hg_heap.specs.Relocating.{Reading}
use Rattle.hg_heap.proofs.Looking.{reading-starts, reading-out, reading-has, reading-new, reading-more, reading-ends, reading-damage, reading-wrong}
use Rattle.hg_heap.proofs.moving.read_moves.Goals as goal

pub loop-turn-init : goal.loop-turn-init
loop-turn-init g c =
    let p : Parts g.row.M.Denot g.row.T.Denot = c.args.pool.now in
    let next : ℕ → Option ℕ = (state_of g.M.PageDevice g.T.PageDevice p).next in
    let pages : List ℕ = pages_from next c.args.first c.args.count in
    let e : c.args.count ≡ c.args.count - 0 = omega arith in
    subst (λ n. Reading g.M.PageDevice g.T.PageDevice p pages c.args.chain.now c.clear.new.self c.args.map.now.max c.args.first n false) e
    (reading-starts g.M.PageDevice g.T.PageDevice p c.args.first c.args.count c.args.chain.now c.clear.new.self c.args.map.now.max c.requires.out c.clear.ensures)

pub frame_of-now_in-requires : goal.frame_of-now_in-requires
frame_of-now_in-requires g c =
    let p : Parts g.row.M.Denot g.row.T.Denot = c.args.pool.now in
    let next : ℕ → Option ℕ = (state_of g.M.PageDevice g.T.PageDevice p).next in
    let pages : List ℕ = pages_from next c.args.first c.args.count in
    let k : ℕ = c.args.count - (c.loop-turn._turn + 1) in
    let e : c.args.count - c.loop-turn._turn ≡ suc k = (let t = c.loop-turn-test.true in omega (arith, t)) in
    let r = subst (λ n. Reading g.M.PageDevice g.T.PageDevice p pages c.args.chain.now c.loop-turn.map c.args.map.now.max c.loop-turn.no n c.loop-turn.moved) e c.loop-turn.invariant in
    (reading-out g.M.PageDevice g.T.PageDevice p pages c.args.chain.now c.loop-turn.map c.args.map.now.max c.loop-turn.no k c.loop-turn.moved r).1.inside

pub page-requires : goal.page-requires
page-requires g c =
    let p : Parts g.row.M.Denot g.row.T.Denot = c.args.pool.now in
    let next : ℕ → Option ℕ = (state_of g.M.PageDevice g.T.PageDevice p).next in
    let pages : List ℕ = pages_from next c.args.first c.args.count in
    let k : ℕ = c.args.count - (c.loop-turn._turn + 1) in
    let e : c.args.count - c.loop-turn._turn ≡ suc k = (let t = c.loop-turn-test.true in omega (arith, t)) in
    let r = subst (λ n. Reading g.M.PageDevice g.T.PageDevice p pages c.args.chain.now c.loop-turn.map c.args.map.now.max c.loop-turn.no n c.loop-turn.moved) e c.loop-turn.invariant in
    reading-has g.M.PageDevice g.T.PageDevice p pages c.args.chain.now c.loop-turn.map c.args.map.now.max c.loop-turn.no k c.frame_of-now_in.result.0 c.loop-turn.moved r c.frame_of-now_in.ensures.value

pub read_page-requires-clause-below : goal.read_page-requires-clause-below
read_page-requires-clause-below g c =
    let p : Parts g.row.M.Denot g.row.T.Denot = c.args.pool.now in
    let next : ℕ → Option ℕ = (state_of g.M.PageDevice g.T.PageDevice p).next in
    let pages : List ℕ = pages_from next c.args.first c.args.count in
    let k : ℕ = c.args.count - (c.loop-turn._turn + 1) in
    let e : c.args.count - c.loop-turn._turn ≡ suc k = (let t = c.loop-turn-test.true in omega (arith, t)) in
    let r = subst (λ n. Reading g.M.PageDevice g.T.PageDevice p pages c.args.chain.now c.loop-turn.map c.args.map.now.max c.loop-turn.no n c.loop-turn.moved) e c.loop-turn.invariant in
    subst (λ n. c.frame_of-now_in.result.0 < n) (sym (r.max ∙ c.requires.max)) c.frame_of-now_in.ensures.below

pub read_page-requires-clause-none_leads : goal.read_page-requires-clause-none_leads
read_page-requires-clause-none_leads g c =
    let p : Parts g.row.M.Denot g.row.T.Denot = c.args.pool.now in
    let next : ℕ → Option ℕ = (state_of g.M.PageDevice g.T.PageDevice p).next in
    let pages : List ℕ = pages_from next c.args.first c.args.count in
    let k : ℕ = c.args.count - (c.loop-turn._turn + 1) in
    let e : c.args.count - c.loop-turn._turn ≡ suc k = (let t = c.loop-turn-test.true in omega (arith, t)) in
    let r = subst (λ n. Reading g.M.PageDevice g.T.PageDevice p pages c.args.chain.now c.loop-turn.map c.args.map.now.max c.loop-turn.no n c.loop-turn.moved) e c.loop-turn.invariant in
    reading-new g.M.PageDevice g.T.PageDevice p pages c.args.chain.now c.loop-turn.map c.args.map.now.max c.loop-turn.no k c.frame_of-now_in.result.0 c.loop-turn.moved r c.requires.apart c.frame_of-now_in.ensures.value

pub page_behind-no-requires : goal.page_behind-no-requires
page_behind-no-requires g c =
    let p : Parts g.row.M.Denot g.row.T.Denot = c.args.pool.now in
    let next : ℕ → Option ℕ = (state_of g.M.PageDevice g.T.PageDevice p).next in
    let pages : List ℕ = pages_from next c.args.first c.args.count in
    let k : ℕ = c.args.count - (c.loop-turn._turn + 1) in
    let e : c.args.count - c.loop-turn._turn ≡ suc k = (let t = c.loop-turn-test.true in omega (arith, t)) in
    let r = subst (λ n. Reading g.M.PageDevice g.T.PageDevice p pages c.args.chain.now c.loop-turn.map c.args.map.now.max c.loop-turn.no n c.loop-turn.moved) e c.loop-turn.invariant in
    (reading-out g.M.PageDevice g.T.PageDevice p pages c.args.chain.now c.loop-turn.map c.args.map.now.max c.loop-turn.no k c.loop-turn.moved r).1.taken

pub loop-turn-preserved : goal.loop-turn-preserved
loop-turn-preserved g c =
    let p : Parts g.row.M.Denot g.row.T.Denot = c.args.pool.now in
    let next : ℕ → Option ℕ = (state_of g.M.PageDevice g.T.PageDevice p).next in
    let pages : List ℕ = pages_from next c.args.first c.args.count in
    let k : ℕ = c.args.count - (c.loop-turn._turn + 1) in
    let e : c.args.count - c.loop-turn._turn ≡ suc k = (let t = c.loop-turn-test.true in omega (arith, t)) in
    let r = subst (λ n. Reading g.M.PageDevice g.T.PageDevice p pages c.args.chain.now c.loop-turn.map c.args.map.now.max c.loop-turn.no n c.loop-turn.moved) e c.loop-turn.invariant in
    let q = reading-more g.M.PageDevice g.T.PageDevice p pages c.args.chain.now c.loop-turn.map c.read_page.new.map c.args.map.now.max c.loop-turn.no k c.frame_of-now_in.result.0
    c.loop-turn.moved c.in-Ok.has_moved c.page.result.now r c.requires.apart c.frame_of-now_in.ensures.value c.frame_of-now_in.ensures.below c.frame_of-now_in.ensures.most
    c.page.ensures.bytes c.in-Ok.ensures.ok c.in-Ok.ensures.moved in
    subst (λ n. Reading g.M.PageDevice g.T.PageDevice p pages c.args.chain.now c.read_page.new.map c.args.map.now.max n k (c.loop-turn.moved || c.in-Ok.has_moved)) (sym c.page_behind-no.ensures) q

pub returns-in-Err-clause-max : goal.returns-in-Err-clause-max
returns-in-Err-clause-max g c = c.in-Err.ensures.max ∙ c.loop-turn.invariant.max

pub returns-in-Err-clause-err : goal.returns-in-Err-clause-err
returns-in-Err-clause-err g c =
    let p : Parts g.row.M.Denot g.row.T.Denot = c.args.pool.now in
    let next : ℕ → Option ℕ = (state_of g.M.PageDevice g.T.PageDevice p).next in
    let pages : List ℕ = pages_from next c.args.first c.args.count in
    let k : ℕ = c.args.count - (c.loop-turn._turn + 1) in
    let e : c.args.count - c.loop-turn._turn ≡ suc k = (let t = c.loop-turn-test.true in omega (arith, t)) in
    let r = subst (λ n. Reading g.M.PageDevice g.T.PageDevice p pages c.args.chain.now c.loop-turn.map c.args.map.now.max c.loop-turn.no n c.loop-turn.moved) e c.loop-turn.invariant in
    reading-damage g.M.PageDevice g.T.PageDevice p pages c.args.chain.now c.loop-turn.map c.args.map.now.max c.loop-turn.no k c.frame_of-now_in.result.0 c.loop-turn.moved c.page.result.now c.in-Err.fault r c.in-Err.ensures.err

pub returns-in-Err-clause-wrong : goal.returns-in-Err-clause-wrong
returns-in-Err-clause-wrong g c =
    let p : Parts g.row.M.Denot g.row.T.Denot = c.args.pool.now in
    let next : ℕ → Option ℕ = (state_of g.M.PageDevice g.T.PageDevice p).next in
    let pages : List ℕ = pages_from next c.args.first c.args.count in
    let k : ℕ = c.args.count - (c.loop-turn._turn + 1) in
    let e : c.args.count - c.loop-turn._turn ≡ suc k = (let t = c.loop-turn-test.true in omega (arith, t)) in
    let r = subst (λ n. Reading g.M.PageDevice g.T.PageDevice p pages c.args.chain.now c.loop-turn.map c.args.map.now.max c.loop-turn.no n c.loop-turn.moved) e c.loop-turn.invariant in
    let few = subst (λ n. n < 65537) (sym c.requires.max) (let q = c.frame_of-now_in.ensures.most in omega (arith, q)) in
    reading-wrong g.M.PageDevice g.T.PageDevice p pages c.args.chain.now c.loop-turn.map c.args.map.now.max c.loop-turn.no k c.frame_of-now_in.result.0 c.loop-turn.moved c.page.result.now c.in-Err.fault r
    c.requires.apart c.frame_of-now_in.ensures.value (omega (arith, few)) c.page.ensures.bytes c.in-Err.ensures.err

pub returns-clause-max : goal.returns-clause-max
returns-clause-max g c =
    let p : Parts g.row.M.Denot g.row.T.Denot = c.args.pool.now in
    let next : ℕ → Option ℕ = (state_of g.M.PageDevice g.T.PageDevice p).next in
    let pages : List ℕ = pages_from next c.args.first c.args.count in
    let e : c.args.count - c.loop-turn._turn ≡ 0 = (let t = c.loop-turn-test.false in omega (arith, t)) in
    let r = subst (λ n. Reading g.M.PageDevice g.T.PageDevice p pages c.args.chain.now c.loop-turn.map c.args.map.now.max c.loop-turn.no n c.loop-turn.moved) e c.loop-turn.invariant in
    (reading-ends g.M.PageDevice g.T.PageDevice p pages c.args.chain.now c.loop-turn.map c.args.map.now.max c.loop-turn.no c.loop-turn.moved r).max

pub returns-clause-mapped : goal.returns-clause-mapped
returns-clause-mapped g c =
    let p : Parts g.row.M.Denot g.row.T.Denot = c.args.pool.now in
    let next : ℕ → Option ℕ = (state_of g.M.PageDevice g.T.PageDevice p).next in
    let pages : List ℕ = pages_from next c.args.first c.args.count in
    let e : c.args.count - c.loop-turn._turn ≡ 0 = (let t = c.loop-turn-test.false in omega (arith, t)) in
    let r = subst (λ n. Reading g.M.PageDevice g.T.PageDevice p pages c.args.chain.now c.loop-turn.map c.args.map.now.max c.loop-turn.no n c.loop-turn.moved) e c.loop-turn.invariant in
    (reading-ends g.M.PageDevice g.T.PageDevice p pages c.args.chain.now c.loop-turn.map c.args.map.now.max c.loop-turn.no c.loop-turn.moved r).mapped

pub returns-clause-moved : goal.returns-clause-moved
returns-clause-moved g c =
    let p : Parts g.row.M.Denot g.row.T.Denot = c.args.pool.now in
    let next : ℕ → Option ℕ = (state_of g.M.PageDevice g.T.PageDevice p).next in
    let pages : List ℕ = pages_from next c.args.first c.args.count in
    let e : c.args.count - c.loop-turn._turn ≡ 0 = (let t = c.loop-turn-test.false in omega (arith, t)) in
    let r = subst (λ n. Reading g.M.PageDevice g.T.PageDevice p pages c.args.chain.now c.loop-turn.map c.args.map.now.max c.loop-turn.no n c.loop-turn.moved) e c.loop-turn.invariant in
    (reading-ends g.M.PageDevice g.T.PageDevice p pages c.args.chain.now c.loop-turn.map c.args.map.now.max c.loop-turn.no c.loop-turn.moved r).moved

pub returns-clause-below : goal.returns-clause-below
returns-clause-below g c =
    let p : Parts g.row.M.Denot g.row.T.Denot = c.args.pool.now in
    let next : ℕ → Option ℕ = (state_of g.M.PageDevice g.T.PageDevice p).next in
    let pages : List ℕ = pages_from next c.args.first c.args.count in
    let e : c.args.count - c.loop-turn._turn ≡ 0 = (let t = c.loop-turn-test.false in omega (arith, t)) in
    let r = subst (λ n. Reading g.M.PageDevice g.T.PageDevice p pages c.args.chain.now c.loop-turn.map c.args.map.now.max c.loop-turn.no n c.loop-turn.moved) e c.loop-turn.invariant in
    (reading-ends g.M.PageDevice g.T.PageDevice p pages c.args.chain.now c.loop-turn.map c.args.map.now.max c.loop-turn.no c.loop-turn.moved r).below

pub returns-clause-small : goal.returns-clause-small
returns-clause-small g c =
    let p : Parts g.row.M.Denot g.row.T.Denot = c.args.pool.now in
    let next : ℕ → Option ℕ = (state_of g.M.PageDevice g.T.PageDevice p).next in
    let pages : List ℕ = pages_from next c.args.first c.args.count in
    let e : c.args.count - c.loop-turn._turn ≡ 0 = (let t = c.loop-turn-test.false in omega (arith, t)) in
    let r = subst (λ n. Reading g.M.PageDevice g.T.PageDevice p pages c.args.chain.now c.loop-turn.map c.args.map.now.max c.loop-turn.no n c.loop-turn.moved) e c.loop-turn.invariant in
    (reading-ends g.M.PageDevice g.T.PageDevice p pages c.args.chain.now c.loop-turn.map c.args.map.now.max c.loop-turn.no c.loop-turn.moved r).small
