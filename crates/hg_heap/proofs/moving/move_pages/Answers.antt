use Rattle.std.specs.Prelude.{◌≡◌, ℕ, ◌+◌, ◌-◌, suc, List, Option, length}
use Rattle.std.proofs.Common.{◌∙◌, sym, ap, subst, arith}
use Rattle.hg_raw.specs.Frames.{ChainSeen, bytes_of, with_bytes, refit}
use Rattle.hg_reloc.specs.Blocks.{IsMade}
use Rattle.hg_reloc.specs.StandingLaws.{IsRewritten, IsRelocated}
use Rattle.hg_pool.specs.Shown.{state_of}
use Rattle.hg_pool.specs.declared.parts.Parts.{Parts}
use Rattle.hg_heap.specs.Relocating.{Moving}
use Rattle.hg_heap.proofs.Frames.{refit-same}
use Rattle.hg_heap.proofs.Looking.{moving-starts, moving-out, moving-has, moving-bytes, moving-more, moving-ends}
use Rattle.hg_heap.proofs.moving.move_pages.Goals as goal

pub loop-turn-init : goal.loop-turn-init
loop-turn-init g c =
    let p : Parts g.row.M.Denot g.row.T.Denot = c.args.pool.now in
    let next : ℕ → Option ℕ = (state_of g.M.PageDevice g.T.PageDevice p).next in
    let e : c.args.count ≡ c.args.count - 0 = omega arith in
    subst (λ n. Moving g.M.PageDevice g.T.PageDevice p c.args.chain.now c.args.chain.now c.args.map.now c.args.first n) e
    (moving-starts g.M.PageDevice g.T.PageDevice p c.args.first c.args.count c.args.chain.now c.args.map.now c.requires.out c.requires.mapped)

pub frame_of-now_in-requires : goal.frame_of-now_in-requires
frame_of-now_in-requires g c =
    let p : Parts g.row.M.Denot g.row.T.Denot = c.args.pool.now in
    let next : ℕ → Option ℕ = (state_of g.M.PageDevice g.T.PageDevice p).next in
    let k : ℕ = c.args.count - (c.loop-turn._turn + 1) in
    let e : c.args.count - c.loop-turn._turn ≡ suc k = (let t = c.loop-turn-test.true in omega (arith, t)) in
    let r = subst (λ n. Moving g.M.PageDevice g.T.PageDevice p c.args.chain.now c.loop-turn.chain c.args.map.now c.loop-turn.no n) e c.loop-turn.invariant in
    (moving-out g.M.PageDevice g.T.PageDevice p c.args.chain.now c.loop-turn.chain c.args.map.now c.loop-turn.no k r).1.inside

pub page_mut-requires : goal.page_mut-requires
page_mut-requires g c =
    let p : Parts g.row.M.Denot g.row.T.Denot = c.args.pool.now in
    let next : ℕ → Option ℕ = (state_of g.M.PageDevice g.T.PageDevice p).next in
    let k : ℕ = c.args.count - (c.loop-turn._turn + 1) in
    let e : c.args.count - c.loop-turn._turn ≡ suc k = (let t = c.loop-turn-test.true in omega (arith, t)) in
    let r = subst (λ n. Moving g.M.PageDevice g.T.PageDevice p c.args.chain.now c.loop-turn.chain c.args.map.now c.loop-turn.no n) e c.loop-turn.invariant in
    moving-has g.M.PageDevice g.T.PageDevice p c.args.chain.now c.loop-turn.chain c.args.map.now c.loop-turn.no k c.frame_of-now_in.result.0 r c.frame_of-now_in.ensures.value

pub move_page-requires : goal.move_page-requires
move_page-requires g c =
    let p : Parts g.row.M.Denot g.row.T.Denot = c.args.pool.now in
    let next : ℕ → Option ℕ = (state_of g.M.PageDevice g.T.PageDevice p).next in
    let k : ℕ = c.args.count - (c.loop-turn._turn + 1) in
    let e : c.args.count - c.loop-turn._turn ≡ suc k = (let t = c.loop-turn-test.true in omega (arith, t)) in
    let r = subst (λ n. Moving g.M.PageDevice g.T.PageDevice p c.args.chain.now c.loop-turn.chain c.args.map.now c.loop-turn.no n) e c.loop-turn.invariant in
    subst IsMade (sym c.page_mut.ensures.bytes)
    (moving-bytes g.M.PageDevice g.T.PageDevice p c.args.chain.now c.loop-turn.chain c.args.map.now c.loop-turn.no k c.frame_of-now_in.result.0 r c.requires.apart c.frame_of-now_in.ensures.value)

pub page_behind-no-requires : goal.page_behind-no-requires
page_behind-no-requires g c =
    let p : Parts g.row.M.Denot g.row.T.Denot = c.args.pool.now in
    let next : ℕ → Option ℕ = (state_of g.M.PageDevice g.T.PageDevice p).next in
    let k : ℕ = c.args.count - (c.loop-turn._turn + 1) in
    let e : c.args.count - c.loop-turn._turn ≡ suc k = (let t = c.loop-turn-test.true in omega (arith, t)) in
    let r = subst (λ n. Moving g.M.PageDevice g.T.PageDevice p c.args.chain.now c.loop-turn.chain c.args.map.now c.loop-turn.no n) e c.loop-turn.invariant in
    (moving-out g.M.PageDevice g.T.PageDevice p c.args.chain.now c.loop-turn.chain c.args.map.now c.loop-turn.no k r).1.taken

pub loop-turn-preserved : goal.loop-turn-preserved
loop-turn-preserved g c =
    let p : Parts g.row.M.Denot g.row.T.Denot = c.args.pool.now in
    let next : ℕ → Option ℕ = (state_of g.M.PageDevice g.T.PageDevice p).next in
    let k : ℕ = c.args.count - (c.loop-turn._turn + 1) in
    let e : c.args.count - c.loop-turn._turn ≡ suc k = (let t = c.loop-turn-test.true in omega (arith, t)) in
    let r = subst (λ n. Moving g.M.PageDevice g.T.PageDevice p c.args.chain.now c.loop-turn.chain c.args.map.now c.loop-turn.no n) e c.loop-turn.invariant in
    let ch : ChainSeen = c.loop-turn.chain in
    let fr : ℕ = c.frame_of-now_in.result.0 in
    let old : List ℕ = bytes_of ch.frames fr in
    let w : List ℕ = c.move_page.new.page in
    let after : ChainSeen = record ch { frames = with_bytes ch.frames fr (refit old w) } in
    let long : length w ≡ length old = c.move_page.auto.page ∙ ap length c.page_mut.ensures.bytes in
    let l : after ≡ record ch { frames = with_bytes ch.frames fr w } = ap (λ (q : List ℕ). record ch { frames = with_bytes ch.frames fr q }) (refit-same old w long) in
    let q = moving-more g.M.PageDevice g.T.PageDevice p c.args.chain.now ch after c.args.map.now c.loop-turn.no k fr w r c.requires.apart c.frame_of-now_in.ensures.value l
    (subst (λ b. IsRewritten c.args.map.now fr b w) c.page_mut.ensures.bytes c.move_page.ensures.stands)
    (subst (λ b. IsRelocated c.args.map.now fr b w) c.page_mut.ensures.bytes c.move_page.ensures.addresses) in
    subst (λ n. Moving g.M.PageDevice g.T.PageDevice p c.args.chain.now after c.args.map.now n k) (sym c.page_behind-no.ensures) q

pub returns-clause-region : goal.returns-clause-region
returns-clause-region g c =
    let p : Parts g.row.M.Denot g.row.T.Denot = c.args.pool.now in
    let next : ℕ → Option ℕ = (state_of g.M.PageDevice g.T.PageDevice p).next in
    let e : c.args.count - c.loop-turn._turn ≡ 0 = (let t = c.loop-turn-test.false in omega (arith, t)) in
    let r = subst (λ n. Moving g.M.PageDevice g.T.PageDevice p c.args.chain.now c.loop-turn.chain c.args.map.now c.loop-turn.no n) e c.loop-turn.invariant in
    (moving-ends g.M.PageDevice g.T.PageDevice p c.args.chain.now c.loop-turn.chain c.args.map.now c.loop-turn.no r).region

pub returns-clause-same : goal.returns-clause-same
returns-clause-same g c =
    let p : Parts g.row.M.Denot g.row.T.Denot = c.args.pool.now in
    let next : ℕ → Option ℕ = (state_of g.M.PageDevice g.T.PageDevice p).next in
    let e : c.args.count - c.loop-turn._turn ≡ 0 = (let t = c.loop-turn-test.false in omega (arith, t)) in
    let r = subst (λ n. Moving g.M.PageDevice g.T.PageDevice p c.args.chain.now c.loop-turn.chain c.args.map.now c.loop-turn.no n) e c.loop-turn.invariant in
    (moving-ends g.M.PageDevice g.T.PageDevice p c.args.chain.now c.loop-turn.chain c.args.map.now c.loop-turn.no r).same

pub returns-clause-rewritten : goal.returns-clause-rewritten
returns-clause-rewritten g c =
    let p : Parts g.row.M.Denot g.row.T.Denot = c.args.pool.now in
    let next : ℕ → Option ℕ = (state_of g.M.PageDevice g.T.PageDevice p).next in
    let e : c.args.count - c.loop-turn._turn ≡ 0 = (let t = c.loop-turn-test.false in omega (arith, t)) in
    let r = subst (λ n. Moving g.M.PageDevice g.T.PageDevice p c.args.chain.now c.loop-turn.chain c.args.map.now c.loop-turn.no n) e c.loop-turn.invariant in
    (moving-ends g.M.PageDevice g.T.PageDevice p c.args.chain.now c.loop-turn.chain c.args.map.now c.loop-turn.no r).rewritten

pub returns-clause-relocated : goal.returns-clause-relocated
returns-clause-relocated g c =
    let p : Parts g.row.M.Denot g.row.T.Denot = c.args.pool.now in
    let next : ℕ → Option ℕ = (state_of g.M.PageDevice g.T.PageDevice p).next in
    let e : c.args.count - c.loop-turn._turn ≡ 0 = (let t = c.loop-turn-test.false in omega (arith, t)) in
    let r = subst (λ n. Moving g.M.PageDevice g.T.PageDevice p c.args.chain.now c.loop-turn.chain c.args.map.now c.loop-turn.no n) e c.loop-turn.invariant in
    (moving-ends g.M.PageDevice g.T.PageDevice p c.args.chain.now c.loop-turn.chain c.args.map.now c.loop-turn.no r).relocated
