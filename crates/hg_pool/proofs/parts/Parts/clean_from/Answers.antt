use Rattle.std.proofs.Common.{◌≡◌, ℕ, suc, ◌+◌, subst, Err, arith}
use Rattle.hg_pool.specs.declared.parts.Parts.{Parts}
use Rattle.hg_pool.specs.Shown.{disks_of}
use Rattle.hg_pool.specs.Resizing.{Cleaned}
use Rattle.hg_pool.proofs.Passing.{passes-then}
use Rattle.hg_pool.proofs.Resized.{cleaned-more}
use Rattle.hg_pool.proofs.parts.Parts.clean_from.Goals as goal

pub returns-in-Err-clause-passes : goal.returns-in-Err-clause-passes
returns-in-Err-clause-passes g c =
    let a : Parts g.row.M.Denot g.row.T.Denot = c.args.self.now in
    let b : Parts g.row.M.Denot g.row.T.Denot = c.loop-at.self in
    let z : Parts g.row.M.Denot g.row.T.Denot = c.clean.new.self in
    passes-then (disks_of g.M.PageDevice g.T.PageDevice a) (disks_of g.M.PageDevice g.T.PageDevice b) (disks_of g.M.PageDevice g.T.PageDevice z) a.store b.store z.store
    tt (Err c.in-Err.fault) c.loop-at.invariant.passes c.in-Err.ensures.passes

pub loop-at-preserved : goal.loop-at-preserved
loop-at-preserved g c =
    let a : Parts g.row.M.Denot g.row.T.Denot = c.args.self.now in
    let b : Parts g.row.M.Denot g.row.T.Denot = c.loop-at.self in
    let z : Parts g.row.M.Denot g.row.T.Denot = c.clean.new.self in
    let P : ℕ → Type 0 = λ k. Cleaned g.M.PageDevice g.T.PageDevice a z c.args.from k in
    let next : suc c.loop-at.at ≡ c.loop-at.at + 1 = omega arith in
    subst P next (cleaned-more g.M.PageDevice g.T.PageDevice a b z c.args.from c.loop-at.at (let l = c.loop-at.auto.at in omega (arith, l)) c.loop-at.invariant c.in-Ok.ensures.passes
    (record {
      clears = c.in-Ok.ensures.clears;
      clock = c.in-Ok.ensures.clock;
      asked = c.in-Ok.ensures.asked;
      evictions = c.in-Ok.ensures.evictions;
      frames = c.in-Ok.ensures.frames;
      others = c.in-Ok.ensures.others;
    }) c.in-Ok.ensures.clean)
