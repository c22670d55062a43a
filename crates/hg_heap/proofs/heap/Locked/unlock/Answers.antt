use Rattle.std.specs.Prelude.{◌<◌}
use Rattle.std.specs.List.{AllByRecursion}
use Rattle.std.proofs.Common.{sym, subst}
use Rattle.hg_base.specs.Space.{Space}
use Rattle.hg_raw.specs.Frames.{numbers}
use Rattle.hg_pool.specs.Shown.{state_of}
use Rattle.hg_pool.specs.declared.parts.Parts.{Parts}
use Rattle.hg_heap.specs.Handing.{contents}
use Rattle.hg_heap.specs.Resting.{AreTold, pages_of}
use Rattle.hg_heap.proofs.Outs.{back-told}
use Rattle.hg_heap.proofs.heap.Locked.unlock.Goals as goal

pub returns-clause-content : goal.returns-clause-content
returns-clause-content g c = λ told o stands well.
    let a : Parts g.row.M.Denot g.row.T.Denot = c.args.pool.now in
    let s : Space = state_of g.M.PageDevice g.T.PageDevice a in
    let pages = pages_of s.next c.args.self.heap in
    record {
      frames = numbers c.args.self.chain.frames;
      bytes = contents c.args.self.chain.frames;
      told = subst (λ v. AreTold v pages (contents c.args.self.chain.frames)) (sym c.put_pages.ensures.state)
          (back-told g.M.PageDevice g.T.PageDevice a s pages c.args.self.chain.frames c.requires.locked.each told c.requires.apart);
      stands = stands;
      below = subst (λ n. AllByRecursion (λ f. f < n) (numbers c.args.self.chain.frames)) (sym c.put_pages.ensures.max) c.requires.locked.below;
      well = well;
    }
