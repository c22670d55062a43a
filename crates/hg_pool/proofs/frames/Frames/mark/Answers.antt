use Rattle.std.proofs.Common.{◌≡◌, ◌≤◌, ◌<◌, ◌∙◌, sym, ap, length, arith}
use Rattle.hg_pool.specs.Seen.{no_mark, mark_at}
use Rattle.hg_pool.specs.declared.frames.Mark.{Mark}
use Rattle.hg_pool.proofs.InFrames.{page-is, dirty-is, pinned-is, lent-is}
use Rattle.hg_pool.proofs.Moves.{mark-at-here, mark-not-there}
use Rattle.hg_pool.proofs.frames.Frames.mark.Goals as goal

pub returns-then-at-len-clause-page : goal.returns-then-at-len-clause-page
returns-then-at-len-clause-page c =
    let ms = c.self.inside.marks in
    let v = c.args.self.now in
    let there : c.args.at < length ms.items = (let e = ms.ok.0 in let l = c.if-at-len.true in let k = c.len.ensures in omega (arith, e, l, k)) in
    let is : c.index.result.now ≡ mark_at ms.items c.args.at = mark-at-here ms.items c.args.at c.index.result.now there c.index.ensures in
    ap (λ (m : Mark). m.page) is ∙ sym (page-is c.self.inside v c.self.view_is c.args.at)

pub returns-then-at-len-clause-dirty : goal.returns-then-at-len-clause-dirty
returns-then-at-len-clause-dirty c =
    let ms = c.self.inside.marks in
    let v = c.args.self.now in
    let there : c.args.at < length ms.items = (let e = ms.ok.0 in let l = c.if-at-len.true in let k = c.len.ensures in omega (arith, e, l, k)) in
    let is : c.index.result.now ≡ mark_at ms.items c.args.at = mark-at-here ms.items c.args.at c.index.result.now there c.index.ensures in
    ap (λ (m : Mark). m.dirty) is ∙ sym (dirty-is c.self.inside v c.self.view_is c.args.at)

pub returns-then-at-len-clause-pinned : goal.returns-then-at-len-clause-pinned
returns-then-at-len-clause-pinned c =
    let ms = c.self.inside.marks in
    let v = c.args.self.now in
    let there : c.args.at < length ms.items = (let e = ms.ok.0 in let l = c.if-at-len.true in let k = c.len.ensures in omega (arith, e, l, k)) in
    let is : c.index.result.now ≡ mark_at ms.items c.args.at = mark-at-here ms.items c.args.at c.index.result.now there c.index.ensures in
    ap (λ (m : Mark). m.pinned) is ∙ sym (pinned-is c.self.inside v c.self.view_is c.args.at)

pub returns-then-at-len-clause-lent : goal.returns-then-at-len-clause-lent
returns-then-at-len-clause-lent c =
    let ms = c.self.inside.marks in
    let v = c.args.self.now in
    let there : c.args.at < length ms.items = (let e = ms.ok.0 in let l = c.if-at-len.true in let k = c.len.ensures in omega (arith, e, l, k)) in
    let is : c.index.result.now ≡ mark_at ms.items c.args.at = mark-at-here ms.items c.args.at c.index.result.now there c.index.ensures in
    ap (λ (m : Mark). m.lent) is ∙ sym (lent-is c.self.inside v c.self.view_is c.args.at)

pub returns-else-at-len-clause-page : goal.returns-else-at-len-clause-page
returns-else-at-len-clause-page c =
    let ms = c.self.inside.marks in
    let v = c.args.self.now in
    let behind : length ms.items ≤ c.args.at = (let e = ms.ok.0 in let l = c.if-at-len.false in let k = c.len.ensures in omega (arith, e, l, k)) in
    let is : no_mark ≡ mark_at ms.items c.args.at = mark-not-there ms.items c.args.at behind in
    ap (λ (m : Mark). m.page) is ∙ sym (page-is c.self.inside v c.self.view_is c.args.at)

pub returns-else-at-len-clause-dirty : goal.returns-else-at-len-clause-dirty
returns-else-at-len-clause-dirty c =
    let ms = c.self.inside.marks in
    let v = c.args.self.now in
    let behind : length ms.items ≤ c.args.at = (let e = ms.ok.0 in let l = c.if-at-len.false in let k = c.len.ensures in omega (arith, e, l, k)) in
    let is : no_mark ≡ mark_at ms.items c.args.at = mark-not-there ms.items c.args.at behind in
    ap (λ (m : Mark). m.dirty) is ∙ sym (dirty-is c.self.inside v c.self.view_is c.args.at)

pub returns-else-at-len-clause-pinned : goal.returns-else-at-len-clause-pinned
returns-else-at-len-clause-pinned c =
    let ms = c.self.inside.marks in
    let v = c.args.self.now in
    let behind : length ms.items ≤ c.args.at = (let e = ms.ok.0 in let l = c.if-at-len.false in let k = c.len.ensures in omega (arith, e, l, k)) in
    let is : no_mark ≡ mark_at ms.items c.args.at = mark-not-there ms.items c.args.at behind in
    ap (λ (m : Mark). m.pinned) is ∙ sym (pinned-is c.self.inside v c.self.view_is c.args.at)

pub returns-else-at-len-clause-lent : goal.returns-else-at-len-clause-lent
returns-else-at-len-clause-lent c =
    let ms = c.self.inside.marks in
    let v = c.args.self.now in
    let behind : length ms.items ≤ c.args.at = (let e = ms.ok.0 in let l = c.if-at-len.false in let k = c.len.ensures in omega (arith, e, l, k)) in
    let is : no_mark ≡ mark_at ms.items c.args.at = mark-not-there ms.items c.args.at behind in
    ap (λ (m : Mark). m.lent) is ∙ sym (lent-is c.self.inside v c.self.view_is c.args.at)
