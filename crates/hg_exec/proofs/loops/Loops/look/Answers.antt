use Rattle.std.specs.Prelude.{◌≡◌, ℕ, List, [], IfOk, MatchOption}
use Rattle.std.proofs.Common.{sym, subst}
use Rattle.hg_model.specs.declared.values.Value.{Value}
use Rattle.hg_table.specs.Marks.{committed}
use Rattle.hg_exec.specs.Standing.{entry, LoopHasLeft}
use Rattle.hg_exec.specs.Turning.{Finds}
use Rattle.hg_exec.proofs.Taking.{read-joined, read-apart}
use Rattle.hg_exec.proofs.loops.Loops.look.Goals as goal

pub returns-then-whole-clause-finds : goal.returns-then-whole-clause-finds
returns-then-whole-clause-finds g c =
    let a = g.S.Pages.state c.args.space.now in
    let b = g.S.Pages.state c.look_joined.new.space in
    let marks = committed c.args.stamps.now in
    let n = c.args.self.now.snapshot.0 in
    let tables = c.args.catalog.now.tables in
    let t = c.args.table in
    subst (λ (row : List Value). IfOk c.look_joined.result (λ found. (pages : ℕ → List ℕ) (left : List (List Value)) → LoopHasLeft a marks n tables pages t c.args.from.at c.args.from.budget left
    → MatchOption found (left ≡ []) (Finds b marks n (entry tables t).pages (entry tables t).columns (pages t) left row)))
    (sym (read-joined c.args.whole c.look_joined.new.self.joined c.look_joined.new.self.read c.if-whole.true)) c.look_joined.ensures.finds

pub returns-else-whole-clause-finds : goal.returns-else-whole-clause-finds
returns-else-whole-clause-finds g c =
    let a = g.S.Pages.state c.args.space.now in
    let b = g.S.Pages.state c.look_apart.new.space in
    let marks = committed c.args.stamps.now in
    let n = c.args.self.now.snapshot.0 in
    let tables = c.args.catalog.now.tables in
    let t = c.args.table in
    subst (λ (row : List Value). IfOk c.look_apart.result (λ found. (pages : ℕ → List ℕ) (left : List (List Value)) → LoopHasLeft a marks n tables pages t c.args.from.at c.args.from.budget left
    → MatchOption found (left ≡ []) (Finds b marks n (entry tables t).pages (entry tables t).columns (pages t) left row)))
    (sym (read-apart c.args.whole c.look_apart.new.self.joined c.look_apart.new.self.read c.if-whole.false)) c.look_apart.ensures.finds
