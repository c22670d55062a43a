use Rattle.std.specs.Prelude.{if◌then◌else◌, ◌≡◌, ◌++◌, ◌∷◌, [], take, true, false, length}
use Rattle.std.proofs.Common.{sym, ◌∙◌, ap, subst, inl, inr, arith}
use Rattle.hg_exec.specs.Entering.{MayJoin, begun}
use Rattle.hg_exec.specs.Joins.{form_of, joined_with, passes}
use Rattle.hg_plan.specs.declared.plan.TableLoop.{TableLoop}
use Rattle.hg_value.specs.Looks.{chosen}
use Rattle.hg_exec.proofs.Taking.{on-then}
use Rattle.hg_exec.proofs.Opening.{item-at, item-is, next-inside}
use Rattle.hg_exec.proofs.loops.Loops.enter.Goals as goal

pub join-keeps-requires-clause-may : goal.join-keeps-requires-clause-may
join-keeps-requires-clause-may c =
    subst (λ (l : TableLoop). MayJoin (form_of c.args.statement.now) l (take c.args.found.start c.args.self.now.joined) (if c.args.whole then c.args.self.now.joined else c.args.self.now.read)) c.index-statement-depth.is
    (c.requires.joins c.index-statement-depth.result
    (item-at c.args.statement.now.loops.now (length c.args.self.now.opened.items) c.len-depth.result c.index-statement-depth.result c.len-depth.ensures.value c.requires.inside c.index-statement-depth.is))

pub returns-then-not-keeps-clause-joined : goal.returns-then-not-keeps-clause-joined
returns-then-not-keeps-clause-joined c of at =
    subst (λ (l : TableLoop). c.join-keeps.new.self.joined ≡ joined_with l (take c.args.found.start c.args.self.now.joined) (if c.args.whole then c.args.self.now.joined else c.args.self.now.read))
    (item-is c.args.statement.now.loops.now (length c.args.self.now.opened.items) c.len-depth.result c.index-statement-depth.result of c.len-depth.ensures.value c.requires.inside c.index-statement-depth.is at) c.join-keeps.ensures.joined

pub returns-then-not-keeps-clause-enters : goal.returns-then-not-keeps-clause-enters
returns-then-not-keeps-clause-enters c of at = inl (
  subst (λ (l : TableLoop). passes (form_of c.args.statement.now) l.tests.items c.join-keeps.new.self.joined ≡ false)
      (item-is c.args.statement.now.loops.now (length c.args.self.now.opened.items) c.len-depth.result c.index-statement-depth.result of c.len-depth.ensures.value c.requires.inside c.index-statement-depth.is at)
      (sym c.join-keeps.ensures.keeps ∙ c.if-not-keeps.true),
  c.push.ensures.items ∙ ap (λ os. os.items ++ c.args.found ∷ []) c.join-keeps.ensures.opened,
)

pub returns-then-depth-statement-clause-joined : goal.returns-then-depth-statement-clause-joined
returns-then-depth-statement-clause-joined c of at =
    subst (λ (l : TableLoop). c.join-keeps.new.self.joined ≡ joined_with l (take c.args.found.start c.args.self.now.joined) (if c.args.whole then c.args.self.now.joined else c.args.self.now.read))
    (item-is c.args.statement.now.loops.now (length c.args.self.now.opened.items) c.len-depth.result c.index-statement-depth.result of c.len-depth.ensures.value c.requires.inside c.index-statement-depth.is at) c.join-keeps.ensures.joined

pub returns-then-depth-statement-clause-enters : goal.returns-then-depth-statement-clause-enters
returns-then-depth-statement-clause-enters c of at = (
  subst (λ (l : TableLoop). passes (form_of c.args.statement.now) l.tests.items c.join-keeps.new.self.joined ≡ true)
      (item-is c.args.statement.now.loops.now (length c.args.self.now.opened.items) c.len-depth.result c.index-statement-depth.result of c.len-depth.ensures.value c.requires.inside c.index-statement-depth.is at)
      (sym c.join-keeps.ensures.keeps ∙ c.if-not-keeps.false),
  (let e = c.if-depth-statement.true in let d = c.len-depth.ensures.value in omega arith),
  c.push.ensures.items ∙ ap (λ os. os.items ++ c.args.found ∷ []) c.join-keeps.ensures.opened,
)

pub returns-clause-joined : goal.returns-clause-joined
returns-clause-joined c of at =
    subst (λ (l : TableLoop). c.join-keeps.new.self.joined ≡ joined_with l (take c.args.found.start c.args.self.now.joined) (if c.args.whole then c.args.self.now.joined else c.args.self.now.read))
    (item-is c.args.statement.now.loops.now (length c.args.self.now.opened.items) c.len-depth.result c.index-statement-depth.result of c.len-depth.ensures.value c.requires.inside c.index-statement-depth.is at) c.join-keeps.ensures.joined

pub returns-clause-enters : goal.returns-clause-enters
returns-clause-enters c of at = inr (
  subst (λ (l : TableLoop). passes (form_of c.args.statement.now) l.tests.items c.join-keeps.new.self.joined ≡ true)
      (item-is c.args.statement.now.loops.now (length c.args.self.now.opened.items) c.len-depth.result c.index-statement-depth.result of c.len-depth.ensures.value c.requires.inside c.index-statement-depth.is at)
      (sym c.join-keeps.ensures.keeps ∙ c.if-not-keeps.false),
  next-inside (length c.args.self.now.opened.items) (length c.args.statement.now.loops.now) c.len-depth.result c.len-depth.ensures.value c.requires.inside c.if-depth-statement.false,
  c.push-2.ensures.items ∙ ap (λ os. os ++ begun c.join-keeps.new.self.most c.len.result ∷ []) (c.push.ensures.items ∙ ap (λ os. os.items ++ c.args.found ∷ []) c.join-keeps.ensures.opened)
      ∙ ap (λ m. (c.args.self.now.opened.items ++ c.args.found ∷ []) ++ begun m c.len.result ∷ []) c.join-keeps.ensures.most
      ∙ ap (λ n. (c.args.self.now.opened.items ++ c.args.found ∷ []) ++ begun c.args.self.now.most n ∷ []) c.len.ensures.count,
)

pub join-keeps-requires-clause-whole : goal.join-keeps-requires-clause-whole
join-keeps-requires-clause-whole c =
    on-then c.args.whole _ _ (λ w. (
      w.0,
      subst (λ (l : TableLoop). chosen c.args.self.now.joined l.columns.items ≡ c.args.self.now.joined) c.index-statement-depth.is
          (w.1 c.index-statement-depth.result
          (item-at c.args.statement.now.loops.now (length c.args.self.now.opened.items) c.len-depth.result c.index-statement-depth.result c.len-depth.ensures.value c.requires.inside c.index-statement-depth.is)),
    )) c.requires.whole
