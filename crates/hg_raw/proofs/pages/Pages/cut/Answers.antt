use Rattle.std.proofs.Common.{true, false, refl, arith}
use Rattle.hg_raw.proofs.Blank.{within, told, written-is, begun-part, cut-part, begun-is, begun-seen, cut-is, cut-seen}
use Rattle.hg_raw.proofs.pages.Pages.cut.Goals as goal

pub index-requires : goal.index-requires
index-requires c = within c.self.inside c.self.invariant c.args.self.now c.self.view_is c.args.n c.requires.inside

pub index_mut-requires : goal.index_mut-requires
index_mut-requires c = within c.self.inside c.self.invariant c.args.self.now c.self.view_is c.args.n c.requires.inside

pub begin-requires-clause-there : goal.begin-requires-clause-there
begin-requires-clause-there c = told c.self.inside c.self.invariant c.args.self.now c.self.view_is c.args.n true c.index.result.now c.requires.inside c.index.ensures c.if-index.true

pub begin-requires-clause-near : goal.begin-requires-clause-near
begin-requires-clause-near c = omega (arith, c.requires.inside, c.requires.few)

pub invariant_of-self : goal.invariant_of-self
invariant_of-self c = begun-is c.self.inside c.self.invariant c.args.self.now c.self.view_is c.args.n c.requires.inside _ refl c.begin.ensures.others refl

pub returns-then-index-clause-part : goal.returns-then-index-clause-part
returns-then-index-clause-part c = begun-part c.self.inside c.self.invariant c.args.self.now c.self.view_is c.args.n (told c.self.inside c.self.invariant c.args.self.now c.self.view_is c.args.n true c.index.result.now c.requires.inside c.index.ensures c.if-index.true) c.begin.result c.begin.ensures.part

pub returns-then-index-clause-others : goal.returns-then-index-clause-others
returns-then-index-clause-others c = begun-seen c.self.inside c.self.invariant c.args.self.now c.self.view_is c.args.n (told c.self.inside c.self.invariant c.args.self.now c.self.view_is c.args.n true c.index.result.now c.requires.inside c.index.ensures c.if-index.true) c.begin.new.self c.begin.ensures.others

pub cut-requires : goal.cut-requires
cut-requires c = written-is c.self.inside c.self.invariant c.args.self.now c.self.view_is c.args.n (told c.self.inside c.self.invariant c.args.self.now c.self.view_is c.args.n false c.index.result.now c.requires.inside c.index.ensures c.if-index.false) c.requires.there

pub invariant_of-self-2 : goal.invariant_of-self-2
invariant_of-self-2 c = cut-is c.self.inside c.self.invariant c.args.self.now c.self.view_is c.args.n _ c.cut.ensures.others refl refl

pub returns-clause-part : goal.returns-clause-part
returns-clause-part c = cut-part c.self.inside c.self.invariant c.args.self.now c.self.view_is c.args.n (told c.self.inside c.self.invariant c.args.self.now c.self.view_is c.args.n false c.index.result.now c.requires.inside c.index.ensures c.if-index.false) c.cut.result c.cut.ensures.part

pub returns-clause-others : goal.returns-clause-others
returns-clause-others c = cut-seen c.self.inside c.self.invariant c.args.self.now c.self.view_is c.args.n (told c.self.inside c.self.invariant c.args.self.now c.self.view_is c.args.n false c.index.result.now c.requires.inside c.index.ensures c.if-index.false) _ c.cut.ensures.others refl refl
