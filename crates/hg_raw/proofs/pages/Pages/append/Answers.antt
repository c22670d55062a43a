use Rattle.std.proofs.Common.{ℕ, ◌<◌, ◌∙◌, refl, sym, ap, subst, lit<}
use Rattle.hg_raw.specs.PageParts.{PagesSeen}
use Rattle.hg_raw.specs.Links.{Sized}
use Rattle.hg_raw.proofs.Blank.{append-is, append-seen}
use Rattle.hg_raw.proofs.pages.Pages.append.Goals as goal

pub append-requires-clause-base : goal.append-requires-clause-base
append-requires-clause-base c = c.requires.base ∙ sym (ap (λ (v : PagesSeen). v.base) c.self.view_is)

pub append-requires-clause-size : goal.append-requires-clause-size
append-requires-clause-size c = c.requires.size ∙ sym c.self.invariant.size

pub append-requires-clause-some : goal.append-requires-clause-some
append-requires-clause-some c = subst (λ (k : ℕ). 0 < k) (sym c.self.invariant.size) (lit< tt)

pub append-requires-clause-sized : goal.append-requires-clause-sized
append-requires-clause-sized c = subst (λ (k : ℕ). Sized k c.self.inside.written.held) (sym c.self.invariant.size) c.self.invariant.sized

pub append-requires-clause-other_sized : goal.append-requires-clause-other_sized
append-requires-clause-other_sized c = subst (λ (k : ℕ). Sized k c.args.other.held) (sym c.self.invariant.size) c.requires.sized

pub invariant_of-self : goal.invariant_of-self
invariant_of-self c = append-is c.self.inside c.self.invariant c.args.other.held c.requires.sized _ c.append.ensures.all refl refl

pub returns : goal.returns
returns c = append-seen c.self.inside c.args.self.now c.self.view_is c.args.other.held _ c.append.ensures.all refl refl
