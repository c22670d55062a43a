use Rattle.std.proofs.Common.{◌≡◌, ◌∙◌, ◌+◌, ◌/◌, ◌<◌, arith, ap, length, List, ℕ, true, max, subst, sym}
use Rattle.std.proofs.lemmas.List.{with_items_is}
use Rattle.hg_space.specs.Bits.{SameWords}
use Rattle.hg_space.specs.Shown.{Kept, reached, pages_of}
use Rattle.hg_space.proofs.KeptLemmas.{kept-grown, grown-root, carried-to}
use Rattle.hg_space.proofs.Steps.{grown-same, zero-behind}
use Rattle.hg_space.proofs.space.Space.grow.Goals as goal

pub invariant_of-self : goal.invariant_of-self
invariant_of-self c =
    let place : length c.self.inside.links.items ≡ c.len-page.result = omega arith in
    let same : length c.set_up.new.words ≡ c.widen.new.words.len = omega arith in
    let written = with_items_is c.widen.new.words c.set_up.new.words same in
    let Q : Kept → Type 0 = λ s. reached s < s.limit in
    let more = subst Q (sym c.self.view_is) c.requires.room in
    let P : List ℕ → Type 0 = λ x. SameWords c.self.inside.links.items x in
    let same_links = subst P (sym c.push_reserved.ensures.items) (zero-behind c.self.inside.links.items) in
    let kept_len : length c.set_up.new.words ≡ length c.widen.new.words.items = omega (arith, ap length c.deref_mut.ensures.value) in (
      kept-grown _ _ _ _ _ _ _ c.self.invariant.0 more c.widen.ensures.same (carried-to _ _ _ _ _ _ true c.deref_mut.ensures.value written (ap (λ n. c.self.inside.levels.first + n) place) c.set_up.ensures)
          (ap length written ∙ kept_len ∙ c.widen.ensures.len ∙ ap (λ n. max (length c.self.inside.free.items) ((c.self.inside.levels.first + n + 1) / 64 + 1)) (sym place))
          c.widen-2.ensures.same
          (c.widen-2.ensures.len ∙ ap (λ n. max (length c.self.inside.linked.items) ((n + 1) / 64 + 1)) (sym place))
          (omega arith) same_links,
      record {
        for_free = omega (arith, c.self.invariant.1.for_free, c.widen.ensures.capacity);
        for_linked = omega (arith, c.self.invariant.1.for_linked, c.widen-2.ensures.capacity);
        for_links = omega (arith, c.self.invariant.1.for_links, c.push_reserved.ensures.capacity);
      },
    )

pub returns-clause-same : goal.returns-clause-same
returns-clause-same c =
    let place : length c.self.inside.links.items ≡ c.len-page.result = omega arith in
    let same : length c.set_up.new.words ≡ c.widen.new.words.len = omega arith in
    let written = with_items_is c.widen.new.words c.set_up.new.words same in
    let Q : Kept → Type 0 = λ s. reached s < s.limit in
    let more = subst Q (sym c.self.view_is) c.requires.room in
    let P : List ℕ → Type 0 = λ x. SameWords c.self.inside.links.items x in
    let same_links = subst P (sym c.push_reserved.ensures.items) (zero-behind c.self.inside.links.items) in
    grown-same _ _ _ _ _ (omega (arith, c.self.invariant.0.enough)) c.widen.ensures.same (carried-to _ _ _ _ _ _ true c.deref_mut.ensures.value written (ap (λ n. c.self.inside.levels.first + n) place) c.set_up.ensures)
    c.widen-2.ensures.same (omega arith) same_links
    ∙ ap pages_of c.self.view_is

pub returns-clause-some : goal.returns-clause-some
returns-clause-some c =
    let place : length c.self.inside.links.items ≡ c.len-page.result = omega arith in
    let same : length c.set_up.new.words ≡ c.widen.new.words.len = omega arith in
    let written = with_items_is c.widen.new.words c.set_up.new.words same in
    let Q : Kept → Type 0 = λ s. reached s < s.limit in
    let more = subst Q (sym c.self.view_is) c.requires.room in
    grown-root _ _ _ _ _ c.self.invariant.0 more c.widen.ensures.same (carried-to _ _ _ _ _ _ true c.deref_mut.ensures.value written (ap (λ n. c.self.inside.levels.first + n) place) c.set_up.ensures)
