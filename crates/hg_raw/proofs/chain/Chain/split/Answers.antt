use Rattle.std.proofs.Common.{ℕ, true, false, arith, [], ◌∷◌, ◌≡◌, ◌∙◌, refl, sym, ap, subst}
use Rattle.hg_raw.specs.declared.slots.Slots.{Slots}
use Rattle.hg_raw.specs.Frames.{ChainSeen, numbers, bytes_of, without, with_bytes}
use Rattle.hg_raw.specs.Links.{before, behind, first_of, nil, word, relinked}
use Rattle.hg_raw.proofs.Chains.{before-there, words-no-nil, no-nil, worded, worded-link, worded-there, worded-in, next-in, cut-there, splits, single, in-seen, is-below, page-there, one-has, has-left, seen-left, bytes-left}
use Rattle.hg_raw.proofs.chain.Chain.split.Goals as goal

pub link-requires-clause-there : goal.link-requires-clause-there
link-requires-clause-there c =
    let h = in-seen c.self.inside c.args.self.now c.self.view_is c.args.f.0 c.requires in
    let e = subst (λ (v : ChainSeen). c.previous-before.result ≡ before nil (numbers v.frames) c.args.f.0) (sym c.self.view_is) c.previous-before.ensures in
    before-there c.self.inside c.self.invariant c.args.f.0 c.previous-before.result h e

pub link-requires-clause-no_nil : goal.link-requires-clause-no_nil
link-requires-clause-no_nil c = words-no-nil c.self.inside c.self.invariant

pub link-requires-2-clause-there : goal.link-requires-2-clause-there
link-requires-2-clause-there c = λ ne.
    let ns = numbers c.self.inside.pages.held in
    let w = worded-link c.self.inside.words c.link.new.words ns (worded c.self.inside c.self.invariant) c.previous-before.result 4 c.next-next.result (omega arith) c.link.ensures in
    let e = subst (λ (v : ChainSeen). c.next-next.result ≡ first_of (behind c.args.f.0 (numbers v.frames))) (sym c.self.view_is) c.next-next.ensures.next in
    worded-there c.link.new.words ns w c.next-next.result (next-in c.self.inside c.args.f.0 c.next-next.result e ne)

pub link-requires-2-clause-no_nil : goal.link-requires-2-clause-no_nil
link-requires-2-clause-no_nil c =
    let ns = numbers c.self.inside.pages.held in
    let w = worded-link c.self.inside.words c.link.new.words ns (worded c.self.inside c.self.invariant) c.previous-before.result 4 c.next-next.result (omega arith) c.link.ensures in
    worded-in c.link.new.words ns w nil false (no-nil c.self.inside c.self.invariant)

pub cut-words-requires : goal.cut-words-requires
cut-words-requires c =
    let ns = numbers c.self.inside.pages.held in
    let w = worded-link c.self.inside.words c.link.new.words ns (worded c.self.inside c.self.invariant) c.previous-before.result 4 c.next-next.result (omega arith) c.link.ensures in
    let z = worded-link c.link.new.words c.link-2.new.words ns w c.next-next.result 0 c.previous-before.result (omega arith) c.link-2.ensures in
    worded-in c.link-2.new.words ns z c.args.f.0 true (in-seen c.self.inside c.args.self.now c.self.view_is c.args.f.0 c.requires)

pub clear_word-requires-clause-there : goal.clear_word-requires-clause-there
clear_word-requires-clause-there c =
    let ns = numbers c.self.inside.pages.held in
    let w = worded-link c.self.inside.words c.link.new.words ns (worded c.self.inside c.self.invariant) c.previous-before.result 4 c.next-next.result (omega arith) c.link.ensures in
    let z = worded-link c.link.new.words c.link-2.new.words ns w c.next-next.result 0 c.previous-before.result (omega arith) c.link-2.ensures in
    cut-there c.link-2.new.words c.cut-words.result 8 c.args.f.0 c.cut-words.ensures.part (worded-there c.link-2.new.words ns z c.args.f.0 (in-seen c.self.inside c.args.self.now c.self.view_is c.args.f.0 c.requires))

pub invariant_of-self : goal.invariant_of-self
invariant_of-self c =
    let h = in-seen c.self.inside c.args.self.now c.self.view_is c.args.f.0 c.requires in
    let prev = subst (λ (v : ChainSeen). c.previous-before.result ≡ before nil (numbers v.frames) c.args.f.0) (sym c.self.view_is) c.previous-before.ensures in
    let next = subst (λ (v : ChainSeen). c.next-next.result ≡ first_of (behind c.args.f.0 (numbers v.frames))) (sym c.self.view_is) c.next-next.ensures.next in
    splits c.self.inside c.self.invariant c.args.f.0 c.next-next.result c.previous-before.result h next prev
    (record { words = c.cut-words.new.self; pages = c.cut-pages.new.self; frames = c.self.inside.frames; first = c.replaced-self-inside.result; last = c.replaced-self-inside-2.result })
    (c.cut-words.ensures.others ∙ ap (λ (s : Slots). record { base = s.base; size = s.size; held = without s.held c.args.f.0 }) c.link-2.ensures
    ∙ ap (λ (s : Slots). record { base = s.base; size = 8; held = without (relinked s.held c.next-next.result 0 c.previous-before.result) c.args.f.0 }) c.link.ensures)
    c.cut-pages.ensures.others refl c.replaced-self-inside.ensures c.replaced-self-inside-2.ensures

pub invariant_of-result : goal.invariant_of-result
invariant_of-result c =
    let h = in-seen c.self.inside c.args.self.now c.self.view_is c.args.f.0 c.requires in
    single c.cut-words.result.base c.self.inside.pages.base c.self.inside.frames c.args.f.0 (bytes_of c.self.inside.pages.held c.args.f.0) (bytes_of c.link-2.new.words.held c.args.f.0) c.clear_word.new.words c.cut-pages.result
    (is-below c.self.inside c.self.invariant c.args.f.0 h) c.self.invariant.few (page-there c.self.inside c.self.invariant c.args.f.0 h)
    (c.clear_word.ensures ∙ ap (λ (s : Slots). record { base = c.cut-words.result.base; size = 8; held = with_bytes s.held c.args.f.0 (word nil nil) }) c.cut-words.ensures.part)
    (c.cut-pages.ensures.part ∙ ap (λ (n : ℕ). record { base = c.self.inside.pages.base; size = n; held = (c.args.f.0, bytes_of c.self.inside.pages.held c.args.f.0) ∷ [] }) c.self.invariant.page_size)

pub returns-clause-has_one : goal.returns-clause-has_one
returns-clause-has_one c =
    let one = one-has c.cut-pages.result c.self.inside.pages.base c.self.inside.pages.size c.args.f.0 (bytes_of c.self.inside.pages.held c.args.f.0) c.cut-pages.ensures.part in
    (one.0, one.1 ∙ ap (λ (v : ChainSeen). bytes_of v.frames c.args.f.0) c.self.view_is)

pub returns-clause-has_others : goal.returns-clause-has_others
returns-clause-has_others c =
    has-left c.self.inside c.self.invariant c.args.self.now c.self.view_is c.args.f.0 c.cut-pages.new.self.held (seen-left c.self.inside c.args.self.now c.self.view_is c.args.f.0 c.cut-pages.new.self c.cut-pages.ensures.others)

pub returns-clause-bytes : goal.returns-clause-bytes
returns-clause-bytes c =
    bytes-left c.args.self.now.frames c.cut-pages.new.self.held c.args.f.0 (seen-left c.self.inside c.args.self.now c.self.view_is c.args.f.0 c.cut-pages.new.self c.cut-pages.ensures.others)
