use Rattle.std.proofs.Common.{ℕ, ◌<◌, ◌^◌, List, ◌∙◌, refl, sym, ap, subst}
use Rattle.hg_raw.specs.declared.slots.Slots.{Slots}
use Rattle.hg_raw.specs.Frames.{bytes_of, is_in, with_bytes}
use Rattle.hg_raw.specs.Links.{nil, word}
use Rattle.hg_raw.proofs.Lists.{sized-at}
use Rattle.hg_raw.proofs.Chains.{cut-there, single, one-has}
use Rattle.hg_raw.proofs.Regions.{home-in, home-bytes, chain-taken, taken-is, seen-taken}
use Rattle.hg_raw.proofs.region.Region.take.Goals as goal

pub cut-words-requires : goal.cut-words-requires
cut-words-requires c = ap (is_in c.args.f.0) c.self.invariant.words ∙ (home-in c.self.inside c.args.self.now c.self.view_is c.args.f.0 c.requires).1

pub clear_word-requires-clause-there : goal.clear_word-requires-clause-there
clear_word-requires-clause-there c =
    cut-there c.self.inside.words c.cut-words.result 8 c.args.f.0 c.cut-words.ensures.part
    (sized-at 8 c.self.inside.words.held c.args.f.0 c.self.invariant.words_sized (ap (is_in c.args.f.0) c.self.invariant.words ∙ (home-in c.self.inside c.args.self.now c.self.view_is c.args.f.0 c.requires).1))

pub cut-pages-requires-clause-there : goal.cut-pages-requires-clause-there
cut-pages-requires-clause-there c = (home-in c.self.inside c.args.self.now c.self.view_is c.args.f.0 c.requires).1

pub cut-pages-requires-clause-inside : goal.cut-pages-requires-clause-inside
cut-pages-requires-clause-inside c = subst (λ (n : ℕ). c.args.f.0 < n) (sym c.self.invariant.page_count) (home-in c.self.inside c.args.self.now c.self.view_is c.args.f.0 c.requires).0

pub cut-pages-requires-clause-few : goal.cut-pages-requires-clause-few
cut-pages-requires-clause-few c = subst (λ (n : ℕ). n < 2 ^ 32) (sym c.self.invariant.page_count) c.self.invariant.few

pub invariant_of-self : goal.invariant_of-self
invariant_of-self c = taken-is c.self.inside c.self.invariant c.args.f.0 (home-in c.self.inside c.args.self.now c.self.view_is c.args.f.0 c.requires).0 _ c.cut-words.ensures.others c.cut-pages.ensures.others refl refl refl

pub invariant_of-result : goal.invariant_of-result
invariant_of-result c =
    let h = home-in c.self.inside c.args.self.now c.self.view_is c.args.f.0 c.requires in
    single c.cut-words.result.base c.self.inside.pages.base c.self.inside.frames c.args.f.0 (bytes_of c.self.inside.pages.held c.args.f.0) (bytes_of c.self.inside.words.held c.args.f.0) c.clear_word.new.words c.cut-pages.result
    h.0 c.self.invariant.few (sized-at 4096 c.self.inside.pages.held c.args.f.0 c.self.invariant.sized h.1)
    (c.clear_word.ensures ∙ ap (λ (s : Slots). record { base = c.cut-words.result.base; size = 8; held = with_bytes s.held c.args.f.0 (word nil nil) }) c.cut-words.ensures.part)
    c.cut-pages.ensures.part

pub returns-clause-chain : goal.returns-clause-chain
returns-clause-chain c =
    let h = home-in c.self.inside c.args.self.now c.self.view_is c.args.f.0 c.requires in
    chain-taken c.self.inside c.args.self.now c.self.view_is c.args.f.0 h.0 h.1 c.clear_word.new.words c.cut-pages.result
    (ap (λ (s : Slots). s.base) c.clear_word.ensures ∙ ap (λ (s : Slots). s.base) c.cut-words.ensures.part) c.cut-pages.ensures.part

pub returns-clause-len : goal.returns-clause-len
returns-clause-len c =
    let h = home-in c.self.inside c.args.self.now c.self.view_is c.args.f.0 c.requires in
    ap (λ (b : List ℕ). lib.ListN.length b) (home-bytes c.self.inside c.args.self.now c.self.view_is c.args.f.0 h.0 h.1) ∙ sized-at 4096 c.self.inside.pages.held c.args.f.0 c.self.invariant.sized h.1

pub returns-clause-out : goal.returns-clause-out
returns-clause-out c =
    seen-taken c.self.inside c.self.invariant c.args.self.now c.self.view_is c.args.f.0 (home-in c.self.inside c.args.self.now c.self.view_is c.args.f.0 c.requires).0
    (record { words = c.cut-words.new.self; pages = c.cut-pages.new.self; frames = c.self.inside.frames; home = c.self.inside.home; shell = c.self.inside.shell })
    (ap (λ (s : Slots). s.base) c.cut-words.ensures.others) c.cut-pages.ensures.others refl

pub returns-clause-has : goal.returns-clause-has
returns-clause-has c =
    let h = home-in c.self.inside c.args.self.now c.self.view_is c.args.f.0 c.requires in
    let one = one-has c.cut-pages.result c.self.inside.pages.base 4096 c.args.f.0 (bytes_of c.self.inside.pages.held c.args.f.0) c.cut-pages.ensures.part in
    (one.0, one.1 ∙ sym (home-bytes c.self.inside c.args.self.now c.self.view_is c.args.f.0 h.0 h.1))
