use Rattle.std.proofs.Common.{Bool, List, ◌∙◌, length, refl, sym, ap, subst}
use Rattle.hg_raw.specs.declared.slots.Slots.{Slots}
use Rattle.hg_raw.specs.Frames.{RegionId, RegionSeen, ChainSeen, numbers, is_in, bytes_of}
use Rattle.hg_raw.proofs.Lists.{sized-at}
use Rattle.hg_raw.specs.Links.{Sized, marked}
use Rattle.hg_raw.proofs.Chains.{words-sized}
use Rattle.hg_raw.proofs.Regions.{far-pages, count-home, back-is, seen-back, refitted, was-out, back-home, back-bytes}
use Rattle.hg_raw.proofs.region.Region.give_back.Goals as goal

pub mark-requires : goal.mark-requires
mark-requires c =
    ap (λ (i : RegionId). i.frames) (c.requires ∙ sym (ap (λ (v : RegionSeen). v.region) c.self.view_is)) ∙ sym (count-home c.self.inside c.self.invariant) ∙ sym (ap (λ (hs : List Bool). length hs) c.deref_mut.ensures.value)

pub append-requires-clause-other_sized : goal.append-requires-clause-other_sized
append-requires-clause-other_sized c = subst (λ n. Sized n c.c.inside.words.held) (sym c.self.invariant.word_size) (words-sized c.c.inside c.c.invariant)

pub append-requires-2-clause-base : goal.append-requires-2-clause-base
append-requires-2-clause-base c = ap (λ (i : RegionId). i.pages) (ap (λ (v : ChainSeen). v.region) c.c.view_is ∙ c.requires ∙ sym (ap (λ (v : RegionSeen). v.region) c.self.view_is))

pub invariant_of-self : goal.invariant_of-self
invariant_of-self c =
    let region = ap (λ (v : ChainSeen). v.region) c.c.view_is ∙ c.requires ∙ sym (ap (λ (v : RegionSeen). v.region) c.self.view_is) in
    let marks = c.mark.ensures ∙ (λ i. marked (c.deref_mut.ensures.value i) (numbers (sym c.c.view_is i).frames)) in
    back-is c.self.inside c.c.inside c.self.invariant c.c.invariant region (far-pages c.self.inside c.c.inside c.self.invariant c.c.invariant c.append.ensures.apart) _ c.append.ensures.all c.append-2.ensures refl
    (refitted c.self.inside.home c.mark.new.flags (numbers c.c.inside.pages.held) marks) refl

pub returns-clause-home : goal.returns-clause-home
returns-clause-home c =
    let region = ap (λ (v : ChainSeen). v.region) c.c.view_is ∙ c.requires ∙ sym (ap (λ (v : RegionSeen). v.region) c.self.view_is) in
    seen-back c.self.inside c.c.inside c.c.invariant c.args.self.now c.args.c c.self.view_is c.c.view_is region (far-pages c.self.inside c.c.inside c.self.invariant c.c.invariant c.append.ensures.apart)
    (record { words = c.append.new.self; pages = c.append-2.new.self; frames = c.self.inside.frames; home = c.self.inside.home; shell = c.self.inside.shell })
    (ap (λ (s : Slots). s.base) c.append.ensures.all) c.append-2.ensures refl

pub returns-clause-were_out : goal.returns-clause-were_out
returns-clause-were_out c = was-out c.self.inside c.c.inside c.args.self.now c.args.c c.self.view_is c.c.view_is (far-pages c.self.inside c.c.inside c.self.invariant c.c.invariant c.append.ensures.apart)

pub returns-clause-are_home : goal.returns-clause-are_home
returns-clause-are_home c = back-home c.self.inside c.c.inside c.self.invariant c.args.self.now c.args.c c.self.view_is c.c.view_is _ (invariant_of-self c) c.append-2.ensures

pub returns-clause-bytes : goal.returns-clause-bytes
returns-clause-bytes c = back-bytes c.self.inside c.c.inside c.args.c c.c.view_is (far-pages c.self.inside c.c.inside c.self.invariant c.c.invariant c.append.ensures.apart) _ (invariant_of-self c) c.append-2.ensures

pub returns-clause-sized : goal.returns-clause-sized
returns-clause-sized c = λ n has.
    ap (λ (v : ChainSeen). length (bytes_of v.frames n)) (sym c.c.view_is)
    ∙ sized-at 4096 c.c.inside.pages.held n c.c.invariant.sized (ap (λ (v : ChainSeen). is_in n (numbers v.frames)) c.c.view_is ∙ has)
