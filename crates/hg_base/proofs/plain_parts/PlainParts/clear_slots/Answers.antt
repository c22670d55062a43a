use Rattle.std.proofs.Common.{◌≡◌, ◌∙◌, ap, sym, subst, arith, ℕ, suc, ◌+◌, ◌∷◌, List, drop, slice_index_or}
use Rattle.std.specs.List.{AllByRecursion}
use Rattle.std.proofs.Math.Seq.{drop-cons}
use Rattle.hg_base.specs.HeapStates.{without_heap_pages}
use Rattle.hg_base.specs.PlainSpaces.{state_of, owners_of}
use Rattle.hg_base.specs.PlainTables.{IsClearable, cleared}
use Rattle.hg_base.proofs.PlainDrops.{clear-others}
use Rattle.hg_base.proofs.plain_parts.PlainParts.clear_slots.Goals as goal

pub loop-i-preserved : goal.loop-i-preserved
loop-i-preserved c =
    let i : ℕ = c.loop-i.i in
    let p : ℕ = slice_index_or c.args.pages.now i 0 in
    let rest : List ℕ = drop (i + 1) c.args.pages.now in
    let cons : drop i c.args.pages.now ≡ p ∷ rest = drop-cons c.args.pages.now i 0 (let t = c.loop-i-test.true in omega arith) ∙ ap (λ n. p ∷ drop n c.args.pages.now) (let e : suc i ≡ i + 1 = omega arith in e) in
    let ready : AllByRecursion (IsClearable c.loop-i.self.slots.items) (p ∷ rest) = subst (λ l. AllByRecursion (IsClearable c.loop-i.self.slots.items) l) cons c.loop-i.invariant.ready in
    record {
      state = ap (λ z. without_heap_pages z rest) c.clear_slot.ensures.state ∙ ap (λ l. without_heap_pages (state_of c.loop-i.self) l) (sym cons) ∙ c.loop-i.invariant.state;
      owners = ap (λ z. cleared z rest) c.clear_slot.ensures.owners ∙ ap (λ l. cleared (owners_of c.loop-i.self) l) (sym cons) ∙ c.loop-i.invariant.owners;
      heaps = c.clear_slot.ensures.heaps ∙ c.loop-i.invariant.heaps;
      ready = subst (λ s. AllByRecursion (IsClearable s) rest) (sym c.clear_slot.ensures.slots) (clear-others c.loop-i.self.slots.items p rest ready.0.0 ready.1);
    }
