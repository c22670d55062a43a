-- Objects of a heap's page, found one after the other.
use Rattle.std.specs.Prelude.{◌≡◌, ℕ, ◌+◌, List, [], ◌∷◌, ◌++◌, length, map, Option, None, Some}
use Rattle.std.specs.List.{AllByRecursion}
use Rattle.std.proofs.Common.{sym, ◌∙◌, ap, subst, refl, arith}
use Rattle.std.proofs.lemmas.List.{map-append}
use Rattle.hg_base.specs.Content.{page_end, Object as HeapObject}
use Rattle.hg_base.specs.HeapPage.{object_bytes, IsHeapPage}
use Rattle.hg_reloc.specs.Blocks.{HasObjects}
use Rattle.hg_reloc.specs.Found.{InRange, IsAmong, FindsAmong, GoesOn, FindsObject, LeadsOn}
use Rattle.hg_reloc.specs.declared.object.Object.{Object}
use Rattle.hg_reloc.proofs.Pages.{objects_of, concat_map, length-objects, length-object}

among_heap : (a : ℕ → ℕ) (roots : List (Option ℕ)) (front : List HeapObject) (o : HeapObject) (behind : List HeapObject) (f : ℕ) (page : List ℕ) (at : ℕ)
    → IsHeapPage a roots (front ++ o ∷ behind) f page → AllByRecursion InRange (front ++ o ∷ behind) → at ≡ page_end front
    → IsAmong page (map (object_bytes a) front) (object_bytes a o) (map (object_bytes a) behind) at
among_heap a roots front o behind f page at h r e = record {
  has = subst (HasObjects page) (map-append (object_bytes a) front (o ∷ behind)) (objects_of a roots (front ++ o ∷ behind) f page h r);
  begins = e ∙ omega (arith, length-objects a front, ap length (concat_map a front));
}

length-map : (a : ℕ → ℕ) (os : List HeapObject) → length (map (object_bytes a) os) ≡ length os
length-map a [] = refl
length-map a (o ∷ os) = omega (arith, length-map a os)

none_more : (xs : List (List ℕ)) → xs ≡ [] → length xs ≡ 0
none_more xs e = ap length e

pub finds_object : (page : List ℕ) (at : ℕ) (r : Option Object) → FindsAmong page at r → FindsObject page at r
finds_object page at r k a roots front o behind f h i e =
    k (map (object_bytes a) front) (object_bytes a o) (map (object_bytes a) behind) (among_heap a roots front o behind f page at h i e)

pub leads_on : (page : List ℕ) (at : ℕ) (r : Option ℕ) → GoesOn page at r → LeadsOn page at r
leads_on page at None k a roots front o behind f h i e =
    let z = none_more (map (object_bytes a) behind) (k (map (object_bytes a) front) (object_bytes a o) (map (object_bytes a) behind) (among_heap a roots front o behind f page at h i e)) in
    sym (length-map a behind) ∙ z
leads_on page at (Some next) k a roots front o behind f h i e =
    let z = k (map (object_bytes a) front) (object_bytes a o) (map (object_bytes a) behind) (among_heap a roots front o behind f page at h i e) in
    (z.0 ∙ ap (λ n. at + n) (length-object a o), omega (arith, z.1, length-map a behind))

pub ruleset reading_heaps = (finds_object, leads_on)
