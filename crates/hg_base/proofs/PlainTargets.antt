-- A link leads to an object of its heap, or to nothing.
use Rattle.std.specs.Prelude.{◌≡◌, ℕ, ◌+◌, ◌<◌, ◌≤◌, ◌==◌, zero, suc, true, false, List, [], ◌∷◌, length, map, slice_get, slice_index_or, Option, None, Some, IsSome, is_some, option_map, option_and_then, if◌then◌else◌}
use Rattle.std.proofs.Common.{sym, ap, subst, refl, arith, inl, inr}
use Rattle.std.specs.List.{AllByRecursion}
use Rattle.std.proofs.lemmas.Bool.{false≢true, eq-eqb}
use Rattle.std.proofs.lemmas.Option.{none-some}
use Rattle.hg_base.specs.Content.{Object, row_object, directory, placed, locked}
use Rattle.hg_base.specs.HeapContent.{place_in, object_at, named_by, row_link, links_of}
use Rattle.hg_base.specs.HeapFacts.{LeadsBelow, IsObject, AreObjects, AreWellPlaced}
use Rattle.hg_base.specs.HeapStates.{standing_of, of_locked, IsTarget, HasWord, IsWordAt}
use Rattle.hg_base.specs.Space.{Space}
use Rattle.hg_base.specs.PlainPlaces.{place_in-within}
use Rattle.hg_base.specs.PlainObjects.{objects_in, frames_in, addresses_from, object_under, link_under, words_under, word_of, IsTargetOf}
use Rattle.hg_base.specs.declared.plain_objects.HeapObjects.{HeapObjects}
use Rattle.hg_base.specs.PlainWell.{addresses-many, leads-more}

-- a word that stands in a list has a place there
some-more : (o : Option ℕ) → IsSome o → IsSome (option_map (λ n. n + 1) o)
some-more None h = absurd (false≢true h)
some-more (Some n) h = refl

pub place_in-there : (xs : List ℕ) (n : ℕ) → n < length xs → IsSome (place_in xs (slice_index_or xs n 0))
place_in-there [] n h = absurd (omega arith)
place_in-there (x ∷ xs) zero h = ap (λ b. is_some (if b then Some 0 else option_map (λ k. k + 1) (place_in xs x))) (eq-eqb x x refl)
place_in-there (x ∷ xs) (suc n) h = elim (x == slice_index_or xs n 0) as (λ b. IsSome (if b then Some 0 else option_map (λ k. k + 1) (place_in xs (slice_index_or xs n 0)))) [
  | true ↦ refl
  | false ↦ some-more (place_in xs (slice_index_or xs n 0)) (place_in-there xs n (omega arith))
]

get-some : {X : Type 0} (xs : List X) (n : ℕ) → n < length xs → IsSome (slice_get xs n)
get-some [] n h = absurd (omega arith)
get-some (x ∷ xs) zero h = refl
get-some (x ∷ xs) (suc n) h = get-some xs n (omega arith)

there-some : (xs : List Object) (o : Option ℕ) → ((n : ℕ) → o ≡ Some n → n < length xs) → IsSome o → IsSome (option_and_then (λ n. slice_get xs n) o)
there-some xs None f h = absurd (false≢true h)
there-some xs (Some n) f h = get-some xs n (f n refl)

-- an object's address is one of an object
pub address-target : (s : HeapObjects) (n : ℕ) → n < length (placed (objects_in s)) → IsSome (object_under s (slice_index_or (addresses_from s.first s.layout.items) n 0))
address-target s n h =
    let xs : List ℕ = addresses_from s.first s.layout.items in
    let e = addresses-many s.first s.layout.items s.roots in
    there-some (placed (objects_in s)) (place_in xs (slice_index_or xs n 0))
    (λ k p. let w : k < length xs = place_in-within xs (slice_index_or xs n 0) k p in omega arith)
    (place_in-there xs n (omega arith))

-- and so is what a link leads to
pub word-target : (s : HeapObjects) (l : Option ℕ) → LeadsBelow (length (placed (objects_in s))) l → IsTargetOf s (word_of s l)
word-target s None h = inl refl
word-target s (Some n) h = inr (address-target s n h)

-- The links of an object lead to objects.
abbrev pub LeadOf : ℕ → Object → Type 0
LeadOf c (row_object payload link) = LeadsBelow c link
LeadOf c (directory links) = AllByRecursion (LeadsBelow c) links

object-leads : (n c : ℕ) (x : Object) → n ≤ c → IsObject n c x → LeadOf c x
object-leads n c (row_object payload link) h p = leads-more n c link h p.2
object-leads n c (directory links) h p = p

objects-lead : (n c k : ℕ) (xs : List Object) (x : Object) → AreObjects n c xs → n + length xs ≤ c → slice_get xs k ≡ Some x → LeadOf c x
objects-lead n c k [] x h l e = absurd (none-some x e)
objects-lead n c zero (y ∷ xs) x h l e =
    let s : ◌≡◌ {A = Option Object} (Some y) (Some x) = e in let same : y ≡ x = cc in
    subst (λ z. LeadOf c z) same (object-leads n c y (omega arith) h.0)
objects-lead n c (suc k) (y ∷ xs) x h l e = objects-lead (n + 1) c k xs x h.1 (omega arith) e

found-leads : (c : ℕ) (xs : List Object) (o : Option ℕ) (x : Object) → AreObjects 0 c xs → length xs ≤ c → option_and_then (λ n. slice_get xs n) o ≡ Some x → LeadOf c x
found-leads c xs None x h l e = absurd (none-some x e)
found-leads c xs (Some n) x h l e = objects-lead 0 c n xs x h (omega arith) e

pub under-leads : (s : HeapObjects) (a : ℕ) (x : Object) → AreWellPlaced (objects_in s) → object_under s a ≡ Some x → LeadOf (length (placed (objects_in s))) x
under-leads s a x h e = found-leads (length (placed (objects_in s))) (placed (objects_in s)) (named_by (objects_in s) (frames_in s) a) x h.objects (omega arith) e

some-word : (x y : ℕ) → ◌≡◌ {A = Option ℕ} (Some x) (Some y) → x ≡ y
some-word x y e = cc

follow-case : (s : HeapObjects) (o : Option Object) (w : ℕ) → ((x : Object) → o ≡ Some x → LeadOf (length (placed (objects_in s))) x)
    → option_map (λ l. word_of s l) (option_and_then row_link o) ≡ Some w → IsTargetOf s w
follow-case s None w f e = absurd (none-some w e)
follow-case s (Some (row_object payload link)) w f e = subst (λ z. IsTargetOf s z) (some-word (word_of s link) w e) (word-target s link (f (row_object payload link) refl))
follow-case s (Some (directory links)) w f e = absurd (none-some w e)

pub follow-target : (s : HeapObjects) (a w : ℕ) → AreWellPlaced (objects_in s) → link_under s a ≡ Some w → IsTargetOf s w
follow-target s a w h e = follow-case s (object_under s a) w (λ x p. under-leads s a x h p) e

-- a word among those of some links
pub words-target : (s : HeapObjects) (ls : List (Option ℕ)) (k w : ℕ) → AllByRecursion (LeadsBelow (length (placed (objects_in s)))) ls → slice_get (map (λ l. word_of s l) ls) k ≡ Some w → IsTargetOf s w
words-target s [] k w h e = absurd (none-some w e)
words-target s (l ∷ ls) zero w h e = subst (λ z. IsTargetOf s z) (some-word (word_of s l) w e) (word-target s l h.0)
words-target s (l ∷ ls) (suc k) w h e = words-target s ls k w h.1 e

word-case : (s : HeapObjects) (o : Option Object) (k w : ℕ) → ((x : Object) → o ≡ Some x → LeadOf (length (placed (objects_in s))) x)
    → HasWord (option_map (λ ls. map (λ l. word_of s l) ls) (option_and_then links_of o)) k → IsWordAt (option_map (λ ls. map (λ l. word_of s l) ls) (option_and_then links_of o)) k w → IsTargetOf s w
word-case s None k w f h e = absurd h
word-case s (Some (row_object payload link)) k w f h e = absurd h
word-case s (Some (directory links)) k w f h e = words-target s links k w (f (directory links) refl) e

pub word-found : (s : HeapObjects) (a k w : ℕ) → AreWellPlaced (objects_in s) → HasWord (words_under s a) k → IsWordAt (words_under s a) k w → IsTargetOf s w
word-found s a k w h p e = word-case s (object_under s a) k w (λ x q. under-leads s a x h q) p e

-- as the space has it
pub target-seen : (s : Space) (h w : ℕ) (o : HeapObjects) → standing_of s h ≡ Some (locked (objects_in o) (frames_in o)) → IsTargetOf o w → IsTarget s h w
target-seen s h w o e (inl z) = inl z
target-seen s h w o e (inr p) = inr (subst (λ st. IsSome (of_locked (λ a frames. object_at a frames w) st)) (sym e) p)
