-- What a reader of a heap's page finds at a place of it.
use Rattle.std.specs.Prelude.{◌≡◌, ℕ, ◌+◌, ◌%◌, ◌<◌, ◌≤◌, List, [], ◌∷◌, ◌++◌, length, take, drop, Option, MatchOption, ⊤}
use Rattle.std.specs.List.{concat}
use Rattle.std.specs.List.{AllByRecursion}
use Rattle.hg_base.specs.Content.{row_object, directory, object_size, page_end, payloads_of, Object as HeapObject}
use Rattle.hg_base.specs.HeapFacts.{IsPayload}
use Rattle.hg_base.specs.HeapPage.{object_bytes, IsHeapPage}
use Rattle.hg_reloc.specs.Blocks.{number, word, kind, end, IsBlock, HasObjects}
use Rattle.hg_reloc.specs.declared.object.Object.{Object}

-- These bytes of the page, from the place `at` on, are an object: they have the form of one, stand on the
-- grid behind the roots, and end before the free bytes.
pub record StandsAt (page : List ℕ) (at : ℕ) (b : List ℕ) : Type 0 where
  pub whole : length page ≡ 4096
  pub behind : 64 ≤ at
  pub grid : at % 16 ≡ 0
  pub is : IsBlock b
  pub here : take (length b) (drop at page) ≡ b
  pub before : at + length b ≤ end page
  pub inside : end page ≤ 4096

pub record IsThere (page : List ℕ) (at : ℕ) : Type 0 where
  pub block : List ℕ
  pub stands : StandsAt page at block

-- what is told of an object
pub record Shows (at : ℕ) (b : List ℕ) (o : Object) : Type 0 where
  pub kind : o.kind ≡ kind b
  pub payload_at : o.payload_at ≡ at + 16
  pub len : o.len ≡ number b
  pub link : o.link.word ≡ word (drop 8 b)

-- an object is there, and this is told of it
pub record Finds (page : List ℕ) (at : ℕ) (o : Object) : Type 0 where
  pub block : List ℕ
  pub stands : StandsAt page at block
  pub shows : Shows at block o

-- The place behind the object that stands at `at`.
pub record IsNext (page : List ℕ) (at next : ℕ) : Type 0 where
  pub block : List ℕ
  pub stands : StandsAt page at block
  pub behind : next ≡ at + length block
  pub there : IsThere page next

-- The page's objects are some, this one, which begins at `at`, and some behind it.
pub record IsAmong (page : List ℕ) (before : List (List ℕ)) (b : List ℕ) (behind : List (List ℕ)) (at : ℕ) : Type 0 where
  pub has : HasObjects page (before ++ b ∷ behind)
  pub begins : at ≡ 64 + length (concat before)

-- a reader that goes from object to object finds each of them
abbrev pub FindsAmong : List ℕ → ℕ → Option Object → Type 0
FindsAmong page at o = (before : List (List ℕ)) (b : List ℕ) (behind : List (List ℕ)) → IsAmong page before b behind at → MatchOption o ⊥ (Shows at b)

abbrev pub GoesOn : List ℕ → ℕ → Option ℕ → Type 0
GoesOn page at o = (before : List (List ℕ)) (b : List ℕ) (behind : List (List ℕ)) → IsAmong page before b behind at
    → MatchOption o (behind ≡ []) (λ next. (next ≡ at + length b) × (0 < length behind))

-- The same of a page of a heap, whatever its objects are: each of them is found where it stands, and the
-- way leads from one to the next.
abbrev pub InRange : HeapObject → Type 0
InRange (row_object payload link) = IsPayload payload
InRange (directory links) = ⊤

-- so are the objects of a page that was drained
pub are_in_range : (objects : List HeapObject) → AllByRecursion IsPayload (payloads_of objects) → AllByRecursion InRange objects
are_in_range [] h = tt
are_in_range (row_object payload link ∷ objects) h = (h.0, are_in_range objects h.1)
are_in_range (directory links ∷ objects) h = (tt, are_in_range objects h)

abbrev pub FindsObject : List ℕ → ℕ → Option Object → Type 0
FindsObject page at result =
    (a : ℕ → ℕ) (roots : List (Option ℕ)) (front : List HeapObject) (o : HeapObject) (behind : List HeapObject) (f : ℕ)
    → IsHeapPage a roots (front ++ o ∷ behind) f page → AllByRecursion InRange (front ++ o ∷ behind) → at ≡ page_end front
    → MatchOption result ⊥ (Shows at (object_bytes a o))

abbrev pub LeadsOn : List ℕ → ℕ → Option ℕ → Type 0
LeadsOn page at result =
    (a : ℕ → ℕ) (roots : List (Option ℕ)) (front : List HeapObject) (o : HeapObject) (behind : List HeapObject) (f : ℕ)
    → IsHeapPage a roots (front ++ o ∷ behind) f page → AllByRecursion InRange (front ++ o ∷ behind) → at ≡ page_end front
    → MatchOption result (length behind ≡ 0) (λ next. (next ≡ at + object_size o) × (0 < length behind))
