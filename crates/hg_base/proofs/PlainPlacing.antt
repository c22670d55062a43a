-- An object that is placed is found under its address, and those that stood there are as they were.
use Rattle.std.specs.Prelude.{◌≡◌, ◌≢◌, ℕ, ◌+◌, ◌*◌, ◌%◌, ◌<◌, ◌≤◌, ◌⊎◌, zero, suc, List, [], ◌∷◌, ◌++◌, length, map, replicate, sum_by, slice_get, slice_index_or, Result, Ok, Err, OnOk, OnErr, IfOk, IsOk, IfSome, Option, None, Some, IsSome, option_map, option_and_then, if◌then◌else◌}
use Rattle.std.proofs.Common.{sym, ◌∙◌, ap, subst, refl, arith, inl, inr, append-nil}
use Rattle.std.specs.List.{AllByRecursion}
use Rattle.std.proofs.lemmas.Bool.{false≢true, cases_eq, ne_eqb, eq-eqb}
use Rattle.std.proofs.lemmas.Option.{none-some}
use Rattle.std.proofs.lemmas.List.Sums.{sum_by-cons}
use Rattle.hg_base.specs.Content.{Object, row_object, directory, Objects, placed, page_end, object_size, offsets_from, address_of, locked, Standing, Heap}
use Rattle.hg_base.specs.HeapContent.{place_in, object_at, payload_of, row_link, links_of, link_of, words_of, with_object, with_last, room_left, next_address, no_links}
use Rattle.hg_base.specs.HeapFacts.{AreWellPlaced}
use Rattle.hg_base.specs.HeapLaws.{on_page, addresses_in-last, placed-last, place_in-behind, object_at-kept}
use Rattle.hg_base.specs.HeapPage.{link_word}
use Rattle.hg_base.specs.HeapStates.{standing_of, standing_with, of_locked, with_objects, object_in, payload_in, link_in, words_in, next_in, room_in, IsLocked, after_row, after_directory, IsTarget, KeepsObjects}
use Rattle.hg_base.specs.Space.{Space, at}
use Rattle.hg_base.specs.PlainPlaces.{place_in-within, place_in-past, get_or-in}
use Rattle.hg_base.specs.PlainObjects.{frames_from, addresses_from, objects_in}
use Rattle.hg_base.specs.PlainFrames.{length-frames}
use Rattle.hg_base.specs.PlainKept.{at-here}
use Rattle.hg_base.specs.PlainChanges.{LockedAt, locked-at, standing-locked}
use Rattle.hg_base.specs.PlainHeapFacts.{Holds}
use Rattle.hg_base.specs.PlainSpaces.{state_of, IsWhole}
use Rattle.hg_base.specs.declared.plain_parts.PlainParts.{PlainParts}
use Rattle.hg_base.specs.declared.addr.Addr.{Addr}
use Rattle.hg_base.specs.declared.NoRoom.{NoRoom}
use Rattle.hg_base.specs.PlainWell.{addresses-many, size-some}

place_in-none : (xs : List ℕ) (a : ℕ) → AllByRecursion (λ x. x ≢ a) xs → place_in xs a ≡ None
place_in-none [] a h = refl
place_in-none (x ∷ xs) a h =
    ap (λ b. if b then Some 0 else option_map (λ n. n + 1) (place_in xs a)) (ne_eqb x a h.0) ∙ ap (option_map (λ n. n + 1)) (place_in-none xs a h.1)

-- no object of a page begins behind its last
below-next : (base at end : ℕ) (xs : List Object) → at + sum_by object_size xs ≤ end → AllByRecursion (λ x. x ≢ base + end) (map (λ o. base + o) (offsets_from at xs))
below-next base at end [] h = tt
below-next base at end (x ∷ xs) h =
    ((λ e. absurd (omega (arith, size-some x, sum_by-cons object_size x xs))), below-next base (at + object_size x) end xs (omega (arith, sum_by-cons object_size x xs)))

-- and none stands in another frame
other-frame : (f g at end : ℕ) (xs : List Object) → f ≢ g → at + sum_by object_size xs ≤ 4096 → end < 4096 → AllByRecursion (λ x. x ≢ g * 4096 + end) (map (λ o. f * 4096 + o) (offsets_from at xs))
other-frame f g at end [] d h l = tt
other-frame f g at end (x ∷ xs) d h l =
    ((λ e. absurd (d (omega (arith, size-some x, sum_by-cons object_size x xs)))), other-frame f g (at + object_size x) end xs d (omega (arith, sum_by-cons object_size x xs)) l)

-- the next address, over pages from a frame on, is in one of their frames
record NextAt (first : ℕ) (layout : List (List Object)) : Type 0 where
  page : ℕ
  inside : page < length layout
  end : ℕ
  low : end < 4096
  is : next_address layout (frames_from first (length layout)) ≡ (first + page) % 65536 * 4096 + end

next-at : (first : ℕ) (p : List Object) (layout : List (List Object)) → AllByRecursion (λ q. page_end q ≤ 4096) (p ∷ layout) → 16 ≤ room_left (p ∷ layout) → NextAt first (p ∷ layout)
next-at first p [] h r = record {
  page = 0;
  inside = omega arith;
  end = page_end p;
  low = omega arith;
  is = ap (λ f. f % 65536 * 4096 + page_end p) (let e : first ≡ first + 0 = omega arith in e);
}
next-at first p (q ∷ layout) h r = let n : NextAt (first + 1) (q ∷ layout) = next-at (first + 1) q layout h.1 r in record {
  page = suc n.page;
  inside = let i = n.inside in omega arith;
  end = n.end;
  low = n.low;
  is = n.is ∙ ap (λ f. f % 65536 * 4096 + n.end) (let e : first + 1 + n.page ≡ first + suc n.page = omega arith in e);
}

-- no object has the next address
pub next-new : (first : ℕ) (p : List Object) (layout : List (List Object)) → AllByRecursion (λ q. page_end q ≤ 4096) (p ∷ layout) → 16 ≤ room_left (p ∷ layout) → length (p ∷ layout) ≤ 65536
    → place_in (addresses_from first (p ∷ layout)) (next_address (p ∷ layout) (frames_from first (length (p ∷ layout)))) ≡ None
next-new first p [] h r l =
    ap (λ xs. place_in xs (first % 65536 * 4096 + page_end p)) (append-nil (on_page (first % 65536) p))
    ∙ place_in-none (on_page (first % 65536) p) (first % 65536 * 4096 + page_end p) (below-next (first % 65536 * 4096) 64 (page_end p) p (omega arith))
next-new first p (q ∷ layout) h r l =
    let n : NextAt (first + 1) (q ∷ layout) = next-at (first + 1) q layout h.1 r in
    let a : ℕ = next_address (q ∷ layout) (frames_from (first + 1) (length (q ∷ layout))) in
    let apart : first % 65536 ≢ (first + 1 + n.page) % 65536 = (λ e. let i = n.inside in absurd (omega arith)) in
    let fit : 64 + sum_by object_size p ≤ 4096 = h.0 in
    let front : place_in (on_page (first % 65536) p) a ≡ None =
    ap (place_in (on_page (first % 65536) p)) n.is ∙ place_in-none (on_page (first % 65536) p) ((first + 1 + n.page) % 65536 * 4096 + n.end) (other-frame (first % 65536) ((first + 1 + n.page) % 65536) 64 n.end p apart fit n.low) in
    place_in-past (on_page (first % 65536) p) (addresses_from (first + 1) (q ∷ layout)) a front
    ∙ ap (option_map (λ k. length (on_page (first % 65536) p) + k)) (next-new (first + 1) q layout h.1 r (omega arith))

get-last : {X : Type 0} (xs : List X) (x : X) → slice_get (xs ++ x ∷ []) (length xs) ≡ Some x
get-last [] x = refl
get-last (y ∷ xs) x = get-last xs x

-- the object that is placed is under the next address
pub placed-there : (first : ℕ) (layout : List (List Object)) (roots : List (Option ℕ)) (x : Object) → AreWellPlaced (record { layout = layout; roots = roots }) → object_size x ≤ room_left layout → length layout ≤ 65536
    → object_at (with_object (record { layout = layout; roots = roots }) x) (frames_from first (length layout)) (next_address layout (frames_from first (length layout))) ≡ Some x
placed-there first [] roots x w r l = absurd (omega (arith, size-some x))
placed-there first (p ∷ layout) roots x w r l =
    let frames : List ℕ = frames_from first (length (p ∷ layout)) in
    let a : ℕ = next_address (p ∷ layout) frames in
    let many = length-frames first (length (p ∷ layout)) in
    let none = next-new first p layout w.pages (omega (arith, size-some x)) l in
    ap (λ xs. option_and_then (λ n. slice_get (placed (record { layout = with_last (p ∷ layout) x; roots = roots })) n) (place_in xs a)) (addresses_in-last p layout frames x (omega arith))
    ∙ ap (option_and_then (λ n. slice_get (placed (record { layout = with_last (p ∷ layout) x; roots = roots })) n)) (place_in-behind (addresses_from first (p ∷ layout)) a none)
    ∙ ap (λ xs. slice_get xs (length (addresses_from first (p ∷ layout)))) (placed-last p layout x roots)
    ∙ ap (slice_get (placed (record { layout = p ∷ layout; roots = roots }) ++ x ∷ [])) (addresses-many first (p ∷ layout) roots)
    ∙ get-last (placed (record { layout = p ∷ layout; roots = roots })) x

-- each object that stood there is there as before
pub placed-kept : (first : ℕ) (layout : List (List Object)) (roots : List (Option ℕ)) (x y : Object) (a : ℕ) → object_size x ≤ room_left layout
    → object_at (record { layout = layout; roots = roots }) (frames_from first (length layout)) a ≡ Some y
    → object_at (with_object (record { layout = layout; roots = roots }) x) (frames_from first (length layout)) a ≡ Some y
placed-kept first [] roots x y a r e = absurd (none-some y e)
placed-kept first (p ∷ layout) roots x y a r e = object_at-kept p layout roots (frames_from first (length (p ∷ layout))) x y a (let m = length-frames first (length (p ∷ layout)) in omega arith) e

item-more : (x : ℕ) (xs : List ℕ) (a n : ℕ) (o : Option ℕ) → ((k : ℕ) → o ≡ Some k → slice_index_or xs k 0 ≡ a) → option_map (λ k. k + 1) o ≡ Some n → slice_index_or (x ∷ xs) n 0 ≡ a
item-more x xs a n None f h = absurd (none-some n h)
item-more x xs a n (Some k) f h =
    let s : ◌≡◌ {A = Option ℕ} (Some (k + 1)) (Some n) = h in
    let e : k + 1 ≡ n = cc in
    let m : suc k ≡ n = omega arith in
    ap (λ j. slice_index_or (x ∷ xs) j 0) (sym m) ∙ f k refl

-- the word that stands at a place
place_in-item : (xs : List ℕ) (a n : ℕ) → place_in xs a ≡ Some n → slice_index_or xs n 0 ≡ a
place_in-item [] a n h = absurd (none-some n h)
place_in-item (x ∷ xs) a n h = elim (cases_eq x a) [
  | inl same ↦ (let e : ◌≡◌ {A = Option ℕ} (Some 0) (Some n) = sym (ap (λ b. if b then Some 0 else option_map (λ k. k + 1) (place_in xs a)) (eq-eqb x a same)) ∙ h in
      let z : 0 ≡ n = cc in ap (λ k. slice_index_or (x ∷ xs) k 0) (sym z) ∙ same)
  | inr other ↦ item-more x xs a n (place_in xs a) (λ k p. place_in-item xs a k p) (sym (ap (λ b. if b then Some 0 else option_map (λ k. k + 1) (place_in xs a)) (ne_eqb x a other)) ∙ h)
]

-- a link that an address stood for leads to that address
link-found : (xs : List ℕ) (next word : ℕ) (ps : List Object) (o : Option ℕ) → o ≡ place_in xs word → IsSome (option_and_then (λ n. slice_get ps n) o) → link_word (λ n. slice_index_or (xs ++ next ∷ []) n 0) o ≡ word
link-found xs next word ps None e h = absurd (false≢true h)
link-found xs next word ps (Some n) e h = get_or-in xs (next ∷ []) n (place_in-within xs word n (sym e)) ∙ place_in-item xs word n (sym e)

pub link-back : (first : ℕ) (layout : List (List Object)) (roots : List (Option ℕ)) (x : Object) (word : ℕ)
    → (word ≡ 0) ⊎ IsSome (object_at (record { layout = layout; roots = roots }) (frames_from first (length layout)) word)
    → object_size x ≤ room_left layout
    → link_word (address_of (with_object (record { layout = layout; roots = roots }) x) (frames_from first (length layout))) (link_of (record { layout = layout; roots = roots }) (frames_from first (length layout)) word) ≡ word
link-back first [] roots x word t r = absurd (omega (arith, size-some x))
link-back first (p ∷ layout) roots x word t r = elim (cases_eq word 0) [
  | inl none ↦ ap (λ b. link_word (address_of (with_object (record { layout = p ∷ layout; roots = roots }) x) (frames_from first (length (p ∷ layout)))) (if b then None else place_in (addresses_from first (p ∷ layout)) word)) (eq-eqb word 0 none) ∙ sym none
  | inr some ↦
      ap (λ b. link_word (address_of (with_object (record { layout = p ∷ layout; roots = roots }) x) (frames_from first (length (p ∷ layout)))) (if b then None else place_in (addresses_from first (p ∷ layout)) word)) (ne_eqb word 0 some)
      ∙ ap (λ xs. link_word (λ n. slice_index_or xs n 0) (place_in (addresses_from first (p ∷ layout)) word)) (addresses_in-last p layout (frames_from first (length (p ∷ layout))) x (let m = length-frames first (length (p ∷ layout)) in omega arith))
      ∙ link-found (addresses_from first (p ∷ layout)) (next_address (p ∷ layout) (frames_from first (length (p ∷ layout)))) word (placed (record { layout = p ∷ layout; roots = roots })) (place_in (addresses_from first (p ∷ layout)) word) refl
      (elim t [ inl z ↦ absurd (some z) | inr q ↦ q ])
]

no_words : (f : ℕ → ℕ) (n : ℕ) → map (link_word f) (no_links n) ≡ replicate n 0
no_words f zero = refl
no_words f (suc n) = ap (λ l. 0 ∷ l) (no_words f n)

-- Where a heap is after a change of its objects.
standing-mapped : (o : Option Heap) (f : Objects → List ℕ → Objects) (a : Objects) (frames : List ℕ) → option_map (λ (x : Heap). x.standing) o ≡ Some (locked a frames)
    → option_map (λ (x : Heap). x.standing) (option_map (λ (x : Heap). record x { standing = standing_with f x.standing }) o) ≡ Some (locked (f a frames) frames)
standing-mapped None f a frames e = absurd (none-some (locked a frames) e)
standing-mapped (Some x) f a frames e =
    let s : ◌≡◌ {A = Option Standing} (Some x.standing) (Some (locked a frames)) = e in
    let same : x.standing ≡ locked a frames = cc in
    ap (λ z. Some (standing_with f z)) same

pub after-standing : (s : Space) (h : ℕ) (f : Objects → List ℕ → Objects) (a : Objects) (frames : List ℕ) → standing_of s h ≡ Some (locked a frames) → standing_of (with_objects s h f) h ≡ Some (locked (f a frames) frames)
after-standing s h f a frames e =
    ap (λ o. option_map (λ (x : Heap). x.standing) o) (at-here s.heaps.heap h (option_map (λ (x : Heap). record x { standing = standing_with f x.standing }) (s.heaps.heap h)))
    ∙ standing-mapped (s.heaps.heap h) f a frames e

-- What a heap was when something was placed in it.
pub record Placing (s : Space) (h : ℕ) : Type 0 where
  pub first : ℕ
  pub layout : List (List Object)
  pub roots : List (Option ℕ)
  pub stands : standing_of s h ≡ Some (locked (record { layout = layout; roots = roots }) (frames_from first (length layout)))
  pub well : AreWellPlaced (record { layout = layout; roots = roots })
  pub few : length layout ≤ 65528

room-had : (s : Space) (h : ℕ) (p : Placing s h) (n : ℕ) → IfSome (room_in s h) (λ free. n ≤ free) → n ≤ room_left p.layout
room-had s h p n e = subst (λ st. IfSome (of_locked (λ o frames. Some (room_left o.layout)) st) (λ free. n ≤ free)) p.stands e

some-same : (x y : ℕ) → ◌≡◌ {A = Option ℕ} (Some x) (Some y) → x ≡ y
some-same x y e = cc

next-had : (s : Space) (h : ℕ) (p : Placing s h) (a : ℕ) → next_in s h ≡ Some a → next_address p.layout (frames_from p.first (length p.layout)) ≡ a
next-had s h p a e = some-same (next_address p.layout (frames_from p.first (length p.layout))) a (sym (ap (of_locked (λ o frames. Some (next_address o.layout frames))) p.stands) ∙ e)

abbrev pub with_new_object : (Objects → List ℕ → Object) → Objects → List ℕ → Objects
with_new_object g o frames = with_object o (g o frames)

pub object-there : (s t : Space) (h a : ℕ) (p : Placing s h) (g : Objects → List ℕ → Object) → t ≡ with_objects s h (with_new_object g) → next_in s h ≡ Some a
    → object_size (g (record { layout = p.layout; roots = p.roots }) (frames_from p.first (length p.layout))) ≤ room_left p.layout
    → object_in t h a ≡ Some (g (record { layout = p.layout; roots = p.roots }) (frames_from p.first (length p.layout)))
object-there s t h a p g e n r =
    let o : Objects = record { layout = p.layout; roots = p.roots } in
    let frames : List ℕ = frames_from p.first (length p.layout) in
    ap (λ z. object_in z h a) e
    ∙ ap (of_locked (λ o frames. object_at o frames a)) (after-standing s h (with_new_object g) o frames p.stands)
    ∙ ap (λ k. object_at (with_object o (g o frames)) frames k) (sym (next-had s h p a n))
    ∙ placed-there p.first p.layout p.roots (g o frames) p.well r (let f = p.few in omega arith)

pub objects-kept : (s t : Space) (h : ℕ) (p : Placing s h) (g : Objects → List ℕ → Object) → t ≡ with_objects s h (with_new_object g)
    → object_size (g (record { layout = p.layout; roots = p.roots }) (frames_from p.first (length p.layout))) ≤ room_left p.layout → KeepsObjects s t h
objects-kept s t h p g e r a x found =
    let o : Objects = record { layout = p.layout; roots = p.roots } in
    let frames : List ℕ = frames_from p.first (length p.layout) in
    ap (λ z. object_in z h a) e
    ∙ ap (of_locked (λ o frames. object_at o frames a)) (after-standing s h (with_new_object g) o frames p.stands)
    ∙ placed-kept p.first p.layout p.roots (g o frames) x a r (sym (ap (of_locked (λ o frames. object_at o frames a)) p.stands) ∙ found)

abbrev pub row_of : List ℕ → ℕ → Objects → List ℕ → Object
row_of payload word o frames = row_object payload (link_of o frames word)

abbrev pub words_new : ℕ → Objects → List ℕ → Object
words_new n o frames = directory (no_links n)

pub row-there : (s t : Space) (h word : ℕ) (payload : List ℕ) (r : Result Addr NoRoom) → Placing s h → OnOk r (t ≡ after_row s h payload word) → IfOk r (λ a. next_in s h ≡ Some a.word)
    → (IsOk r → IfSome (room_in s h) (λ free. object_size (row_object payload None) ≤ free)) → IfOk r (λ a. payload_in t h a.word ≡ Some payload)
row-there s t h word payload (Err x) p e n room = tt
row-there s t h word payload (Ok a) p e n room =
    ap (option_and_then payload_of) (object-there s t h a.word p (row_of payload word) e n (room-had s h p (object_size (row_object payload None)) (room refl)))

pub row-leads : (s t : Space) (h word : ℕ) (payload : List ℕ) (r : Result Addr NoRoom) → Placing s h → IsTarget s h word → OnOk r (t ≡ after_row s h payload word) → IfOk r (λ a. next_in s h ≡ Some a.word)
    → (IsOk r → IfSome (room_in s h) (λ free. object_size (row_object payload None) ≤ free)) → IfOk r (λ a. link_in t h a.word ≡ Some word)
row-leads s t h word payload (Err x) p target e n room = tt
row-leads s t h word payload (Ok a) p target e n room =
    let o : Objects = record { layout = p.layout; roots = p.roots } in
    let frames : List ℕ = frames_from p.first (length p.layout) in
    let x : Object = row_of payload word o frames in
    let fits : object_size x ≤ room_left p.layout = room-had s h p (object_size (row_object payload None)) (room refl) in
    let there : object_at (with_object o x) frames a.word ≡ Some x =
    ap (λ k. object_at (with_object o x) frames k) (sym (next-had s h p a.word n)) ∙ placed-there p.first p.layout p.roots x p.well fits (let f = p.few in omega arith) in
    let goal_word : (word ≡ 0) ⊎ IsSome (object_at o frames word) = elim target [
      | inl z ↦ inl z
      | inr q ↦ inr (subst (λ st. IsSome (of_locked (λ o frames. object_at o frames word) st)) p.stands q)
    ] in
    ap (λ z. link_in z h a.word) e
    ∙ ap (of_locked (λ o frames. option_map (link_word (address_of o frames)) (option_and_then row_link (object_at o frames a.word)))) (after-standing s h (with_new_object (row_of payload word)) o frames p.stands)
    ∙ ap (λ y. option_map (link_word (address_of (with_object o x) frames)) (option_and_then row_link y)) there
    ∙ ap Some (link-back p.first p.layout p.roots x word goal_word fits)

keeps-same : (s t : Space) (h : ℕ) → t ≡ s → KeepsObjects s t h
keeps-same s t h e a x found = ap (λ z. object_in z h a) e ∙ found

pub row-keeps : (s t : Space) (h word : ℕ) (payload : List ℕ) (r : Result Addr NoRoom) → Placing s h → OnOk r (t ≡ after_row s h payload word) → OnErr r (t ≡ s)
    → (IsOk r → IfSome (room_in s h) (λ free. object_size (row_object payload None) ≤ free)) → KeepsObjects s t h
row-keeps s t h word payload (Err x) p e n room = keeps-same s t h n
row-keeps s t h word payload (Ok a) p e n room = objects-kept s t h p (row_of payload word) e (room-had s h p (object_size (row_object payload None)) (room refl))

pub words-there : (s t : Space) (h count : ℕ) (r : Result Addr NoRoom) → Placing s h → OnOk r (t ≡ after_directory s h count) → IfOk r (λ a. next_in s h ≡ Some a.word)
    → (IsOk r → IfSome (room_in s h) (λ free. object_size (directory (no_links count)) ≤ free)) → IfOk r (λ a. words_in t h a.word ≡ Some (replicate count 0))
words-there s t h count (Err x) p e n room = tt
words-there s t h count (Ok a) p e n room =
    let o : Objects = record { layout = p.layout; roots = p.roots } in
    let frames : List ℕ = frames_from p.first (length p.layout) in
    let x : Object = directory (no_links count) in
    let fits : object_size x ≤ room_left p.layout = room-had s h p (object_size x) (room refl) in
    let there : object_at (with_object o x) frames a.word ≡ Some x =
    ap (λ k. object_at (with_object o x) frames k) (sym (next-had s h p a.word n)) ∙ placed-there p.first p.layout p.roots x p.well fits (let f = p.few in omega arith) in
    ap (λ z. words_in z h a.word) e
    ∙ ap (of_locked (λ o frames. option_map (words_of o frames) (option_and_then links_of (object_at o frames a.word)))) (after-standing s h (with_new_object (words_new count)) o frames p.stands)
    ∙ ap (λ y. option_map (words_of (with_object o x) frames) (option_and_then links_of y)) there
    ∙ ap Some (no_words (address_of (with_object o x) frames) count)

pub words-keep : (s t : Space) (h count : ℕ) (r : Result Addr NoRoom) → Placing s h → OnOk r (t ≡ after_directory s h count) → OnErr r (t ≡ s)
    → (IsOk r → IfSome (room_in s h) (λ free. object_size (directory (no_links count)) ≤ free)) → KeepsObjects s t h
words-keep s t h count (Err x) p e n room = keeps-same s t h n
words-keep s t h count (Ok a) p e n room = objects-kept s t h p (words_new count) e (room-had s h p (object_size (directory (no_links count))) (room refl))

-- a heap of a plain space that is locked
pub placing : (s : PlainParts) (h : ℕ) → IsWhole s → IsLocked (state_of s) h → Placing (state_of s) h
placing s h w l = let k : LockedAt s h = locked-at s h l in record {
  first = k.heap.objects.first;
  layout = k.heap.objects.layout.items;
  roots = k.heap.objects.roots;
  stands = standing-locked s h k.heap k.is k.locked;
  well = subst (λ z. Holds z (objects_in k.heap.objects)) k.locked (w.kept.each h k.heap k.is).holds;
  few = (w.kept.each h k.heap k.is).few;
}
