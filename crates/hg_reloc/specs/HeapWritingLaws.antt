-- What the writes of a heap do to the pages in which its objects stand.
use Rattle.std.specs.Prelude.{◌≡◌, ℕ, ◌+◌, ◌-◌, ◌*◌, ◌<◌, ◌≤◌, zero, suc, true, false, List, [], ◌∷◌, ◌++◌, length, map, replicate, slice_set, slice_index_or, nat_lt, Option, None, Some, if◌then◌else◌, ⊤}
use Rattle.std.specs.List.{AllByRecursion, flat_map}
use Rattle.std.specs.Int.{w16, w64, to_le_bytes}
use Rattle.std.proofs.Common.{sym, ◌∙◌, ap, subst, refl, arith, length-append}
use Rattle.std.proofs.lemmas.Bool.{lt-ltb, le-ltb}
use borrow.Rule.Slice.PartMut.{put_mid}
use Rattle.hg_base.specs.Content.{Object, row_object, directory, Objects, placed, object_size, page_end, offsets_from, addresses_in, address_of}
use Rattle.hg_base.specs.HeapContent.{with_last, with_object, next_address, changed_on, changed_in}
use Rattle.hg_base.specs.HeapFacts.{LeadsBelow, IsObject, AreObjects, AreWellPlaced}
use Rattle.hg_base.specs.HeapLaws.{addresses_in-last}
use Rattle.hg_base.specs.HeapPage.{link_bytes, object_bytes, IsHeapPage, AreHeapPages, Stands}
use Rattle.hg_reloc.specs.StandingLaws.{same_many, length-addresses, all_pages}
use Rattle.hg_reloc.specs.WritingLaws.{IsPartOf, root_written, object_written, object_placed, payload_part, word_part}

-- Addresses that are the same for all links of an object make the same bytes.
abbrev pub SameLink : (ℕ → ℕ) → (ℕ → ℕ) → Option ℕ → Type 0
SameLink a b None = ⊤
SameLink a b (Some n) = a n ≡ b n

abbrev pub SameLinks : (ℕ → ℕ) → (ℕ → ℕ) → Object → Type 0
SameLinks a b (row_object payload link) = SameLink a b link
SameLinks a b (directory links) = AllByRecursion (SameLink a b) links

same_link : (a b : ℕ → ℕ) (l : Option ℕ) → SameLink a b l → link_bytes a l ≡ link_bytes b l
same_link a b None h = refl
same_link a b (Some n) h = ap (to_le_bytes w64) h

same_links : (a b : ℕ → ℕ) (ls : List (Option ℕ)) → AllByRecursion (SameLink a b) ls → flat_map (link_bytes a) ls ≡ flat_map (link_bytes b) ls
same_links a b [] h = refl
same_links a b (l ∷ ls) h = ap (λ q. q ++ flat_map (link_bytes a) ls) (same_link a b l h.0) ∙ ap (λ q. link_bytes b l ++ q) (same_links a b ls h.1)

same_object : (a b : ℕ → ℕ) (o : Object) → SameLinks a b o → object_bytes a o ≡ object_bytes b o
same_object a b (row_object payload link) h =
    ap (λ q. to_le_bytes w16 (length payload) ++ 1 ∷ replicate 5 0 ++ q ++ payload ++ replicate (object_size (row_object payload link) - 16 - length payload) 0) (same_link a b link h)
same_object a b (directory links) h =
    ap (λ q. to_le_bytes w16 (8 * length links) ++ 2 ∷ replicate 5 0 ++ link_bytes a None ++ q ++ replicate (object_size (directory links) - 16 - 8 * length links) 0) (same_links a b links h)

same_objects : (a b : ℕ → ℕ) (os : List Object) → AllByRecursion (SameLinks a b) os → flat_map (object_bytes a) os ≡ flat_map (object_bytes b) os
same_objects a b [] h = refl
same_objects a b (o ∷ os) h = ap (λ q. q ++ flat_map (object_bytes a) os) (same_object a b o h.0) ∙ ap (λ q. object_bytes b o ++ q) (same_objects a b os h.1)

same_page : (a b : ℕ → ℕ) (roots : List (Option ℕ)) (os : List Object) (f : ℕ) (page : List ℕ) → AllByRecursion (SameLink a b) roots → AllByRecursion (SameLinks a b) os
    → IsHeapPage a roots os f page → IsHeapPage b roots os f page
same_page a b roots os f page r o h = record {
  size = h.size;
  kind = h.kind;
  end = h.end;
  stood_in = h.stood_in;
  first = h.first ∙ ap (λ q. replicate 8 0 ++ q ++ replicate (48 - 8 * length roots) 0) (same_links a b roots r);
  fits = h.fits;
  placed = h.placed ∙ ap (λ q. q ++ replicate (4096 - page_end os) 0) (same_objects a b os o);
}

same_pages : (a b : ℕ → ℕ) (roots : List (Option ℕ)) (layout : List (List Object)) (fs : List ℕ) (pages : List (List ℕ)) → AllByRecursion (SameLink a b) roots
    → AllByRecursion (AllByRecursion (SameLinks a b)) layout → AreHeapPages a roots layout fs pages → AreHeapPages b roots layout fs pages
same_pages a b roots [] [] [] r o h = tt
same_pages a b roots [] [] (p ∷ pages) r o h = absurd h
same_pages a b roots [] (f ∷ fs) pages r o h = absurd h
same_pages a b roots (os ∷ layout) [] pages r o h = absurd h
same_pages a b roots (os ∷ layout) (f ∷ fs) [] r o h = absurd h
same_pages a b roots (os ∷ layout) (f ∷ fs) (p ∷ pages) r o h = (same_page a b roots os f p r o.0 h.0, same_pages a b [] layout fs pages tt o.1 h.1)

-- links to objects that there are
pub record SameBelow (a b : ℕ → ℕ) (count : ℕ) : Type 0 where
  pub each : (n : ℕ) → n < count → a n ≡ b n

link_below : (a b : ℕ → ℕ) (count n : ℕ) (l : Option ℕ) → SameBelow a b count → n ≤ count → LeadsBelow n l → SameLink a b l
link_below a b count n None s h k = tt
link_below a b count n (Some x) s h k = s.each x (omega (arith, k))

links_below : (a b : ℕ → ℕ) (count : ℕ) (ls : List (Option ℕ)) → SameBelow a b count → AllByRecursion (LeadsBelow count) ls → AllByRecursion (SameLink a b) ls
links_below a b count [] s k = tt
links_below a b count (l ∷ ls) s k = (link_below a b count count l s (omega arith) k.0, links_below a b count ls s k.1)

object_below : (a b : ℕ → ℕ) (count n : ℕ) (o : Object) → SameBelow a b count → n ≤ count → IsObject n count o → SameLinks a b o
object_below a b count n (row_object payload link) s h i = link_below a b count n link s h i.2
object_below a b count n (directory links) s h i = links_below a b count links s i

objects_below : (a b : ℕ → ℕ) (count n : ℕ) (os : List Object) → SameBelow a b count → n + length os ≡ count → AreObjects n count os → AllByRecursion (SameLinks a b) os
objects_below a b count n [] s h k = tt
objects_below a b count n (o ∷ os) s h k = (object_below a b count n o s (omega arith) k.0, objects_below a b count (n + 1) os s (omega arith) k.1)

root_pages : (a : ℕ → ℕ) (roots : List (Option ℕ)) (layout : List (List Object)) (fs : List ℕ) (page : List ℕ) (pages : List (List ℕ)) (k : ℕ) (to : Option ℕ) → length roots ≡ 4 → k < 4
    → AreHeapPages a roots layout fs (page ∷ pages) → AreHeapPages a (slice_set roots k to) layout fs (put_mid (16 + 8 * k) 8 page (link_bytes a to) ∷ pages)
root_pages a roots [] [] page pages k to four h p = absurd p
root_pages a roots [] (f ∷ fs) page pages k to four h p = absurd p
root_pages a roots (os ∷ layout) [] page pages k to four h p = absurd p
root_pages a roots (os ∷ layout) (f ∷ fs) page pages k to four h p = (root_written a roots os f page k to four h p.0, p.1)

-- A root, in the first page.
pub stands_root : (o : Objects) (fs : List ℕ) (page : List ℕ) (pages : List (List ℕ)) (k : ℕ) (to : Option ℕ) → AreWellPlaced o → k < 4 → Stands o fs (page ∷ pages)
    → Stands (record o { roots = slice_set o.roots k to }) fs (put_mid (16 + 8 * k) 8 page (link_bytes (address_of o fs) to) ∷ pages)
stands_root o fs page pages k to w h s = record {
  apart = s.apart;
  below = s.below;
  bytes = root_pages (address_of o fs) o.roots o.layout fs page pages k to w.four h s.bytes;
}

-- The bytes of one object more, and the new end, on the last page.
abbrev pub last_end : List (List Object) → ℕ
last_end [] = 0
last_end (page ∷ []) = page_end page
last_end (page ∷ next ∷ pages) = last_end (next ∷ pages)

abbrev pub with_bytes : ℕ → ℕ → List ℕ → List ℕ → List ℕ
with_bytes at size bytes page = put_mid 2 2 (put_mid at size page bytes) (to_le_bytes w16 (at + size))

abbrev pub last_changed : (List ℕ → List ℕ) → List (List ℕ) → List (List ℕ)
last_changed f [] = []
last_changed f (page ∷ []) = f page ∷ []
last_changed f (page ∷ next ∷ pages) = page ∷ last_changed f (next ∷ pages)

no_pages : (a : ℕ → ℕ) (page : List Object) (layout : List (List Object)) (fs : List ℕ) → AreHeapPages a [] (page ∷ layout) fs [] → ⊥
no_pages a page layout [] h = h
no_pages a page layout (f ∷ fs) h = h

placed_pages : (a : ℕ → ℕ) (roots : List (Option ℕ)) (page : List Object) (layout : List (List Object)) (x : Object) (fs : List ℕ) (pages : List (List ℕ)) → 8 * length roots ≤ 48
    → last_end (page ∷ layout) + object_size x ≤ 4096 → AreHeapPages a roots (page ∷ layout) fs pages
    → AreHeapPages a roots (with_last (page ∷ layout) x) fs (last_changed (with_bytes (last_end (page ∷ layout)) (object_size x) (object_bytes a x)) pages)
placed_pages a roots page layout x [] pages four room p = absurd p
placed_pages a roots page layout x (f ∷ fs) [] four room p = absurd p
placed_pages a roots page [] x (f ∷ []) (q ∷ []) four room p = (object_placed a roots page x f q four room p.0, tt)
placed_pages a roots page [] x (f ∷ g ∷ fs) (q ∷ pages) four room p = absurd p.1
placed_pages a roots page [] x (f ∷ []) (q ∷ r ∷ pages) four room p = absurd p.1
placed_pages a roots page (next ∷ layout) x (f ∷ fs) (q ∷ []) four room p = absurd (no_pages a next layout fs p.1)
placed_pages a roots page (next ∷ layout) x (f ∷ fs) (q ∷ r ∷ pages) four room p = (p.0, placed_pages a [] next layout x fs (r ∷ pages) (omega arith) room p.1)

nth-front : (xs : List ℕ) (y n : ℕ) → n < length xs → slice_index_or xs n 0 ≡ slice_index_or (xs ++ y ∷ []) n 0
nth-front [] y n h = absurd (omega arith)
nth-front (x ∷ xs) y zero h = refl
nth-front (x ∷ xs) y (suc n) h = nth-front xs y n (omega arith)

all_last : (P : Object → Type 0) (os : List Object) (x : Object) → AllByRecursion P os → P x → AllByRecursion P (os ++ x ∷ [])
all_last P [] x h p = (p, tt)
all_last P (o ∷ os) x h p = (h.0, all_last P os x h.1 p)

with_last_pages : (P : Object → Type 0) (page : List Object) (layout : List (List Object)) (x : Object) → AllByRecursion (AllByRecursion P) (page ∷ layout) → P x
    → AllByRecursion (AllByRecursion P) (with_last (page ∷ layout) x)
with_last_pages P page [] x h p = (all_last P page x h.0 p, tt)
with_last_pages P page (next ∷ layout) x h p = (h.0, with_last_pages P next layout x h.1 p)

-- An object that is placed: it leads to objects that there are, and it fits on the last page.
pub stands_placed : (page : List Object) (layout : List (List Object)) (roots : List (Option ℕ)) (x : Object) (fs : List ℕ) (pages : List (List ℕ))
    → AreWellPlaced (record { layout = page ∷ layout; roots = roots })
    → IsObject (length (placed (record { layout = page ∷ layout; roots = roots }))) (length (placed (record { layout = page ∷ layout; roots = roots }))) x
    → last_end (page ∷ layout) + object_size x ≤ 4096
    → Stands (record { layout = page ∷ layout; roots = roots }) fs pages
    → Stands (with_object (record { layout = page ∷ layout; roots = roots }) x) fs
    (last_changed (with_bytes (last_end (page ∷ layout)) (object_size x) (object_bytes (address_of (record { layout = page ∷ layout; roots = roots }) fs) x)) pages)
stands_placed page layout roots x fs pages w i room s =
    let o : Objects = record { layout = page ∷ layout; roots = roots } in
    let a : ℕ → ℕ = address_of o fs in
    let b : ℕ → ℕ = address_of (with_object o x) fs in
    let n : length fs ≡ length (page ∷ layout) = same_many a roots (page ∷ layout) fs pages s.bytes in
    let count : ℕ = length (placed o) in
    let same : SameBelow a b count = record {
      each = λ k h.
          let l : length (addresses_in (page ∷ layout) fs) ≡ count = length-addresses (page ∷ layout) fs n in
          nth-front (addresses_in (page ∷ layout) fs) (next_address (page ∷ layout) fs) k (omega arith)
          ∙ ap (λ q. slice_index_or q k 0) (sym (addresses_in-last page layout fs x (omega arith)));
    } in
    let all : AllByRecursion (AllByRecursion (SameLinks a b)) (page ∷ layout) =
    all_pages (SameLinks a b) (page ∷ layout) (objects_below a b count 0 (placed o) same (omega arith) w.objects) in
    record {
      apart = s.apart;
      below = s.below;
      bytes = same_pages a b roots (with_last (page ∷ layout) x) fs (last_changed (with_bytes (last_end (page ∷ layout)) (object_size x) (object_bytes a x)) pages)
          (links_below a b count roots same w.roots)
          (with_last_pages (SameLinks a b) page layout x all (object_below a b count count x same (omega arith) i))
          (placed_pages a roots page layout x fs pages (let f = w.four in omega arith) room s.bytes);
    }

-- An object changed in a part of its bytes, on the page on which it stands.
abbrev pub page_changed : (List ℕ → List ℕ) → ℕ → List (List ℕ) → List (List ℕ)
page_changed f n [] = []
page_changed f zero (page ∷ pages) = f page ∷ pages
page_changed f (suc n) (page ∷ pages) = page ∷ page_changed f n pages

offsets_same : (at : ℕ) (front behind : List Object) (x new : Object) → object_size new ≡ object_size x → offsets_from at (front ++ new ∷ behind) ≡ offsets_from at (front ++ x ∷ behind)
offsets_same at [] behind x new e = ap (λ n. at ∷ offsets_from (at + n) behind) e
offsets_same at (o ∷ front) behind x new e = ap (λ q. at ∷ q) (offsets_same (at + object_size o) front behind x new e)

addresses_same : (before after : List (List Object)) (front behind : List Object) (x new : Object) (fs : List ℕ) → object_size new ≡ object_size x
    → addresses_in (before ++ (front ++ new ∷ behind) ∷ after) fs ≡ addresses_in (before ++ (front ++ x ∷ behind) ∷ after) fs
addresses_same [] after front behind x new [] e = refl
addresses_same [] after front behind x new (f ∷ fs) e = ap (λ q. map (λ at. f * 4096 + at) q ++ addresses_in after fs) (offsets_same 64 front behind x new e)
addresses_same (page ∷ before) after front behind x new [] e = refl
addresses_same (page ∷ before) after front behind x new (f ∷ fs) e =
    ap (λ q. map (λ at. f * 4096 + at) (offsets_from 64 page) ++ q) (addresses_same before after front behind x new fs e)

changed_pages : (a : ℕ → ℕ) (roots : List (Option ℕ)) (before after : List (List Object)) (front behind : List Object) (x new : Object) (fs : List ℕ) (pages : List (List ℕ)) (at n : ℕ) (bytes : List ℕ)
    → 8 * length roots ≤ 48 → IsPartOf a x new at n bytes → AreHeapPages a roots (before ++ (front ++ x ∷ behind) ∷ after) fs pages
    → AreHeapPages a roots (before ++ (front ++ new ∷ behind) ∷ after) fs (page_changed (λ page. put_mid (page_end front + at) n page bytes) (length before) pages)
changed_pages a roots [] after front behind x new [] pages at n bytes four p h = absurd h
changed_pages a roots [] after front behind x new (f ∷ fs) [] at n bytes four p h = absurd h
changed_pages a roots [] after front behind x new (f ∷ fs) (page ∷ pages) at n bytes four p h =
    (object_written a roots front behind x new f page at n bytes four p h.0, h.1)
changed_pages a roots (os ∷ before) after front behind x new [] pages at n bytes four p h = absurd h
changed_pages a roots (os ∷ before) after front behind x new (f ∷ fs) [] at n bytes four p h = absurd h
changed_pages a roots (os ∷ before) after front behind x new (f ∷ fs) (page ∷ pages) at n bytes four p h =
    (h.0, changed_pages a [] before after front behind x new fs pages at n bytes (omega arith) p h.1)

pub stands_changed : (roots : List (Option ℕ)) (before after : List (List Object)) (front behind : List Object) (x new : Object) (fs : List ℕ) (pages : List (List ℕ)) (at n : ℕ) (bytes : List ℕ)
    → length roots ≡ 4 → IsPartOf (address_of (record { layout = before ++ (front ++ x ∷ behind) ∷ after; roots = roots }) fs) x new at n bytes
    → Stands (record { layout = before ++ (front ++ x ∷ behind) ∷ after; roots = roots }) fs pages
    → Stands (record { layout = before ++ (front ++ new ∷ behind) ∷ after; roots = roots }) fs
    (page_changed (λ page. put_mid (page_end front + at) n page bytes) (length before) pages)
stands_changed roots before after front behind x new fs pages at n bytes four p s = record {
  apart = s.apart;
  below = s.below;
  bytes = subst (λ (q : List ℕ). AreHeapPages (λ k. slice_index_or q k 0) roots (before ++ (front ++ new ∷ behind) ∷ after) fs
      (page_changed (λ page. put_mid (page_end front + at) n page bytes) (length before) pages))
      (sym (addresses_same before after front behind x new fs p.same))
      (changed_pages (address_of (record { layout = before ++ (front ++ x ∷ behind) ∷ after; roots = roots }) fs) roots before after front behind x new fs pages at n bytes (omega arith) p s.bytes);
}

-- another payload of a row, as long as the one before, and another word of a directory
pub stands_payload : (roots : List (Option ℕ)) (before after : List (List Object)) (front behind : List Object) (payload bytes : List ℕ) (link : Option ℕ) (fs : List ℕ) (pages : List (List ℕ))
    → length roots ≡ 4 → length bytes ≡ length payload
    → Stands (record { layout = before ++ (front ++ row_object payload link ∷ behind) ∷ after; roots = roots }) fs pages
    → Stands (record { layout = before ++ (front ++ row_object bytes link ∷ behind) ∷ after; roots = roots }) fs
    (page_changed (λ page. put_mid (page_end front + 16) (length payload) page bytes) (length before) pages)
stands_payload roots before after front behind payload bytes link fs pages four e s =
    stands_changed roots before after front behind (row_object payload link) (row_object bytes link) fs pages 16 (length payload) bytes four
    (payload_part (address_of (record { layout = before ++ (front ++ row_object payload link ∷ behind) ∷ after; roots = roots }) fs) payload bytes link e) s

pub stands_word : (roots : List (Option ℕ)) (before after : List (List Object)) (front behind : List Object) (links : List (Option ℕ)) (k : ℕ) (to : Option ℕ) (fs : List ℕ) (pages : List (List ℕ))
    → length roots ≡ 4 → k < length links
    → Stands (record { layout = before ++ (front ++ directory links ∷ behind) ∷ after; roots = roots }) fs pages
    → Stands (record { layout = before ++ (front ++ directory (slice_set links k to) ∷ behind) ∷ after; roots = roots }) fs
    (page_changed (λ page. put_mid (page_end front + (16 + 8 * k)) 8 page
    (link_bytes (address_of (record { layout = before ++ (front ++ directory links ∷ behind) ∷ after; roots = roots }) fs) to)) (length before) pages)
stands_word roots before after front behind links k to fs pages four h s =
    let a : ℕ → ℕ = address_of (record { layout = before ++ (front ++ directory links ∷ behind) ∷ after; roots = roots }) fs in
    stands_changed roots before after front behind (directory links) (directory (slice_set links k to)) fs pages (16 + 8 * k) 8 (link_bytes a to) four (word_part a links k to h) s

-- The n-th of all objects is this one: those before it are so many, and it is the one that is changed.
changed_on-there : (g : Object → Object) (front behind : List Object) (x : Object) → changed_on g (length front) (front ++ x ∷ behind) ≡ front ++ g x ∷ behind
changed_on-there g [] behind x = refl
changed_on-there g (o ∷ front) behind x = ap (λ q. o ∷ q) (changed_on-there g front behind x)

pub changed_in-there : (g : Object → Object) (before after : List (List Object)) (front behind : List Object) (x : Object)
    → changed_in g (length (flat_map (λ page. page) before) + length front) (before ++ (front ++ x ∷ behind) ∷ after) ≡ before ++ (front ++ g x ∷ behind) ∷ after
changed_in-there g [] after front behind x =
    let n : 0 + length front ≡ length front = omega arith in
    let l : nat_lt (0 + length front) (length (front ++ x ∷ behind)) ≡ true = lt-ltb (0 + length front) (length (front ++ x ∷ behind)) (omega (arith, length-append front (x ∷ behind))) in
    ap (λ b. if b then changed_on g (0 + length front) (front ++ x ∷ behind) ∷ after else (front ++ x ∷ behind) ∷ changed_in g (0 + length front - length (front ++ x ∷ behind)) after) l
    ∙ ap (λ q. changed_on g q (front ++ x ∷ behind) ∷ after) n
    ∙ ap (λ q. q ∷ after) (changed_on-there g front behind x)
changed_in-there g (page ∷ before) after front behind x =
    let all : length (page ++ flat_map (λ p. p) before) ≡ length page + length (flat_map (λ p. p) before) = length-append page (flat_map (λ p. p) before) in
    let k : ℕ = length (page ++ flat_map (λ p. p) before) + length front in
    let l : nat_lt k (length page) ≡ false = le-ltb k (length page) (omega arith) in
    let n : k - length page ≡ length (flat_map (λ p. p) before) + length front = omega arith in
    ap (λ b. if b then changed_on g k page ∷ (before ++ (front ++ x ∷ behind) ∷ after) else page ∷ changed_in g (k - length page) (before ++ (front ++ x ∷ behind) ∷ after)) l
    ∙ ap (λ q. page ∷ changed_in g q (before ++ (front ++ x ∷ behind) ∷ after)) n
    ∙ ap (λ q. page ∷ q) (changed_in-there g before after front behind x)
