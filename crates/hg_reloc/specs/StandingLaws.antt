-- The pages of a heap stand in other frames once each of them is rewritten and names its new frame, also
-- where they land in one another's old frames.
use Rattle.std.specs.Prelude.{◌≡◌, ◌≢◌, ℕ, ◌+◌, ◌*◌, ◌/◌, ◌%◌, ◌<◌, ◌≤◌, ◌^◌, ◌⊎◌, zero, suc, List, [], ◌∷◌, ◌++◌, length, map, slice_index_or, Option, None, Some, if◌then◌else◌, ⊤}
use Rattle.std.specs.List.{AllByRecursion, flat_map, sum_by}
use Rattle.std.specs.Int.{w32, to_le_bytes}
use Rattle.std.proofs.Common.{inl, inr, sym, ◌∙◌, ap, subst, refl, arith, length-append}
use Rattle.std.proofs.lemmas.Bool.{ne_eqb}
use Rattle.std.proofs.lemmas.List.{map-append}
use Rattle.std.proofs.lemmas.Slice.{drop-put_mid}
use Rattle.std.proofs.lemmas.List.Sums.{sum_by-cons}
use borrow.Rule.Slice.PartMut.{put_mid}
use Rattle.hg_base.specs.Content.{Object, row_object, directory, Objects, placed, object_size, page_end, offsets_from, addresses_in, address_of}
use Rattle.hg_base.specs.HeapFacts.{LeadsBelow, IsObject, AreObjects, AreWellPlaced}
use Rattle.hg_base.specs.HeapPage.{IsHeapPage, AreHeapPages, Stands}
use Rattle.hg_base.specs.Lines.{AreApart}
use Rattle.hg_base.specs.Parts.{below, above, within, length-written}
use Rattle.hg_reloc.specs.Moves.{Moves, frame_after, moved_word}
use Rattle.hg_reloc.specs.Blocks.{IsMoved}
use Rattle.hg_reloc.specs.Standing.{MovesLink, MovesLinks, MovesPages}

-- the map leads each of these frames to the one beside it
abbrev pub LeadsTo : Moves → List ℕ → List ℕ → Type 0
LeadsTo m [] [] = ⊤
LeadsTo m (f ∷ fs) (g ∷ gs) = (frame_after m f ≡ g) × LeadsTo m fs gs
LeadsTo m fs gs = ⊥

-- A page was rewritten under the map, and names its new frame.
pub record IsRewritten (m : Moves) (frame : ℕ) (old new : List ℕ) : Type 0 where
  pub page : List ℕ
  pub moved : MovesPages m old page
  pub named : new ≡ put_mid 4 4 page (to_le_bytes w32 frame)

abbrev pub AreRewritten : Moves → List ℕ → List (List ℕ) → List (List ℕ) → Type 0
AreRewritten m [] [] [] = ⊤
AreRewritten m (f ∷ fs) (old ∷ olds) (new ∷ news) = IsRewritten m f old new × AreRewritten m fs olds news
AreRewritten m fs olds news = ⊥

-- Each of its addresses was moved, once, and it names its new frame; every other byte stayed.
pub record IsRelocated (m : Moves) (frame : ℕ) (old new : List ℕ) : Type 0 where
  pub page : List ℕ
  pub moved : IsMoved m old page
  pub named : new ≡ put_mid 4 4 page (to_le_bytes w32 frame)

abbrev pub AreRelocated : Moves → List ℕ → List (List ℕ) → List (List ℕ) → Type 0
AreRelocated m [] [] [] = ⊤
AreRelocated m (f ∷ fs) (old ∷ olds) (new ∷ news) = IsRelocated m f old new × AreRelocated m fs olds news
AreRelocated m fs olds news = ⊥

-- a page that names another frame is a page of that frame
pub named_page : (a : ℕ → ℕ) (roots : List (Option ℕ)) (os : List Object) (f g : ℕ) (page : List ℕ) → IsHeapPage a roots os f page
    → IsHeapPage a roots os g (put_mid 4 4 page (to_le_bytes w32 g))
named_page a roots os f g page h =
    let x : List ℕ = to_le_bytes w32 g in
    let l : 4 ≤ length page = omega (arith, h.size) in
    record {
      size = length-written page x 4 4 (omega (arith, h.size)) refl ∙ h.size;
      kind = below page x 4 4 0 2 (omega arith) l ∙ h.kind;
      end = below page x 4 4 2 2 (omega arith) l ∙ h.end;
      stood_in = within page x 4 4 l refl;
      first = above page x 4 4 8 56 (omega arith) l refl ∙ h.first;
      fits = h.fits;
      placed = drop-put_mid 4 4 page x 64 (omega arith) l refl ∙ h.placed;
    }

-- Addresses before and after.
abbrev IsOffset : ℕ → Type 0
IsOffset x = (64 ≤ x) × (x < 4096)

offsets_inside : (at : ℕ) (os : List Object) → 64 ≤ at → at + sum_by object_size os ≤ 4096 → AllByRecursion IsOffset (offsets_from at os)
offsets_inside at [] l h = tt
offsets_inside at (o ∷ os) l h =
    let s = sum_by-cons object_size o os in
    ((l, omega (arith, s)), offsets_inside (at + object_size o) os (omega arith) (omega (arith, s)))

moved_address : (m : Moves) (f x : ℕ) → IsOffset x → frame_after m f * 4096 + x ≡ moved_word m (f * 4096 + x)
moved_address m f x i =
    let lo : 64 ≤ x = i.0 in
    let hi : x < 4096 = i.1 in
    let n : f * 4096 + x ≢ 0 = (λ e. absurd (omega arith)) in
    let d : (f * 4096 + x) / 4096 ≡ f = omega arith in
    let r : (f * 4096 + x) % 4096 ≡ x = omega arith in
    sym (ap (λ b. if b then 0 else frame_after m ((f * 4096 + x) / 4096) * 4096 + (f * 4096 + x) % 4096) (ne_eqb (f * 4096 + x) 0 n)
    ∙ ap (λ q. frame_after m q * 4096 + (f * 4096 + x) % 4096) d
    ∙ ap (λ q. frame_after m f * 4096 + q) r)

moved_page_addresses : (m : Moves) (f g : ℕ) (xs : List ℕ) → frame_after m f ≡ g → AllByRecursion IsOffset xs
    → map (λ at. g * 4096 + at) xs ≡ map (moved_word m) (map (λ at. f * 4096 + at) xs)
moved_page_addresses m f g [] e h = refl
moved_page_addresses m f g (x ∷ xs) e h =
    ap (λ q. q ∷ map (λ at. g * 4096 + at) xs) (ap (λ q. q * 4096 + x) (sym e) ∙ moved_address m f x h.0)
    ∙ ap (λ q. moved_word m (f * 4096 + x) ∷ q) (moved_page_addresses m f g xs e h.1)

moved_addresses : (m : Moves) (layout : List (List Object)) (fs gs : List ℕ) → AllByRecursion (λ page. page_end page ≤ 4096) layout → LeadsTo m fs gs
    → addresses_in layout gs ≡ map (moved_word m) (addresses_in layout fs)
moved_addresses m [] fs gs h l = refl
moved_addresses m (page ∷ layout) [] [] h l = refl
moved_addresses m (page ∷ layout) [] (g ∷ gs) h l = absurd l
moved_addresses m (page ∷ layout) (f ∷ fs) [] h l = absurd l
moved_addresses m (page ∷ layout) (f ∷ fs) (g ∷ gs) h l =
    ap (λ q. q ++ addresses_in layout gs) (moved_page_addresses m f g (offsets_from 64 page) l.0 (offsets_inside 64 page (omega arith) h.0))
    ∙ ap (λ q. map (moved_word m) (map (λ at. f * 4096 + at) (offsets_from 64 page)) ++ q) (moved_addresses m layout fs gs h.1 l.1)
    ∙ sym (map-append (moved_word m) (map (λ at. f * 4096 + at) (offsets_from 64 page)) (addresses_in layout fs))

nth_map : (g : ℕ → ℕ) (xs : List ℕ) (n : ℕ) → n < length xs → slice_index_or (map g xs) n 0 ≡ g (slice_index_or xs n 0)
nth_map g [] n h = absurd (omega arith)
nth_map g (x ∷ xs) zero h = refl
nth_map g (x ∷ xs) (suc n) h = nth_map g xs n (omega arith)

nth_small : (xs : List ℕ) (n : ℕ) → AllByRecursion (λ x. x < 2 ^ 64) xs → slice_index_or xs n 0 < 2 ^ 64
nth_small [] n h = omega arith
nth_small (x ∷ xs) zero h = h.0
nth_small (x ∷ xs) (suc n) h = nth_small xs n h.1

-- each object has an address, and it is small
pub length-offsets : (at : ℕ) (os : List Object) → length (offsets_from at os) ≡ length os
length-offsets at [] = refl
length-offsets at (o ∷ os) = omega (arith, length-offsets (at + object_size o) os)

pub length-mapped : (f : ℕ) (xs : List ℕ) → length (map (λ at. f * 4096 + at) xs) ≡ length xs
length-mapped f [] = refl
length-mapped f (x ∷ xs) = omega (arith, length-mapped f xs)

pub length-addresses : (layout : List (List Object)) (fs : List ℕ) → length fs ≡ length layout → length (addresses_in layout fs) ≡ length (flat_map (λ page. page) layout)
length-addresses [] fs h = refl
length-addresses (page ∷ layout) [] h = absurd (omega arith)
length-addresses (page ∷ layout) (f ∷ fs) h =
    length-append (map (λ at. f * 4096 + at) (offsets_from 64 page)) (addresses_in layout fs)
    ∙ omega (arith, length-mapped f (offsets_from 64 page), length-offsets 64 page, length-addresses layout fs (omega arith), length-append page (flat_map (λ p. p) layout))

small_page : (f : ℕ) (xs ys : List ℕ) → f < 65536 → AllByRecursion IsOffset xs → AllByRecursion (λ x. x < 2 ^ 64) ys → AllByRecursion (λ x. x < 2 ^ 64) (map (λ at. f * 4096 + at) xs ++ ys)
small_page f [] ys l h k = k
small_page f (x ∷ xs) ys l h k = (let hi : x < 4096 = h.0.1 in omega arith, small_page f xs ys l h.1 k)

small_addresses : (layout : List (List Object)) (fs : List ℕ) → AllByRecursion (λ page. page_end page ≤ 4096) layout → AllByRecursion (λ f. f < 65536) fs
    → AllByRecursion (λ x. x < 2 ^ 64) (addresses_in layout fs)
small_addresses [] fs h l = tt
small_addresses (page ∷ layout) [] h l = tt
small_addresses (page ∷ layout) (f ∷ fs) h l =
    small_page f (offsets_from 64 page) (addresses_in layout fs) l.0 (offsets_inside 64 page (omega arith) h.0) (small_addresses layout fs h.1 l.1)

-- Links before and after.
pub record MovesTo (m : Moves) (a b : ℕ → ℕ) (count : ℕ) : Type 0 where
  pub each : (n : ℕ) → n < count → (a n < 2 ^ 64) × (moved_word m (a n) ≡ b n)

link_moves : (m : Moves) (a b : ℕ → ℕ) (count n : ℕ) (l : Option ℕ) → MovesTo m a b count → n ≤ count → LeadsBelow n l → MovesLink m a b l
link_moves m a b count n None t h k = tt
link_moves m a b count n (Some x) t h k = t.each x (omega (arith, k))

links_move : (m : Moves) (a b : ℕ → ℕ) (count : ℕ) (ls : List (Option ℕ)) → MovesTo m a b count → AllByRecursion (LeadsBelow count) ls → AllByRecursion (MovesLink m a b) ls
links_move m a b count [] t k = tt
links_move m a b count (l ∷ ls) t k = (link_moves m a b count count l t (omega arith) k.0, links_move m a b count ls t k.1)

object_moves : (m : Moves) (a b : ℕ → ℕ) (count n : ℕ) (o : Object) → MovesTo m a b count → n ≤ count → IsObject n count o → MovesLinks m a b o
object_moves m a b count n (row_object payload link) t h i = (i.0, i.1, link_moves m a b count n link t h i.2)
object_moves m a b count n (directory links) t h i = links_move m a b count links t i

objects_move : (m : Moves) (a b : ℕ → ℕ) (count n : ℕ) (os : List Object) → MovesTo m a b count → n + length os ≡ count → AreObjects n count os → AllByRecursion (MovesLinks m a b) os
objects_move m a b count n [] t h k = tt
objects_move m a b count n (o ∷ os) t h k = (object_moves m a b count n o t (omega arith) k.0, objects_move m a b count (n + 1) os t (omega arith) k.1)

all_first : (P : Object → Type 0) (xs ys : List Object) → AllByRecursion P (xs ++ ys) → AllByRecursion P xs × AllByRecursion P ys
all_first P [] ys h = (tt, h)
all_first P (x ∷ xs) ys h = let r = all_first P xs ys h.1 in ((h.0, r.0), r.1)

pub all_pages : (P : Object → Type 0) (layout : List (List Object)) → AllByRecursion P (flat_map (λ page. page) layout) → AllByRecursion (AllByRecursion P) layout
all_pages P [] h = tt
all_pages P (page ∷ layout) h = let r = all_first P page (flat_map (λ p. p) layout) h in (r.0, all_pages P layout r.1)

-- Pages before and after.
one_moves : (m : Moves) (a b : ℕ → ℕ) (roots : List (Option ℕ)) (os : List Object) (f g : ℕ) (old new : List ℕ) → IsHeapPage a roots os f old → (length roots ≡ 4) ⊎ (roots ≡ [])
    → AllByRecursion (MovesLink m a b) roots → AllByRecursion (MovesLinks m a b) os → IsRewritten m g old new → IsHeapPage b roots os g new
one_moves m a b roots os f g old new h four r o w =
    subst (IsHeapPage b roots os g) (sym w.named)
    (named_page b roots os f g w.page (w.moved a b roots os f (record { is = h; four = four; roots_move = r; objects_move = o })))

pages_move : (m : Moves) (a b : ℕ → ℕ) (roots : List (Option ℕ)) (layout : List (List Object)) (fs gs : List ℕ) (olds news : List (List ℕ)) → AreHeapPages a roots layout fs olds
    → (length roots ≡ 4) ⊎ (roots ≡ []) → AllByRecursion (MovesLink m a b) roots → AllByRecursion (AllByRecursion (MovesLinks m a b)) layout → AreRewritten m gs olds news
    → AreHeapPages b roots layout gs news
pages_move m a b roots [] [] [] [] [] h four r o w = tt
pages_move m a b roots [] [] [] [] (new ∷ news) h four r o w = absurd w
pages_move m a b roots [] [] (g ∷ gs) [] news h four r o w = absurd w
pages_move m a b roots [] [] gs (old ∷ olds) news h four r o w = absurd h
pages_move m a b roots [] (f ∷ fs) gs olds news h four r o w = absurd h
pages_move m a b roots (os ∷ layout) [] gs olds news h four r o w = absurd h
pages_move m a b roots (os ∷ layout) (f ∷ fs) gs [] news h four r o w = absurd h
pages_move m a b roots (os ∷ layout) (f ∷ fs) [] (old ∷ olds) news h four r o w = absurd w
pages_move m a b roots (os ∷ layout) (f ∷ fs) (g ∷ gs) (old ∷ olds) [] h four r o w = absurd w
pages_move m a b roots (os ∷ layout) (f ∷ fs) (g ∷ gs) (old ∷ olds) (new ∷ news) h four r o w =
    (one_moves m a b roots os f g old new h.0 four r o.0 w.0, pages_move m a b [] layout fs gs olds news h.1 (inr refl) tt o.1 w.1)

pub same_many : (a : ℕ → ℕ) (roots : List (Option ℕ)) (layout : List (List Object)) (fs : List ℕ) (pages : List (List ℕ)) → AreHeapPages a roots layout fs pages → length fs ≡ length layout
same_many a roots [] [] [] h = refl
same_many a roots [] [] (p ∷ pages) h = absurd h
same_many a roots [] (f ∷ fs) pages h = absurd h
same_many a roots (os ∷ layout) [] pages h = absurd h
same_many a roots (os ∷ layout) (f ∷ fs) [] h = absurd h
same_many a roots (os ∷ layout) (f ∷ fs) (p ∷ pages) h = omega (arith, same_many a [] layout fs pages h.1)

-- The theorem: a heap whose pages are rewritten under a map that leads its frames to others, and name
-- these, stands in them.
pub stands_moved : (m : Moves) (o : Objects) (fs gs : List ℕ) (olds news : List (List ℕ)) → AreWellPlaced o → Stands o fs olds → LeadsTo m fs gs
    → AreApart gs → AllByRecursion (λ f. f < 65536) gs → AreRewritten m gs olds news → Stands o gs news
stands_moved m o fs gs olds news w s l apart below w2 =
    let n : length fs ≡ length o.layout = same_many (address_of o fs) o.roots o.layout fs olds s.bytes in
    let t : MovesTo m (address_of o fs) (address_of o gs) (length (placed o)) = record {
      each = λ k h. (
        nth_small (addresses_in o.layout fs) k (small_addresses o.layout fs w.pages s.below),
        sym (ap (λ q. slice_index_or q k 0) (moved_addresses m o.layout fs gs w.pages l)
            ∙ nth_map (moved_word m) (addresses_in o.layout fs) k (let e = length-addresses o.layout fs n in omega arith)),
      );
    } in
    record {
      apart = apart;
      below = below;
      bytes = pages_move m (address_of o fs) (address_of o gs) o.roots o.layout fs gs olds news s.bytes (inl w.four)
          (links_move m (address_of o fs) (address_of o gs) (length (placed o)) o.roots t w.roots)
          (all_pages (MovesLinks m (address_of o fs) (address_of o gs)) o.layout
          (objects_move m (address_of o fs) (address_of o gs) (length (placed o)) 0 (placed o) t (omega arith) w.objects)) w2;
    }
