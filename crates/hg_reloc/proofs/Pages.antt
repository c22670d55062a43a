-- A page of a heap, with its objects as bytes.
use Rattle.std.specs.Prelude.{◌≡◌, ℕ, ◌+◌, ◌-◌, ◌*◌, ◌/◌, ◌<◌, ◌≤◌, ◌^◌, ◌⊎◌, suc, List, [], ◌∷◌, ◌++◌, length, take, drop, replicate, map, slice_index, Option, None, Some}
use Rattle.std.specs.List.{AllByRecursion, flat_map, concat, sum_by}
use Rattle.std.specs.Int.{w16, w64, from_le_bytes, to_le_bytes}
use Rattle.std.proofs.Common.{inl, inr, sym, ◌∙◌, ap, subst, refl, arith, length-append, length-take, append_assoc}
use Rattle.std.proofs.lemmas.Nat.{from_le_bytes-to_le_bytes_2, from_le_bytes-to_le_bytes_8}
use Rattle.std.proofs.lemmas.List.{take_at, drop_at, drop-drop, drop-take, length-replicate, take-take, get_or-take, drop-append-le}
use Rattle.std.proofs.lemmas.List.Sums.{sum_by-cons}
use Rattle.hg_base.specs.Content.{Object, row_object, directory, payload_length, object_size, page_end}
use Rattle.hg_base.specs.HeapPage.{link_word, link_bytes, object_kind, object_link, payload_bytes, object_bytes, IsHeapPage}
use Rattle.hg_reloc.specs.Found.{InRange}
use Rattle.hg_reloc.specs.Moves.{Moves, moved_word}
use Rattle.hg_reloc.specs.Blocks.{number, word, kind, size_for, end, IsBlock, HasObjects, word_count, moved_words, moved_block, moved_page, IsMoved}
use Rattle.hg_reloc.specs.Standing.{MovesLink, MovesLinks, MovesPage, MovesPages}
use Rattle.hg_reloc.proofs.Unique.{same_objects}

-- The head of an object.
length-links : (a : ℕ → ℕ) (links : List (Option ℕ)) → length (flat_map (link_bytes a) links) ≡ 8 * length links
length-links a [] = refl
length-links a (l ∷ links) = length-append (link_bytes a l) (flat_map (link_bytes a) links) ∙ omega (arith, length-links a links)

length-payload : (a : ℕ → ℕ) (o : Object) → length (payload_bytes a o) ≡ payload_length o
length-payload a (row_object payload link) = refl
length-payload a (directory links) = length-links a links

-- the bytes of an object behind its head
abbrev pub body : (ℕ → ℕ) → Object → List ℕ
body a o = payload_bytes a o ++ replicate (object_size o - 16 - payload_length o) 0

abbrev pub head_of : Object → List ℕ
head_of o = to_le_bytes w16 (payload_length o) ++ object_kind o ∷ replicate 5 0

pub object_parts : (a : ℕ → ℕ) (o : Object) → object_bytes a o ≡ head_of o ++ (link_bytes a (object_link o) ++ body a o)
object_parts a o =
    append_assoc (head_of o ++ link_bytes a (object_link o)) (payload_bytes a o) (replicate (object_size o - 16 - payload_length o) 0)
    ∙ append_assoc (head_of o) (link_bytes a (object_link o)) (body a o)

length-body : (a : ℕ → ℕ) (o : Object) → length (body a o) ≡ object_size o - 16
length-body a o =
    length-append (payload_bytes a o) (replicate (object_size o - 16 - payload_length o) 0)
    ∙ omega (arith, length-payload a o, length-replicate {A = ℕ} (object_size o - 16 - payload_length o) 0)

pub length-object : (a : ℕ → ℕ) (o : Object) → length (object_bytes a o) ≡ object_size o
length-object a o =
    ap length (object_parts a o) ∙ length-append (head_of o) (link_bytes a (object_link o) ++ body a o)
    ∙ omega (arith, length-append (link_bytes a (object_link o)) (body a o), length-body a o)

pub number-object : (a : ℕ → ℕ) (o : Object) → payload_length o < 2 ^ 16 → number (object_bytes a o) ≡ payload_length o
unfolding number
number-object a o h = from_le_bytes-to_le_bytes_2 (payload_length o) h

kind-object : (a : ℕ → ℕ) (o : Object) → kind (object_bytes a o) ≡ object_kind o
kind-object a o = refl

-- Links as bytes, moved.
moved-link : (m : Moves) (a b : ℕ → ℕ) (l : Option ℕ) → MovesLink m a b l → (link_word a l < 2 ^ 64) × (moved_word m (link_word a l) ≡ link_word b l)
moved-link m a b None h = (omega arith, refl)
moved-link m a b (Some n) h = h

pub word-link : (a : ℕ → ℕ) (l : Option ℕ) (rest : List ℕ) → link_word a l < 2 ^ 64 → word (link_bytes a l ++ rest) ≡ link_word a l
unfolding word
word-link a l rest h = from_le_bytes-to_le_bytes_8 (link_word a l) h

one_link : (m : Moves) (a b : ℕ → ℕ) (l : Option ℕ) (n : ℕ) (rest : List ℕ) → MovesLink m a b l
    → moved_words m (suc n) (link_bytes a l ++ rest) ≡ link_bytes b l ++ moved_words m n rest
one_link m a b l n rest h =
    let k = moved-link m a b l h in
    ap (λ w. to_le_bytes w64 (moved_word m w) ++ moved_words m n (drop 8 (link_bytes a l ++ rest))) (word-link a l rest k.0)
    ∙ ap (λ w. to_le_bytes w64 w ++ moved_words m n (drop 8 (link_bytes a l ++ rest))) k.1

moved_links : (m : Moves) (a b : ℕ → ℕ) (links : List (Option ℕ)) (rest : List ℕ) → AllByRecursion (MovesLink m a b) links
    → moved_words m (length links) (flat_map (link_bytes a) links ++ rest) ≡ flat_map (link_bytes b) links ++ rest
moved_links m a b [] rest h = refl
moved_links m a b (l ∷ links) rest h =
    ap (moved_words m (suc (length links))) (append_assoc (link_bytes a l) (flat_map (link_bytes a) links) rest)
    ∙ one_link m a b l (length links) (flat_map (link_bytes a) links ++ rest) h.0
    ∙ ap (λ q. link_bytes b l ++ q) (moved_links m a b links rest h.1)
    ∙ sym (append_assoc (link_bytes b l) (flat_map (link_bytes b) links) rest)

-- An object as bytes, moved.
behind_head : (m : Moves) (a b : ℕ → ℕ) (o : Object) (n : ℕ) → MovesLink m a b (object_link o) → moved_words m n (body a o) ≡ body b o
    → take 8 (object_bytes a o) ++ moved_words m (suc n) (drop 8 (object_bytes a o)) ≡ object_bytes b o
behind_head m a b o n l h =
    ap (λ q. take 8 q ++ moved_words m (suc n) (drop 8 q)) (object_parts a o)
    ∙ ap (λ q. head_of o ++ q) (one_link m a b (object_link o) n (body a o) l)
    ∙ ap (λ q. head_of o ++ (link_bytes b (object_link o) ++ q)) h
    ∙ sym (object_parts b o)

count-row : (a : ℕ → ℕ) (payload : List ℕ) (link : Option ℕ) → word_count (object_bytes a (row_object payload link)) ≡ suc 0
count-row a payload link = refl

count-directory : (a : ℕ → ℕ) (links : List (Option ℕ)) → 8 * length links < 2 ^ 16 → word_count (object_bytes a (directory links)) ≡ suc (length links)
count-directory a links h = ap (λ n. 1 + n / 8) (number-object a (directory links) h) ∙ omega arith

moved_object : (m : Moves) (a b : ℕ → ℕ) (o : Object) → payload_length o < 2 ^ 16 → MovesLinks m a b o → moved_block m (object_bytes a o) ≡ object_bytes b o
moved_object m a b (row_object payload link) s h =
    ap (λ n. take 8 (object_bytes a (row_object payload link)) ++ moved_words m n (drop 8 (object_bytes a (row_object payload link)))) (count-row a payload link)
    ∙ behind_head m a b (row_object payload link) 0 h.2 refl
moved_object m a b (directory links) s h =
    ap (λ n. take 8 (object_bytes a (directory links)) ++ moved_words m n (drop 8 (object_bytes a (directory links)))) (count-directory a links s)
    ∙ behind_head m a b (directory links) (length links) tt (moved_links m a b links (replicate (object_size (directory links) - 16 - payload_length (directory links)) 0) h)

in_range : (m : Moves) (a b : ℕ → ℕ) (os : List Object) → AllByRecursion (MovesLinks m a b) os → AllByRecursion InRange os
in_range m a b [] h = tt
in_range m a b (row_object payload link ∷ os) h = ((h.0.0, h.0.1), in_range m a b os h.1)
in_range m a b (directory links ∷ os) h = (tt, in_range m a b os h.1)

is_block_of : (a : ℕ → ℕ) (o : Object) → payload_length o < 2 ^ 16 → InRange o → IsBlock (object_bytes a o)
is_block_of a (row_object payload link) s h =
    let n : number (object_bytes a (row_object payload link)) ≡ length payload = number-object a (row_object payload link) s in
    record {
      size = length-object a (row_object payload link) ∙ ap size_for (sym n);
      right = inl (refl, omega (arith, h.0), omega (arith, h.1));
    }
is_block_of a (directory links) s h =
    let n : number (object_bytes a (directory links)) ≡ 8 * length links = number-object a (directory links) s in
    record {
      size = length-object a (directory links) ∙ ap size_for (sym n);
      right = inr (refl, omega arith);
    }

-- All objects of a page.
pub concat_map : (a : ℕ → ℕ) (os : List Object) → concat (map (object_bytes a) os) ≡ flat_map (object_bytes a) os
concat_map a [] = refl
concat_map a (o ∷ os) = ap (λ q. object_bytes a o ++ q) (concat_map a os)

pub length-objects : (a : ℕ → ℕ) (os : List Object) → length (flat_map (object_bytes a) os) ≡ sum_by object_size os
length-objects a [] = refl
length-objects a (o ∷ os) = length-append (object_bytes a o) (flat_map (object_bytes a) os) ∙ omega (arith, length-object a o, length-objects a os, sum_by-cons object_size o os)

all_blocks : (a : ℕ → ℕ) (os : List Object) → sum_by object_size os ≤ 4096 → AllByRecursion InRange os → AllByRecursion IsBlock (map (object_bytes a) os)
all_blocks a [] s h = tt
all_blocks a (o ∷ os) s h =
    let e = sum_by-cons object_size o os in
    (is_block_of a o (omega (arith, e)) h.0, all_blocks a os (omega (arith, e)) h.1)

all_moved : (m : Moves) (a b : ℕ → ℕ) (os : List Object) → sum_by object_size os ≤ 4096 → AllByRecursion (MovesLinks m a b) os
    → flat_map (moved_block m) (map (object_bytes a) os) ≡ flat_map (object_bytes b) os
all_moved m a b [] s h = refl
all_moved m a b (o ∷ os) s h =
    let e = sum_by-cons object_size o os in
    ap (λ q. q ++ flat_map (moved_block m) (map (object_bytes a) os)) (moved_object m a b o (omega (arith, e)) h.0)
    ∙ ap (λ q. object_bytes b o ++ q) (all_moved m a b os (omega (arith, e)) h.1)

end_is : (page : List ℕ) (n : ℕ) → take 2 (drop 2 page) ≡ to_le_bytes w16 n → n < 2 ^ 16 → end page ≡ n
unfolding number
end_is page n h s = ap (from_le_bytes w16) h ∙ from_le_bytes-to_le_bytes_2 n s

kind_is : (page : List ℕ) → take 2 page ≡ 72 ∷ 0 ∷ [] → slice_index page 0 ≡ 72
kind_is page h = sym (get_or-take 2 page 0 0 (omega arith)) ∙ ap (λ q. slice_index q 0) h

-- the bytes behind its objects are zero
free_tail : (a : ℕ → ℕ) (roots : List (Option ℕ)) (os : List Object) (frame : ℕ) (page : List ℕ) → IsHeapPage a roots os frame page → drop (end page) page ≡ replicate (4096 - page_end os) 0
free_tail a roots os frame page h =
    let e : end page ≡ page_end os = end_is page (page_end os) h.end (omega (arith, h.fits)) in
    let n : length (flat_map (object_bytes a) os) ≡ sum_by object_size os = length-objects a os in
    ap (λ q. drop q page) (let k : end page ≡ 64 + length (flat_map (object_bytes a) os) = omega arith in k)
    ∙ sym (drop-drop (length (flat_map (object_bytes a) os)) 64 page) ∙ ap (drop (length (flat_map (object_bytes a) os))) h.placed
    ∙ drop_at (flat_map (object_bytes a) os) (replicate (4096 - page_end os) 0) (length (flat_map (object_bytes a) os)) refl

-- a page of a heap has its objects
pub objects_of : (a : ℕ → ℕ) (roots : List (Option ℕ)) (os : List Object) (frame : ℕ) (page : List ℕ) → IsHeapPage a roots os frame page → AllByRecursion InRange os
    → HasObjects page (map (object_bytes a) os)
objects_of a roots os frame page h r =
    let e : end page ≡ page_end os = end_is page (page_end os) h.end (omega (arith, h.fits)) in
    let n : length (flat_map (object_bytes a) os) ≡ sum_by object_size os = length-objects a os in
    let tail : drop (end page) page ≡ replicate (4096 - page_end os) 0 = free_tail a roots os frame page h in
    record {
      whole = h.size;
      kind = kind_is page h.kind;
      each = all_blocks a os (omega (arith, h.fits)) r;
      ends = e ∙ omega (arith, n, ap length (concat_map a os));
      fits = omega (arith, h.fits);
      objects = h.placed ∙ ap (λ q. q ++ replicate (4096 - page_end os) 0) (sym (concat_map a os)) ∙ ap (λ q. concat (map (object_bytes a) os) ++ q) (sym tail);
    }

pub has_objects : (m : Moves) (a b : ℕ → ℕ) (roots : List (Option ℕ)) (os : List Object) (frame : ℕ) (page : List ℕ) → MovesPage m a b roots os frame page
    → HasObjects page (map (object_bytes a) os)
has_objects m a b roots os frame page p = objects_of a roots os frame page p.is (in_range m a b os p.objects_move)

-- The roots.
moved_roots : (m : Moves) (a b : ℕ → ℕ) (roots : List (Option ℕ)) → (length roots ≡ 4) ⊎ (roots ≡ []) → AllByRecursion (MovesLink m a b) roots
    → moved_words m 4 (flat_map (link_bytes a) roots ++ replicate (48 - 8 * length roots) 0) ≡ flat_map (link_bytes b) roots ++ replicate (48 - 8 * length roots) 0
moved_roots m a b roots four h = elim four [
  | inl e ↦ ap (λ n. moved_words m n (flat_map (link_bytes a) roots ++ replicate (48 - 8 * length roots) 0)) (sym e)
      ∙ moved_links m a b roots (replicate (48 - 8 * length roots) 0) h
  | inr e ↦ subst (λ rs. moved_words m 4 (flat_map (link_bytes a) rs ++ replicate (48 - 8 * length rs) 0) ≡ flat_map (link_bytes b) rs ++ replicate (48 - 8 * length rs) 0) (sym e)
      (moved_links m a b (None ∷ None ∷ None ∷ None ∷ []) (replicate 16 0) (tt, (tt, (tt, (tt, tt)))))
]

-- a part of the first 16 bytes
front_part : (xs ys : List ℕ) (n k : ℕ) → take 16 xs ≡ take 16 ys → k + n ≤ 16 → take n (drop k xs) ≡ take n (drop k ys)
front_part xs ys n k h l =
    sym (drop-take k n xs) ∙ ap (drop k) (sym (take-take (k + n) 16 xs l) ∙ ap (take (k + n)) h ∙ take-take (k + n) 16 ys l) ∙ drop-take k n ys

-- The page with its addresses moved is a page of the heap under the other addresses.
pub page_moves : (m : Moves) (a b : ℕ → ℕ) (roots : List (Option ℕ)) (os : List Object) (frame : ℕ) (page : List ℕ) → MovesPage m a b roots os frame page
    → IsHeapPage b roots os frame (moved_page m (map (object_bytes a) os) page)
page_moves m a b roots os frame page p =
    let h : IsHeapPage a roots os frame page = p.is in
    let has : HasObjects page (map (object_bytes a) os) = has_objects m a b roots os frame page p in
    let zeros : List ℕ = replicate (48 - 8 * length roots) 0 in
    let first : take 48 (drop 16 page) ≡ flat_map (link_bytes a) roots ++ zeros =
    ap (take 48) (sym (drop-drop 8 8 page)) ∙ sym (drop-take 8 48 (drop 8 page)) ∙ ap (drop 8) (h.first ∙ append_assoc (replicate 8 0) (flat_map (link_bytes a) roots) zeros) in
    let moved : moved_words m 4 (take 48 (drop 16 page)) ≡ flat_map (link_bytes b) roots ++ zeros = ap (moved_words m 4) first ∙ moved_roots m a b roots p.four p.roots_move in
    let r : List ℕ = moved_words m 4 (take 48 (drop 16 page)) in
    let f : List ℕ = flat_map (moved_block m) (map (object_bytes a) os) in
    let tail : List ℕ = drop (end page) page in
    let few : length (flat_map (link_bytes b) roots) ≡ 8 * length roots = length-links b roots in
    let four : 8 * length roots ≤ 48 = elim p.four [ inl e ↦ omega arith | inr e ↦ omega (arith, ap length e) ] in
    let long : length r ≡ 48 = ap length moved ∙ length-append (flat_map (link_bytes b) roots) zeros ∙ omega (arith, length-replicate {A = ℕ} (48 - 8 * length roots) 0) in
    let head : length (take 16 page ++ r) ≡ 64 = omega (arith, length-append (take 16 page) r, length-take 16 page, h.size) in
    let new : List ℕ = moved_page m (map (object_bytes a) os) page in
    let whole : new ≡ take 16 page ++ r ++ (f ++ tail) = append_assoc (take 16 page ++ r) f tail in
    let taken : take 64 new ≡ take 16 page ++ r = ap (take 64) whole ∙ take_at (take 16 page ++ r) (f ++ tail) 64 head in
    let dropped : drop 64 new ≡ f ++ tail = ap (drop 64) whole ∙ drop_at (take 16 page ++ r) (f ++ tail) 64 head in
    let sixteen : take 16 new ≡ take 16 page =
    sym (take-take 16 64 new (omega arith)) ∙ ap (take 16) taken ∙ take_at (take 16 page) r 16 (omega (arith, length-take 16 page, h.size)) in
    let objects : f ≡ flat_map (object_bytes b) os = all_moved m a b os (omega (arith, h.fits)) p.objects_move in
    let free : tail ≡ replicate (4096 - page_end os) 0 = free_tail a roots os frame page h in
    let eight : drop 8 (take 16 page) ≡ replicate 8 0 = drop-take 8 8 page ∙ sym (take-take 8 56 (drop 8 page) (omega arith)) ∙ ap (take 8) h.first in
    record {
      size = ap length whole ∙ length-append (take 16 page ++ r) (f ++ tail)
          ∙ omega (arith, length-append f tail, ap length objects, length-objects b os, ap length free, length-replicate {A = ℕ} (4096 - page_end os) 0, h.fits);
      kind = front_part new page 2 0 sixteen (omega arith) ∙ h.kind;
      end = front_part new page 2 2 sixteen (omega arith) ∙ h.end;
      stood_in = front_part new page 4 4 sixteen (omega arith) ∙ h.stood_in;
      first = sym (drop-take 8 56 new) ∙ ap (drop 8) taken ∙ drop-append-le 8 (take 16 page) r (omega (arith, length-take 16 page, h.size))
          ∙ ap (λ q. q ++ r) eight ∙ ap (λ q. replicate 8 0 ++ q) moved ∙ sym (append_assoc (replicate 8 0) (flat_map (link_bytes b) roots) zeros);
      fits = h.fits;
      placed = dropped ∙ ap (λ q. q ++ tail) objects ∙ ap (λ q. flat_map (object_bytes b) os ++ q) free;
    }

pub moves_pages : (m : Moves) (old new : List ℕ) → IsMoved m old new → MovesPages m old new
moves_pages m old new i a b roots os frame p =
    let has : HasObjects old (map (object_bytes a) os) = has_objects m a b roots os frame old p in
    let one : i.blocks ≡ map (object_bytes a) os = same_objects old i.blocks (map (object_bytes a) os) i.has has in
    subst (IsHeapPage b roots os frame) (sym (i.moved ∙ ap (λ q. moved_page m q old) one)) (page_moves m a b roots os frame old p)
