-- The heaps of a space: what is found there, and what each call changes, as the whole space after it.
-- Our own rule.
use Rattle.std.specs.List.{AllByRecursion}
use Rattle.std.specs.Prelude.{◌≡◌, ℕ, ◌+◌, ◌<◌, ◌≤◌, ◌==◌, ◌⊎◌, zero, suc, Bool, true, false, List, [], ◌∷◌, ◌++◌, length, drop, max, map, slice_get, slice_set, Result, Ok, Err, Option, None, Some, IsSome, IfSome, option_map, option_and_then, ⊤, if◌then◌else◌}
use Rattle.hg_base.specs.Content.{Object, row_object, directory, Objects, address_of, payloads_of, Standing, locked, unlocked, draining, Heap}
use Rattle.hg_base.specs.HeapContent.{object_at, link_of, payload_of, row_link, links_of, words_of, with_payload, with_link, changed_at, with_object, room_left, next_address, no_links, no_objects}
use Rattle.hg_base.specs.HeapFacts.{AreWellPlaced, IsPayload}
use Rattle.hg_base.specs.HeapPage.{link_word, IsHeapPage}
use Rattle.hg_base.specs.Lines.{AreApart, has_page}
use Rattle.hg_base.specs.Space.{Space, Counts, at, key, key_in, with_counts, IsUnused}
use Rattle.hg_base.specs.declared.Check.{Check}
use Rattle.hg_base.specs.declared.Check.TheVariants.{Kind, Size, Frame, Link, Level, Order, RowBytes}
use Rattle.hg_base.specs.declared.File.TheVariants.{Temp}
use Rattle.hg_base.specs.declared.pages.PageFault.{PageFault}
use Rattle.hg_base.specs.declared.pages.PageFault.TheVariants as fault

-- Counting over the heaps, whose numbers are below 512.

-- the sum of f over the numbers below n
unfoldable pub sum_below : (ℕ → ℕ) → ℕ → ℕ
sum_below f zero = 0
sum_below f (suc n) = f n + sum_below f n

abbrev pub one_heap : Option Heap → ℕ
one_heap None = 0
one_heap (Some x) = 1

abbrev pub pages_for : ℕ → Option Heap → ℕ
pages_for request None = 0
pages_for request (Some x) = if x.request == request then length x.pages else 0

abbrev pub frames_of : Standing → ℕ
frames_of (locked objects frames) = length frames
frames_of (unlocked objects) = 0
frames_of (draining payloads) = 0

abbrev pub frames_for : Option Heap → ℕ
frames_for None = 0
frames_for (Some x) = frames_of x.standing

-- how many heaps there are; how many pages a request's heaps have; how many frames locked heaps have
abbrev pub heap_count : Space → ℕ
heap_count s = sum_below (λ h. one_heap (s.heaps.heap h)) 512

abbrev pub pages_held : Space → ℕ → ℕ
pages_held s request = sum_below (λ h. pages_for request (s.heaps.heap h)) 512

abbrev pub frames_locked : Space → ℕ
frames_locked s = sum_below (λ h. frames_for (s.heaps.heap h)) 512

-- What is found in a heap that is locked.

abbrev pub standing_of : Space → ℕ → Option Standing
standing_of s h = option_map (λ (x : Heap). x.standing) (s.heaps.heap h)

-- f of the objects and the frames of a heap that is locked
abbrev pub of_locked : {X : Type 0} → (Objects → List ℕ → Option X) → Option Standing → Option X
of_locked f None = None
of_locked f (Some (locked objects frames)) = f objects frames
of_locked f (Some (unlocked objects)) = None
of_locked f (Some (draining payloads)) = None

abbrev pub IsLocked : Space → ℕ → Type 0
IsLocked s h = IsSome (of_locked (λ o frames. Some o) (standing_of s h))

-- the object at an address
abbrev pub object_in : Space → ℕ → ℕ → Option Object
object_in s h a = of_locked (λ o frames. object_at o frames a) (standing_of s h)

-- the payload of the row there
abbrev pub payload_in : Space → ℕ → ℕ → Option (List ℕ)
payload_in s h a = option_and_then payload_of (object_in s h a)

-- the address, as a word, that the row there leads to
abbrev pub link_in : Space → ℕ → ℕ → Option ℕ
link_in s h a = of_locked (λ o frames. option_map (link_word (address_of o frames)) (option_and_then row_link (object_at o frames a))) (standing_of s h)

-- the addresses of the directory there, as words
abbrev pub words_in : Space → ℕ → ℕ → Option (List ℕ)
words_in s h a = of_locked (λ o frames. option_map (words_of o frames) (option_and_then links_of (object_at o frames a))) (standing_of s h)

-- the four roots, as words
abbrev pub roots_in : Space → ℕ → Option (List ℕ)
roots_in s h = of_locked (λ o frames. Some (words_of o frames o.roots)) (standing_of s h)

-- the bytes that are free on the last page
abbrev pub room_in : Space → ℕ → Option ℕ
room_in s h = of_locked (λ o frames. Some (room_left o.layout)) (standing_of s h)

-- where the next object is placed
abbrev pub next_in : Space → ℕ → Option ℕ
next_in s h = of_locked (λ o frames. Some (next_address o.layout frames)) (standing_of s h)

-- each object of the heap is there as before, under its address
abbrev pub KeepsObjects : Space → Space → ℕ → Type 0
KeepsObjects a b h = (at : ℕ) (x : Object) → object_in a h at ≡ Some x → object_in b h at ≡ Some x

-- a word that may be a link: 0, or the address of an object
abbrev pub IsTarget : Space → ℕ → ℕ → Type 0
IsTarget s h word = (word ≡ 0) ⊎ IsSome (object_in s h word)

-- the k-th of some words
abbrev pub IsWordAt : Option (List ℕ) → ℕ → ℕ → Type 0
IsWordAt words k word = IfSome words (λ ws. slice_get ws k ≡ Some word)

abbrev pub HasWord : Option (List ℕ) → ℕ → Type 0
HasWord None k = ⊥
HasWord (Some words) k = k < length words

-- Changes of a heap that is locked: it has other objects, in the same frames.

abbrev pub standing_with : (Objects → List ℕ → Objects) → Standing → Standing
standing_with f (locked objects frames) = locked (f objects frames) frames
standing_with f (unlocked objects) = unlocked objects
standing_with f (draining payloads) = draining payloads

-- the space with another standing of one heap
abbrev pub with_standing : Space → ℕ → (Standing → Standing) → Space
with_standing s h f =
    record s { heaps = record s.heaps { heap = at s.heaps.heap h (option_map (λ (x : Heap). record x { standing = f x.standing }) (s.heaps.heap h)) } }

abbrev pub with_objects : Space → ℕ → (Objects → List ℕ → Objects) → Space
with_objects s h f = with_standing s h (standing_with f)

-- a row more, which leads to what a word names
abbrev pub after_row : Space → ℕ → List ℕ → ℕ → Space
after_row s h payload word = with_objects s h (λ o frames. with_object o (row_object payload (link_of o frames word)))

-- a directory more, of so many links to nothing
abbrev pub after_directory : Space → ℕ → ℕ → Space
after_directory s h n = with_objects s h (λ o frames. with_object o (directory (no_links n)))

-- another link at one place of a directory, another root
abbrev pub after_word : Space → ℕ → ℕ → ℕ → ℕ → Space
after_word s h a k word = with_objects s h (λ o frames. changed_at (with_link k (link_of o frames word)) frames a o)

abbrev pub after_root : Space → ℕ → ℕ → ℕ → Space
after_root s h k word = with_objects s h (λ o frames. record o { roots = slice_set o.roots k (link_of o frames word) })

-- another payload of the row at an address, as long as the one before
abbrev pub after_bytes : Space → ℕ → ℕ → List ℕ → Space
after_bytes s h a bytes = with_objects s h (λ o frames. changed_at (with_payload bytes) frames a o)

-- Changes of where a heap is.

-- what is told of a heap's objects once it is unlocked: where the space does not tell, nothing
abbrev pub told_objects : Bool → Objects → Option Objects
told_objects true o = Some o
told_objects false o = None

abbrev pub unlocked_from : Bool → Standing → Standing
unlocked_from told (locked objects frames) = unlocked (told_objects told objects)
unlocked_from told (unlocked objects) = unlocked objects
unlocked_from told (draining payloads) = draining payloads

abbrev pub after_unlock : Space → ℕ → Space
after_unlock s h = with_standing s h (unlocked_from s.told)

-- so many different frames, all of them in use
pub record AreFrames (s : Space) (frames : List ℕ) (count : ℕ) : Type 0 where
  pub many : length frames ≡ count
  pub apart : AreApart frames
  pub below : AllByRecursion (λ f. f < s.heaps.current) frames

-- b is a after an unlocked heap was locked: with the objects that it had, as far as they were told,
-- under the addresses of the frames in which its pages stand now
pub record Locks (a b : Space) (h : ℕ) : Type 0 where
  pub heap : Heap
  pub is : a.heaps.heap h ≡ Some heap
  pub objects : Objects
  pub frames : List ℕ
  pub had : heap.standing ≡ unlocked (told_objects a.told objects)
  pub well : AreWellPlaced objects
  pub of_pages : length objects.layout ≡ length heap.pages
  pub in_frames : AreFrames a frames (length heap.pages)
  pub counts : Counts
  pub after : b ≡ with_counts (with_standing a h (λ _. locked objects frames)) counts

-- a page of the temporary file becomes one of a heap, or is one no more
abbrev pub with_heap_page : Space → ℕ → Space
with_heap_page s p = record s { taken = at s.taken p true; of_heap = at s.of_heap p true }

abbrev pub without_heap_page : Space → ℕ → Space
without_heap_page s p = record s { taken = at s.taken p false; of_heap = at s.of_heap p false; next = at s.next p None }

abbrev pub without_heap_pages : Space → List ℕ → Space
without_heap_pages s [] = s
without_heap_pages s (p ∷ pages) = without_heap_pages (without_heap_page s p) pages

-- the space with a heap, or with none, of this number
abbrev pub with_heap : Space → ℕ → Option Heap → Space
with_heap s h x = record s { heaps = record s.heaps { heap = at s.heaps.heap h x } }

-- the space with other successors of the pages of a heap, which nobody reads
abbrev pub with_links : Space → (ℕ → Option ℕ) → Space
with_links s next = record s { next = next }

-- a request's peak is at least so high
abbrev pub with_peak : Space → ℕ → ℕ → Space
with_peak s request pages = record s { heaps = record s.heaps { peak = at s.heaps.peak request (max (s.heaps.peak request) pages) } }

-- A page that becomes one of a heap: of the temporary file, nothing was said of it before.
pub record IsNewPage (s : Space) (p : ℕ) : Type 0 where
  pub number : ℕ
  pub in_temp : p ≡ key_in Temp number
  pub below_limit : number < s.limit Temp
  pub unused : IsUnused s p

-- A frame for one more page of a heap: in use, and in no other frame of this heap.
pub record IsNewFrame (s : Space) (frames : List ℕ) (frame : ℕ) : Type 0 where
  pub in_use : frame < s.heaps.current
  pub other : has_page frames frame ≡ false

-- b is a after a heap of one page and no object was made, locked
pub record MakesHeap (a b : Space) (h request : ℕ) : Type 0 where
  pub few : h < 512
  pub was_none : a.heaps.heap h ≡ None
  pub page : ℕ
  pub new_page : IsNewPage a page
  pub frame : ℕ
  pub new_frame : IsNewFrame a [] frame
  pub counts : Counts
  pub after : b ≡ with_counts
      (with_peak
      (with_heap (with_heap_page a page) h (Some (record { standing = locked no_objects (frame ∷ []); request = request; pages = page ∷ [] })))
      request (pages_held a request + 1))
      counts

-- b is a after a heap that is locked got one page more, behind the others, with no object
pub record AddsHeapPage (a b : Space) (h : ℕ) : Type 0 where
  pub heap : Heap
  pub is : a.heaps.heap h ≡ Some heap
  pub objects : Objects
  pub frames : List ℕ
  pub was_locked : heap.standing ≡ locked objects frames
  pub page : ℕ
  pub new_page : IsNewPage a page
  pub frame : ℕ
  pub new_frame : IsNewFrame a frames frame
  -- successors of the heap's own pages may change
  pub links : ℕ → Option ℕ
  pub others : (q : ℕ) → has_page heap.pages q ≡ false → links q ≡ a.next q
  pub counts : Counts
  pub after : b ≡ with_counts
      (with_peak
      (with_heap (with_links (with_heap_page a page) links) h
      (Some (record {
        standing = locked (record objects { layout = objects.layout ++ [] ∷ [] }) (frames ++ frame ∷ []);
        request = heap.request;
        pages = heap.pages ++ page ∷ [];
      })))
      heap.request (pages_held a heap.request + 1))
      counts

-- the payloads of each page that are left, where they are told
abbrev pub payloads_left : Standing → Option (List (List (List ℕ)))
payloads_left (locked objects frames) = None
payloads_left (unlocked None) = None
payloads_left (unlocked (Some objects)) = Some (map payloads_of objects.layout)
payloads_left (draining payloads) = payloads

-- 4,096 bytes are a heap's page: its rows have 1 to 3,920 bytes each, and these payloads, where they are told
pub record HoldsPayloads (payloads : Option (List (List ℕ))) (page : List ℕ) : Type 0 where
  pub address : ℕ → ℕ
  pub roots : List (Option ℕ)
  pub objects : List Object
  pub frame : ℕ
  pub is : IsHeapPage address roots objects frame page
  pub four : (length roots ≡ 4) ⊎ (roots ≡ [])
  pub each : AllByRecursion IsPayload (payloads_of objects)
  pub told : IfSome payloads (λ ps. payloads_of objects ≡ ps)

abbrev pub first_payloads : Option (List (List (List ℕ))) → Option (List (List ℕ))
first_payloads None = None
first_payloads (Some []) = Some []
first_payloads (Some (page ∷ pages)) = Some page

abbrev pub is_at_rest : Standing → Bool
is_at_rest (locked objects frames) = false
is_at_rest (unlocked objects) = true
is_at_rest (draining payloads) = true

-- a heap that is not locked and has a page
abbrev pub CanDrain : Option Heap → Type 0
CanDrain None = ⊥
CanDrain (Some x) = (is_at_rest x.standing ≡ true) × (0 < length x.pages)

-- b is a after the first page of a heap was read into `out` and given back
pub record Drains (a b : Space) (h : ℕ) (out : List ℕ) : Type 0 where
  pub heap : Heap
  pub is : a.heaps.heap h ≡ Some heap
  pub first : ℕ
  pub others : List ℕ
  pub pages : heap.pages ≡ first ∷ others
  pub holds : HoldsPayloads (first_payloads (payloads_left heap.standing)) out
  pub counts : Counts
  pub after : b ≡ with_counts
      (with_heap (without_heap_page a first) h
      (Some (record { standing = draining (option_map (drop 1) (payloads_left heap.standing)); request = heap.request; pages = others })))
      counts

-- the pages of a heap, and the request that it works for
abbrev pub pages_in : Option Heap → List ℕ
pages_in None = []
pages_in (Some x) = x.pages

abbrev pub request_in : Option Heap → ℕ
request_in None = 0
request_in (Some x) = x.request

-- after a heap went, with all its pages
abbrev pub after_drop : Space → ℕ → Space
after_drop s h = with_heap (without_heap_pages s (pages_in (s.heaps.heap h))) h None

-- One page more may be had for a request: frames and the request's cap have room, and few pins are out.
pub record MayGrow (s : Space) (request : ℕ) : Type 0 where
  pub few_pins : s.pins < 8
  pub frames : frames_locked s + 8 < s.heaps.current
  pub cap : pages_held s request < s.heaps.cap request

-- An unlocked heap whose pages find frames beside those of the heaps that are locked.
pub record CanLock (s : Space) (h : ℕ) : Type 0 where
  pub heap : Heap
  pub is : s.heaps.heap h ≡ Some heap
  pub objects : Option Objects
  pub was_unlocked : heap.standing ≡ unlocked objects
  pub frames : length heap.pages + frames_locked s + 8 ≤ s.heaps.current

-- what may be found wrong with a heap's page
abbrev pub IsHeapCheck : Check → Type 0
IsHeapCheck Kind = ⊤
IsHeapCheck Size = ⊤
IsHeapCheck Frame = ⊤
IsHeapCheck Link = ⊤
IsHeapCheck Level = ⊥
IsHeapCheck Order = ⊥
IsHeapCheck RowBytes = ⊥

-- Reading a heap's pages fails by a device, or finds damage, and never by a full file.
abbrev pub ReadFault : PageFault → Type 0
ReadFault fault.MainFault = ⊤
ReadFault fault.TempFault = ⊤
ReadFault fault.MainFull = ⊥
ReadFault fault.TempFull = ⊥
ReadFault (fault.Damaged page check) = IsHeapCheck check

-- damage that is found is said of one of these pages
abbrev pub NamesHeapPage : List ℕ → PageFault → Type 0
NamesHeapPage pages fault.MainFault = ⊤
NamesHeapPage pages fault.TempFault = ⊤
NamesHeapPage pages fault.MainFull = ⊤
NamesHeapPage pages fault.TempFull = ⊤
NamesHeapPage pages (fault.Damaged page check) = has_page pages (key page) ≡ true

-- the fault that a call tells which hands a grant back with it
abbrev pub refused_fault : {T G : Type 0} → Result T (PageFault × G) → Option PageFault
refused_fault (Ok x) = None
refused_fault (Err e) = Some e.0
